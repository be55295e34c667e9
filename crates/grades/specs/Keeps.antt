-- The grades family keeps the laws.
use Rattle.std.specs.Prelude.{◌≡◌, ℕ, ◌<◌, Bool, true, false, cond, List, [], ◌∷◌, pos, Some, None, Option, slice_index, refl}
use Rattle.std.proofs.Common.{sym, ap, ◌∙◌, arith}
use Rattle.std.specs.Int.Count.{count_trailing_zeros}
use Rattle.std.proofs.lemmas.Int.{ints}
use Rattle.std.proofs.lemmas.Bool.Decides.{nat_tests}
use Rattle.words.specs.declared.kind.Kind.TheVariants.{Mask, Grade as GradeKind}
use Rattle.words.specs.Words.{is_a, payload, word_of}
use Rattle.words.proofs.RoundTrip.{is_back, payload_back}
use Rattle.family.specs.Laws.{Laws, Alike}
use Rattle.grades.specs.declared.grades.Grades.{Grades}
use Rattle.grades.specs.Bit.{bit, lowest_below}
use Rattle.grades.specs.GradeMasks.{grades_meaning, grades_picked, mask_of, lowest}
use Rattle.grades.specs.Bitwise.{lowest_set, lowest_least, bit_of_and, bit_full, bit_some}

one_wrong : (a : Bool) (i : ℕ) → ◌≡◌ {A = Option ℕ} (cond a None (Some 0)) (Some i) → i < 1
one_wrong true i h = grind arith
one_wrong false i h = grind arith

mask_below : (ws : List ℕ) → mask_of ws < 268435456
mask_below ws = omega arith

-- the grade that a grade's word holds
grade_payload : (g : ℕ) → g < 28 → payload (word_of GradeKind (pos g)) ≡ g
grade_payload g h = payload_back GradeKind (pos g) (omega (arith, ints)) (omega (arith, ints)) ∙ omega (arith, ints)

grade_lawful : (g : ℕ) → g < 28 → is_a GradeKind (word_of GradeKind (pos g)) ≡ true
grade_lawful g h = is_back GradeKind (pos g) (omega (arith, ints)) (omega (arith, ints))

picked_set : (s : Grades) → bit (lowest s) s.mask ≡ 1
picked_set s = lowest_set 32 s.mask s.some (let b = s.small in omega arith)

same_lowest : (s t : Grades) → Alike grades_meaning s t → lowest s ≡ lowest t
same_lowest s t h =
    let a = lowest_least 32 t.mask (lowest s) ((h.allow (grades_picked s)).0 (picked_set s)) in
    let b = lowest_least 32 s.mask (lowest t) ((h.allow (grades_picked t)).1 (picked_set t)) in
    omega arith

pub grades_laws : Laws grades_meaning
grades_laws = record {
  row_narrow = omega arith;
  pick_narrow = omega arith;
  value_narrow = omega arith;
  picks = picked_set;
  restart_all = λ s c h. ap (bit c.at) h.0 ∙ bit_full 28 c.at c.below;
  restart_last = λ s h. h.1;
  take_keeps = λ s t r c f k a b. ap (bit c.at) k.0 ∙ bit_of_and c.at s.mask (mask_of r.row) ∙ omega arith;
  take_from = λ s t r c f k a. let e = sym (bit_of_and c.at s.mask (mask_of r.row)) ∙ ap (bit c.at) (sym k.0) ∙ a in omega arith;
  take_serves = λ s t r c f k a. let e = sym (bit_of_and c.at s.mask (mask_of r.row)) ∙ ap (bit c.at) (sym k.0) ∙ a in omega arith;
  take_last = λ s t r k. k.1;
  wrong_inside = λ r i w e. one_wrong (is_a Mask (slice_index r.row 0)) i e;
  some_serves = λ r f u.
      let p : 0 < mask_of r.row = grind (arith, nat_tests) in
      let b = mask_below r.row in
      (record { at = count_trailing_zeros 32 (mask_of r.row); below = lowest_below 28 32 (mask_of r.row) p b (omega arith) }, lowest_set 32 (mask_of r.row) p (omega arith));
  none_serves = λ r c f u s. let p = bit_some c.at (mask_of r.row) s in grind (arith, nat_tests);
  words_length = λ s h. refl;
  value_length = λ ws f l t p v n w a b. refl;
  words_alike = λ s t rs qs x y h. ap (λ (g : ℕ). word_of GradeKind (pos g) ∷ []) (same_lowest s t h);
  words_lawful = λ s r rs l p x e. grade_lawful (lowest s) (grades_picked s).below;
  reads_back = λ s r p v f w. ap (λ (g : ℕ). bit g (mask_of r.row)) (grade_payload (lowest s) (grades_picked s).below) ∙ w;
}
