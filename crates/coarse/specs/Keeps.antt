-- The coarse family keeps the laws.
use Rattle.std.specs.Prelude.{◌≡◌, [], ◌∷◌, ℤ, pos, neg_ℤ, ◌≤ℤ◌, refl}
use Rattle.std.proofs.Common.{ap, ◌∙◌, arith}
use Rattle.std.proofs.lemmas.Int.{ints, clamps}
use Rattle.words.specs.declared.kind.Kind.TheVariants.{Level as LevelKind}
use Rattle.words.specs.Words.{word_of}
use Rattle.words.proofs.RoundTrip.{number_back, is_back}
use Rattle.family.specs.Laws.{Laws, Alike}
use Rattle.family.specs.Bands.{low_of, high_of}
use Rattle.family.proofs.Forms.{formed}
use Rattle.family.proofs.BandRange.{band_wrong_inside, low_range}
use Rattle.coarse.specs.declared.coarse.Coarse.{Coarse}
use Rattle.coarse.specs.Grid.{coarse_meaning, coarse_picked, Choice, number_of, first_step, on_grid}
use Rattle.coarse.specs.Steps.{first_over, first_under, last_over, last_under, number_on_grid}

-- the number of a choice is in a LEVEL word's range
number_low : (c : Choice) → neg_ℤ (pos 1000000) ≤ℤ number_of c.step
number_low c = let b = c.low in omega (arith, ints)

number_high : (c : Choice) → number_of c.step ≤ℤ pos 1000000
number_high c = let t = c.high in omega (arith, ints)

reached : (a b : ℤ) → a ≤ℤ b → b ≤ℤ a → a ≡ b
reached a b h i = omega (arith, ints)

at_low : (s : Coarse) → coarse_meaning.allows s (coarse_picked s)
at_low s = (omega (arith, ints), s.order)

same_low : (s t : Coarse) → Alike coarse_meaning s t → s.allowed.low ≡ t.allowed.low
same_low s t h =
    let a = (h.allow (coarse_picked s)).0 (at_low s) in
    let b = (h.allow (coarse_picked t)).1 (at_low t) in
    reached s.allowed.low t.allowed.low b.0 a.0

pub coarse_laws : Laws coarse_meaning
coarse_laws = record {
  row_narrow = omega arith;
  pick_narrow = omega arith;
  value_narrow = omega arith;
  picks = at_low;
  restart_all = λ s c h. (let l = c.low in let e = h.0 in omega (arith, ints), let l = c.high in let e = h.1 in omega (arith, ints));
  restart_last = λ s h. h.2;
  take_keeps = λ s t r c f k a b. (
    let e = k.0 in let x = a.0 in let y = b.0 in let z = first_under (low_of r.row) in omega (arith, ints, clamps),
    let e = k.1 in let x = a.1 in let y = b.1 in let z = last_over (high_of r.row) in omega (arith, ints, clamps),
  );
  take_from = λ s t r c f k a. (let e = k.0 in let x = a.0 in omega (arith, ints, clamps), let e = k.1 in let x = a.1 in omega (arith, ints, clamps));
  take_serves = λ s t r c f k a. (
    let e = k.0 in let x = a.0 in let z = first_over (low_of r.row) in omega (arith, ints, clamps),
    let e = k.1 in let x = a.1 in let z = last_under (high_of r.row) in omega (arith, ints, clamps),
  );
  take_last = λ s t r k. k.2;
  wrong_inside = λ r i w e. band_wrong_inside r.row i e;
  some_serves = λ r f u.
      let b = low_range r.row (formed coarse_meaning r f).2 in
      let b0 = b.0 in let b1 = b.1 in
      let x = first_over (low_of r.row) in
      let y = first_under (low_of r.row) in
      let z = last_under (high_of r.row) in
      (record { step = first_step (low_of r.row); low = omega (arith, ints); high = omega (arith, ints) }, (x, grind (arith, ints)));
  none_serves = λ r c f u s.
      let x = s.0 in let y = s.1 in
      let v = first_under (low_of r.row) in
      let w = last_over (high_of r.row) in
      grind (arith, ints);
  words_length = λ s h. refl;
  value_length = λ ws f l t p v n w a b. refl;
  words_alike = λ s t rs qs x y h. ap (λ (z : ℤ). word_of LevelKind (number_of z) ∷ []) (same_low s t h);
  words_lawful = λ s r rs l p x e.
      let c = coarse_picked s in
      let i = is_back LevelKind (number_of c.step) (number_low c) (number_high c) in
      let n = ap on_grid (number_back LevelKind (number_of c.step) (number_low c) (number_high c)) ∙ number_on_grid c.step in
      rw (i, n) refl;
  reads_back = λ s r p v f w.
      let c = coarse_picked s in
      let e = number_back LevelKind (number_of c.step) (number_low c) (number_high c) in
      let x = w.0 in let y = w.1 in
      (omega (arith, ints), omega (arith, ints));
}
