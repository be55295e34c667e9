-- The level family keeps the laws.
use Rattle.std.specs.Prelude.{◌≡◌, [], ◌∷◌, ℤ, pos, ◌+ℤ◌, ◌≤ℤ◌, refl}
use Rattle.std.proofs.Common.{ap, arith}
use Rattle.std.specs.Int.{int_div_euclid}
use Rattle.std.proofs.lemmas.Int.{ints, clamps}
use Rattle.words.specs.declared.kind.Kind.TheVariants.{Level as LevelKind}
use Rattle.words.specs.Words.{word_of}
use Rattle.words.proofs.RoundTrip.{number_back, is_back}
use Rattle.family.specs.Laws.{Laws, Alike}
use Rattle.family.specs.Bands.{low_of}
use Rattle.family.proofs.Forms.{formed}
use Rattle.family.proofs.BandRange.{band_wrong_inside, low_range}
use Rattle.level.specs.declared.level.Level.{Level}
use Rattle.level.specs.Levels.{level_meaning, level_picked, Choice, middle, middle_low, middle_high}

-- the ends of what a state allows, as choices
lowest : Level → Choice
lowest s = record { at = s.allowed.low; low = s.bottom; high = (let o = s.order in let t = s.top in omega (arith, ints)) }

highest : Level → Choice
highest s = record { at = s.allowed.high; low = (let o = s.order in let b = s.bottom in omega (arith, ints)); high = s.top }

reached : (a b c d : ℤ) → a ≤ℤ b → b ≤ℤ a → c ≤ℤ d → d ≤ℤ c → a +ℤ c ≡ b +ℤ d
reached a b c d h i j k = omega (arith, ints)

at_low : (s : Level) → level_meaning.allows s (lowest s)
unfolding lowest
at_low s = (omega (arith, ints), s.order)

at_high : (s : Level) → level_meaning.allows s (highest s)
unfolding highest
at_high s = (s.order, omega (arith, ints))

same_middle : (s t : Level) → Alike level_meaning s t → middle s ≡ middle t
unfolding lowest highest
same_middle s t h =
    let a = (h.allow (lowest s)).0 (at_low s) in
    let b = (h.allow (lowest t)).1 (at_low t) in
    let c = (h.allow (highest s)).0 (at_high s) in
    let d = (h.allow (highest t)).1 (at_high t) in
    ap (λ (z : ℤ). int_div_euclid z (pos 2)) (reached s.allowed.low t.allowed.low s.allowed.high t.allowed.high b.0 a.0 c.1 d.1)

pub level_laws : Laws level_meaning
level_laws = record {
  row_narrow = omega arith;
  pick_narrow = omega arith;
  value_narrow = omega arith;
  picks = λ s. (middle_low s, middle_high s);
  restart_all = λ s c h. (let l = c.low in let e = h.0 in omega (arith, ints), let l = c.high in let e = h.1 in omega (arith, ints));
  restart_last = λ s h. h.2;
  take_keeps = λ s t r c f k a b. (let e = k.0 in let x = a.0 in let y = b.0 in omega (arith, ints, clamps), let e = k.1 in let x = a.1 in let y = b.1 in omega (arith, ints, clamps));
  take_from = λ s t r c f k a. (let e = k.0 in let x = a.0 in omega (arith, ints, clamps), let e = k.1 in let x = a.1 in omega (arith, ints, clamps));
  take_serves = λ s t r c f k a. (let e = k.0 in let x = a.0 in omega (arith, ints, clamps), let e = k.1 in let x = a.1 in omega (arith, ints, clamps));
  take_last = λ s t r k. k.2;
  wrong_inside = λ r i w e. band_wrong_inside r.row i e;
  some_serves = λ r f u.
      let b = low_range r.row (formed level_meaning r f).2 in
      (record { at = low_of r.row; low = b.0; high = b.1 }, (omega (arith, ints), grind (arith, ints)));
  none_serves = λ r c f u s. let x = s.0 in let y = s.1 in grind (arith, ints);
  words_length = λ s h. refl;
  value_length = λ ws f l t p v n w a b. refl;
  words_alike = λ s t rs qs x y h. ap (λ (z : ℤ). word_of LevelKind z ∷ []) (same_middle s t h);
  words_lawful = λ s r rs l p x e. let c = level_picked s in is_back LevelKind c.at c.low c.high;
  reads_back = λ s r p v f w.
      let c = level_picked s in
      let e = number_back LevelKind c.at c.low c.high in
      let x = w.0 in let y = w.1 in
      (omega (arith, ints), omega (arith, ints));
}
