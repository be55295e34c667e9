-- The four words of a pick: written, and read again.
use Rattle.std.specs.Prelude.{◌≡◌, ℕ, ◌<◌, ◌≤◌, Bool, true, ◌&&◌, List, [], ◌∷◌, length, pos, neg_ℤ, IfSome, Some, Option, slice_index, slice_set, refl}
use Rattle.std.proofs.Common.{ap, subst, ◌∙◌, arith, to_z}
use Rattle.std.specs.Int.{w32}
use Rattle.std.proofs.lemmas.Int.{ints}
use Rattle.std.proofs.lemmas.Bool.{and_parts, and_from}
use Rattle.words.specs.declared.kind.Kind.TheVariants.{Level, Pivot, Height, Rise, Over}
use Rattle.words.specs.Kinds.{in_range}
use Rattle.words.specs.Words.{is_a, word_of, payload}
use Rattle.words.proofs.RoundTrip.{range_low, range_high, range_test, is_back, number_back}
use Rattle.family.proofs.BandRange.{number_range}
use Rattle.line.specs.declared.pick.Pick.{Pick}
use Rattle.line.specs.Picks.{numbers_hold, kinds_hold, pick_words, pick_in, pick_lawful, words_lawful, in_reach, height_at, lowest_terms, pivot_placed}
use Rattle.line.specs.Words.{Read}
use Rattle.line.specs.Ranges.{pick_same}
use Rattle.line.specs.ValuesLemmas.{between_values}

set_four : (xs : List ℕ) (a b c d : ℕ) → length xs ≡ 4 → slice_set (slice_set (slice_set (slice_set xs 0 a) 1 b) 2 c) 3 d ≡ a ∷ b ∷ c ∷ d ∷ []
set_four [] a b c d h = absurd (omega arith)
set_four (w ∷ []) a b c d h = absurd (omega arith)
set_four (w ∷ x ∷ []) a b c d h = absurd (omega arith)
set_four (w ∷ x ∷ y ∷ []) a b c d h = absurd (omega arith)
set_four (w ∷ x ∷ y ∷ z ∷ []) a b c d h = refl
set_four (w ∷ x ∷ y ∷ z ∷ (v ∷ vs)) a b c d h = absurd (omega arith)

-- the parts of a test of four
all_four : (a b c d : Bool) → (a && (b && (c && d))) ≡ true → (a ≡ true) × (b ≡ true) × (c ≡ true) × (d ≡ true)
all_four a b c d h =
    let x = and_parts a (b && (c && d)) h in
    let y = and_parts b (c && d) x.1 in
    let z = and_parts c d y.1 in
    (x.0, y.0, z.0, z.1)

-- what it is that each number is one its word holds
module _ (p : Pick) (h : numbers_hold p ≡ true) where
  in_parts : (in_range Pivot (pos p.pivot) ≡ true) × (in_range Height p.height ≡ true) × (in_range Rise p.rise ≡ true) × (in_range Over (pos p.over) ≡ true)
  in_parts = all_four (in_range Pivot (pos p.pivot)) (in_range Height p.height) (in_range Rise p.rise) (in_range Over (pos p.over)) h

  pivot_small : p.pivot ≤ 268435455
  pivot_small = let k = range_high Pivot (pos p.pivot) in_parts.0 in omega (arith, ints, k)

  over_small : p.over ≤ 255
  over_small = let k = range_high Over (pos p.over) in_parts.3 in omega (arith, ints, k)

  pub over_some : 0 < p.over
  over_some = let k = range_low Over (pos p.over) in_parts.3 in omega (arith, ints, k)

  pub words_written : (xs : List ℕ) (a b c d : ℕ) → length xs ≡ 4 → a ≡ word_of Pivot (to_z w32 p.pivot) → b ≡ word_of Height p.height → c ≡ word_of Rise p.rise → d ≡ word_of Over (to_z w32 p.over)
      → slice_set (slice_set (slice_set (slice_set xs 0 a) 1 b) 2 c) 3 d ≡ pick_words p
  words_written xs a b c d l ea eb ec ed =
      let u = pivot_small in
      let v = over_small in
      let ep : to_z w32 p.pivot ≡ pos p.pivot = omega (arith, ints, u) in
      let eo : to_z w32 p.over ≡ pos p.over = omega (arith, ints, v) in
      let ea' = ea ∙ ap (word_of Pivot) ep in
      let ed' = ed ∙ ap (word_of Over) eo in
      set_four xs a b c d l ∙ cc

  held_pivot : payload (word_of Pivot (pos p.pivot)) ≡ p.pivot
  held_pivot = let e = number_back Pivot (pos p.pivot) (range_low Pivot _ in_parts.0) (range_high Pivot _ in_parts.0) in omega (arith, ints, e)

  held_over : payload (word_of Over (pos p.over)) ≡ p.over
  held_over = let e = number_back Over (pos p.over) (range_low Over _ in_parts.3) (range_high Over _ in_parts.3) in omega (arith, ints, e)

  -- the words say the pick again
  pub read_again : pick_in (pick_words p) ≡ p
  read_again = pick_same held_pivot
      (number_back Height p.height (range_low Height _ in_parts.1) (range_high Height _ in_parts.1))
      (number_back Rise p.rise (range_low Rise _ in_parts.2) (range_high Rise _ in_parts.2))
      held_over

  pub kinds_again : kinds_hold (pick_words p) ≡ true
  kinds_again =
      and_from _ _ (is_back Pivot (pos p.pivot) (range_low Pivot _ in_parts.0) (range_high Pivot _ in_parts.0))
      (and_from _ _ (is_back Height p.height (range_low Height _ in_parts.1) (range_high Height _ in_parts.1))
      (and_from _ _ (is_back Rise p.rise (range_low Rise _ in_parts.2) (range_high Rise _ in_parts.2))
      (is_back Over (pos p.over) (range_low Over _ in_parts.3) (range_high Over _ in_parts.3))))

-- lawful words: over is above 0, and the height is within ±1,000,000 at each tick from first to last
module _ (ws : List ℕ) (f l : ℕ) (h : words_lawful ws f l ≡ true) where
  both_parts : (kinds_hold ws ≡ true) × (pick_lawful (pick_in ws) f l ≡ true)
  both_parts = and_parts (kinds_hold ws) (pick_lawful (pick_in ws) f l) h

  over_above : 0 < (pick_in ws).over
  over_above =
      let k = all_four (is_a Pivot (slice_index ws 0)) (is_a Height (slice_index ws 1)) (is_a Rise (slice_index ws 2)) (is_a Over (slice_index ws 3)) both_parts.0 in
      let c = (number_range Over (slice_index ws 3) k.3).0 in
      omega (arith, ints, c)

  pub lawful_reach : (t : ℕ) → f ≤ t → t ≤ l → in_reach (pick_in ws) t ≡ true
  lawful_reach t a b =
      let p = pick_in ws in
      let k = all_four (lowest_terms p) (pivot_placed p f l) (in_reach p f) (in_reach p l) both_parts.1 in
      let w = between_values p.pivot p.height p.rise (neg_ℤ (pos 1000000)) (pos 1000000) p.over f t l over_above a b
      (range_low Level (height_at p f) k.2) (range_high Level (height_at p f) k.2) (range_low Level (height_at p l) k.3) (range_high Level (height_at p l) k.3) in
      range_test Level (height_at p t) w.0 w.1

pub lawful_value : (ws : List ℕ) (f l t : ℕ) (p : Pick) (o : Option Pick) → o ≡ Some p → Read ws o → words_lawful ws f l ≡ true → f ≤ t → t ≤ l → in_reach p t ≡ true
lawful_value ws f l t p o e k h a b = ap (λ (q : Pick). in_reach q t) (subst (Read ws) e k).1 ∙ lawful_reach ws f l h t a b

pub read_over : (p : Pick) (o : Option Pick) → o ≡ Some p → IfSome o (λ q. 0 < q.over) → 0 < p.over
read_over p o e k = subst (λ (x : Option Pick). IfSome x (λ q. 0 < q.over)) e k
