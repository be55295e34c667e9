-- A row of a LOW and a HIGH word in range has ends from −1,000,000 to 1,000,000.
use Rattle.std.proofs.Common.{◌≡◌, ℕ, ◌<◌, Bool, true, false, cond, eqb, List, get_or, pos, neg_ℤ, ◌≤ℤ◌, Some, None, Option, refl, arith}
use Rattle.std.proofs.lemmas.Bool.{and_parts}
use Rattle.words.specs.declared.kind.Kind.{Kind}
use Rattle.words.specs.declared.kind.Kind.TheVariants.{Low, High}
use Rattle.words.specs.Kinds.{kind_number, least, most, in_range}
use Rattle.words.specs.Words.{is_a, number_in, top_bits}
use Rattle.words.proofs.RoundTrip.{range_low, range_high}
use Rattle.family.specs.Bands.{band_wrong, low_of, high_of}

none_wrong : (a b : Bool) → ◌≡◌ {A = Option ℕ} (cond a (cond b None (Some 1)) (Some 0)) None → (a ≡ true) × (b ≡ true)
none_wrong true true h = (refl, refl)
none_wrong true false h = grind arith
none_wrong false b h = grind arith

one_wrong : (a b : Bool) (i : ℕ) → ◌≡◌ {A = Option ℕ} (cond a (cond b None (Some 1)) (Some 0)) (Some i) → i < 2
one_wrong true true i h = grind arith
one_wrong true false i h = grind arith
one_wrong false b i h = grind arith

-- the place of a wrong word is 0 or 1
pub band_wrong_inside : (ws : List ℕ) (i : ℕ) → band_wrong ws ≡ Some i → i < 2
band_wrong_inside ws i h = one_wrong (is_a Low (get_or ws 0 0)) (is_a High (get_or ws 1 0)) i h

-- a word in range holds a number in range
pub number_range : (k : Kind) (w : ℕ) → is_a k w ≡ true → (least k ≤ℤ number_in k w) × (number_in k w ≤ℤ most k)
number_range k w h =
    let r = (and_parts (eqb (top_bits w) (kind_number k)) (in_range k (number_in k w)) h).1 in
    (range_low k (number_in k w) r, range_high k (number_in k w) r)

module _ (ws : List ℕ) (h : band_wrong ws ≡ None) where
  both : (is_a Low (get_or ws 0 0) ≡ true) × (is_a High (get_or ws 1 0) ≡ true)
  both = none_wrong (is_a Low (get_or ws 0 0)) (is_a High (get_or ws 1 0)) h

  pub low_range : (neg_ℤ (pos 1000000) ≤ℤ low_of ws) × (low_of ws ≤ℤ pos 1000000)
  low_range = number_range Low (get_or ws 0 0) both.0

  pub high_range : (neg_ℤ (pos 1000000) ≤ℤ high_of ws) × (high_of ws ≤ℤ pos 1000000)
  high_range = number_range High (get_or ws 1 0) both.1
