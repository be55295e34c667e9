-- Rows by the kinds of their words, and the row of a band: LOW, HIGH.
use Rattle.std.specs.Prelude.{◌≡◌, ℕ, ◌+◌, cond, List, [], ◌∷◌, length, ℤ, ◌≤ℤ◌, ◌<ℤ◌, Some, None, Option, MatchOption, int_lt, slice_index}
use Rattle.std.specs.Int.{int_max, int_min}
use Rattle.words.specs.declared.refusal.Reason.TheVariants.{NoChoice}
use Rattle.words.specs.declared.refusal.Refusal.{Refusal}
use Rattle.words.specs.declared.kind.Kind.{Kind}
use Rattle.words.specs.declared.kind.Kind.TheVariants.{Low, High}
use Rattle.words.specs.Words.{is_a, number_in}
use Rattle.family.specs.declared.band.Band.{Band}
use Rattle.family.specs.Refusing.{first_refusal, refuse_if, tick_refusal, row_refusal}

-- the index, from i on, of the first word that is not of the kind due there or out of that kind's range
abbrev pub first_wrong : List Kind → List ℕ → ℕ → Option ℕ
first_wrong [] ws i = None
first_wrong (k ∷ ks) ws i = cond (is_a k (slice_index ws i)) (first_wrong ks ws (i + 1)) (Some i)

abbrev pub band_wrong : List ℕ → Option ℕ
band_wrong ws = first_wrong (Low ∷ High ∷ []) ws 0

-- the ends of the band of a row
abbrev pub low_of : List ℕ → ℤ
low_of ws = number_in Low (slice_index ws 0)

abbrev pub high_of : List ℕ → ℤ
high_of ws = number_in High (slice_index ws 1)

-- z lies from the band's low end to its high end
abbrev pub Within : List ℕ → ℤ → Type 0
Within ws z = (low_of ws ≤ℤ z) × (z ≤ℤ high_of ws)

-- what a reading of a band alone is refused for: its tick, its row, and a low end above its high end: 5, 1, 2, 3
abbrev pub band_refusal : ℕ → List ℕ → Option Refusal
band_refusal t ws = first_refusal (first_refusal (tick_refusal t) (row_refusal 2 (length ws) (band_wrong ws))) (refuse_if (int_lt (high_of ws) (low_of ws)) NoChoice)

-- the values that two bands both allow, from the higher low end to the lower high end; none, where there are none
abbrev pub Shared : Band → Band → Option Band → Type 0
Shared a b r =
    MatchOption r (int_min a.high b.high <ℤ int_max a.low b.low)
    (λ c. (c.low ≡ int_max a.low b.low) × (c.high ≡ int_min a.high b.high) × (c.low ≤ℤ c.high))
