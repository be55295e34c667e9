-- What the slopes named by the contracts are, in terms of all slopes r / u.
use Rattle.std.specs.Prelude.{◌≡◌, ℕ, ◌<◌, true, ℤ, pos, ◌+ℤ◌, ◌-ℤ◌, ◌*ℤ◌, neg_ℤ, ◌≤ℤ◌, ◌<ℤ◌, unsigned_abs}
use Rattle.slope.specs.Divisor.{Greatest, gcd_of}
use Rattle.slope.specs.Slopes.{Slope, AtMost, Bound, steeper, meeting, nearest_of, Nearest, reduced_of, Reduced}
use Rattle.slope.specs.Values.{value_at}

-- Euclid's rule finds the greatest common divisor
abbrev pub Divisors : Type 0
Divisors = (a b : ℕ) → Greatest a b (gcd_of a b)

-- r / u is between the bounds: at least `least`, and at most `fall` turned over
abbrev pub Inside : Slope → Slope → ℤ → ℤ → Type 0
Inside least fall r u = (pos 0 <ℤ u) × AtMost least r u × AtMost fall (neg_ℤ r) u

-- the steeper of two slopes is at most r / u exactly where both are
abbrev pub Steeper : Type 0
Steeper = (s x : Slope) → Bound s → pos 0 <ℤ x.1 → (r u : ℤ) → pos 0 <ℤ u
    → (AtMost (steeper s x) r u → AtMost s r u × AtMost x r u) × (AtMost s r u → AtMost x r u → AtMost (steeper s x) r u)

-- bounds meet exactly where some slope is between them
abbrev pub Meetings : Type 0
Meetings = (least fall : Slope) → Bound least → Bound fall
    → (meeting least fall ≡ true → (r : ℤ) × (u : ℤ) × Inside least fall r u) × ((r u : ℤ) → Inside least fall r u → meeting least fall ≡ true)

-- where bounds meet, the slope named is between them, and none between them is nearer 0
abbrev pub Nearer : Type 0
Nearer = (least fall : Slope) → Bound least → Bound fall → meeting least fall ≡ true → Nearest least fall (nearest_of least fall)

-- a slope divided by the greatest common divisor is the same slope, in least terms
abbrev pub LeastTerms : Type 0
LeastTerms = (s : Slope) → pos 0 <ℤ s.1 → Reduced s (reduced_of s) (gcd_of (unsigned_abs s.0) (unsigned_abs s.1))

-- the value of a line at a tick lies in each band, from low to high, in which the line lies at that tick
abbrev pub Meets : Type 0
Meets = (height rise low high : ℤ) (over pivot t : ℕ) → 0 < over
    → (pos over *ℤ low) ≤ℤ (pos over *ℤ height +ℤ rise *ℤ (pos t -ℤ pos pivot)) → (pos over *ℤ height +ℤ rise *ℤ (pos t -ℤ pos pivot)) ≤ℤ (pos over *ℤ high)
    → (low ≤ℤ value_at pivot height rise over t) × (value_at pivot height rise over t ≤ℤ high)
