-- Slopes: how they compare, which of them lie between two bounds, and the one in least terms.
use Rattle.std.specs.Prelude.{◌≡◌, ℕ, ◌<◌, Bool, cond, ◌⊎◌, ℤ, pos, negsuc, ◌*ℤ◌, neg_ℤ, ◌≤ℤ◌, ◌<ℤ◌, int_div, int_le, int_lt, unsigned_abs}
use Rattle.std.specs.Int.{◌∣◌}
use Rattle.slope.specs.Divisor.{gcd_of}

-- a slope: its rise and its over
abbrev pub Slope : Type 0
Slope = ℤ × ℤ

-- a is below b, by cross products
abbrev pub less_steep : Slope → Slope → Bool
less_steep a b = int_lt (a.0 *ℤ b.1) (b.0 *ℤ a.1)

-- the steeper of two
abbrev pub steeper : Slope → Slope → Slope
steeper a b = cond (less_steep a b) b a

-- s is at most r / u
abbrev pub AtMost : Slope → ℤ → ℤ → Type 0
AtMost s r u = (s.0 *ℤ u) ≤ℤ (r *ℤ s.1)

-- what bounds slopes from below: a fraction, or (−1, 0), which is below all of them and stands for no bound yet
unfoldable pub Bound : Slope → Type 0
Bound s = (pos 0 <ℤ s.1) ⊎ ((s.1 ≡ pos 0) × (s.0 <ℤ pos 0))

-- no bound yet: what is below every slope
abbrev pub unbounded : Slope
unbounded = (negsuc 0, pos 0)

-- two bounds leave a slope between them: p is at most q turned over (its rise negated)
abbrev pub meeting : Slope → Slope → Bool
meeting p q = int_le (p.0 *ℤ q.1) (neg_ℤ (q.0 *ℤ p.1))

-- the slope nearest 0 from `least` to `fall` turned over
abbrev pub nearest_of : Slope → Slope → Slope
nearest_of least fall = cond (int_lt (pos 0) least.0) least (cond (int_lt (pos 0) fall.0) (neg_ℤ fall.0, fall.1) (pos 0, pos 1))

-- what that is: n lies between the bounds p and q turned over, and no slope r / u between them is nearer 0
pub record Nearest (p q n : Slope) : Type 0 where
  pub over : pos 0 <ℤ n.1
  pub low : AtMost p n.0 n.1
  pub high : AtMost q (neg_ℤ n.0) n.1
  pub least : (r u : ℤ) → AtMost p r u → AtMost q (neg_ℤ r) u → (pos (unsigned_abs n.0) *ℤ u) ≤ℤ (pos (unsigned_abs r) *ℤ n.1)

-- no common divisor above 1
abbrev pub Coprime : ℤ → ℤ → Type 0
Coprime r u = (d : ℕ) → d ∣ unsigned_abs r → d ∣ unsigned_abs u → d ≡ 1

-- s is t, its rise and its over g times as large, and t is in least terms
pub record Reduced (s t : Slope) (g : ℕ) : Type 0 where
  pub some : 0 < g
  pub rise : s.0 ≡ pos g *ℤ t.0
  pub over : s.1 ≡ pos g *ℤ t.1
  pub least : Coprime t.0 t.1

-- its rise and its over divided by their greatest common divisor
abbrev pub reduced_of : Slope → Slope
reduced_of s = (int_div s.0 (pos (gcd_of (unsigned_abs s.0) (unsigned_abs s.1))), int_div s.1 (pos (gcd_of (unsigned_abs s.0) (unsigned_abs s.1))))

-- the slope nearest 0 between two bounds, in least terms
abbrev pub slope_of : Slope → Slope → Slope
slope_of least fall = reduced_of (nearest_of least fall)

-- a slope from one point to another, where heights are within ±1,000,000 and the points at most 255 ticks apart
abbrev pub Small : Slope → Type 0
Small s = (s.1 ≤ℤ pos 255) × (neg_ℤ (pos 2000000) ≤ℤ s.0) × (s.0 ≤ℤ pos 2000000)
