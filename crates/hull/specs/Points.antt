-- Points, and the slopes and lines that go by them. A high end is a point turned over: its height negated.
use Rattle.std.specs.Prelude.{ℕ, ◌≤◌, Bool, cond, ℤ, pos, ◌+ℤ◌, ◌-ℤ◌, ◌*ℤ◌, neg_ℤ, ◌≤ℤ◌, int_lt}
use Rattle.slope.specs.Slopes.{Slope, less_steep}
use Rattle.hull.specs.declared.point.Point.{Point}

-- the slope from p to q
abbrev pub rising : Point → Point → Slope
rising p q = (q.height -ℤ p.height, pos q.tick -ℤ pos p.tick)

-- the slope from p, turned over, to q: a line that is not above the high end p must rise at least so to be not below the low end q
abbrev pub reaching : Point → Point → Slope
reaching p q = (q.height +ℤ p.height, pos q.tick -ℤ pos p.tick)

-- from a over b to c the slope falls: b lies above the piece from a to c
abbrev pub bends : Point → Point → Point → Bool
bends a b c = less_steep (rising b c) (rising a b)

-- the line whose height at t is (r · t + k) / u is not below a point
abbrev pub NotBelow : ℤ → ℤ → ℤ → Point → Type 0
NotBelow r u k p = (u *ℤ p.height) ≤ℤ (r *ℤ pos p.tick +ℤ k)

-- at slope r / u the low end a has room under the high end that m is, turned over
abbrev pub Apart : ℤ → ℤ → Point → Point → Type 0
Apart r u a m = (u *ℤ (a.height +ℤ m.height)) ≤ℤ (r *ℤ (pos a.tick -ℤ pos m.tick))

-- the k of the line of slope s through p
abbrev pub lift : Slope → Point → ℤ
lift s p = s.1 *ℤ p.height -ℤ s.0 *ℤ pos p.tick

-- the higher of two points against a slope; b, where neither is
abbrev pub higher : Slope → Point → Point → Point
higher s b p = cond (int_lt (lift s b) (lift s p)) p b

-- not before first, and no higher or lower than a reading's end can be
abbrev pub Near : ℕ → Point → Type 0
Near first p = (first ≤ p.tick) × (neg_ℤ (pos 1000000) ≤ℤ p.height) × (p.height ≤ℤ pos 1000000)
