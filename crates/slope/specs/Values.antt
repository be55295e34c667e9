-- Numbers that never wrap, quotients rounded down, and values read off a line.
use Rattle.std.specs.Prelude.{ℕ, ◌^◌, ◌≤◌, ℤ, pos, ◌+ℤ◌, ◌-ℤ◌, ◌*ℤ◌, neg_ℤ, ◌≤ℤ◌, ◌<ℤ◌}
use Rattle.std.specs.Int.Signed.{mag}
use Rattle.std.specs.Int.{int_div_euclid}

-- far inside 128 bits: the number can be negated, and the difference of two such numbers fits
abbrev pub Modest : ℤ → Type 0
Modest z = (mag z ≤ 2 ^ 126) × (neg_ℤ (pos (2 ^ 126)) <ℤ z)

-- q is the greatest whole number that is at most z / u
abbrev pub Floor : ℤ → ℕ → ℤ → Type 0
Floor z u q = ((pos u *ℤ q) ≤ℤ z) × (z <ℤ (pos u *ℤ q +ℤ pos u))

-- the height at t, rounded down, of the line of slope rise / over that has this height at the pivot
abbrev pub value_at : ℕ → ℤ → ℤ → ℕ → ℕ → ℤ
value_at pivot height rise over t = height +ℤ int_div_euclid (rise *ℤ (pos t -ℤ pos pivot)) (pos over)
