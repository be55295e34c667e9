-- Words whose values at both ends are in range give one at each tick between.
use Rattle.std.specs.Prelude.{ℕ, ◌<◌, ◌≤◌, ℤ, pos, ◌-ℤ◌, ◌*ℤ◌, neg_ℤ, ◌≤ℤ◌}
use Rattle.std.proofs.Common.{arith}
use Rattle.std.specs.Int.{int_div_euclid}
use Rattle.std.proofs.lemmas.Int.{ints, by_lt_z}
use Rattle.slope.specs.Values.{value_at}
use Rattle.slope.proofs.Ring.{ring, lins, mul_le}
use Rattle.slope.proofs.Floors.{floor_is, le_of_mul_lt}

floor_mono : (a b : ℤ) (u : ℕ) → 0 < u → a ≤ℤ b → int_div_euclid a (pos u) ≤ℤ int_div_euclid b (pos u)
floor_mono a b u hu h =
    let x = (floor_is a u hu).0 in
    let y = (floor_is b u hu).1 in
    le_of_mul_lt (pos u) (int_div_euclid a (pos u)) (int_div_euclid b (pos u)) (omega (arith, ints)) (omega (arith, lins, x, y))

value_mono : (pivot : ℕ) (height rise : ℤ) (over s t : ℕ) → 0 < over → (rise *ℤ pos s) ≤ℤ (rise *ℤ pos t) → value_at pivot height rise over s ≤ℤ value_at pivot height rise over t
value_mono pivot height rise over s t hu h =
    let m = floor_mono (rise *ℤ (pos s -ℤ pos pivot)) (rise *ℤ (pos t -ℤ pos pivot)) over hu (simp ring (omega (arith, lins, h))) in
    omega (arith, lins, m)

pub between_values : (pivot : ℕ) (height rise low high : ℤ) (over first t last : ℕ) → 0 < over → first ≤ t → t ≤ last
    → low ≤ℤ value_at pivot height rise over first → value_at pivot height rise over first ≤ℤ high
    → low ≤ℤ value_at pivot height rise over last → value_at pivot height rise over last ≤ℤ high
    → (low ≤ℤ value_at pivot height rise over t) × (value_at pivot height rise over t ≤ℤ high)
between_values pivot height rise low high over first t last hu f g la ha lb hb =
    let x : pos first ≤ℤ pos t = omega (arith, ints) in
    let y : pos t ≤ℤ pos last = omega (arith, ints) in
    by_lt_z rise (pos 0)
    (λ l. let a = simp ring at (mul_le (neg_ℤ rise) (pos first) (pos t) (omega (arith, lins)) x) in
    let b = simp ring at (mul_le (neg_ℤ rise) (pos t) (pos last) (omega (arith, lins)) y) in
    let p = value_mono pivot height rise over last t hu (omega (arith, lins, b)) in
    let q = value_mono pivot height rise over t first hu (omega (arith, lins, a)) in
    (omega (arith, lins, p, lb), omega (arith, lins, q, ha)))
    (λ l. let p = value_mono pivot height rise over first t hu (mul_le rise (pos first) (pos t) l x) in
    let q = value_mono pivot height rise over t last hu (mul_le rise (pos t) (pos last) l y) in
    (omega (arith, lins, p, la), omega (arith, lins, q, hb)))
