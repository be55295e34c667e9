-- A quotient rounded down, and the value of a line, which meets every band that the line meets.
use Rattle.std.proofs.Common.{◌≡◌, ℕ, ◌<◌, ℤ, pos, negsuc, ◌+ℤ◌, ◌-ℤ◌, ◌*ℤ◌, ◌≤ℤ◌, ◌<ℤ◌, arith}
use Rattle.std.specs.Int.{int_div_euclid}
use Rattle.std.proofs.lemmas.Int.{ints, by_lt_z}
use Rattle.slope.proofs.Ring.{ring, lins, mul_le, le_of_mul}

-- the quotient rounded down
pub floor_is : (z : ℤ) (u : ℕ) → 0 < u → ((pos u *ℤ int_div_euclid z (pos u)) ≤ℤ z) × (z <ℤ (pos u *ℤ int_div_euclid z (pos u) +ℤ pos u))
floor_is (pos n) u h = omega (arith, ints)
floor_is (negsuc n) u h = omega (arith, ints)

pub le_of_mul_lt : (u a b : ℤ) → pos 0 <ℤ u → (u *ℤ a) <ℤ (u *ℤ b +ℤ u) → a ≤ℤ b
le_of_mul_lt u a b hu h = by_lt_z b a (λ l. let m = simp ring at (mul_le u (b +ℤ pos 1) a (omega (arith, lins)) (omega (arith, lins))) in absurd (omega (arith, lins, m))) (λ l. l)

between_floors : (r k at top low high u t f : ℤ) → pos 0 <ℤ u → r *ℤ at +ℤ k ≡ u *ℤ top
    → (u *ℤ low) ≤ℤ (r *ℤ t +ℤ k) → (r *ℤ t +ℤ k) ≤ℤ (u *ℤ high)
    → (u *ℤ f) ≤ℤ (r *ℤ (t -ℤ at)) → (r *ℤ (t -ℤ at)) <ℤ (u *ℤ f +ℤ u)
    → (low ≤ℤ (top +ℤ f)) × ((top +ℤ f) ≤ℤ high)
between_floors r k at top low high u t f hu whole hl hh fl fh =
    let m = simp ring at fl in
    let n = simp ring at fh in
    let w = simp ring at whole in
    let x = simp ring at hl in
    let y = simp ring at hh in
    (le_of_mul_lt u low (top +ℤ f) hu (simp ring (omega (arith, lins, m, n, w, x, y))), le_of_mul u (top +ℤ f) high hu (simp ring (omega (arith, lins, m, n, w, x, y))))

-- the value read at t meets the row that the line serves at t
pub meets_back : (r k at top low high : ℤ) (u : ℕ) (t : ℤ) → 0 < u → r *ℤ at +ℤ k ≡ pos u *ℤ top
    → (pos u *ℤ low) ≤ℤ (r *ℤ t +ℤ k) → (r *ℤ t +ℤ k) ≤ℤ (pos u *ℤ high)
    → (low ≤ℤ (top +ℤ int_div_euclid (r *ℤ (t -ℤ at)) (pos u))) × ((top +ℤ int_div_euclid (r *ℤ (t -ℤ at)) (pos u)) ≤ℤ high)
meets_back r k at top low high u t hu whole hl hh =
    let g = floor_is (r *ℤ (t -ℤ at)) u hu in
    between_floors r k at top low high (pos u) t (int_div_euclid (r *ℤ (t -ℤ at)) (pos u)) (omega (arith, ints)) whole hl hh g.0 g.1
