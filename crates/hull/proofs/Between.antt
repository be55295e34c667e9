-- A point on or under the piece between two others is no hindrance: a line that is not below those two is not below it.
use Rattle.std.proofs.Common.{◌≡◌, ℤ, pos, ◌+ℤ◌, ◌-ℤ◌, ◌*ℤ◌, ◌≤ℤ◌, ◌<ℤ◌, ap, arith}
use Rattle.slope.proofs.Ring.{ring, lins, mul_le, mul_nonneg, nonneg_of_mul}

-- in differences: p and q ticks from a to b and from b to c, d and e the heights gained, x, y and z the line's slack at a, b and c
slack : (p q d e r u x y z : ℤ) → pos 0 <ℤ p → pos 0 <ℤ q → pos 0 <ℤ u
    → (d *ℤ q) ≤ℤ (e *ℤ p) → y ≡ x +ℤ r *ℤ p -ℤ u *ℤ d → z ≡ y +ℤ r *ℤ q -ℤ u *ℤ e
    → pos 0 ≤ℤ x → pos 0 ≤ℤ z → pos 0 ≤ℤ y
slack p q d e r u x y z hp hq hu cross ey ez hx hz =
    let w : pos 0 <ℤ (p +ℤ q) = omega (arith, lins) in
    let p0 : pos 0 ≤ℤ p = omega (arith, lins) in
    let q0 : pos 0 ≤ℤ q = omega (arith, lins) in
    let u0 : pos 0 ≤ℤ u = omega (arith, lins) in
    let m1 = simp ring at (ap (λ (n : ℤ). q *ℤ n) ey) in
    let m2 = simp ring at (ap (λ (n : ℤ). p *ℤ n) ez) in
    let m3 = simp ring at (mul_le u (d *ℤ q) (e *ℤ p) u0 cross) in
    let m4 = mul_nonneg q x q0 hx in
    let m5 = mul_nonneg p z p0 hz in
    nonneg_of_mul (p +ℤ q) y w (simp ring (omega (arith, lins, m1, m2, m3, m4, m5)))

-- b on or under the piece from a to c: a line (r, u, k) not below a and c is not below b
pub between : (ta ha tb hb tc hc r u k : ℤ) → ta <ℤ tb → tb <ℤ tc → pos 0 <ℤ u
    → ((hb -ℤ ha) *ℤ (tc -ℤ tb)) ≤ℤ ((hc -ℤ hb) *ℤ (tb -ℤ ta))
    → (u *ℤ ha) ≤ℤ (r *ℤ ta +ℤ k) → (u *ℤ hc) ≤ℤ (r *ℤ tc +ℤ k) → (u *ℤ hb) ≤ℤ (r *ℤ tb +ℤ k)
between ta ha tb hb tc hc r u k p q hu cross ga gc =
    let g : pos 0 ≤ℤ (r *ℤ tb +ℤ k -ℤ u *ℤ hb) = slack (tb -ℤ ta) (tc -ℤ tb) (hb -ℤ ha) (hc -ℤ hb) r u (r *ℤ ta +ℤ k -ℤ u *ℤ ha) (r *ℤ tb +ℤ k -ℤ u *ℤ hb) (r *ℤ tc +ℤ k -ℤ u *ℤ hc)
    (omega (arith, lins)) (omega (arith, lins)) hu cross
    (simp ring (omega (arith, lins))) (simp ring (omega (arith, lins)))
    (omega (arith, lins)) (omega (arith, lins)) in
    omega (arith, lins)
