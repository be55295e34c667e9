-- The first tick at which a line through whole points has a whole height.
use Rattle.std.proofs.Common.{◌≡◌, ℕ, ◌+◌, ◌-◌, ◌*◌, ◌/◌, ◌%◌, ◌<◌, ◌≤◌, ℤ, pos, ◌+ℤ◌, ◌-ℤ◌, ◌*ℤ◌, nat_abs, sym, ap, ◌∙◌, subst, mod-lt, arith}
use Prim.Native.Nat.{◌∣◌}
use native.Mathlib.Nat.{div-add-mod, le_of_dvd, dvd-mul_right, dvd-add_iff_left}
use Rattle.std.proofs.lemmas.Int.{ints, by_lt_z, unsigned_abs-mul}
use Rattle.slope.specs.Slopes.{Coprime}
use Rattle.slope.proofs.Ring.{ring, lins}
use Rattle.slope.proofs.Euclid.{divides}

-- the way from the pivot to the point is a whole number of overs
pub turns : (first t u : ℕ) → 0 < u → first ≤ t → pos t ≡ pos (first + (t - first) % u) +ℤ pos u *ℤ pos ((t - first) / u)
turns first t u hu h = let m = div-add-mod (t - first) u in omega (arith, ints, m)

pub pivot_upto : (first t u : ℕ) → 0 < u → first ≤ t → (first + (t - first) % u ≤ t) × (first + (t - first) % u < first + u)
pivot_upto first t u hu h = let m = div-add-mod (t - first) u in let l = mod-lt (t - first) hu in omega (arith, m, l)

-- the line of slope r / u through (t, h) goes through the pivot at a whole height
pub same_lift : (first t u : ℕ) (r h : ℤ) → 0 < u → first ≤ t
    → pos u *ℤ (h -ℤ r *ℤ pos ((t - first) / u)) -ℤ r *ℤ pos (first + (t - first) % u) ≡ pos u *ℤ h -ℤ r *ℤ pos t
same_lift first t u r h hu l =
    let e = simp ring at (ap (λ (n : ℤ). r *ℤ n) (turns first t u hu l)) in
    simp ring (omega (arith, lins, e))

-- and at none from first on before it
pub soonest : (first t u : ℕ) (r h : ℤ) (s : ℕ) (g : ℤ) → 0 < u → first ≤ t → Coprime r (pos u) → first ≤ s
    → r *ℤ pos s +ℤ (pos u *ℤ h -ℤ r *ℤ pos t) ≡ pos u *ℤ g → first + (t - first) % u ≤ s
soonest first t u r h s g hu l c f e =
    by_lt_z (pos s) (pos (first + (t - first) % u))
    (λ lt.
    let m = div-add-mod (t - first) u in
    let b = mod-lt (t - first) hu in
    let v : s < first + (t - first) % u = omega (arith, ints) in
    let w : s ≤ t = omega (arith, m) in
    let p : pos t ≡ pos s +ℤ pos (t - s) = omega (arith, ints) in
    let x = simp ring at (ap (λ (n : ℤ). r *ℤ n) p) in
    let i = simp ring at e in
    let y : r *ℤ pos (t - s) ≡ pos u *ℤ (h -ℤ g) = simp ring (omega (arith, lins, x, i)) in
    let z : nat_abs r * (t - s) ≡ u * nat_abs (h -ℤ g) = sym (unsigned_abs-mul r (pos (t - s))) ∙ ap nat_abs y ∙ unsigned_abs-mul (pos u) (h -ℤ g) in
    let d : u ∣ t - s = divides (nat_abs r) u (t - s) c (subst (λ (n : ℕ). u ∣ n) (sym z) (dvd-mul_right u (nat_abs (h -ℤ g)))) in
    let q : t - s ≡ (first + (t - first) % u - s) + u * ((t - first) / u) = omega (arith, m) in
    let k : u ∣ first + (t - first) % u - s = (dvd-add_iff_left u (dvd-mul_right u ((t - first) / u))).1 (subst (λ (n : ℕ). u ∣ n) q d) in
    let o = le_of_dvd (omega arith) k in
    absurd (omega (arith, b, o)))
    (λ le. omega (arith, ints))
