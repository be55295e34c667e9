-- Points in range: a line that serves them is in range too, and the slopes between them are small.
use Rattle.std.proofs.Common.{◌≡◌, ℕ, ◌+◌, ◌<◌, ◌≤◌, List, [], ◌∷◌, ℤ, pos, ◌+ℤ◌, ◌*ℤ◌, neg_ℤ, ◌≤ℤ◌, ◌<ℤ◌, ap, arith}
use Rattle.std.specs.List.{AllByRecursion}
use Rattle.std.proofs.lemmas.Int.{ints, by_lt_z}
use Rattle.slope.specs.Slopes.{Small}
use Rattle.slope.proofs.Ring.{ring, lins, mul_le}
use Rattle.hull.specs.declared.point.Point.{Point}
use Rattle.hull.specs.Points.{reaching, NotBelow, Near}
use Rattle.hull.specs.Lines.{Within}

-- a line that serves a reading is within the range at its tick
pub edge_at : (first : ℕ) (a b : Point) (r u k : ℤ) → pos 0 <ℤ u → a.tick ≡ b.tick → Near first a → Near first b → NotBelow r u k a → NotBelow (neg_ℤ r) u (neg_ℤ k) b → Within u (r *ℤ pos a.tick +ℤ k)
edge_at first a b r u k hu e na nb ha hb =
    let u0 : pos 0 ≤ℤ u = omega (arith, lins) in
    let m = mul_le u (neg_ℤ (pos 1000000)) a.height u0 na.1 in
    let n = simp ring at (mul_le u (neg_ℤ b.height) (pos 1000000) u0 (let z = nb.1 in omega (arith, lins, z))) in
    let t : r *ℤ pos a.tick ≡ r *ℤ pos b.tick = ap (λ (n : ℕ). r *ℤ pos n) e in
    let g = simp ring at hb in
    (omega (arith, lins, m, ha), omega (arith, lins, n, g, t))

-- the slope from an end, turned over, to a later end
pub reach_small : (first : ℕ) (y a : Point) → y.tick < a.tick → a.tick ≤ first + 255 → Near first a → Near first y → Small (reaching y a)
reach_small first y a h w na ny = let p = na.1 in let q = na.2 in let r = ny.0 in let s = ny.1 in let t = ny.2 in (omega (arith, ints), omega (arith, ints), omega (arith, ints))

-- what follows of each element from two facts
pub all_both : {P Q R : Point → Type 0} → ((x : Point) → P x → Q x → R x) → (xs : List Point) → AllByRecursion P xs → AllByRecursion Q xs → AllByRecursion R xs
all_both f [] p q = tt
all_both f (x ∷ xs) p q = (f x p.0 q.0, all_both f xs p.1 q.1)

-- a line within the range at both ends is so between them
pub within_between : (r u k a t b : ℤ) → a ≤ℤ t → t ≤ℤ b → Within u (r *ℤ a +ℤ k) → Within u (r *ℤ b +ℤ k) → Within u (r *ℤ t +ℤ k)
within_between r u k a t b h g wa wb =
    by_lt_z r (pos 0)
    (λ l. let m = simp ring at (mul_le (neg_ℤ r) a t (omega (arith, lins)) h) in let n = simp ring at (mul_le (neg_ℤ r) t b (omega (arith, lins)) g) in (omega (arith, lins, m, n, wb), omega (arith, lins, m, n, wa)))
    (λ l. let m = mul_le r a t l h in let n = mul_le r t b l g in (omega (arith, lins, m, n, wa), omega (arith, lins, m, n, wb)))
