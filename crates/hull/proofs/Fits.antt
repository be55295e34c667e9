-- One reading more: the bounds of the slope tighten, and a line serves exactly where they leave a slope.
use Rattle.std.proofs.Common.{◌≡◌, ℕ, ◌<◌, List, [], ◌∷◌, ℤ, pos, ◌+ℤ◌, ◌-ℤ◌, ◌*ℤ◌, neg_ℤ, ◌≤ℤ◌, ◌<ℤ◌, ap, arith}
use Rattle.std.specs.List.{AllByRecursion}
use Rattle.std.proofs.ByRecursion.{All-weaker}
use Rattle.std.proofs.lemmas.Int.{ints}
use Rattle.slope.specs.Slopes.{Slope, AtMost}
use Rattle.slope.proofs.Ring.{ring, lins, mul_le, le_of_mul}
use Rattle.slope.proofs.Fractions.{bound_over}
use Rattle.slope.proofs.NearZero.{Open, open_pick}
use Rattle.hull.specs.declared.point.Point.{Point}
use Rattle.hull.specs.Points.{reaching, Apart}
use Rattle.hull.specs.Lines.{Serves, Slopes, Bounds}
use Rattle.hull.proofs.Lines.{apart, lowest}
use Rattle.hull.proofs.Steepest.{steepest_by, steepest_out, steepest_in, steepest_bound}

-- a later point is some ticks away
pub over_out : (y a : Point) → y.tick < a.tick → pos 0 <ℤ (pos a.tick -ℤ pos y.tick)
over_out y a h = omega (arith, ints)

rise_apart : (r u : ℤ) (a m : Point) → AtMost (reaching m a) r u → Apart r u a m
rise_apart r u a m h = let g = simp ring at h in simp ring (omega (arith, lins, g))

apart_rise : (r u : ℤ) (a m : Point) → Apart r u a m → AtMost (reaching m a) r u
apart_rise r u a m h = let g = simp ring at h in simp ring (omega (arith, lins, g))

sink_apart : (r u : ℤ) (x m : Point) → AtMost (reaching x m) (neg_ℤ r) u → Apart r u x m
sink_apart r u x m h = let g = simp ring at h in simp ring (omega (arith, lins, g))

apart_sink : (r u : ℤ) (x m : Point) → Apart r u x m → AtMost (reaching x m) (neg_ℤ r) u
apart_sink r u x m h = let g = simp ring at h in simp ring (omega (arith, lins, g))

pub own : (r u : ℤ) (a m : Point) → pos 0 <ℤ u → a.tick ≡ m.tick → (a.height +ℤ m.height) ≤ℤ pos 0 → Apart r u a m
own r u a m hu e h = let n = simp ring at (mul_le u (a.height +ℤ m.height) (pos 0) (omega (arith, lins)) h) in let t : r *ℤ pos a.tick ≡ r *ℤ pos m.tick = ap (λ (n : ℕ). r *ℤ pos n) e in simp ring (omega (arith, lins, n, t))

both : {P Q R : Point → Type 0} → ((x : Point) → P x → Q x → R x) → (xs : List Point) → AllByRecursion P xs → AllByRecursion Q xs → AllByRecursion R xs
both f [] p q = tt
both f (x ∷ xs) p q = (f x p.0 q.0, both f xs p.1 q.1)

-- one reading more
pub bounds_more : (ls ms : List Point) (least fall : Slope) (a b : Point) → Bounds ls ms least fall → a.tick ≡ b.tick → (a.height +ℤ b.height) ≤ℤ pos 0
    → AllByRecursion (λ x. x.tick < b.tick) ls → AllByRecursion (λ y. y.tick < a.tick) ms
    → Bounds (a ∷ ls) (b ∷ ms) (steepest_by (λ y. reaching y a) least ms) (steepest_by (λ x. reaching x b) fall ls)
bounds_more ls ms least fall a b k e h fl fh =
    let oh : AllByRecursion (λ y. pos 0 <ℤ (reaching y a).1) ms = All-weaker _ _ (λ y l. over_out y a l) ms fh in
    let ol : AllByRecursion (λ x. pos 0 <ℤ (reaching x b).1) ls = All-weaker _ _ (λ x l. over_out x b l) ls fl in
    record {
      enough = λ r u hu p q.
          let i = steepest_out (λ y. reaching y a) least ms r u k.low hu oh p in
          let j = steepest_out (λ x. reaching x b) fall ls (neg_ℤ r) u k.high hu ol q in
          ((own r u a b hu e h, All-weaker _ _ (λ y g. rise_apart r u a y g) ms i.1), both (λ x g h. (h, g)) ls (k.enough r u hu i.0 j.0) (All-weaker _ _ (λ x g. sink_apart r u x b g) ls j.1));
      needed = λ r u hu s.
          let o = k.needed r u hu (All-weaker _ _ (λ x g. g.1) ls s.1) in (
            steepest_in (λ y. reaching y a) least ms r u o.0 (All-weaker _ _ (λ y g. apart_rise r u a y g) ms s.0.1),
            steepest_in (λ x. reaching x b) fall ls (neg_ℤ r) u o.1 (All-weaker _ _ (λ x g. apart_sink r u x b g.0) ls s.1),
          );
      low = steepest_bound (λ y. reaching y a) least ms k.low oh;
      high = steepest_bound (λ x. reaching x b) fall ls k.high ol;
    }

pub line_slopes : (ls ms : List Point) (r u k : ℤ) → Serves ls ms r u k → Slopes ls ms r u
line_slopes ls ms r u k l = All-weaker _ _ (λ a ha. All-weaker _ _ (λ b hb. apart r u k a b ha hb) ms l.highs) ls l.lows

across : (R : Point → Point → Type 0) (ls ms : List Point) → AllByRecursion (λ a. AllByRecursion (λ b. R a b) ms) ls → AllByRecursion (λ b. AllByRecursion (λ a. R a b) ls) ms
across R ls [] h = tt
across R ls (b ∷ ms) h = (All-weaker _ _ (λ a g. g.0) ls h, across R ls ms (All-weaker _ _ (λ a g. g.1) ls h))

pub slopes_line : (a : Point) (ls ms : List Point) (r u : ℤ) → pos 0 <ℤ u → Slopes (a ∷ ls) ms r u → (k : ℤ) × Serves (a ∷ ls) ms r u k
slopes_line a ls ms r u hu s =
    let m = lowest r u a ls in
    (m.0, record { over = hu; lows = m.1; highs = All-weaker _ _ (λ b g. m.2 b g) ms (across (Apart r u) (a ∷ ls) ms s) })

-- a line serves exactly where the bounds leave a slope
pub fits_yes : (a : Point) (ls ms : List Point) (p q : Slope) → Bounds (a ∷ ls) ms p q → Open p q → (r : ℤ) × (u : ℤ) × (k : ℤ) × Serves (a ∷ ls) ms r u k
fits_yes a ls ms p q k o =
    let c = open_pick p q k.low k.high o in
    let l = slopes_line a ls ms c.0 c.1 c.2 (k.enough c.0 c.1 c.2 c.3 c.4) in
    (c.0, c.1, l.0, l.1)

pub fits_no : (ls ms : List Point) (p q : Slope) (r u k : ℤ) → Bounds ls ms p q → Serves ls ms r u k → Open p q
fits_no ls ms p q r u k b l = let n = b.needed r u l.over (line_slopes ls ms r u k l) in
    let m1 = simp ring at (mul_le q.1 (p.0 *ℤ u) (r *ℤ p.1) (bound_over q b.high) n.0) in
    let m2 = simp ring at (mul_le p.1 (q.0 *ℤ u) (neg_ℤ r *ℤ q.1) (bound_over p b.low) n.1) in
    le_of_mul u (p.0 *ℤ q.1 +ℤ q.0 *ℤ p.1) (pos 0) l.over (simp ring (omega (arith, lins, m1, m2)))
