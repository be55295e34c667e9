-- What a state picks serves, is lawful for the run's first and last tick, and reads back.
use Rattle.std.specs.Prelude.{◌≡◌, ℕ, zero, suc, ◌<◌, true, false, List, [], ℤ, pos, ◌+ℤ◌, ◌*ℤ◌, ◌≤ℤ◌, ◌<ℤ◌, int_lt, unsigned_abs, refl}
use Rattle.std.proofs.Common.{sym, ap, ap₂, subst, ◌∙◌, arith, eq-eqb}
use Rattle.std.proofs.Math.Bool.{Bool-set}
use Rattle.std.proofs.Math.Logic.{∥∥₁_elim}
use mathlib.Core.HLevel.{×_prop}
use Rattle.std.proofs.lemmas.Int.{ints}
use Rattle.std.proofs.lemmas.Bool.{and_from, cond-false}
use Rattle.std.proofs.lemmas.Bool.Decides.{nat_tests}
use Rattle.words.specs.declared.kind.Kind.TheVariants.{Level}
use Rattle.words.proofs.RoundTrip.{range_test}
use Rattle.family.specs.Readings.{Reading}
use Rattle.family.specs.Bands.{low_of, high_of}
use Rattle.hull.specs.declared.point.Point.{Point}
use Rattle.line.specs.declared.line.Line.{Line}
use Rattle.line.specs.declared.pick.Pick.{Pick}
use Rattle.slope.specs.Divisor.{gcd_of}
use Rattle.slope.specs.Slopes.{Slope, reduced_of}
use Rattle.hull.specs.Hulls.{ends, topmost}
use Rattle.hull.specs.Points.{lift}
use Rattle.hull.specs.Lines.{Serves, Slopes}
use Rattle.line.specs.Choices.{line_serves}
use Rattle.line.specs.Picks.{level_pick, lift_of, height_at, pick_lawful, lowest_terms, pivot_placed, in_reach}
use Rattle.line.specs.LineMeaning.{line_slope, line_pick, line_allows, line_picked}
use Rattle.slope.proofs.Ring.{lins}
use Rattle.hull.proofs.Once.{le_once, serves_once}
use Rattle.slope.proofs.Greatest.{gcd_greatest}
use Rattle.slope.proofs.Floors.{meets_back}
use Rattle.hull.proofs.Anchors.{anchor_serves}
use Rattle.slope.proofs.Absolute.{abs_pos}
use Rattle.line.specs.Sloped.{slope_nearest}
use Rattle.line.specs.Takes.{no_ends}
use Rattle.line.specs.Choosing.{anchored, pick_anchored, no_points, picked_so, lifted, full}
use Rattle.line.specs.Spans.{first_of, last_of, window}

-- where nothing was taken, every line serves
pub bare_serves : (s : Line) → s.lows.len ≡ 0 → (r u k : ℤ) → pos 0 <ℤ u → Serves (ends s.lows) (ends s.highs) r u k
bare_serves s e r u k h =
    let eh : s.highs.len ≡ 0 = (let o = s.room in omega (arith, o)) in
    subst (λ (l : List Point). Serves l (ends s.highs) r u k) (sym (no_ends s.lows e)) (subst (λ (l : List Point). Serves [] l r u k) (sym (no_ends s.highs eh)) (record { over = h; lows = tt; highs = tt }))

picks_by : (s : Line) (n : ℕ) → s.lows.len ≡ n → Serves (ends s.lows) (ends s.highs) (line_slope s).0 (line_slope s).1 (line_picked s).lift
picks_by s zero e = bare_serves s e _ _ _ s.positive
picks_by s (suc n) e =
    let i : 0 < s.lows.len = omega arith in
    ∥∥₁_elim s.sound (serves_once _ _ _ _ _) (λ x.
    let k = slope_nearest _ _ _ _ _ _ x in
    anchor_serves (ends s.lows) (ends s.highs) (line_slope s).0 (line_slope s).1 s.positive (full s i) (x.bounds.enough (line_slope s).0 (line_slope s).1 s.positive k.low k.high))

-- the choice picked is allowed
pub picks_allowed : (s : Line) → line_allows s (line_picked s)
picks_allowed s = (λ n. (omega arith, (let o = window s.span in omega (arith, o))), picks_by s s.lows.len refl)

-- lawful for the first and the last tick
pub pick_is_lawful : (s : Line) → 0 < s.lows.len → pick_lawful (line_pick s) (first_of s.span) (last_of s.span) ≡ true
pick_is_lawful s n = ap (λ (p : Pick). pick_lawful p (first_of s.span) (last_of s.span)) (pick_anchored s n) ∙ ∥∥₁_elim s.sound (Bool-set _ _) (λ x.
    let k = picked_so s n x in
    let g = gcd_greatest (unsigned_abs (anchored s).rise) (anchored s).over in
    let one : gcd_of (unsigned_abs (anchored s).rise) (anchored s).over ≡ 1 = k.coprime _ g.left g.right in
    let o = window s.span in
    let a = k.inside (first_of s.span) (omega arith) o.0 in
    let b = k.inside (last_of s.span) o.0 (omega arith) in
    let f = k.from in
    let u = k.upto in
    let v = k.near in
    and_from (lowest_terms (anchored s)) _ (eq-eqb _ _ one)
    (and_from (pivot_placed (anchored s) (first_of s.span) (last_of s.span)) _ (grind (arith, nat_tests))
    (and_from (in_reach (anchored s) (first_of s.span)) _ (range_test Level _ a.0 a.1) (range_test Level _ b.0 b.1))))

-- where nothing was taken, the slope is 0 and the line is at height 0
bare_bounds : (s : Line) → s.lows.len ≡ 0 → (s.bounds.least.0 ≤ℤ pos 0) × (s.bounds.fall.0 ≤ℤ pos 0)
bare_bounds s e = ∥∥₁_elim s.sound (×_prop (le_once _ _) (le_once _ _)) (λ x.
    let k = x.bounds.needed (pos 0) (pos 1) (omega (arith, ints)) (subst (λ (l : List Point). Slopes l (ends s.highs) (pos 0) (pos 1)) (sym (no_ends s.lows e)) tt) in
    let a = k.0 in
    let b = k.1 in
    (omega (arith, ints, a), omega (arith, ints, b)))

level_reduced : reduced_of (pos 0, pos 1) ≡ (pos 0, pos 1)
unfolding gcd_of
level_reduced = refl

bare_slope : (s : Line) → s.lows.len ≡ 0 → line_slope s ≡ (pos 0, pos 1)
bare_slope s e =
    let b = bare_bounds s e in
    let x : int_lt (pos 0) s.bounds.least.0 ≡ false = sym (let h = b.0 in omega (arith, lins, h)) in
    let y : int_lt (pos 0) s.bounds.fall.0 ≡ false = sym (let h = b.1 in omega (arith, lins, h)) in
    ap reduced_of (cond-false _ _ _ x ∙ cond-false _ _ _ y) ∙ level_reduced

bare_lift : (s : Line) → s.lows.len ≡ 0 → (line_picked s).lift ≡ pos 0
bare_lift s e = ap₂ (λ (m : Slope) (l : List Point). lift m (topmost m l)) (bare_slope s e) (no_ends s.lows e)

height_by : (s : Line) (r : Reading) (n : ℕ) → s.lows.len ≡ n → line_serves (line_picked s) r → (low_of r.row ≤ℤ height_at (line_pick s) r.tick) × (height_at (line_pick s) r.tick ≤ℤ high_of r.row)
height_by s r zero e w =
    let t = r.tick in
    let lo = low_of r.row in
    let hi = high_of r.row in
    let m = bare_slope s e in
    let hl = subst (λ (z : ℤ). (pos 1 *ℤ lo) ≤ℤ (pos 0 *ℤ pos t +ℤ z)) (bare_lift s e) (subst (λ (u : Slope). (u.1 *ℤ lo) ≤ℤ (u.0 *ℤ pos t +ℤ (line_picked s).lift)) m w.2) in
    let hh = subst (λ (z : ℤ). (pos 0 *ℤ pos t +ℤ z) ≤ℤ (pos 1 *ℤ hi)) (bare_lift s e) (subst (λ (u : Slope). (u.0 *ℤ pos t +ℤ (line_picked s).lift) ≤ℤ (u.1 *ℤ hi)) m w.3) in
    subst (λ (p : Pick). (lo ≤ℤ height_at p t) × (height_at p t ≤ℤ hi)) (sym (no_points s.lows.len level_pick (anchored s) e))
    (meets_back (pos 0) (pos 0) (pos 0) (pos 0) lo hi 1 (pos t) (omega arith) refl hl hh)
height_by s r (suc k) e w =
    let n : 0 < s.lows.len = omega arith in
    let t = r.tick in
    let lo = low_of r.row in
    let hi = high_of r.row in
    let eo : (line_slope s).1 ≡ pos (anchored s).over = sym (abs_pos (line_slope s).1 s.positive) in
    let hl : (pos (anchored s).over *ℤ lo) ≤ℤ ((anchored s).rise *ℤ pos t +ℤ lift_of (anchored s)) =
    subst (λ (z : ℤ). (pos (anchored s).over *ℤ lo) ≤ℤ ((anchored s).rise *ℤ pos t +ℤ z)) (sym (lifted s n)) (subst (λ (u : ℤ). (u *ℤ lo) ≤ℤ ((anchored s).rise *ℤ pos t +ℤ (line_picked s).lift)) eo w.2) in
    let hh : ((anchored s).rise *ℤ pos t +ℤ lift_of (anchored s)) ≤ℤ (pos (anchored s).over *ℤ hi) =
    subst (λ (z : ℤ). ((anchored s).rise *ℤ pos t +ℤ z) ≤ℤ (pos (anchored s).over *ℤ hi)) (sym (lifted s n)) (subst (λ (u : ℤ). ((anchored s).rise *ℤ pos t +ℤ (line_picked s).lift) ≤ℤ (u *ℤ hi)) eo w.3) in
    subst (λ (p : Pick). (lo ≤ℤ height_at p t) × (height_at p t ≤ℤ hi)) (sym (pick_anchored s n))
    (∥∥₁_elim s.sound (×_prop (le_once _ _) (le_once _ _)) (λ x. (picked_so s n x).back t lo hi hl hh))

-- where the choice picked serves a reading, the height that the words say lies in its band
pub height_between : (s : Line) (r : Reading) → line_serves (line_picked s) r → (low_of r.row ≤ℤ height_at (line_pick s) r.tick) × (height_at (line_pick s) r.tick ≤ℤ high_of r.row)
height_between s r w = height_by s r s.lows.len refl w
