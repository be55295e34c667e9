-- A reading fits a state exactly where it comes later, within 255 ticks of the first, and the bounds of the slope with it meet.
use Rattle.std.proofs.Common.{◌≡◌, ℕ, zero, suc, ◌+◌, ◌<◌, ◌≤◌, true, ◌∷◌, ℤ, pos, ◌+ℤ◌, ◌*ℤ◌, ◌≤ℤ◌, Some, None, Option, sym, refl, subst, arith}
use mathlib.Core.Bool.{Bool-set}
use mathlib.Core.Logic.{∥∥₁_elim, ∥∥₁_map}
use Rattle.std.specs.List.{AllByRecursion}
use Rattle.std.proofs.lemmas.Int.{ints}
use Rattle.family.specs.Readings.{Reading, Above}
use Rattle.family.specs.Meaning.{Fits}
use Rattle.family.specs.Bands.{low_of, high_of}
use Rattle.hull.specs.declared.hull.Hull.{Hull}
use Rattle.line.specs.declared.line.Line.{Line}
use Rattle.slope.specs.Slopes.{Slope, meeting, nearest_of}
use Rattle.hull.specs.Hulls.{ends, steepest_to, pushed, topmost}
use Rattle.hull.specs.Points.{lift, Near}
use Rattle.hull.specs.Lines.{Serves, Within}
use Rattle.line.specs.Sound.{Sound}
use Rattle.line.specs.Choices.{Choice, low_end, high_end}
use Rattle.line.specs.Picks.{where_none}
use Rattle.line.specs.LineMeaning.{line_meaning, Reaches}
use Rattle.hull.proofs.Once.{serves_once}
use Rattle.line.specs.Takes.{joint_line, bounds_meet, sound_after, no_ends}
use Rattle.hull.proofs.Ranges.{edge_at}
use Rattle.line.specs.Choosing.{some_points, no_points}
use Rattle.line.specs.Serving.{at_both, with_reading, falls_low, falls_high}
use Rattle.line.specs.Spans.{first_of, last_of, window}

-- the bounds of the slope with a reading taken
abbrev pub least_with : Line → Reading → Slope
least_with s r = steepest_to (low_end r) s.bounds.least (ends s.highs)

abbrev pub fall_with : Line → Reading → Slope
fall_with s r = steepest_to (high_end r) s.bounds.fall (ends s.lows)

abbrev pub Meets : Line → Reading → Type 0
Meets s r = meeting (least_with s r) (fall_with s r) ≡ true

-- the band is not empty
ordered : (r : Reading) → low_of r.row ≤ℤ high_of r.row → ((low_end r).height +ℤ (high_end r).height) ≤ℤ pos 0
ordered r h = omega (arith, ints, h)

module _ (s : Line) (r : Reading) (h : Reaches s r.tick) (w : low_of r.row ≤ℤ high_of r.row) where
  abbrev StateSound : Type 0
  StateSound = Sound s.lows s.highs s.bounds.least s.bounds.fall (first_of s.span) (last_of s.span)

  later : 0 < s.lows.len → last_of s.span < r.tick
  later n = (h n).0

  abbrev joint : Slope
  joint = nearest_of (least_with s r) (fall_with s r)

  serving : Meets s r → Serves (low_end r ∷ ends s.lows) (high_end r ∷ ends s.highs) joint.0 joint.1 (lift joint (topmost joint (low_end r ∷ ends s.lows)))
  serving m = ∥∥₁_elim s.sound (serves_once _ _ _ _ _) (λ x.
      joint_line s.lows s.highs s.bounds.least s.bounds.fall (low_end r) (high_end r) x.bounds (falls_low s (low_end r) later x) (falls_high s (high_end r) later x) refl (ordered r w) m)

  -- a line that serves the state's readings and this one
  abbrev joint_choice : Meets s r → Choice
  joint_choice m = record {
    start = where_none s.lows.len r.tick (first_of s.span);
    rise = joint.0;
    over = joint.1;
    lift = lift joint (topmost joint (low_end r ∷ ends s.lows));
    above = (serving m).over;
  }

  above_last : (n : ℕ) → s.lows.len ≡ n → Above (where_none s.lows.len None (Some (last_of s.span))) r.tick
  above_last zero e = subst (λ (o : Option ℕ). Above o r.tick) (sym (no_points s.lows.len None (Some (last_of s.span)) e)) tt
  above_last (suc n) e = let p : 0 < s.lows.len = omega arith in subst (λ (o : Option ℕ). Above o r.tick) (sym (some_points s.lows.len None (Some (last_of s.span)) p)) (later p)

  starts : (n : ℕ) → s.lows.len ≡ n → (where_none s.lows.len r.tick (first_of s.span) ≤ r.tick) × (r.tick ≤ where_none s.lows.len r.tick (first_of s.span) + 255)
  starts zero e = let z = no_points s.lows.len r.tick (first_of s.span) e in (omega (arith, z), omega (arith, z))
  starts (suc n) e = let p : 0 < s.lows.len = omega arith in let z = some_points s.lows.len r.tick (first_of s.span) p in let b = h p in let o = window s.span in (omega (arith, z, b, o), omega (arith, z, b))

  pub fits_from : Meets s r → Fits line_meaning s r
  fits_from m =
      let l = serving m in
      let z = starts s.lows.len refl in
      record {
        above = above_last s.lows.len refl;
        some = record {
          by = joint_choice m;
          allowed = (λ n. (let e = some_points s.lows.len r.tick (first_of s.span) n in let o = window s.span in (omega (arith, e), omega (arith, e, o))), record { over = l.over; lows = l.lows.1; highs = l.highs.1 });
          serving = at_both (joint_choice m) r z.0 z.1 l.lows.0 l.highs.0;
        };
      }

  pub fits_meets : Fits line_meaning s r → Meets s r
  fits_meets f =
      let c = f.some.by in
      let l = with_reading c r _ _ f.some.serving f.some.allowed.1 in
      ∥∥₁_elim s.sound (Bool-set _ _) (λ x. bounds_meet s.lows s.highs s.bounds.least s.bounds.fall (low_end r) (high_end r) x.bounds (falls_low s (low_end r) later x) (falls_high s (high_end r) later x) refl (ordered r w) c.rise c.over c.lift l)

  module _ (nl : Near r.tick (low_end r)) (nh : Near r.tick (high_end r)) (m : Meets s r)
      (lows' highs' : Hull) (p q : Slope) (el : ends lows' ≡ pushed (ends s.lows) (low_end r)) (eh : ends highs' ≡ pushed (ends s.highs) (high_end r)) (ep : p ≡ least_with s r) (eq : q ≡ fall_with s r) where
    next_sound : (first' : ℕ) → r.tick ≤ first' + 255 → first' ≤ r.tick → (x : StateSound) → AllByRecursion (Near first') (ends s.lows) → AllByRecursion (Near first') (ends s.highs)
        → ((r₀ u k : ℤ) → Serves (low_end r ∷ ends s.lows) (high_end r ∷ ends s.highs) r₀ u k → Within u (r₀ *ℤ pos first' +ℤ k)) → Sound lows' highs' p q first' r.tick
    next_sound first' win f x al ah edge =
        sound_after s.lows s.highs s.bounds.least s.bounds.fall (low_end r) (high_end r) x.bounds (falls_low s (low_end r) later x) (falls_high s (high_end r) later x) refl (ordered r w)
        first' win (f, nl.1, nl.2) (f, nh.1, nh.2) al ah x.least_small x.fall_small edge lows' highs' p q el eh ep eq m

    by_count : (n : ℕ) → s.lows.len ≡ n → StateSound → Sound lows' highs' p q (where_none s.lows.len r.tick (first_of s.span)) r.tick
    by_count zero e x =
        let z = no_points s.lows.len r.tick (first_of s.span) e in
        let eh0 : s.highs.len ≡ 0 = (let k = s.room in omega (arith, k)) in
        subst (λ (f : ℕ). Sound lows' highs' p q f r.tick) (sym z)
        (next_sound r.tick (omega arith) (omega arith) x (subst (AllByRecursion (Near r.tick)) (sym (no_ends s.lows e)) tt) (subst (AllByRecursion (Near r.tick)) (sym (no_ends s.highs eh0)) tt)
        (λ r₀ u k l. edge_at r.tick (low_end r) (high_end r) r₀ u k l.over refl nl nh l.lows.0 l.highs.0))
    by_count (suc n) e x =
        let i : 0 < s.lows.len = omega arith in
        let z = some_points s.lows.len r.tick (first_of s.span) i in
        let b = h i in
        let o = window s.span in
        subst (λ (f : ℕ). Sound lows' highs' p q f r.tick) (sym z)
        (next_sound (first_of s.span) b.1 (omega (arith, b, o)) x x.lows_near x.highs_near
        (λ r₀ u k l. (x.edges i r₀ u k (record { over = l.over; lows = l.lows.1; highs = l.highs.1 })).0))

    pub taken_sound : ∥ Sound lows' highs' p q (where_none s.lows.len r.tick (first_of s.span)) r.tick ∥₁
    taken_sound = ∥∥₁_map s.sound (λ x. by_count s.lows.len refl x)

-- a reading that fits reaches
pub fits_reaches : (s : Line) (r : Reading) → Fits line_meaning s r → Reaches s r.tick
fits_reaches s r f n =
    let a = subst (λ (o : Option ℕ). Above o r.tick) (some_points s.lows.len None (Some (last_of s.span)) n) f.above in
    let w = f.some.allowed.0 n in
    let v = f.some.serving.1 in
    (a, omega (arith, w, v))
