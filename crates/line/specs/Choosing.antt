-- What a state that has taken a reading picks: the lowest of the allowed lines whose slope is nearest 0, by its first whole
-- height.
use Rattle.std.specs.Prelude.{◌≡◌, ℕ, zero, suc, ◌+◌, ◌-◌, ◌/◌, ◌%◌, ◌<◌, ◌≤◌, reverse, length, ℤ, pos, ◌-ℤ◌, ◌*ℤ◌, ◌≤ℤ◌, unsigned_abs, refl}
use Rattle.std.proofs.Common.{ap, sym, ◌∙◌, subst, arith}
use Rattle.std.proofs.Math.Logic.{∥∥₁_elim}
use Rattle.std.proofs.Math.Bridge.{le_prop}
use Rattle.std.proofs.Math.Nat.{ℕ_set}
use Rattle.std.proofs.Math.IntN.{ℤ_set}
use Rattle.std.specs.List.{AllByRecursion}
use Rattle.std.proofs.lemmas.List.{length-take}
use Rattle.std.proofs.lemmas.Int.{ints}
use Rattle.hull.specs.declared.point.Point.{Point}
use Rattle.line.specs.declared.line.Line.{Line}
use Rattle.line.specs.declared.pick.Pick.{Pick}
use Rattle.slope.specs.Divisor.{gcd_of}
use Rattle.slope.specs.Slopes.{Slope, nearest_of, Reduced}
use Rattle.hull.specs.Hulls.{ends, topmost}
use Rattle.hull.specs.Points.{NotBelow, lift}
use Rattle.hull.specs.Picked.{Picked}
use Rattle.line.specs.Sound.{Sound}
use Rattle.line.specs.Choices.{Choice}
use Rattle.line.specs.Picks.{where_none, level_pick, pick_through, lift_of}
use Rattle.line.specs.LineMeaning.{line_slope, line_pick, line_allows, line_picked, Chosen}
use Rattle.slope.proofs.Ring.{ring, lins, mul_le}
use Rattle.slope.proofs.Fractions.{pair_same}
use Rattle.hull.proofs.Once.{le_once, lt_once, serves_once}
use Rattle.slope.proofs.Absolute.{abs_pos}
use Rattle.hull.proofs.Anchors.{topmost_keeps}
use Rattle.hull.proofs.Pivots.{same_lift}
use Rattle.hull.proofs.Picks.{picked}
use Rattle.hull.proofs.Ranges.{all_both}
use Rattle.hull.proofs.Pushes.{all_unreverse, falling_all}
use Rattle.line.specs.Sloped.{reduced}
use Rattle.line.specs.Spans.{first_of, last_of, window}

abbrev StateSound : Line → Type 0
StateSound s = Sound s.lows s.highs s.bounds.least s.bounds.fall (first_of s.span) (last_of s.span)

-- the low end through which the line picked goes, and the pick through it
abbrev pub line_anchor : Line → Point
line_anchor s = topmost (line_slope s) (ends s.lows)

abbrev pub anchored : Line → Pick
anchored s = pick_through (first_of s.span) (line_slope s) (line_anchor s)

pub some_points : {A : Type 0} (n : ℕ) (a b : A) → 0 < n → where_none n a b ≡ b
some_points zero a b h = absurd (omega arith)
some_points (suc n) a b h = refl

pub no_points : {A : Type 0} (n : ℕ) (a b : A) → n ≡ 0 → where_none n a b ≡ a
no_points zero a b h = refl
no_points (suc n) a b h = absurd (omega arith)

module _ (s : Line) (n : 0 < s.lows.len) where
  abbrev over : ℕ
  over = unsigned_abs (line_slope s).1

  -- the slope by its rise and its over
  slope_pair : ◌≡◌ {A = Slope} (line_slope s) ((line_slope s).0, pos over)
  slope_pair = pair_same {a = (line_slope s).0} {a' = (line_slope s).0} refl (sym (abs_pos (line_slope s).1 s.positive))

  abbrev divisor : ℕ
  divisor = gcd_of (unsigned_abs (nearest_of s.bounds.least s.bounds.fall).0) (unsigned_abs (nearest_of s.bounds.least s.bounds.fall).1)

  pub full : 0 < length (ends s.lows)
  full = let z = length-take s.lows.len s.lows.points in let h = s.lows.sound in omega (arith, z, h)

  module _ (x : StateSound s) where
    ticks : AllByRecursion (λ p. (first_of s.span ≤ p.tick) × (p.tick ≤ last_of s.span)) (ends s.lows)
    ticks =
        let q : Point = record { tick = suc (last_of s.span); height = pos 0 } in
        let h : last_of s.span < suc (last_of s.span) = omega arith in
        all_both (λ p near late. (near.0, omega arith)) (ends s.lows) x.lows_near (all_unreverse (λ p. p.tick < suc (last_of s.span)) (ends s.lows) (falling_all q (reverse (ends s.lows)) (x.lows_fall q h)))

    anchor_ticks : (first_of s.span ≤ (line_anchor s).tick) × ((line_anchor s).tick ≤ last_of s.span)
    anchor_ticks = topmost_keeps (λ p. (first_of s.span ≤ p.tick) × (p.tick ≤ last_of s.span)) (line_slope s) (ends s.lows) full ticks

    pub picked_so : Picked (ends s.lows) (ends s.highs) (first_of s.span) (last_of s.span) (anchored s).pivot (anchored s).height (anchored s).rise (anchored s).over
    picked_so =
        let k = picked (ends s.lows) (ends s.highs) s.bounds.least s.bounds.fall (first_of s.span) (last_of s.span) (line_slope s).0 over divisor x.bounds x.some full ticks x.least_small x.fall_small (x.edges n)
        (subst (λ (r : Slope). Reduced (nearest_of s.bounds.least s.bounds.fall) r divisor) slope_pair (reduced _ _ _ _ _ _ x)) in
        let ea : topmost ((line_slope s).0, pos over) (ends s.lows) ≡ line_anchor s = ap (λ (r : Slope). topmost r (ends s.lows)) (sym slope_pair) in
        subst (λ (p : Point). Picked (ends s.lows) (ends s.highs) (first_of s.span) (last_of s.span) (first_of s.span + (p.tick - first_of s.span) % over) (p.height -ℤ (line_slope s).0 *ℤ pos ((p.tick - first_of s.span) / over)) (line_slope s).0 over) ea k

    anchored_lift : lift_of (anchored s) ≡ (line_picked s).lift
    anchored_lift =
        let o : 0 < over = (let e = abs_pos (line_slope s).1 s.positive in let h = s.positive in omega (arith, ints, e, h)) in
        same_lift (first_of s.span) (line_anchor s).tick over (line_slope s).0 (line_anchor s).height o anchor_ticks.0
        ∙ ap (λ (r : Slope). lift r (line_anchor s)) (sym slope_pair)

    pub anchor_from : first_of s.span ≤ (line_anchor s).tick
    anchor_from = anchor_ticks.0

    -- not above any other allowed line of its slope
    under : (c : Choice) → line_allows s c → c.rise *ℤ pos over ≡ (line_slope s).0 *ℤ c.over → (c.over *ℤ lift_of (anchored s)) ≤ℤ (pos over *ℤ c.lift)
    under c a e =
        let b = topmost_keeps (NotBelow c.rise c.over c.lift) (line_slope s) (ends s.lows) full a.1.lows in
        let m = simp ring at (mul_le (pos over) _ _ (omega (arith, ints)) b) in
        let f = simp ring at (ap (λ (z : ℤ). z *ℤ pos (line_anchor s).tick) e) in
        let l = anchored_lift ∙ ap (λ (r : Slope). lift r (line_anchor s)) slope_pair in
        subst (λ (z : ℤ). (c.over *ℤ z) ≤ℤ (pos over *ℤ c.lift)) (sym l) (simp ring (omega (arith, lins, m, f)))

    chosen_so : Chosen s (anchored s)
    chosen_so = let k = picked_so in record {
      above = k.serves.over;
      allowed = (λ z. (omega arith, (let h = window s.span in omega (arith, h))), k.serves);
      nearest = λ c a. k.nearest c.rise c.over c.lift a.1;
      lowest = under;
      coprime = k.coprime;
      from = k.from;
      soonest = k.soonest;
    }

  pub pick_anchored : line_pick s ≡ anchored s
  pick_anchored = some_points s.lows.len level_pick (anchored s) n

  pub lifted : lift_of (anchored s) ≡ (line_picked s).lift
  lifted = ∥∥₁_elim s.sound (ℤ_set _ _) anchored_lift

  pub chosen : Chosen s (line_pick s)
  chosen = subst (Chosen s) (sym pick_anchored) (record {
    above = ∥∥₁_elim s.sound (lt_once _ _) (λ x. (chosen_so x).above);
    allowed = (λ z. (omega arith, (let h = window s.span in omega (arith, h))), ∥∥₁_elim s.sound (serves_once _ _ _ _ _) (λ x. (chosen_so x).allowed.1));
    nearest = λ c a. ∥∥₁_elim s.sound (le_once _ _) (λ x. (chosen_so x).nearest c a);
    lowest = λ c a e. ∥∥₁_elim s.sound (le_once _ _) (λ x. (chosen_so x).lowest c a e);
    coprime = λ d p q. ∥∥₁_elim s.sound (ℕ_set _ _) (λ x. (chosen_so x).coprime d p q);
    from = ∥∥₁_elim s.sound le_prop (λ x. (chosen_so x).from);
    soonest = λ t h f e. ∥∥₁_elim s.sound le_prop (λ x. (chosen_so x).soonest t h f e);
  })
