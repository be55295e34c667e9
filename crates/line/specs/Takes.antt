-- A reading taken into a state: which lines serve it too, and that the state is sound then.
use Rattle.std.specs.Prelude.{◌<ℤ◌, ◌≡◌, ℕ, ◌+◌, ◌<◌, ◌≤◌, true, List, [], ◌∷◌, reverse, take, ℤ, pos, ◌+ℤ◌, ◌*ℤ◌, ◌≤ℤ◌, refl}
use Rattle.std.proofs.Common.{ap, ap₂, sym, ◌∙◌, subst, inr, arith}
use Rattle.std.specs.List.{AllByRecursion}
use Rattle.std.proofs.ByRecursion.{All-weaker}
use Rattle.std.proofs.lemmas.Int.{ints}
use Rattle.hull.specs.declared.point.Point.{Point}
use Rattle.hull.specs.declared.hull.Hull.{Hull}
use Rattle.slope.specs.Slopes.{Slope, unbounded, meeting, nearest_of, Bound, Small}
use Rattle.hull.specs.Hulls.{steepest_to, pushed, ends, Falling, topmost}
use Rattle.hull.specs.Points.{reaching, lift, Near}
use Rattle.hull.specs.Lines.{Serves, Bounds, Within}
use Rattle.line.specs.Sound.{Sound}
use Rattle.slope.proofs.Ring.{lins}
use Rattle.hull.proofs.Steepest.{steepest_small}
use Rattle.hull.proofs.Fits.{bounds_more, fits_no}
use Rattle.slope.proofs.NearZero.{nearest_is}
use Rattle.hull.proofs.Anchors.{anchor_serves}
use Rattle.hull.proofs.Ranges.{all_both, reach_small, edge_at}
use Rattle.hull.proofs.Pushes.{all_unreverse, falling_all, falling_next, push_in, served, bounds_pushed}

-- low ends and high ends, turned over, with bounds of the slope that they leave, and a reading from a to b behind them
module _ (lows highs : Hull) (least fall : Slope) (a b : Point) (bounds : Bounds (ends lows) (ends highs) least fall)
    (fl : Falling a (reverse (ends lows))) (fh : Falling b (reverse (ends highs))) (e : a.tick ≡ b.tick) (w : (a.height +ℤ b.height) ≤ℤ pos 0) where
  abbrev least' : Slope
  least' = steepest_to a least (ends highs)

  abbrev fall' : Slope
  fall' = steepest_to b fall (ends lows)

  lows_before : AllByRecursion (λ x. x.tick < b.tick) (ends lows)
  lows_before = All-weaker (λ x. x.tick < a.tick) (λ x. x.tick < b.tick) (λ x h. omega arith) (ends lows) (all_unreverse (λ x. x.tick < a.tick) (ends lows) (falling_all a (reverse (ends lows)) fl))

  highs_before : AllByRecursion (λ y. y.tick < a.tick) (ends highs)
  highs_before = All-weaker (λ y. y.tick < b.tick) (λ y. y.tick < a.tick) (λ y h. omega arith) (ends highs) (all_unreverse (λ y. y.tick < b.tick) (ends highs) (falling_all b (reverse (ends highs)) fh))

  after : Bounds (a ∷ ends lows) (b ∷ ends highs) least' fall'
  after = bounds_more (ends lows) (ends highs) least fall a b bounds e w lows_before highs_before

  -- where the bounds meet, the line of the slope nearest 0 through the highest low end serves them all
  pub joint_over : meeting least' fall' ≡ true → pos 0 <ℤ (nearest_of least' fall').1
  joint_over m = (nearest_is least' fall' after.low after.high (omega (arith, lins))).over

  pub joint_line : meeting least' fall' ≡ true →
      Serves (a ∷ ends lows) (b ∷ ends highs) (nearest_of least' fall').0 (nearest_of least' fall').1 (lift (nearest_of least' fall') (topmost (nearest_of least' fall') (a ∷ ends lows)))
  joint_line m =
      let n = nearest_is least' fall' after.low after.high (omega (arith, lins)) in
      let s = nearest_of least' fall' in
      anchor_serves (a ∷ ends lows) (b ∷ ends highs) s.0 s.1 n.over (omega arith) (after.enough s.0 s.1 n.over n.low n.high)

  -- where a line serves them all, the bounds meet
  pub bounds_meet : (r u k : ℤ) → Serves (a ∷ ends lows) (b ∷ ends highs) r u k → meeting least' fall' ≡ true
  bounds_meet r u k l = let o = fits_no (a ∷ ends lows) (b ∷ ends highs) least' fall' r u k after l in sym (omega (arith, lins))

  module _ (first' : ℕ) (window : a.tick ≤ first' + 255) (na : Near first' a) (nb : Near first' b)
      (nl : AllByRecursion (Near first') (ends lows)) (nh : AllByRecursion (Near first') (ends highs)) (sl : Small least) (sf : Small fall)
      (edge : (r u k : ℤ) → Serves (a ∷ ends lows) (b ∷ ends highs) r u k → Within u (r *ℤ pos first' +ℤ k))
      (lows' highs' : Hull) (p q : Slope) (el : ends lows' ≡ pushed (ends lows) a) (eh : ends highs' ≡ pushed (ends highs) b) (ep : p ≡ least') (eq : q ≡ fall') where
    pub sound_after : meeting least' fall' ≡ true → Sound lows' highs' p q first' a.tick
    sound_after m =
        let wb : b.tick ≤ first' + 255 = omega arith in
        let k = bounds_pushed a b (ends lows) (ends highs) least' fall' fl fh after in
        record {
          bounds = subst (λ (l : List Point). Bounds l (ends highs') p q) (sym el) (subst (λ (l : List Point). Bounds (pushed (ends lows) a) l p q) (sym eh)
              (subst (λ (x : Slope). Bounds (pushed (ends lows) a) (pushed (ends highs) b) x q) (sym ep) (subst (λ (y : Slope). Bounds (pushed (ends lows) a) (pushed (ends highs) b) least' y) (sym eq) k)));
          some = ap₂ meeting ep eq ∙ m;
          lows_fall = λ x g. subst (λ (l : List Point). Falling x (reverse l)) (sym el) (falling_next (ends lows) a x g fl);
          highs_fall = λ x g. let g2 : b.tick < x.tick = omega arith in subst (λ (l : List Point). Falling x (reverse l)) (sym eh) (falling_next (ends highs) b x g2 fh);
          lows_near = subst (AllByRecursion (Near first')) (sym el) (push_in (Near first') (ends lows) a (na, nl));
          highs_near = subst (AllByRecursion (Near first')) (sym eh) (push_in (Near first') (ends highs) b (nb, nh));
          least_small = subst Small (sym ep) (steepest_small (λ y. reaching y a) least (ends highs) sl (all_both (λ y g ny. reach_small first' y a g window na ny) (ends highs) highs_before nh));
          fall_small = subst Small (sym eq) (steepest_small (λ x. reaching x b) fall (ends lows) sf (all_both (λ x g nx. reach_small first' x b g wb nb nx) (ends lows) lows_before nl));
          edges = λ z r u k l.
              let d = served a b (ends lows) (ends highs) r u k fl fh (subst (λ (x : List Point). Serves x (pushed (ends highs) b) r u k) el (subst (λ (y : List Point). Serves (ends lows') y r u k) eh l)) in
              (edge r u k d, edge_at first' a b r u k d.over e na nb d.lows.0 d.highs.0);
        }

pub no_ends : (h : Hull) → h.len ≡ 0 → ends h ≡ []
no_ends h e = ap (λ (n : ℕ). take n h.points) e

pub sound_none : (lows highs : Hull) → lows.len ≡ 0 → highs.len ≡ 0 → Sound lows highs unbounded unbounded 0 0
unfolding Bound
sound_none lows highs zl zh =
    let el = no_ends lows zl in
    let eh = no_ends highs zh in
    record {
      bounds = subst (λ (l : List Point). Bounds l (ends highs) unbounded unbounded) (sym el) (subst (λ (l : List Point). Bounds [] l unbounded unbounded) (sym eh)
          (record { enough = λ r u hu p q. tt; needed = λ r u hu s. (omega (arith, ints), omega (arith, ints)); low = inr (refl, omega (arith, ints)); high = inr (refl, omega (arith, ints)) }));
      some = refl;
      lows_fall = λ p g. subst (λ (l : List Point). Falling p (reverse l)) (sym el) tt;
      highs_fall = λ p g. subst (λ (l : List Point). Falling p (reverse l)) (sym eh) tt;
      lows_near = subst (AllByRecursion (Near 0)) (sym el) tt;
      highs_near = subst (AllByRecursion (Near 0)) (sym eh) tt;
      least_small = (omega (arith, ints), omega (arith, ints), omega (arith, ints));
      fall_small = (omega (arith, ints), omega (arith, ints), omega (arith, ints));
      edges = λ y. absurd (omega arith);
    }

-- nothing taken: every line
pub sound_bare : (lows highs : Hull) (least fall : Slope) → lows.len ≡ 0 → highs.len ≡ 0 → least ≡ unbounded → fall ≡ unbounded → ∥ Sound lows highs least fall 0 0 ∥₁
sound_bare lows highs least fall zl zh el ef = ∣ subst (λ (p : Slope). Sound lows highs p fall 0 0) (sym el) (subst (λ (q : Slope). Sound lows highs unbounded q 0 0) (sym ef) (sound_none lows highs zl zh)) ∣₁
