-- The words of the pick: what each of them is, and what is read back from them.
use Rattle.std.proofs.Common.{◌≡◌, ℕ, ◌+◌, ◌-◌, ◌/◌, ◌%◌, ◌<◌, ◌≤◌, true, List, length, ℤ, pos, ◌+ℤ◌, ◌-ℤ◌, ◌*ℤ◌, neg_ℤ, ◌≤ℤ◌, sym, subst, arith}
use Rattle.std.specs.List.{AllByRecursion}
use Rattle.std.proofs.lemmas.Int.{ints}
use Rattle.slope.specs.Slopes.{Slope, meeting, nearest_of, Nearest, Reduced, Small}
use Rattle.slope.specs.Values.{value_at}
use Rattle.slope.proofs.Ring.{lins, le_of_mul}
use Rattle.slope.proofs.Floors.{meets_back}
use Rattle.slope.proofs.NearZero.{nearest_is, reduced_nearest}
use Rattle.slope.proofs.Small.{small_nearest, small_reduced}
use Rattle.hull.specs.declared.point.Point.{Point}
use Rattle.hull.specs.Points.{lift}
use Rattle.hull.specs.Hulls.{topmost}
use Rattle.hull.specs.Lines.{Serves, Bounds, Within}
use Rattle.hull.specs.Picked.{Picked}
use Rattle.hull.proofs.Fits.{line_slopes}
use Rattle.hull.proofs.Pivots.{pivot_upto, same_lift, soonest}
use Rattle.hull.proofs.Anchors.{topmost_keeps, anchor_serves, anchor_lowest}
use Rattle.hull.proofs.Ranges.{within_between}

module _ (ls ms : List Point) (least fall : Slope) (first last : ℕ) (rise : ℤ) (over g : ℕ)
    (bounds : Bounds ls ms least fall) (some : meeting least fall ≡ true) (full : 0 < length ls)
    (ticks : AllByRecursion (λ p. (first ≤ p.tick) × (p.tick ≤ last)) ls)
    (least_small : Small least) (fall_small : Small fall)
    (edges : (r u k : ℤ) → Serves ls ms r u k → Within u (r *ℤ pos first +ℤ k) × Within u (r *ℤ pos last +ℤ k))
    (reduced : Reduced (nearest_of least fall) (rise, pos over) g) where
  near : Nearest least fall (rise, pos over)
  near = reduced_nearest least fall (nearest_of least fall) (rise, pos over) g (nearest_is least fall bounds.low bounds.high (omega (arith, lins, some))) reduced

  small : Small (rise, pos over)
  small = small_reduced (nearest_of least fall) (rise, pos over) g reduced (small_nearest least fall least_small fall_small)

  abbrev anchor : Point
  anchor = topmost (rise, pos over) ls

  abbrev pivot : ℕ
  pivot = first + (anchor.tick - first) % over

  abbrev height : ℤ
  height = anchor.height -ℤ rise *ℤ pos ((anchor.tick - first) / over)

  abbrev k : ℤ
  k = pos over *ℤ height -ℤ rise *ℤ pos pivot

  some_over : 0 < over
  some_over = let h = near.over in omega (arith, ints, h)

  inside : (first ≤ anchor.tick) × (anchor.tick ≤ last)
  inside = topmost_keeps (λ p. (first ≤ p.tick) × (p.tick ≤ last)) (rise, pos over) ls full ticks

  lifted : k ≡ lift (rise, pos over) anchor
  lifted = same_lift first anchor.tick over rise anchor.height some_over inside.0

  serving : Serves ls ms rise (pos over) k
  serving = subst (Serves ls ms rise (pos over)) (sym lifted) (anchor_serves ls ms rise (pos over) near.over full (bounds.enough rise (pos over) near.over near.low near.high))

  whole : rise *ℤ pos pivot +ℤ k ≡ pos over *ℤ height
  whole = omega (arith, lins)

  between_ends : (t : ℕ) → first ≤ t → t ≤ last → Within (pos over) (rise *ℤ pos t +ℤ k)
  between_ends t h l = let e = edges rise (pos over) k serving in within_between rise (pos over) k (pos first) (pos t) (pos last) (omega (arith, ints)) (omega (arith, ints)) e.0 e.1

  upto_last : pivot ≤ last
  upto_last = let u = pivot_upto first anchor.tick over some_over inside.0 in let i = inside in omega (arith, u, i)

  height_within : (neg_ℤ (pos 1000000) ≤ℤ height) × (height ≤ℤ pos 1000000)
  height_within =
      let w = between_ends pivot (omega arith) upto_last in
      let wl = subst (λ (z : ℤ). (pos over *ℤ neg_ℤ (pos 1000000)) ≤ℤ z) whole w.0 in
      let wh = subst (λ (z : ℤ). z ≤ℤ (pos over *ℤ pos 1000000)) whole w.1 in
      (le_of_mul (pos over) (neg_ℤ (pos 1000000)) height near.over wl, le_of_mul (pos over) height (pos 1000000) near.over wh)

  read_back : (t : ℕ) (low high : ℤ) → (pos over *ℤ low) ≤ℤ (rise *ℤ pos t +ℤ k) → (rise *ℤ pos t +ℤ k) ≤ℤ (pos over *ℤ high)
      → (low ≤ℤ value_at pivot height rise over t) × (value_at pivot height rise over t ≤ℤ high)
  read_back t low high hl hh = meets_back rise k (pos pivot) height low high over (pos t) some_over whole hl hh

  pub picked : Picked ls ms first last pivot height rise over
  picked = record {
    serves = serving;
    nearest = λ r u x s. let n = bounds.needed r u s.over (line_slopes ls ms r u x s) in near.least r u n.0 n.1;
    lowest = λ x s. subst (λ (z : ℤ). z ≤ℤ x) (sym lifted) (anchor_lowest ls ms rise (pos over) x full s);
    coprime = reduced.least;
    from = omega arith;
    soonest = λ t h f e. soonest first anchor.tick over rise anchor.height t h some_over inside.0 reduced.least f (subst (λ (z : ℤ). rise *ℤ pos t +ℤ z ≡ pos over *ℤ h) lifted e);
    upto = upto_last;
    near = (pivot_upto first anchor.tick over some_over inside.0).1;
    over_small = (let h = small.0 in omega (arith, ints, h));
    rise_low = small.1;
    rise_high = small.2;
    height_low = height_within.0;
    height_high = height_within.1;
    back = read_back;
    inside = λ t h l. let w = between_ends t h l in read_back t (neg_ℤ (pos 1000000)) (pos 1000000) w.0 w.1;
  }
