use Rattle.std.proofs.Common.{◌≡◌, ◌<◌, ◌≤◌, true, nat_lt, is_some, Option, Some, sym, ap, ◌∙◌, subst, ap₂, arith, w32, w64, SFits, rules}
use Rattle.std.proofs.lemmas.Bool.Decides.{nat_tests}
use mathlib.Core.Logic.{∥∥₁_elim}
use native.Mathlib.Bridge.{le_prop}
use Rattle.slope.specs.Slopes.{Slope}
use Rattle.hull.specs.declared.point.Point.{Point}
use Rattle.hull.specs.Hulls.{ends, topmost}
use Rattle.line.specs.declared.line.Line.{Line}
use Rattle.line.specs.declared.taken.Taken.{Taken}
use Rattle.line.specs.Picks.{pick_through, numbers_hold}
use Rattle.line.specs.LineMeaning.{Chosen, line_slope, line_pick}
use Rattle.line.specs.Choosing.{anchor_from, pick_anchored, chosen, line_anchor, anchored}
use Rattle.line.specs.Ranges.{Ranged, anchored_ranged, pick_held, coded, coded_height}
use Rattle.line.proofs.line.Line.choose.Goals as goal
use Rattle.line.specs.Spans.{first_of}

-- a state with a span has a low end
some_low : (s : Line) (t : Taken) → s.span ≡ Some t → 0 < s.lows.len
some_low s t e = let k : nat_lt 0 s.lows.len ≡ true = sym s.told ∙ ap is_some e in grind (arith, nat_tests)

-- the slope and the low end that the code finds are those picked through
module _ (s : Line) (t : Taken) (i : s.span ≡ Some t) (r : Slope) (p : Point) (e : r ≡ line_slope s) (f : p ≡ topmost r (ends s.lows)) where
  found : p ≡ line_anchor s
  found = f ∙ ap (λ (m : Slope). topmost m (ends s.lows)) e

  through : pick_through t.first r p ≡ anchored s
  through = ap₂ (pick_through t.first) e found ∙ ap (λ (o : Option Taken). pick_through (first_of o) (line_slope s) (line_anchor s)) (sym i)

  not_before : t.first ≤ p.tick
  not_before = subst (λ (o : Option Taken). first_of o ≤ p.tick) i (subst (λ (q : Point). first_of s.span ≤ q.tick) (sym found) (∥∥₁_elim s.sound le_prop (λ x. anchor_from s (some_low s t i) x)))

  in_range_through : Ranged (pick_through t.first r p)
  in_range_through = subst Ranged (sym through) (anchored_ranged s (some_low s t i))

  picked_through : pick_through t.first r p ≡ line_pick s
  picked_through = through ∙ sym (pick_anchored s (some_low s t i))

pub overflow_sub-overs : goal.overflow_sub-overs
overflow_sub-overs c = not_before c.args.self.now c.in-Some.span c.in-Some.is c.slope-slope.result c.highest-anchor.result c.slope-slope.ensures.is c.highest-anchor.ensures

pub pivot-requires-clause-order : goal.pivot-requires-clause-order
pivot-requires-clause-order c = not_before c.args.self.now c.in-Some.span c.in-Some.is c.slope-slope.result c.highest-anchor.result c.slope-slope.ensures.is c.highest-anchor.ensures

pub overflow_cast-result : goal.overflow_cast-result
overflow_cast-result c =
    let s = c.args.self.now in
    let r = c.slope-slope.result in
    let p = c.highest-anchor.result in
    let fh : SFits w32 p.height = search rules in
    let f0 : SFits w64 r.0 = search rules in
    let f1 : SFits w64 r.1 = search rules in
    coded_height c.in-Some.span.first r p c.height_before.result fh f0 f1 (in_range_through s c.in-Some.span c.in-Some.is r p c.slope-slope.ensures.is c.highest-anchor.ensures) c.height_before.ensures

pub returns : goal.returns
returns c =
    let s = c.args.self.now in
    let t = c.in-Some.span in
    let r = c.slope-slope.result in
    let p = c.highest-anchor.result in
    let fh : SFits w32 p.height = search rules in
    let f0 : SFits w64 r.0 = search rules in
    let f1 : SFits w64 r.1 = search rules in
    let is = coded t.first r p c.height_before.result fh f0 f1 (in_range_through s t c.in-Some.is r p c.slope-slope.ensures.is c.highest-anchor.ensures) c.height_before.ensures c.pivot.result c.pivot.ensures
    ∙ picked_through s t c.in-Some.is r p c.slope-slope.ensures.is c.highest-anchor.ensures in
    record { is = is; held = ap numbers_hold is ∙ pick_held s; chosen = λ z. subst (Chosen s) (sym is) (chosen s (some_low s t c.in-Some.is)) }
