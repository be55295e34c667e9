use Rattle.std.proofs.Common.{◌≡◌, pos, neg_ℤ, ◌≤ℤ◌, sym, ap, ◌∙◌, subst}
use mathlib.Core.Logic.{∥∥₁_elim}
use mathlib.Core.HLevel.{×_prop}
use Rattle.slope.specs.Slopes.{Slope, reduced_of}
use Rattle.line.specs.LineMeaning.{line_slope}
use Rattle.hull.proofs.Once.{le_once}
use Rattle.line.specs.Sloped.{slope_small}
use Rattle.line.proofs.line.Line.slope.Goals as goal

pub returns-clause-rise : goal.returns-clause-rise
returns-clause-rise c =
    let s = c.args.self.now in
    let e : c.reduced.result ≡ line_slope s = c.reduced.ensures ∙ ap reduced_of c.nearest.ensures in
    subst (λ (x : Slope). (neg_ℤ (pos 2000000) ≤ℤ x.0) × (x.0 ≤ℤ pos 2000000)) (sym e)
    (∥∥₁_elim s.sound (×_prop (le_once _ _) (le_once _ _)) (λ x. ((slope_small _ _ _ _ _ _ x).1, (slope_small _ _ _ _ _ _ x).2)))
