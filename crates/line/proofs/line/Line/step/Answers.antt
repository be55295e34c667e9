use Rattle.std.proofs.Common.{ℤ, neg_ℤ, sym, ap, ◌∙◌, subst}
use Rattle.family.specs.Readings.{reading}
use Rattle.line.specs.Choices.{point}
use Rattle.line.specs.Steps.{Steps}
use Rattle.line.proofs.Stepping.{steps_where}
use Rattle.line.proofs.line.Line.step.Goals as goal

pub returns : goal.returns
returns c =
    let s = c.args.self.now in
    let r = reading c.args.tick c.args.row.now in
    let e = c.in_ok-band.ensures in
    let b = c.in_ok-band.band in
    let k = c.in-Some.ensures in (
      e.0,
      subst (Steps s r) (sym c.then_some.ensures)
          (steps_where s r c.low_end-low.result c.high_end-high.result c.bounds_with-bounds.result.least c.bounds_with-bounds.result.fall c.in-Some.span
          (c.low_end-low.ensures ∙ ap (point c.args.tick) e.1.1) (c.high_end-high.ensures ∙ ap (λ (z : ℤ). point c.args.tick (neg_ℤ z)) e.1.2)
          c.bounds_with-bounds.ensures.least c.bounds_with-bounds.ensures.fall k.0 k.1 k.2 b.low b.high e.1.1 e.1.2 e.1.0
          c.meet.result c.meet.ensures),
    )
