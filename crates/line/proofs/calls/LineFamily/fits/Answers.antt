use Rattle.std.proofs.lemmas.Bool.Decides.{Decides-at}
use Rattle.family.specs.Readings.{reading}
use Rattle.line.proofs.Stepping.{step_decides}
use Rattle.line.proofs.calls.LineFamily.fits.Goals as goal

pub returns : goal.returns
returns c =
    let e = c.in_ok-step.ensures in (
      e.0,
      Decides-at c.is_some.result _ c.is_some.ensures
          (step_decides c.args.self.now (reading c.args.tick c.args.row.now) c.in_ok-step.field-0 e.1),
    )
