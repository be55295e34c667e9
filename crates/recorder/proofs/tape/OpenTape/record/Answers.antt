use Rattle.family.specs.Readings.{reading}
use Rattle.recorder.proofs.Whole.{after_recording}
use Rattle.recorder.proofs.tape.OpenTape.record.Goals as goal

pub returns-clause-law : goal.returns-clause-law
returns-clause-law g c = after_recording g.F.Family.meaning g.met.F.Family.laws (reading c.args.tick c.args.row.now) c.enter.result _ _ c.enter.ensures.is
