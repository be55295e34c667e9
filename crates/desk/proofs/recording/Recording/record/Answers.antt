use Rattle.std.proofs.Common.{◌∙◌}
use Rattle.family.specs.Readings.{reading}
use Rattle.recorder.specs.Histories.{world}
use Rattle.recorder.proofs.Kept.{recorded_keeps}
use Rattle.desk.proofs.recording.Recording.record.Goals as goal

pub invariant_of-self : goal.invariant_of-self
invariant_of-self g c =
    let before = world c.args.self.now.tape c.args.family.now c.as_mut_slice.result.now in
    let after = world c.record.new.self c.record.new.family c.record.new.store in
    let k = recorded_keeps g.F.Family.meaning before after (reading c.args.tick c.args.row.now) c.record.result c.record.ensures.is in
    record { wide = k.wide ∙ c.args.self.now.wide; long = k.long ∙ c.args.self.now.long; room = c.args.self.now.room }
