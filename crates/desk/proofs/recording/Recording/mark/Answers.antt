use Rattle.std.proofs.Common.{◌∙◌}
use Rattle.recorder.proofs.Kept.{marking_keeps}
use Rattle.desk.proofs.recording.Recording.mark.Goals as goal

pub invariant_of-self : goal.invariant_of-self
invariant_of-self g c =
    let k = marking_keeps g.F.Family.meaning _ _ _ c.mark.ensures.is in
    record { wide = k.wide ∙ c.args.self.now.wide; long = k.long ∙ c.args.self.now.long; room = c.args.self.now.room }
