use Rattle.recorder.proofs.Whole.{law}
use Rattle.recorder.proofs.calls.law.Goals as goal

pub returns : goal.returns
returns g c = law g.F.Family.meaning g.met.F.Family.laws
