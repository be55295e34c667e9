use Rattle.std.proofs.Common.{rules}
use Rattle.recorder.proofs.Whole.{after_marking}
use Rattle.recorder.proofs.tape.OpenTape.mark.Goals as goal

pub returns-in_err-as_opened-clause-law : goal.returns-in_err-as_opened-clause-law
returns-in_err-as_opened-clause-law g c = after_marking g.F.Family.meaning g.met.F.Family.laws (search rules)

pub returns-clause-law : goal.returns-clause-law
returns-clause-law g c = after_marking g.F.Family.meaning g.met.F.Family.laws (search rules)
