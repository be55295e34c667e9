use Rattle.recorder.proofs.Whole.{law}
use Rattle.recorder.proofs.tape.OpenTape.close.Goals as goal

pub returns-in-Err-clause-law : goal.returns-in-Err-clause-law
returns-in-Err-clause-law g c = λ log d. law g.F.Family.meaning g.met.F.Family.laws log _ d

pub returns-in_default-phase-clause-law : goal.returns-in_default-phase-clause-law
returns-in_default-phase-clause-law g c = λ log d. law g.F.Family.meaning g.met.F.Family.laws log _ d

pub returns-clause-law : goal.returns-clause-law
returns-clause-law g c = λ log d. law g.F.Family.meaning g.met.F.Family.laws log _ d
