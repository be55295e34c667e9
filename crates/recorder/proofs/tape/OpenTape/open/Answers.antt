use Rattle.std.proofs.Common.{rules}
use Rattle.recorder.proofs.Whole.{after_opening}
use Rattle.recorder.proofs.tape.OpenTape.open.Goals as goal

pub returns-clause-law : goal.returns-clause-law
returns-clause-law g c = after_opening g.F.Family.meaning g.met.F.Family.laws c.args.store.now (search rules)
