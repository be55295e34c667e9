use Rattle.family.specs.Readings.{reading}
use Rattle.family.proofs.Extends.{extended}
use Rattle.family.proofs.run.extend.Goals as goal

pub returns : goal.returns
returns g c = record {
  taken = c.take.ensures;
  run = λ rs x. extended g.F.Family.meaning g.met.F.Family.laws c.args.family.now c.take.new.self
      (reading c.args.tick c.args.row.now) c.take.result rs c.take.ensures x;
}
