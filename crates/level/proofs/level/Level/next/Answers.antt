use Rattle.family.specs.Readings.{reading}
use Rattle.level.proofs.Joins.{next_from}
use Rattle.level.proofs.level.Level.next.Goals as goal

pub returns : goal.returns
returns c =
    let e = c.in_ok-band.ensures in
    (e.0, next_from c.args.self.now (reading c.args.tick c.args.row.now) c.in_ok-band.band c.joined.result e.1.1 e.1.2 c.joined.ensures)
