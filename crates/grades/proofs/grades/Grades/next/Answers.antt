use Rattle.family.specs.Readings.{reading}
use Rattle.grades.proofs.Joins.{next_from}
use Rattle.grades.proofs.grades.Grades.next.Goals as goal

pub returns : goal.returns
returns c =
    let e = c.in_ok-mask.ensures in
    (e.0, next_from c.args.self.now (reading c.args.tick c.args.row.now) c.in_ok-mask.mask c.joined.result e.1 c.joined.ensures)
