use Rattle.std.proofs.Common.{sym, ◌∙◌, arith}
use Rattle.hull.proofs.Newest.{popped_less}
use Rattle.hull.proofs.hull.Hull.drop_covered.Goals as goal

pub loop-p-preserved : goal.loop-p-preserved
loop-p-preserved c =
    let s = popped_less c.loop-p.self.points c.loop-p.self.len c.args.p (omega arith) (sym c.loop-p-test.ensures) in
    (omega arith, c.loop-p.invariant.1, s.1 ∙ c.loop-p.invariant.2)
