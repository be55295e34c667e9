use Rattle.std.proofs.Common.{◌≡◌, ◌-◌}
use Rattle.layout.specs.Records.{find}
use Rattle.layout.proofs.records.Records.find.Given as goal

abbrev pub invariant-loop-index : goal.invariant-loop-index
invariant-loop-index g l =
    find g.F.Family.meaning l.self.width l.self.store.now l.tick (l.self.count - l.index) l.index
    ≡ find g.F.Family.meaning l.self.width l.self.store.now l.tick l.self.count 0
