use Rattle.std.proofs.Common.{◌≡◌, ◌-◌, None}
use Rattle.reader.specs.Tapes.{records_fault}
use Rattle.reader.proofs.tape.fault_in_records.Given as goal

abbrev pub invariant-loop-index : goal.invariant-loop-index
invariant-loop-index g l = records_fault g.F.Family.meaning l.records.width l.records.store.now (l.records.count - l.index) l.index l.before ≡ records_fault g.F.Family.meaning l.records.width l.records.store.now l.records.count 0 None
