use Rattle.std.proofs.Common.{◌≡◌, ℕ, ◌+◌, ◌-◌, ◌<◌, true, false, Some, sym, ap, ◌∙◌, arith}
use Rattle.layout.specs.Layout.{last_in}
use Rattle.reader.specs.Tapes.{records_fault}
use Rattle.reader.proofs.Faults.{fault_record}
use Rattle.reader.proofs.tape.fault_in_records.Goals as goal

pub returns-then-not-is_next : goal.returns-then-not-is_next
returns-then-not-is_next g c =
    let r = c.args.records.now in
    let k : ℕ = c.loop-index.index in
    let more : 0 < r.count - k = omega arith in
    ap (λ (x : ℕ). Some x) c.place_at.ensures
    ∙ sym (fault_record g.F.Family.meaning r.width r.store.now (r.count - k) k c.loop-index.before c.at-record.result.words.now false more
    c.at-record.ensures (sym c.if-not-is_next.true ∙ c.is_next.ensures))
    ∙ c.loop-index.invariant

pub loop-index-preserved : goal.loop-index-preserved
loop-index-preserved g c =
    let m = g.F.Family.meaning in
    let r = c.args.records.now in
    let k : ℕ = c.loop-index.index in
    let ws = c.at-record.result.words.now in
    let more : 0 < r.count - k = omega arith in
    let less : r.count - (k + 1) ≡ (r.count - k) - 1 = omega arith in
    ap (λ (x : ℕ). records_fault m r.width r.store.now (r.count - (k + 1)) (k + 1) (Some x)) c.span.ensures.last
    ∙ ap (λ (x : ℕ). records_fault m r.width r.store.now x (k + 1) (Some (last_in ws))) less
    ∙ sym (fault_record m r.width r.store.now (r.count - k) k c.loop-index.before ws true more
    c.at-record.ensures (sym c.if-not-is_next.false ∙ c.is_next.ensures))
    ∙ c.loop-index.invariant
