use Rattle.std.proofs.Common.{◌≡◌, ℕ, ◌+◌, ◌-◌, ◌<◌, true, false, Err, sym, refl, ap, ◌∙◌, arith}
use Rattle.words.specs.declared.refusal.Reason.TheVariants.{Unlawful}
use Rattle.words.specs.declared.refusal.Refusal.{Refusal}
use Rattle.words.specs.Refusals.{refusal_at}
use Rattle.layout.specs.Records.{find}
use Rattle.layout.proofs.Finds.{find_record}
use Rattle.layout.proofs.records.Records.find.Goals as goal

pub returns-then-not-is_lawful-clause-is : goal.returns-then-not-is_lawful-clause-is
returns-then-not-is_lawful-clause-is g c =
    let r = c.args.self.now in
    let k : ℕ = c.loop-index.index in
    let more : 0 < r.count - k = omega arith in
    let at : c.at.result ≡ refusal_at Unlawful _ = c.at.ensures ∙ ap (refusal_at Unlawful) c.place_at.ensures in
    ap (λ (f : Refusal). Err f) at
    ∙ sym (find_record g.F.Family.meaning r.width r.store.now c.args.tick (r.count - k) k c.at-record.result.words.now false _ more
    c.at-record.ensures (sym c.if-not-is_lawful.true ∙ c.is_lawful.ensures.is) refl)
    ∙ c.loop-index.invariant

pub returns-then-spans-clause-is : goal.returns-then-spans-clause-is
returns-then-spans-clause-is g c =
    let r = c.args.self.now in
    let k : ℕ = c.loop-index.index in
    let more : 0 < r.count - k = omega arith in
    sym (find_record g.F.Family.meaning r.width r.store.now c.args.tick (r.count - k) k c.at-record.result.words.now true true more
    c.at-record.ensures c.if-not-is_lawful.ensures.is c.if-spans.ensures)
    ∙ c.loop-index.invariant

pub loop-index-preserved : goal.loop-index-preserved
loop-index-preserved g c =
    let m = g.F.Family.meaning in
    let r = c.args.self.now in
    let k : ℕ = c.loop-index.index in
    let more : 0 < r.count - k = omega arith in
    let less : r.count - (k + 1) ≡ (r.count - k) - 1 = omega arith in
    ap (λ (x : ℕ). find m r.width r.store.now c.args.tick x (k + 1)) less
    ∙ sym (find_record m r.width r.store.now c.args.tick (r.count - k) k c.at-record.result.words.now true false more
    c.at-record.ensures c.if-not-is_lawful.ensures.is c.if-spans.ensures)
    ∙ c.loop-index.invariant
