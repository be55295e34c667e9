use Rattle.std.proofs.Common.{true, false, rules, ap, ◌∙◌, arith}
use Rattle.std.specs.Option.{ok_or}
use Rattle.std.proofs.lemmas.Iterator.{first_from_Range}
use Rattle.reader.proofs.Firsts.{Spans, first_found}
use Rattle.reader.proofs.walk.find_span.Goals as goal

pub returns : goal.returns
returns c =
    let r = c.args.records.now in
    c.ok_or.ensures.value ∙ ap (ok_or c.find.result) c.new.ensures
    ∙ first_found r.width r.store.now c.args.tick r.count 0 r.count c.find.result (omega arith)
    (first_from_Range _ _ _ c.find.result (Spans r.width r.store.now c.args.tick true) (Spans r.width r.store.now c.args.tick false) c.find.ensures.ran
    (λ x q k. search rules) (λ x q k. search rules))
