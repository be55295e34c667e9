use Rattle.std.proofs.Common.{ℕ, List, length, Result, ap, ◌∙◌, subst}
use Rattle.words.specs.declared.refusal.Refusal.{Refusal}
use Rattle.reader.specs.Reads.{AnswersRow}
use Rattle.reader.specs.Spans.{span_value}
use Rattle.reader.proofs.Same.{same_read}
use Rattle.reader.proofs.reading.value.Goals as goal

pub returns : goal.returns
returns g c =
    let m = g.F.Family.meaning in
    let row = c.args.row.now in
    let t = c.args.tick in
    let tape = c.told_records.result in
    let told = c.told_records.ensures in
    let found = c.locate_in-found.result in
    let width = ap (λ (w : ℕ). span_value m w tape.store.now t (length row) found) told.width in
    let store = ap (λ (s : List ℕ). span_value m m.pick_width s t (length row) found) told.store in
    let located = ap (λ (r : Result ℕ Refusal). span_value m m.pick_width c.args.store.now t (length row) r) c.locate_in-found.ensures in
    subst (λ (a : Result (List ℕ) Refusal). AnswersRow a row c.read_found.result c.read_found.new.row)
    (width ∙ store ∙ located ∙ same_read m c.args.store.now t (length row)) c.read_found.ensures
