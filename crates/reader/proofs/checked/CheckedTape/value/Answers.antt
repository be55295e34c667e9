use Rattle.std.proofs.Common.{ℕ, List, length, Result, ap, ◌∙◌, subst}
use Rattle.words.specs.declared.refusal.Refusal.{Refusal}
use Rattle.reader.specs.Reads.{AnswersRow}
use Rattle.reader.specs.Spans.{span_value}
use Rattle.reader.proofs.Same.{same_checked}
use Rattle.reader.proofs.checked.CheckedTape.value.Goals as goal

pub returns : goal.returns
returns g c =
    let m = g.F.Family.meaning in
    let tape = c.args.self.now in
    let store = tape.records.store.now in
    let row = c.args.row.now in
    let t = c.args.tick in
    let found = ap (λ (r : Result ℕ Refusal). span_value m tape.records.width store t (length row) r) c.locate-found.ensures in
    let answered : Result (List ℕ) Refusal → Type 0 = λ a. AnswersRow a row c.read_found.result c.read_found.new.row in
    record {
      is = subst answered found c.read_found.ensures;
      same = λ o. subst answered (found ∙ same_checked m store t (length row) tape.records.width tape.records.count o) c.read_found.ensures;
    }
