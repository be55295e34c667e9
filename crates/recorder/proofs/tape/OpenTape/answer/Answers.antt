use Rattle.std.proofs.Common.{◌≡◌, ℕ, Bool, false, List, length, None, Result, sym, ◌∙◌, subst}
use Rattle.words.specs.declared.refusal.Refusal.{Refusal}
use Rattle.family.specs.Refusing.{first_refusal, spans}
use Rattle.reader.specs.Reads.{AnswersRow, row_tick_refusal}
use Rattle.recorder.specs.declared.tape.Phase.TheVariants.{Running}
use Rattle.recorder.specs.Views.{View}
use Rattle.recorder.specs.Steps.{opened_refusal}
use Rattle.recorder.specs.Asking.{by_phase, records_value}
use Rattle.recorder.proofs.Asks.{by_rest, not_spanned, same_width, row_tick_fine, records_say}
use Rattle.recorder.proofs.tape.OpenTape.answer.Goals as goal
use Rattle.recorder.proofs.tape.OpenTape.answer.Goals.{in-Running+else-holds, in_default}

pub returns : goal.returns
returns g c =
    let m = g.F.Family.meaning in
    let i = c.self.inside in
    let tape : View = record { width = i.width; length = i.length; places = i.places; written = i.written; phase = i.phase } in
    let s = c.args.family.now in
    let store = c.args.store.now in
    let row = c.args.row.now in
    let t = c.args.tick in
    let may = subst (λ (v : View). first_refusal (opened_refusal v m.pick_width (length store)) (row_tick_refusal m (length row) t) ≡ None) (sym c.self.view_is) c.requires in
    let rest : Result (List ℕ) Refusal = records_value m store tape.written t in
    let says = records_say m store tape.width t (length row) tape.written c.find-found.result
    (same_width m tape (length store) _ may) (row_tick_fine m _ (length row) t may) c.find-found.ensures.is c.find-found.ensures.found in
    let apart : (f l : ℕ) (b : Bool) → tape.phase ≡ Running f l b → spans f l t ≡ false =
    elim c.match-self.branch [
      | in-Running+else-holds w ↦ not_spanned m tape.phase w.in-Running.first w.in-Running.last w.in-Running.batch t w.in-Running.is (sym w.if-holds.ensures)
      | in_default w ↦ λ f l b e. absurd (w.in_default.not-Running f l b e)
    ] in
    let read = subst (λ (x : Result (List ℕ) Refusal). AnswersRow x row c.read_found.result c.read_found.new.row)
    (says ∙ sym (by_rest m tape.phase s t rest apart)) c.read_found.ensures in
    subst (λ (v : View). AnswersRow (by_phase m v.phase s t (records_value m store v.written t)) row c.read_found.result c.read_found.new.row) c.self.view_is read
