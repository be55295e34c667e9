use Rattle.std.proofs.Common.{Some, sym, refl, ap, ◌∙◌}
use Rattle.std.proofs.lemmas.Bool.{false≢true}
use Rattle.words.specs.declared.refusal.Refusal.{Refusal}
use Rattle.reader.specs.Tapes.{refuse_tape}
use Rattle.reader.proofs.Lawful.{none_lawful, some_unlawful}
use Rattle.reader.proofs.tape.check.Goals as goal

pub returns-in-None : goal.returns-in-None
returns-in-None g c =
    let e = c.in-None.ensures in
    record { is = (ap refuse_tape (sym e), tt); lawful = (λ _. none_lawful g.F.Family.meaning c.args.store.now (sym e), λ _. refl) }

pub returns-in-Some : goal.returns-in-Some
returns-in-Some g c =
    let e = c.in-Some.ensures in
    record {
      is = ap refuse_tape (sym e) ∙ ap (λ (f : Refusal). Some f) (sym c.at.ensures);
      lawful = (λ f. absurd (false≢true f), λ l. absurd (some_unlawful g.F.Family.meaning c.args.store.now c.in-Some.place e l));
    }
