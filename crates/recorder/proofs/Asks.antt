-- What asking answers, from what its calls ensure.
use Rattle.std.proofs.Common.{◌≡◌, ℕ, ◌<◌, Bool, true, false, ◌&&◌, eqb, List, IfOk, None, Ok, Err, Option, Result, refl, ap, ◌∙◌, subst, arith, eqb-true}
use Rattle.std.proofs.lemmas.Bool.{and_parts, cond-false}
use Rattle.words.specs.declared.refusal.Reason.TheVariants.{OtherStore}
use Rattle.words.specs.declared.refusal.Refusal.{Refusal}
use Rattle.family.specs.Refusing.{first_refusal, refuse_unless, spans}
use Rattle.family.specs.Meaning.{Meaning}
use Rattle.layout.specs.Layout.{record_at}
use Rattle.layout.specs.Records.{find, Found}
use Rattle.reader.specs.Reads.{row_tick_refusal, value_of}
use Rattle.reader.specs.Spans.{span_value}
use Rattle.reader.proofs.Same.{record_says, first_none}
use Rattle.recorder.specs.declared.tape.Phase.{Phase}
use Rattle.recorder.specs.declared.tape.Phase.TheVariants.{Fresh, Waiting, Running}
use Rattle.recorder.specs.Views.{View}
use Rattle.recorder.specs.Steps.{opened_refusal}
use Rattle.recorder.specs.Asking.{by_phase, records_value}

unless_passed : (b : Bool) → refuse_unless b OtherStore ≡ None → b ≡ true
unless_passed true e = refl
unless_passed false e = let z : ◌≡◌ {A = ℕ} 0 1 = cc in absurd (omega arith)

module _ {S : Type 0} (m : Meaning S) where
  -- where the open run does not span the tick, the records answer
  pub by_rest : (q : Phase) (s : S) (t : ℕ) (rest : Result (List ℕ) Refusal) → ((f l : ℕ) (b : Bool) → q ≡ Running f l b → spans f l t ≡ false) → by_phase m q s t rest ≡ rest
  by_rest Fresh s t rest h = refl
  by_rest (Waiting l) s t rest h = refl
  by_rest (Running f l b) s t rest h = cond-false _ _ _ (h f l b refl)

  pub not_spanned : (q : Phase) (f l : ℕ) (b : Bool) (t : ℕ) → q ≡ Running f l b → spans f l t ≡ false → (g k : ℕ) (c : Bool) → q ≡ Running g k c → spans g k t ≡ false
  not_spanned q f l b t e h g k c d =
      let p : g ≡ f = cc in
      let r : k ≡ l = cc in
      ap (λ (x : ℕ). spans x k t) p ∙ ap (λ (x : ℕ). spans f x t) r ∙ h

  -- the two checks of asking, apart
  pub same_width : (v : View) (n : ℕ) (rest : Option Refusal) → first_refusal (opened_refusal v m.pick_width n) rest ≡ None → m.pick_width ≡ v.width
  same_width v n rest e =
      let b = unless_passed (eqb m.pick_width v.width && eqb n v.length) (first_none (opened_refusal v m.pick_width n) rest e).0 in
      eqb-true m.pick_width v.width (and_parts (eqb m.pick_width v.width) (eqb n v.length) b).0

  pub row_tick_fine : (o : Option Refusal) (n t : ℕ) → first_refusal o (row_tick_refusal m n t) ≡ None → row_tick_refusal m n t ≡ None
  row_tick_fine o n t e = (first_none o (row_tick_refusal m n t) e).1

  -- the record that the search found says its value
  found_says : (store : List ℕ) (t n k : ℕ) (x : Result ℕ Refusal) → row_tick_refusal m n t ≡ None → IfOk x (λ i. (i < k) × Found m m.pick_width store t i) → span_value m m.pick_width store t n x ≡ value_of m store t x
  found_says store t n k (Ok i) asked h = record_says m store t n (record_at m.pick_width store i) asked h.1.lawful h.1.spanning
  found_says store t n k (Err f) asked h = refl

  pub records_say : (store : List ℕ) (w t n k : ℕ) (x : Result ℕ Refusal) → m.pick_width ≡ w → row_tick_refusal m n t ≡ None → x ≡ find m w store t k 0 → IfOk x (λ i. (i < k) × Found m w store t i) →
      span_value m w store t n x ≡ records_value m store k t
  records_say store w t n k x e asked is h =
      subst (λ (j : ℕ). x ≡ find m j store t k 0 → IfOk x (λ i. (i < k) × Found m j store t i) → span_value m j store t n x ≡ records_value m store k t) e
      (λ y z. found_says store t n k x asked z ∙ ap (value_of m store t) y) is h
