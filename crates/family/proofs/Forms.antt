-- What is known where no check refuses.
use Rattle.std.proofs.Common.{◌≡◌, ℕ, ◌<◌, ◌≤◌, Bool, true, false, ◌&&◌, List, length, is_some, Some, None, Decides, Option, refl, arith}
use Rattle.std.proofs.lemmas.Bool.{false≢true}
use Rattle.std.proofs.lemmas.Bool.Decides.{nat_tests}
use Rattle.words.specs.declared.refusal.Reason.TheVariants.{RowLength, BadTick, NoChoice, NoSegment, Unlawful, WordsLength}
use Rattle.words.specs.declared.refusal.Refusal.{Refusal}
use Rattle.words.specs.Words.{tick_in_range}
use Rattle.family.specs.Readings.{Reading}
use Rattle.family.specs.Refusing.{first_refusal, refuse_unless, refuse_if, refuse_word, right, spans}
use Rattle.family.specs.Meaning.{Meaning, Fits, Next, form_refusal, value_refusal}

formed_parts : (a b : Bool) (o : Option ℕ) → first_refusal (refuse_unless a BadTick) (first_refusal (refuse_unless b RowLength) (refuse_word o)) ≡ None → (a ≡ true) × (b ≡ true) × (o ≡ None)
formed_parts true true None h = (refl, refl, refl)
formed_parts true true (Some i) h = grind arith
formed_parts true false o h = grind arith
formed_parts false b o h = grind arith

pub refusal_parts : (o : Option Refusal) (b : Bool) → first_refusal o (refuse_if b NoChoice) ≡ None → (o ≡ None) × (b ≡ false)
refusal_parts None false h = (refl, refl)
refusal_parts None true h = grind arith
refusal_parts (Some f) b h = grind arith

pub right_length : (w n : ℕ) → right w n ≡ true → (w < 65535) × (n ≡ w)
right_length w n h = grind (arith, nat_tests)

module _ {S : Type 0} (m : Meaning S) (r : Reading) (h : form_refusal m r ≡ None) where
  pub formed : (tick_in_range r.tick ≡ true) × (right m.row_width (length r.row) ≡ true) × (m.wrong_word r ≡ None)
  formed = formed_parts (tick_in_range r.tick) (right m.row_width (length r.row)) (m.wrong_word r) h

-- a state after taking is there exactly where the reading fits
pub next_decides : {S : Type 0} (m : Meaning S) (s : S) (r : Reading) (o : Option S) → Next m s r o → Decides (is_some o) (Fits m s r)
next_decides m s r None h = (λ e. absurd (false≢true e), λ f. absurd (h f))
next_decides m s r (Some t) h = (λ e. h.0, λ f. refl)

value_checks : (a b c d : Bool) → first_refusal (refuse_unless a WordsLength) (first_refusal (refuse_unless b BadTick) (first_refusal (refuse_unless c Unlawful) (refuse_unless d NoSegment))) ≡ None → (a ≡ true) × (b ≡ true) × (c ≡ true) × (d ≡ true)
value_checks true true true true h = (refl, refl, refl, refl)
value_checks true true true false h = grind arith
value_checks true true false d h = grind arith
value_checks true false c d h = grind arith
value_checks false b c d h = grind arith

-- where reading a value is not refused, the words are lawful and the tick is from first to last
pub value_passed : {S : Type 0} (m : Meaning S) (ws : List ℕ) (f l t n : ℕ) → value_refusal m ws f l t n ≡ None → (m.lawful ws f l ≡ true) × (f ≤ t) × (t ≤ l)
value_passed m ws f l t n h =
    let k = value_checks (right m.value_width n && right m.pick_width (length ws)) (tick_in_range t) (m.lawful ws f l) (spans f l t) h in
    let s = k.3 in
    (k.2, grind (arith, nat_tests), grind (arith, nat_tests))
