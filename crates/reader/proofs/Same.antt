-- On a lawful tape the search that checks no record again answers as the one that does.
use Rattle.std.proofs.Common.{◌≡◌, ℕ, zero, suc, ◌+◌, Bool, true, false, cond, ◌&&◌, List, length, Some, None, Ok, Err, Option, Result, sym, refl, ap, ◌∙◌, arith}
use Rattle.std.proofs.lemmas.Bool.{and_parts, false≢true}
use Rattle.words.specs.declared.refusal.Reason.{Reason}
use Rattle.words.specs.declared.refusal.Reason.TheVariants.{NoSegment, Unlawful, WordsLength, BadTick}
use Rattle.words.specs.declared.refusal.Refusal.{Refusal}
use Rattle.words.specs.Refusals.{refusal_at}
use Rattle.words.specs.Words.{tick_in_range}
use Rattle.family.specs.Refusing.{first_refusal, refuse_unless, right}
use Rattle.family.specs.Meaning.{Meaning, value_refusal}
use Rattle.layout.specs.Layout.{place_at, record_at, first_in, last_in, pick_in}
use Rattle.layout.specs.Records.{framed, record_lawful, record_spans, find}
use Rattle.reader.specs.Tapes.{told_count, follows, records_fault, tape_fault, refuse_tape}
use Rattle.reader.specs.Reads.{unless_refused, row_tick_refusal, value_of, value_read}
use Rattle.reader.specs.Spans.{find_span, Opened, record_value, span_value, located, located_in}
use Rattle.reader.proofs.Lawful.{cond_none, none_records}

unless_none : (b : Bool) (why : Reason) → refuse_unless b why ≡ None → b ≡ true
unless_none true why e = refl
unless_none false why e = let z : ◌≡◌ {A = ℕ} 0 1 = cc in absurd (omega arith)

pub first_none : (o p : Option Refusal) → first_refusal o p ≡ None → (o ≡ None) × (p ≡ None)
first_none None p e = (refl, e)
first_none (Some f) p e = let z : ◌≡◌ {A = ℕ} 0 1 = cc in absurd (omega arith)

tape_none : (o : Option ℕ) → refuse_tape o ≡ None → o ≡ None
tape_none None e = refl
tape_none (Some p) e = let z : ◌≡◌ {A = ℕ} 0 1 = cc in absurd (omega arith)

-- nothing to refuse where every test passed
all_passed : (a b c d e : Bool) → a ≡ true → b ≡ true → c ≡ true → d ≡ true → e ≡ true →
    first_refusal (refuse_unless (a && b) WordsLength) (first_refusal (refuse_unless c BadTick) (first_refusal (refuse_unless d Unlawful) (refuse_unless e NoSegment))) ≡ None
all_passed true true true true true ea eb ec ed ee = refl
all_passed true true true true false ea eb ec ed ee = absurd (false≢true ee)
all_passed true true true false e ea eb ec ed ee = absurd (false≢true ed)
all_passed true true false d e ea eb ec ed ee = absurd (false≢true ec)
all_passed true false c d e ea eb ec ed ee = absurd (false≢true eb)
all_passed false b c d e ea eb ec ed ee = absurd (false≢true ea)

module _ {S : Type 0} (m : Meaning S) (store : List ℕ) (t n : ℕ) where
  -- a lawful record that spans the tick says its value, where row and tick are right
  pub record_says : (ws : List ℕ) → row_tick_refusal m n t ≡ None → record_lawful m ws ≡ true → record_spans ws t ≡ true → record_value m ws t n ≡ Ok (m.value (pick_in ws) t)
  record_says ws asked lawful spanning =
      let row_tick = first_none (refuse_unless (right m.value_width n) WordsLength) (refuse_unless (tick_in_range t) BadTick) asked in
      let pick = (and_parts (framed ws) _ lawful).1 in
      let parts = and_parts (right m.pick_width (length (pick_in ws))) (m.lawful (pick_in ws) (first_in ws) (last_in ws)) pick in
      let none : value_refusal m (pick_in ws) (first_in ws) (last_in ws) t n ≡ None =
      all_passed (right m.value_width n) (right m.pick_width (length (pick_in ws))) (tick_in_range t) (m.lawful (pick_in ws) (first_in ws) (last_in ws)) (record_spans ws t)
      (unless_none _ WordsLength row_tick.0) parts.0 (unless_none _ BadTick row_tick.1) parts.1 spanning in
      ap (λ (o : Option Refusal). unless_refused o (Ok (m.value (pick_in ws) t))) none

  -- by whether record i spans the tick, with the answers of the records after it
  one_same : (i : ℕ) (b : Bool) (x y : Result ℕ Refusal) → b ≡ record_spans (record_at m.pick_width store i) t → row_tick_refusal m n t ≡ None
      → record_lawful m (record_at m.pick_width store i) ≡ true → span_value m m.pick_width store t n x ≡ value_of m store t y
      → span_value m m.pick_width store t n (cond b (Ok i) x) ≡ value_of m store t (cond b (Ok i) y)
  one_same i true x y e asked lawful later = record_says (record_at m.pick_width store i) asked lawful (sym e)
  one_same i false x y e asked lawful later = later

  records_same : row_tick_refusal m n t ≡ None → (k i : ℕ) (before : Option ℕ) → records_fault m m.pick_width store k i before ≡ None
      → span_value m m.pick_width store t n (find_span m.pick_width store t k i) ≡ value_of m store t (find m m.pick_width store t k i)
  records_same asked zero i before e = refl
  records_same asked (suc k) i before e =
      let w = m.pick_width in
      let here = record_at w store i in
      let passed = cond_none (follows before here && record_lawful m here) (records_fault m w store k (i + 1) (Some (last_in here))) (place_at w i) e in
      let lawful = (and_parts (follows before here) (record_lawful m here) passed.0).1 in
      one_same i (record_spans here t) (find_span w store t k (i + 1)) (find m w store t k (i + 1)) refl asked lawful
      (records_same asked k (i + 1) (Some (last_in here)) passed.1)
      ∙ ap (λ (b : Bool). value_of m store t (cond b (cond (record_spans here t) (Ok i) (find m w store t k (i + 1))) (Err (refusal_at Unlawful (place_at w i))))) (sym lawful)

  by_refusals : (a : Option Refusal) (f : Option ℕ) → a ≡ row_tick_refusal m n t → f ≡ tape_fault m store
      → span_value m m.pick_width store t n (unless_refused (first_refusal a (refuse_tape f)) (find_span m.pick_width store t (told_count store) 0))
      ≡ unless_refused (first_refusal a (refuse_tape f)) (value_of m store t (find m m.pick_width store t (told_count store) 0))
  by_refusals (Some r) f ea ef = refl
  by_refusals None (Some p) ea ef = refl
  by_refusals None None ea ef = records_same (sym ea) (told_count store) 0 None (none_records m store (sym ef))

  -- the one-shot answer
  pub same_read : span_value m m.pick_width store t n (located_in m store t n) ≡ value_read m store t n
  same_read = by_refusals (row_tick_refusal m n t) (tape_fault m store) refl refl

  -- the answer of a checked tape
  pub same_checked : (w count : ℕ) → Opened m store w count → span_value m w store t n (located m w store count t n) ≡ value_read m store t n
  same_checked w count o =
      ap (λ (x : ℕ). span_value m x store t n (located m x store count t n)) o.width
      ∙ ap (λ (x : ℕ). span_value m m.pick_width store t n (located m m.pick_width store x t n)) o.count
      ∙ go (row_tick_refusal m n t)
      ∙ same_read
    where
      go : (a : Option Refusal) → span_value m m.pick_width store t n (unless_refused a (find_span m.pick_width store t (told_count store) 0))
          ≡ span_value m m.pick_width store t n (unless_refused (first_refusal a (refuse_tape (tape_fault m store))) (find_span m.pick_width store t (told_count store) 0))
      go (Some f) = refl
      go None = ap (λ (p : Option Refusal). span_value m m.pick_width store t n (unless_refused p (find_span m.pick_width store t (told_count store) 0))) (sym o.lawful)
