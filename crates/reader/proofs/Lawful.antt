-- The check finds no fault exactly in the words of lawful tapes.
use Rattle.std.proofs.Common.{◌≡◌, ℕ, zero, suc, ◌+◌, ◌<◌, ◌≤◌, Bool, true, false, cond, ◌&&◌, eqb, ltb, leb, List, length, get_or, Some, None, Option, refl, ◌∙◌, subst, inl, inr, arith}
use Rattle.std.proofs.lemmas.Bool.{and_parts, and_from, cond-true, cases_eq, ltb-true, lt-ltb, leb-true, le-leb, eqb-true, eq-eqb}
use Rattle.words.specs.declared.kind.Kind.TheVariants.{Count}
use Rattle.words.specs.Words.{of_kind}
use Rattle.family.specs.Meaning.{Meaning}
use Rattle.layout.specs.Layout.{places_of, place_at, tape_word, record_at, first_in, last_in}
use Rattle.layout.specs.Records.{record_lawful}
use Rattle.reader.specs.Tapes.{told_count, follows, LawfulTape, records_fault, tape_fault}

-- no fault: the test passed, and what follows has none
pub cond_none : (b : Bool) (x : Option ℕ) (p : ℕ) → cond b x (Some p) ≡ None → (b ≡ true) × (x ≡ None)
cond_none true x p e = (refl, e)
cond_none false x p e = let z : ◌≡◌ {A = ℕ} 0 1 = cc in absurd (omega arith)

module _ {S : Type 0} (m : Meaning S) (w : ℕ) (store : List ℕ) where
  -- what k records from record i on keep, after the END before
  pub record Keeping (k i : ℕ) (before : Option ℕ) : Type 0 where
    pub first : 0 < k → follows before (record_at w store i) ≡ true
    pub lawful : (j : ℕ) → i ≤ j → j < i + k → record_lawful m (record_at w store j) ≡ true
    pub order : (j : ℕ) → i ≤ j → j + 1 < i + k → last_in (record_at w store j) < first_in (record_at w store (j + 1))

  pub none_keeping : (k i : ℕ) (before : Option ℕ) → records_fault m w store k i before ≡ None → Keeping k i before
  none_keeping zero i before e =
      record { first = λ h. absurd (omega arith); lawful = λ j lo hi. absurd (omega arith); order = λ j lo hi. absurd (omega arith) }
  none_keeping (suc k) i before e =
      let here = record_at w store i in
      let passed = cond_none (follows before here && record_lawful m here) (records_fault m w store k (i + 1) (Some (last_in here))) (place_at w i) e in
      let parts = and_parts (follows before here) (record_lawful m here) passed.0 in
      let later = none_keeping k (i + 1) (Some (last_in here)) passed.1 in
      record {
        first = λ _. parts.0;
        lawful = λ j lo hi. elim (cases_eq i j) [
          | inl e ↦ subst (λ (x : ℕ). record_lawful m (record_at w store x) ≡ true) e parts.1
          | inr n ↦ later.lawful j (omega arith) (omega arith)
        ];
        order = λ j lo hi. elim (cases_eq i j) [
          | inl e ↦ subst (λ (x : ℕ). last_in (record_at w store x) < first_in (record_at w store (x + 1))) e (ltb-true _ _ (later.first (omega arith)))
          | inr n ↦ later.order j (omega arith) (omega arith)
        ];
      }

  pub keeping_none : (k i : ℕ) (before : Option ℕ) → Keeping k i before → records_fault m w store k i before ≡ None
  keeping_none zero i before h = refl
  keeping_none (suc k) i before h =
      let here = record_at w store i in
      let test = and_from (follows before here) (record_lawful m here) (h.first (omega arith)) (h.lawful i (omega arith) (omega arith)) in
      cond-true (follows before here && record_lawful m here) (records_fault m w store k (i + 1) (Some (last_in here))) (Some (place_at w i)) test
      ∙ keeping_none k (i + 1) (Some (last_in here)) (record {
        first = λ more. lt-ltb _ _ (h.order i (omega arith) (omega arith));
        lawful = λ j lo hi. h.lawful j (omega arith) (omega arith);
        order = λ j lo hi. h.order j (omega arith) (omega arith);
      })

module _ {S : Type 0} (m : Meaning S) (store : List ℕ) where
  pub none_lawful : tape_fault m store ≡ None → LawfulTape m store
  none_lawful e =
      let w = m.pick_width in
      let n = told_count store in
      let one = cond_none (ltb 0 (length store) && eqb (get_or store 0 0) (tape_word w)) _ 0 e in
      let two = cond_none (ltb 1 (length store) && (of_kind Count (get_or store 1 0) && leb n (places_of w (length store)))) _ 1 one.1 in
      let a = and_parts (ltb 0 (length store)) _ one.0 in
      let b = and_parts (ltb 1 (length store)) _ two.0 in
      let c = and_parts (of_kind Count (get_or store 1 0)) _ b.1 in
      let keeps = none_keeping m w store n 0 None two.1 in
      record {
        tape = (ltb-true _ _ a.0, eqb-true _ _ a.1);
        count = (ltb-true _ _ b.0, c.0, leb-true _ _ c.1);
        records = λ i h. keeps.lawful i (omega arith) (omega arith);
        first = keeps.first;
        order = λ i h. keeps.order i (omega arith) (omega arith);
      }

  pub lawful_none : LawfulTape m store → tape_fault m store ≡ None
  lawful_none l =
      let w = m.pick_width in
      let n = told_count store in
      let size = length store in
      let a = and_from (ltb 0 size) (eqb (get_or store 0 0) (tape_word w)) (lt-ltb _ _ l.tape.0) (eq-eqb _ _ l.tape.1) in
      let c = and_from (of_kind Count (get_or store 1 0)) (leb n (places_of w size)) l.count.1 (le-leb _ _ l.count.2) in
      let b = and_from (ltb 1 size) (of_kind Count (get_or store 1 0) && leb n (places_of w size)) (lt-ltb _ _ l.count.0) c in
      cond-true (ltb 0 size && eqb (get_or store 0 0) (tape_word w)) _ (Some 0) a
      ∙ cond-true (ltb 1 size && (of_kind Count (get_or store 1 0) && leb n (places_of w size))) _ (Some 1) b
      ∙ keeping_none m w store n 0 None (record {
        first = l.first;
        lawful = λ j lo hi. l.records j (omega arith);
        order = λ j lo hi. l.order j (omega arith);
      })

  pub some_unlawful : (p : ℕ) → Some p ≡ tape_fault m store → LawfulTape m store → ⊥
  some_unlawful p e l = let d : Some p ≡ None = e ∙ lawful_none l in let z : ◌≡◌ {A = ℕ} 0 1 = cc in omega arith

  -- a tape with no fault has none in its records
  pub none_records : tape_fault m store ≡ None → records_fault m m.pick_width store (told_count store) 0 None ≡ None
  none_records e =
      let one = cond_none (ltb 0 (length store) && eqb (get_or store 0 0) (tape_word m.pick_width)) _ 0 e in
      (cond_none (ltb 1 (length store) && (of_kind Count (get_or store 1 0) && leb (told_count store) (places_of m.pick_width (length store)))) _ 1 one.1).1
