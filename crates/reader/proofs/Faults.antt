-- The check of a tape's records, one record on.
use Rattle.std.proofs.Common.{◌≡◌, ℕ, zero, suc, ◌+◌, ◌-◌, ◌<◌, Bool, cond, ◌&&◌, List, Some, Option, sym, ap, ◌∙◌, arith}
use Rattle.family.specs.Meaning.{Meaning}
use Rattle.layout.specs.Layout.{place_at, record_at, last_in}
use Rattle.layout.specs.Records.{record_lawful}
use Rattle.reader.specs.Tapes.{follows, records_fault}

module _ {S : Type 0} (m : Meaning S) (w : ℕ) (store : List ℕ) where
  fault_step : (left i : ℕ) (before : Option ℕ) → 0 < left → records_fault m w store left i before ≡
      cond (follows before (record_at w store i) && record_lawful m (record_at w store i)) (records_fault m w store (left - 1) (i + 1) (Some (last_in (record_at w store i)))) (Some (place_at w i))
  fault_step zero i before h = absurd (omega arith)
  fault_step (suc k) i before h =
      let e : k ≡ suc k - 1 = omega arith in
      ap (λ (j : ℕ). cond (follows before (record_at w store i) && record_lawful m (record_at w store i)) (records_fault m w store j (i + 1) (Some (last_in (record_at w store i)))) (Some (place_at w i))) e

  -- with the words as they were read, and what was found of them
  pub fault_record : (left i : ℕ) (before : Option ℕ) (ws : List ℕ) (b : Bool) → 0 < left → ws ≡ record_at w store i → b ≡ (follows before ws && record_lawful m ws) →
      records_fault m w store left i before ≡ cond b (records_fault m w store (left - 1) (i + 1) (Some (last_in ws))) (Some (place_at w i))
  fault_record left i before ws b h is eb =
      fault_step left i before h
      ∙ ap (λ (x : List ℕ). cond (follows before x && record_lawful m x) (records_fault m w store (left - 1) (i + 1) (Some (last_in x))) (Some (place_at w i))) (sym is)
      ∙ ap (λ (x : Bool). cond x (records_fault m w store (left - 1) (i + 1) (Some (last_in ws))) (Some (place_at w i))) (sym eb)
