-- The search for a tick, one record on.
use Rattle.std.proofs.Common.{◌≡◌, ℕ, zero, suc, ◌+◌, ◌-◌, ◌<◌, Bool, cond, List, Ok, Err, sym, ap, ◌∙◌, arith}
use Rattle.words.specs.declared.refusal.Reason.TheVariants.{Unlawful}
use Rattle.words.specs.Refusals.{refusal_at}
use Rattle.family.specs.Meaning.{Meaning}
use Rattle.layout.specs.Layout.{place_at, record_at}
use Rattle.layout.specs.Records.{record_lawful, record_spans, find}

module _ {S : Type 0} (m : Meaning S) (w : ℕ) (store : List ℕ) (t : ℕ) where
  find_step : (left i : ℕ) → 0 < left → find m w store t left i ≡
      cond (record_lawful m (record_at w store i)) (cond (record_spans (record_at w store i) t) (Ok i) (find m w store t (left - 1) (i + 1))) (Err (refusal_at Unlawful (place_at w i)))
  find_step zero i h = absurd (omega arith)
  find_step (suc k) i h =
      let e : k ≡ suc k - 1 = omega arith in
      ap (λ (j : ℕ). cond (record_lawful m (record_at w store i)) (cond (record_spans (record_at w store i) t) (Ok i) (find m w store t j (i + 1))) (Err (refusal_at Unlawful (place_at w i)))) e

  -- with the words as they were read, and what was found of them
  pub find_record : (left i : ℕ) (ws : List ℕ) (a b : Bool) → 0 < left → ws ≡ record_at w store i → a ≡ record_lawful m ws → b ≡ record_spans ws t →
      find m w store t left i ≡ cond a (cond b (Ok i) (find m w store t (left - 1) (i + 1))) (Err (refusal_at Unlawful (place_at w i)))
  find_record left i ws a b h is ea eb =
      find_step left i h
      ∙ ap (λ (x : List ℕ). cond (record_lawful m x) (cond (record_spans x t) (Ok i) (find m w store t (left - 1) (i + 1))) (Err (refusal_at Unlawful (place_at w i)))) (sym is)
      ∙ ap (λ (x : Bool). cond x (cond (record_spans ws t) (Ok i) (find m w store t (left - 1) (i + 1))) (Err (refusal_at Unlawful (place_at w i)))) (sym ea)
      ∙ ap (λ (x : Bool). cond a (cond x (Ok i) (find m w store t (left - 1) (i + 1))) (Err (refusal_at Unlawful (place_at w i)))) (sym eb)
