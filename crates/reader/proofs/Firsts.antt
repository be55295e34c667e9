-- The first record that spans a tick, from what is known of each record's span.
use Rattle.std.proofs.Common.{◌≡◌, ℕ, zero, suc, ◌+◌, ◌<◌, ◌≤◌, Bool, true, false, cond, List, Some, None, Ok, MatchOption, Option, ◌⊎◌, inl, inr, sym, refl, ap, ◌∙◌, arith}
use Rattle.std.specs.Option.{ok_or}
use Rattle.std.proofs.lemmas.Bool.{false≢true, cases_lt}
use Rattle.words.specs.declared.refusal.Reason.TheVariants.{NoSegment}
use Rattle.words.specs.Refusals.{refusal_of}
use Rattle.layout.specs.Layout.{record_at}
use Rattle.layout.specs.Records.{record_spans}
use Rattle.reader.specs.Spans.{find_span}

module _ (w : ℕ) (store : List ℕ) (t : ℕ) where
  abbrev pub Spans : Bool → ℕ → Type 0
  Spans b i = record_spans (record_at w store i) t ≡ b

  -- r is the first of the records from i up to n, if any, that spans the tick
  abbrev pub IsFirst : ℕ → ℕ → Option ℕ → Type 0
  IsFirst i n r = MatchOption r ((k : ℕ) → i ≤ k → k < n → Spans false k) (λ j. (i ≤ j) × (j < n) × Spans true j × ((k : ℕ) → i ≤ k → k < j → Spans false k))

  later : (i n : ℕ) (r : Option ℕ) → Spans false i → IsFirst i n r → IsFirst (i + 1) n r
  later i n None e h = λ k a b. h k (omega arith) b
  later i n (Some j) e h = (above, h.1, h.2, λ k a b. h.3 k (omega arith) b)
    where
      above : i + 1 ≤ j
      above = go (cases_lt i j)
        where
          go : (i < j) ⊎ (j ≤ i) → i + 1 ≤ j
          go (inl a) = omega arith
          go (inr a) = let same : j ≡ i = (let b = h.0 in omega arith) in absurd (false≢true (sym e ∙ ap (λ (k : ℕ). record_spans (record_at w store k) t) (sym same) ∙ h.2))

  here : (i n : ℕ) (r : Option ℕ) → i < n → Spans true i → IsFirst i n r → r ≡ Some i
  here i n None a e h = absurd (false≢true (sym (h i (omega arith) a) ∙ e))
  here i n (Some j) a e h = go (cases_lt i j)
    where
      go : (i < j) ⊎ (j ≤ i) → Some j ≡ Some i
      go (inl b) = absurd (false≢true (sym (h.3 i (omega arith) b) ∙ e))
      go (inr b) = ap (λ (k : ℕ). Some k) (let c = h.0 in omega arith)

  pub first_found : (left i n : ℕ) (r : Option ℕ) → i + left ≡ n → IsFirst i n r → ok_or r (refusal_of NoSegment) ≡ find_span w store t left i
  first_found zero i n None e h = refl
  first_found zero i n (Some j) e h = absurd (let a = h.0 in let b = h.1 in omega arith)
  first_found (suc left) i n r e h = go (λ h'. first_found left (i + 1) n r (omega arith) h') (record_spans (record_at w store i) t) refl
    where
      go : (IsFirst (i + 1) n r → ok_or r (refusal_of NoSegment) ≡ find_span w store t left (i + 1)) → (b : Bool) → record_spans (record_at w store i) t ≡ b
          → ok_or r (refusal_of NoSegment) ≡ cond (record_spans (record_at w store i) t) (Ok i) (find_span w store t left (i + 1))
      go next true s = ap (λ (o : Option ℕ). ok_or o (refusal_of NoSegment)) (here i n r (omega arith) s h) ∙ ap (λ (b : Bool). cond b (Ok i) (find_span w store t left (i + 1))) (sym s)
      go next false s = next (later i n r s h) ∙ ap (λ (b : Bool). cond b (Ok i) (find_span w store t left (i + 1))) (sym s)
