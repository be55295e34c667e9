-- Which slices of words are lawful tapes, rule by rule, and the lowest place at which a slice breaks a rule.
use Rattle.std.specs.Prelude.{◌≡◌, ℕ, zero, suc, ◌+◌, ◌<◌, ◌≤◌, Bool, true, cond, ◌&&◌, List, length, Some, None, Option, ◌==◌, nat_le, nat_lt, slice_index}
use Rattle.words.specs.declared.kind.Kind.TheVariants.{Batch, Count}
use Rattle.words.specs.declared.refusal.Reason.TheVariants.{Unlawful}
use Rattle.words.specs.declared.refusal.Refusal.{Refusal}
use Rattle.words.specs.Refusals.{refusal_at}
use Rattle.words.specs.Words.{of_kind, payload}
use Rattle.family.specs.Meaning.{Meaning}
use Rattle.layout.specs.Layout.{places_of, place_at, tape_word, record_at, first_in, last_in}
use Rattle.layout.specs.Records.{record_lawful}

-- the number of records that a tape tells
abbrev pub told_count : List ℕ → ℕ
told_count store = payload (slice_index store 1)

-- the first record begins with BATCH, and each other one after the END before it, `before`
abbrev pub follows : Option ℕ → List ℕ → Bool
follows None ws = of_kind Batch (slice_index ws 0)
follows (Some before) ws = nat_lt before (first_in ws)

module _ {S : Type 0} (m : Meaning S) where
  -- the words are a lawful tape of the family
  pub record LawfulTape (store : List ℕ) : Type 0 where
    -- word 0 is TAPE with the picks' width, or 13 for a width above 12
    pub tape : (0 < length store) × (slice_index store 0 ≡ tape_word m.pick_width)
    -- word 1 is COUNT, at most the places of the slice
    pub count : (1 < length store) × (of_kind Count (slice_index store 1) ≡ true) × (told_count store ≤ places_of m.pick_width (length store))
    -- so many records follow, each BATCH or START, then END, which is not before it, and a pick lawful for these two ticks
    pub records : (i : ℕ) → i < told_count store → record_lawful m (record_at m.pick_width store i) ≡ true
    -- the first record begins with BATCH
    pub first : 0 < told_count store → of_kind Batch (slice_index (record_at m.pick_width store 0) 0) ≡ true
    -- each first tick is after the END before it
    pub order : (i : ℕ) → i + 1 < told_count store → last_in (record_at m.pick_width store i) < first_in (record_at m.pick_width store (i + 1))

  -- the place of the first of k records from record i on that breaks a rule
  abbrev pub records_fault : ℕ → List ℕ → ℕ → ℕ → Option ℕ → Option ℕ
  records_fault w store zero i before = None
  records_fault w store (suc k) i before =
      cond (follows before (record_at w store i) && record_lawful m (record_at w store i))
      (records_fault w store k (i + 1) (Some (last_in (record_at w store i))))
      (Some (place_at w i))

  -- the lowest place at which the words break a rule of the tape: the header's two words, then the records
  abbrev pub tape_fault : List ℕ → Option ℕ
  tape_fault store =
      cond (nat_lt 0 (length store) && slice_index store 0 == tape_word m.pick_width)
      (cond (nat_lt 1 (length store) && (of_kind Count (slice_index store 1) && nat_le (told_count store) (places_of m.pick_width (length store))))
      (records_fault m.pick_width store (told_count store) 0 None)
      (Some 1))
      (Some 0)

-- 11, at the place
abbrev pub refuse_tape : Option ℕ → Option Refusal
refuse_tape None = None
refuse_tape (Some p) = Some (refusal_at Unlawful p)
