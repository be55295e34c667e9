-- Which records are lawful, and which record a search for a tick finds.
use Rattle.std.specs.Prelude.{◌≡◌, ℕ, zero, suc, ◌+◌, Bool, true, cond, ◌&&◌, ◌||◌, List, length, Ok, Err, Result, nat_le, slice_index}
use Rattle.words.specs.declared.kind.Kind.TheVariants.{Start, Batch, End}
use Rattle.words.specs.declared.refusal.Reason.TheVariants.{NoSegment, Unlawful}
use Rattle.words.specs.declared.refusal.Refusal.{Refusal}
use Rattle.words.specs.Refusals.{refusal_of, refusal_at}
use Rattle.words.specs.Words.{of_kind}
use Rattle.family.specs.Refusing.{right, spans}
use Rattle.family.specs.Meaning.{Meaning}
use Rattle.layout.specs.Layout.{place_at, record_at, first_in, last_in, pick_in}

-- BATCH or START, and then END, not before the first tick
abbrev pub framed : List ℕ → Bool
framed ws = ((of_kind Batch (slice_index ws 0) || of_kind Start (slice_index ws 0)) && of_kind End (slice_index ws 1)) && nat_le (first_in ws) (last_in ws)

-- the tick is from the record's first tick to its last
abbrev pub record_spans : List ℕ → ℕ → Bool
record_spans ws t = spans (first_in ws) (last_in ws) t

module _ {S : Type 0} (m : Meaning S) where
  -- a record lawful by itself: its frame, and a pick of the right length that is lawful for its two ticks
  abbrev pub record_lawful : List ℕ → Bool
  record_lawful ws = framed ws && (right m.pick_width (length (pick_in ws)) && m.lawful (pick_in ws) (first_in ws) (last_in ws))

  -- which of k records from record i on is the first that spans tick t; one that is read on the way and is unlawful is told
  -- by its place
  abbrev pub find : ℕ → List ℕ → ℕ → ℕ → ℕ → Result ℕ Refusal
  find w store t zero i = Err (refusal_of NoSegment)
  find w store t (suc k) i =
      cond (record_lawful (record_at w store i))
      (cond (record_spans (record_at w store i) t) (Ok i) (find w store t k (i + 1)))
      (Err (refusal_at Unlawful (place_at w i)))

  -- record i is lawful and spans tick t
  pub record Found (w : ℕ) (store : List ℕ) (t i : ℕ) : Type 0 where
    pub lawful : record_lawful (record_at w store i) ≡ true
    pub spanning : record_spans (record_at w store i) t ≡ true
