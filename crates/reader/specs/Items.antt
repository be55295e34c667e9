-- The items of a tape, as they are read from words not yet checked and from a checked tape.
use Rattle.std.specs.Prelude.{◌≡◌, ℕ, true, false, List, None, Option, Result, nat_lt, slice_index}
use Rattle.words.specs.declared.kind.Kind.TheVariants.{Batch}
use Rattle.words.specs.declared.refusal.Reason.TheVariants.{NoSegment}
use Rattle.words.specs.declared.refusal.Refusal.{Refusal}
use Rattle.words.specs.Words.{of_kind}
use Rattle.family.specs.Refusing.{first_refusal, refuse_unless, Answered}
use Rattle.family.specs.Meaning.{Meaning}
use Rattle.layout.specs.Layout.{place_at, record_at}
use Rattle.reader.specs.Tapes.{told_count, refuse_tape}
use Rattle.reader.specs.Reads.{item_refusal}
use Rattle.reader.specs.declared.items.Item.{Item}
use Rattle.reader.specs.declared.items.Item.TheVariants.{BatchStart, Continuation}

-- an item is record i of the store: its place, its words, and by its first word whether it begins a batch
abbrev pub IsItem : ℕ → List ℕ → ℕ → Item → Type 0
IsItem w store i (BatchStart p ws) = (of_kind Batch (slice_index (record_at w store i) 0) ≡ true) × (p ≡ place_at w i) × (ws.now ≡ record_at w store i)
IsItem w store i (Continuation p ws) = (of_kind Batch (slice_index (record_at w store i) 0) ≡ false) × (p ≡ place_at w i) × (ws.now ≡ record_at w store i)

-- item i of the n records of a checked tape: 7
abbrev pub CheckedItem : ℕ → List ℕ → ℕ → ℕ → Result Item Refusal → Type 0
CheckedItem w store n i r = Answered (refuse_unless (nat_lt i n) NoSegment) r (IsItem w store i)

-- item i of words with the fault: 11, 7
abbrev pub ItemUnder : Option ℕ → ℕ → List ℕ → ℕ → Result Item Refusal → Type 0
ItemUnder fault w store i r = Answered (first_refusal (refuse_tape fault) (refuse_unless (nat_lt i (told_count store)) NoSegment)) r (IsItem w store i)

-- where the words have no fault and tell n records, an answer is that of reading words not yet checked
abbrev pub SameItem : ℕ → List ℕ → ℕ → ℕ → Result Item Refusal → Type 0
SameItem w store n i r = (fault : Option ℕ) → refuse_tape fault ≡ None → n ≡ told_count store → ItemUnder fault w store i r

module _ {S : Type 0} (m : Meaning S) where
  -- item i of words not yet checked: 11, 7
  abbrev pub ItemRead : List ℕ → ℕ → Result Item Refusal → Type 0
  ItemRead store i r = Answered (item_refusal m store i) r (IsItem m.pick_width store i)

  -- every answer of a checked tape on items is that of reading words not yet checked
  abbrev pub SameItems : ℕ → List ℕ → ℕ → Type 0
  SameItems w store n = (i : ℕ) (r : Result Item Refusal) → CheckedItem w store n i r → ItemRead store i r
