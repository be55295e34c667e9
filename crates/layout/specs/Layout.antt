-- Where the words of a tape stand in a store: the header, the records, and how many records it has room for. `w` is the
-- width of the tape's picks throughout.
use Rattle.std.specs.Prelude.{ℕ, ◌+◌, ◌-◌, ◌*◌, ◌/◌, min, Bool, true, false, cond, List, ◌∷◌, ◌++◌, length, take, drop, pos, nat_lt, slice_index, slice_set}
use Rattle.words.specs.declared.kind.Kind.TheVariants.{Start, Batch, End, Tape, Count}
use Rattle.words.specs.Words.{payload, word_of}

-- how many words a record has: BATCH or START, END, and the pick
abbrev pub record_size : ℕ → ℕ
record_size w = w + 2

-- how many records a store of n words has room for
abbrev pub places_of : ℕ → ℕ → ℕ
places_of w n = cond (nat_lt n 2) 0 (cond (nat_lt 12 w) 0 (min ((n - 2) / record_size w) 1000000))

-- the index of the first word of record i
abbrev pub place_at : ℕ → ℕ → ℕ
place_at w i = 2 + i * record_size w

-- the header: the picks' width, 13 for every width above 12, and the number of records
abbrev pub tape_word : ℕ → ℕ
tape_word w = word_of Tape (pos (min w 13))

abbrev pub count_word : ℕ → ℕ
count_word n = word_of Count (pos n)

-- the first word of a record: BATCH where it begins a batch, else START
abbrev pub first_word : Bool → ℕ → ℕ
first_word true t = word_of Batch (pos t)
first_word false t = word_of Start (pos t)

-- a record's words
abbrev pub record_of : ℕ → ℕ → Bool → List ℕ → List ℕ
record_of first last fresh pick = first_word fresh first ∷ word_of End (pos last) ∷ pick

-- words ys in place of those of xs from i on
abbrev pub overwrite : List ℕ → ℕ → List ℕ → List ℕ
overwrite xs i ys = take i xs ++ (ys ++ drop (i + length ys) xs)

-- the store with record i written, and COUNT set to the records then written
abbrev pub with_record : ℕ → ℕ → ℕ → ℕ → Bool → List ℕ → List ℕ → List ℕ
with_record w i first last fresh pick store =
    slice_set (overwrite store (place_at w i) (record_of first last fresh pick)) 1 (count_word (i + 1))

-- the store of a tape just opened: the header where there is room for it
abbrev pub opened_store : ℕ → List ℕ → List ℕ
opened_store w store = cond (nat_lt (length store) 2) store (slice_set (slice_set store 0 (tape_word w)) 1 (count_word 0))

-- record i as it stands in a store, and what its words say
abbrev pub record_at : ℕ → List ℕ → ℕ → List ℕ
record_at w store i = take (record_size w) (drop (place_at w i) store)

abbrev pub first_in : List ℕ → ℕ
first_in ws = payload (slice_index ws 0)

abbrev pub last_in : List ℕ → ℕ
last_in ws = payload (slice_index ws 1)

abbrev pub pick_in : List ℕ → List ℕ
pick_in ws = drop 2 ws
