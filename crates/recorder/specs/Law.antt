-- What holds after any dealings with a tape, whatever the family: covering, fewest, and refusals exact.
use Rattle.std.specs.Prelude.{◌≡◌, ℕ, zero, suc, ◌+◌, ◌<◌, ◌≤◌, Bool, true, false, cond, ◌⊎◌, List, [], ◌∷◌, ◌++◌, map, length, Some, None, Ok, Err, filter, Option, Result, nat_le}
use Rattle.std.specs.List.{AllByRecursion}
use Rattle.words.specs.declared.refusal.Reason.TheVariants.{BadTick, NothingToMark, NoSegment, WordsLength, NoPlace}
use Rattle.words.specs.declared.refusal.Refusal.{Refusal}
use Rattle.words.specs.Refusals.{refusal_of}
use Rattle.words.specs.Words.{tick_in_range}
use Rattle.family.specs.Readings.{Reading, ◌▹◌, last_tick}
use Rattle.family.specs.Refusing.{first_refusal, refuse_if, right, spans}
use Rattle.family.specs.Meaning.{Meaning, refusal}
use Rattle.cuttings.specs.Cutting.{Event, read, mark, readings, Served, Permitted}
use Rattle.layout.specs.Layout.{places_of, record_at, first_in, last_in}
use Rattle.reader.specs.Tapes.{told_count, LawfulTape}
use Rattle.reader.specs.Reads.{ValueRead}
use Rattle.recorder.specs.declared.tape.Phase.{Phase}
use Rattle.recorder.specs.declared.tape.Phase.TheVariants.{Fresh, Waiting, Running}
use Rattle.recorder.specs.declared.tape.OpenTape.{OpenTape}
use Rattle.recorder.specs.declared.tape.ClosedTape.{ClosedTape}
use Rattle.recorder.specs.Histories.{World, Recorded, Marked, Asked, Closed, Dealt}

-- a segment's first and last tick
pub record Span : Type 0 where
  pub from : ℕ
  pub to : ℕ

abbrev pub span : ℕ → ℕ → Span
span f l = record { from = f; to = l }

-- of k records in a store from record i on, for picks of width w
abbrev pub written_spans : ℕ → List ℕ → ℕ → ℕ → List Span
written_spans w store zero i = []
written_spans w store (suc k) i = span (first_in (record_at w store i)) (last_in (record_at w store i)) ∷ written_spans w store k (i + 1)

abbrev pub open_span : Phase → List Span
open_span Fresh = []
open_span (Waiting _) = []
open_span (Running f l _) = span f l ∷ []

-- the segments: the records written, and then the open run
abbrev pub segments : {S : Type 0} → World S → List Span
segments w = written_spans w.tape.width w.store w.tape.written 0 ++ open_span w.tape.phase

abbrev pub inside : Span → Reading → Bool
inside s r = spans s.from s.to r.tick

-- each segment taken as the accepted readings from its first tick to its last
abbrev pub runs_in : List Event → List Span → List (List Reading)
runs_in log segs = map (λ (s : Span). filter (inside s) (readings log)) segs

-- no segment spans the tick
abbrev pub Unspanned : ℕ → List Span → Type 0
Unspanned t segs = AllByRecursion (λ (s : Span). (s.from ≤ t) × (t ≤ s.to) → ⊥) segs

-- the tick is not above the last accepted one
abbrev pub not_above : Option ℕ → ℕ → Bool
not_above None t = false
not_above (Some l) t = nat_le t l

-- something was accepted since opening or the last mark
abbrev pub batch_open : List Event → Bool
batch_open [] = false
batch_open (read _ ∷ []) = true
batch_open (mark ∷ []) = false
batch_open (_ ∷ read r ∷ log) = batch_open (read r ∷ log)
batch_open (_ ∷ mark ∷ log) = batch_open (mark ∷ log)

module _ {S : Type 0} (m : Meaning S) where
  -- one choice serves all of the run
  abbrev pub Fit : List Reading → Type 0
  Fit = Served m.serves

  -- what a recording is refused for before a place is looked for, told from the log: 5, 1, 2, 3
  abbrev pub reading_refusal : List Event → Reading → Option Refusal
  reading_refusal log r = first_refusal (refuse_if (not_above (last_tick (readings log)) r.tick) BadTick) (refusal m r)

  -- every permitted cutting of the accepted readings with this one added has more runs than there are places
  abbrev pub HasNoPlace : List Event → Reading → ℕ → Type 0
  HasNoPlace log r places = (cuts : List (List Reading)) → Permitted Fit (log ▹ read r) cuts → places < length cuts

  -- a recording's answer, where n is the number of segments then
  abbrev pub RecordAnswer : List Event → Reading → ℕ → ℕ → Option Refusal → Result ℕ Refusal → Type 0
  RecordAnswer log r places n (Some f) a = a ≡ Err f
  RecordAnswer log r places n None (Ok k) = (k ≡ n) × (HasNoPlace log r places → ⊥)
  RecordAnswer log r places n None (Err f) = (f ≡ refusal_of NoPlace) × HasNoPlace log r places

  -- a mark's answer: refused by 6 where nothing was accepted since opening or the last mark
  abbrev pub MarkAnswer : Bool → Result Unit Refusal → Type 0
  MarkAnswer true a = a ≡ Ok tt
  MarkAnswer false a = a ≡ Err (refusal_of NothingToMark)

  -- an asking's answer, with a row of n words: 9, 5, and 7 exactly where no segment spans the tick
  abbrev pub AskAnswer : ℕ → ℕ → List Span → Result Unit Refusal → Type 0
  AskAnswer t n segs a =
      cond (right m.value_width n)
      (cond (tick_in_range t)
      (((a ≡ Err (refusal_of NoSegment)) × Unspanned t segs) ⊎ ((a ≡ Ok tt) × (Unspanned t segs → ⊥)))
      (a ≡ Err (refusal_of BadTick)))
      (a ≡ Err (refusal_of WordsLength))

  -- a value that meets the reading's row
  abbrev pub Answers : Reading → Result Unit Refusal → List ℕ → Type 0
  Answers r a row' = (a ≡ Ok tt) × m.meets row' r.row

  pub record LawAt (log : List Event) (w : World S) : Type 0 where
    -- covering: asking at an accepted reading's tick, with a row of the right length, gives a value that meets its row
    pub covering : AllByRecursion (λ (r : Reading). (row row' : List ℕ) (a : Result Unit Refusal) → right m.value_width (length row) ≡ true → Asked m w r.tick row a row' → Answers r a row') (readings log)
    -- and so does the reader after closing
    pub kept : (k : ClosedTape) (s' : S) (store' : List ℕ) → Closed m w (Ok k) s' store' →
        AllByRecursion (λ (r : Reading). (row row' : List ℕ) (a : Result Unit Refusal) → right m.value_width (length row) ≡ true → ValueRead m store' r.tick row a row' → Answers r a row') (readings log)
    -- fewest: the segments are a permitted cutting, and no other has fewer runs
    pub permitted : Permitted Fit log (runs_in log (segments w))
    pub fewest : (cuts : List (List Reading)) → Permitted Fit log cuts → length (segments w) ≤ length cuts
    -- closing hands their number on, and the closed tape's records are the segments
    pub handed_on : (k : ClosedTape) (s' : S) (store' : List ℕ) → Closed m w (Ok k) s' store' →
        (k.segments ≡ length (segments w)) × (written_spans m.pick_width store' k.segments 0 ≡ segments w)
    -- over a store with room for a header the closed tape is lawful, and COUNT tells its segments
    pub lawful : (k : ClosedTape) (s' : S) (store' : List ℕ) → Closed m w (Ok k) s' store' → 2 ≤ length w.store → LawfulTape m store' × (told_count store' ≡ k.segments)
    -- refusals: each dealing is refused where its checks say so and nowhere else, told from the log
    pub recording : (r : Reading) (a : Result ℕ Refusal) (w' : World S) → Recorded m w r a w' →
        RecordAnswer log r (places_of m.pick_width (length w.store)) (length (segments w')) (reading_refusal log r) a
    pub marking : (a : Result Unit Refusal) (w' : World S) → Marked m w a w' → MarkAnswer (batch_open log) a
    pub asking : (t : ℕ) (row row' : List ℕ) (a : Result Unit Refusal) → Asked m w t row a row' → AskAnswer t (length row) (segments w) a
    pub closing : (a : Result ClosedTape (OpenTape × Refusal)) (s' : S) (store' : List ℕ) → Closed m w a s' store' → (k : ClosedTape) × (a ≡ Ok k)

  -- for every history
  abbrev pub Law : Type 0
  Law = (log : List Event) (w : World S) → Dealt m log w → LawAt log w
