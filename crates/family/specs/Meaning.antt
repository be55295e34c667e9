-- What a family of curves means: its choices, which readings a choice serves, what a state still allows, what it picks,
-- and what pick words say. Every call of a family is told by these alone.
use Rattle.std.specs.Prelude.{◌≡◌, ℕ, Bool, ◌&&◌, List, length, Some, None, Option, Result, MatchOption, MatchResult}
use Rattle.words.specs.declared.refusal.Reason.TheVariants.{NoChoice, Unfitting, WordsLength, Unlawful}
use Rattle.words.specs.declared.refusal.Refusal.{Refusal}
use Rattle.words.specs.Refusals.{refusal_of}
use Rattle.family.specs.Readings.{Reading, Above}
use Rattle.family.specs.Refusing.{first_refusal, refuse_if, refuse_unless, right, tick_refusal, row_refusal, span_refusal}

pub record Meaning (S : Type 0) : Type 1 where
  -- the curves to choose from, and which readings a choice serves
  pub choice : Type 0
  pub serves : choice → Reading → Type 0
  -- the value row meets the reading's row
  pub meets : List ℕ → List ℕ → Type 0
  -- how many words a reading's row, a pick and a value row have
  pub row_width : ℕ
  pub pick_width : ℕ
  pub value_width : ℕ
  -- the index of the first word of a wrong kind or range, if there is one
  pub wrong_word : Reading → Option ℕ
  -- no choice serves the reading
  pub unserved : Reading → Bool
  -- what a state means: the choices that it still allows, and the last tick taken since restarting
  pub allows : S → choice → Type 0
  pub last : S → Option ℕ
  -- a state after a restart; from a state, by taking a reading, to a state
  pub restarted : S → Type 0
  pub taken : S → Reading → S → Type 0
  -- what a state picks: the choice, and its words
  pub picked : S → choice
  pub words : S → List ℕ
  -- whether pick words are lawful for a first and a last tick, and the value that they say at a tick
  pub lawful : List ℕ → ℕ → ℕ → Bool
  pub value : List ℕ → ℕ → List ℕ

module _ {S : Type 0} (m : Meaning S) where
  -- scanning a row: 1, 2
  abbrev pub scan_refusal : Reading → Option Refusal
  scan_refusal r = row_refusal m.row_width (length r.row) (m.wrong_word r)

  -- the tick, then the row: 5, 1, 2
  abbrev pub form_refusal : Reading → Option Refusal
  form_refusal r = first_refusal (tick_refusal r.tick) (scan_refusal r)

  -- all that a reading alone is refused for: 5, 1, 2, 3
  abbrev pub refusal : Reading → Option Refusal
  refusal r = first_refusal (form_refusal r) (refuse_if (m.unserved r) NoChoice)

  -- some allowed choice serves the reading
  pub record Served (s : S) (r : Reading) : Type 0 where
    pub by : m.choice
    pub allowed : m.allows s by
    pub serving : m.serves by r

  -- the reading's tick is above the last one taken, and some allowed choice serves it
  pub record Fits (s : S) (r : Reading) : Type 0 where
    pub above : Above (m.last s) r.tick
    pub some : Served s r

  -- the answer of taking r, from the state s to the state t: a reading that does not fit is refused by 4
  abbrev pub TakeAnswer : S → Reading → Result Unit Refusal → S → Type 0
  TakeAnswer s r a t =
      MatchResult a (λ _. (refusal r ≡ None) × Fits s r × m.taken s r t)
      (λ f. (first_refusal (refusal r) (Some (refusal_of Unfitting)) ≡ Some f) × (refusal r ≡ None → Fits s r → ⊥) × (t ≡ s))

  -- the state, if any, after taking r from the state s: none where r does not fit
  abbrev pub Next : S → Reading → Option S → Type 0
  Next s r o = MatchOption o (Fits s r → ⊥) (λ t. Fits s r × m.taken s r t)

  -- picking into a slot of n words: 9
  abbrev pub slot_refusal : ℕ → Option Refusal
  slot_refusal n = refuse_unless (right m.pick_width n) WordsLength

  -- checking pick words for a first and a last tick: 9, 11
  abbrev pub words_refusal : List ℕ → ℕ → ℕ → Option Refusal
  words_refusal ws f l = first_refusal (slot_refusal (length ws)) (refuse_unless (m.lawful ws f l) Unlawful)

  -- reading the value at t into a row of n words: 9, 5, 11, 7
  abbrev pub value_refusal : List ℕ → ℕ → ℕ → ℕ → ℕ → Option Refusal
  value_refusal ws f l t n =
      first_refusal (refuse_unless (right m.value_width n && right m.pick_width (length ws)) WordsLength)
      (first_refusal (tick_refusal t)
      (first_refusal (refuse_unless (m.lawful ws f l) Unlawful) (span_refusal f l t)))
