-- Runs of readings, over any family.
use Rattle.std.specs.Prelude.{◌≡◌, List, ◌++◌, Result, MatchResult}
use Rattle.std.specs.List.{AllByRecursion}
use Rattle.words.specs.declared.refusal.Reason.TheVariants.{Unfitting}
use Rattle.words.specs.declared.refusal.Refusal.{Refusal}
use Rattle.words.specs.Refusals.{refusal_of}
use Rattle.family.specs.Readings.{Reading, ◌▹◌, last_tick, Above}
use Rattle.family.specs.Meaning.{Meaning}
use Rattle.family.specs.Laws.{Ran}

module _ {S : Type 0} (m : Meaning S) where
  -- a run fits when one choice serves all of it
  abbrev pub RunFits : List Reading → Type 0
  RunFits run = (c : m.choice) × AllByRecursion (m.serves c) run

  -- each part of a run, of neighbouring readings, fits
  abbrev pub PartsFit : List Reading → Type 0
  PartsFit run = (before part after : List Reading) → run ≡ before ++ (part ++ after) → RunFits part

  -- what offering the reading r to a run comes to, with the answer a and the state t then: it is taken where the run with
  -- it fits, and else refused by 4
  abbrev pub Extended : List Reading → Reading → Result Unit Refusal → S → Type 0
  Extended run r a t =
      MatchResult a (λ _. Ran m t (run ▹ r) × PartsFit (run ▹ r))
      (λ f. f ≡ refusal_of Unfitting → Above (last_tick run) r.tick → RunFits (run ▹ r) → ⊥)
