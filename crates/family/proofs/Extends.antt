-- A reading is taken into a run exactly where the run with it fits.
use Rattle.std.proofs.Common.{◌≡◌, ℕ, Bool, true, false, List, [], ◌∷◌, ◌++◌, length, Some, None, Ok, Err, Option, Result, sym, refl, ap, ◌∙◌, subst, arith}
use Rattle.std.specs.List.{AllByRecursion}
use Rattle.words.specs.declared.refusal.Reason.TheVariants.{RowLength, BadTick, NoChoice, Unfitting}
use Rattle.words.specs.declared.refusal.Refusal.{Refusal}
use Rattle.words.specs.Refusals.{reason_number, refusal_of}
use Rattle.words.specs.Words.{tick_in_range}
use Rattle.family.specs.Readings.{Reading, ◌▹◌, Above}
use Rattle.family.specs.Refusing.{first_refusal, refuse_unless, refuse_if, refuse_word, right}
use Rattle.family.specs.Meaning.{Meaning, TakeAnswer}
use Rattle.family.specs.Laws.{Laws, Ran, ran_more}
use Rattle.family.specs.Runs.{RunFits, Extended}
use Rattle.family.proofs.Served.{all_front, all_back, serving_allowed, picked_serves, ran_last}

abbrev number_of : Option Refusal → ℕ
number_of None = 0
number_of (Some f) = reason_number f.reason

-- the checks of a reading alone, and then 4: where the refusal is 4, all of them passed
checked : (a b : Bool) (o : Option ℕ) (u : Bool) →
    number_of (first_refusal (first_refusal (first_refusal (refuse_unless a BadTick) (first_refusal (refuse_unless b RowLength) (refuse_word o))) (refuse_if u NoChoice)) (Some (refusal_of Unfitting))) ≡ 4 →
    first_refusal (first_refusal (refuse_unless a BadTick) (first_refusal (refuse_unless b RowLength) (refuse_word o))) (refuse_if u NoChoice) ≡ None
checked true true None false h = refl
checked true true None true h = absurd (omega arith)
checked true true (Some i) u h = absurd (omega arith)
checked true false o u h = absurd (omega arith)
checked false b o u h = absurd (omega arith)

module _ {S : Type 0} (m : Meaning S) (k : Laws m) where
  part_fits : (run before part after : List Reading) → run ≡ before ++ (part ++ after) → RunFits m run → RunFits m part
  part_fits run before part after e h =
      (h.0, all_front (m.serves h.0) part after (all_back (m.serves h.0) before (part ++ after) (subst (AllByRecursion (m.serves h.0)) e h.1)))

  pub ran_fits : {s : S} {run : List Reading} → Ran m s run → RunFits m run
  ran_fits {s} x = (m.picked s, picked_serves m k x)

  pub extended : (s t : S) (r : Reading) (a : Result Unit Refusal) (run : List Reading) → TakeAnswer m s r a t → Ran m s run → Extended m run r a t
  extended s t r (Ok v) run h x =
      let y : Ran m t (run ▹ r) = ran_more x h.0 h.1 h.2 in
      (y, λ before part after e. part_fits (run ▹ r) before part after e (ran_fits y))
  extended s t r (Err f) run h x = λ four above fits.
      let n = checked (tick_in_range r.tick) (right m.row_width (length r.row)) (m.wrong_word r) (m.unserved r)
      (ap number_of h.0 ∙ ap (λ (g : Refusal). reason_number g.reason) four) in
      h.1 n (record {
        above = subst (λ (l : Option ℕ). Above l r.tick) (sym (ran_last m k x)) above;
        some = record {
          by = fits.0;
          allowed = serving_allowed m k fits.0 x (all_front (m.serves fits.0) run (r ∷ []) fits.1);
          serving = (all_back (m.serves fits.0) run (r ∷ []) fits.1).0;
        };
      })
