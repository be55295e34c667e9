-- From the laws alone: after a run, the allowed choices are those that serve each of its readings.
use Rattle.std.proofs.Common.{◌≡◌, List, [], ◌∷◌, ◌++◌, Some, sym, refl, ◌∙◌}
use Rattle.std.specs.List.{AllByRecursion}
use Rattle.std.proofs.ByRecursion.{All-push}
use Rattle.family.specs.Readings.{Reading, ◌▹◌, last_tick}
use Rattle.family.specs.Meaning.{Meaning, form_refusal}
use Rattle.family.specs.Laws.{Laws, Ran, ran_none, ran_more}
use Rattle.family.proofs.Forms.{refusal_parts}

-- what holds of all holds of the front and of the back
pub all_front : {X : Type 0} (P : X → Type 0) (xs ys : List X) → AllByRecursion P (xs ++ ys) → AllByRecursion P xs
all_front P [] ys h = tt
all_front P (x ∷ xs) ys h = (h.0, all_front P xs ys h.1)

pub all_back : {X : Type 0} (P : X → Type 0) (xs ys : List X) → AllByRecursion P (xs ++ ys) → AllByRecursion P ys
all_back P [] ys h = h
all_back P (x ∷ xs) ys h = all_back P xs ys h.1

-- the last tick of a run with one reading more is that reading's
pub last_tick_more : (rs : List Reading) (r : Reading) → last_tick (rs ▹ r) ≡ Some r.tick
last_tick_more [] r = refl
last_tick_more (q ∷ []) r = refl
last_tick_more (q ∷ (p ∷ rs)) r = last_tick_more (p ∷ rs) r

module _ {S : Type 0} (m : Meaning S) (k : Laws m) where
  pub allowed_serves : {s : S} {rs : List Reading} (c : m.choice) → Ran m s rs → m.allows s c → AllByRecursion (m.serves c) rs
  allowed_serves c (ran_none h) a = tt
  allowed_serves c (ran_more {s} {t} {rs} {r} x h f y) a =
      let p = (refusal_parts (form_refusal m r) (m.unserved r) h).0 in
      All-push (m.serves c) rs r (allowed_serves c x (k.take_from s t r c p y a)) (k.take_serves s t r c p y a)

  pub serving_allowed : {s : S} {rs : List Reading} (c : m.choice) → Ran m s rs → AllByRecursion (m.serves c) rs → m.allows s c
  serving_allowed {s} c (ran_none h) a = k.restart_all s c h
  serving_allowed c (ran_more {s} {t} {rs} {r} x h f y) a =
      let p = (refusal_parts (form_refusal m r) (m.unserved r) h).0 in
      k.take_keeps s t r c p y (serving_allowed c x (all_front (m.serves c) rs (r ∷ []) a)) (all_back (m.serves c) rs (r ∷ []) a).0

  -- the choice picked serves the whole run
  pub picked_serves : {s : S} {rs : List Reading} → Ran m s rs → AllByRecursion (m.serves (m.picked s)) rs
  picked_serves {s} x = allowed_serves (m.picked s) x (k.picks s)

  -- the last tick taken is the run's last
  pub ran_last : {s : S} {rs : List Reading} → Ran m s rs → m.last s ≡ last_tick rs
  ran_last {s} (ran_none h) = k.restart_last s h
  ran_last (ran_more {s} {t} {rs} {r} x h f y) = k.take_last s t r y ∙ sym (last_tick_more rs r)
