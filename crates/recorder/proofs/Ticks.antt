-- Rising ticks, and the readings between two of them.
use Rattle.std.proofs.Common.{◌≡◌, ℕ, suc, ◌<◌, ◌≤◌, Bool, true, false, leb, List, [], ◌∷◌, ◌++◌, map, length, Some, filter, sym, refl, ap, ◌∙◌, subst, append_assoc, arith, le-leb}
use borrow.Author.Tests.{lt-leb}
use Rattle.std.specs.List.{AllByRecursion}
use Rattle.std.proofs.lemmas.List.{append-nil}
use Rattle.std.proofs.lemmas.List.Elements.{filter-append}
use Rattle.std.proofs.ByRecursion.{All-push, All-weaker}
use Rattle.std.proofs.lemmas.Bool.{and_from, and_left, and_right, cond-true, cond-false}
use Rattle.family.specs.Readings.{Reading, ◌▹◌, last_tick}
use Rattle.cuttings.specs.Cutting.{joined}
use Rattle.cuttings.proofs.Spans.{Rising}
use Rattle.cuttings.proofs.Ends.{all_left, all_right}
use Rattle.recorder.specs.Law.{Span, inside}

-- the first and the last tick of a run, 0 where it has none
abbrev pub run_first : List Reading → ℕ
run_first [] = 0
run_first (r ∷ rs) = r.tick

abbrev pub run_last : List Reading → ℕ
run_last [] = 0
run_last (r ∷ []) = r.tick
run_last (r ∷ (q ∷ rs)) = run_last (q ∷ rs)

pub last_is_run_last : (r : Reading) (rs : List Reading) → last_tick (r ∷ rs) ≡ Some (run_last (r ∷ rs))
last_is_run_last r [] = refl
last_is_run_last r (q ∷ rs) = last_is_run_last q rs

pub all_both : {X : Type 0} (P Q : X → Type 0) (xs : List X) → AllByRecursion P xs → AllByRecursion Q xs → AllByRecursion (λ x. P x × Q x) xs
all_both P Q [] h k = tt
all_both P Q (x ∷ xs) h k = ((h.0, k.0), all_both P Q xs h.1 k.1)

pub rising_right : (a b : List Reading) → Rising (a ++ b) → Rising b
rising_right [] b h = h
rising_right (r ∷ a) b h = rising_right a b h.1

pub rising_left : (a b : List Reading) → Rising (a ++ b) → Rising a
rising_left [] b h = tt
rising_left (r ∷ a) b h = (all_left (λ (q : Reading). r.tick < q.tick) a b h.0, rising_left a b h.1)

pub rising_push : (rs : List Reading) (r : Reading) → Rising rs → AllByRecursion (λ q. q.tick < r.tick) rs → Rising (rs ▹ r)
rising_push [] r h k = (tt, tt)
rising_push (q ∷ rs) r h k = (All-push (λ (x : Reading). q.tick < x.tick) rs r h.0 k.0, rising_push rs r h.1 k.1)

pub last_push : (rs : List Reading) (r : Reading) → run_last (rs ▹ r) ≡ r.tick
last_push [] r = refl
last_push (q ∷ []) r = refl
last_push (q ∷ p ∷ rs) r = last_push (p ∷ rs) r

pub accepted_push : (rs : List Reading) (r : Reading) → last_tick (rs ▹ r) ≡ Some r.tick
accepted_push [] r = refl
accepted_push (q ∷ []) r = refl
accepted_push (q ∷ p ∷ rs) r = accepted_push (p ∷ rs) r

pub first_push : (rs : List Reading) (r : Reading) → 0 < length rs → run_first (rs ▹ r) ≡ run_first rs
first_push [] r h = absurd (omega arith)
first_push (q ∷ rs) r h = refl

-- what stands behind a run is above its last tick
pub above_last : (run rest : List Reading) → 0 < length run → Rising (run ++ rest) → AllByRecursion (λ q. run_last run < q.tick) rest
above_last [] rest h k = absurd (omega arith)
above_last (r ∷ []) rest h k = k.0
above_last (r ∷ q ∷ run) rest h k = above_last (q ∷ run) rest (omega arith) k.1

-- what stands before a run is below its first tick
pub below_first : (early run rest : List Reading) → 0 < length run → Rising (early ++ (run ++ rest)) → AllByRecursion (λ q. q.tick < run_first run) early
below_first [] run rest h k = tt
below_first (q ∷ early) [] rest h k = absurd (omega arith)
below_first (q ∷ early) (r ∷ run) rest h k = ((all_right (λ (x : Reading). q.tick < x.tick) early (r ∷ (run ++ rest)) k.0).0, below_first early (r ∷ run) rest (omega arith) k.1)

-- a run, with the ticks that it spans
pub record Spanned (f l : ℕ) (run : List Reading) : Type 0 where
  pub some : 0 < length run
  pub first : f ≡ run_first run
  pub last : l ≡ run_last run
  pub within : AllByRecursion (λ r. (f ≤ r.tick) × (r.tick ≤ l)) run
  pub ordered : f ≤ l

abbrev pub Spans : List Span → List (List Reading) → Type 0
Spans [] [] = Unit {0}
Spans [] (run ∷ runs) = ⊥
Spans (s ∷ spans) [] = ⊥
Spans (s ∷ spans) (run ∷ runs) = Spanned s.from s.to run × Spans spans runs

pub spans_push : (spans : List Span) (runs : List (List Reading)) (s : Span) (run : List Reading) → Spans spans runs → Spanned s.from s.to run → Spans (spans ▹ s) (runs ▹ run)
spans_push [] [] s run h k = (k, tt)
spans_push [] (x ∷ runs) s run h k = absurd h
spans_push (x ∷ spans) [] s run h k = absurd h
spans_push (x ∷ spans) (y ∷ runs) s run h k = (h.0, spans_push spans runs s run h.1 k)

kept_all : (test : Reading → Bool) (rs : List Reading) → AllByRecursion (λ r. test r ≡ true) rs → filter test rs ≡ rs
kept_all test [] h = refl
kept_all test (r ∷ rs) h = cond-true (test r) (r ∷ filter test rs) (filter test rs) h.0 ∙ ap (λ (l : List Reading). r ∷ l) (kept_all test rs h.1)

kept_none : (test : Reading → Bool) (rs : List Reading) → AllByRecursion (λ r. test r ≡ false) rs → filter test rs ≡ []
kept_none test [] h = refl
kept_none test (r ∷ rs) h = cond-false (test r) (r ∷ filter test rs) (filter test rs) h.0 ∙ kept_none test rs h.1

-- the readings from a run's first tick to its last are the run
pub kept_run : (early run late : List Reading) (s : Span) → Spanned s.from s.to run → Rising (early ++ (run ++ late)) → filter (inside s) (early ++ (run ++ late)) ≡ run
kept_run early run late s p rise =
    let before : AllByRecursion (λ r. inside s r ≡ false) early =
    All-weaker (λ (q : Reading). q.tick < run_first run) (λ (r : Reading). inside s r ≡ false)
    (λ r h. and_left (leb s.from r.tick) (leb r.tick s.to) (lt-leb s.from r.tick (omega (arith, p.first)))) early (below_first early run late p.some rise) in
    let here : AllByRecursion (λ r. inside s r ≡ true) run =
    All-weaker (λ (r : Reading). (s.from ≤ r.tick) × (r.tick ≤ s.to)) (λ (r : Reading). inside s r ≡ true)
    (λ r h. and_from (leb s.from r.tick) (leb r.tick s.to) (le-leb s.from r.tick h.0) (le-leb r.tick s.to h.1)) run p.within in
    let after : AllByRecursion (λ r. inside s r ≡ false) late =
    All-weaker (λ (q : Reading). run_last run < q.tick) (λ (r : Reading). inside s r ≡ false)
    (λ r h. and_right (leb s.from r.tick) (leb r.tick s.to) (lt-leb r.tick s.to (omega (arith, p.last)))) late (above_last run late p.some (rising_right early (run ++ late) rise)) in
    filter-append (inside s) early (run ++ late)
    ∙ ap (λ (l : List Reading). l ++ filter (inside s) (run ++ late)) (kept_none (inside s) early before)
    ∙ filter-append (inside s) run late
    ∙ ap (λ (l : List Reading). l ++ filter (inside s) late) (kept_all (inside s) run here)
    ∙ ap (λ (l : List Reading). run ++ l) (kept_none (inside s) late after)
    ∙ append-nil run

pub kept_runs : (early : List Reading) (spans : List Span) (runs : List (List Reading)) → Spans spans runs → Rising (early ++ joined runs) →
    map (λ (s : Span). filter (inside s) (early ++ joined runs)) spans ≡ runs
kept_runs early [] [] h rise = refl
kept_runs early [] (run ∷ runs) h rise = absurd h
kept_runs early (s ∷ spans) [] h rise = absurd h
kept_runs early (s ∷ spans) (run ∷ runs) h rise =
    let e : early ++ (run ++ joined runs) ≡ (early ++ run) ++ joined runs = sym (append_assoc early run (joined runs)) in
    ap (λ (x : List Reading). x ∷ map (λ (s : Span). filter (inside s) (early ++ (run ++ joined runs))) spans) (kept_run early run (joined runs) s h.0 rise)
    ∙ ap (λ (x : List (List Reading)). run ∷ x)
    (ap (λ (l : List Reading). map (λ (s : Span). filter (inside s) l) spans) e ∙ kept_runs (early ++ run) spans runs h.1 (subst Rising e rise))

pub length_spans : (spans : List Span) (runs : List (List Reading)) → Spans spans runs → length spans ≡ length runs
length_spans [] [] h = refl
length_spans [] (run ∷ runs) h = absurd h
length_spans (s ∷ spans) [] h = absurd h
length_spans (s ∷ spans) (run ∷ runs) h = ap suc (length_spans spans runs h.1)
