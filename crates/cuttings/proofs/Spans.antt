-- A run of readings with rising ticks is what lies from its first tick to its last.
use Rattle.std.proofs.Common.{ℕ, ◌<◌, ◌≤◌, List, [], ◌∷◌, ◌++◌, subst, append_assoc, arith}
use Rattle.std.specs.List.{AllByRecursion}
use Rattle.family.specs.Readings.{Reading, ◌▹◌}
use Rattle.cuttings.proofs.Ends.{all_left, all_right}

-- of the readings just those from one tick to another, in their order
pub data Spanned (from to : ℕ) : List Reading → List Reading → Type 0 where
  none : Spanned from to [] []
  outside : {r : Reading} {rs kept : List Reading} → ¬ ((from ≤ r.tick) × (r.tick ≤ to)) → Spanned from to rs kept → Spanned from to (r ∷ rs) kept
  inside : {r : Reading} {rs kept : List Reading} → from ≤ r.tick → r.tick ≤ to → Spanned from to rs kept → Spanned from to (r ∷ rs) (r ∷ kept)

-- each tick is above those before it
abbrev pub Rising : List Reading → Type 0
Rising [] = Unit {0}
Rising (r ∷ rs) = AllByRecursion (λ q. r.tick < q.tick) rs × Rising rs

rising_right : (a b : List Reading) → Rising (a ++ b) → Rising b
rising_right [] b h = h
rising_right (r ∷ a) b h = rising_right a b h.1

module _ (from to : ℕ) where
  above : (rs : List Reading) → AllByRecursion (λ q. to < q.tick) rs → Spanned from to rs []
  above [] h = none
  above (r ∷ rs) h = let k = h.0 in outside (λ p. let q = p.1 in omega arith) (above rs h.1)

  within : (run rest : List Reading) → AllByRecursion (λ q. (from ≤ q.tick) × (q.tick ≤ to)) run → AllByRecursion (λ q. to < q.tick) rest → Spanned from to (run ++ rest) run
  within [] rest h k = above rest k
  within (r ∷ run) rest h k = inside h.0.0 h.0.1 (within run rest h.1 k)

  below : (early rest kept : List Reading) → AllByRecursion (λ q. q.tick < from) early → Spanned from to rest kept → Spanned from to (early ++ rest) kept
  below [] rest kept h s = s
  below (r ∷ early) rest kept h s = let k = h.0 in outside (λ p. let q = p.0 in omega arith) (below early rest kept h.1 s)

-- all before a reading are below it, and all behind it are above
befores : (early : List Reading) (r : Reading) (rest : List Reading) → Rising (early ++ (r ∷ rest)) → AllByRecursion (λ q. q.tick < r.tick) early
befores [] r rest h = tt
befores (q ∷ early) r rest h = ((all_right (λ (x : Reading). q.tick < x.tick) early (r ∷ rest) h.0).0, befores early r rest h.1)

-- the first and the last reading of a run
pub spans : (early inner late : List Reading) (first last : Reading) → Rising (early ++ ((first ∷ inner) ▹ last ++ late)) →
    Spanned first.tick last.tick (early ++ ((first ∷ inner) ▹ last ++ late)) ((first ∷ inner) ▹ last)
spans early inner late first last h =
    let run : List Reading = (first ∷ inner) ▹ last in
    let a : Rising (run ++ late) = rising_right early (run ++ late) h in
    let a' : Rising ((first ∷ inner) ++ (last ∷ late)) = subst Rising (append_assoc (first ∷ inner) (last ∷ []) late) a in
    let b : AllByRecursion (λ q. q.tick < last.tick) (first ∷ inner) = befores (first ∷ inner) last late a' in
    let c : AllByRecursion (λ q. last.tick < q.tick) late = (rising_right (first ∷ inner) (last ∷ late) a').0 in
    let d : AllByRecursion (λ q. first.tick < q.tick) (inner ▹ last) = all_left (λ (q : Reading). first.tick < q.tick) (inner ▹ last) late a.0 in
    below first.tick last.tick early (run ++ late) run (befores early first ((inner ▹ last) ++ late) h)
    (within first.tick last.tick run late (omega arith, both inner b.1 d) c)
  where
    both : (inner : List Reading) → AllByRecursion (λ q. q.tick < last.tick) inner → AllByRecursion (λ q. first.tick < q.tick) (inner ▹ last) → AllByRecursion (λ q. (first.tick ≤ q.tick) × (q.tick ≤ last.tick)) (inner ▹ last)
    both [] h k = let z = k.0 in ((omega arith, omega arith), tt)
    both (r ∷ inner) h k = let y = h.0 in let z = k.0 in ((omega arith, omega arith), both inner h.1 k.1)

pub spans_one : (early late : List Reading) (r : Reading) → Rising (early ++ (r ∷ late)) → Spanned r.tick r.tick (early ++ (r ∷ late)) (r ∷ [])
spans_one early late r h =
    below r.tick r.tick early (r ∷ late) (r ∷ []) (befores early r late h)
    (within r.tick r.tick (r ∷ []) late ((omega arith, omega arith), tt) (rising_right early (r ∷ late) h).0)
