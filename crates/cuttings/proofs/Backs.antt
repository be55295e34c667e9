-- A permitted cutting without the log's last event.
use Rattle.std.proofs.Common.{◌≡◌, ◌<◌, List, [], ◌∷◌, ◌++◌, length, sym, refl, ap, ◌∙◌, subst, append_assoc, arith, length-append}
use Rattle.std.proofs.lemmas.List.{append-nil}
use Rattle.std.proofs.ByRecursion.{All-push}
use Rattle.family.specs.Readings.{Reading, ◌▹◌}
use Rattle.cuttings.specs.Cutting.{joined, Event, read, mark, readings, Parted, Permitted}
use Rattle.cuttings.proofs.Ends.{Ended, empty, ends, ended, not_nil, same_front, same_last, all_init, all_last, joined_push}
use Rattle.cuttings.proofs.Permits.{readings_read, readings_mark}

-- the runs past a mark, without the last reading
late_back : (done early late : List (List Reading)) (run : List Reading) (after : List Event) (r : Reading) → done ▹ (run ▹ r) ≡ early ++ late → joined late ≡ readings (after ▹ read r) →
    (kept : List (List Reading)) × (done ≡ early ++ kept) × (joined kept ++ run ≡ readings after)
late_back done early late run after r e j = go (ended late) e j
  where
    go : {late : List (List Reading)} → Ended late → done ▹ (run ▹ r) ≡ early ++ late → joined late ≡ readings (after ▹ read r) →
        (kept : List (List Reading)) × (done ≡ early ++ kept) × (joined kept ++ run ≡ readings after)
    go empty a b = absurd (not_nil (readings after) r (sym (readings_read after r) ∙ sym b))
    go (ends kept last) a b =
        let a' : done ▹ (run ▹ r) ≡ (early ++ kept) ▹ last = a ∙ sym (append_assoc early kept (last ∷ [])) in
        let l : run ▹ r ≡ last = same_last done (early ++ kept) (run ▹ r) last a' in
        let w : (joined kept ++ run) ▹ r ≡ readings after ▹ r =
        append_assoc (joined kept) run (r ∷ []) ∙ ap (λ (x : List Reading). joined kept ++ x) l ∙ sym (joined_push kept last) ∙ b ∙ readings_read after r in
        (kept, same_front done (early ++ kept) (run ▹ r) last a', same_front (joined kept ++ run) (readings after) r r w)

module _ (fits : List Reading → Type 0) where
  pub mark_back : (log : List Event) (runs : List (List Reading)) → Permitted fits (log ▹ mark) runs → Permitted fits log runs
  mark_back log runs p = record {
    whole = p.whole ∙ readings_mark log;
    some = p.some;
    fit = p.fit;
    apart = λ before after e.
        let (early, late, a, b, c) = p.apart before (after ▹ mark) (ap (λ (x : List Event). x ▹ mark) e ∙ append_assoc before (mark ∷ after) (mark ∷ [])) in
        (early, late, a, b, c ∙ readings_mark after);
  }

  -- the last reading stood alone in its run, or it was the last of more
  pub data Step (log : List Event) (r : Reading) : List (List Reading) → Type 0 where
    alone : (runs : List (List Reading)) → Permitted fits log runs → Step log r (runs ▹ (r ∷ []))
    joined_to : (runs : List (List Reading)) (run : List Reading) → Permitted fits log (runs ▹ run) → fits (run ▹ r) → Step log r (runs ▹ (run ▹ r))

  whole_back : (log : List Event) (r : Reading) (runs : List (List Reading)) (run : List Reading) → Permitted fits (log ▹ read r) (runs ▹ (run ▹ r)) → joined runs ++ run ≡ readings log
  whole_back log r runs run p =
      same_front (joined runs ++ run) (readings log) r r
      (append_assoc (joined runs) run (r ∷ []) ∙ sym (joined_push runs (run ▹ r)) ∙ p.whole ∙ readings_read log r)

  apart_back : (log : List Event) (r : Reading) (runs : List (List Reading)) (run : List Reading) → Permitted fits (log ▹ read r) (runs ▹ (run ▹ r)) →
      (before after : List Event) → log ≡ before ++ (mark ∷ after) →
      (early : List (List Reading)) × (kept : List (List Reading)) × (runs ≡ early ++ kept) × (joined early ≡ readings before) × (joined kept ++ run ≡ readings after)
  apart_back log r runs run p before after e =
      let (early, late, a, b, c) = p.apart before (after ▹ read r) (ap (λ (x : List Event). x ▹ read r) e ∙ append_assoc before (mark ∷ after) (read r ∷ [])) in
      let (kept, f, g) = late_back runs early late run after r a c in
      (early, kept, f, b, g)

module _ (fits : List Reading → Type 0) (parts : Parted fits) where
  last_back : (log : List Event) (r : Reading) (runs : List (List Reading)) (run : List Reading) → Permitted fits (log ▹ read r) (runs ▹ (run ▹ r)) → Step fits log r (runs ▹ (run ▹ r))
  last_back log r runs [] p = alone runs (record {
    whole = sym (append-nil (joined runs)) ∙ whole_back fits log r runs [] p;
    some = all_init (λ (l : List Reading). 0 < length l) runs (r ∷ []) p.some;
    fit = all_init (fits) runs (r ∷ []) p.fit;
    apart = λ before after e.
        let (early, kept, a, b, c) = apart_back fits log r runs [] p before after e in
        (early, kept, a, b, sym (append-nil (joined kept)) ∙ c);
  })
  last_back log r runs (x ∷ xs) p =
      let run : List Reading = x ∷ xs in
      let s : fits (run ▹ r) = all_last (fits) runs (run ▹ r) p.fit in
      joined_to runs run (record {
        whole = joined_push runs run ∙ whole_back fits log r runs run p;
        some = All-push (λ (l : List Reading). 0 < length l) runs run (all_init (λ (l : List Reading). 0 < length l) runs (run ▹ r) p.some) (omega arith);
        fit = All-push (fits) runs run (all_init (fits) runs (run ▹ r) p.fit) (parts [] run (r ∷ []) s);
        apart = λ before after e.
            let (early, kept, a, b, c) = apart_back fits log r runs run p before after e in
            (early, kept ▹ run, ap (λ (l : List (List Reading)). l ▹ run) a ∙ append_assoc early kept (run ∷ []), b, joined_push kept run ∙ c);
      }) s

  pub read_back : (log : List Event) (r : Reading) (runs : List (List Reading)) → Permitted fits (log ▹ read r) runs → Step fits log r runs
  read_back log r runs p = go (ended runs) p
    where
      inner : (done : List (List Reading)) {run : List Reading} → Ended run → Permitted fits (log ▹ read r) (done ▹ run) → Step fits log r (done ▹ run)
      inner done empty p = let z : 0 < 0 = all_last (λ (l : List Reading). 0 < length l) done [] p.some in absurd (omega arith)
      inner done (ends run q) p =
          let w : (joined done ++ run) ▹ q ≡ readings log ▹ r = append_assoc (joined done) run (q ∷ []) ∙ sym (joined_push done (run ▹ q)) ∙ p.whole ∙ readings_read log r in
          let e : q ≡ r = same_last (joined done ++ run) (readings log) q r w in
          subst (λ (x : Reading). Step fits log r (done ▹ (run ▹ x))) (sym e)
          (last_back log r done run (subst (λ (x : Reading). Permitted fits (log ▹ read r) (done ▹ (run ▹ x))) e p))

      go : {runs : List (List Reading)} → Ended runs → Permitted fits (log ▹ read r) runs → Step fits log r runs
      go empty p = absurd (not_nil (readings log) r (sym (readings_read log r) ∙ sym p.whole))
      go (ends done run) p = inner done (ended run) p

  -- right after a mark the reading stood alone
  pub fresh_back : (log : List Event) (r : Reading) (runs : List (List Reading)) → Permitted fits (log ▹ mark ▹ read r) runs →
      (done : List (List Reading)) × (runs ≡ done ▹ (r ∷ [])) × Permitted fits (log ▹ mark) done
  fresh_back log r runs p = go (read_back (log ▹ mark) r runs p) p
    where
      go : {runs : List (List Reading)} → Step fits (log ▹ mark) r runs → Permitted fits (log ▹ mark ▹ read r) runs →
          (done : List (List Reading)) × (runs ≡ done ▹ (r ∷ [])) × Permitted fits (log ▹ mark) done
      go (alone done q) p = (done, refl, q)
      go (joined_to done run q s) p =
          let (early, late, a, b, c) = p.apart log (read r ∷ []) (append_assoc log (mark ∷ []) (read r ∷ [])) in
          let (kept, f, g) = late_back done early late run [] r a c in
          let n : 0 < length run = all_last (λ (l : List Reading). 0 < length l) done run q.some in
          absurd (omega (arith, length-append (joined kept) run, ap length g))
