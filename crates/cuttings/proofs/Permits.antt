-- A permitted cutting, one event on and one event back.
use Rattle.std.proofs.Common.{◌≡◌, ℕ, ◌<◌, List, [], ◌∷◌, ◌++◌, length, sym, refl, ap, ◌∙◌, append_assoc, arith, length-append}
use Rattle.std.proofs.lemmas.List.{append-nil}
use Rattle.std.proofs.ByRecursion.{All-push}
use Rattle.family.specs.Readings.{Reading, ◌▹◌}
use Rattle.cuttings.specs.Cutting.{joined, Event, read, mark, readings, Served, Parted, Permitted}
use Rattle.cuttings.proofs.Ends.{Ended, empty, ends, ended, not_nil, same_front, same_last, all_init, all_left, all_right, joined_push, readings_append}

-- where the mark stands in a log that got one more event
pub data Split (log : List Event) (e : Event) (before after : List Event) : Type 0 where
  here : log ≡ before → e ≡ mark → after ≡ [] → Split log e before after
  past : (older : List Event) → log ≡ before ++ (mark ∷ older) → after ≡ older ▹ e → Split log e before after

pub split : (log : List Event) (e : Event) (before after : List Event) → log ▹ e ≡ before ++ (mark ∷ after) → Split log e before after
split log e before after h = go (ended after) h
  where
    go : {late : List Event} → Ended late → log ▹ e ≡ before ++ (mark ∷ late) → Split log e before late
    go empty k = here (same_front log before e mark k) (same_last log before e mark k) refl
    go (ends older d) k =
        let k' : log ▹ e ≡ (before ++ (mark ∷ older)) ▹ d = k ∙ sym (append_assoc before (mark ∷ older) (d ∷ [])) in
        let s : e ≡ d = same_last log (before ++ (mark ∷ older)) e d k' in
        past older (same_front log (before ++ (mark ∷ older)) e d k') (ap (λ (x : Event). older ▹ x) (sym s))

pub not_mark : {A : Type 0} (r : Reading) → read r ≡ mark → A
not_mark r e = let z : ◌≡◌ {A = ℕ} 0 1 = cc in absurd (omega arith)

pub readings_read : (log : List Event) (r : Reading) → readings (log ▹ read r) ≡ readings log ▹ r
readings_read log r = readings_append log (read r ∷ [])

pub readings_mark : (log : List Event) → readings (log ▹ mark) ≡ readings log
readings_mark log = readings_append log (mark ∷ []) ∙ append-nil (readings log)

-- each part of a run that one choice serves is served by it
pub part_served : {choice : Type 0} (serves : choice → Reading → Type 0) → Parted (Served serves)
part_served serves a b c s = (s.0, all_right (serves s.0) a b (all_left (serves s.0) (a ++ b) c s.1))

module _ (fits : List Reading → Type 0) where
  pub permit_none : Permitted fits [] []
  permit_none = record { whole = refl; some = tt; fit = tt; apart = λ before after e. none before after e }
    where
      none : (before after : List Event) → [] ≡ before ++ (mark ∷ after) →
          (early : List (List Reading)) × (late : List (List Reading)) × ([] ≡ early ++ late) × (joined early ≡ readings before) × (joined late ≡ readings after)
      none [] after e = let z : ◌≡◌ {A = ℕ} 0 1 = cc in absurd (omega arith)
      none (x ∷ before) after e = let z : ◌≡◌ {A = ℕ} 0 1 = cc in absurd (omega arith)

  pub permit_mark : (log : List Event) (runs : List (List Reading)) → Permitted fits log runs → Permitted fits (log ▹ mark) runs
  permit_mark log runs p = record {
    whole = p.whole ∙ sym (readings_mark log);
    some = p.some;
    fit = p.fit;
    apart = λ before after e. go before after (split log mark before after e);
  }
    where
      go : (before after : List Event) → Split log mark before after →
          (early : List (List Reading)) × (late : List (List Reading)) × (runs ≡ early ++ late) × (joined early ≡ readings before) × (joined late ≡ readings after)
      go before after (here same _ none) = (runs, [], sym (append-nil runs), p.whole ∙ ap readings same, ap readings (sym none))
      go before after (past older e l) =
          let (early, late, a, b, c) = p.apart before older e in
          (early, late, a, b, c ∙ sym (readings_mark older) ∙ ap readings (sym l))

  -- a reading alone in a run
  pub permit_alone : (log : List Event) (r : Reading) (runs : List (List Reading)) → Permitted fits log runs → fits (r ∷ []) → Permitted fits (log ▹ read r) (runs ▹ (r ∷ []))
  permit_alone log r runs p s = record {
    whole = joined_push runs (r ∷ []) ∙ ap (λ (l : List Reading). l ▹ r) p.whole ∙ sym (readings_read log r);
    some = All-push (λ (run : List Reading). 0 < length run) runs (r ∷ []) p.some (omega arith);
    fit = All-push (fits) runs (r ∷ []) p.fit s;
    apart = λ before after e. go before after (split log (read r) before after e);
  }
    where
      go : (before after : List Event) → Split log (read r) before after →
          (early : List (List Reading)) × (late : List (List Reading)) × (runs ▹ (r ∷ []) ≡ early ++ late) × (joined early ≡ readings before) × (joined late ≡ readings after)
      go before after (here _ e _) = not_mark r e
      go before after (past older e l) =
          let (early, late, a, b, c) = p.apart before older e in (
            early,
            late ▹ (r ∷ []),
            ap (λ (x : List (List Reading)). x ▹ (r ∷ [])) a ∙ append_assoc early late ((r ∷ []) ∷ []),
            b,
            joined_push late (r ∷ []) ∙ ap (λ (x : List Reading). x ▹ r) c ∙ sym (readings_read older r) ∙ ap readings (sym l),
          )

  -- a reading that joins the last run
  pub permit_joined : (log : List Event) (q r : Reading) (runs : List (List Reading)) (run : List Reading) → Permitted fits (log ▹ read q) (runs ▹ run) → fits (run ▹ r) →
      Permitted fits (log ▹ read q ▹ read r) (runs ▹ (run ▹ r))
  permit_joined log q r runs run p s = record {
    whole = joined_push runs (run ▹ r) ∙ sym (append_assoc (joined runs) run (r ∷ [])) ∙ ap (λ (l : List Reading). l ▹ r) (sym (joined_push runs run) ∙ p.whole) ∙ sym (readings_read (log ▹ read q) r);
    some = All-push (λ (l : List Reading). 0 < length l) runs (run ▹ r) (all_init (λ (l : List Reading). 0 < length l) runs run p.some) (omega (arith, length-append run (r ∷ [])));
    fit = All-push (fits) runs (run ▹ r) (all_init (fits) runs run p.fit) s;
    apart = λ before after e. go before after (split (log ▹ read q) (read r) before after e);
  }
    where
      Parts : List Event → List Event → Type 0
      Parts before after = (early : List (List Reading)) × (late : List (List Reading)) × (runs ▹ (run ▹ r) ≡ early ++ late) × (joined early ≡ readings before) × (joined late ≡ readings after)

      -- the runs past the mark are some, since the log's last reading stands there
      behind : (before after older : List Event) → after ≡ older ▹ read r → Split log (read q) before older → (early : List (List Reading)) → {late : List (List Reading)} → Ended late →
          runs ▹ run ≡ early ++ late → joined early ≡ readings before → joined late ≡ readings older → Parts before after
      behind before after older l (here _ e _) early _ _ _ _ = not_mark q e
      behind before after older l (past old _ k) early empty a b c = absurd (not_nil (readings old) q (sym (readings_read old q) ∙ ap readings (sym k) ∙ sym c))
      behind before after older l (past old _ k) early (ends late last) a b c =
          let a' : runs ▹ run ≡ (early ++ late) ▹ last = a ∙ sym (append_assoc early late (last ∷ [])) in
          let f : runs ≡ early ++ late = same_front runs (early ++ late) run last a' in
          let g : run ≡ last = same_last runs (early ++ late) run last a' in (
            early,
            late ▹ (run ▹ r),
            ap (λ (x : List (List Reading)). x ▹ (run ▹ r)) f ∙ append_assoc early late ((run ▹ r) ∷ []),
            b,
            joined_push late (run ▹ r) ∙ sym (append_assoc (joined late) run (r ∷ [])) ∙ ap (λ (x : List Reading). (joined late ++ x) ▹ r) g
                ∙ ap (λ (x : List Reading). x ▹ r) (sym (joined_push late last) ∙ c) ∙ sym (readings_read older r) ∙ ap readings (sym l),
          )

      go : (before after : List Event) → Split (log ▹ read q) (read r) before after → Parts before after
      go before after (here _ e _) = not_mark r e
      go before after (past older e l) =
          let (early, late, a, b, c) = p.apart before older e in
          behind before after older l (split log (read q) before older e) early (ended late) a b c
