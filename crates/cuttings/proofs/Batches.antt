-- Between two marks the tape's runs are those of a tape that got the batch alone.
use Rattle.std.proofs.Common.{◌≡◌, ℕ, ◌≤◌, ◌⊎◌, List, [], ◌∷◌, ◌++◌, map, sym, refl, ap, ◌∙◌, subst, inl, inr, append_assoc, arith}
use Rattle.std.proofs.lemmas.List.{append-nil}
use Rattle.family.specs.Readings.{Reading, ◌▹◌}
use Rattle.cuttings.specs.Cutting.{joined, held, Event, read, mark, readings, Batch, Parted, Permitted, TapeRuns, opened, marked, first, after_mark, joins, begins}
use Rattle.cuttings.proofs.Ends.{Ended, empty, ends, ended, not_nil, same_front, same_last}
use Rattle.cuttings.proofs.Permits.{Split, here, past, split, not_mark, readings_read, readings_mark}
use Rattle.cuttings.proofs.Fewest.{tape_permitted}
use Rattle.cuttings.proofs.Reach.{tape_reach}

no_mark : {A : Type 0} (before after : List Event) → [] ≡ before ++ (mark ∷ after) → A
no_mark [] after e = let z : ◌≡◌ {A = ℕ} 0 1 = cc in absurd (omega arith)
no_mark (x ∷ before) after e = let z : ◌≡◌ {A = ℕ} 0 1 = cc in absurd (omega arith)

module _ (fits : List Reading → Type 0) where
  -- the runs on both sides of a mark
  pub record Sides (before after : List Event) (runs : List (List Reading)) : Type 0 where
    pub early : List (List Reading)
    pub late : List (List Reading)
    pub both : runs ≡ early ++ late
    pub old : TapeRuns fits before early
    pub new : TapeRuns fits after late

  none_runs : {log : List Event} {runs : List (List Reading)} → TapeRuns fits log runs → log ≡ [] → runs ≡ []
  none_runs opened e = refl
  none_runs (marked log runs g) e = absurd (not_nil log mark e)
  none_runs (first r s) e = absurd (not_nil [] (read r) e)
  none_runs (after_mark log runs r g s) e = absurd (not_nil (log ▹ mark) (read r) e)
  none_runs (joins log q r done run g s) e = absurd (not_nil (log ▹ read q) (read r) e)
  none_runs (begins log q r done run g n s) e = absurd (not_nil (log ▹ read q) (read r) e)

  side_marked : (log : List Event) (runs : List (List Reading)) (before after : List Event) → TapeRuns fits log runs →
      ((after : List Event) → log ≡ before ++ (mark ∷ after) → Sides before after runs) → Split log mark before after → Sides before after runs
  side_marked log runs before after g ih (here same _ none) = record {
    early = runs;
    late = [];
    both = sym (append-nil runs);
    old = subst (λ (l : List Event). TapeRuns fits l runs) same g;
    new = subst (λ (l : List Event). TapeRuns fits l []) (sym none) opened;
  }
  side_marked log runs before after g ih (past older e l) =
      let s = ih older e in
      record {
        early = s.early;
        late = s.late;
        both = s.both;
        old = s.old;
        new = subst (λ (x : List Event). TapeRuns fits x s.late) (sym l) (marked older s.late s.new);
      }

  -- a reading alone after a mark, whatever stands between the two marks
  alone_after : (log : List Event) (r : Reading) (before older : List Event) (late : List (List Reading)) → Split log mark before older → TapeRuns fits older late → fits (r ∷ []) →
      TapeRuns fits (older ▹ read r) (late ▹ (r ∷ []))
  alone_after log r before older late (here _ _ none) g s =
      let l : late ≡ [] = none_runs g none in
      rw (none, l) (first r s)
  alone_after log r before older late (past old _ k) g s =
      rw k (after_mark old late r (rw k at g) s)

  side_after : (log : List Event) (runs : List (List Reading)) (r : Reading) (before after : List Event) → fits (r ∷ []) →
      ((after : List Event) → log ▹ mark ≡ before ++ (mark ∷ after) → Sides before after runs) → Split (log ▹ mark) (read r) before after → Sides before after (runs ▹ (r ∷ []))
  side_after log runs r before after s ih (here _ e _) = not_mark r e
  side_after log runs r before after s ih (past older e l) =
      let d = ih older e in
      record {
        early = d.early;
        late = d.late ▹ (r ∷ []);
        both = ap (λ (x : List (List Reading)). x ▹ (r ∷ [])) d.both ∙ append_assoc d.early d.late ((r ∷ []) ∷ []);
        old = d.old;
        new = subst (λ (x : List Event). TapeRuns fits x (d.late ▹ (r ∷ []))) (sym l) (alone_after log r before older d.late (split log mark before older e) d.new s);
      }

  module _ (log : List Event) (q r : Reading) (done : List (List Reading)) (run : List Reading) (before : List Event) where
    -- past the mark too the last run is the open one
    record Open (older : List Event) : Type 0 where
      from : List Event
      early : List (List Reading)
      late : List (List Reading)
      both : done ≡ early ++ late
      named : older ≡ from ▹ read q
      old : TapeRuns fits before early
      new : TapeRuns fits (from ▹ read q) (late ▹ run)

    still_open : (older : List Event) → Split log (read q) before older → (early : List (List Reading)) {late : List (List Reading)} → Ended late → done ▹ run ≡ early ++ late →
        TapeRuns fits before early → TapeRuns fits older late → Open older
    still_open older (here _ e _) early _ _ _ _ = not_mark q e
    still_open older (past from _ k) early empty both old new = absurd (not_nil (readings from) q (sym (readings_read from q) ∙ ap readings (sym k) ∙ sym (tape_permitted fits new).whole))
    still_open older (past from _ k) early (ends late last) both old new =
        let e : done ▹ run ≡ (early ++ late) ▹ last = both ∙ sym (append_assoc early late (last ∷ [])) in
        let l : run ≡ last = same_last done (early ++ late) run last e in
        record {
          from = from;
          early = early;
          late = late;
          both = same_front done (early ++ late) run last e;
          named = k;
          old = old;
          new = subst (λ (x : List Reading). TapeRuns fits (from ▹ read q) (late ▹ x)) (sym l) (subst (λ (x : List Event). TapeRuns fits x (late ▹ last)) k new);
        }

    module _ (after : List Event) (ih : (after : List Event) → log ▹ read q ≡ before ++ (mark ∷ after) → Sides before after (done ▹ run)) where
      opens : (older : List Event) → log ▹ read q ≡ before ++ (mark ∷ older) → Open older
      opens older e = let d = ih older e in still_open older (split log (read q) before older e) d.early (ended d.late) d.both d.old d.new

      side_joins : fits (run ▹ r) → Split (log ▹ read q) (read r) before after → Sides before after (done ▹ (run ▹ r))
      side_joins s (here _ e _) = not_mark r e
      side_joins s (past older e l) =
          let o = opens older e in
          let n : after ≡ o.from ▹ read q ▹ read r = l ∙ ap (λ (x : List Event). x ▹ read r) o.named in
          record {
            early = o.early;
            late = o.late ▹ (run ▹ r);
            both = ap (λ (x : List (List Reading)). x ▹ (run ▹ r)) o.both ∙ append_assoc o.early o.late ((run ▹ r) ∷ []);
            old = o.old;
            new = subst (λ (x : List Event). TapeRuns fits x (o.late ▹ (run ▹ r))) (sym n) (joins o.from q r o.late run o.new s);
          }

      side_begins : ¬ fits (run ▹ r) → fits (r ∷ []) → Split (log ▹ read q) (read r) before after → Sides before after (done ▹ run ▹ (r ∷ []))
      side_begins no_fit s (here _ e _) = not_mark r e
      side_begins no_fit s (past older e l) =
          let o = opens older e in
          let n : after ≡ o.from ▹ read q ▹ read r = l ∙ ap (λ (x : List Event). x ▹ read r) o.named in
          record {
            early = o.early;
            late = o.late ▹ run ▹ (r ∷ []);
            both = ap (λ (x : List (List Reading)). x ▹ run ▹ (r ∷ [])) o.both ∙ ap (λ (x : List (List Reading)). x ▹ (r ∷ [])) (append_assoc o.early o.late (run ∷ [])) ∙ append_assoc o.early (o.late ▹ run) ((r ∷ []) ∷ []);
            old = o.old;
            new = subst (λ (x : List Event). TapeRuns fits x (o.late ▹ run ▹ (r ∷ []))) (sym n) (begins o.from q r o.late run o.new no_fit s);
          }

  pub sides : {log : List Event} {runs : List (List Reading)} → TapeRuns fits log runs → (before after : List Event) → log ≡ before ++ (mark ∷ after) → Sides before after runs
  sides opened before after e = no_mark before after e
  sides (marked log runs g) before after e = side_marked log runs before after g (sides g before) (split log mark before after e)
  sides (first r s) before after e = only (split [] (read r) before after e)
    where
      only : Split [] (read r) before after → Sides before after ((r ∷ []) ∷ [])
      only (here _ k _) = not_mark r k
      only (past older k _) = no_mark before older k
  sides (after_mark log runs r g s) before after e = side_after log runs r before after s (sides g before) (split (log ▹ mark) (read r) before after e)
  sides (joins log q r done run g s) before after e = side_joins log q r done run before after (sides g before) s (split (log ▹ read q) (read r) before after e)
  sides (begins log q r done run g n s) before after e = side_begins log q r done run before after (sides g before) n s (split (log ▹ read q) (read r) before after e)

  -- the tape's runs of what stands between two marks, which may hold marks
  pub record Own (before middle : List Event) (runs : List (List Reading)) : Type 0 where
    pub early : List (List Reading)
    pub mine : List (List Reading)
    pub late : List (List Reading)
    pub all : runs ≡ early ++ (mine ++ late)
    pub past_early : joined early ≡ readings before
    pub tape : TapeRuns fits middle mine

  readings_map : (batch : List Reading) → readings (map read batch) ≡ batch
  readings_map [] = refl
  readings_map (r ∷ batch) = ap (λ (l : List Reading). r ∷ l) (readings_map batch)

  module _ (middle after : List Event) (ends_fresh : (after ≡ []) ⊎ ((later : List Event) × (after ≡ mark ∷ later))) where
    -- where no mark precedes it
    own_first : {log : List Event} {runs : List (List Reading)} → TapeRuns fits log runs → log ≡ middle ++ after →
        (mine : List (List Reading)) × (late : List (List Reading)) × (runs ≡ mine ++ late) × TapeRuns fits middle mine
    own_first {log} {runs} g e = go ends_fresh
      where
        go : (after ≡ []) ⊎ ((later : List Event) × (after ≡ mark ∷ later)) → (mine : List (List Reading)) × (late : List (List Reading)) × (runs ≡ mine ++ late) × TapeRuns fits middle mine
        go (inl n) =
            let l : log ≡ middle = e ∙ ap (λ (x : List Event). middle ++ x) n ∙ append-nil middle in
            (runs, [], sym (append-nil runs), subst (λ (x : List Event). TapeRuns fits x runs) l g)
        go (inr (later, n)) =
            let s = sides g middle later (e ∙ ap (λ (x : List Event). middle ++ x) n) in
            (s.early, s.late, s.both, s.old)

    pub own : {log : List Event} {runs : List (List Reading)} → TapeRuns fits log runs → (before : List Event) → log ≡ before ++ (middle ++ after) →
        (before ≡ []) ⊎ ((older : List Event) × (before ≡ older ▹ mark)) → Own before middle runs
    own g before placed (inl n) =
        let (mine, late, e, t) = own_first g (placed ∙ ap (λ (x : List Event). x ++ (middle ++ after)) n) in
        record { early = []; mine = mine; late = late; all = e; past_early = ap readings (sym n); tape = t }
    own g before placed (inr (older, n)) =
        let s = sides g older (middle ++ after) (placed ∙ ap (λ (x : List Event). x ++ (middle ++ after)) n ∙ append_assoc older (mark ∷ []) (middle ++ after)) in
        let (mine, late, e, t) = own_first s.new refl in
        record {
          early = s.early;
          mine = mine;
          late = late;
          all = s.both ∙ ap (λ (x : List (List Reading)). s.early ++ x) e;
          past_early = (tape_permitted fits s.old).whole ∙ sym (readings_mark older) ∙ ap readings (sym n);
          tape = t;
        }

module _ (fits : List Reading → Type 0) (parts : Parted fits) where
  -- the first k runs of a batch hold as many readings as those of any permitted cutting of it
  pub batch_reach : {log : List Event} {runs : List (List Reading)} → TapeRuns fits log runs → (before : List Event) (batch : List Reading) (after : List Event) → Batch log before batch after →
      (early : List (List Reading)) × (mine : List (List Reading)) × (late : List (List Reading)) × (runs ≡ early ++ (mine ++ late)) × (joined early ≡ readings before) × (joined mine ≡ batch) ×
      ((cut : List (List Reading)) → Permitted fits (map read batch) cut → (k : ℕ) → held k cut ≤ held k mine)
  batch_reach g before batch after b =
      let o = own fits (map read batch) after b.ends_fresh g before b.placed b.begins_fresh in
      (o.early, o.mine, o.late, o.all, o.past_early, (tape_permitted fits o.tape).whole ∙ readings_map fits batch, tape_reach fits parts o.tape)
