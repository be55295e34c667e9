-- What holds of log and world after each dealing.
use Rattle.std.proofs.Common.{◌≡◌, ℕ, suc, ◌+◌, ◌<◌, ◌≤◌, Bool, true, false, cond, ltb, List, [], ◌∷◌, length, set, Some, None, Ok, Err, Decides, Option, Result, sym, refl, ap, ◌∙◌, subst, zero-mul, arith, ltb-false, ltb-true, eq-eqb}
use Rattle.std.proofs.ByRecursion.{All-push}
use Rattle.std.proofs.lemmas.Bool.{and_from, false≢true}
use Rattle.words.specs.declared.refusal.Reason.TheVariants.{BadTick, NothingToMark, OtherStore, NoPlace}
use Rattle.words.specs.declared.refusal.Refusal.{Refusal}
use Rattle.words.specs.Refusals.{refusal_of}
use Rattle.family.specs.Readings.{Reading, ◌▹◌, last_tick, Above}
use Rattle.family.specs.Refusing.{first_refusal, refuse_if, refuse_unless}
use Rattle.family.specs.Meaning.{Meaning, Fits, refusal, form_refusal}
use Rattle.family.specs.Laws.{Laws}
use Rattle.family.proofs.Forms.{refusal_parts}
use Rattle.family.proofs.Served.{allowed_serves, serving_allowed, ran_last}
use Rattle.cuttings.specs.Cutting.{Event, read, mark, readings, Parted, TapeRuns, marked, first, after_mark, joins, begins}
use Rattle.cuttings.proofs.Ends.{all_init, all_last}
use Rattle.cuttings.proofs.Permits.{readings_read, readings_mark, part_served}
use Rattle.cuttings.proofs.Fewest.{length_push, tape_needs}
use Rattle.layout.specs.Layout.{places_of, tape_word, count_word, opened_store}
use Rattle.recorder.specs.declared.tape.Phase.{Phase}
use Rattle.recorder.specs.declared.tape.Phase.TheVariants.{Fresh, Waiting, Running}
use Rattle.recorder.specs.declared.step.Event.TheVariants.{Mark}
use Rattle.recorder.specs.Phases.{running}
use Rattle.recorder.specs.Views.{View}
use Rattle.recorder.specs.Steps.{Outcome, refused, begun, cut, outcome, outcome_of, opened_refusal, late_refusal, unless_due, answer_by, view_by, store_by, StateBy, opened_view}
use Rattle.recorder.specs.Recording.{event_of, early_refusal, Began, By, RecordedBy}
use Rattle.recorder.specs.Histories.{World, noted, parted, Opened, Marked, Dealt, opened as tape_opened, recorded, marked as tape_marked, asked_at}
use Rattle.recorder.specs.Law.{Fit, not_above, batch_open, reading_refusal, HasNoPlace, RecordAnswer, MarkAnswer}
use Rattle.recorder.proofs.Readies.{fresh_fits}
use Rattle.recorder.proofs.Ticks.{run_last, last_is_run_last, accepted_push}
use Rattle.recorder.proofs.Records.{Rec, shape, Took, Holds}
use Rattle.recorder.proofs.Base.{clock_of, late_is, passed, Past, is_past, took_more, took_one, Base, base_read, base_mark, base_write, written_rec}

abbrev pub five : ℕ → ℕ → ℕ → ℕ → Phase → View
five wd len pl n q = record { width = wd; length = len; places = pl; written = n; phase = q }

-- the first record begins a batch
abbrev pub Batched : List Rec → Bool → Type 0
Batched [] b = b ≡ true
Batched (c ∷ cs) b = c.batch ≡ true

pub batched_push : (recs : List Rec) (c : Rec) (b : Bool) → Batched recs c.batch → Batched (recs ▹ c) b
batched_push [] c b h = h
batched_push (x ∷ recs) c b h = h

pub open_read : (log : List Event) (r : Reading) → batch_open (log ▹ read r) ≡ true
open_read [] r = refl
open_read (x ∷ []) r = refl
open_read (x ∷ read q ∷ log) r = open_read (read q ∷ log) r
open_read (x ∷ mark ∷ log) r = open_read (mark ∷ log) r

pub open_mark : (log : List Event) → batch_open (log ▹ mark) ≡ false
open_mark [] = refl
open_mark (x ∷ []) = refl
open_mark (x ∷ read q ∷ log) = open_mark (read q ∷ log)
open_mark (x ∷ mark ∷ log) = open_mark (mark ∷ log)

module _ {S : Type 0} (m : Meaning S) where
  -- the open run, and the tape's runs
  pub data Open (s : S) : List Event → List Rec → List (List Reading) → Phase → Type 0 where
    fresh : Open s [] [] [] Fresh
    waiting : (older : List Event) (recs : List Rec) (done : List (List Reading)) (l : ℕ) → TapeRuns (Fit m) (older ▹ mark) done → Batched recs true → Open s (older ▹ mark) recs done (Waiting l)
    running_on : (older : List Event) (q : Reading) (recs : List Rec) (done : List (List Reading)) (run : List Reading) (f l : ℕ) (b : Bool) →
        TapeRuns (Fit m) (older ▹ read q) (done ▹ run) → Took m s f l run → Batched recs b → Open s (older ▹ read q) recs done (Running f l b)

  pub record Inv (log : List Event) (v : View) (s : S) (store : List ℕ) : Type 0 where
    pub recs : List Rec
    pub done : List (List Reading)
    pub base : Base m log recs done v.width v.length v.places v.written store
    pub room : v.written + running v.phase ≤ v.places
    pub clock : last_tick (readings log) ≡ clock_of v.phase
    pub phase : Open s log recs done v.phase

  inv_same : (log : List Event) (v v' : View) (s s' : S) (store store' : List ℕ) → v' ≡ v → s' ≡ s → store' ≡ store → Inv log v s store → Inv log v' s' store'
  inv_same log v v' s s' store store' a b c i =
      subst (λ (x : View). Inv log x s' store') (sym a) (subst (λ (x : S). Inv log v x store') (sym b) (subst (λ (x : List ℕ). Inv log v s x) (sym c) i))

  opened_base : (w₀ : List ℕ) (b : Bool) → ltb (length w₀) 2 ≡ b → (rest : List ℕ) ×
      ((length (cond b w₀ (set (set w₀ 0 (tape_word m.pick_width)) 1 (count_word 0))) ≡ length w₀)
      × (2 ≤ length w₀ → cond b w₀ (set (set w₀ 0 (tape_word m.pick_width)) 1 (count_word 0)) ≡ shape (tape_word m.pick_width) (count_word 0) [] rest))
  opened_base w₀ true h = ([], (refl, λ k. let z = ltb-true (length w₀) 2 h in absurd (omega arith)))
  opened_base [] false h = let z = ltb-false 0 2 h in absurd (omega arith)
  opened_base (x ∷ []) false h = let z = ltb-false 1 2 h in absurd (omega arith)
  opened_base (x ∷ y ∷ w₀) false h = (w₀, (refl, λ k. refl))

  pub opened_inv : (w₀ : List ℕ) (w : World S) → Opened m w₀ w → Inv [] w.tape w.state w.store
  opened_inv w₀ w o =
      let (rest, (l, sh)) = opened_base w₀ (ltb (length w₀) 2) refl in
      let new : List ℕ = opened_store m.pick_width w₀ in
      let base : Base m [] [] [] m.pick_width (length w₀) (places_of m.pick_width (length w₀)) 0 new =
      record { rest = rest; wide = refl; long = l; places = refl; count = refl; size = sym (zero-mul _); shaped = sh; holds = tt; rising = tt; timely = tt } in
      let i : Inv [] (opened_view m.pick_width (length w₀)) w.state new =
      record { recs = []; done = []; base = base; room = omega arith; clock = refl; phase = fresh } in
      inv_same [] (opened_view m.pick_width (length w₀)) w.tape w.state w.state new w.store o.tape refl o.words i

  module _ (laws : Laws m) where
    -- the reading alone is served
    alone : (r : Reading) → refusal m r ≡ None → Fit m (r ∷ [])
    alone r h =
        let p = refusal_parts (form_refusal m r) (m.unserved r) h in
        let c = laws.some_serves r p.0 p.1 in (c.0, (c.1, tt))

    parts : Parted (Fit m)
    parts = part_served m.serves

    -- with a place for each of the tape's runs not every cutting wants more
    placed : (log : List Event) (runs : List (List Reading)) (r : Reading) (places : ℕ) → TapeRuns (Fit m) (log ▹ read r) runs → length runs ≤ places → HasNoPlace m log r places → ⊥
    placed log runs r places g h all = let k = (tape_needs (Fit m) parts g places).0 all in omega arith

    module _ (log : List Event) (recs : List Rec) (done : List (List Reading)) (wd len pl n : ℕ) (s : S) (store : List ℕ) (b : Base m log recs done wd len pl n store)
        (r : Reading) (good : refusal m r ≡ None) (past : Past (last_tick (readings log)) r.tick) (v' : View) (s' : S) (store' : List ℕ) (a : Result ℕ Refusal) where
      abbrev AfterIt : Type 0
      AfterIt = Inv (noted log r a) v' s' store' × RecordAnswer m log r pl (v'.written + running v'.phase) None a

      -- refused for want of a place
      no_place : (q : Phase) (o : Open s log recs done q) → n + running q ≤ pl → last_tick (readings log) ≡ clock_of q → By m (five wd len pl n q) s store r v' s' store' a (refused (refusal_of NoPlace)) → HasNoPlace m log r pl → AfterIt
      no_place q o room clock by none =
          subst (λ (x : Result ℕ Refusal). Inv (noted log r x) v' s' store' × RecordAnswer m log r pl (v'.written + running v'.phase) None x) (sym by.answer) (
            inv_same log (five wd len pl n q) v' s s' store store' by.tape by.state by.words
                (record { recs = recs; done = done; base = b; room = room; clock = clock; phase = o }),
            (refl, none),
          )

      -- accepted
      taken : (k : ℕ) (v : View) (st : List ℕ) → a ≡ Ok k → v' ≡ v → store' ≡ st → k ≡ v.written + running v.phase → (HasNoPlace m log r pl → ⊥) → Inv (log ▹ read r) v s' st → AfterIt
      taken k v st e tape words count more i =
          subst (λ (x : Result ℕ Refusal). Inv (noted log r x) v' s' store' × RecordAnswer m log r pl (v'.written + running v'.phase) None x) (sym e)
          (inv_same (log ▹ read r) v v' s' s' st store' tape refl words i, (count ∙ ap (λ (x : View). x.written + running x.phase) (sym tape), more))

      now_clock : last_tick (readings (log ▹ read r)) ≡ Some r.tick
      now_clock = ap last_tick (readings_read log r) ∙ accepted_push (readings log) r

      one_run : Began m r s' → Took m s' r.tick r.tick (r ∷ [])
      one_run z = took_one m z.start s' r z.clear good (fresh_fits m laws r good z.start z.clear) z.taken

      count_done : n ≡ length recs → length done ≡ n
      count_done e = go recs done b.holds ∙ sym e
        where
          go : (cs : List Rec) (runs : List (List Reading)) → Holds m cs runs → length runs ≡ length cs
          go [] [] h = refl
          go [] (x ∷ runs) h = absurd h
          go (x ∷ cs) [] h = absurd h
          go (x ∷ cs) (y ∷ runs) h = ap suc (go cs runs h.1)

      -- a run begins on a tape that has none open
      begin : (q : Phase) (o : Open s log recs done q) → running q ≡ 0 → n + running q ≤ pl → last_tick (readings log) ≡ clock_of q → TapeRuns (Fit m) (log ▹ read r) (done ▹ (r ∷ [])) → Batched recs true →
          (x : Bool) → ltb n pl ≡ x → By m (five wd len pl n q) s store r v' s' store' a (cond x (begun r.tick) (refused (refusal_of NoPlace))) → AfterIt
      begin q o zero_open room clock g first_one true h by =
          let k = ltb-true n pl h in
          let l = length_push done (r ∷ []) in
          taken (n + 1) (five wd len pl n (Running r.tick r.tick true)) store by.answer by.tape by.words refl
          (placed log (done ▹ (r ∷ [])) r pl g (omega (arith, count_done b.count)))
          (record {
            recs = recs;
            done = done;
            base = base_read m log recs done wd len pl n store r b good past;
            room = omega arith;
            clock = now_clock;
            phase = running_on log r recs done (r ∷ []) r.tick r.tick true g (one_run by.state) first_one;
          })
      begin q o zero_open room clock g first_one false h by =
          let k = ltb-false n pl h in
          let l = length_push done (r ∷ []) in
          no_place q o room clock by ((tape_needs (Fit m) parts g pl).1 (omega (arith, count_done b.count)))

    -- the state's last tick is the run's
    last_taken : (s : S) (f l : ℕ) (run : List Reading) → Took m s f l run → m.last s ≡ Some l
    last_taken s f l run k = ran_last m laws k.ran ∙ go run k.spans.some k.spans.last
      where
        go : (run : List Reading) → 0 < length run → l ≡ run_last run → last_tick run ≡ Some l
        go [] h e = absurd (omega arith)
        go (r ∷ rs) h e = last_is_run_last r rs ∙ ap (λ (x : ℕ). Some x) (sym e)

    -- the reading does not fit the state, so no choice serves the run and it
    unfit : (s : S) (f l : ℕ) (run : List Reading) (r : Reading) → Took m s f l run → l < r.tick → (Fits m s r → ⊥) → Fit m (run ▹ r) → ⊥
    unfit s f l run r k past never h =
        never (record {
          above = subst (λ (o : Option ℕ). Above o r.tick) (sym (last_taken s f l run k)) past;
          some = record {
            by = h.0;
            allowed = serving_allowed m laws h.0 k.ran (all_init (m.serves h.0) run r h.1);
            serving = all_last (m.serves h.0) run r h.1;
          };
        })

    fit_now : (s : S) (f l : ℕ) (run : List Reading) (r : Reading) → Took m s f l run → Fits m s r → Fit m (run ▹ r)
    fit_now s f l run r k h =
        let c = h.some.by in
        (c, All-push (m.serves c) run r (allowed_serves m laws c k.ran h.some.allowed) h.some.serving)

    -- a recording that passes the checks before the place
    seen : (log : List Event) (recs : List Rec) (done : List (List Reading)) (wd len pl n : ℕ) (s : S) (store : List ℕ) (q : Phase) → Base m log recs done wd len pl n store → Open s log recs done q → n + running q ≤ pl → last_tick (readings log) ≡ clock_of q →
        (r : Reading) → refusal m r ≡ None → Past (clock_of q) r.tick → (v' : View) (s' : S) (store' : List ℕ) (a : Result ℕ Refusal) (flag : Bool) → Decides flag (Fits m s r) →
        By m (five wd len pl n q) s store r v' s' store' a (outcome n pl q (event_of flag r.tick)) →
        Inv (noted log r a) v' s' store' × RecordAnswer m log r pl (v'.written + running v'.phase) None a
    seen log recs done wd len pl n s store Fresh b fresh room clock r good past v' s' store' a true d by =
        begin [] [] [] wd len pl n s store b r good tt v' s' store' a Fresh fresh refl room clock (first r (alone r good)) refl (ltb n pl) refl by
    seen log recs done wd len pl n s store Fresh b fresh room clock r good past v' s' store' a false d by =
        begin [] [] [] wd len pl n s store b r good tt v' s' store' a Fresh fresh refl room clock (first r (alone r good)) refl (ltb n pl) refl by
    seen log recs done wd len pl n s store (Waiting l) b (waiting older _ _ _ g fb) room clock r good past v' s' store' a true d by =
        begin (older ▹ mark) recs done wd len pl n s store b r good (subst (λ (o : Option ℕ). Past o r.tick) (sym clock) past) v' s' store' a (Waiting l) (waiting older recs done l g fb) refl room clock
        (after_mark older done r g (alone r good)) fb (ltb n pl) refl by
    seen log recs done wd len pl n s store (Waiting l) b (waiting older _ _ _ g fb) room clock r good past v' s' store' a false d by =
        begin (older ▹ mark) recs done wd len pl n s store b r good (subst (λ (o : Option ℕ). Past o r.tick) (sym clock) past) v' s' store' a (Waiting l) (waiting older recs done l g fb) refl room clock
        (after_mark older done r g (alone r good)) fb (ltb n pl) refl by
    seen log recs done wd len pl n s store (Running f l x) b (running_on older q _ _ run _ _ _ g k fb) room clock r good past v' s' store' a true d by =
        let fit = d.0 refl in
        let grown : TapeRuns (Fit m) (older ▹ read q ▹ read r) (done ▹ (run ▹ r)) = joins older q r done run g (fit_now s f l run r k fit) in
        let past' : Past (last_tick (readings (older ▹ read q))) r.tick = subst (λ (o : Option ℕ). Past o r.tick) (sym clock) past in
        taken (older ▹ read q) recs done wd len pl n s store b r good past' v' s' store' a (n + 1) (five wd len pl n (Running f r.tick x)) store by.answer by.tape by.words refl
        (placed (older ▹ read q) (done ▹ (run ▹ r)) r pl grown
        (omega (arith, length_push done (run ▹ r), count_done (older ▹ read q) recs done wd len pl n s store b r good past' v' s' store' a b.count)))
        (record {
          recs = recs;
          done = done;
          base = base_read m (older ▹ read q) recs done wd len pl n store r b good past';
          room = room;
          clock = now_clock (older ▹ read q) recs done wd len pl n s store b r good past' v' s' store' a;
          phase = running_on (older ▹ read q) r recs done (run ▹ r) f r.tick x grown (took_more m s s' f l run r k good fit by.state past) fb;
        })
    seen log recs done wd len pl n s store (Running f l x) b (running_on older q _ _ run _ _ _ g k fb) room clock r good past v' s' store' a false d by =
        go (ltb (n + 1) pl) refl by
      where
        here : List Event
        here = older ▹ read q

        grown : TapeRuns (Fit m) (older ▹ read q ▹ read r) (done ▹ run ▹ (r ∷ []))
        grown = begins older q r done run g (unfit s f l run r k past (λ h. absurd (false≢true (d.1 h)))) (alone r good)

        past' : Past (last_tick (readings (older ▹ read q))) r.tick
        past' = subst (λ (o : Option ℕ). Past o r.tick) (sym clock) past

        sized : length (done ▹ run ▹ (r ∷ [])) ≡ n + 2
        sized = omega (arith, length_push (done ▹ run) (r ∷ []), length_push done run, count_done (older ▹ read q) recs done wd len pl n s store b r good past' v' s' store' a b.count)

        go : (y : Bool) → ltb (n + 1) pl ≡ y → By m (five wd len pl n (Running f l x)) s store r v' s' store' a (cond y (cut f l x r.tick) (refused (refusal_of NoPlace))) →
            Inv (noted (older ▹ read q) r a) v' s' store' × RecordAnswer m (older ▹ read q) r pl (v'.written + running v'.phase) None a
        go true h by =
            let j = ltb-true (n + 1) pl h in
            let c : Rec = written_rec m s f l x in
            taken (older ▹ read q) recs done wd len pl n s store b r good past' v' s' store' a (n + 2) (five wd len pl (n + 1) (Running r.tick r.tick false)) _ by.answer by.tape by.words (omega arith)
            (placed (older ▹ read q) (done ▹ run ▹ (r ∷ [])) r pl grown (omega (arith, sized)))
            (record {
              recs = recs ▹ c;
              done = done ▹ run;
              base = base_read m (older ▹ read q) (recs ▹ c) (done ▹ run) wd len pl (n + 1) _ r (base_write m laws (older ▹ read q) recs done wd len pl n store s f l x run b k room) good past';
              room = omega arith;
              clock = now_clock (older ▹ read q) recs done wd len pl n s store b r good past' v' s' store' a;
              phase = running_on (older ▹ read q) r (recs ▹ c) (done ▹ run) (r ∷ []) r.tick r.tick false grown
                  (one_run (older ▹ read q) recs done wd len pl n s store b r good past' v' s' store' a by.state) (batched_push recs c false fb);
            })
        go false h by =
            let j = ltb-false (n + 1) pl h in
            no_place (older ▹ read q) recs done wd len pl n s store b r good past' v' s' store' a (Running f l x) (running_on older q recs done run f l x g k fb) room clock by
            ((tape_needs (Fit m) parts grown pl).1 (omega (arith, sized)))

    -- the call is given what the tape was opened with
    pub same_store : (v : View) (store : List ℕ) → v.width ≡ m.pick_width → length store ≡ v.length → opened_refusal v m.pick_width (length store) ≡ None
    same_store v store a b =
        ap (λ (x : Bool). refuse_unless x OtherStore) (and_from _ _ (eq-eqb m.pick_width v.width (sym a)) (eq-eqb (length store) v.length b))

    -- the checks before the place are those of the log
    pub early_is : (log : List Event) (v : View) (s : S) (store : List ℕ) (r : Reading) → Inv log v s store → early_refusal m v (length store) r ≡ reading_refusal m log r
    early_is log v s store r i =
        ap (λ (o : Option Refusal). first_refusal o (first_refusal (late_refusal v.phase r.tick) (refusal m r))) (same_store v store i.base.wide i.base.long)
        ∙ ap (λ (o : Option Refusal). first_refusal o (refusal m r)) (late_is v.phase r.tick)
        ∙ ap (λ (o : Option ℕ). first_refusal (refuse_if (not_above o r.tick) BadTick) (refusal m r)) (sym i.clock)

    pub record_inv : (log : List Event) (v : View) (s : S) (store : List ℕ) (r : Reading) (v' : View) (s' : S) (store' : List ℕ) (a : Result ℕ Refusal) → Inv log v s store →
        RecordedBy m (early_refusal m v (length store) r) v s store r v' s' store' a →
        Inv (noted log r a) v' s' store' × RecordAnswer m log r v.places (v'.written + running v'.phase) (reading_refusal m log r) a
    record_inv log v s store r v' s' store' a i h =
        go (reading_refusal m log r) refl (subst (λ (o : Option Refusal). RecordedBy m o v s store r v' s' store' a) (early_is log v s store r i) h)
      where
        go : (o : Option Refusal) → reading_refusal m log r ≡ o → RecordedBy m o v s store r v' s' store' a → Inv (noted log r a) v' s' store' × RecordAnswer m log r v.places (v'.written + running v'.phase) o a
        go (Some e) k by =
            subst (λ (x : Result ℕ Refusal). Inv (noted log r x) v' s' store' × RecordAnswer m log r v.places (v'.written + running v'.phase) (Some e) x) (sym by.answer)
            (inv_same log v v' s s' store store' by.tape by.state by.words i, refl)
        go None k se =
            let two = passed (not_above (last_tick (readings log)) r.tick) (refusal m r) k in
            seen log i.recs i.done v.width v.length v.places v.written s store v.phase i.base i.phase i.room i.clock r two.1
            (subst (λ (o : Option ℕ). Past o r.tick) i.clock (is_past (last_tick (readings log)) r.tick two.0)) v' s' store' a se.flag se.decides se.by

    -- marking
    mark_now : (log : List Event) (recs : List Rec) (done : List (List Reading)) (wd len pl n : ℕ) (s : S) (store : List ℕ) (q : Phase) → Base m log recs done wd len pl n store → Open s log recs done q → n + running q ≤ pl → last_tick (readings log) ≡ clock_of q →
        (v' : View) (s' : S) (store' : List ℕ) (a : Result Unit Refusal) → a ≡ answer_by (outcome n pl q Mark) → v' ≡ view_by (five wd len pl n q) (outcome n pl q Mark) → store' ≡ store_by (five wd len pl n q) (m.words s) store (outcome n pl q Mark) → StateBy m s s' (outcome n pl q Mark) →
        Inv (parted log a) v' s' store' × MarkAnswer m (batch_open log) a
    mark_now log recs done wd len pl n s store Fresh b fresh room clock v' s' store' a e t ws st =
        subst (λ (x : Result Unit Refusal). Inv (parted [] x) v' s' store' × MarkAnswer m false x) (sym e)
        (inv_same [] (five wd len pl n Fresh) v' s s' store store' t st ws (record { recs = []; done = []; base = b; room = room; clock = clock; phase = fresh }), refl)
    mark_now log recs done wd len pl n s store (Waiting l) b (waiting older _ _ _ g fb) room clock v' s' store' a e t ws st =
        subst (λ (x : Result Unit Refusal). Inv (parted (older ▹ mark) x) v' s' store' × MarkAnswer m (batch_open (older ▹ mark)) x) (sym e) (
          inv_same (older ▹ mark) (five wd len pl n (Waiting l)) v' s s' store store' t st ws (record { recs = recs; done = done; base = b; room = room; clock = clock; phase = waiting older recs done l g fb }),
          subst (λ (y : Bool). MarkAnswer m y (Err (refusal_of NothingToMark))) (sym (open_mark older)) refl,
        )
    mark_now log recs done wd len pl n s store (Running f l x) b (running_on older q _ _ run _ _ _ g k fb) room clock v' s' store' a e t ws st =
        let c : Rec = written_rec m s f l x in
        subst (λ (x : Result Unit Refusal). Inv (parted (older ▹ read q) x) v' s' store' × MarkAnswer m (batch_open (older ▹ read q)) x) (sym e) (
          inv_same (older ▹ read q ▹ mark) (five wd len pl (n + 1) (Waiting l)) v' s' s' _ store' t refl ws
              (record {
                recs = recs ▹ c;
                done = done ▹ run;
                base = base_mark m (older ▹ read q) (recs ▹ c) (done ▹ run) wd len pl (n + 1) _ (base_write m laws (older ▹ read q) recs done wd len pl n store s f l x run b k room);
                room = omega arith;
                clock = ap last_tick (readings_mark (older ▹ read q)) ∙ clock;
                phase = waiting (older ▹ read q) (recs ▹ c) (done ▹ run) l (marked (older ▹ read q) (done ▹ run) g) (batched_push recs c true fb);
              }),
          subst (λ (y : Bool). MarkAnswer m y (Ok tt)) (sym (open_read older q)) refl,
        )

    pub as_it_was : (v : View) (store : List ℕ) (o : Outcome) → v.width ≡ m.pick_width → length store ≡ v.length → unless_due (opened_refusal v m.pick_width (length store)) o ≡ o
    as_it_was v store o a b = ap (λ (x : Option Refusal). unless_due x o) (same_store v store a b)

    pub mark_inv : (log : List Event) (w w' : World S) (a : Result Unit Refusal) → Inv log w.tape w.state w.store → Marked m w a w' → Inv (parted log a) w'.tape w'.state w'.store × MarkAnswer m (batch_open log) a
    mark_inv log w w' a i h =
        let v = w.tape in
        let is = as_it_was v w.store (outcome_of v Mark) i.base.wide i.base.long in
        mark_now log i.recs i.done v.width v.length v.places v.written w.state w.store v.phase i.base i.phase i.room i.clock w'.tape w'.state w'.store a
        (h.answer ∙ ap answer_by is) (h.tape ∙ ap (view_by v) is) (h.words ∙ ap (store_by v (m.words w.state) w.store) is) (subst (λ (o : Outcome). StateBy m w.state w'.state o) is h.state)

    pub dealt_inv : {log : List Event} {w : World S} → Dealt m log w → Inv log w.tape w.state w.store
    dealt_inv (tape_opened w₀ w o) = opened_inv w₀ w o
    dealt_inv (recorded log w w' r a d h) = (record_inv log w.tape w.state w.store r w'.tape w'.state w'.store a (dealt_inv d) h).0
    dealt_inv (tape_marked log w w' a d h) = (mark_inv log w w' a (dealt_inv d) h).0
    dealt_inv (asked_at log w t row row' a d h) = dealt_inv d
