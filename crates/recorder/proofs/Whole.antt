-- The law over all dealings.
use Rattle.std.proofs.Common.{◌≡◌, ℕ, suc, ◌+◌, ◌<◌, ◌≤◌, Bool, true, false, cond, leb, ◌⊎◌, List, [], ◌∷◌, ◌++◌, map, length, drop, Ok, Err, filter, Option, Result, sym, refl, ap, ◌∙◌, subst, inl, inr, append_assoc, arith, length-append, le-leb, leb-true}
use borrow.Author.Tests.{lt-leb}
use Rattle.std.specs.List.{AllByRecursion}
use Rattle.std.proofs.lemmas.List.{append-nil, map-append, length-map}
use Rattle.std.proofs.ByRecursion.{All-weaker, All-append}
use Rattle.std.proofs.lemmas.Bool.{cond-true, cond-false, cases_lt, and_from, and_left, and_right}
use Rattle.words.specs.declared.refusal.Reason.TheVariants.{BadTick, NoSegment, WordsLength}
use Rattle.words.specs.declared.refusal.Refusal.{Refusal}
use Rattle.words.specs.Refusals.{refusal_of}
use Rattle.words.specs.Words.{tick_in_range}
use Rattle.family.specs.Readings.{Reading, ◌▹◌}
use Rattle.family.specs.Refusing.{first_refusal, refuse_unless, right, spans, tick_refusal}
use Rattle.family.specs.Meaning.{Meaning}
use Rattle.family.specs.Laws.{Laws}
use Rattle.cuttings.specs.Cutting.{joined, Event, read, mark, readings, Permitted, TapeRuns, opened}
use Rattle.cuttings.proofs.Spans.{Rising}
use Rattle.cuttings.proofs.Ends.{joined_push, all_left, all_right}
use Rattle.cuttings.proofs.Permits.{part_served}
use Rattle.cuttings.proofs.Fewest.{tape_permitted, tape_fewest}
use Rattle.layout.specs.Layout.{places_of, place_at, with_record, record_at, pick_in}
use Rattle.layout.specs.Records.{find}
use Rattle.reader.specs.Tapes.{told_count, LawfulTape}
use Rattle.reader.proofs.Lawful.{none_lawful}
use Rattle.reader.specs.Reads.{AnswersRow, unless_refused, row_tick_refusal, value_of}
use Rattle.recorder.specs.declared.tape.Phase.{Phase}
use Rattle.recorder.specs.declared.tape.Phase.TheVariants.{Fresh, Waiting, Running}
use Rattle.recorder.specs.declared.tape.OpenTape.{OpenTape}
use Rattle.recorder.specs.declared.tape.ClosedTape.{ClosedTape}
use Rattle.recorder.specs.Phases.{running}
use Rattle.recorder.specs.Views.{View}
use Rattle.recorder.specs.Steps.{Outcome, store_by, closing as closing_by, Closes}
use Rattle.recorder.specs.Asking.{asked, by_phase, records_value}
use Rattle.recorder.specs.Histories.{World, noted, parted, Opened, Recorded, Marked, Asked, Closed, Dealt, opened as tape_opened, recorded, marked as tape_marked}
use Rattle.recorder.specs.Law.{Span, span, written_spans, open_span, segments, inside, runs_in, Unspanned, Fit, reading_refusal, RecordAnswer, AskAnswer, Answers, LawAt, Law}
use Rattle.recorder.proofs.Ticks.{run_first, Spans, spans_push, kept_runs, length_spans, all_both, rising_left, below_first}
use Rattle.recorder.proofs.Records.{Rec, rec_words, flat, rec_span, Held, Holds, holds_spans, took_lawful, took_meets, next_there, find_here, find_past, find_before}
use Rattle.recorder.proofs.Lawful.{answers_ok, answers_err, row_tick_none, slim_row, thin_picks, there, thin, spans_are, Tells, found, told, lawful_tape, Reads, reader_covers}
use Rattle.recorder.proofs.Base.{Base, base_write, written_rec}
use Rattle.recorder.proofs.Invariant.{five, Batched, Open, fresh, waiting, running_on, Inv, record_inv, mark_inv, dealt_inv, same_store, as_it_was, batched_push}

module _ {S : Type 0} (m : Meaning S) (laws : Laws m) where
  -- the segments are the tape's runs
  pub record Whole (log : List Event) (spans : List Span) : Type 0 where
    pub runs : List (List Reading)
    pub tape : TapeRuns (Fit m) log runs
    pub told : Spans spans runs

  pub whole : (log : List Event) (recs : List Rec) (done : List (List Reading)) (wd len pl n : ℕ) (s : S) (store : List ℕ) (q : Phase) → Base m log recs done wd len pl n store → Open m s log recs done q → n + running q ≤ pl →
      Whole log (written_spans wd store n 0 ++ open_span q)
  whole log recs done wd len pl n s store Fresh b fresh room = record {
    runs = [];
    tape = opened;
    told = subst (λ (x : List Span). Spans (x ++ []) []) (sym (spans_are m laws [] [] [] wd len pl n store b (omega arith))) tt;
  }
  whole log recs done wd len pl n s store (Waiting l) b (waiting older _ _ _ g fb) room = record {
    runs = done;
    tape = g;
    told = subst (λ (x : List Span). Spans (x ++ []) done) (sym (spans_are m laws (older ▹ mark) recs done wd len pl n store b (omega arith)))
        (subst (λ (y : List Span). Spans y done) (sym (append-nil (map rec_span recs))) (holds_spans m recs done b.holds));
  }
  whole log recs done wd len pl n s store (Running f l x) b (running_on older q _ _ run _ _ _ g k fb) room = record {
    runs = done ▹ run;
    tape = g;
    told = subst (λ (x : List Span). Spans (x ++ (span f l ∷ [])) (done ▹ run)) (sym (spans_are m laws (older ▹ read q) recs done wd len pl n store b (omega arith)))
        (spans_push (map rec_span recs) done (span f l) run (holds_spans m recs done b.holds) k.spans);
  }

  -- what the tape answers at a tick
  abbrev pub Given : List ℕ → ℕ → S → Phase → Reading → Type 0
  Given store n s q r = (x : List ℕ) × (by_phase m q s r.tick (records_value m store n r.tick) ≡ Ok x) × m.meets x r.row

  -- from a record that the search finds
  given_rest : (store : List ℕ) (n : ℕ) (r : Reading) → (j : ℕ) × (find m m.pick_width store r.tick n 0 ≡ Ok j) × m.meets (m.value (pick_in (record_at m.pick_width store j)) r.tick) r.row →
      (x : List ℕ) × (records_value m store n r.tick ≡ Ok x) × m.meets x r.row
  given_rest store n r p = (m.value (pick_in (record_at m.pick_width store p.0)) r.tick, ap (value_of m store r.tick) p.1, p.2)

  covers : m.value_width < 65535 → (log : List Event) (recs : List Rec) (done : List (List Reading)) (wd len pl n : ℕ) (s : S) (store : List ℕ) (q : Phase) → Base m log recs done wd len pl n store → Open m s log recs done q → n + running q ≤ pl →
      AllByRecursion (Given store n s q) (readings log)
  covers slim log recs done wd len pl n s store Fresh b fresh room = tt
  covers slim log recs done wd len pl n s store (Waiting l) b (waiting older _ _ _ g fb) room =
      let w = (tape_permitted (Fit m) g).whole in
      subst (AllByRecursion (Given store n s (Waiting l))) w
      (All-weaker (Tells m laws (older ▹ mark) recs done wd len pl n store b m.pick_width n) (Given store n s (Waiting l)) (λ r p. given_rest store n r p) (joined done)
      (found m laws (older ▹ mark) recs done wd len pl n store b slim (omega arith) (subst Rising (sym w) b.rising)))
  covers slim log recs done wd len pl n s store (Running f l y) b (running_on older q _ _ run _ _ _ g k fb) room =
      let w : joined done ++ run ≡ readings (older ▹ read q) = sym (joined_push done run) ∙ (tape_permitted (Fit m) g).whole in
      let rise : Rising (joined done ++ run) = subst Rising (sym w) b.rising in
      let before : AllByRecursion (λ q. q.tick < run_first run) (joined done) = below_first (joined done) run [] k.spans.some (subst (λ (l : List Reading). Rising (joined done ++ l)) (sym (append-nil run)) rise) in
      let old = found m laws (older ▹ read q) recs done wd len pl n store b slim (omega arith) (rising_left (joined done) run rise) in
      let narrow : m.pick_width < 65535 = thin_picks m laws len pl b.places (omega arith) in
      subst (AllByRecursion (Given store n s (Running f l y))) w
      (All-append (Given store n s (Running f l y)) (joined done) run
      (All-weaker (λ (r : Reading). (r.tick < run_first run) × Tells m laws (older ▹ read q) recs done wd len pl n store b m.pick_width n r) (Given store n s (Running f l y))
      (λ r p. let v = given_rest store n r p.1 in
      (v.0, cond-false _ _ _ (and_left (leb f r.tick) (leb r.tick l) (lt-leb f r.tick (omega (arith, p.0, k.spans.first)))) ∙ v.1, v.2)) (joined done)
      (all_both _ _ (joined done) before old))
      (All-weaker (λ (r : Reading). ((f ≤ r.tick) × (r.tick ≤ l)) × m.meets (m.value (m.words s) r.tick) r.row) (Given store n s (Running f l y))
      (λ r p. (
        m.value (m.words s) r.tick,
        cond-true _ _ _ (and_from (leb f r.tick) (leb r.tick l) (le-leb f r.tick p.0.0) (le-leb r.tick l p.0.1))
            ∙ cond-true _ _ _ (took_lawful m laws narrow s f l run k),
        p.1,
      )) run
      (all_both _ _ run k.spans.within (took_meets m laws narrow slim s run k.ran))))

  -- the checks of asking passed
  asked_is : (v : View) (s : S) (store : List ℕ) (t n : ℕ) → v.width ≡ m.pick_width → length store ≡ v.length → right m.value_width n ≡ true → t ≤ 268435455 →
      asked m v s store t n ≡ by_phase m v.phase s t (records_value m store v.written t)
  asked_is v s store t n a b c d =
      let x = by_phase m v.phase s t (records_value m store v.written t) in
      ap (λ (o : Option Refusal). unless_refused (first_refusal o (row_tick_refusal m n t)) x) (same_store m laws v store a b)
      ∙ ap (λ (o : Option Refusal). unless_refused o x) (row_tick_none m n t c d)

  pub covering_law : (log : List Event) (w : World S) → Inv m log w.tape w.state w.store →
      AllByRecursion (λ (r : Reading). (row row' : List ℕ) (a : Result Unit Refusal) → right m.value_width (length row) ≡ true → Asked m w r.tick row a row' → Answers m r a row') (readings log)
  covering_law log w i =
      let v = w.tape in
      All-weaker (λ (r : Reading). (r.tick ≤ 268435455) × (m.value_width < 65535 → Given w.store v.written w.state v.phase r)) _
      (λ r p row row' a e h.
      let gv = p.1 (slim_row m (length row) e) in
      let (ok, is) = answers_ok (asked m v w.state w.store r.tick (length row)) gv.0 a row row'
      (asked_is v w.state w.store r.tick (length row) i.base.wide i.base.long e p.0 ∙ gv.1) h in
      (ok, subst (λ (x : List ℕ). m.meets x r.row) (sym is) gv.2))
      (readings log)
      (both (readings log) i.base.timely (λ slim. covers slim log i.recs i.done v.width v.length v.places v.written w.state w.store v.phase i.base i.phase i.room))
    where
      both : (rs : List Reading) → AllByRecursion (λ r. r.tick ≤ 268435455) rs → (m.value_width < 65535 → AllByRecursion (Given w.store w.tape.written w.state w.tape.phase) rs) →
          AllByRecursion (λ (r : Reading). (r.tick ≤ 268435455) × (m.value_width < 65535 → Given w.store w.tape.written w.state w.tape.phase r)) rs
      both [] h k = tt
      both (r ∷ rs) h k = ((h.0, λ slim. (k slim).0), both rs h.1 (λ slim. (k slim).1))

  -- what closing leaves
  pub record Shut (log : List Event) (wd len pl n : ℕ) (store : List ℕ) (spans : List Span) : Type 0 where
    pub recs : List Rec
    pub done : List (List Reading)
    pub base : Base m log recs done wd len pl n store
    pub batched : Batched recs true
    pub room : n ≤ pl
    pub parted_in : joined done ≡ readings log
    pub told : map rec_span recs ≡ spans

  shut_as : (log : List Event) (wd len pl n n' : ℕ) (store store' : List ℕ) (spans : List Span) → n' ≡ n → store' ≡ store → Shut log wd len pl n store spans → Shut log wd len pl n' store' spans
  shut_as log wd len pl n n' store store' spans a b h = subst (λ (k : ℕ). Shut log wd len pl k store' spans) (sym a) (subst (λ (x : List ℕ). Shut log wd len pl n x spans) (sym b) h)

  shut_now : (log : List Event) (recs : List Rec) (done : List (List Reading)) (wd len pl n : ℕ) (s : S) (store : List ℕ) (q : Phase) → Base m log recs done wd len pl n store → Open m s log recs done q → n + running q ≤ pl →
      (k : ClosedTape) (store' : List ℕ) → Closes (five wd len pl n q) (closing_by q) (Ok k) → store' ≡ store_by (five wd len pl n q) (m.words s) store (closing_by q) →
      Shut log wd len pl k.segments store' (written_spans wd store n 0 ++ open_span q)
  shut_now log recs done wd len pl n s store Fresh b fresh room k store' e ws =
      shut_as [] wd len pl n k.segments store store' _ e ws (record {
        recs = [];
        done = [];
        base = b;
        batched = refl;
        room = omega arith;
        parted_in = refl;
        told = sym (append-nil (written_spans wd store n 0) ∙ spans_are m laws [] [] [] wd len pl n store b (omega arith));
      })
  shut_now log recs done wd len pl n s store (Waiting l) b (waiting older _ _ _ g fb) room k store' e ws =
      shut_as (older ▹ mark) wd len pl n k.segments store store' _ e ws (record {
        recs = recs;
        done = done;
        base = b;
        batched = fb;
        room = omega arith;
        parted_in = (tape_permitted (Fit m) g).whole;
        told = sym (append-nil (written_spans wd store n 0) ∙ spans_are m laws (older ▹ mark) recs done wd len pl n store b (omega arith));
      })
  shut_now log recs done wd len pl n s store (Running f l x) b (running_on older q _ _ run _ _ _ g t fb) room k store' e ws =
      let c : Rec = written_rec m s f l x in
      shut_as (older ▹ read q) wd len pl (n + 1) k.segments (with_record wd n f l x (m.words s) store) store' _ e ws (record {
        recs = recs ▹ c;
        done = done ▹ run;
        base = base_write m laws (older ▹ read q) recs done wd len pl n store s f l x run b t room;
        batched = batched_push recs c true fb;
        room = room;
        parted_in = (tape_permitted (Fit m) g).whole;
        told = map-append rec_span recs (c ∷ []) ∙ ap (λ (y : List Span). y ++ (span f l ∷ [])) (sym (spans_are m laws (older ▹ read q) recs done wd len pl n store b (omega arith)));
      })

  shut : (log : List Event) (w : World S) → Inv m log w.tape w.state w.store → (k : ClosedTape) (s' : S) (store' : List ℕ) → Closed m w (Ok k) s' store' →
      Shut log w.tape.width w.tape.length w.tape.places k.segments store' (segments w)
  shut log w i k s' store' h =
      let v = w.tape in
      let is = as_it_was m laws v w.store (closing_by v.phase) i.base.wide i.base.long in
      shut_now log i.recs i.done v.width v.length v.places v.written w.state w.store v.phase i.base i.phase i.room k store'
      (subst (λ (o : Outcome). Closes v o (Ok k)) is h.answer) (h.words ∙ ap (store_by v (m.words w.state) w.store) is)

  pub kept_law : (log : List Event) (w : World S) → Inv m log w.tape w.state w.store → (k : ClosedTape) (s' : S) (store' : List ℕ) → Closed m w (Ok k) s' store' → AllByRecursion (Reads m laws store') (readings log)
  kept_law log w i k s' store' h =
      let t = shut log w i k s' store' h in
      subst (AllByRecursion (Reads m laws store')) t.parted_in
      (reader_covers m laws log t.recs t.done w.tape.width w.tape.length w.tape.places k.segments store' t.base t.room t.batched
      (subst Rising (sym t.parted_in) t.base.rising) (subst (AllByRecursion (λ (r : Reading). r.tick ≤ 268435455)) (sym t.parted_in) t.base.timely))

  pub lawful_law : (log : List Event) (w : World S) → Inv m log w.tape w.state w.store → (k : ClosedTape) (s' : S) (store' : List ℕ) → Closed m w (Ok k) s' store' → 2 ≤ length w.store →
      LawfulTape m store' × (told_count store' ≡ k.segments)
  lawful_law log w i k s' store' h two =
      let t = shut log w i k s' store' h in
      let long : 2 ≤ w.tape.length = omega (arith, i.base.long) in (
        none_lawful m store' (lawful_tape m laws log t.recs t.done w.tape.width w.tape.length w.tape.places k.segments store' t.base t.room long t.batched
            (subst Rising (sym t.parted_in) t.base.rising)),
        told m laws log t.recs t.done w.tape.width w.tape.length w.tape.places k.segments store' t.base t.room long,
      )

  pub handed_law : (log : List Event) (w : World S) → Inv m log w.tape w.state w.store → (k : ClosedTape) (s' : S) (store' : List ℕ) → Closed m w (Ok k) s' store' →
      (k.segments ≡ length (segments w)) × (written_spans m.pick_width store' k.segments 0 ≡ segments w)
  handed_law log w i k s' store' h =
      let t = shut log w i k s' store' h in (
        t.base.count ∙ sym (length-map t.recs rec_span) ∙ ap length t.told,
        ap (λ (j : ℕ). written_spans j store' k.segments 0) (sym t.base.wide)
            ∙ spans_are m laws log t.recs t.done w.tape.width w.tape.length w.tape.places k.segments store' t.base t.room ∙ t.told,
      )

  -- the segments' number
  counted : (log : List Event) (w : World S) → Inv m log w.tape w.state w.store → length (segments w) ≡ w.tape.written + running w.tape.phase
  counted log w i =
      let v = w.tape in
      length-append (written_spans v.width w.store v.written 0) (open_span v.phase)
      ∙ ap (λ (j : ℕ). j + length (open_span v.phase)) (ap length (spans_are m laws log i.recs i.done v.width v.length v.places v.written w.store i.base (omega (arith, i.room))) ∙ length-map i.recs rec_span ∙ sym i.base.count)
      ∙ ap (λ (j : ℕ). v.written + j) (one v.phase)
    where
      one : (q : Phase) → length (open_span q) ≡ running q
      one Fresh = refl
      one (Waiting l) = refl
      one (Running f l b) = refl

  -- asking where no reading was
  abbrev pub Either : ℕ → List Span → Result (List ℕ) Refusal → Type 0
  Either t segs x = ((x ≡ Err (refusal_of NoSegment)) × Unspanned t segs) ⊎ ((v : List ℕ) × (x ≡ Ok v) × (Unspanned t segs → ⊥))

  abbrev FoundOrNot : ℕ → List Span → Result ℕ Refusal → Type 0
  FoundOrNot t segs x = ((x ≡ Err (refusal_of NoSegment)) × Unspanned t segs) ⊎ ((j : ℕ) × (x ≡ Ok j) × (Unspanned t segs → ⊥))

  find_either : m.pick_width < 65535 → (store : List ℕ) (t : ℕ) (cs : List Rec) (runs : List (List Reading)) (rest : List ℕ) (i : ℕ) → drop (place_at m.pick_width i) store ≡ flat cs ++ rest → Holds m cs runs →
      FoundOrNot t (map rec_span cs) (find m m.pick_width store t (length cs) i)
  find_either narrow store t [] runs rest i e h = inl (refl, tt)
  find_either narrow store t (c ∷ cs) [] rest i e h = absurd h
  find_either narrow store t (c ∷ cs) (run ∷ runs) rest i e h =
      go (find_either narrow store t cs runs rest (i + 1) (next_there m laws narrow c run h.0 store (flat cs ++ rest) i (e ∙ append_assoc (rec_words c) (flat cs) rest)) h.1) (cases_lt c.last t) (cases_lt t c.first)
    where
      held : Held m c run
      held = h.0

      at : drop (place_at m.pick_width i) store ≡ rec_words c ++ (flat cs ++ rest)
      at = e ∙ append_assoc (rec_words c) (flat cs) rest

      past : (((c.first ≤ t) × (t ≤ c.last)) → ⊥) → find m m.pick_width store t (suc (length cs)) i ≡ find m m.pick_width store t (length cs) (i + 1) →
          FoundOrNot t (map rec_span cs) (find m m.pick_width store t (length cs) (i + 1)) → FoundOrNot t (rec_span c ∷ map rec_span cs) (find m m.pick_width store t (suc (length cs)) i)
      past out is (inl p) = inl (is ∙ p.0, (out, p.1))
      past out is (inr p) = inr (p.0, is ∙ p.1, λ u. p.2 u.1)

      go : FoundOrNot t (map rec_span cs) (find m m.pick_width store t (length cs) (i + 1)) → (c.last < t) ⊎ (t ≤ c.last) → (t < c.first) ⊎ (c.first ≤ t) → FoundOrNot t (rec_span c ∷ map rec_span cs) (find m m.pick_width store t (suc (length cs)) i)
      go later (inl a) b = past (λ p. let z = p.1 in omega arith) (find_past m laws narrow c run held store (flat cs ++ rest) i at t (length cs) a) later
      go later (inr a) (inl b) = past (λ p. let z = p.0 in omega arith) (find_before m laws narrow c run held store (flat cs ++ rest) i at t (length cs) b) later
      go later (inr a) (inr b) = inr (i, find_here m laws narrow c run held store (flat cs ++ rest) i at t (length cs) b a, λ u. u.0 (b, a))

  value_either : (store : List ℕ) (t : ℕ) (segs : List Span) (x : Result ℕ Refusal) → FoundOrNot t segs x → Either t segs (value_of m store t x)
  value_either store t segs x (inl p) = inl (ap (value_of m store t) p.0, p.1)
  value_either store t segs x (inr p) = inr (m.value (pick_in (record_at m.pick_width store p.0)) t, ap (value_of m store t) p.1, p.2)

  records_either : (log : List Event) (recs : List Rec) (done : List (List Reading)) (wd len pl n : ℕ) (store : List ℕ) (b : Base m log recs done wd len pl n store) → n ≤ pl → (t : ℕ) →
      Either t (map rec_span recs) (records_value m store n t)
  records_either log recs done wd len pl n store b le t =
      subst (λ (j : ℕ). Either t (map rec_span recs) (records_value m store j t)) (sym b.count)
      (value_either store t (map rec_span recs) (find m m.pick_width store t (length recs) 0)
      (go recs done (λ h. omega (arith, b.count)) (λ h. there m laws log recs done wd len pl n store b h) b.holds))
    where
      go : (cs : List Rec) (runs : List (List Reading)) → (0 < length cs → 0 < pl) → (0 < pl → drop (place_at m.pick_width 0) store ≡ flat cs ++ b.rest) → Holds m cs runs → FoundOrNot t (map rec_span cs) (find m m.pick_width store t (length cs) 0)
      go [] runs p e h = inl (refl, tt)
      go (c ∷ cs) runs p e h = let some = p (omega arith) in find_either (thin m laws log recs done wd len pl n store b some) store t (c ∷ cs) runs b.rest 0 (e some) h

  phase_either : (log : List Event) (recs : List Rec) (done : List (List Reading)) (wd len pl n : ℕ) (s : S) (store : List ℕ) (q : Phase) → Base m log recs done wd len pl n store → Open m s log recs done q → n + running q ≤ pl → (t : ℕ) (segs : List Span) (x : Result (List ℕ) Refusal) →
      Either t segs x → Either t (segs ++ open_span q) (by_phase m q s t x)
  phase_either log recs done wd len pl n s store Fresh b o room t segs x h = subst (λ (y : List Span). Either t y x) (sym (append-nil segs)) h
  phase_either log recs done wd len pl n s store (Waiting l) b o room t segs x h = subst (λ (y : List Span). Either t y x) (sym (append-nil segs)) h
  phase_either log recs done wd len pl n s store (Running f l y) b (running_on older q _ _ run _ _ _ g k fb) room t segs x h = go (cases_lt l t) (cases_lt t f)
    where
      past : ((f ≤ t) × (t ≤ l) → ⊥) → by_phase m (Running f l y) s t x ≡ x → Either t segs x → Either t (segs ++ (span f l ∷ [])) (by_phase m (Running f l y) s t x)
      past out is (inl p) = inl (is ∙ p.0, All-append (λ (s : Span). (s.from ≤ t) × (t ≤ s.to) → ⊥) segs (span f l ∷ []) p.1 (out, tt))
      past out is (inr p) = inr (p.0, is ∙ p.1, λ u. p.2 (all_left (λ (s : Span). (s.from ≤ t) × (t ≤ s.to) → ⊥) segs (span f l ∷ []) u))

      go : (l < t) ⊎ (t ≤ l) → (t < f) ⊎ (f ≤ t) → Either t (segs ++ (span f l ∷ [])) (by_phase m (Running f l y) s t x)
      go (inl a) b = past (λ p. let z = p.1 in omega arith) (cond-false _ _ _ (and_right (leb f t) (leb t l) (lt-leb t l a))) h
      go (inr a) (inl b) = past (λ p. let z = p.0 in omega arith) (cond-false _ _ _ (and_left (leb f t) (leb t l) (lt-leb f t b))) h
      go (inr a) (inr c) = inr (
        m.value (m.words s) t,
        cond-true _ _ _ (and_from (leb f t) (leb t l) (le-leb f t c) (le-leb t l a))
            ∙ cond-true _ _ _ (took_lawful m laws (thin_picks m laws len pl b.places (omega arith)) s f l run k),
        λ u. (all_right (λ (s : Span). (s.from ≤ t) × (t ≤ s.to) → ⊥) segs (span f l ∷ []) u).0 (c, a),
      )

  pub asking_law : (log : List Event) (w : World S) → Inv m log w.tape w.state w.store → (t : ℕ) (row row' : List ℕ) (a : Result Unit Refusal) → Asked m w t row a row' → AskAnswer m t (length row) (segments w) a
  asking_law log w i t row row' a h = go (right m.value_width (length row)) (tick_in_range t) refl refl
    where
      rest : Result (List ℕ) Refusal
      rest = by_phase m w.tape.phase w.state t (records_value m w.store w.tape.written t)

      is_it : asked m w.tape w.state w.store t (length row) ≡ unless_refused (row_tick_refusal m (length row) t) rest
      is_it = ap (λ (o : Option Refusal). unless_refused (first_refusal o (row_tick_refusal m (length row) t)) rest) (same_store m laws w.tape w.store i.base.wide i.base.long)

      by_either : {x : Result (List ℕ) Refusal} → AnswersRow x row a row' → Either t (segments w) x → ((a ≡ Err (refusal_of NoSegment)) × Unspanned t (segments w)) ⊎ ((a ≡ Ok tt) × (Unspanned t (segments w) → ⊥))
      by_either {x} k (inl p) = inl (answers_err x (refusal_of NoSegment) a row row' p.0 k, p.1)
      by_either {x} k (inr p) = inr ((answers_ok x p.0 a row row' p.1 k).0, p.2)

      go : (x y : Bool) → right m.value_width (length row) ≡ x → tick_in_range t ≡ y →
          cond x (cond y (((a ≡ Err (refusal_of NoSegment)) × Unspanned t (segments w)) ⊎ ((a ≡ Ok tt) × (Unspanned t (segments w) → ⊥))) (a ≡ Err (refusal_of BadTick))) (a ≡ Err (refusal_of WordsLength))
      go false y e f = answers_err _ (refusal_of WordsLength) a row row' (is_it ∙ ap (λ (x : Bool). unless_refused (first_refusal (refuse_unless x WordsLength) (tick_refusal t)) rest) e) h
      go true false e f = answers_err _ (refusal_of BadTick) a row row'
          (is_it ∙ ap (λ (x : Bool). unless_refused (first_refusal (refuse_unless x WordsLength) (tick_refusal t)) rest) e ∙ ap (λ (y : Bool). unless_refused (refuse_unless y BadTick) rest) f) h
      go true true e f =
          let low : t ≤ 268435455 = leb-true t 268435455 f in
          let told = spans_are m laws log i.recs i.done w.tape.width w.tape.length w.tape.places w.tape.written w.store i.base (omega (arith, i.room)) in
          let rec_either = records_either log i.recs i.done w.tape.width w.tape.length w.tape.places w.tape.written w.store i.base (omega (arith, i.room)) t in
          let all_either = phase_either log i.recs i.done w.tape.width w.tape.length w.tape.places w.tape.written w.state w.store w.tape.phase i.base i.phase i.room t (map rec_span i.recs) _ rec_either in
          by_either {x = asked m w.tape w.state w.store t (length row)} h
          (subst (λ (x : Result (List ℕ) Refusal). Either t (segments w) x) (sym (asked_is w.tape w.state w.store t (length row) i.base.wide i.base.long e low))
          (subst (λ (y : List Span). Either t (y ++ open_span w.tape.phase) rest) (sym told) all_either))

  -- closing is not refused
  close_now : (v : View) (q : Phase) (a : Result ClosedTape (OpenTape × Refusal)) → Closes v (closing_by q) a → (k : ClosedTape) × (a ≡ Ok k)
  close_now v Fresh (Ok k) h = (k, refl)
  close_now v Fresh (Err p) h = absurd h
  close_now v (Waiting l) (Ok k) h = (k, refl)
  close_now v (Waiting l) (Err p) h = absurd h
  close_now v (Running f l b) (Ok k) h = (k, refl)
  close_now v (Running f l b) (Err p) h = absurd h

  pub law_at : (log : List Event) (w : World S) → Inv m log w.tape w.state w.store → LawAt m log w
  law_at log w i =
      let v = w.tape in
      let all = whole log i.recs i.done v.width v.length v.places v.written w.state w.store v.phase i.base i.phase i.room in
      let good = tape_permitted (Fit m) all.tape in
      let runs_are : runs_in log (segments w) ≡ all.runs =
      ap (λ (l : List Reading). map (λ (s : Span). filter (inside s) l) (segments w)) (sym good.whole) ∙ kept_runs [] (segments w) all.runs all.told (subst Rising (sym good.whole) i.base.rising) in
      record {
        covering = covering_law log w i;
        kept = kept_law log w i;
        permitted = subst (Permitted (Fit m) log) (sym runs_are) good;
        fewest = λ cuts p. subst (λ (n : ℕ). n ≤ length cuts) (sym (length_spans (segments w) all.runs all.told)) (tape_fewest (Fit m) (part_served m.serves) all.tape cuts p);
        handed_on = handed_law log w i;
        lawful = lawful_law log w i;
        recording = λ r a w' h.
            let (j, ans) = record_inv m laws log v w.state w.store r w'.tape w'.state w'.store a i h in
            subst (λ (n : ℕ). RecordAnswer m log r n (length (segments w')) (reading_refusal m log r) a) (i.base.places ∙ ap (places_of m.pick_width) (sym i.base.long))
            (subst (λ (n : ℕ). RecordAnswer m log r v.places n (reading_refusal m log r) a) (sym (counted (noted log r a) w' j)) ans);
        marking = λ a w' h. (mark_inv m laws log w w' a i h).1;
        asking = asking_law log w i;
        closing = λ a s' store' h. close_now v v.phase a (subst (λ (o : Outcome). Closes v o a) (as_it_was m laws v w.store (closing_by v.phase) i.base.wide i.base.long) h.answer);
      }

  pub law : Law m
  law log w d = law_at log w (dealt_inv m laws d)

  -- the law after a call, from the call's own relation
  pub after_opening : (before : List ℕ) {w : World S} → Opened m before w → LawAt m [] w
  after_opening before {w} o = law [] w (tape_opened before w o)

  pub after_marking : {w w' : World S} {a : Result Unit Refusal} → Marked m w a w' → (log : List Event) → Dealt m log w → LawAt m (parted log a) w'
  after_marking {w} {w'} {a} h log d = law (parted log a) w' (tape_marked log w w' a d h)

  pub after_recording : (r : Reading) (a : Result ℕ Refusal) (w w' : World S) → Recorded m w r a w' → (log : List Event) → Dealt m log w → LawAt m (noted log r a) w'
  after_recording r a w w' h log d = law (noted log r a) w' (recorded log w w' r a d h)
