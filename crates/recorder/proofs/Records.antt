-- The records in a store, and the runs that they hold.
use Rattle.std.proofs.Common.{◌≡◌, ℕ, suc, ◌+◌, ◌-◌, ◌*◌, ◌<◌, ◌≤◌, Bool, true, false, cond, ◌&&◌, ◌||◌, leb, List, [], ◌∷◌, ◌++◌, map, length, get_or, take, drop, set, pos, Some, None, Ok, Option, sym, refl, ap, ◌∙◌, subst, append_assoc, add-mul, arith, lt-ltb, eq-eqb, le-leb}
use borrow.Author.Tests.{lt-leb}
use Rattle.std.specs.List.{AllByRecursion}
use Rattle.std.proofs.lemmas.List.{append-nil, take_at, drop_at, drop-drop}
use Rattle.std.proofs.ByRecursion.{All-weaker, All-append, All-push}
use Rattle.std.proofs.lemmas.Bool.{and_from, and_left, and_right, cond-true, cond-false, or_left, or_right, false≢true}
use Rattle.words.specs.declared.kind.Kind.TheVariants.{Start, Batch, End}
use Rattle.words.specs.declared.kind.Kind.{Kind}
use Rattle.words.specs.Kinds.{kind_number}
use Rattle.words.specs.Words.{top_bits, payload, of_kind, word_of}
use Rattle.family.specs.Readings.{Reading, ◌▹◌}
use Rattle.family.specs.Refusing.{spans}
use Rattle.family.specs.Meaning.{Meaning, form_refusal}
use Rattle.family.specs.Laws.{Laws, Ran, ran_none, ran_more}
use Rattle.family.proofs.Forms.{refusal_parts}
use Rattle.family.proofs.Served.{picked_serves}
use Rattle.cuttings.specs.Cutting.{joined}
use Rattle.cuttings.proofs.Spans.{Rising}
use Rattle.layout.specs.Layout.{record_of, first_word, place_at, with_record, count_word, record_at, first_in, last_in, pick_in}
use Rattle.layout.specs.Records.{record_lawful, record_spans, find}
use Rattle.layout.proofs.Finds.{find_record}
use Rattle.reader.specs.Tapes.{follows, records_fault}
use Rattle.recorder.specs.Law.{Span, span, written_spans}
use Rattle.recorder.proofs.Ticks.{run_first, run_last, last_is_run_last, Spanned, Spans, all_both, rising_right, above_last}

pub record Rec : Type 0 where
  pub first : ℕ
  pub last : ℕ
  pub batch : Bool
  pub words : List ℕ

abbrev pub rec_words : Rec → List ℕ
rec_words c = record_of c.first c.last c.batch c.words

abbrev pub flat : List Rec → List ℕ
flat [] = []
flat (c ∷ cs) = rec_words c ++ flat cs

abbrev pub rec_span : Rec → Span
rec_span c = span c.first c.last

pub flat_append : (a b : List Rec) → flat (a ++ b) ≡ flat a ++ flat b
flat_append [] b = refl
flat_append (c ∷ a) b = ap (λ (l : List ℕ). rec_words c ++ l) (flat_append a b) ∙ sym (append_assoc (rec_words c) (flat a) (flat b))

-- a store with its header words and records
abbrev pub shape : ℕ → ℕ → List Rec → List ℕ → List ℕ
shape e n recs rest = e ∷ n ∷ (flat recs ++ rest)

pub skip_one : (e n k : ℕ) (xs : List ℕ) → drop (2 + k) (e ∷ n ∷ xs) ≡ drop k xs
skip_one e n k xs = let two : 2 + k ≡ suc (suc k) = omega arith in ap (λ (j : ℕ). drop j (e ∷ n ∷ xs)) two

keep_one : (e n k : ℕ) (xs : List ℕ) → take (2 + k) (e ∷ n ∷ xs) ≡ e ∷ n ∷ take k xs
keep_one e n k xs = let two : 2 + k ≡ suc (suc k) = omega arith in ap (λ (j : ℕ). take j (e ∷ n ∷ xs)) two

-- one record more
pub write_shape : (w i f l : ℕ) (b : Bool) (ws : List ℕ) (e n : ℕ) (recs : List Rec) (rest : List ℕ) → length (flat recs) ≡ i * (w + 2) →
    (rest' : List ℕ) × (with_record w i f l b ws (shape e n recs rest) ≡ shape e (count_word (i + 1)) (recs ▹ record { first = f; last = l; batch = b; words = ws }) rest')
write_shape w i f l b ws e n recs rest long =
    let store : List ℕ = shape e n recs rest in
    let words : List ℕ = record_of f l b ws in
    let new : Rec = record { first = f; last = l; batch = b; words = ws } in
    let rest' : List ℕ = drop (place_at w i + length words) store in
    let front : take (place_at w i) store ≡ e ∷ n ∷ flat recs =
    keep_one e n (i * (w + 2)) (flat recs ++ rest) ∙ ap (λ (x : List ℕ). e ∷ n ∷ x) (take_at (flat recs) rest (i * (w + 2)) long) in
    let join : flat recs ++ (words ++ rest') ≡ flat (recs ▹ new) ++ rest' =
    sym (append_assoc (flat recs) words rest') ∙ ap (λ (x : List ℕ). (flat recs ++ x) ++ rest') (sym (append-nil words)) ∙ ap (λ (x : List ℕ). x ++ rest') (sym (flat_append recs (new ∷ []))) in
    (rest', ap (λ (x : List ℕ). set (x ++ (words ++ rest')) 1 (count_word (i + 1))) front ∙ ap (λ (x : List ℕ). e ∷ count_word (i + 1) ∷ x) join)

of_its_kind : (k : Kind) (t : ℕ) → t ≤ 268435455 → top_bits (word_of k (pos t)) ≡ kind_number k → of_kind k (word_of k (pos t)) ≡ true
of_its_kind k t h e = eq-eqb (top_bits (word_of k (pos t))) (kind_number k) e

-- what the first and the second word of a record say
first_payload : (b : Bool) (f : ℕ) → f ≤ 268435455 → payload (first_word b f) ≡ f
first_payload true f h = omega arith
first_payload false f h = omega arith

first_kinds : (b : Bool) (f : ℕ) → f ≤ 268435455 → (of_kind Batch (first_word b f) || of_kind Start (first_word b f)) ≡ true
first_kinds true f h = or_left _ _ (of_its_kind Batch f h (omega arith))
first_kinds false f h = or_right _ _ (of_its_kind Start f h (omega arith))

batch_kind : (b : Bool) (f : ℕ) → b ≡ true → f ≤ 268435455 → of_kind Batch (first_word b f) ≡ true
batch_kind true f e h = of_its_kind Batch f h (omega arith)
batch_kind false f e h = let z : ◌≡◌ {A = Bool} false true = e in absurd (false≢true z)

end_kind : (l : ℕ) → l ≤ 268435455 → of_kind End (word_of End (pos l)) ≡ true
end_kind l h = of_its_kind End l h (omega arith)

end_payload : (l : ℕ) → l ≤ 268435455 → payload (word_of End (pos l)) ≡ l
end_payload l h = omega arith

module _ {S : Type 0} (m : Meaning S) where
  -- a state that took the run, which spans two ticks
  pub record Took (s : S) (f l : ℕ) (run : List Reading) : Type 0 where
    pub ran : Ran m s run
    pub spans : Spanned f l run
    pub timely : l ≤ 268435455

  -- a record holds a run
  pub record Held (c : Rec) (run : List Reading) : Type 0 where
    pub state : S
    pub took : Took state c.first c.last run
    pub picked : c.words ≡ m.words state

  abbrev pub Holds : List Rec → List (List Reading) → Type 0
  Holds [] [] = Unit {0}
  Holds [] (run ∷ runs) = ⊥
  Holds (c ∷ cs) [] = ⊥
  Holds (c ∷ cs) (run ∷ runs) = Held c run × Holds cs runs

  pub holds_push : (cs : List Rec) (runs : List (List Reading)) (c : Rec) (run : List Reading) → Holds cs runs → Held c run → Holds (cs ▹ c) (runs ▹ run)
  holds_push [] [] c run h k = (k, tt)
  holds_push [] (x ∷ runs) c run h k = absurd h
  holds_push (x ∷ cs) [] c run h k = absurd h
  holds_push (x ∷ cs) (y ∷ runs) c run h k = (h.0, holds_push cs runs c run h.1 k)

  pub holds_spans : (cs : List Rec) (runs : List (List Reading)) → Holds cs runs → Spans (map rec_span cs) runs
  holds_spans [] [] h = tt
  holds_spans [] (x ∷ runs) h = absurd h
  holds_spans (x ∷ cs) [] h = absurd h
  holds_spans (x ∷ cs) (y ∷ runs) h = (h.0.took.spans, holds_spans cs runs h.1)

  -- the readings of a run are in form
  pub ran_formed : {s : S} {run : List Reading} → Ran m s run → AllByRecursion (λ (r : Reading). form_refusal m r ≡ None) run
  ran_formed (ran_none z) = tt
  ran_formed (ran_more {rs = rs} {r = r} g good _ _) = All-push (λ (q : Reading). form_refusal m q ≡ None) rs r (ran_formed g) (refusal_parts (form_refusal m r) (m.unserved r) good).0

  module _ (laws : Laws m) (thin : m.pick_width < 65535) where
    run_lawful : (s : S) (run : List Reading) → 0 < length run → Ran m s run → m.lawful (m.words s) (run_first run) (run_last run) ≡ true
    run_lawful s [] h g = absurd (omega arith)
    run_lawful s (r ∷ rs) h g = laws.words_lawful s r rs (run_last (r ∷ rs)) thin g (last_is_run_last r rs)

    pub took_lawful : (s : S) (f l : ℕ) (run : List Reading) → Took s f l run → m.lawful (m.words s) f l ≡ true
    took_lawful s f l run t =
        ap (λ (x : ℕ). m.lawful (m.words s) x l) t.spans.first ∙ ap (λ (x : ℕ). m.lawful (m.words s) (run_first run) x) t.spans.last
        ∙ run_lawful s run t.spans.some t.ran

    -- the picked value meets each row of the run
    pub took_meets : m.value_width < 65535 → (s : S) (run : List Reading) → Ran m s run → AllByRecursion (λ r. m.meets (m.value (m.words s) r.tick) r.row) run
    took_meets slim s run g =
        All-weaker (λ (r : Reading). (form_refusal m r ≡ None) × m.serves (m.picked s) r) (λ (r : Reading). m.meets (m.value (m.words s) r.tick) r.row)
        (λ r h. laws.reads_back s r thin slim h.0 h.1) run (all_both _ _ run (ran_formed g) (picked_serves m laws g))

    module _ (c : Rec) (run : List Reading) (held : Held c run) where
      held_long : length c.words ≡ m.pick_width
      held_long = ap length held.picked ∙ laws.words_length held.state thin

      held_lawful : m.lawful c.words c.first c.last ≡ true
      held_lawful = ap (λ (x : List ℕ). m.lawful x c.first c.last) held.picked ∙ took_lawful held.state c.first c.last run held.took

      early : c.first ≤ 268435455
      early = omega (arith, held.took.timely, held.took.spans.ordered)

      pub first_is : first_in (rec_words c) ≡ c.first
      first_is = first_payload c.batch c.first early

      pub last_is : last_in (rec_words c) ≡ c.last
      last_is = end_payload c.last held.took.timely

      pub begins_batch : c.batch ≡ true → of_kind Batch (get_or (rec_words c) 0 0) ≡ true
      begins_batch e = batch_kind c.batch c.first e early

      -- its words are lawful by themselves
      pub rec_lawful : record_lawful m (rec_words c) ≡ true
      rec_lawful =
          let order : leb (first_in (rec_words c)) (last_in (rec_words c)) ≡ true = le-leb _ _ (omega (arith, first_is, last_is, held.took.spans.ordered)) in
          and_from _ _
          (and_from _ _ (and_from _ _ (first_kinds c.batch c.first early) (end_kind c.last held.took.timely)) order)
          (and_from _ _ (and_from _ _ (lt-ltb m.pick_width 65535 thin) (eq-eqb (length c.words) m.pick_width held_long))
          (ap (λ (x : ℕ). m.lawful c.words x (last_in (rec_words c))) first_is ∙ ap (λ (x : ℕ). m.lawful c.words c.first x) last_is ∙ held_lawful))

      words_long : length (rec_words c) ≡ m.pick_width + 2
      words_long = omega (arith, held_long)

      -- it stands in the store
      module _ (store more : List ℕ) (i : ℕ) (there : drop (place_at m.pick_width i) store ≡ rec_words c ++ more) where
        pub words_there : record_at m.pick_width store i ≡ rec_words c
        words_there = ap (take (m.pick_width + 2)) there ∙ take_at (rec_words c) more (m.pick_width + 2) words_long

        pub next_there : drop (place_at m.pick_width (i + 1)) store ≡ more
        next_there =
            let w : ℕ = m.pick_width in
            let e : place_at w (i + 1) ≡ place_at w i + (w + 2) = omega (arith, add-mul i 1 (w + 2)) in
            ap (λ (k : ℕ). drop k store) e ∙ sym (drop-drop (w + 2) (place_at w i) store) ∙ ap (drop (w + 2)) there ∙ drop_at (rec_words c) more (w + 2) words_long

        -- what the search makes of it
        pub find_one : (t k : ℕ) → find m m.pick_width store t (suc k) i ≡ cond (spans c.first c.last t) (Ok i) (find m m.pick_width store t k (i + 1))
        find_one t k =
            let less : suc k - 1 ≡ k = omega arith in
            let w : ℕ = m.pick_width in
            find_record m w store t (suc k) i (rec_words c) true (record_spans (rec_words c) t) (omega arith) (sym words_there) (sym rec_lawful) refl
            ∙ ap (λ (f : ℕ). cond (spans f (last_in (rec_words c)) t) (Ok i) (find m w store t (suc k - 1) (i + 1))) first_is
            ∙ ap (λ (l : ℕ). cond (spans c.first l t) (Ok i) (find m w store t (suc k - 1) (i + 1))) last_is
            ∙ ap (λ (j : ℕ). cond (spans c.first c.last t) (Ok i) (find m w store t j (i + 1))) less

        pub find_here : (t k : ℕ) → c.first ≤ t → t ≤ c.last → find m m.pick_width store t (suc k) i ≡ Ok i
        find_here t k a b = find_one t k ∙ cond-true _ _ _ (and_from _ _ (le-leb c.first t a) (le-leb t c.last b))

        pub find_past : (t k : ℕ) → c.last < t → find m m.pick_width store t (suc k) i ≡ find m m.pick_width store t k (i + 1)
        find_past t k a = find_one t k ∙ cond-false _ _ _ (and_right _ _ (lt-leb t c.last a))

        pub find_before : (t k : ℕ) → t < c.first → find m m.pick_width store t (suc k) i ≡ find m m.pick_width store t k (i + 1)
        find_before t k a = find_one t k ∙ cond-false _ _ _ (and_left _ _ (lt-leb c.first t a))

        -- the pick that stands there
        pub pick_there : pick_in (record_at m.pick_width store i) ≡ c.words
        pick_there = ap pick_in words_there

    module _ (slim : m.value_width < 65535) (store : List ℕ) where
      -- the search finds a record whose value meets the reading's row
      abbrev pub FoundFor : ℕ → ℕ → Reading → Type 0
      FoundFor k i r = (j : ℕ) × (find m m.pick_width store r.tick k i ≡ Ok j) × m.meets (m.value (pick_in (record_at m.pick_width store j)) r.tick) r.row

      pub find_all : (cs : List Rec) (runs : List (List Reading)) (rest : List ℕ) (i : ℕ) → drop (place_at m.pick_width i) store ≡ flat cs ++ rest → Holds cs runs → Rising (joined runs) →
          AllByRecursion (FoundFor (length cs) i) (joined runs)
      find_all [] [] rest i e h rise = tt
      find_all [] (x ∷ runs) rest i e h rise = absurd h
      find_all (c ∷ cs) [] rest i e h rise = absurd h
      find_all (c ∷ cs) (run ∷ runs) rest i e h rise =
          let held = h.0 in
          let there : drop (place_at m.pick_width i) store ≡ rec_words c ++ (flat cs ++ rest) = e ∙ append_assoc (rec_words c) (flat cs) rest in
          let pick = pick_there c run held store (flat cs ++ rest) i there in
          let meet : AllByRecursion (λ r. m.meets (m.value (pick_in (record_at m.pick_width store i)) r.tick) r.row) run =
          subst (λ (ws : List ℕ). AllByRecursion (λ r. m.meets (m.value ws r.tick) r.row) run) (sym (pick ∙ held.picked)) (took_meets slim held.state run held.took.ran) in
          let later = find_all cs runs rest (i + 1) (next_there c run held store (flat cs ++ rest) i there) h.1 (rising_right run (joined runs) rise) in
          let above = above_last run (joined runs) held.took.spans.some rise in
          All-append (FoundFor (suc (length cs)) i) run (joined runs)
          (All-weaker (λ (r : Reading). ((c.first ≤ r.tick) × (r.tick ≤ c.last)) × m.meets (m.value (pick_in (record_at m.pick_width store i)) r.tick) r.row) (FoundFor (suc (length cs)) i)
          (λ r p. (i, find_here c run held store (flat cs ++ rest) i there r.tick (length cs) p.0.0 p.0.1, p.1)) run
          (all_both _ _ run held.took.spans.within meet))
          (All-weaker (λ (r : Reading). (run_last run < r.tick) × FoundFor (length cs) (i + 1) r) (FoundFor (suc (length cs)) i)
          (λ r p. (p.1.0, find_past c run held store (flat cs ++ rest) i there r.tick (length cs) (omega (arith, held.took.spans.last, p.0)) ∙ p.1.1, p.1.2)) (joined runs)
          (all_both _ _ (joined runs) above later))

    module _ (store : List ℕ) where
      -- the spans that the records tell
      pub spans_there : (cs : List Rec) (runs : List (List Reading)) (rest : List ℕ) (i : ℕ) → drop (place_at m.pick_width i) store ≡ flat cs ++ rest → Holds cs runs →
          written_spans m.pick_width store (length cs) i ≡ map rec_span cs
      spans_there [] [] rest i e h = refl
      spans_there [] (x ∷ runs) rest i e h = absurd h
      spans_there (c ∷ cs) [] rest i e h = absurd h
      spans_there (c ∷ cs) (run ∷ runs) rest i e h =
          let held = h.0 in
          let there : drop (place_at m.pick_width i) store ≡ rec_words c ++ (flat cs ++ rest) = e ∙ append_assoc (rec_words c) (flat cs) rest in
          let tail = spans_there cs runs rest (i + 1) (next_there c run held store (flat cs ++ rest) i there) h.1 in
          ap (λ (ws : List ℕ). span (first_in ws) (last_in ws) ∷ written_spans m.pick_width store (length cs) (i + 1)) (words_there c run held store (flat cs ++ rest) i there)
          ∙ ap (λ (f : ℕ). span f (last_in (rec_words c)) ∷ written_spans m.pick_width store (length cs) (i + 1)) (first_is c run held)
          ∙ ap (λ (l : ℕ). span c.first l ∷ written_spans m.pick_width store (length cs) (i + 1)) (last_is c run held)
          ∙ ap (λ (x : List Span). span c.first c.last ∷ x) tail

      -- where the first record must begin with BATCH, it does
      abbrev pub Starts : Option ℕ → List Rec → List (List Reading) → Type 0
      Starts None [] runs = Unit {0}
      Starts None (c ∷ cs) runs = c.batch ≡ true
      Starts (Some l) cs runs = AllByRecursion (λ (r : Reading). l < r.tick) (joined runs)

      first_follows : (before : Option ℕ) (c : Rec) (cs : List Rec) (run : List Reading) (runs : List (List Reading)) → Held c run → Starts before (c ∷ cs) (run ∷ runs) → follows before (rec_words c) ≡ true
      first_follows None c cs run runs held h = begins_batch c run held h
      first_follows (Some l) c cs [] runs held h = absurd (omega (arith, held.took.spans.some))
      first_follows (Some l) c cs (r ∷ run) runs held h = lt-ltb l _ (omega (arith, first_is c (r ∷ run) held, held.took.spans.first, h.0))

      -- the reader finds no fault with them
      pub records_ok : (cs : List Rec) (runs : List (List Reading)) (rest : List ℕ) (i : ℕ) (before : Option ℕ) → drop (place_at m.pick_width i) store ≡ flat cs ++ rest → Holds cs runs → Rising (joined runs) → Starts before cs runs →
          records_fault m m.pick_width store (length cs) i before ≡ None
      records_ok [] [] rest i before e h rise st = refl
      records_ok [] (x ∷ runs) rest i before e h rise st = absurd h
      records_ok (c ∷ cs) [] rest i before e h rise st = absurd h
      records_ok (c ∷ cs) (run ∷ runs) rest i before e h rise st =
          let w : ℕ = m.pick_width in
          let held = h.0 in
          let there : drop (place_at m.pick_width i) store ≡ rec_words c ++ (flat cs ++ rest) = e ∙ append_assoc (rec_words c) (flat cs) rest in
          let above : AllByRecursion (λ (r : Reading). c.last < r.tick) (joined runs) =
          All-weaker (λ (r : Reading). run_last run < r.tick) (λ (r : Reading). c.last < r.tick) (λ r p. omega (arith, held.took.spans.last)) (joined runs) (above_last run (joined runs) held.took.spans.some rise) in
          let tail = records_ok cs runs rest (i + 1) (Some c.last) (next_there c run held store (flat cs ++ rest) i there) h.1 (rising_right run (joined runs) rise) above in
          ap (λ (ws : List ℕ). cond (follows before ws && record_lawful m ws) (records_fault m w store (length cs) (i + 1) (Some (last_in ws))) (Some (place_at w i))) (words_there c run held store (flat cs ++ rest) i there)
          ∙ cond-true _ _ _ (and_from _ _ (first_follows before c cs run runs held st) (rec_lawful c run held))
          ∙ ap (λ (l : ℕ). records_fault m w store (length cs) (i + 1) (Some l)) (last_is c run held)
          ∙ tail
