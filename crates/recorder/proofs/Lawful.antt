-- A store that the recorder wrote is a lawful tape, and the reader finds a value for each reading in it.
use Rattle.std.proofs.Common.{◌≡◌, ℕ, ◌+◌, ◌-◌, ◌*◌, ◌<◌, ◌≤◌, Bool, true, List, [], ◌∷◌, ◌++◌, map, length, get_or, drop, None, Ok, Err, Option, Result, sym, refl, ap, ◌∙◌, subst, mul-le-mul_right, one-mul, zero-mul, arith, lt-ltb, eq-eqb, le-leb}
use Rattle.std.specs.List.{AllByRecursion}
use Rattle.std.proofs.ByRecursion.{All-weaker}
use Rattle.std.proofs.lemmas.Bool.{cond-true, and_from}
use Rattle.words.specs.declared.kind.Kind.TheVariants.{Count}
use Rattle.words.specs.declared.refusal.Reason.TheVariants.{BadTick, WordsLength}
use Rattle.words.specs.declared.refusal.Refusal.{Refusal}
use Rattle.words.specs.Kinds.{kind_number}
use Rattle.words.specs.Words.{top_bits, payload}
use Rattle.family.specs.Readings.{Reading}
use Rattle.family.specs.Refusing.{first_refusal, refuse_unless, right, tick_refusal}
use Rattle.family.specs.Meaning.{Meaning}
use Rattle.family.specs.Laws.{Laws}
use Rattle.family.proofs.Forms.{right_length}
use Rattle.cuttings.specs.Cutting.{joined, Event}
use Rattle.cuttings.proofs.Spans.{Rising}
use Rattle.layout.specs.Layout.{places_of, place_at, tape_word, count_word, record_at, pick_in}
use Rattle.layout.specs.Records.{find}
use Rattle.reader.specs.Tapes.{told_count, tape_fault, records_fault, refuse_tape}
use Rattle.reader.specs.Reads.{AnswersRow, unless_refused, row_tick_refusal, value_of, value_read, ValueRead}
use Rattle.recorder.specs.Law.{written_spans, Answers}
use Rattle.recorder.proofs.Records.{Rec, flat, skip_one, rec_span, Holds, find_all, spans_there, records_ok}
use Rattle.recorder.proofs.Base.{places_within, places_few, places_thin, Base}
use Rattle.recorder.proofs.Invariant.{Batched}

-- an answer that is known
pub answers_ok : (x : Result (List ℕ) Refusal) (v : List ℕ) (a : Result Unit Refusal) (row row' : List ℕ) → x ≡ Ok v → AnswersRow x row a row' → (a ≡ Ok tt) × (row' ≡ v)
answers_ok x v (Ok u) row row' e h = (refl, subst (λ (y : Result (List ℕ) Refusal). AnswersRow y row (Ok tt) row') e h)
answers_ok x v (Err f) row row' e h = absurd (subst (λ (y : Result (List ℕ) Refusal). AnswersRow y row (Err f) row') e h)

pub answers_err : (x : Result (List ℕ) Refusal) (f : Refusal) (a : Result Unit Refusal) (row row' : List ℕ) → x ≡ Err f → AnswersRow x row a row' → a ≡ Err f
answers_err x f (Ok u) row row' e h = absurd (subst (λ (y : Result (List ℕ) Refusal). AnswersRow y row (Ok u) row') e h)
answers_err x f (Err g) row row' e h = let k = subst (λ (y : Result (List ℕ) Refusal). AnswersRow y row (Err g) row') e h in ap (λ (z : Refusal). Err z) k.0

-- COUNT tells its number
count_kind : (n : ℕ) → n ≤ 1000000 → top_bits (count_word n) ≡ kind_number Count
count_kind n h = omega arith

count_told : (n : ℕ) → n ≤ 1000000 → payload (count_word n) ≡ n
count_told n h = omega arith

module _ {S : Type 0} (m : Meaning S) where
  -- a row of the right length and a tick in range are not refused
  pub row_tick_none : (n t : ℕ) → right m.value_width n ≡ true → t ≤ 268435455 → row_tick_refusal m n t ≡ None
  row_tick_none n t a b =
      ap (λ (x : Bool). first_refusal (refuse_unless x WordsLength) (tick_refusal t)) a ∙ ap (λ (x : Bool). refuse_unless x BadTick) (le-leb t 268435455 b)

  pub slim_row : (n : ℕ) → right m.value_width n ≡ true → m.value_width < 65535
  slim_row n h = (right_length m.value_width n h).0

module _ {S : Type 0} (m : Meaning S) (laws : Laws m) where
  -- the reader gives a value that meets the reading's row
  abbrev pub Reads : List ℕ → Reading → Type 0
  Reads store r = (row row' : List ℕ) (a : Result Unit Refusal) → right m.value_width (length row) ≡ true → ValueRead m store r.tick row a row' → Answers m r a row'

  -- a store with a place has its header, and narrow picks
  pub enough : (wd len pl : ℕ) → wd ≡ m.pick_width → pl ≡ places_of m.pick_width len → 0 < pl → 2 ≤ len
  enough wd len pl a b h =
      let w : ℕ = m.pick_width in
      let k : pl * (w + 2) ≤ len - 2 = subst (λ (j : ℕ). j * (w + 2) ≤ len - 2) (sym b) (places_within w len) in
      let one : 1 * (w + 2) ≤ pl * (w + 2) = mul-le-mul_right (w + 2) h in
      omega (arith, one-mul (w + 2))

  pub thin_picks : (len pl : ℕ) → pl ≡ places_of m.pick_width len → 0 < pl → m.pick_width < 65535
  thin_picks len pl b h = let k = places_thin m.pick_width len (omega (arith, b)) in omega arith

  module _ (log : List Event) (recs : List Rec) (done : List (List Reading)) (wd len pl n : ℕ) (store : List ℕ) (b : Base m log recs done wd len pl n store) where
    pub there : 0 < pl → drop (place_at m.pick_width 0) store ≡ flat recs ++ b.rest
    there h =
        let w : ℕ = m.pick_width in
        ap (drop (place_at w 0)) (b.shaped (enough wd len pl b.wide b.places h))
        ∙ skip_one (tape_word w) (count_word n) (0 * (w + 2)) (flat recs ++ b.rest)
        ∙ ap (λ (k : ℕ). drop k (flat recs ++ b.rest)) (zero-mul (w + 2))

    pub thin : 0 < pl → m.pick_width < 65535
    thin h = thin_picks len pl b.places h

    -- the records' spans
    pub spans_are : n ≤ pl → written_spans wd store n 0 ≡ map rec_span recs
    spans_are le =
        ap (λ (k : ℕ). written_spans k store n 0) b.wide ∙ ap (λ (k : ℕ). written_spans m.pick_width store k 0) b.count
        ∙ go recs done (λ h. omega (arith, b.count)) (λ h. there h) b.holds
      where
        go : (cs : List Rec) (runs : List (List Reading)) → (0 < length cs → 0 < pl) → (0 < pl → drop (place_at m.pick_width 0) store ≡ flat cs ++ b.rest) → Holds m cs runs → written_spans m.pick_width store (length cs) 0 ≡ map rec_span cs
        go [] runs p e h = refl
        go (c ∷ cs) runs p e h = let some = p (omega arith) in spans_there m laws (thin some) store (c ∷ cs) runs b.rest 0 (e some) h

    -- the search finds a record for each reading in the records
    abbrev pub Tells : ℕ → ℕ → Reading → Type 0
    Tells w k r = (j : ℕ) × (find m w store r.tick k 0 ≡ Ok j) × m.meets (m.value (pick_in (record_at m.pick_width store j)) r.tick) r.row

    pub found : m.value_width < 65535 → n ≤ pl → Rising (joined done) → AllByRecursion (Tells m.pick_width n) (joined done)
    found slim le rise =
        subst (λ (j : ℕ). AllByRecursion (Tells m.pick_width j) (joined done)) (sym b.count)
        (go recs done (λ h. omega (arith, b.count)) (λ h. there h) b.holds rise)
      where
        go : (cs : List Rec) (runs : List (List Reading)) → (0 < length cs → 0 < pl) → (0 < pl → drop (place_at m.pick_width 0) store ≡ flat cs ++ b.rest) → Holds m cs runs → Rising (joined runs) → AllByRecursion (Tells m.pick_width (length cs)) (joined runs)
        go [] [] p e h r = tt
        go [] (x ∷ runs) p e h r = absurd h
        go (c ∷ cs) runs p e h r = let some = p (omega arith) in find_all m laws (thin some) slim store (c ∷ cs) runs b.rest 0 (e some) h r

    -- COUNT's number
    pub told : n ≤ pl → 2 ≤ len → told_count store ≡ n
    told le two =
        let few : n ≤ 1000000 = omega (arith, places_few m.pick_width len, b.places) in
        ap (λ (l : List ℕ). payload (get_or l 1 0)) (b.shaped two) ∙ count_told n few

    -- the reader finds no fault with the records
    records_fine : n ≤ pl → Batched recs true → Rising (joined done) → records_fault m m.pick_width store (length recs) 0 None ≡ None
    records_fine le first_one rise = go recs done (λ h. omega (arith, b.count)) (λ h. there h) b.holds first_one rise
      where
        go : (cs : List Rec) (runs : List (List Reading)) → (0 < length cs → 0 < pl) → (0 < pl → drop (place_at m.pick_width 0) store ≡ flat cs ++ b.rest) → Holds m cs runs → Batched cs true → Rising (joined runs) →
            records_fault m m.pick_width store (length cs) 0 None ≡ None
        go [] runs p e h f r = refl
        go (c ∷ cs) runs p e h f r = let some = p (omega arith) in records_ok m laws (thin some) store (c ∷ cs) runs b.rest 0 None (e some) h r f

    -- nor with the store
    pub lawful_tape : n ≤ pl → 2 ≤ len → Batched recs true → Rising (joined done) → tape_fault m store ≡ None
    lawful_tape le two first_one rise =
        let w : ℕ = m.pick_width in
        let is = b.shaped two in
        let few : n ≤ 1000000 = omega (arith, places_few w len, b.places) in
        let zero_th : get_or store 0 0 ≡ tape_word w = ap (λ (l : List ℕ). get_or l 0 0) is in
        let first_th : get_or store 1 0 ≡ count_word n = ap (λ (l : List ℕ). get_or l 1 0) is in
        let low = told le two in
        let pls : places_of w (length store) ≡ pl = ap (places_of w) b.long ∙ sym b.places in
        cond-true _ _ _ (and_from _ _ (lt-ltb 0 (length store) (omega (arith, b.long))) (eq-eqb _ _ zero_th))
        ∙ cond-true _ _ _ (and_from _ _ (lt-ltb 1 (length store) (omega (arith, b.long))) (and_from _ _ (eq-eqb _ (kind_number Count) (ap top_bits first_th ∙ count_kind n few)) (le-leb _ _ (omega (arith, low, pls)))))
        ∙ ap (λ (k : ℕ). records_fault m w store k 0 None) (low ∙ b.count)
        ∙ records_fine le first_one rise

    -- so it gives a value for each reading in the records
    pub reader_covers : n ≤ pl → Batched recs true → Rising (joined done) → AllByRecursion (λ r. r.tick ≤ 268435455) (joined done) → AllByRecursion (Reads store) (joined done)
    reader_covers le first_one rise timely = go recs done refl
      where
        each : 0 < pl → AllByRecursion (Reads store) (joined done)
        each some =
            All-weaker (λ (r : Reading). (r.tick ≤ 268435455) × (m.value_width < 65535 → Tells m.pick_width n r)) (Reads store)
            (λ r p row row' a e h'.
            let w : ℕ = m.pick_width in
            let two = enough wd len pl b.wide b.places some in
            let f = p.1 (slim_row m (length row) e) in
            let v : List ℕ = m.value (pick_in (record_at w store f.0)) r.tick in
            let read_it : value_read m store r.tick (length row) ≡ Ok v =
            ap (λ (o : Option Refusal). unless_refused (first_refusal o (refuse_tape (tape_fault m store))) (value_of m store r.tick (find m w store r.tick (told_count store) 0))) (row_tick_none m (length row) r.tick e p.0)
            ∙ ap (λ (o : Option ℕ). unless_refused (refuse_tape o) (value_of m store r.tick (find m w store r.tick (told_count store) 0))) (lawful_tape le two first_one rise)
            ∙ ap (λ (k : ℕ). value_of m store r.tick (find m w store r.tick k 0)) (told le two)
            ∙ ap (value_of m store r.tick) f.1 in
            let (ok, is) = answers_ok (value_read m store r.tick (length row)) v a row row' read_it h' in
            (ok, subst (λ (x : List ℕ). m.meets x r.row) (sym is) f.2))
            (joined done) (both (joined done) timely (λ slim. found slim le rise))
          where
            both : (rs : List Reading) → AllByRecursion (λ r. r.tick ≤ 268435455) rs → (m.value_width < 65535 → AllByRecursion (Tells m.pick_width n) rs) → AllByRecursion (λ (r : Reading). (r.tick ≤ 268435455) × (m.value_width < 65535 → Tells m.pick_width n r)) rs
            both [] h k = tt
            both (r ∷ rs) h k = ((h.0, λ slim. (k slim).0), both rs h.1 (λ slim. (k slim).1))

        go : (cs : List Rec) (runs : List (List Reading)) → cs ≡ recs → AllByRecursion (Reads store) (joined done)
        go [] runs e = subst (λ (l : List (List Reading)). AllByRecursion (Reads store) (joined l)) (nil done (subst (λ (x : List Rec). Holds m x done) (sym e) b.holds)) tt
          where
            nil : (runs : List (List Reading)) → Holds m [] runs → [] ≡ runs
            nil [] h = refl
            nil (x ∷ runs) h = absurd h
        go (c ∷ cs) runs e = each (omega (arith, b.count, subst (λ (x : List Rec). 0 < length x) e (omega arith)))
