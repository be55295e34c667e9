-- What the store and the log keep from dealing to dealing.
use Rattle.std.proofs.Common.{◌≡◌, ℕ, ◌+◌, ◌-◌, ◌*◌, ◌/◌, ◌<◌, ◌≤◌, min, Bool, true, false, cond, ltb, leb, ◌⊎◌, List, [], ◌∷◌, ◌++◌, length, take, drop, Some, None, Option, sym, refl, ap, ◌∙◌, subst, inl, inr, le_trans, mul-le-mul_right, add-mul, zero-mul, div-mul-le_self, arith, length-append, ltb-false, le-ltb, lt-ltb, le-leb, leb-true}
use borrow.Author.Tests.{lt-leb}
use Rattle.std.specs.List.{AllByRecursion}
use Rattle.std.proofs.lemmas.List.{append-nil, length-set, length-take-le, length-drop}
use Rattle.std.proofs.ByRecursion.{All-weaker, All-push}
use Rattle.std.proofs.lemmas.Bool.{cases_lt}
use Rattle.words.specs.declared.refusal.Reason.TheVariants.{BadTick}
use Rattle.words.specs.declared.refusal.Refusal.{Refusal}
use Rattle.family.specs.Readings.{Reading, ◌▹◌, last_tick}
use Rattle.family.specs.Refusing.{first_refusal, refuse_if, refuse_unless}
use Rattle.family.specs.Meaning.{Meaning, Fits, refusal, form_refusal}
use Rattle.family.specs.Laws.{Laws, ran_none, ran_more}
use Rattle.family.proofs.Forms.{refusal_parts, formed}
use Rattle.cuttings.specs.Cutting.{Event, read, mark, readings}
use Rattle.cuttings.proofs.Spans.{Rising}
use Rattle.cuttings.proofs.Permits.{readings_read, readings_mark}
use Rattle.layout.specs.Layout.{places_of, place_at, record_of, with_record, overwrite, tape_word, count_word}
use Rattle.recorder.specs.declared.tape.Phase.{Phase}
use Rattle.recorder.specs.declared.tape.Phase.TheVariants.{Fresh, Waiting, Running}
use Rattle.recorder.specs.Steps.{late_refusal}
use Rattle.recorder.specs.Law.{not_above}
use Rattle.recorder.proofs.Writes.{record_end, room_for}
use Rattle.recorder.proofs.Ticks.{rising_push, last_push, first_push}
use Rattle.recorder.proofs.Records.{Rec, rec_words, flat, flat_append, shape, write_shape, Took, Holds, holds_push}

-- the places lie within the store
fit_within : (w n : ℕ) (b c : Bool) → cond b 0 (cond c 0 (min ((n - 2) / (w + 2)) 1000000)) * (w + 2) ≤ n - 2
fit_within w n true c = rw zero-mul (omega arith)
fit_within w n false true = rw zero-mul (omega arith)
fit_within w n false false =
    let q : ℕ = (n - 2) / (w + 2) in
    let less : min q 1000000 ≤ q = omega arith in
    le_trans (mul-le-mul_right (w + 2) less) (div-mul-le_self (n - 2) (w + 2))

pub places_within : (w n : ℕ) → places_of w n * (w + 2) ≤ n - 2
places_within w n = fit_within w n (ltb n 2) (ltb 12 w)

pub places_few : (w n : ℕ) → places_of w n ≤ 1000000
places_few w n = go (ltb n 2) (ltb 12 w)
  where
    go : (b c : Bool) → cond b 0 (cond c 0 (min ((n - 2) / (w + 2)) 1000000)) ≤ 1000000
    go true c = omega arith
    go false true = omega arith
    go false false = omega arith

-- a store with a place has narrow picks
pub places_thin : (w n : ℕ) → 0 < places_of w n → w ≤ 12
places_thin w n = go (ltb n 2) (ltb 12 w) refl
  where
    go : (b c : Bool) → ltb 12 w ≡ c → 0 < cond b 0 (cond c 0 (min ((n - 2) / (w + 2)) 1000000)) → w ≤ 12
    go true c e h = absurd (omega arith)
    go false true e h = absurd (omega arith)
    go false false e h = ltb-false 12 w e

-- the clock as the phase has it, and as the log does
abbrev pub clock_of : Phase → Option ℕ
clock_of Fresh = None
clock_of (Waiting l) = Some l
clock_of (Running f l b) = Some l

late_by : (l t : ℕ) → refuse_unless (ltb l t) BadTick ≡ refuse_if (leb t l) BadTick
late_by l t = go (cases_lt l t)
  where
    go : (l < t) ⊎ (t ≤ l) → refuse_unless (ltb l t) BadTick ≡ refuse_if (leb t l) BadTick
    go (inl h) = ap (λ (b : Bool). refuse_unless b BadTick) (lt-ltb l t h) ∙ sym (ap (λ (b : Bool). refuse_if b BadTick) (lt-leb t l h))
    go (inr h) = ap (λ (b : Bool). refuse_unless b BadTick) (le-ltb l t h) ∙ sym (ap (λ (b : Bool). refuse_if b BadTick) (le-leb t l h))

pub late_is : (q : Phase) (t : ℕ) → late_refusal q t ≡ refuse_if (not_above (clock_of q) t) BadTick
late_is Fresh t = refl
late_is (Waiting l) t = late_by l t
late_is (Running f l b) t = late_by l t

pub passed : (b : Bool) (o : Option Refusal) → first_refusal (refuse_if b BadTick) o ≡ None → (b ≡ false) × (o ≡ None)
passed true o h = let z : ◌≡◌ {A = ℕ} 0 1 = cc in absurd (omega arith)
passed false o h = (refl, h)

abbrev pub Past : Option ℕ → ℕ → Type 0
Past None t = Unit {0}
Past (Some l) t = l < t

pub is_past : (o : Option ℕ) (t : ℕ) → not_above o t ≡ false → Past o t
is_past None t h = tt
is_past (Some l) t h = go (cases_lt l t)
  where
    go : (l < t) ⊎ (t ≤ l) → l < t
    go (inl k) = k
    go (inr k) = let e : true ≡ false = sym (le-leb t l k) ∙ h in let z : ◌≡◌ {A = ℕ} 0 1 = cc in absurd (omega arith)

-- a tick past the last accepted one is past all
pub all_past : (rs : List Reading) (t : ℕ) → Rising rs → Past (last_tick rs) t → AllByRecursion (λ q. q.tick < t) rs
all_past [] t h k = tt
all_past (r ∷ []) t h k = (k, tt)
all_past (r ∷ q ∷ rs) t h k =
    let more : AllByRecursion (λ q. q.tick < t) (q ∷ rs) = all_past (q ∷ rs) t h.1 k in
    (omega (arith, h.0.0, more.0), more)

module _ {S : Type 0} (m : Meaning S) where
  -- a refusal's absence bounds the tick
  pub tick_fits : (r : Reading) → refusal m r ≡ None → r.tick ≤ 268435455
  tick_fits r h = leb-true r.tick 268435455 (formed m r (refusal_parts (form_refusal m r) (m.unserved r) h).0).0

  -- one reading more of a run
  pub took_more : (s t : S) (f l : ℕ) (run : List Reading) (r : Reading) → Took m s f l run → refusal m r ≡ None → Fits m s r → m.taken s r t → l < r.tick → Took m t f r.tick (run ▹ r)
  took_more s t f l run r k good fit taken past = record {
    ran = ran_more k.ran good fit taken;
    spans = record {
      some = omega (arith, length-append run (r ∷ []));
      first = k.spans.first ∙ sym (first_push run r k.spans.some);
      last = sym (last_push run r);
      within = All-push (λ (x : Reading). (f ≤ x.tick) × (x.tick ≤ r.tick)) run r
          (All-weaker (λ (x : Reading). (f ≤ x.tick) × (x.tick ≤ l)) (λ (x : Reading). (f ≤ x.tick) × (x.tick ≤ r.tick)) (λ x p. (p.0, omega (arith, p.1))) run k.spans.within)
          (omega (arith, k.spans.ordered), omega arith);
      ordered = omega (arith, k.spans.ordered);
    };
    timely = tick_fits r good;
  }

  -- its first
  pub took_one : (s t : S) (r : Reading) → m.restarted s → refusal m r ≡ None → Fits m s r → m.taken s r t → Took m t r.tick r.tick (r ∷ [])
  took_one s t r z good fit taken = record {
    ran = ran_more (ran_none z) good fit taken;
    spans = record { some = omega arith; first = refl; last = refl; within = ((omega arith, omega arith), tt); ordered = omega arith };
    timely = tick_fits r good;
  }

  pub record Base (log : List Event) (recs : List Rec) (done : List (List Reading)) (wd len pl n : ℕ) (store : List ℕ) : Type 0 where
    pub rest : List ℕ
    pub wide : wd ≡ m.pick_width
    pub long : length store ≡ len
    pub places : pl ≡ places_of m.pick_width len
    pub count : n ≡ length recs
    pub size : length (flat recs) ≡ n * (wd + 2)
    pub shaped : 2 ≤ len → store ≡ shape (tape_word m.pick_width) (count_word n) recs rest
    pub holds : Holds m recs done
    pub rising : Rising (readings log)
    pub timely : AllByRecursion (λ r. r.tick ≤ 268435455) (readings log)

  pub base_read : (log : List Event) (recs : List Rec) (done : List (List Reading)) (wd len pl n : ℕ) (store : List ℕ) (r : Reading) →
      Base log recs done wd len pl n store → refusal m r ≡ None → Past (last_tick (readings log)) r.tick → Base (log ▹ read r) recs done wd len pl n store
  base_read log recs done wd len pl n store r b good past = record {
    rest = b.rest;
    wide = b.wide;
    long = b.long;
    places = b.places;
    count = b.count;
    size = b.size;
    shaped = b.shaped;
    holds = b.holds;
    rising = subst Rising (sym (readings_read log r)) (rising_push (readings log) r b.rising (all_past (readings log) r.tick b.rising past));
    timely = subst (AllByRecursion (λ (r : Reading). r.tick ≤ 268435455)) (sym (readings_read log r)) (All-push (λ (r : Reading). r.tick ≤ 268435455) (readings log) r b.timely (tick_fits r good));
  }

  pub base_mark : (log : List Event) (recs : List Rec) (done : List (List Reading)) (wd len pl n : ℕ) (store : List ℕ) →
      Base log recs done wd len pl n store → Base (log ▹ mark) recs done wd len pl n store
  base_mark log recs done wd len pl n store b = record {
    rest = b.rest;
    wide = b.wide;
    long = b.long;
    places = b.places;
    count = b.count;
    size = b.size;
    shaped = b.shaped;
    holds = b.holds;
    rising = subst Rising (sym (readings_mark log)) b.rising;
    timely = subst (AllByRecursion (λ (r : Reading). r.tick ≤ 268435455)) (sym (readings_mark log)) b.timely;
  }

  abbrev pub written_rec : S → ℕ → ℕ → Bool → Rec
  written_rec s f l x = record { first = f; last = l; batch = x; words = m.words s }

  module _ (laws : Laws m) where
    -- a store keeps its length
    written_length : (wd place f l : ℕ) (x : Bool) (ws store : List ℕ) → length ws ≡ wd → (place + 1) * (wd + 2) ≤ length store - 2 → 2 ≤ length store → length (with_record wd place f l x ws store) ≡ length store
    written_length wd place f l x ws store e h k =
        let at : ℕ = place_at wd place in
        let words : List ℕ = record_of f l x ws in
        let end = record_end place wd (length store) h in
        let a : length (take at store) ≡ at = length-take-le at store (omega arith) in
        let d : length (drop (at + length words) store) ≡ length store - (at + length words) = length-drop (at + length words) store in
        length-set (overwrite store at words) 1 (count_word (place + 1))
        ∙ length-append (take at store) (words ++ drop (at + length words) store)
        ∙ ap (λ (j : ℕ). length (take at store) + j) (length-append words (drop (at + length words) store))
        ∙ omega (arith, a, d, e, end)

    pub base_write : (log : List Event) (recs : List Rec) (done : List (List Reading)) (wd len pl n : ℕ) (store : List ℕ) (s : S) (f l : ℕ) (x : Bool) (run : List Reading) →
        Base log recs done wd len pl n store → Took m s f l run → n + 1 ≤ pl →
        Base log (recs ▹ written_rec s f l x) (done ▹ run) wd len pl (n + 1) (with_record wd n f l x (m.words s) store)
    base_write log recs done wd len pl n store s f l x run b k room =
        let c : Rec = written_rec s f l x in
        let ws : List ℕ = m.words s in
        let w : ℕ = m.pick_width in
        let narrow = places_thin w len (omega (arith, b.places)) in
        let thin : w < 65535 = omega arith in
        let wl : length ws ≡ wd = laws.words_length s thin ∙ sym b.wide in
        let inside : pl * (wd + 2) ≤ len - 2 =
        subst (λ (j : ℕ). j * (wd + 2) ≤ len - 2) (sym b.places) (subst (λ (j : ℕ). places_of w len * (j + 2) ≤ len - 2) (sym b.wide) (places_within w len)) in
        let end : (n + 1) * (wd + 2) ≤ length store - 2 = room_for n pl wd len (length store) room inside b.long in
        let e = add-mul n 1 (wd + 2) in
        let two : 2 ≤ len = omega (arith, b.long) in
        let new = write_shape wd n f l x ws (tape_word w) (count_word n) recs b.rest b.size in
        record {
          rest = new.0;
          wide = b.wide;
          long = written_length wd n f l x ws store wl end (omega (arith, b.long)) ∙ b.long;
          places = b.places;
          count = omega (arith, b.count, length-append recs (c ∷ []));
          size = ap length (flat_append recs (c ∷ [])) ∙ length-append (flat recs) (rec_words c ++ []) ∙ ap (λ (l : List ℕ). length (flat recs) + length l) (append-nil (rec_words c)) ∙ omega (arith, b.size, wl, e);
          shaped = λ h. ap (with_record wd n f l x ws) (b.shaped h) ∙ new.1;
          holds = holds_push m recs done c run b.holds (record { state = s; took = k; picked = refl });
          rising = b.rising;
          timely = b.timely;
        }
