-- What every family keeps.
use Rattle.std.specs.Prelude.{◌≡◌, ℕ, ◌<◌, ◌≤◌, true, false, ◌↔◌, List, [], ◌∷◌, length, Some, None}
use Rattle.family.specs.Readings.{Reading, ◌▹◌, last_tick}
use Rattle.family.specs.Meaning.{Meaning, Fits, refusal, form_refusal}

module _ {S : Type 0} (m : Meaning S) where
  -- a state reached from a restart by taking a run of readings, each of which fitted
  pub data Ran : S → List Reading → Type 0 where
    ran_none : {s : S} → m.restarted s → Ran s []
    ran_more : {s t : S} {rs : List Reading} {r : Reading} → Ran s rs → refusal m r ≡ None → Fits m s r → m.taken s r t → Ran t (rs ▹ r)

  -- equal states: the same choices are allowed, and the last tick taken is the same
  pub record Alike (s t : S) : Type 0 where
    pub allow : (c : m.choice) → m.allows s c ↔ m.allows t c
    pub last : m.last s ≡ m.last t

  pub record Laws : Type 0 where
    -- widths are at most 65,535
    pub row_narrow : m.row_width ≤ 65535
    pub pick_narrow : m.pick_width ≤ 65535
    pub value_narrow : m.value_width ≤ 65535
    -- the choice picked is allowed, so no state allows nothing
    pub picks : (s : S) → m.allows s (m.picked s)
    -- restarting allows all choices and forgets the last tick
    pub restart_all : (s : S) (c : m.choice) → m.restarted s → m.allows s c
    pub restart_last : (s : S) → m.restarted s → m.last s ≡ None
    -- taking leaves exactly the choices that were allowed and serve the reading
    pub take_keeps : (s t : S) (r : Reading) (c : m.choice) → form_refusal m r ≡ None → m.taken s r t → m.allows s c → m.serves c r → m.allows t c
    pub take_from : (s t : S) (r : Reading) (c : m.choice) → form_refusal m r ≡ None → m.taken s r t → m.allows t c → m.allows s c
    pub take_serves : (s t : S) (r : Reading) (c : m.choice) → form_refusal m r ≡ None → m.taken s r t → m.allows t c → m.serves c r
    pub take_last : (s t : S) (r : Reading) → m.taken s r t → m.last t ≡ Some r.tick
    -- the place of a wrong word is an index of the row
    pub wrong_inside : (r : Reading) (i : ℕ) → m.row_width < 65535 → m.wrong_word r ≡ Some i → i < m.row_width
    -- a reading in form is refused by 3 exactly when no choice serves it
    pub some_serves : (r : Reading) → form_refusal m r ≡ None → m.unserved r ≡ false → (c : m.choice) × m.serves c r
    pub none_serves : (r : Reading) (c : m.choice) → form_refusal m r ≡ None → m.unserved r ≡ true → m.serves c r → ⊥
    -- a pick has the pick's width, and lawful words give a value row at each tick from first to last
    pub words_length : (s : S) → m.pick_width < 65535 → length (m.words s) ≡ m.pick_width
    pub value_length : (ws : List ℕ) (f l t : ℕ) → m.pick_width < 65535 → m.value_width < 65535 → length ws ≡ m.pick_width →
        m.lawful ws f l ≡ true → f ≤ t → t ≤ l → length (m.value ws t) ≡ m.value_width
    -- equal states pick the same words
    pub words_alike : (s t : S) (rs qs : List Reading) → Ran s rs → Ran t qs → Alike s t → m.words s ≡ m.words t
    -- words picked after a run are lawful for its first and last tick
    pub words_lawful : (s : S) (r : Reading) (rs : List Reading) (l : ℕ) → m.pick_width < 65535 → Ran s (r ∷ rs) → last_tick (r ∷ rs) ≡ Some l →
        m.lawful (m.words s) r.tick l ≡ true
    -- reading back: where the choice picked serves a reading, the value at its tick meets its row
    pub reads_back : (s : S) (r : Reading) → m.pick_width < 65535 → m.value_width < 65535 → form_refusal m r ≡ None →
        m.serves (m.picked s) r → m.meets (m.value (m.words s) r.tick) r.row
