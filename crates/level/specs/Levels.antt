-- What the level family means: a choice is a level, which serves a band that it lies in.
use Rattle.std.specs.Prelude.{◌≡◌, [], ◌∷◌, ℤ, pos, negsuc, ◌+ℤ◌, neg_ℤ, ◌≤ℤ◌, Some, None, int_lt, slice_index, ℕ, ◌<ℤ◌, Option, MatchOption}
use Rattle.std.proofs.Common.{arith}
use Rattle.std.specs.Int.{int_max, int_min, int_div_euclid}
use Rattle.std.proofs.lemmas.Int.{ints}
use Rattle.words.specs.declared.kind.Kind.TheVariants.{Level as LevelKind}
use Rattle.words.specs.Words.{is_a, number_in, word_of}
use Rattle.family.specs.declared.band.Band.{Band}
use Rattle.family.specs.Readings.{Above}
use Rattle.family.specs.Meaning.{Meaning}
use Rattle.family.specs.Bands.{band_wrong, low_of, high_of, Within}
use Rattle.level.specs.declared.level.Level.{Level}

-- a choice: a whole number from −1,000,000 to 1,000,000
pub record Choice : Type 0 where
  pub at : ℤ
  pub low : neg_ℤ (pos 1000000) ≤ℤ at
  pub high : at ≤ℤ pos 1000000

-- half of the sum of the ends of what is allowed, rounded down, also below zero
abbrev pub middle : Level → ℤ
middle s = int_div_euclid (s.allowed.low +ℤ s.allowed.high) (pos 2)

half_low : (z a : ℤ) → (a +ℤ a) ≤ℤ z → a ≤ℤ int_div_euclid z (pos 2)
half_low (pos n) a h = omega (arith, ints)
half_low (negsuc n) a h = omega (arith, ints)

half_high : (z a : ℤ) → z ≤ℤ (a +ℤ a) → int_div_euclid z (pos 2) ≤ℤ a
half_high (pos n) a h = omega (arith, ints)
half_high (negsuc n) a h = omega (arith, ints)

pub middle_low : (s : Level) → s.allowed.low ≤ℤ middle s
middle_low s = half_low (s.allowed.low +ℤ s.allowed.high) s.allowed.low (let h = s.order in omega (arith, ints))

pub middle_high : (s : Level) → middle s ≤ℤ s.allowed.high
middle_high s = half_high (s.allowed.low +ℤ s.allowed.high) s.allowed.high (let h = s.order in omega (arith, ints))

-- the level picked
abbrev pub level_picked : Level → Choice
level_picked s = record {
  at = middle s;
  low = (let h = middle_low s in let b = s.bottom in omega (arith, ints));
  high = (let h = middle_high s in let b = s.top in omega (arith, ints));
}

abbrev pub level_meaning : Meaning Level
level_meaning = record {
  choice = Choice;
  serves = λ c r. Within r.row c.at;
  meets = λ value row. Within row (number_in LevelKind (slice_index value 0));
  row_width = 2;
  pick_width = 1;
  value_width = 1;
  wrong_word = λ r. band_wrong r.row;
  unserved = λ r. int_lt (high_of r.row) (low_of r.row);
  allows = λ s c. (s.allowed.low ≤ℤ c.at) × (c.at ≤ℤ s.allowed.high);
  last = λ s. s.last;
  restarted = λ s. (s.allowed.low ≡ neg_ℤ (pos 1000000)) × (s.allowed.high ≡ pos 1000000) × (s.last ≡ None);
  taken = λ s r t. (t.allowed.low ≡ int_max s.allowed.low (low_of r.row)) × (t.allowed.high ≡ int_min s.allowed.high (high_of r.row)) × (t.last ≡ Some r.tick);
  picked = level_picked;
  words = λ s. word_of LevelKind (middle s) ∷ [];
  lawful = λ ws first last. is_a LevelKind (slice_index ws 0);
  value = λ ws t. slice_index ws 0 ∷ [];
}

-- the state with the levels of a band taken at tick t: none where t is not above the last tick taken or none of them is allowed
abbrev pub Joined : Level → ℕ → Band → Option Level → Type 0
Joined s t b r =
    MatchOption r (Above s.last t → int_min s.allowed.high b.high <ℤ int_max s.allowed.low b.low)
    (λ j. Above s.last t × (j.allowed.low ≡ int_max s.allowed.low b.low) × (j.allowed.high ≡ int_min s.allowed.high b.high) × (j.last ≡ Some t))
