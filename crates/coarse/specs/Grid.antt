-- What the coarse family means: a choice is a whole multiple of 50, which serves a band that it lies in.
use Rattle.std.specs.Prelude.{◌≡◌, ◌%◌, Bool, ◌&&◌, [], ◌∷◌, ℤ, pos, ◌+ℤ◌, ◌*ℤ◌, neg_ℤ, ◌≤ℤ◌, Some, None, ◌==◌, int_lt, slice_index, unsigned_abs, ℕ, ◌<ℤ◌, Option, MatchOption}
use Rattle.std.proofs.Common.{arith}
use Rattle.std.specs.Int.{int_max, int_min, int_div_euclid}
use Rattle.std.proofs.lemmas.Int.{ints}
use Rattle.words.specs.declared.kind.Kind.TheVariants.{Level as LevelKind}
use Rattle.words.specs.Words.{is_a, number_in, word_of}
use Rattle.family.specs.declared.band.Band.{Band}
use Rattle.family.specs.Readings.{Above}
use Rattle.family.specs.Meaning.{Meaning}
use Rattle.family.specs.Bands.{band_wrong, low_of, high_of, Within}
use Rattle.coarse.specs.declared.coarse.Coarse.{Coarse}

-- a choice: a multiple of 50 from −1,000,000 to 1,000,000, told by its step, which is how many times 50 it is
pub record Choice : Type 0 where
  pub step : ℤ
  pub low : neg_ℤ (pos 20000) ≤ℤ step
  pub high : step ≤ℤ pos 20000

-- the multiple of 50 that a step stands for
abbrev pub number_of : ℤ → ℤ
number_of step = step *ℤ pos 50

-- the first step whose number is not below z
abbrev pub first_step : ℤ → ℤ
first_step z = int_div_euclid (z +ℤ pos 49) (pos 50)

-- the last step whose number is not above z
abbrev pub last_step : ℤ → ℤ
last_step z = int_div_euclid z (pos 50)

-- z is a multiple of 50
abbrev pub on_grid : ℤ → Bool
on_grid z = unsigned_abs z % 50 == 0

-- the choice picked: the lowest one allowed
abbrev pub coarse_picked : Coarse → Choice
coarse_picked s = record { step = s.allowed.low; low = s.bottom; high = (let o = s.order in let t = s.top in omega (arith, ints)) }

abbrev pub coarse_meaning : Meaning Coarse
coarse_meaning = record {
  choice = Choice;
  serves = λ c r. Within r.row (number_of c.step);
  meets = λ value row. Within row (number_in LevelKind (slice_index value 0));
  row_width = 2;
  pick_width = 1;
  value_width = 1;
  wrong_word = λ r. band_wrong r.row;
  unserved = λ r. int_lt (last_step (high_of r.row)) (first_step (low_of r.row));
  allows = λ s c. (s.allowed.low ≤ℤ c.step) × (c.step ≤ℤ s.allowed.high);
  last = λ s. s.last;
  restarted = λ s. (s.allowed.low ≡ neg_ℤ (pos 20000)) × (s.allowed.high ≡ pos 20000) × (s.last ≡ None);
  taken = λ s r t. (t.allowed.low ≡ int_max s.allowed.low (first_step (low_of r.row))) × (t.allowed.high ≡ int_min s.allowed.high (last_step (high_of r.row))) × (t.last ≡ Some r.tick);
  picked = coarse_picked;
  words = λ s. word_of LevelKind (number_of s.allowed.low) ∷ [];
  lawful = λ ws first last. is_a LevelKind (slice_index ws 0) && on_grid (number_in LevelKind (slice_index ws 0));
  value = λ ws t. slice_index ws 0 ∷ [];
}

-- the state with the steps of a band taken at tick t: none where t is not above the last tick taken or none of them is allowed
abbrev pub Joined : Coarse → ℕ → Band → Option Coarse → Type 0
Joined s t b r =
    MatchOption r (Above s.last t → int_min s.allowed.high b.high <ℤ int_max s.allowed.low b.low)
    (λ j. Above s.last t × (j.allowed.low ≡ int_max s.allowed.low b.low) × (j.allowed.high ≡ int_min s.allowed.high b.high) × (j.last ≡ Some t))
