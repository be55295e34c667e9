-- What the grades family means: a choice is a grade, which serves a mask that has its bit.
use Rattle.std.specs.Prelude.{◌≡◌, ℕ, ◌<◌, List, [], ◌∷◌, pos, Some, None, Option, MatchOption, ◌==◌, bit_and, slice_index}
use Rattle.std.proofs.Common.{arith}
use Rattle.std.specs.Int.Count.{count_trailing_zeros}
use Rattle.words.specs.declared.kind.Kind.TheVariants.{Mask, Grade as GradeKind}
use Rattle.words.specs.Words.{is_a, payload, word_of}
use Rattle.family.specs.Readings.{Above}
use Rattle.family.specs.Meaning.{Meaning}
use Rattle.family.specs.Bands.{first_wrong}
use Rattle.grades.specs.declared.grades.Grades.{Grades}
use Rattle.grades.specs.Bit.{bit, lowest_below}

-- a choice: a grade, 0 to 27
pub record Grade : Type 0 where
  pub at : ℕ
  pub below : at < 28

-- the first word of a row that is no MASK
abbrev pub mask_wrong : List ℕ → Option ℕ
mask_wrong ws = first_wrong (Mask ∷ []) ws 0

-- the mask of a row
abbrev pub mask_of : List ℕ → ℕ
mask_of ws = payload (slice_index ws 0)

-- the lowest grade still allowed: the trailing zeros of the mask of grades still allowed
abbrev pub lowest : Grades → ℕ
lowest s = count_trailing_zeros 32 s.mask

abbrev pub grades_picked : Grades → Grade
grades_picked s = record { at = lowest s; below = lowest_below 28 32 s.mask s.some s.small (omega arith) }

abbrev pub grades_meaning : Meaning Grades
grades_meaning = record {
  choice = Grade;
  serves = λ c r. bit c.at (mask_of r.row) ≡ 1;
  meets = λ value row. bit (payload (slice_index value 0)) (mask_of row) ≡ 1;
  row_width = 1;
  pick_width = 1;
  value_width = 1;
  wrong_word = λ r. mask_wrong r.row;
  unserved = λ r. (mask_of r.row == 0);
  allows = λ s c. bit c.at s.mask ≡ 1;
  last = λ s. s.last;
  restarted = λ s. (s.mask ≡ 268435455) × (s.last ≡ None);
  taken = λ s r t. (t.mask ≡ bit_and s.mask (mask_of r.row)) × (t.last ≡ Some r.tick);
  picked = grades_picked;
  words = λ s. word_of GradeKind (pos (lowest s)) ∷ [];
  lawful = λ ws first last. is_a GradeKind (slice_index ws 0);
  value = λ ws t. slice_index ws 0 ∷ [];
}

-- the state with the grades of a mask taken at tick t: none where t is not above the last tick taken or none of them is allowed
abbrev pub Joined : Grades → ℕ → ℕ → Option Grades → Type 0
Joined s t mask r =
    MatchOption r (Above s.last t → bit_and s.mask mask ≡ 0)
    (λ j. Above s.last t × (j.mask ≡ bit_and s.mask mask) × (j.last ≡ Some t))
