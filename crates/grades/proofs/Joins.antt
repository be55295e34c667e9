-- A reading fits a grades state exactly where the two masks share a bit and its tick is new.
use Rattle.std.proofs.Common.{◌≡◌, ℕ, ◌<◌, None, Some, Option, sym, ap, ◌∙◌, arith}
use lib.Bits.{bit_and}
use lib.Count.{count_trailing_zeros}
use Rattle.family.specs.Readings.{Reading}
use Rattle.family.specs.Meaning.{Next}
use Rattle.grades.specs.declared.grades.Grades.{Grades}
use Rattle.grades.specs.Bit.{lowest_below}
use Rattle.grades.specs.GradeMasks.{grades_meaning, mask_of, Joined}
use Rattle.grades.specs.Bitwise.{lowest_set, bit_of_and, bit_some}

-- the state with the mask of a reading taken is the state after taking the reading
pub next_from : (s : Grades) (r : Reading) (mask : ℕ) (o : Option Grades) → mask ≡ mask_of r.row → Joined s r.tick mask o → Next grades_meaning s r o
next_from s r mask None e j = λ x.
    let g = x.some.by.at in
    let a = x.some.allowed in
    let b = x.some.serving in
    let n = j x.above in
    let q = ap (bit_and s.mask) e in
    let p : 0 < bit_and s.mask (mask_of r.row) = bit_some g (bit_and s.mask (mask_of r.row)) (bit_of_and g s.mask (mask_of r.row) ∙ omega arith) in
    omega arith
next_from s r mask (Some t) e j =
    let k = j.1 ∙ ap (bit_and s.mask) e in
    let n = bit_and s.mask (mask_of r.row) in
    let p : 0 < n = omega (arith, t.some) in
    let b : n < 268435456 = omega (arith, t.small) in
    let g = count_trailing_zeros 32 n in
    let i = sym (bit_of_and g s.mask (mask_of r.row)) ∙ lowest_set 32 n p (omega arith) in (
      record { above = j.0; some = record { by = record { at = g; below = lowest_below 28 32 n p b (omega arith) }; allowed = omega arith; serving = omega arith } },
      (k, j.2),
    )
