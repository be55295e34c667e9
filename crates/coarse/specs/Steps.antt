-- The steps at the ends of a band, and the number of a step.
use Rattle.std.specs.Prelude.{◌≡◌, true, ℤ, pos, negsuc, ◌+ℤ◌, ◌≤ℤ◌}
use Rattle.std.proofs.Common.{arith}
use Rattle.std.proofs.lemmas.Int.{ints}
use Rattle.std.proofs.lemmas.Bool.Decides.{nat_tests}
use Rattle.coarse.specs.Grid.{number_of, first_step, last_step, on_grid}

-- the last step's number is not above z, and above z less 50
pub last_under : (z : ℤ) → number_of (last_step z) ≤ℤ z
last_under (pos n) = omega (arith, ints)
last_under (negsuc n) = omega (arith, ints)

pub last_over : (z : ℤ) → z ≤ℤ (number_of (last_step z) +ℤ pos 49)
last_over (pos n) = omega (arith, ints)
last_over (negsuc n) = omega (arith, ints)

-- the first step's number is not below z, and below z and 50
pub first_over : (z : ℤ) → z ≤ℤ number_of (first_step z)
first_over z = let h = last_over (z +ℤ pos 49) in omega (arith, ints)

pub first_under : (z : ℤ) → number_of (first_step z) ≤ℤ (z +ℤ pos 49)
first_under z = last_under (z +ℤ pos 49)

-- a step's number is a multiple of 50
pub number_on_grid : (z : ℤ) → on_grid (number_of z) ≡ true
number_on_grid (pos n) = grind (arith, nat_tests)
number_on_grid (negsuc n) = grind (arith, nat_tests)
