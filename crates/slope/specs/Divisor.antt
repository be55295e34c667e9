-- The greatest common divisor of two numbers.
use Rattle.std.specs.Prelude.{ℕ, zero, suc, ◌%◌}
use Rattle.std.specs.Int.{◌∣◌}

-- g divides both, and what divides both divides g
pub record Greatest (a b g : ℕ) : Type 0 where
  pub left : g ∣ a
  pub right : g ∣ b
  pub most : (d : ℕ) → d ∣ a → d ∣ b → d ∣ g

-- Euclid's rule, for at most n steps
abbrev pub euclid : ℕ → ℕ → ℕ → ℕ
euclid n a zero = a
euclid zero a (suc b) = a
euclid (suc n) a (suc b) = euclid n (suc b) (a % suc b)

-- the greatest common divisor: no more than b steps are needed
unfoldable pub gcd_of : ℕ → ℕ → ℕ
gcd_of a b = euclid b a b
