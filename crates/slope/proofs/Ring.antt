-- Products of integers: the laws of a commutative ring, by which `simp ring` sorts both sides, and monotony by a factor.
use Rattle.std.proofs.Common.{◌≡◌, ℕ, zero, suc, ◌+◌, ◌*◌, ◌<◌, ℤ, pos, negsuc, ◌+ℤ◌, ◌-ℤ◌, ◌*ℤ◌, neg_ℤ, ◌≤ℤ◌, ◌<ℤ◌, sym, ap, ◌∙◌, arith}
use native.Mathlib.Nat as N
use borrow.Author.Differences.{up, down, sum_is_lem, product_is, neg_is, same_in, same_out, Apart-out, lt_T, le_T, lt_not, le_not, lt-true, lt-false, le-true, le-false, true-lt, false-lt, true-le, false-le, lt_out, le_out, lt_in, le_in, below_in, at_most_in, true_is_lt, false_is_lt, true_is_le, false_is_le}
use lib.IntN.{*ℤ_comm, *ℤ-zero, zero-*ℤ}
use Rattle.std.proofs.lemmas.Int.{ints, by_lt_z}

pub mul_add : (a b c : ℤ) → a *ℤ (b +ℤ c) ≡ a *ℤ b +ℤ a *ℤ c
mul_add a b c = omega (arith, ints, ap (λ (n : ℕ). up a * n) (sum_is_lem b c), ap (λ (n : ℕ). down a * n) (sum_is_lem b c))

pub add_mul : (a b c : ℤ) → (a +ℤ b) *ℤ c ≡ a *ℤ c +ℤ b *ℤ c
add_mul a b c = *ℤ_comm (a +ℤ b) c ∙ mul_add c a b ∙ simp *ℤ_comm

up_product : (a b : ℤ) → up (a *ℤ b) ≡ up a * up b + down a * down b
up_product a b = (product_is a b).0

down_product : (a b : ℤ) → down (a *ℤ b) ≡ up a * down b + down a * up b
down_product a b = (product_is a b).1

up_neg : (a : ℤ) → up (neg_ℤ a) ≡ down a
up_neg a = (neg_is a).0

down_neg : (a : ℤ) → down (neg_ℤ a) ≡ up a
down_neg a = (neg_is a).1

pub mul_neg : (a b : ℤ) → a *ℤ neg_ℤ b ≡ neg_ℤ (a *ℤ b)
mul_neg a b = same_in _ _ (simp (up_product, down_product, up_neg, down_neg) (omega arith))

pub neg_mul : (a b : ℤ) → neg_ℤ a *ℤ b ≡ neg_ℤ (a *ℤ b)
neg_mul a b = *ℤ_comm (neg_ℤ a) b ∙ mul_neg b a ∙ ap neg_ℤ (*ℤ_comm b a)

pub mul_assoc : (a b c : ℤ) → a *ℤ b *ℤ c ≡ a *ℤ (b *ℤ c)
mul_assoc a b c = same_in _ _ (simp (up_product, down_product) (omega arith))

pub mul_left_comm : (a b c : ℤ) → a *ℤ (b *ℤ c) ≡ b *ℤ (a *ℤ c)
mul_left_comm a b c = sym (mul_assoc a b c) ∙ ap (λ (x : ℤ). x *ℤ c) (*ℤ_comm a b) ∙ mul_assoc b a c

pub mul_one : (a : ℤ) → a *ℤ pos 1 ≡ a
mul_one a = omega (arith, ints)

-- products multiplied out and sorted
pub ruleset ring = (mul_one, *ℤ-zero, zero-*ℤ, mul_add, add_mul, mul_neg, neg_mul, mul_assoc, *ℤ_comm, mul_left_comm)

-- `ints` with products as unknowns
pub ruleset lins = (same_out, Apart-out, lt_T, le_T, lt_not, le_not, lt-true, lt-false, le-true, le-false, true-lt, false-lt, true-le, false-le, lt_out, le_out, same_in, lt_in, le_in, below_in, at_most_in, true_is_lt, false_is_lt, true_is_le, false_is_le, sum_is_lem, neg_is)

-- monotony: a difference is not negative, times a factor that is not
pub mul_nonneg : (k b : ℤ) → pos 0 ≤ℤ k → pos 0 ≤ℤ b → pos 0 ≤ℤ (k *ℤ b)
mul_nonneg (pos k) (pos b) h g = omega (arith, ints)
mul_nonneg (pos k) (negsuc b) h g = absurd (omega (arith, ints))
mul_nonneg (negsuc k) b h g = absurd (omega (arith, ints))

pub mul_le : (k a b : ℤ) → pos 0 ≤ℤ k → a ≤ℤ b → (k *ℤ a) ≤ℤ (k *ℤ b)
mul_le k a b h g = let d : pos 0 ≤ℤ (b -ℤ a) = omega (arith, lins) in omega (arith, lins, simp ring at (mul_nonneg k (b -ℤ a) h d))

pub mul_pos : (k b : ℤ) → pos 0 <ℤ k → pos 0 <ℤ b → pos 0 <ℤ (k *ℤ b)
mul_pos (pos k) (pos b) h g = let p : 0 < k = omega (arith, ints) in let q : 0 < b = omega (arith, ints) in omega (arith, ints, N.mul-pos p q)
mul_pos (pos k) (negsuc b) h g = absurd (omega (arith, ints))
mul_pos (negsuc k) b h g = absurd (omega (arith, ints))

pub mul_lt : (k a b : ℤ) → pos 0 <ℤ k → a <ℤ b → (k *ℤ a) <ℤ (k *ℤ b)
mul_lt k a b h g = let d : pos 0 <ℤ (b -ℤ a) = omega (arith, lins) in omega (arith, lins, simp ring at (mul_pos k (b -ℤ a) h d))

-- a positive factor goes out
pub le_of_mul : (k a b : ℤ) → pos 0 <ℤ k → (k *ℤ a) ≤ℤ (k *ℤ b) → a ≤ℤ b
le_of_mul k a b h g = by_lt_z b a (λ l. absurd (omega (arith, lins, mul_lt k b a h l))) (λ l. l)

pub nonneg_of_mul : (k a : ℤ) → pos 0 <ℤ k → pos 0 ≤ℤ (k *ℤ a) → pos 0 ≤ℤ a
nonneg_of_mul k a h g = le_of_mul k (pos 0) a h (simp ring g)

pub pos_of_mul : (k a : ℤ) → pos 0 <ℤ k → pos 0 <ℤ (k *ℤ a) → pos 0 <ℤ a
pos_of_mul (pos k) (pos zero) h g = absurd (let m = simp ring at g in omega (arith, ints, m))
pos_of_mul (pos k) (pos (suc a)) h g = omega (arith, ints)
pos_of_mul (pos k) (negsuc a) h g = absurd (omega (arith, ints))
pos_of_mul (negsuc k) a h g = absurd (omega (arith, ints))
