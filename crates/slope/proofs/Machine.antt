-- The code's products: they fit, and are the products.
use borrow.Author.Numbers.{signed_product}
use Rattle.std.proofs.Common.{◌≡◌, suc, ◌-◌, ◌^◌, ◌≤◌, ℤ, pos, negsuc, ◌*ℤ◌, ◌∙◌, ap₂, arith, w64, SFits, to_z, of_z}
use native.Mathlib.Nat as N
use mir.Syntax.{w128}
use Rattle.std.proofs.lemmas.Int.{ints, to_z-of_z}
use Rattle.slope.specs.Values.{Modest}

wide : (a : ℤ) → SFits w64 a → to_z w128 (of_z w128 (to_z w64 (of_z w64 a))) ≡ a
wide a f = omega (arith, ints)

-- two 64-bit numbers in 128 bits
pub times_is : (a b : ℤ) → SFits w64 a → SFits w64 b → to_z w128 (of_z w128 (to_z w128 (of_z w128 (to_z w64 (of_z w64 a))) *ℤ to_z w128 (of_z w128 (to_z w64 (of_z w64 b))))) ≡ a *ℤ b
times_is a b f g = to_z-of_z w128 _ (signed_product w128 w64 w64 a b f g tt) ∙ ap₂ ◌*ℤ◌ (wide a f) (wide b g)

-- far inside them
pub times_modest : (a b : ℤ) → SFits w64 a → SFits w64 b → Modest (a *ℤ b)
times_modest (pos a) (pos b) f g = let x : a ≤ 2 ^ 63 = omega (arith, ints) in let y : b ≤ 2 ^ 63 = omega (arith, ints) in let m = N.mul-le-mul x y in (omega (arith, ints, m), omega (arith, ints, m))
times_modest (pos a) (negsuc b) f g = let x : a ≤ 2 ^ 63 - 1 = omega (arith, ints) in let y : suc b ≤ 2 ^ 63 = omega (arith, ints) in let m = N.mul-le-mul x y in (omega (arith, ints, m), omega (arith, ints, m))
times_modest (negsuc a) (pos b) f g = let x : suc a ≤ 2 ^ 63 = omega (arith, ints) in let y : b ≤ 2 ^ 63 - 1 = omega (arith, ints) in let m = N.mul-le-mul x y in (omega (arith, ints, m), omega (arith, ints, m))
times_modest (negsuc a) (negsuc b) f g = let x : suc a ≤ 2 ^ 63 = omega (arith, ints) in let y : suc b ≤ 2 ^ 63 = omega (arith, ints) in let m = N.mul-le-mul x y in (omega (arith, ints, m), omega (arith, ints, m))
