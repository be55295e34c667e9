-- Lists taken apart at their end.
use Rattle.std.proofs.Common.{◌≡◌, ℕ, List, [], ◌∷◌, ◌++◌, refl, ap, append_assoc, arith}
use Rattle.std.specs.List.{AllByRecursion}
use Rattle.std.proofs.lemmas.List.{append-nil}
use Rattle.family.specs.Readings.{Reading, ◌▹◌}
use Rattle.cuttings.specs.Cutting.{joined, Event, read, mark, readings}

-- a list is empty, or has a last element
pub data Ended {A : Type 0} : List A → Type 0 where
  empty : Ended []
  ends : (xs : List A) (x : A) → Ended (xs ▹ x)

longer : {A : Type 0} {ys : List A} (x : A) → Ended ys → Ended (x ∷ ys)
longer x empty = ends [] x
longer x (ends ys y) = ends (x ∷ ys) y

pub ended : {A : Type 0} (xs : List A) → Ended xs
ended [] = empty
ended (x ∷ xs) = longer x (ended xs)

module _ {A : Type 0} where
  pub not_nil : (xs : List A) (x : A) → ¬ (xs ▹ x ≡ [])
  not_nil [] x e = let z : ◌≡◌ {A = ℕ} 0 1 = cc in omega arith
  not_nil (y ∷ xs) x e = let z : ◌≡◌ {A = ℕ} 0 1 = cc in omega arith

  pub same_front : (xs ys : List A) (x y : A) → xs ▹ x ≡ ys ▹ y → xs ≡ ys
  same_front [] [] x y e = refl
  same_front [] (b ∷ ys) x y e = let t : ys ▹ y ≡ [] = cc in absurd (not_nil ys y t)
  same_front (a ∷ xs) [] x y e = let t : xs ▹ x ≡ [] = cc in absurd (not_nil xs x t)
  same_front (a ∷ xs) (b ∷ ys) x y e = let t : xs ▹ x ≡ ys ▹ y = cc in let u = same_front xs ys x y t in cc

  pub same_last : (xs ys : List A) (x y : A) → xs ▹ x ≡ ys ▹ y → x ≡ y
  same_last [] [] x y e = cc
  same_last [] (b ∷ ys) x y e = let t : ys ▹ y ≡ [] = cc in absurd (not_nil ys y t)
  same_last (a ∷ xs) [] x y e = let t : xs ▹ x ≡ [] = cc in absurd (not_nil xs x t)
  same_last (a ∷ xs) (b ∷ ys) x y e = let t : xs ▹ x ≡ ys ▹ y = cc in same_last xs ys x y t

  pub all_init : (P : A → Type 0) (xs : List A) (x : A) → AllByRecursion P (xs ▹ x) → AllByRecursion P xs
  all_init P [] x h = tt
  all_init P (y ∷ xs) x h = (h.0, all_init P xs x h.1)

  pub all_last : (P : A → Type 0) (xs : List A) (x : A) → AllByRecursion P (xs ▹ x) → P x
  all_last P [] x h = h.0
  all_last P (y ∷ xs) x h = all_last P xs x h.1

  pub all_right : (P : A → Type 0) (xs ys : List A) → AllByRecursion P (xs ++ ys) → AllByRecursion P ys
  all_right P [] ys h = h
  all_right P (y ∷ xs) ys h = all_right P xs ys h.1

  pub all_left : (P : A → Type 0) (xs ys : List A) → AllByRecursion P (xs ++ ys) → AllByRecursion P xs
  all_left P [] ys h = tt
  all_left P (y ∷ xs) ys h = (h.0, all_left P xs ys h.1)

  pub joined_append : (a b : List (List A)) → joined (a ++ b) ≡ joined a ++ joined b
  joined_append [] b = refl
  joined_append (x ∷ a) b = rw (joined_append a b, append_assoc)

  pub joined_push : (a : List (List A)) (x : List A) → joined (a ▹ x) ≡ joined a ++ x
  joined_push a x = rw (joined_append a (x ∷ []), append-nil)

pub readings_append : (a b : List Event) → readings (a ++ b) ≡ readings a ++ readings b
readings_append [] b = refl
readings_append (read r ∷ a) b = ap (λ (l : List Reading). r ∷ l) (readings_append a b)
readings_append (mark ∷ a) b = readings_append a b
