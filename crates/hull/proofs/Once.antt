-- Facts that have one proof at most.
use Rattle.std.proofs.Common.{T, List, [], ◌∷◌, ℤ, pos, neg_ℤ, ◌≤ℤ◌, ◌<ℤ◌, refl, ap, ap₂}
use lib.Dec.{T_prop}
use lib.Signed.{le_z, lt_z}
use Rattle.std.specs.List.{AllByRecursion}
use Rattle.hull.specs.declared.point.Point.{Point}
use Rattle.hull.specs.Points.{NotBelow}
use Rattle.hull.specs.Lines.{Serves}

pub le_once : (a b : ℤ) → IsProp (a ≤ℤ b)
le_once a b x y = let f : T (le_z a b) → a ≤ℤ b = λ t. record { le = t } in ap f (T_prop (le_z a b) x.le y.le)

pub lt_once : (a b : ℤ) → IsProp (a <ℤ b)
lt_once a b x y = let f : T (lt_z a b) → a <ℤ b = λ t. record { lt = t } in ap f (T_prop (lt_z a b) x.lt y.lt)

all_once : (P : Point → Type 0) → ((x : Point) → IsProp (P x)) → (l : List Point) → IsProp (AllByRecursion P l)
all_once P h [] x y = refl
all_once P h (a ∷ l) x y = let f : P a → AllByRecursion P l → AllByRecursion P (a ∷ l) = λ p q. (p, q) in ap₂ f (h a x.0 y.0) (all_once P h l x.1 y.1)

pub serves_once : (ls ms : List Point) (r u k : ℤ) → IsProp (Serves ls ms r u k)
serves_once ls ms r u k x y =
    let f : pos 0 <ℤ u → AllByRecursion (NotBelow r u k) ls × AllByRecursion (NotBelow (neg_ℤ r) u (neg_ℤ k)) ms → Serves ls ms r u k = λ o b. record { over = o; lows = b.0; highs = b.1 } in
    let g : AllByRecursion (NotBelow r u k) ls → AllByRecursion (NotBelow (neg_ℤ r) u (neg_ℤ k)) ms → AllByRecursion (NotBelow r u k) ls × AllByRecursion (NotBelow (neg_ℤ r) u (neg_ℤ k)) ms = λ p q. (p, q) in
    ap₂ f (lt_once (pos 0) u x.over y.over) (ap₂ g (all_once _ (λ p. le_once _ _) ls x.lows y.lows) (all_once _ (λ p. le_once _ _) ms x.highs y.highs))
