-- A hull in its array, newest point first: what the loop of a push pops, and what it leaves.
use Rattle.std.proofs.Common.{◌≡◌, ℕ, zero, suc, ◌+◌, ◌-◌, ◌<◌, ◌≤◌, Bool, true, cond, List, [], ◌∷◌, reverse, length, get_or, take, sym, ap, ◌∙◌, arith}
use Rattle.std.proofs.lemmas.List.{take_more, reverse-append}
use Rattle.hull.specs.declared.point.Point.{Point}
use Rattle.hull.specs.Hulls.{origin, covered, popped}

-- the first n, newest first
pub newest_more : {X : Type 0} (xs : List X) (n : ℕ) (d : X) → n < length xs → reverse (take (n + 1) xs) ≡ get_or xs n d ∷ reverse (take n xs)
newest_more xs n d h = ap reverse (take_more xs n d h) ∙ reverse-append (take n xs) (get_or xs n d ∷ [])

popped_on : (b : Point) (rest : List Point) (p : Point) → covered (b ∷ rest) p ≡ true → popped (b ∷ rest) p ≡ popped rest p
popped_on b rest p e = ap (λ (t : Bool). cond t (popped rest p) (b ∷ rest)) e

-- the loop's step
pub popped_less : (xs : List Point) (n : ℕ) (p : Point) → n ≤ length xs → covered (reverse (take n xs)) p ≡ true → (0 < n) × (popped (reverse (take (n - 1) xs)) p ≡ popped (reverse (take n xs)) p)
popped_less xs zero p h e = absurd (let z : ◌≡◌ {A = ℕ} 0 1 = cc in omega arith)
popped_less xs (suc n) p h e =
    let m : reverse (take (suc n) xs) ≡ get_or xs n origin ∷ reverse (take n xs) = (let q : suc n ≡ n + 1 = omega arith in ap (λ (k : ℕ). reverse (take k xs)) q ∙ newest_more xs n origin h) in
    let t : covered (get_or xs n origin ∷ reverse (take n xs)) p ≡ true = cc in
    let s : suc n - 1 ≡ n = omega arith in
    (omega arith, ap (λ (k : ℕ). popped (reverse (take k xs)) p) s ∙ sym (popped_on (get_or xs n origin) (reverse (take n xs)) p t) ∙ ap (λ (l : List Point). popped l p) (sym m))
