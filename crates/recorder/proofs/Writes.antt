-- A record written into a store, and the room for it.
use Rattle.std.proofs.Common.{◌≡◌, ℕ, zero, suc, ◌+◌, ◌-◌, ◌*◌, ◌≤◌, List, [], ◌∷◌, ◌++◌, length, take, drop, set, refl, ap, ◌∙◌, le_of_suc-le-suc, mul-le-mul_right, add-mul, arith}
use borrow.Rule.Slice.PartMut.{put_mid, Post-is}

two_set : (a : ℕ) (xs rest : List ℕ) (x y : ℕ) → suc (suc a) ≤ length xs → set (set (take (suc (suc a)) xs ++ rest) a x) (suc a) y ≡ take a xs ++ (x ∷ y ∷ rest)
two_set a [] rest x y h = absurd (omega arith)
two_set a (p ∷ []) rest x y h = absurd (omega arith)
two_set zero (p ∷ q ∷ xs) rest x y h = refl
two_set (suc a) (p ∷ q ∷ xs) rest x y h = ap (λ (l : List ℕ). p ∷ l) (two_set a (q ∷ xs) rest x y (le_of_suc-le-suc h))

-- two words before a part that was written, and the part
pub written : (a n : ℕ) (xs ws : List ℕ) (x y : ℕ) → length ws ≡ n → (a + 2) + n ≤ length xs
    → set (set (put_mid (a + 2) (((a + 2) + n) - (a + 2)) xs ws) a x) (a + 1) y ≡ take a xs ++ ((x ∷ y ∷ ws) ++ drop (a + length (x ∷ y ∷ ws)) xs)
written a n xs ws x y l h =
    let e2 : a + 2 ≡ suc (suc a) = omega arith in
    let e1 : a + 1 ≡ suc a = omega arith in
    let post = Post-is (a + 2) ((a + 2) + n) xs (omega arith) in
    let long : (a + 2) + n ≡ a + length (x ∷ y ∷ ws) = omega (arith, l) in
    ap (λ (r : List ℕ). set (set (take (a + 2) xs ++ (ws ++ r)) a x) (a + 1) y) (post ∙ ap (λ (k : ℕ). drop k xs) long)
    ∙ ap (λ (k : ℕ). set (set (take k xs ++ (ws ++ drop (a + length (x ∷ y ∷ ws)) xs)) a x) (a + 1) y) e2
    ∙ ap (λ (k : ℕ). set (set (take (suc (suc a)) xs ++ (ws ++ drop (a + length (x ∷ y ∷ ws)) xs)) a x) k y) e1
    ∙ two_set a xs (ws ++ drop (a + length (x ∷ y ∷ ws)) xs) x y (omega arith)

-- a record's end lies within the store
pub record_end : (i width len : ℕ) → (i + 1) * (width + 2) ≤ len - 2 → ((2 + i * (width + 2)) + 2) + width ≤ len
record_end i width len h =
    let e = add-mul i 1 (width + 2) in omega (arith, e)

pub room_for : (n p width len size : ℕ) → n + 1 ≤ p → p * (width + 2) ≤ len - 2 → size ≡ len → (n + 1) * (width + 2) ≤ size - 2
room_for n p width len size h k e = let r = mul-le-mul_right (width + 2) h in omega (arith, r)

-- the same by the values that the code holds, and the count set
pub stored : (a n : ℕ) (xs ws : List ℕ) (x y z : ℕ) → length ws ≡ n → (a + 2) + n ≤ length xs → (at : ℕ) (slot : List ℕ) (f e : ℕ) → at ≡ a → slot ≡ ws → f ≡ x → e ≡ y
    → (out : List ℕ) → out ≡ set (set (set (put_mid (at + 2) (((at + 2) + n) - (at + 2)) xs slot) at f) (at + 1) e) 1 z → out ≡ set (take a xs ++ ((x ∷ y ∷ ws) ++ drop (a + length (x ∷ y ∷ ws)) xs)) 1 z
stored a n xs ws x y z l h at slot f e p q r s out is =
    is
    ∙ ap (λ (i : ℕ). set (set (set (put_mid (i + 2) (((i + 2) + n) - (i + 2)) xs slot) i f) (i + 1) e) 1 z) p
    ∙ ap (λ (zs : List ℕ). set (set (set (put_mid (a + 2) (((a + 2) + n) - (a + 2)) xs zs) a f) (a + 1) e) 1 z) q
    ∙ ap (λ (i : ℕ). set (set (set (put_mid (a + 2) (((a + 2) + n) - (a + 2)) xs ws) a i) (a + 1) e) 1 z) r
    ∙ ap (λ (i : ℕ). set (set (set (put_mid (a + 2) (((a + 2) + n) - (a + 2)) xs ws) a x) (a + 1) i) 1 z) s
    ∙ ap (λ (zs : List ℕ). set zs 1 z) (written a n xs ws x y l h)
