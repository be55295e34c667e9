-- A word in range and its kind and number make each other.
use Rattle.std.proofs.Common.{◌≡◌, ℕ, ◌<◌, ◌≤◌, Bool, true, false, cond, ℤ, pos, ◌+ℤ◌, nat_abs, ◌≤ℤ◌, Some, None, Option, sym, refl, ap, ◌∙◌, subst, arith}
use Rattle.std.proofs.lemmas.Int.{ints}
use Rattle.std.proofs.lemmas.Bool.Decides.{nat_tests}
use Rattle.std.proofs.lemmas.Bool.{cond-true}
use Rattle.words.specs.declared.kind.Kind.{Kind}
use Rattle.words.specs.declared.kind.Kind.TheVariants.{Low, High, Mask, Start, Batch, End, Level, Pivot, Height, Rise, Over, Grade, Tape, Count}
use Rattle.words.specs.Kinds.{kind_number, kind_of, bias, least, most, in_range}
use Rattle.words.specs.Words.{top_bits, payload, word_of, number_in, is_a, held, Only}

-- the payloads of a kind are numbers of 28 bits
pub record Room (k : Kind) : Type 0 where
  pub low : pos 0 ≤ℤ (least k +ℤ bias k)
  pub high : (most k +ℤ bias k) ≤ℤ pos 268435455
  pub kind : kind_number k ≤ 15
  pub back : kind_of (kind_number k) ≡ Some k

pub room : (k : Kind) → Room k
room Low = record { low = omega (arith, ints); high = omega (arith, ints); kind = omega arith; back = refl }
room High = record { low = omega (arith, ints); high = omega (arith, ints); kind = omega arith; back = refl }
room Mask = record { low = omega (arith, ints); high = omega (arith, ints); kind = omega arith; back = refl }
room Start = record { low = omega (arith, ints); high = omega (arith, ints); kind = omega arith; back = refl }
room Batch = record { low = omega (arith, ints); high = omega (arith, ints); kind = omega arith; back = refl }
room End = record { low = omega (arith, ints); high = omega (arith, ints); kind = omega arith; back = refl }
room Level = record { low = omega (arith, ints); high = omega (arith, ints); kind = omega arith; back = refl }
room Pivot = record { low = omega (arith, ints); high = omega (arith, ints); kind = omega arith; back = refl }
room Height = record { low = omega (arith, ints); high = omega (arith, ints); kind = omega arith; back = refl }
room Rise = record { low = omega (arith, ints); high = omega (arith, ints); kind = omega arith; back = refl }
room Over = record { low = omega (arith, ints); high = omega (arith, ints); kind = omega arith; back = refl }
room Grade = record { low = omega (arith, ints); high = omega (arith, ints); kind = omega arith; back = refl }
room Tape = record { low = omega (arith, ints); high = omega (arith, ints); kind = omega arith; back = refl }
room Count = record { low = omega (arith, ints); high = omega (arith, ints); kind = omega arith; back = refl }

pub range_test : (k : Kind) (n : ℤ) → least k ≤ℤ n → n ≤ℤ most k → in_range k n ≡ true
range_test k n l h = grind (arith, ints)

pub range_low : (k : Kind) (n : ℤ) → in_range k n ≡ true → least k ≤ℤ n
range_low k n h = grind (arith, ints)

pub range_high : (k : Kind) (n : ℤ) → in_range k n ≡ true → n ≤ℤ most k
range_high k n h = grind (arith, ints)

module _ (k : Kind) (n : ℤ) (l : least k ≤ℤ n) (h : n ≤ℤ most k) where
  -- the payload is the number and the bias
  pub payload_is : pos (nat_abs (n +ℤ bias k)) ≡ n +ℤ bias k
  payload_is = let r = room k in omega (arith, ints)

  pub payload_small : nat_abs (n +ℤ bias k) < 268435456
  payload_small = let r = room k in let e = payload_is in omega (arith, ints)

  pub top_bits_back : top_bits (word_of k n) ≡ kind_number k
  top_bits_back = let s = payload_small in omega arith

  pub payload_back : payload (word_of k n) ≡ nat_abs (n +ℤ bias k)
  payload_back = let s = payload_small in omega arith

  pub number_back : number_in k (word_of k n) ≡ n
  number_back = let p = payload_back in let e = payload_is in omega (arith, ints)

  pub is_back : is_a k (word_of k n) ≡ true
  is_back =
      let t = top_bits_back in
      let e = ap (in_range k) number_back ∙ range_test k n l h in
      grind (arith, nat_tests)

  pub held_back : held k (word_of k n) ≡ Some n
  held_back = cond-true _ _ _ is_back ∙ ap Some number_back

same_kind : (j k : Kind) → kind_number j ≡ kind_number k → j ≡ k
same_kind j k e = let a = (room j).back in let b = (room k).back in let c = ap kind_of e in cc

-- two numbers of one kind that make one word are one number
same_number : (k : Kind) (m n : ℤ) → least k ≤ℤ m → m ≤ℤ most k → least k ≤ℤ n → n ≤ℤ most k → word_of k m ≡ word_of k n → m ≡ n
same_number k m n a b c d e = sym (number_back k m a b) ∙ ap (number_in k) e ∙ number_back k n c d

module _ (k : Kind) (n : ℤ) (l : least k ≤ℤ n) (h : n ≤ℤ most k) where
  pub only_this : Only k n (word_of k n)
  only_this j m r e =
      let a = range_low j m r in
      let b = range_high j m r in
      let s = same_kind j k (sym (top_bits_back j m a b) ∙ ap top_bits e ∙ top_bits_back k n l h) in
      (s, same_number k m n (subst (λ (i : Kind). least i ≤ℤ m) s a) (subst (λ (i : Kind). m ≤ℤ most i) s b) l h (subst (λ (i : Kind). word_of i m ≡ word_of k n) s e))

-- what a held number says of the word
held_some : (b : Bool) (x n : ℤ) → ◌≡◌ {A = Option ℤ} (cond b (Some x) None) (Some n) → (b ≡ true) × (x ≡ n)
held_some true x n h = (refl, cc)
held_some false x n h = absurd (let z : ◌≡◌ {A = ℕ} 0 1 = cc in omega arith)

-- made again of what it holds, a word is itself
pub made_again : (k : Kind) (n : ℤ) (w : ℕ) → held k w ≡ Some n → word_of k n ≡ w
made_again k n w h =
    let s = held_some (is_a k w) (number_in k w) n h in
    let t : top_bits w ≡ kind_number k = (let i = s.0 in grind (arith, nat_tests)) in
    let a : nat_abs (n +ℤ bias k) ≡ payload w = (let e = s.1 in omega (arith, ints)) in
    omega arith
