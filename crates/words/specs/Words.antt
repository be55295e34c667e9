-- The 32-bit word: its top four bits are its kind, its low 28 bits its payload. "Biased": the payload is the number and 2,000,000.
use Rattle.std.specs.Prelude.{◌≡◌, ℕ, ◌+◌, ◌*◌, ◌/◌, ◌%◌, Bool, true, false, cond, ◌&&◌, ℤ, pos, ◌+ℤ◌, ◌-ℤ◌, Some, None, Option, MatchOption, Result, MatchResult, IfOk, ◌==◌, nat_le, unsigned_abs}
use Rattle.words.specs.declared.kind.Kind.{Kind}
use Rattle.words.specs.declared.kind.NotAWord.{NotAWord}
use Rattle.words.specs.declared.kind.NotAWord.TheVariants.{UnknownKind, OutOfRange}
use Rattle.words.specs.declared.word.Word.{Word}
use Rattle.words.specs.Kinds.{kind_number, kind_of, bias, in_range}

-- the top four bits of a word, and the low 28
abbrev pub top_bits : ℕ → ℕ
top_bits w = w / 268435456

abbrev pub payload : ℕ → ℕ
payload w = w % 268435456

-- a tick is a point of time, 0 to 268,435,455
abbrev pub tick_in_range : ℕ → Bool
tick_in_range t = nat_le t 268435455

-- the word of a kind that holds a number
abbrev pub word_of : Kind → ℤ → ℕ
word_of k n = kind_number k * 268435456 + unsigned_abs (n +ℤ bias k)

-- the word of a kind with the low 28 bits of a number for its payload
abbrev pub tagged : Kind → ℕ → ℕ
tagged k p = kind_number k * 268435456 + payload p

-- the number that the payload stands for in a word of a kind
abbrev pub number_in : Kind → ℕ → ℤ
number_in k w = pos (payload w) -ℤ bias k

-- the word's top bits are the kind's number
abbrev pub of_kind : Kind → ℕ → Bool
of_kind k w = top_bits w == kind_number k

-- the word is of the kind, and in range
abbrev pub is_a : Kind → ℕ → Bool
is_a k w = of_kind k w && in_range k (number_in k w)

-- the number that a word of the kind holds, if it is such a word
abbrev pub held : Kind → ℕ → Option ℤ
held k w = cond (is_a k w) (Some (number_in k w)) None

-- why a word is one in range of no kind: its top bits name none, or the kind that they name does not hold its number
abbrev pub misfit : Option Kind → NotAWord
misfit None = UnknownKind
misfit (Some k) = OutOfRange

-- the kind that the top bits name, and the number that the word then holds; an error, where it is a word in range of no kind
abbrev pub Parts : ℕ → Result (Kind × ℤ) NotAWord → Type 0
Parts w r =
    MatchResult r (λ p. (kind_of (top_bits w) ≡ Some p.0) × (held p.0 w ≡ Some p.1))
    (λ e. ((k : Kind) → held k w ≡ None) × (e ≡ misfit (kind_of (top_bits w))))

-- a word taken apart into its kind and the number it holds; an error, where it is a word in range of no kind
abbrev pub Apart : ℕ → Result Word NotAWord → Type 0
Apart w r = MatchResult r (λ x. held x.kind w ≡ Some x.number) (λ e. ((k : Kind) → held k w ≡ None) × (e ≡ misfit (kind_of (top_bits w))))

-- a word taken apart, which then makes the same 32 bits again
abbrev pub TakenApart : ℕ → Result Word NotAWord → Type 0
TakenApart w r = Apart w r × IfOk r (λ x. word_of x.kind x.number ≡ w)

-- a word made of a kind and a number, where the kind's words hold the number
abbrev pub Made : Kind → ℤ → Option Word → Type 0
Made k n r = MatchOption r (in_range k n ≡ false) (λ x. (in_range k n ≡ true) × (x.kind ≡ k) × (x.number ≡ n))

-- no other kind and number make the word w than k and n
abbrev pub Only : Kind → ℤ → ℕ → Type 0
Only k n w = (j : Kind) (m : ℤ) → in_range j m ≡ true → word_of j m ≡ w → (j ≡ k) × (m ≡ n)

-- the 32 bits of a word: they hold its number again, and no other kind and number make them
pub record Written (x : Word) (w : ℕ) : Type 0 where
  pub value : w ≡ word_of x.kind x.number
  pub back : held x.kind w ≡ Some x.number
  pub only : Only x.kind x.number w
