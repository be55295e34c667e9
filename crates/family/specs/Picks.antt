-- Picks that are one word.
use Rattle.std.specs.Prelude.{ℕ, List, length, Option, slice_index}
use Rattle.words.specs.declared.kind.Kind.{Kind}
use Rattle.words.specs.declared.refusal.Reason.TheVariants.{WordsLength, Unlawful}
use Rattle.words.specs.declared.refusal.Refusal.{Refusal}
use Rattle.words.specs.Words.{is_a}
use Rattle.family.specs.Refusing.{first_refusal, refuse_unless, right}

abbrev pub first_of : List ℕ → ℕ
first_of ws = slice_index ws 0

-- what pick words are refused for where a pick is one word of a kind: 9, 11
abbrev pub one_word_refusal : Kind → List ℕ → Option Refusal
one_word_refusal k ws = first_refusal (refuse_unless (right 1 (length ws)) WordsLength) (refuse_unless (is_a k (first_of ws)) Unlawful)
