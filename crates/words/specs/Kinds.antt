-- The kinds of words: each kind's number, which numbers its words hold, and the bias between number and payload.
use Rattle.std.specs.Prelude.{◌≡◌, ℕ, Bool, cond, ◌&&◌, ℤ, pos, neg_ℤ, Some, None, Option, Result, MatchResult, ◌==◌, int_le}
use Rattle.words.specs.declared.kind.Kind.{Kind}
use Rattle.words.specs.declared.kind.NotAWord.{NotAWord}
use Rattle.words.specs.declared.kind.NotAWord.TheVariants.{UnknownKind}
use Rattle.words.specs.declared.kind.Kind.TheVariants.{Low, High, Mask, Start, Batch, End, Level, Pivot, Height, Rise, Over, Grade, Tape, Count}

-- the top four bits of a word of the kind
abbrev pub kind_number : Kind → ℕ
kind_number Low = 1
kind_number High = 2
kind_number Mask = 3
kind_number Start = 4
kind_number Batch = 5
kind_number End = 6
kind_number Level = 7
kind_number Pivot = 8
kind_number Height = 9
kind_number Rise = 10
kind_number Over = 11
kind_number Grade = 12
kind_number Tape = 14
kind_number Count = 15

-- the kind of a number; 0 and 13 are no kind's
abbrev pub kind_of : ℕ → Option Kind
kind_of n =
    cond (n == 1) (Some Low)
    (cond (n == 2) (Some High)
    (cond (n == 3) (Some Mask)
    (cond (n == 4) (Some Start)
    (cond (n == 5) (Some Batch)
    (cond (n == 6) (Some End)
    (cond (n == 7) (Some Level)
    (cond (n == 8) (Some Pivot)
    (cond (n == 9) (Some Height)
    (cond (n == 10) (Some Rise)
    (cond (n == 11) (Some Over)
    (cond (n == 12) (Some Grade)
    (cond (n == 14) (Some Tape)
    (cond (n == 15) (Some Count) None)))))))))))))

-- what a number is taken for: its kind, or that it is no kind's
abbrev pub Named : ℕ → Result Kind NotAWord → Type 0
Named n r = MatchResult r (λ k. kind_of n ≡ Some k) (λ e. (kind_of n ≡ None) × (e ≡ UnknownKind))

-- what is added to a number to make the payload of its word
abbrev pub bias : Kind → ℤ
bias Low = pos 2000000
bias High = pos 2000000
bias Mask = pos 0
bias Start = pos 0
bias Batch = pos 0
bias End = pos 0
bias Level = pos 2000000
bias Pivot = pos 0
bias Height = pos 2000000
bias Rise = pos 2000000
bias Over = pos 0
bias Grade = pos 0
bias Tape = pos 0
bias Count = pos 0

-- the least and the greatest number that a word of the kind holds
abbrev pub least : Kind → ℤ
least Low = neg_ℤ (pos 1000000)
least High = neg_ℤ (pos 1000000)
least Mask = pos 0
least Start = pos 0
least Batch = pos 0
least End = pos 0
least Level = neg_ℤ (pos 1000000)
least Pivot = pos 0
least Height = neg_ℤ (pos 1000000)
least Rise = neg_ℤ (pos 2000000)
least Over = pos 1
least Grade = pos 0
least Tape = pos 0
least Count = pos 0

abbrev pub most : Kind → ℤ
most Low = pos 1000000
most High = pos 1000000
most Mask = pos 268435455
most Start = pos 268435455
most Batch = pos 268435455
most End = pos 268435455
most Level = pos 1000000
most Pivot = pos 268435455
most Height = pos 1000000
most Rise = pos 2000000
most Over = pos 255
most Grade = pos 27
most Tape = pos 13
most Count = pos 1000000

-- a word of the kind holds the number
abbrev pub in_range : Kind → ℤ → Bool
in_range k n = int_le (least k) n && int_le n (most k)
