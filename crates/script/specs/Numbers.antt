-- The numbers that texts write.
use Rattle.std.specs.Prelude.{ℕ, Bool, cond, ◌&&◌, List, length, Some, None, Option, ◌==◌, nat_le, nat_lt}
use Rattle.std.specs.Str.Parse.{digits_value}
use Rattle.std.specs.Char.{is_ascii_hexdigit}
use Rattle.std.specs.List.{list_all}
use Rattle.std.specs.Str.{all_ascii_digits}

-- every byte is a hexadecimal digit, of either case
abbrev pub all_hex : List ℕ → Bool
all_hex bs = list_all is_ascii_hexdigit bs

-- a number, if it is the text's
abbrev pub if_so : Bool → ℕ → Option ℕ
if_so b n = cond b (Some n) None

-- a text that writes a number of at most `most`: one decimal digit or more, and nothing else
abbrev pub is_number : List ℕ → ℕ → Bool
is_number bs most = all_ascii_digits bs && (nat_lt 0 (length bs) && nat_le (digits_value 10 bs) most)

-- the number of at most `most` that a text writes
unfoldable pub number_of : List ℕ → ℕ → Option ℕ
number_of bs most = if_so (is_number bs most) (digits_value 10 bs)

-- the word that a text writes: exactly eight hexadecimal digits
unfoldable pub word_of : List ℕ → Option ℕ
word_of bs = if_so (length bs == 8 && all_hex bs) (digits_value 16 bs)
