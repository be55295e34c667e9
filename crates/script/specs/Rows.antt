-- The items of a reading: which texts write them, and the words that they add to the row.
use Rattle.std.specs.Prelude.{◌≡◌, ℕ, ◌+◌, ◌-◌, cond, ◌⊎◌, List, [], ◌∷◌, ◌++◌, drop, Some, None, Option, Result, MatchResult, ◌==◌, ◌≢◌, slice_index}
use Rattle.script.specs.declared.items.Item.{Item}
use Rattle.script.specs.declared.items.Item.TheVariants as items
use Rattle.script.specs.declared.slip.Slip.{Slip}
use Rattle.script.specs.declared.slip.Slip.TheVariants as slips
use Rattle.script.specs.Numbers.{number_of, word_of}

-- the words of an item
abbrev pub item_words : Item → List ℕ
item_words (items.Band low high) = low ∷ high ∷ []
item_words (items.One word) = word ∷ []

abbrev pub raised : ℕ → Option ℕ → Option ℕ
raised by (Some n) = Some (by + n)
raised by None = None

abbrev pub taken_from : ℕ → Option ℕ → Option ℕ
taken_from n (Some m) = Some (n - m)
taken_from n None = None

-- the payload of a band's end, which is the end and 2,000,000: digits, or `-` (45) and digits
unfoldable pub end_of : List ℕ → Option ℕ
end_of bs = cond (slice_index bs 0 == 45) (taken_from 2000000 (number_of (drop 1 bs) 2000000)) (raised 2000000 (number_of bs 266435455))

-- a band by the payloads of its ends: a word of kind 1, LOW, and one of kind 2, HIGH
abbrev pub band_by : Option ℕ → Option ℕ → Option Item
band_by (Some low) (Some high) = Some (items.Band (268435456 + low) (536870912 + high))
band_by (Some low) None = None
band_by None high = None

abbrev pub band_of : List ℕ → List ℕ → Option Item
band_of low high = band_by (end_of low) (end_of high)

abbrev pub one : Option ℕ → Option Item
one (Some word) = Some (items.One word)
one None = None

-- the text after `m`: a word of kind 3, MASK
abbrev pub mask_of : List ℕ → Option Item
mask_of bs = one (raised 805306368 (number_of bs 268435455))

-- the text after `x`
abbrev pub any_of : List ℕ → Option Item
any_of bs = one (word_of bs)

-- a text that is `m` (109) and a mask, `x` (120) and a word, or two ends with `..` (46, 46) between
abbrev pub AsMask : List ℕ → Option Item → Type 0
AsMask bs o = (rest : List ℕ) × (bs ≡ 109 ∷ rest) × (mask_of rest ≡ o)

abbrev pub AsWord : List ℕ → Option Item → Type 0
AsWord bs o = (rest : List ℕ) × (bs ≡ 120 ∷ rest) × (any_of rest ≡ o)

abbrev pub AsBand : List ℕ → Option Item → Type 0
AsBand bs o = (low : List ℕ) × (high : List ℕ) × (bs ≡ low ++ (46 ∷ 46 ∷ high)) × (band_of low high ≡ o)

-- the text writes the item
abbrev pub Writes : List ℕ → Item → Type 0
Writes bs i = AsMask bs (Some i) ⊎ (AsWord bs (Some i) ⊎ AsBand bs (Some i))

-- what is wrong with a text that is no item
abbrev pub Slipped : List ℕ → Slip → Type 0
Slipped bs slips.End = AsBand bs None
Slipped bs slips.Mask = AsMask bs None
Slipped bs slips.Word = AsWord bs None
Slipped bs slips.Item =
    ((rest : List ℕ) → bs ≢ 109 ∷ rest) × ((rest : List ℕ) → bs ≢ 120 ∷ rest)
    × ((low high : List ℕ) → bs ≢ low ++ (46 ∷ 46 ∷ high))

abbrev pub ReadItem : List ℕ → Result Item Slip → Type 0
ReadItem bs r = MatchResult r (Writes bs) (Slipped bs)
