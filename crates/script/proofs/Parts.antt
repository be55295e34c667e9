-- A band as an item's text has it, and the two words that it adds to a row.
use Rattle.std.proofs.Common.{◌≡◌, ℕ, List, [], ◌∷◌, ◌++◌, Some, None, Option, Result, sym, ap, ◌∙◌, subst, inr, append_assoc}
use Rattle.std.specs.Option.{ok_or}
use Rattle.script.specs.declared.items.Item.{Item}
use Rattle.script.specs.declared.items.Item.TheVariants.{Band}
use Rattle.script.specs.declared.slip.Slip.{Slip}
use Rattle.script.specs.declared.slip.Slip.TheVariants.{End}
use Rattle.script.specs.Rows.{item_words, band_of, ReadItem}

pub as_band
    : (bs low high : List ℕ) (o : Option Item) (r : Result Item Slip)
    → bs ≡ low ++ (46 ∷ 46 ∷ high) → o ≡ band_of low high → r ≡ ok_or o End → ReadItem bs r
as_band bs low high (Some i) r e b h = subst (ReadItem bs) (sym h) (inr (inr (low, high, e, sym b)))
as_band bs low high None r e b h = subst (ReadItem bs) (sym h) (low, high, e, sym b)

pub two_words
    : (before between after : List ℕ) (low high : ℕ) (item : Item)
    → between ≡ before ++ (low ∷ []) → after ≡ between ++ (high ∷ []) → item ≡ Band low high
    → after ≡ before ++ item_words item
two_words before between after low high item p q e =
    q ∙ (ap (λ xs. xs ++ (high ∷ [])) p
    ∙ (append_assoc before (low ∷ []) (high ∷ []) ∙ sym (ap (λ i. before ++ item_words i) e)))
