-- The ends of a band, with a `-` and without.
use Rattle.std.proofs.Common.{◌≡◌, ℕ, List, [], ◌∷◌, get_or, sym, refl, ap, subst, arith}
use Rattle.std.proofs.lemmas.Bool.{cond-false, ne_eqb}
use Rattle.script.specs.Numbers.{number_of}
use Rattle.script.specs.Rows.{raised, taken_from, end_of}

pub end_minus : (bs rest : List ℕ) → bs ≡ 45 ∷ rest → taken_from 2000000 (number_of rest 2000000) ≡ end_of bs
unfolding end_of
end_minus bs rest e =
    let P : List ℕ → Type 0 = λ s. taken_from 2000000 (number_of rest 2000000) ≡ end_of s in subst P (sym e) refl

first_is_not : (bs : List ℕ) → ((rest : List ℕ) → bs ≡ 45 ∷ rest → ⊥) → get_or bs 0 0 ≡ 45 → ⊥
first_is_not [] h e = omega arith
first_is_not (c ∷ cs) h e = h cs (ap (λ n. n ∷ cs) e)

pub end_plain
    : (bs : List ℕ) → ((rest : List ℕ) → bs ≡ 45 ∷ rest → ⊥)
    → raised 2000000 (number_of bs 266435455) ≡ end_of bs
unfolding end_of
end_plain bs h = sym (cond-false _ _ _ (ne_eqb (get_or bs 0 0) 45 (first_is_not bs h)))
