-- What `parse` and `from_str_radix` answer at digits, in the words of `number_of` and `word_of`.
use Rattle.std.proofs.Common.{◌≡◌, ℕ, ◌^◌, ◌<◌, ◌≤◌, Bool, true, false, ◌&&◌, eqb, ltb, leb, List, [], ◌∷◌, length, get_or, Some, None, Option, Ok, Err, Result, sym, refl, ap, ◌∙◌, subst, arith}
use Rattle.std.proofs.lemmas.Bool.Decides.{nat_tests}
use Rattle.std.specs.Str.Parse.{digits_value, AllDigits, ParsesUnsigned}
use Rattle.std.specs.Char.{is_ascii_hexdigit, digit_value}
use Rattle.std.specs.Bool.{then_some}
use Rattle.std.specs.Option.{MatchOption}
use Rattle.std.specs.Result.{result_ok}
use Rattle.std.specs.Str.{all_ascii_digits}
use Rattle.std.proofs.lemmas.Str.Parse.{IsNumeralModel, numerals_by_value, tells_all_ascii_digits, parse_digits, without_leading_plus_none}
use Rattle.std.proofs.lemmas.Int.Digits.{digits_value-lt}
use Rattle.std.proofs.lemmas.Bool.{and_from, and_parts, and_left, lt-ltb, le-leb, leb-true, leb-false, ltb-true, cond-true, cond-false, both_ways, eq-eqb, ne_eqb, and_right}
use Rattle.script.specs.Numbers.{if_so, is_number, number_of, all_hex, word_of}

none_unless : (b : Bool) (n : ℕ) → (b ≡ true → ⊥) → None ≡ if_so b n
none_unless true n h = absurd (h refl)
none_unless false n h = refl

own : IsNumeralModel (λ ds. all_ascii_digits ds ≡ true) (digits_value 10)
own = numerals_by_value (λ ds. all_ascii_digits ds ≡ true) tells_all_ascii_digits

pub none_digits : (bs : List ℕ) (most : ℕ) → all_ascii_digits bs ≡ false → None ≡ number_of bs most
unfolding number_of
none_digits bs most e = sym (cond-false _ _ _ (and_left (all_ascii_digits bs) _ e))

pub some_number
    : (bs : List ℕ) (most n : ℕ) → all_ascii_digits bs ≡ true
    → ParsesUnsigned {E = Unit {0}} 32 10 bs (Ok n) → n ≤ most → Some n ≡ number_of bs most
unfolding number_of
some_number bs most n d h le =
    let q : ((0 < length bs) × (digits_value 10 bs < 2 ^ 32)) × (n ≡ digits_value 10 bs) = parse_digits own {E = Unit {0}} 32 bs (Ok n) h d in
    ap Some q.1
    ∙ sym (cond-true _ _ _ (and_from _ _ d (and_from _ _ (lt-ltb 0 _ q.0.0) (le-leb _ most (omega arith)))))

pub none_large
    : (bs : List ℕ) (most n : ℕ) → all_ascii_digits bs ≡ true
    → ParsesUnsigned {E = Unit {0}} 32 10 bs (Ok n) → most < n → None ≡ number_of bs most
unfolding number_of
none_large bs most n d h gt =
    let q : ((0 < length bs) × (digits_value 10 bs < 2 ^ 32)) × (n ≡ digits_value 10 bs) = parse_digits own {E = Unit {0}} 32 bs (Ok n) h d in
    none_unless (is_number bs most) _ (λ e.
    let p : (ltb 0 (length bs) && leb (digits_value 10 bs) most) ≡ true = (and_parts (all_ascii_digits bs) _ e).1 in
    let le : digits_value 10 bs ≤ most = leb-true _ most (and_parts (ltb 0 (length bs)) _ p).1 in
    omega arith)

pub none_error
    : (bs : List ℕ) (most : ℕ) → all_ascii_digits bs ≡ true
    → ParsesUnsigned {E = Unit {0}} 32 10 bs (Err (tt {0})) → most < 2 ^ 32 → None ≡ number_of bs most
unfolding number_of
none_error bs most d h fits =
    let q : ((0 < length bs) × (digits_value 10 bs < 2 ^ 32)) → ⊥ = parse_digits own {E = Unit {0}} 32 bs (Err (tt {0})) h d in
    none_unless (is_number bs most) _ (λ e.
    let p : (ltb 0 (length bs) && leb (digits_value 10 bs) most) ≡ true = (and_parts (all_ascii_digits bs) _ e).1 in
    let le : digits_value 10 bs ≤ most = leb-true _ most (and_parts (ltb 0 (length bs)) _ p).1 in
    q (ltb-true 0 _ (and_parts (ltb 0 (length bs)) _ p).0, omega arith))

tested
    : (bs : List ℕ) (most n : ℕ) (b : Bool) → all_ascii_digits bs ≡ true
    → ParsesUnsigned {E = Unit {0}} 32 10 bs (Ok n) → b ≡ leb n most → then_some b n ≡ number_of bs most
tested bs most n true d h e = some_number bs most n d h (leb-true n most (sym e))
tested bs most n false d h e = none_large bs most n d h (leb-false n most (sym e))

-- digits write the number that is read from them, where a test lets through what is at most `most`
pub number_by
    : {E : Type 0} (bs : List ℕ) (most : ℕ) (r : Result ℕ E) (read o : Option ℕ) (Test : ℕ → Bool → Type 0)
    → all_ascii_digits bs ≡ true → most < 2 ^ 32 → ParsesUnsigned 32 10 bs r → read ≡ result_ok r
    → ((n : ℕ) (b : Bool) → Test n b → b ≡ leb n most)
    → MatchOption read (o ≡ None) (λ n. (b : Bool) × Test n b × (o ≡ then_some b n)) → o ≡ number_of bs most
number_by bs most (Ok n) read o Test d lt h e k f =
    let g = subst (λ s. MatchOption s (o ≡ None) (λ n. (b : Bool) × Test n b × (o ≡ then_some b n))) e f in
    g.2 ∙ tested bs most n g.0 d h (k n g.0 g.1)
number_by bs most (Err x) read o Test d lt h e k f =
    subst (λ s. MatchOption s (o ≡ None) (λ n. (b : Bool) × Test n b × (o ≡ then_some b n))) e f ∙ none_error bs most d h lt

-- hexadecimal digits

hex_value : (c : ℕ) → is_ascii_hexdigit c ≡ true → digit_value c < 16
hex_value c e = grind (arith, nat_tests)

hex_digits : (bs : List ℕ) → all_hex bs ≡ true → AllDigits 16 bs
hex_digits [] e = tt
hex_digits (c ∷ cs) e = let p = and_parts (is_ascii_hexdigit c) (all_hex cs) e in (hex_value c p.0, hex_digits cs p.1)

no_plus : (bs : List ℕ) → all_hex bs ≡ true → get_or bs 0 0 ≡ 43 → ⊥
no_plus [] e z = omega arith
no_plus (c ∷ cs) e z =
    let P : ℕ → Type 0 = λ n. is_ascii_hexdigit n ≡ true in
    both_ways false refl (subst P z (and_parts (is_ascii_hexdigit c) (all_hex cs) e).0)

pub none_length : (bs : List ℕ) → (length bs ≡ 8 → ⊥) → None ≡ word_of bs
unfolding word_of
none_length bs h = sym (cond-false _ _ _ (and_left (eqb (length bs) 8) _ (ne_eqb _ 8 h)))

pub none_hex : (bs : List ℕ) → all_hex bs ≡ false → None ≡ word_of bs
unfolding word_of
none_hex bs e = sym (cond-false _ _ _ (and_right (eqb (length bs) 8) _ e))

pub some_word
    : (bs : List ℕ) (w : ℕ) → length bs ≡ 8 → all_hex bs ≡ true
    → ParsesUnsigned {E = Unit {0}} 32 16 bs (Ok w) → Some w ≡ word_of bs
unfolding word_of
some_word bs w len e h =
    ap Some (h.1 ∙ ap (digits_value 16) (without_leading_plus_none bs (no_plus bs e)))
    ∙ sym (cond-true _ _ _ (and_from _ _ (eq-eqb _ 8 len) e))

-- eight hexadecimal digits always write a word
pub no_error
    : (bs : List ℕ) → length bs ≡ 8 → all_hex bs ≡ true
    → ParsesUnsigned {E = Unit {0}} 32 16 bs (Err (tt {0})) → ⊥
no_error bs len e h =
    let a = without_leading_plus_none bs (no_plus bs e) in
    let d = hex_digits bs e in
    let v : digits_value 16 bs < 2 ^ 32 =
    let P : ℕ → Type 0 = λ n. digits_value 16 bs < 16 ^ n in subst P len (digits_value-lt 16 bs d) in
    let Q : List ℕ → Type 0 = λ s. ((0 < length s) × AllDigits 16 s) × (digits_value 16 s < 2 ^ 32) in
    h (subst Q (sym a) ((omega arith, d), v))

-- eight hexadecimal digits write the word that is read from them
pub word_by
    : {E : Type 0} (bs : List ℕ) (r : Result ℕ E) → length bs ≡ 8 → all_hex bs ≡ true
    → ParsesUnsigned 32 16 bs r → result_ok r ≡ word_of bs
word_by bs (Ok w) len e h = some_word bs w len e h
word_by bs (Err f) len e h = absurd (no_error bs len e h)
