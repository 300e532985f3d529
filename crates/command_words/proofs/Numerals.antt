-- Decimal words and the numbers that they say.
use Rattle.std.proofs.Common.{◌≡◌, ◌∙◌, ◌&&◌, ◌||◌, ◌<◌, ◌≤◌, ◌^◌, ℕ, zero, suc, ◌==◌, Bool, true}
use Rattle.std.proofs.Common.{false, not, [], ◌∷◌, Some, None, Ok, Err, Result, length, get_or}
use Rattle.std.proofs.Common.{refl, ap, sym, subst, arith, decimal}
use Rattle.std.specs.Prelude.{nat_le}
use Rattle.std.specs.List.{list_all}
use Rattle.std.specs.Str.{all_ascii_digits}
use Rattle.std.specs.Char.{is_ascii_digit}
use Rattle.std.specs.Str.Parse.{ParsesUnsigned, digits_value}
use Rattle.std.specs.Result.{OkIff}
use Rattle.std.proofs.lemmas.Bool.Decides.{nat_tests}
use Rattle.std.proofs.lemmas.Fmt.{decimal_digit, decimal_nonempty, digits_decimal}
use Rattle.std.proofs.lemmas.Fmt.{digits_value-decimal, first_decimal}
use Rattle.std.proofs.lemmas.Str.Parse.{IsNumeralModel, numerals_by_value, parse_digits}
use Rattle.std.proofs.lemmas.Str.Parse.{tells_all_ascii_digits}
use Rattle.clap.specs.Walk.{Text, is_empty}
use Rattle.command_words.specs.Meanings.{is_file}
use Rattle.command_words.specs.Numbers.{is_number, number_of}

all_digits : (word : Text) → list_all is_ascii_digit word ≡ all_ascii_digits word
all_digits [] = refl
all_digits (d ∷ ds) = ap (λ b. is_ascii_digit d && b) (all_digits ds)

numerals : IsNumeralModel (λ word. all_ascii_digits word ≡ true) (digits_value 10)
numerals = numerals_by_value (λ word. all_ascii_digits word ≡ true) tells_all_ascii_digits

and_parts : (a b : Bool) → (a && b) ≡ true → (a ≡ true) × (b ≡ true)
and_parts true b both = (refl, both)
and_parts false b both = absurd (cc)

digits_are : (word : Text) → is_number word ≡ true
    → (all_ascii_digits word ≡ true) × (0 < length word)
digits_are [] is = absurd (cc)
digits_are (d ∷ ds) is = (sym (all_digits (d ∷ ds)) ∙ (and_parts _ _ is).0, omega arith)

-- no number is said by a word of another form
pub no_number : (limit : ℕ) (word : Text) → is_number word ≡ false → number_of limit word ≡ None
unfolding number_of
no_number limit word not = rw not

-- what std's parser makes of such digits
parsed : {E : Type 0} (word : Text) (r : Result ℕ E) → is_number word ≡ true
    → ParsesUnsigned 32 10 word r → OkIff r ((0 < length word)
    × (digits_value 10 word < 2 ^ 32)) (digits_value 10 word)
parsed word r is read = parse_digits numerals 32 word r read (digits_are word is).0

value_read : {E : Type 0} (word : Text) (r : Result ℕ E) (n : ℕ) → is_number word ≡ true
    → ParsesUnsigned 32 10 word r → r ≡ Ok n → n ≡ digits_value 10 word
value_read {E} word r n is read same =
    (subst (λ (x : Result ℕ E). OkIff x ((0 < length word)
    × (digits_value 10 word < 2 ^ 32)) (digits_value 10 word)) same (parsed word r is read)).1

-- the number that was read
pub number_read : {E : Type 0} (limit : ℕ) (word : Text) (r : Result ℕ E) (n : ℕ)
    → is_number word ≡ true → ParsesUnsigned 32 10 word r → r ≡ Ok n → n ≤ limit
    → number_of limit word ≡ Some n
unfolding number_of
number_read limit word r n is read same below =
    let value = value_read word r n is read same in
    let within : nat_le (digits_value 10 word) limit ≡ true = grind (arith, nat_tests) in
    rw (is, within) (ap Some (sym value))

-- a number above the limit
pub number_above : {E : Type 0} (limit : ℕ) (word : Text) (r : Result ℕ E) (n : ℕ)
    → is_number word ≡ true → ParsesUnsigned 32 10 word r → r ≡ Ok n → limit < n
    → number_of limit word ≡ None
unfolding number_of
number_above limit word r n is read same above =
    let value = value_read word r n is read same in
    let beyond : nat_le (digits_value 10 word) limit ≡ false = grind (arith, nat_tests) in
    rw (is, beyond)

-- a number above every limit
pub number_unread : {E : Type 0} (limit : ℕ) (word : Text) (r : Result ℕ E) (e : E) → limit < 2 ^ 32
    → is_number word ≡ true → ParsesUnsigned 32 10 word r → r ≡ Err e → number_of limit word ≡ None
unfolding number_of
number_unread {E} limit word r e fits is read same =
    let no : ((0 < length word) × (digits_value 10 word < 2 ^ 32)) → ⊥ =
    subst (λ (x : Result ℕ E). OkIff x ((0 < length word)
    × (digits_value 10 word < 2 ^ 32)) (digits_value 10 word)) same (parsed word r is read) in
    let large : (digits_value 10 word < 2 ^ 32) → ⊥ = λ small. no ((digits_are word is).1, small) in
    let beyond : nat_le (digits_value 10 word) limit ≡ false = grind (arith, nat_tests) in
    rw (is, beyond)

-- ---- a number's own digits

both_true : (a b : Bool) → a ≡ true → b ≡ true → (a && b) ≡ true
both_true a b first second = rw (first, second)

lead_zero : (word : Text) → all_ascii_digits word ≡ true → 0 < length word
    → (get_or word 0 0 ≡ 48 → length word ≡ 1) → is_number word ≡ true
lead_zero [] digits some lead = absurd (omega arith)
lead_zero (d ∷ []) digits some lead = both_true _ _ (all_digits (d ∷ []) ∙ digits) refl
lead_zero (d ∷ e ∷ ds) digits some lead =
    let other : (d ≡ 48) → ⊥ = λ is. omega (arith, lead is) in
    let no : (d == 48) ≡ false = grind (arith, nat_tests) in
    let more : is_empty (e ∷ ds) ≡ false = grind (arith, nat_tests) in
    let free : (is_empty (e ∷ ds) || not (d == 48)) ≡ true = rw (more, no) in
    both_true _ _ (all_digits (d ∷ e ∷ ds) ∙ digits) free

decimal_lead : (n : ℕ) → n < 2 ^ 64 → get_or (decimal n) 0 0 ≡ 48 → length (decimal n) ≡ 1
decimal_lead zero small lead = ap length (decimal_digit 0 (omega arith))
decimal_lead (suc n) small lead = absurd (omega (arith, first_decimal (suc n) (omega arith) small))

pub decimal_is_number : (n : ℕ) → n < 2 ^ 64 → is_number (decimal n) ≡ true
decimal_is_number n small = lead_zero (decimal n) (digits_decimal numerals n small)
    (decimal_nonempty n small) (decimal_lead n small)

-- the digits of a number within the limit say that number
pub decimal_says : (limit n : ℕ) → n ≤ limit → n < 2 ^ 64 → number_of limit (decimal n) ≡ Some n
unfolding number_of
decimal_says limit n below small =
    let value : digits_value 10 (decimal n) ≡ n = digits_value-decimal numerals n small in
    let within : nat_le n limit ≡ true = grind (arith, nat_tests) in
    rw (decimal_is_number n small, value, within)

number_is_file : (word : Text) → is_number word ≡ true → is_file word ≡ true
number_is_file [] is = absurd (cc)
number_is_file (d ∷ ds) is =
    let digit : is_ascii_digit d ≡ true = (and_parts _ _ (and_parts _ _ is).0).0 in
    grind (arith, nat_tests)

pub decimal_is_file : (n : ℕ) → n < 2 ^ 64 → is_file (decimal n) ≡ true
decimal_is_file n small = number_is_file (decimal n) (decimal_is_number n small)
