-- Texts that grow piece by piece.
use Rattle.std.proofs.Common.{◌≡◌, ℕ, ◌+◌, ◌<◌, ◌≤◌, List, [], ◌∷◌, ◌++◌, length, get_or, take}
use Rattle.std.proofs.Common.{Some, refl, sym, ◌∙◌, ap, arith, append_assoc, length-append}
use Rattle.std.proofs.Common.{length-take}
use Rattle.std.specs.Prelude.{slice_get, Result, Ok, Err, OnOk, is_ok, if◌then◌else◌}
use Rattle.std.specs.List.{flat_map}
use Rattle.std.proofs.lemmas.List.{take_more, flat_map_more, take-append-le, take-take, take_all}
use Rattle.std.proofs.lemmas.List.{take_at}
use Rattle.std.proofs.lemmas.Option.{get_or_from_slice_get}
use Rattle.dl_syntax.specs.declared.names.IndId.{IndId}
use Rattle.report_text.specs.Lines.{Text, row_text}

-- the piece of one more element
pub piece_more : {X : Type 0} (f : X → Text) (xs : List X) (i : ℕ) (d : X) (first before : Text)
    → i < length xs → before ≡ first ++ flat_map f (take i xs)
    → before ++ f (get_or xs i d) ≡ first ++ flat_map f (take (i + 1) xs)
piece_more f xs i d first before below is =
    ap (λ l. l ++ f (get_or xs i d)) is ∙ (flat_map_more f first (take i xs) (get_or xs i d) ∙ ap
    (λ l. first ++ flat_map f l) (sym (take_more xs i d below)))

-- the name of one more individual
pub name_more : (names : List Text) (row : List IndId) (i : ℕ) (d : IndId)
    (name first before spaced now : Text) → i < length row
    → slice_get names (get_or row i d).0 ≡ Some name → before ≡ first ++ row_text names (take i row)
    → spaced ≡ before ++ 32 ∷ [] → now ≡ spaced ++ name
    → now ≡ first ++ row_text names (take (i + 1) row)
name_more names row i d name first before spaced now below named so_far space more =
    let text : get_or names (get_or row i d).0 [] ≡ name =
    get_or_from_slice_get names (get_or row i d).0 name [] named in
    more ∙ (ap (λ l. l ++ name) space ∙ (append_assoc before (32 ∷ [])
    name ∙ (ap (λ l. before ++ 32 ∷ l) (sym text) ∙ piece_more (λ j.
    32 ∷ get_or names j.0 []) row i d first before below so_far)))

-- what stood first stays where what stood later does
pub kept_first : (first text middle now : Text) (n m : ℕ) → n ≡ length first → m ≡ length middle
    → middle ≡ first ++ text → take m now ≡ middle → take n now ≡ first
kept_first first text middle now n m is_n is_m so_far kept =
    let shorter : n ≤ m = omega (arith, ap length so_far, length-append first text) in
    let within : n ≤ length first = omega arith in
    sym (take-take n m now shorter)
    ∙ (ap (take n) (kept ∙ so_far) ∙ (take-append-le n first text within ∙ take_all n first
    (omega arith)))

-- a buffer that grew by pieces
pub grown_2 : (old a b first now : Text) → first ≡ old ++ a → now ≡ first ++ b
    → now ≡ old ++ (a ++ b)
grown_2 old a b first now on_first last = last ∙ ap (λ l. l ++ b) on_first ∙ append_assoc old a b

pub grown_3 : (old a b c first second now : Text) → first ≡ old ++ a → second ≡ first ++ b
    → now ≡ second ++ c → now ≡ old ++ (a ++ (b ++ c))
grown_3 old a b c first second now on_first on_second last =
    grown_2 old a (b ++ c) first now on_first (grown_2 first b c second now on_second last)

pub grown_4 : (old a b c d first second third now : Text) → first ≡ old ++ a → second ≡ first ++ b
    → third ≡ second ++ c → now ≡ third ++ d → now ≡ old ++ (a ++ (b ++ (c ++ d)))
grown_4 old a b c d first second third now on_first on_second on_third last =
    grown_2 old a (b ++ (c ++ d)) first now on_first
    (grown_3 first b c d second third now on_second on_third last)

pub grown_5 : (old a b c d e first second third fourth now : Text) → first ≡ old ++ a
    → second ≡ first ++ b → third ≡ second ++ c → fourth ≡ third ++ d → now ≡ fourth ++ e
    → now ≡ old ++ (a ++ (b ++ (c ++ (d ++ e))))
grown_5 old a b c d e first second third fourth now on_first on_second on_third on_fourth last =
    grown_2 old a (b ++ (c ++ (d ++ e))) first now on_first
    (grown_4 first b c d e second third fourth now on_second on_third on_fourth last)

-- what a call appended, where it succeeded
pub on_ok_appended : {E : Type 0} (r : Result (Unit {0}) E) (before piece now : Text)
    → now ≡ (if is_ok r then before ++ piece else before) → OnOk r (now ≡ before ++ piece)
on_ok_appended (Ok x) before piece now is = is
on_ok_appended (Err e) before piece now is = tt

-- what stood first stays through two calls
pub kept_still : (first middle now : Text) (n m : ℕ) → n ≡ length first → m ≡ length middle
    → take n middle ≡ first → take m now ≡ middle → take n now ≡ first
kept_still first middle now n m is_n is_m so_far kept =
    let long : length (take n middle) ≡ n = ap length so_far ∙ sym is_n in
    let shorter : n ≤ m = omega (arith, length-take n middle, long, is_m) in
    sym (take-take n m now shorter) ∙ (ap (take n) kept ∙ so_far)

-- what stood first stays through a call that appends
pub kept_extended : {E : Type 0} (r : Result (Unit {0}) E) (first middle piece now : Text) (n : ℕ)
    → n ≡ length first → take (length first) middle ≡ first
    → now ≡ (if is_ok r then middle ++ piece else middle) → take n now ≡ first
kept_extended (Ok x) first middle piece now n is_n so_far is =
    kept_still first middle now n (length middle) is_n refl (ap (λ m. take m middle) is_n ∙ so_far)
    (ap (take (length middle)) is ∙ take_at middle piece (length middle) refl)
kept_extended (Err e) first middle piece now n is_n so_far is =
    ap (take n) is ∙ (ap (λ m. take m middle) is_n ∙ so_far)
