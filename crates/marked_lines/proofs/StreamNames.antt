-- The names of streams: each stands once, and they are the first that lines are marked with.
use Rattle.std.proofs.Common.{◌≡◌, ◌≢◌, ℕ, suc, ◌+◌, ◌==◌, Bool, true, false, cond, List, [], ◌∷◌}
use Rattle.std.proofs.Common.{◌++◌, length, refl, sym, ◌∙◌, ap, subst, inl, inr, take, drop, arith}
use Rattle.std.specs.Prelude.{◌⊎◌, ◌||◌, ◌&&◌, not, nat_le, nat_lt, Option, None, Some, MatchBool}
use Rattle.std.specs.Prelude.{codes}
use Rattle.std.specs.List.{Contains, prefix_len}
use Rattle.std.specs.Str.{bytes_eq}
use Rattle.std.proofs.lemmas.List.{map-append}
use Rattle.std.proofs.lemmas.Slice.Eq.{bytes_eq-Decides}
use Rattle.list_lemmas.proofs.Elements.{Contains-cons_cases, Contains-none}
use Rattle.list_lemmas.proofs.Positions.{bytes_eq-other}
use Rattle.dl_syntax.specs.Names.{is_letter, is_name_byte}
use Rattle.edge_io.specs.Lines.{Item as StreamLine, text, too_long}
use Rattle.stream_report.specs.Told.{Step}
use Rattle.text_scan.specs.Lexing.{lexed_from}
use Rattle.marked_lines.specs.Marks.{Marked, Belonging, to_stream, skipped, to_none, is_long}
use Rattle.marked_lines.specs.Marks.{belongs, text_belongs, unmarked_is, mark_of, named, name_len}
use Rattle.marked_lines.specs.Marks.{ends_mark, says_nothing}
use Rattle.marked_lines.specs.Texts.{Text}
use Rattle.marked_lines.specs.Mixing.{Stream, Mixed, names_in, has_name, begun, with_stream}
use Rattle.marked_lines.specs.Mixing.{is_one_too_many, FirstGoesOn, GoesOn, Refuses}
use Rattle.marked_lines.specs.Mixing.{Tells}
use Rattle.marked_lines.specs.Laws.{with_name_of, names_after}
use Rattle.marked_lines.proofs.MarkedTexts.{IsPlain}

pub same_name : (one other : Text) → bytes_eq one other ≡ true → one ≡ other
same_name one other is = (bytes_eq-Decides one other).0 is

pub other_name : (one other : Text) → bytes_eq one other ≡ false → one ≢ other
other_name one other is same =
    let never : bytes_eq one other ≡ true = (bytes_eq-Decides one other).1 same in absurd cc

pub turned : (one other : Text) → bytes_eq one other ≡ false → bytes_eq other one ≡ false
turned one other is = bytes_eq-other other one (λ same. other_name one other is (sym same))

-- ---- names are spelled without blanks

not_byte : (b n : ℕ) → b ≢ n → (b == n) ≡ false
not_byte b n other = grind arith

letter_plain : (b : ℕ) → is_letter b ≡ true → ((b == 32) ≡ false) × ((b == 10) ≡ false)
letter_plain b is = (
  not_byte b 32 (λ same. let never : is_letter 32 ≡ true =
      subst (λ n. is_letter n ≡ true) same is in
      absurd cc),
  not_byte b 10 (λ same. let never : is_letter 10 ≡ true =
      subst (λ n. is_letter n ≡ true) same is in
      absurd cc),
)

byte_plain : (b : ℕ) → is_name_byte b ≡ true → ((b == 32) ≡ false) × ((b == 10) ≡ false)
byte_plain b is = (
  not_byte b 32 (λ same. let never : is_name_byte 32 ≡ true =
      subst (λ n. is_name_byte n ≡ true) same is in absurd cc),
  not_byte b 10 (λ same. let never : is_name_byte 10 ≡ true =
      subst (λ n. is_name_byte n ≡ true) same is in absurd cc),
)

take_first : (n b : ℕ) (line : Text) → take (1 + n) (b ∷ line) ≡ b ∷ take n line
take_first n b line = let same : 1 + n ≡ suc n = omega arith in
    ap (λ (m : ℕ). take m (b ∷ line)) same

front_plain : (line : Text) → IsPlain (take (prefix_len is_name_byte line) line)
front_plain [] = tt
front_plain (b ∷ line) =
    elim (is_name_byte b) as (λ t. is_name_byte b ≡ t
    → IsPlain (take (cond t (1 + prefix_len is_name_byte line) 0) (b ∷ line))) [
      | true ↦ λ is. let byte = byte_plain b is in
          subst IsPlain (sym (take_first (prefix_len is_name_byte line) b line))
          (byte.0, byte.1, front_plain line)
      | false ↦ λ is. tt
    ] refl

name_plain : (line : Text) → IsPlain (take (name_len line) line)
name_plain [] = tt
name_plain (b ∷ line) =
    elim (is_letter b) as (λ t. is_letter b ≡ t
    → IsPlain (take (cond t (1 + prefix_len is_name_byte line) 0) (b ∷ line))) [
      | true ↦ λ is. let byte = letter_plain b is in
          subst IsPlain (sym (take_first (prefix_len is_name_byte line) b line))
          (byte.0, byte.1, front_plain line)
      | false ↦ λ is. tt
    ] refl

-- the name of a mark is
abbrev pub IsPlainMark : Option Marked → Type 0
IsPlainMark None = Unit {0}
IsPlainMark (Some marked) = IsPlain marked.name

named_plain : (line : Text) → IsPlainMark (named (name_len line) line)
named_plain line =
    elim (nat_lt 0 (name_len line) && (nat_le (name_len line) 64
    && ends_mark (drop (name_len line) line))) as (λ t. IsPlainMark (cond t (Some (record {
      name = take (name_len line) line;
      rest = drop (name_len line) line;
    })) None)) [ true ↦ name_plain line | false ↦ tt ]

mark_plain : (line : Text) → IsPlainMark (mark_of line)
mark_plain [] = tt
mark_plain (b ∷ line) =
    elim (b == 64) as (λ t. IsPlainMark (cond t (named (name_len line) line) None))
    [ true ↦ named_plain line | false ↦ tt ]

abbrev pub IsPlainTo : Belonging → Type 0
IsPlainTo (to_stream line) = IsPlain line.name
IsPlainTo skipped = Unit {0}
IsPlainTo to_none = Unit {0}
IsPlainTo is_long = Unit {0}

unmarked_plain : (nothing : Bool) → IsPlainTo (unmarked_is nothing)
unmarked_plain true = tt
unmarked_plain false = tt

text_plain : (mark : Option Marked) (nothing : Bool) → IsPlainMark mark
    → IsPlainTo (text_belongs mark nothing)
text_plain None nothing plain = unmarked_plain nothing
text_plain (Some marked) nothing plain = plain

pub belongs_plain : (line : StreamLine) → IsPlainTo (belongs line)
belongs_plain too_long = tt
belongs_plain (text line) =
    text_plain (mark_of line) (says_nothing (lexed_from line 0)) (mark_plain line)

-- ---- the names stand once, without blanks

abbrev pub ArePlain : List Text → Type 0
ArePlain [] = Unit {0}
ArePlain (name ∷ names) = IsPlain name × ArePlain names

abbrev pub AreOnce : List Text → Type 0
AreOnce [] = Unit {0}
AreOnce (name ∷ names) = (has_name name names ≡ false) × AreOnce names

neither : (a b : Bool) → (a || b) ≡ false → (a ≡ false) × (b ≡ false)
neither true b is = absurd cc
neither false b is = (refl, is)

plain_more : (names : List Text) (name : Text) → ArePlain names → IsPlain name
    → ArePlain (names ++ name ∷ [])
plain_more [] name are plain = (plain, tt)
plain_more (first ∷ names) name are plain = (are.0, plain_more names name are.1 plain)

lacks_more : (first name : Text) (names : List Text) → has_name first names ≡ false
    → bytes_eq first name ≡ false → has_name first (names ++ name ∷ []) ≡ false
lacks_more first name [] none other = rw other refl
lacks_more first name (second ∷ names) none other =
    let both = neither (bytes_eq first second) (has_name first names) none in
    rw both.0 (lacks_more first name names both.1 other)

once_more : (names : List Text) (name : Text) → AreOnce names → has_name name names ≡ false
    → AreOnce (names ++ name ∷ [])
once_more [] name are none = (refl, tt)
once_more (first ∷ names) name are none =
    let both = neither (bytes_eq name first) (has_name name names) none in (
      lacks_more first name names are.0 (turned name first both.0),
      once_more names name are.1 both.1,
    )

-- with the name of one more line
pub plain_with : (names : List Text) (b : Belonging) → ArePlain names → IsPlainTo b
    → ArePlain (with_name_of names b)
plain_with names (to_stream line) are plain =
    elim (has_name line.name names) as (λ h.
    ArePlain (cond h names (cond (is_one_too_many line.name names) names
    (names ++ line.name ∷ [])))) [
      | true ↦ are
      | false ↦ elim (is_one_too_many line.name names) as (λ t.
          ArePlain (cond t names (names ++ line.name ∷ [])))
          [ true ↦ are | false ↦ plain_more names line.name are plain ]
    ]
plain_with names skipped are plain = are
plain_with names to_none are plain = are
plain_with names is_long are plain = are

once_with : (names : List Text) (b : Belonging) → AreOnce names → AreOnce (with_name_of names b)
once_with names (to_stream line) are =
    elim (has_name line.name names) as (λ h. has_name line.name names ≡ h →
    AreOnce (cond h names (cond (is_one_too_many line.name names) names
    (names ++ line.name ∷ [])))) [
      | true ↦ λ is. are
      | false ↦ λ is. elim (is_one_too_many line.name names) as (λ t.
          AreOnce (cond t names (names ++ line.name ∷ [])))
          [ true ↦ are | false ↦ once_more names line.name are is ]
    ] refl
once_with names skipped are = are
once_with names to_none are = are
once_with names is_long are = are

pub plain_after : (lines : List StreamLine) (names : List Text) → ArePlain names
    → ArePlain (names_after names lines)
plain_after [] names are = are
plain_after (line ∷ lines) names are =
    plain_after lines (with_name_of names (belongs line))
    (plain_with names (belongs line) are (belongs_plain line))

pub once_after : (lines : List StreamLine) (names : List Text) → AreOnce names
    → AreOnce (names_after names lines)
once_after [] names are = are
once_after (line ∷ lines) names are =
    once_after lines (with_name_of names (belongs line)) (once_with names (belongs line) are)

pub has_from_contains : (name : Text) (names : List Text) → Contains names name
    → has_name name names ≡ true
has_from_contains name [] there = absurd (Contains-none name there)
has_from_contains name (first ∷ names) there =
    go (Contains-cons_cases first names name there) (has_from_contains name names)
  where
    go : (first ≡ name) ⊎ Contains names name → (Contains names name → has_name name names ≡ true)
        → (bytes_eq name first || has_name name names) ≡ true
    go (inl same) later =
        let is : bytes_eq name first ≡ true = (bytes_eq-Decides name first).1 (sym same) in
        rw is refl
    go (inr more) later =
        elim (bytes_eq name first) as (λ t. (t || has_name name names) ≡ true)
        [ true ↦ refl | false ↦ later more ]

pub plain_among : (name : Text) (names : List Text) → ArePlain names → has_name name names ≡ true
    → IsPlain name
plain_among name [] are is = absurd cc
plain_among name (first ∷ names) are is =
    elim (bytes_eq name first) as (λ t. bytes_eq name first ≡ t
    → (t || has_name name names) ≡ true → IsPlain name) [
      | true ↦ λ same there. subst IsPlain (sym (same_name name first same)) are.0
      | false ↦ λ other there. plain_among name names are.1 there
    ] refl is

-- ---- where there are as many as may be, they stay

pub full_with : (names : List Text) (b : Belonging) → nat_le 64 (length names) ≡ true
    → with_name_of names b ≡ names
full_with names (to_stream line) full =
    elim (has_name line.name names) as (λ h.
    cond h names (cond (not h && nat_le 64 (length names)) names (names ++ line.name ∷ []))
    ≡ names) [
      | true ↦ refl
      | false ↦ ap (λ t. cond t names (names ++ line.name ∷ [])) full
    ]
full_with names skipped full = refl
full_with names to_none full = refl
full_with names is_long full = refl

pub full_after : (lines : List StreamLine) (names : List Text)
    → nat_le 64 (length names) ≡ true → names_after names lines ≡ names
full_after [] names full = refl
full_after (line ∷ lines) names full =
    let same = full_with names (belongs line) full in
    ap (λ (n : List Text). names_after n lines) same ∙ full_after lines names full

-- ---- the names of the streams after a line

module _ {State : Type 0} (step : Step State) (first : State) where
  goes_names : (name line : Text) (streams : List (Stream State)) (told : Text)
      (after : List (Stream State)) → GoesOn step name line streams told after
      → names_in after ≡ names_in streams
  goes_names name line [] told after p = absurd p
  goes_names name line (stream ∷ streams) told after p =
      elim (bytes_eq name stream.name) as (λ t.
      MatchBool t (FirstGoesOn step line stream streams told after)
      ((later : List (Stream State)) × GoesOn step name line streams told later
      × (after ≡ stream ∷ later)) → names_in after ≡ names_in (stream ∷ streams)) [
        | true ↦ λ f. ap names_in f.4
        | false ↦ λ q. ap names_in q.2
            ∙ ap (λ (l : List Text). stream.name ∷ l)
            (goes_names name line streams told q.0 q.1)
      ] p

  with_names : (name : Text) (streams : List (Stream State))
      → is_one_too_many name (names_in streams) ≡ false
      → names_in (with_stream first name streams)
      ≡ cond (has_name name (names_in streams)) (names_in streams)
      (cond (is_one_too_many name (names_in streams)) (names_in streams)
      (names_in streams ++ name ∷ []))
  with_names name streams few =
      elim (has_name name (names_in streams)) as (λ h.
      names_in (cond h streams (streams ++ begun first name ∷ [])) ≡ cond h (names_in streams)
      (cond (is_one_too_many name (names_in streams)) (names_in streams)
      (names_in streams ++ name ∷ []))) [
        | true ↦ refl
        | false ↦ map-append (λ (s : Stream State). s.name) streams (begun first name ∷ [])
            ∙ ap (λ t. cond t (names_in streams) (names_in streams ++ name ∷ [])) (sym few)
      ]

  refused_names : (before : Mixed State) (name : Text)
      → is_one_too_many name (names_in before.streams) ≡ true
      → names_in before.streams ≡ cond (has_name name (names_in before.streams))
      (names_in before.streams) (cond (is_one_too_many name (names_in before.streams))
      (names_in before.streams) (names_in before.streams ++ name ∷ []))
  refused_names before name many =
      let names = names_in before.streams in
      elim (has_name name names) as (λ h. names ≡ cond h names
      (cond (is_one_too_many name names) names (names ++ name ∷ []))) [
        | true ↦ refl
        | false ↦ ap (λ t. cond t names (names ++ name ∷ [])) (sym many)
      ]

  pub tells_names : (before : Mixed State) (number : ℕ) (b : Belonging) (told : Text)
      (after : Mixed State) → Tells step first before number b told after
      → names_in after.streams ≡ with_name_of (names_in before.streams) b
  tells_names before number (to_stream line) told after p =
      let names = names_in before.streams in
      elim (is_one_too_many line.name names) as (λ t. is_one_too_many line.name names ≡ t
      → MatchBool t (Refuses before number (codes "too-many-streams " ++ line.name) told after)
      (GoesOn step line.name line.rest (with_stream first line.name before.streams) told
      after.streams × (after.unowned ≡ before.unowned))
      → names_in after.streams ≡ with_name_of names (to_stream line)) [
        | true ↦ λ many r. ap (λ (m : Mixed State). names_in m.streams) r.1
            ∙ refused_names before line.name many
        | false ↦ λ few g. goes_names line.name line.rest
            (with_stream first line.name before.streams) told after.streams g.0
            ∙ with_names line.name before.streams few
      ] refl p
  tells_names before number skipped told after p =
      ap (λ (m : Mixed State). names_in m.streams) p.1
  tells_names before number to_none told after p =
      ap (λ (m : Mixed State). names_in m.streams) p.1
  tells_names before number is_long told after p =
      ap (λ (m : Mixed State). names_in m.streams) p.1
