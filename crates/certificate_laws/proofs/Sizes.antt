-- A line is no shorter than what its tokens need.
use Rattle.std.proofs.Common.{◌≡◌, ℕ, zero, suc, ◌+◌, ◌-◌, ◌≤◌, ◌==◌, Bool, true, false, leb}
use Rattle.std.proofs.Common.{cond, List}
use Rattle.std.proofs.Common.{[], ◌∷◌, length, drop, refl, arith}
use Rattle.std.specs.List.{prefix_len}
use Rattle.std.proofs.lemmas.List.{length-take}
use Rattle.std.proofs.lemmas.List.Sums.{prefix_len-le-length}
use Rattle.dl_syntax.specs.Names.{is_letter, is_name_byte}
use Rattle.text_scan.specs.Bytes.{is_blank, is_comment_byte}
use Rattle.text_scan.specs.declared.TokenKind.{TokenKind}
use Rattle.text_scan.specs.declared.TokenKind.TheVariants.{Name, Var}
use Rattle.text_scan.specs.Lexing.{lexed}
use Rattle.snapshot_reader.specs.Written.{Symbol, token, at_fault, symbols}
use Rattle.verify_report.proofs.Lexemes.{EndsName}

-- what a token needs by itself
abbrev pub weight : TokenKind → List ℕ → ℕ
weight Name text = length text
weight Var text = length text
weight _ text = 1

-- a name before a name needs something between them
abbrev pub gap : TokenKind → List Symbol → ℕ
gap Name (token Name text ∷ xs) = 1
gap _ _ = 0

-- what they need
abbrev pub size : List Symbol → ℕ
size [] = 0
size (at_fault ∷ xs) = size xs
size (token kind text ∷ xs) = weight kind text + (gap kind xs + size xs)

small_gap : (kind : TokenKind) (xs : List Symbol) → gap kind xs ≤ 1
small_gap Name (token Name text ∷ xs) = omega arith
small_gap kind xs = omega arith

-- the bytes behind a name that is taken as long as it goes
ends_run : (rest : List ℕ) → EndsName (drop (prefix_len is_name_byte rest) rest)
ends_run [] = tt
ends_run (b ∷ rest) = by (is_name_byte b) refl (ends_run rest)
  where
    by : (more : Bool) → is_name_byte b ≡ more
        → EndsName (drop (prefix_len is_name_byte rest) rest)
        → EndsName (drop (cond more (1 + prefix_len is_name_byte rest) 0) (b ∷ rest))
    by true is ends =
        let e : 1 + prefix_len is_name_byte rest ≡ suc (prefix_len is_name_byte rest) = omega arith
        in rw e ends
    by false is ends = is

-- what the tokens need of a text whose first bytes still belong to the piece before
abbrev need : ℕ → ℕ → List ℕ → ℕ
need inside place text = size (symbols (lexed inside place text))

abbrev first_gap : ℕ → ℕ → List ℕ → ℕ
first_gap inside place text = gap Name (symbols (lexed inside place text))

-- it is there, and where no name goes on, a byte more for a name that comes first
abbrev Fits : List ℕ → Type 0
Fits text = (inside place : ℕ) → need inside place text ≤ length text - inside

abbrev FitsApart : List ℕ → Type 0
FitsApart text = (inside place : ℕ) → EndsName (drop inside text)
    → first_gap inside place text + need inside place text ≤ length text - inside

-- both of a text that begins with the byte
abbrev FitBoth : ℕ → List ℕ → ℕ → Type 0
FitBoth b rest place = (need 0 place (b ∷ rest) ≤ suc (length rest))
    × (is_name_byte b ≡ false
    → first_gap 0 place (b ∷ rest) + need 0 place (b ∷ rest) ≤ suc (length rest))

variable_first : (b c : ℕ) (more : List ℕ) (place : ℕ) → Fits (c ∷ more)
    → is_letter b ≡ false → is_blank b ≡ false → (b == 35) ≡ false → (b == 63) ≡ true
    → (starts : Bool) → is_letter c ≡ starts
    → (few : Bool) → leb (1 + prefix_len is_name_byte more) 64 ≡ few → FitBoth b (c ∷ more) place
unfolding lexed
variable_first b c more place fits letter blank hash is true starts true few =
    let n = prefix_len is_name_byte more in
    let within : n ≤ length more = prefix_len-le-length is_name_byte more in
    rw (letter, blank, hash, is, starts, few) (
      omega (arith, fits (2 + n - 1) (suc place), within, length-take (2 + n) (b ∷ c ∷ more)),
      λ other. omega (
        arith,
        fits (2 + n - 1) (suc place),
        within,
        length-take (2 + n) (b ∷ c ∷ more),
      ),
    )
variable_first b c more place fits letter blank hash is true starts false few =
    rw (letter, blank, hash, is, starts, few) (omega arith, λ other. omega arith)
variable_first b c more place fits letter blank hash is false starts few long =
    rw (letter, blank, hash, is, starts) (omega arith, λ other. omega arith)

question_first : (b : ℕ) (rest : List ℕ) (place : ℕ) → Fits rest → is_letter b ≡ false
    → is_blank b ≡ false → (b == 35) ≡ false → (b == 63) ≡ true → FitBoth b rest place
unfolding lexed
question_first b [] place fits letter blank hash is =
    rw (letter, blank, hash, is) (omega arith, λ other. omega arith)
question_first b (c ∷ more) place fits letter blank hash is =
    variable_first b c more place fits letter blank hash is (is_letter c) refl
    (leb (1 + prefix_len is_name_byte more) 64) refl

module _ (b : ℕ) (rest : List ℕ) (place : ℕ) (fits : Fits rest) (apart : FitsApart rest) where
  abbrev run : ℕ
  run = prefix_len is_name_byte rest

  name_first : is_letter b ≡ true → (few : Bool) → leb (1 + run) 64 ≡ few → FitBoth b rest place
  unfolding lexed
  name_first letter true is =
      let back : 1 + run - 1 ≡ run = omega arith in
      let more : first_gap (1 + run - 1) (suc place) rest + need (1 + run - 1) (suc place) rest
      ≤ length rest - (1 + run - 1) =
      apart (1 + run - 1) (suc place) (rw back (ends_run rest)) in
      let within : run ≤ length rest = prefix_len-le-length is_name_byte rest in
      let whole : need 0 place (b ∷ rest) ≤ suc (length rest) =
      rw (letter, is) (omega (arith, more, within, length-take (1 + run) (b ∷ rest))) in (
        whole,
        λ other. (let no : true ≡ false = rw letter at other in absurd (cc)),
      )
  name_first letter false is = (
    rw (letter, is) (omega arith),
    λ other. (let no : true ≡ false = rw letter at other in absurd (cc)),
  )

  blank_first : is_letter b ≡ false → is_blank b ≡ true → FitBoth b rest place
  unfolding lexed
  blank_first letter is = rw (letter, is) (
    omega (arith, fits 0 (suc place)),
    λ other. omega (arith, fits 0 (suc place), small_gap Name (symbols (lexed 0 (suc place) rest))),
  )

  comment_first : is_letter b ≡ false → is_blank b ≡ false → (b == 35) ≡ true → FitBoth b rest place
  unfolding lexed
  comment_first letter blank is =
      let inside = 1 + prefix_len is_comment_byte rest - 1 in
      rw (letter, blank, is) (
        omega (arith, fits inside (suc place)),
        λ other. omega (
          arith,
          fits inside (suc place),
          small_gap Name (symbols (lexed inside (suc place) rest)),
        ),
      )

  mark_first : is_letter b ≡ false → is_blank b ≡ false → (b == 35) ≡ false → (b == 63) ≡ false
      → (a0 : Bool) → (b == 40) ≡ a0 → (a1 : Bool) → (b == 41) ≡ a1
      → (a2 : Bool) → (b == 91) ≡ a2 → (a3 : Bool) → (b == 93) ≡ a3
      → (a4 : Bool) → (b == 44) ≡ a4 → (a5 : Bool) → (b == 59) ≡ a5
      → (a6 : Bool) → (b == 61) ≡ a6 → (a7 : Bool) → (b == 124) ≡ a7
      → (a8 : Bool) → (b == 38) ≡ a8 → FitBoth b rest place
  unfolding lexed
  mark_first letter blank hash question true e0 a1 e1 a2 e2 a3 e3 a4 e4 a5 e5 a6 e6 a7 e7 a8 e8 =
      rw (letter, blank, hash, question, e0) (
        omega (arith, fits 0 (suc place)),
        λ other. omega (arith, fits 0 (suc place)),
      )
  mark_first letter blank hash question false e0 true e1 a2 e2 a3 e3 a4 e4 a5 e5 a6 e6 a7 e7 a8 e8 =
      rw (letter, blank, hash, question, e0, e1) (
        omega (arith, fits 0 (suc place)),
        λ other. omega (arith, fits 0 (suc place)),
      )
  mark_first letter blank hash question false e0 false e1 true e2 a3 e3 a4 e4 a5 e5 a6 e6 a7 e7 a8
      e8 =
      rw (letter, blank, hash, question, e0, e1, e2) (
        omega (arith, fits 0 (suc place)),
        λ other. omega (arith, fits 0 (suc place)),
      )
  mark_first letter blank hash question false e0 false e1 false e2 true e3 a4 e4 a5 e5 a6 e6 a7 e7
      a8 e8 =
      rw (letter, blank, hash, question, e0, e1, e2, e3) (
        omega (arith, fits 0 (suc place)),
        λ other. omega (arith, fits 0 (suc place)),
      )
  mark_first letter blank hash question false e0 false e1 false e2 false e3 true e4 a5 e5 a6 e6 a7
      e7 a8 e8 =
      rw (letter, blank, hash, question, e0, e1, e2, e3, e4) (
        omega (arith, fits 0 (suc place)),
        λ other. omega (arith, fits 0 (suc place)),
      )
  mark_first letter blank hash question false e0 false e1 false e2 false e3 false e4 true e5 a6 e6
      a7 e7 a8 e8 =
      rw (letter, blank, hash, question, e0, e1, e2, e3, e4, e5) (
        omega (arith, fits 0 (suc place)),
        λ other. omega (arith, fits 0 (suc place)),
      )
  mark_first letter blank hash question false e0 false e1 false e2 false e3 false e4 false e5 true
      e6 a7 e7 a8 e8 =
      rw (letter, blank, hash, question, e0, e1, e2, e3, e4, e5, e6) (
        omega (arith, fits 0 (suc place)),
        λ other. omega (arith, fits 0 (suc place)),
      )
  mark_first letter blank hash question false e0 false e1 false e2 false e3 false e4 false e5
      false e6 true e7 a8 e8 =
      rw (letter, blank, hash, question, e0, e1, e2, e3, e4, e5, e6, e7) (
        omega (arith, fits 0 (suc place)),
        λ other. omega (arith, fits 0 (suc place)),
      )
  mark_first letter blank hash question false e0 false e1 false e2 false e3 false e4 false e5
      false e6 false e7 true e8 =
      rw (letter, blank, hash, question, e0, e1, e2, e3, e4, e5, e6, e7, e8) (
        omega (arith, fits 0 (suc place)),
        λ other. omega (arith, fits 0 (suc place)),
      )
  mark_first letter blank hash question false e0 false e1 false e2 false e3 false e4 false e5
      false e6 false e7 false e8 =
      rw (letter, blank, hash, question, e0, e1, e2, e3, e4, e5, e6, e7, e8)
      (omega arith, λ other. omega arith)

  by_mark : is_letter b ≡ false → is_blank b ≡ false → (b == 35) ≡ false → (b == 63) ≡ false
      → FitBoth b rest place
  by_mark letter blank hash question =
      mark_first letter blank hash question (b == 40) refl (b == 41) refl (b == 91) refl
      (b == 93) refl (b == 44) refl (b == 59) refl (b == 61) refl (b == 124) refl (b == 38) refl

  by_tests : (a0 : Bool) → is_letter b ≡ a0 → (a1 : Bool) → is_blank b ≡ a1
      → (a2 : Bool) → (b == 35) ≡ a2 → (a3 : Bool) → (b == 63) ≡ a3 → FitBoth b rest place
  by_tests true letter a1 blank a2 hash a3 question =
      name_first letter (leb (1 + run) 64) refl
  by_tests false letter true blank a2 hash a3 question = blank_first letter blank
  by_tests false letter false blank true hash a3 question = comment_first letter blank hash
  by_tests false letter false blank false hash true question =
      question_first b rest place fits letter blank hash question
  by_tests false letter false blank false hash false question =
      by_mark letter blank hash question

  first_fits : FitBoth b rest place
  first_fits =
      by_tests (is_letter b) refl (is_blank b) refl (b == 35) refl (b == 63) refl

module _ (b : ℕ) (rest : List ℕ) (fits : Fits rest) (apart : FitsApart rest) where
  more_fits : Fits (b ∷ rest)
  unfolding lexed
  more_fits zero place = omega (arith, (first_fits b rest place fits apart).0)
  more_fits (suc inside) place = omega (arith, fits inside (suc place))

  more_apart : FitsApart (b ∷ rest)
  unfolding lexed
  more_apart zero place ends = omega (arith, (first_fits b rest place fits apart).1 ends)
  more_apart (suc inside) place ends = omega (arith, apart inside (suc place) ends)

no_text_fits : Fits []
unfolding lexed
no_text_fits zero place = omega arith
no_text_fits (suc inside) place = omega arith

no_text_apart : FitsApart []
unfolding lexed
no_text_apart zero place ends = omega arith
no_text_apart (suc inside) place ends = omega arith

fit_both : (text : List ℕ) → Fits text × FitsApart text
fit_both [] = (no_text_fits, no_text_apart)
fit_both (b ∷ rest) =
    let both = fit_both rest in
    (more_fits b rest both.0 both.1, more_apart b rest both.0 both.1)

-- a text is no shorter than what its tokens need
pub tokens_fit : (text : List ℕ) → size (symbols (lexed 0 0 text)) ≤ length text
tokens_fit text = omega (arith, (fit_both text).0 0 0)
