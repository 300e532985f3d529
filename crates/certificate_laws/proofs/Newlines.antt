-- The lines of a proof have no newlines.
use Rattle.std.proofs.Common.{◌≡◌, ℕ, zero, suc, ◌+◌, ◌≤◌, ◌/◌, ◌%◌, ◌==◌, Bool, true, false}
use Rattle.std.proofs.Common.{cond, List, [], ◌∷◌, ◌++◌, refl, subst, arith, codes}
use Rattle.std.proofs.Common.{decimal}
use Rattle.std.specs.Prelude.{flat_map, nat_lt, IsTrue, Option, Some, None, slice_get}
use Rattle.std.specs.Fmt.{digit_glyph, digits_onto, digits}
use Rattle.std.specs.List.{All}
use Rattle.std.proofs.lemmas.List.Elements.{All-cons, All-head, All-tail}
use Rattle.std.proofs.lemmas.Bool.{eqb-true}
use Rattle.std.proofs.lemmas.Option.{get_or_from_slice_get, slice_get_within}
use Rattle.dl_syntax.specs.declared.names.IndId.{IndId}
use Rattle.dl_syntax.specs.declared.facts.Element.{Element}
use Rattle.dl_syntax.specs.declared.facts.Element.TheVariants.{Ind, Null}
use Rattle.dl_syntax.specs.Names.{is_letter, is_name_byte, IsName}
use Rattle.dl_syntax.specs.Ontology.{Declared, IsOntology}
use Rattle.tcq_syntax.specs.Tcq.{Tcq}
use Rattle.edge_io.specs.Lines.{has_newline}
use Rattle.edge_io.proofs.LinesLemmas.{has_newline-append}
use Rattle.run_proofs.specs.declared.proof.ProofStep.{ProofStep}
use Rattle.run_proofs.specs.declared.proof.Goal.{Goal}
use Rattle.run_proofs.specs.declared.proof.Goal.TheVariants as goal
use Rattle.run_proofs.specs.declared.proof.Ending.{Ending}
use Rattle.run_proofs.specs.declared.proof.Ending.TheVariants as ending
use Rattle.run_proofs.specs.Texts.{Text, pair_text, step_text, element_text}
use Rattle.run_proofs.specs.Texts.{ending_text, query_name, individual_text, row_text}
use Rattle.run_proofs.specs.Texts.{goal_text, IsWritable}
use Rattle.run_proofs.specs.Writable.{IsNamed}
use Rattle.run_proofs.specs.Asking.{IsAsked, IsToldEnding}
use Rattle.run_proofs.specs.Laws.{AreApart}
use Rattle.run_proofs.proofs.Spelled.{individual_spelled}

-- ---- numbers

not_ten : (n : ℕ) → 11 ≤ n → (n == 10) ≡ false
not_ten n more = grind arith

glyph_not_ten : (upper : Bool) (d : ℕ) → (digit_glyph upper d == 10) ≡ false
glyph_not_ten upper d = go (nat_lt d 10) upper
  where
    go : (small upper : Bool)
        → (cond small (48 + d) (cond upper (55 + d) (87 + d)) == 10) ≡ false
    go true upper = not_ten (48 + d) (omega arith)
    go false true = not_ten (55 + d) (omega arith)
    go false false = not_ten (87 + d) (omega arith)

glyph_line : (upper : Bool) (d : ℕ) (told : Text) → has_newline told ≡ false
    → has_newline (digit_glyph upper d ∷ told) ≡ false
glyph_line upper d told none =
    let other : (digit_glyph upper d == 10) ≡ false = glyph_not_ten upper d in rw other none

digits_line : (k n : ℕ) (told : Text) → has_newline told ≡ false
    → has_newline (digits_onto k 10 false n told) ≡ false
digits_line zero n told none = none
digits_line (suc k) n told none =
    let one = glyph_line false (n % 10) told none in
    elim (n / 10 == 0) as (λ t.
    has_newline (cond t (digit_glyph false (n % 10) ∷ told)
    (digits_onto k 10 false (n / 10) (digit_glyph false (n % 10) ∷ told))) ≡ false) [
      | true ↦ one
      | false ↦ digits_line k (n / 10) (digit_glyph false (n % 10) ∷ told) one
    ]

pub decimal_line : (n : ℕ) → has_newline (decimal n) ≡ false
unfolding digits
decimal_line n = digits_line 64 n [] refl

-- ---- names

first_byte : (b : ℕ) (word : Text) (ten : Bool) → IsTrue (is_name_byte b) → (b == 10) ≡ ten
    → has_newline word ≡ false → cond ten true (has_newline word) ≡ false
first_byte b word false fits is rest = rest
first_byte b word true fits is rest =
    let same : b ≡ 10 = eqb-true b 10 is in
    let no : false ≡ true = subst (λ (c : ℕ). is_name_byte c ≡ true) same fits in
    absurd (cc)

bytes_line : (word : Text) → All (λ b. IsTrue (is_name_byte b)) word → has_newline word ≡ false
bytes_line [] all = refl
bytes_line (b ∷ word) all =
    first_byte b word (b == 10) (All-head (λ b. IsTrue (is_name_byte b)) b word all) refl
    (bytes_line word (All-tail (λ b. IsTrue (is_name_byte b)) b word all))

pub name_line : (name : Text) → IsName name → has_newline name ≡ false
name_line [] is = absurd is
name_line (b ∷ name) is =
    bytes_line (b ∷ name) (All-cons (λ b. IsTrue (is_name_byte b)) b name (letter b is.0) is.1)
  where
    letter : (c : ℕ) → IsTrue (is_letter c) → IsTrue (is_name_byte c)
    letter c is = rw is refl

-- ---- lists

pub spread_line : {X : Type 0} (line : X → Text) (Fits : X → Type 0) (xs : List X)
    → ((x : X) → Fits x → has_newline (line x) ≡ false) → All Fits xs
    → has_newline (flat_map line xs) ≡ false
spread_line line Fits [] each all = refl
spread_line line Fits (x ∷ xs) each all =
    has_newline-append (line x) (flat_map line xs) (each x (All-head Fits x xs all))
    (spread_line line Fits xs each (All-tail Fits x xs all))

-- ---- the lines of a proof

pair_line : (m n : ℕ) → has_newline (pair_text m n) ≡ false
pair_line m n = has_newline-append (decimal m) (32 ∷ decimal n) (decimal_line m) (decimal_line n)

pub step_line : (step : ProofStep) → has_newline (step_text step) ≡ false
step_line step =
    has_newline-append (codes "step ") (pair_text step.from step.inclusion) refl
    (pair_line step.from step.inclusion)

module _ (o : Declared) (sound : IsOntology o) where
  individual_line : (i : IndId) → IsNamed o i
      → has_newline (32 ∷ individual_text o.individuals i) ≡ false
  individual_line i named =
      name_line (individual_text o.individuals i) (individual_spelled o sound i named)

  element_line : (e : Element) → IsWritable o.individuals e
      → has_newline (32 ∷ element_text o.individuals e) ≡ false
  element_line (Ind i) writable = individual_line i writable
  element_line (Null n) writable = decimal_line n

  pub ending_line : (e : Ending) → IsToldEnding o.individuals e
      → has_newline (ending_text o.individuals e) ≡ false
  ending_line (ending.Match elements) told =
      has_newline-append (codes "match")
      (flat_map (λ e. 32 ∷ element_text o.individuals e) elements) refl
      (spread_line (λ (e : Element). 32 ∷ element_text o.individuals e)
      (IsWritable o.individuals) elements element_line told)
  ending_line (ending.Places m n) told =
      has_newline-append (codes "at ") (pair_text m n) refl (pair_line m n)

  query_line : (queries : List Tcq) (query : ℕ) → AreApart queries
      → has_newline (query_name (slice_get queries query)) ≡ false
  query_line queries query apart = by (slice_get queries query) refl
    where
      by : (found : Option Tcq) → slice_get queries query ≡ found
          → has_newline (query_name found) ≡ false
      by None is = refl
      by (Some known) is =
          name_line known.name (subst (λ (x : Tcq). IsName x.name)
          (get_or_from_slice_get queries query known known is)
          (apart.spelled query known (slice_get_within queries query known is)))

  pub goal_line : (queries : List Tcq) (g : Goal) → AreApart queries → IsAsked o queries g
      → has_newline (goal_text o.individuals queries g) ≡ false
  goal_line queries (goal.Answer query leaf row) apart asked =
      let name = query_name (slice_get queries query) in
      has_newline-append (codes "proof answer ")
      (name ++ (32 ∷ decimal leaf ++ row_text o.individuals row)) refl
      (has_newline-append name (32 ∷ decimal leaf ++ row_text o.individuals row)
      (query_line queries query apart)
      (has_newline-append (decimal leaf) (row_text o.individuals row) (decimal_line leaf)
      (spread_line (λ (i : IndId). 32 ∷ individual_text o.individuals i) (IsNamed o) row
      individual_line asked.3)))
  goal_line queries (goal.Clash number) apart asked =
      has_newline-append (codes "proof clash ") (decimal number) refl (decimal_line number)
