-- The first line of a proof isn't passed over.
use Rattle.std.proofs.Common.{◌≡◌, List, [], ◌∷◌, ◌++◌, refl, codes, arith, inl, inr}
use Rattle.std.proofs.Common.{◌+◌, cond, length, subst, rules}
use Rattle.std.specs.Prelude.{Bool, true, false, Option, Some, None}
use Rattle.std.specs.Option.{option_map_or}
use Rattle.std.specs.Str.{bytes_eq}
use Rattle.dl_syntax.specs.Names.{IsName}
use Rattle.dl_syntax.specs.Ontology.{Declared}
use Rattle.tcq_syntax.specs.Tcq.{Tcq}
use Rattle.forms.specs.declared.StreamForm.TheVariants as form
use Rattle.text_scan.specs.declared.TokenKind.TheVariants.{Name}
use Rattle.text_scan.specs.Lexing.{Lexed, lexed}
use Rattle.snapshot_reader.specs.Written.{Line, blank, malformed, declares, writes, Symbol, token}
use Rattle.snapshot_reader.specs.Written.{symbols, symbols_write, line_writes, Written}
use Rattle.snapshot_reader.specs.Written.{individual_written, facts_written, declaring}
use Rattle.snapshot_reader.specs.Written.{is_reserved}
use Rattle.snapshot_reader.specs.Said.{nothing, refused, says, said, Cause, line_says}
use Rattle.snapshot_reader.specs.Said.{facts_say, cause_of, distinct, fact_of}
use Rattle.std.specs.List.{filter_map}
use Rattle.report_text.specs.Names.{Text}
use Rattle.run_proofs.specs.declared.proof.Goal.{Goal}
use Rattle.run_proofs.specs.declared.proof.Goal.TheVariants as goal
use Rattle.run_proofs.specs.Texts.{goal_text}
use Rattle.run_proofs.proofs.Spread.{apart_at}
use Rattle.verify_report.specs.Outcome.{IsPassedOver}
use Rattle.verify_report.proofs.Lexemes.{EndsName, first_name}

-- a line without tokens alone says nothing
facts_speak : (o : Declared) (facts : List Written) → facts_say o facts ≡ nothing → ⊥
unfolding facts_say
facts_speak o facts is = by (cause_of o facts) is
  where
    by : (cause : Option Cause) → option_map_or refused cause
        (says (distinct (filter_map (fact_of o) facts))) ≡ nothing → ⊥
    by None silent = cc
    by (Some why) silent = cc

line_is_blank : (o : Declared) (line : Line) → line_says o line ≡ nothing → line ≡ blank
line_is_blank o blank is = refl
line_is_blank o malformed is = absurd (cc)
line_is_blank o (declares name) is = absurd (cc)
line_is_blank o (writes facts) is = absurd (facts_speak o facts is)

declaring_speaks : (name : Text) → declaring name ≡ blank → ⊥
declaring_speaks name is = by (is_reserved name) is
  where
    by : (b : Bool) → cond b malformed (declares name) ≡ blank → ⊥
    by true silent = cc
    by false silent = cc

individual_speaks : (xs : List Symbol) → individual_written xs ≡ blank → ⊥
unfolding individual_written
individual_speaks (token Name name ∷ []) is = declaring_speaks name is
individual_speaks xs is = cc

some_symbol : (x : Symbol) (xs : List Symbol) → symbols_write (x ∷ xs) ≡ blank → ⊥
unfolding symbols_write
some_symbol (token Name word) xs is =
    by (bytes_eq word (codes "snap")) (bytes_eq word (codes "individual")) (facts_written xs) is
  where
    by : (snap individual : Bool) (facts : Option (List Written))
        → cond snap (option_map_or writes facts malformed)
        (cond individual (individual_written xs) malformed) ≡ blank → ⊥
    by true individual None silent = cc
    by true individual (Some facts) silent = cc
    by false true facts silent = individual_speaks xs silent
    by false false facts silent = cc
some_symbol x xs is = cc

-- a text that begins with a name says something
pub no_silence : (o : Declared) (name rest : Text) → IsName name → EndsName rest
    → said o form.Text (name ++ rest) ≡ nothing → ⊥
unfolding said line_writes
no_silence o name rest is ends silent =
    some_symbol (token Name name) (symbols (lexed 0 (0 + length name) rest))
    (subst (λ (read : Lexed). symbols_write (symbols read) ≡ blank) (first_name name rest 0 is ends)
    (line_is_blank o (symbols_write (symbols (lexed 0 0 (name ++ rest)))) silent))

proof_named : IsName (codes "proof")
proof_named = search rules

-- a line that begins with the word
stays : (o : Declared) (rest : Text) → IsPassedOver o (codes "proof" ++ (32 ∷ rest)) → ⊥
stays o rest (inl p) = apart_at _ _ p.2 0 112 108 refl refl (λ letters. omega arith)
stays o rest (inr (inl p)) = apart_at _ _ p.2 0 112 101 refl refl (λ letters. omega arith)
stays o rest (inr (inr p)) = no_silence o (codes "proof") (32 ∷ rest) proof_named refl p

pub goal_stays : (o : Declared) (queries : List Tcq) (g : Goal)
    → IsPassedOver o (goal_text o.individuals queries g) → ⊥
goal_stays o queries (goal.Answer query leaf row) p = stays o _ p
goal_stays o queries (goal.Clash number) p = stays o _ p
