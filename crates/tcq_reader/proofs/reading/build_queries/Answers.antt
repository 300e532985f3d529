use Rattle.std.proofs.Common.{◌≡◌, ℕ, List, ◌∷◌, Err, sym, subst, arith}
use Rattle.text_scan.specs.declared.Token.{Token}
use Rattle.text_scan.specs.Lexing.{lexed_from, lexeme, with_first, behind}
use Rattle.dl_syntax.specs.Ontology.{Declared}
use Rattle.tcq_grammar.specs.Control.{Control, view, control_step}
use Rattle.tcq_grammar.specs.declared.checker.Mode.{Mode}
use Rattle.tcq_grammar.specs.Symbols.{symbol}
use Rattle.tcq_grammar.specs.Texts.{marks_of}
use Rattle.tcq_grammar.proofs.Whole.{next_mark, moved_true, moved_false}
use Rattle.tcq_reader.specs.Drafting.{GivesTo, Answers}
use Rattle.tcq_reader.specs.Acting.{Build, build, acted, EndsAt}
use Rattle.tcq_reader.proofs.Following.{at}
use Rattle.tcq_reader.proofs.ReadingLemmas.{Reading, reading_begun, reading_more, reading_sound}
use Rattle.tcq_reader.proofs.ReadingLemmas.{reading_ends_at, reading_rest, reading_done}
use Rattle.tcq_reader.proofs.ReadingLemmas.{never_refused, stop_is_fault}
use Rattle.tcq_reader.proofs.reading.build_queries.Goals as goal
use Rattle.tcq_reader.proofs.reading.build_queries.Goals.{then-branch+in_default-act, else-branch}

at_token : (o : Declared) (control : Control) (b : Build) (text : List ℕ) (place : ℕ)
    (token : Token) → lexed_from text place
    ≡ with_first (lexeme token) (lexed_from text (behind token))
    → Reading o control b (marks_of (lexed_from text place)) text
    → Reading o control b (at (symbol token) token.start
    ∷ marks_of (lexed_from text (behind token))) text
at_token o control b text place token e h =
    reading_rest o control b (marks_of (lexed_from text place))
    (at (symbol token) token.start ∷ marks_of (lexed_from text (behind token))) text
    (next_mark text place token e) h

pub loop-token-init : goal.loop-token-init
loop-token-init c = record {
  within = omega arith;
  read = reading_begun c.args.ontology.now (view c.new-checker.result) (build c.new-builder.result)
      c.args.bytes.now c.new-checker.ensures c.new-builder.ensures;
}

pub act-requires-clause-sound : goal.act-requires-clause-sound
act-requires-clause-sound c =
    reading_sound c.args.ontology.now (view c.loop-token.checker) (build c.loop-token.builder)
    (marks_of (lexed_from c.args.bytes.now c.loop-token.place)) c.args.bytes.now
    c.loop-token.invariant.read

pub act-requires-clause-end : goal.act-requires-clause-end
act-requires-clause-end c =
    let control = view c.loop-token.checker in
    let next = symbol c.in-Token.token in
    let went = moved_true (control_step control next) c.in_ok-step-in-Token.field-0
    (view c.step.new.self) c.in_ok-step-in-Token.ensures c.if-branch.true in
    subst (λ (mode : Mode). EndsAt mode next (build c.loop-token.builder)) (sym c.mode-mode.ensures)
    (reading_ends_at c.args.ontology.now control (view c.step.new.self) (build c.loop-token.builder)
    next (marks_of (lexed_from c.args.bytes.now c.loop-token.place)) c.args.bytes.now
    c.loop-token.invariant.read went)

pub returns-in-Err : goal.returns-in-Err
returns-in-Err c =
    let text = c.args.bytes.now in
    let o = c.args.ontology.now in
    let token = c.in-Token.token in
    let control = view c.loop-token.checker in
    let b = build c.loop-token.builder in
    let rest = marks_of (lexed_from text (behind token)) in
    let here = at_token o control b text c.loop-token.place token c.in-Token.ensures.0
    c.loop-token.invariant.read in
    let went = moved_true (control_step control (symbol token)) c.in_ok-step-in-Token.field-0
    (view c.step.new.self) c.in_ok-step-in-Token.ensures c.if-branch.true in
    let stops : Answers {A = Unit {0}} (acted o control.mode b (at (symbol token) token.start))
    (Err c.in-Err.stop) (build c.act.new.self) =
    subst (λ (mode : Mode). Answers {A =
    Unit {0}} (acted o mode b (at (symbol token) token.start)) (Err c.in-Err.stop)
    (build c.act.new.self)) c.mode-mode.ensures c.in-Err.ensures in
    rw c.fault_of.ensures (stop_is_fault o control (view c.step.new.self) b (build c.act.new.self)
    (symbol token) token.start rest text c.in-Err.stop here went stops c.requires.short
    c.requires.file)

pub loop-token-preserved : goal.loop-token-preserved
loop-token-preserved c =
    let text = c.args.bytes.now in
    let o = c.args.ontology.now in
    let token = c.in-Token.token in
    let control = view c.loop-token.checker in
    let b = build c.loop-token.builder in
    let next = symbol token in
    let rest = marks_of (lexed_from text (behind token)) in
    let here = at_token o control b text c.loop-token.place token c.in-Token.ensures.0
    c.loop-token.invariant.read in
    record {
      within = omega (arith, c.in-Token.ensures);
      read = elim c.if-branch.branch [
        | then-branch+in_default-act w ↦
            let went = moved_true (control_step control next) c.in_ok-step-in-Token.field-0
            (view c.step.new.self) c.in_ok-step-in-Token.ensures w.if-branch.true in
            let gives : GivesTo (acted o control.mode b (at next token.start))
            (build c.if-branch.builder) =
            rw w.builder-is (subst (λ (mode : Mode).
            GivesTo (acted o mode b (at next token.start)) (build w.act.new.self))
            c.mode-mode.ensures w.in_default-act.ensures) in
            reading_more o control (view c.step.new.self) b (build c.if-branch.builder) next
            token.start rest text here went gives
        | else-branch w ↦
            let refused = moved_false (control_step control next) c.in_ok-step-in-Token.field-0
            (view c.step.new.self) c.in_ok-step-in-Token.ensures w.if-branch.false in
            absurd (never_refused o control b next token.start rest text here c.requires.file
            refused)
      ];
    }

pub returns-in_default : goal.returns-in_default
returns-in_default c =
    reading_done c.args.ontology.now (view c.loop-token.checker) (build c.loop-token.builder)
    c.args.bytes.now c.into_queries.result.items c.loop-token.place c.next_token.result
    c.next_token.ensures c.in_default.not-Token
    c.loop-token.invariant.read c.requires.file c.requires.short c.into_queries.ensures
