use Rattle.std.proofs.Common.{[], ◌∷◌, sym, ap, ◌∙◌, arith}
use Rattle.text_scan.specs.Lexing.{lexed_from, behind}
use Rattle.tcq_grammar.specs.Control.{view, control_step}
use Rattle.tcq_grammar.specs.Symbols.{symbol}
use Rattle.tcq_grammar.specs.Symbols as s
use Rattle.tcq_grammar.specs.Texts.{Mark, marks, marks_of}
use Rattle.tcq_grammar.proofs.Whole.{text_begun, next_mark, resting, has_read_more, stops}
use Rattle.tcq_grammar.proofs.Whole.{stops_at_fault, cut_off, ends_as_file, moved_true, moved_false}
use Rattle.tcq_grammar.proofs.checking.check.Goals as goal

pub loop-token-init : goal.loop-token-init
loop-token-init c = record {
  within = omega arith;
  read =
      text_begun (view c.new-checker.result) c.args.text.now c.new-checker.ensures;
}

pub returns-then-not-branch : goal.returns-then-not-branch
returns-then-not-branch c =
    let text = c.args.text.now in
    let token = c.in-Token.token in
    let control = view c.loop-token.checker in
    let rest = marks_of (lexed_from text (behind token)) in
    let first : Mark = record { symbol = symbol token; start = token.start } in
    stops control first rest (marks text)
    (resting control (marks_of (lexed_from text c.loop-token.place)) (first ∷ rest) (marks text)
    (next_mark text c.loop-token.place token c.in-Token.ensures.0) c.loop-token.invariant.read)
    (moved_false (control_step control (symbol token)) c.in_ok-step-in-Token.field-0
    (view c.step.new.self) c.in_ok-step-in-Token.ensures c.if-not-branch.true)

pub loop-token-preserved : goal.loop-token-preserved
loop-token-preserved c =
    let text = c.args.text.now in
    let token = c.in-Token.token in
    let control = view c.loop-token.checker in
    let rest = marks_of (lexed_from text (behind token)) in
    let first : Mark = record { symbol = symbol token; start = token.start } in
    record {
      within = omega (arith, c.in-Token.ensures);
      read = has_read_more control (view c.step.new.self) first rest (marks text)
          (resting control (marks_of (lexed_from text c.loop-token.place)) (first ∷ rest)
          (marks text) (next_mark text c.loop-token.place token c.in-Token.ensures.0)
          c.loop-token.invariant.read)
          (moved_true (control_step control (symbol token)) c.in_ok-step-in-Token.field-0
          (view c.step.new.self) c.in_ok-step-in-Token.ensures c.if-not-branch.false);
    }

pub returns-in-Fault : goal.returns-in-Fault
returns-in-Fault c =
    let text = c.args.text.now in
    let control = view c.loop-token.checker in
    stops_at_fault control c.in-Fault.fault (marks text)
    (resting control (marks_of (lexed_from text c.loop-token.place)) (record {
      symbol =
          s.Fault;
      start = c.in-Fault.fault;
    } ∷ []) (marks text) (ap marks_of c.in-Fault.ensures)
    c.loop-token.invariant.read)

pub returns-in-Between : goal.returns-in-Between
returns-in-Between c =
    let text = c.args.text.now in
    let control = view c.loop-token.checker in
    ends_as_file control (marks text)
    (resting control (marks_of (lexed_from text c.loop-token.place)) [] (marks text)
    (ap marks_of c.in-End.ensures) c.loop-token.invariant.read)
    (sym c.mode.ensures ∙ c.in-Between.is)

pub returns : goal.returns
returns c =
    let text = c.args.text.now in
    let control = view c.loop-token.checker in
    cut_off control (marks text)
    (resting control (marks_of (lexed_from text c.loop-token.place)) [] (marks text)
    (ap marks_of c.in-End.ensures) c.loop-token.invariant.read)
    (λ e. c.in_default.not-Between (c.mode.ensures ∙ e))
