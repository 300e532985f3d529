use Rattle.std.proofs.Common.{sym, ◌∙◌, arith}
use Rattle.owl_reader.specs.Refusals.{in_class}
use Rattle.owl_documents.specs.Views.{class_seen}
use Rattle.owl_reader.proofs.RefusalLemmas.{found_here, none_here, none_left, no_class}
use Rattle.owl_reader.proofs.refusals.in_classes.Goals as goal

pub returns-then-is_some : goal.returns-then-is_some
returns-then-is_some c = λ bytes.
    found_here (class_seen bytes) in_class c.args.classes.now bytes c.in_class-found.result
    c.loop-place.place no_class c.loop-place-test.true
    (sym c.is_some.ensures ∙ c.if-is_some.true) (c.in_class-found.ensures bytes)
    ∙ sym (c.loop-place.invariant.passed bytes)

pub loop-place-preserved : goal.loop-place-preserved
loop-place-preserved c = record {
  within = omega arith;
  passed = λ bytes.
      c.loop-place.invariant.passed bytes
      ∙ none_here (class_seen bytes) in_class c.args.classes.now bytes c.in_class-found.result
      c.loop-place.place no_class c.loop-place-test.true
      (sym c.is_some.ensures ∙ c.if-is_some.false) (c.in_class-found.ensures bytes);
}

pub returns : goal.returns
returns c = λ bytes. sym (c.loop-place.invariant.passed bytes ∙ none_left (class_seen bytes)
    in_class c.args.classes.now c.loop-place.place c.loop-place-test.false)
