use Rattle.std.proofs.Common.{◌≡◌, true, List, sym, ◌∙◌, subst}
use Rattle.std.proofs.lemmas.Result.{IfOk-weaker}
use Rattle.dl_syntax.specs.declared.facts.Fact.{Fact}
use Rattle.run_proofs.specs.Growing.{run_after, AllMake}
use Rattle.run_proofs.specs.Shows.{Ends}
use Rattle.run_proofs.proofs.checking.verify.Goals as goal

pub returns-then-not-branch : goal.returns-then-not-branch
returns-then-not-branch c = (
  λ yes. absurd (cc),
  λ shows.
      let yes : c.in_ok-take_steps.field-0 ≡ true =
      c.in_ok-take_steps.ensures.make.1
      (rw (c.as_slice.ensures, c.in_ok-run.ensures.items, c.facts.ensures.same)
      shows.steps) in
      cc,
)

made : (c : goal.After-drop-run-2)
    → AllMake c.args.ontology.now.inclusions c.args.proof.now.facts c.args.proof.now.steps
made c = rw (c.as_slice.ensures, c.in_ok-run.ensures.items, c.facts.ensures.same) at
    (c.in_ok-take_steps.ensures.make.0 c.if-not-branch.false)

led : (c : goal.After-drop-run-2) → c.as_slice-2.result.now
    ≡ run_after c.args.ontology.now.inclusions c.args.proof.now.facts c.args.proof.now.steps
led c = c.as_slice-2.ensures.value ∙ (rw
    (c.as_slice.ensures, c.in_ok-run.ensures.items, c.facts.ensures.same) at
    (c.in_ok-take_steps.ensures.run c.if-not-branch.false))

pub returns : goal.returns
returns c =
    IfOk-weaker c.ends.result _ _
    (λ yes ends. (
      λ is. record {
        steps = made c;
        ends =
            subst (λ (run : List Fact).
            Ends c.args.ontology.now c.args.queries.now run c.args.proof.now.goal
            c.args.proof.now.ending) (led c) (ends.0 is);
      },
      λ shows. ends.1 (subst (λ (run : List Fact).
          Ends c.args.ontology.now c.args.queries.now run c.args.proof.now.goal
          c.args.proof.now.ending) (sym (led c)) shows.ends),
    ))
    c.ends.ensures
