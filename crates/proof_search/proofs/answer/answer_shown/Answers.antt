use Rattle.std.proofs.Common.{List, sym, subst}
use Rattle.dl_syntax.specs.declared.facts.Element.{Element}
use Rattle.run_proofs.specs.Growing.{run_after, AllMake}
use Rattle.run_proofs.specs.Matching.{IsMatch}
use Rattle.proof_search.proofs.ShownRuns.{shows_answer}
use Rattle.proof_search.proofs.answer.answer_shown.Goals as goal

pub match_of-requires : goal.match_of-requires
match_of-requires c =
    let walk = rw c.in-Some.is at c.in_ok-walk.ensures.exact in
    rw c.as_slice.ensures.value walk.gives

pub returns-in_default-clause-exact : goal.returns-in_default-clause-exact
returns-in_default-clause-exact c = rw c.in_default.is at c.in_ok-walk.ensures.exact

pub returns-clause-exact : goal.returns-clause-exact
returns-clause-exact c =
    let o = c.args.ontology.now in
    let walk = rw c.in-Some.is at c.in_ok-walk.ensures.exact in
    subst (λ (es : List Element). AllMake o.inclusions c.args.facts.now c.in-Some.walk.steps.items
    × IsMatch c.args.cq.now
    (run_after o.inclusions c.args.facts.now c.in-Some.walk.steps.items) c.args.row.now es)
    (sym c.from_vec.ensures)
    (shows_answer o c.args.cq.now c.args.facts.now c.args.row.now
    c.in-Some.walk.steps.items c.in-Some.walk.run.items c.in-Some.walk.known.items
    c.in_ok-elements.elements.items c.requires.declared walk.steps walk.kept
    (rw c.as_slice.ensures.value at c.in_ok-elements.ensures))
