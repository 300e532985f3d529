use Rattle.std.proofs.Common.{◌+◌, List, ap, ◌∙◌, arith, map, drop}
use Rattle.owl_reader.specs.Statements.{Term, disjoint_terms, all_added}
use Rattle.owl_reader.specs.StatementViews.{term_seen}
use Rattle.owl_reader.proofs.AddingLemmas.{one_added, step_fails, none_added, each_next, terms_end}
use Rattle.owl_reader.proofs.AddingLemmas.{no_term}
use Rattle.std.proofs.Common.{get_or}
use Rattle.owl_reader.proofs.axioms.add_disjoint_each.Goals as goal

pub returns-in-Err : goal.returns-in-Err
returns-in-Err c =
    let o = c.loop-place.ontology in
    let left = term_seen c.args.left.now in
    let terms = c.args.terms.now in
    step_fails c.in-Err.fault _ o (disjoint_terms left
    (term_seen (get_or terms c.loop-place.place no_term)))
    (map (disjoint_terms left) (map term_seen (drop (c.loop-place.place + 1) terms)))
    c.in-Err.ensures
    (c.loop-place.invariant.read ∙ ap (all_added o)
    (each_next left terms c.loop-place.place c.loop-place-test.true))

pub loop-place-preserved : goal.loop-place-preserved
loop-place-preserved c =
    let o = c.loop-place.ontology in
    let left = term_seen c.args.left.now in
    let terms = c.args.terms.now in
    record {
      within = omega arith;
      read =
          c.loop-place.invariant.read
          ∙ ap (all_added o) (each_next left terms c.loop-place.place c.loop-place-test.true)
          ∙ one_added o c.add_disjoint.new.ontology
          (disjoint_terms left (term_seen (get_or terms c.loop-place.place no_term)))
          (map (disjoint_terms left) (map term_seen (drop (c.loop-place.place + 1) terms)))
          c.in-Ok.ensures;
    }

pub returns : goal.returns
returns c =
    c.loop-place.invariant.read
    ∙ ap (λ (ts : List Term). all_added c.loop-place.ontology
    (map (disjoint_terms (term_seen c.args.left.now)) ts))
    (terms_end c.args.terms.now c.loop-place.place c.loop-place-test.false)
    ∙ none_added c.loop-place.ontology
