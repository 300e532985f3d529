use Rattle.std.proofs.Common.{◌+◌, ◌-◌, List, ap, ◌∙◌, arith, map, drop, take, length, get_or}
use Rattle.owl_reader.specs.Statements.{Term, disjoint_terms, all_disjoint, all_added}
use Rattle.owl_reader.specs.StatementViews.{term_seen}
use Rattle.owl_reader.proofs.AddingLemmas.{append_added, steps_fail, none_added, pairs_next}
use Rattle.owl_reader.proofs.AddingLemmas.{terms_end, no_term}
use Rattle.owl_reader.proofs.axioms.add_all_disjoint.Goals as goal

pub returns-in-Err : goal.returns-in-Err
returns-in-Err c =
    let o = c.loop-place.ontology in
    let terms = c.args.terms.now in
    let place = c.loop-place.place in
    steps_fail c.in-Err.fault _ o (map (disjoint_terms (term_seen (get_or terms place no_term)))
    (map term_seen (take (length terms - (place + 1)) (drop (place + 1) terms))))
    (all_disjoint (map term_seen (drop (place + 1) terms))) c.in-Err.ensures
    (c.loop-place.invariant.read ∙ ap (all_added o) (pairs_next terms place c.loop-place-test.true))

pub loop-place-preserved : goal.loop-place-preserved
loop-place-preserved c =
    let o = c.loop-place.ontology in
    let terms = c.args.terms.now in
    let place = c.loop-place.place in
    record {
      within = omega arith;
      read =
          c.loop-place.invariant.read
          ∙ ap (all_added o) (pairs_next terms place c.loop-place-test.true)
          ∙ append_added o c.add_disjoint_each.new.ontology
          (map (disjoint_terms (term_seen (get_or terms place no_term)))
          (map term_seen (take (length terms - (place + 1)) (drop (place + 1) terms))))
          (all_disjoint (map term_seen (drop (place + 1) terms))) c.in-Ok.ensures;
    }

pub returns : goal.returns
returns c =
    c.loop-place.invariant.read
    ∙ ap (λ (ts : List Term). all_added c.loop-place.ontology (all_disjoint ts))
    (terms_end c.args.terms.now c.loop-place.place c.loop-place-test.false)
    ∙ none_added c.loop-place.ontology
