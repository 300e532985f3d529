use Rattle.std.proofs.Common.{◌≡◌, true, ◌∙◌}
use Rattle.dl_syntax.specs.declared.names.IndId.{IndId}
use Rattle.dl_syntax.specs.declared.facts.Element.TheVariants.{Ind as ind_element}
use Rattle.dl_syntax.specs.Match.{term_at}
use Rattle.run_proofs.specs.Assigned.{assigned}
use Rattle.run_proofs.proofs.Assigned.{images_at}
use Rattle.run_proofs.proofs.matching.is_row.Goals as goal

pub returns-then-not-is_same : goal.returns-then-not-is_same
returns-then-not-is_same c = (
  λ yes. absurd (cc),
  λ same.
      let equal = images_at (term_at (assigned c.args.variables.now c.args.elements.now))
      (λ (i : IndId). ind_element i) c.args.head.now c.args.row.now c.loop-place.place _ _
      c.loop-place-test.true same in
      let yes : c.is_same.result ≡ true =
      c.is_same.ensures.1 (c.element_of-element.ensures ∙ equal) in
      cc,
)
