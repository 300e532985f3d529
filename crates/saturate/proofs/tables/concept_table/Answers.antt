use Rattle.std.proofs.Common.{◌≡◌, ℕ, ◌+◌, ◌++◌, ◌∷◌, [], List, Vec, Global, length, sym, ◌∙◌, ap}
use Rattle.std.proofs.Common.{subst, arith, length-append}
use Rattle.dl_syntax.specs.declared.names.ConceptId.{ConceptId}
use Rattle.dl_syntax.specs.declared.ontology.Basic.{Basic}
use Rattle.worklist.specs.Reach.{IsClosure}
use Rattle.saturate.specs.Above.{Along, HasConcepts, ConceptsOf}
use Rattle.saturate.proofs.ListedAbove.{concepts-row}
use Rattle.saturate.proofs.tables.concept_table.Goals as goal

pub loop-number-preserved : goal.loop-number-preserved
loop-number-preserved c =
    let items : c.push.new.self.items ≡ c.loop-number.table.items ++ c.in_ok-concepts.concepts
    ∷ [] = c.in_ok-push.ensures.items in (
      ap length items ∙ length-append c.loop-number.table.items
          (c.in_ok-concepts.concepts ∷ []) ∙ ap (λ (n : ℕ). n + 1) c.loop-number.invariant.0,
      subst (λ (table : List (Vec ConceptId Global)).
          HasConcepts c.args.place c.args.graph.now (c.loop-number.number + 1) table) (sym items)
          (concepts-row c.args.place c.args.graph.now c.loop-number.number c.loop-number.table.items
          c.in_ok-concepts.concepts c.in_ok-above.above.keys c.loop-number.invariant.0
          c.loop-number.invariant.1
          (subst (λ (b : Basic). IsClosure (Along c.args.graph.now) b c.in_ok-above.above.keys)
          c.source.ensures c.in_ok-above.ensures)
          (subst (λ (xs : List Basic). ConceptsOf xs c.in_ok-concepts.concepts.items)
          c.as_slice.ensures.keys c.in_ok-concepts.ensures)),
    )

pub returns-clause-exact : goal.returns-clause-exact
returns-clause-exact c =
    let all : c.loop-number.number ≡ c.args.count = omega arith in
    subst (λ (n : ℕ). HasConcepts c.args.place c.args.graph.now n c.loop-number.table.items) all
    c.loop-number.invariant.1
