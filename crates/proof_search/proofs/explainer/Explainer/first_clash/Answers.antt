use Rattle.std.proofs.Common.{List, subst}
use Rattle.std.specs.Prelude.{ℕ, Option, IfOk}
use Rattle.dl_syntax.specs.declared.facts.Fact.{Fact}
use Rattle.dl_syntax.specs.Encode.{IsOverOntology}
use Rattle.dl_syntax.specs.Ontology.{Declared}
use Rattle.consistency.specs.Least.{IsFirstClash}
use Rattle.consistency.specs.Prepared.{IsPreparedFor}
use Rattle.perfect_ref.proofs.Reached.{if_ok_weaker}
use Rattle.proof_search.specs.Explainer.{Explained}
use Rattle.proof_search.specs.Explaining.{HaveSame}
use Rattle.proof_search.proofs.Alike.{over_alike, first_clash_alike}
use Rattle.proof_search.proofs.explainer.Explainer.first_clash.Goals as goal

pub returns : goal.returns
returns c =
    let o : Declared = c.self.inside.ontology in
    let index : List Fact = c.args.index.now in
    subst
    (λ (e : Explained). IfOk c.first_clash.result (λ (first : Option ℕ). (facts : List Fact)
    → IsOverOntology e.ontology facts → HaveSame c.args.index.now facts
    → IsFirstClash e.ontology facts first))
    c.self.view_is
    (if_ok_weaker
    (λ (first : Option ℕ). (p : Declared) → IsPreparedFor c.self.inside.clashes p
    → IsOverOntology p c.args.index.now → IsFirstClash p c.args.index.now first)
    (λ (first : Option ℕ). (facts : List Fact) → IsOverOntology c.self.inside.ontology facts
    → HaveSame c.args.index.now facts → IsFirstClash c.self.inside.ontology facts first)
    (λ first is facts over same. first_clash_alike o facts index over same
    c.clashes-clashes.ensures.sound.clashes_declared first
    (is o c.self.invariant.prepared (over_alike o facts index over same)))
    c.first_clash.result c.first_clash.ensures)
