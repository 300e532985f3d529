use Rattle.std.proofs.Common.{◌≡◌, ◌∙◌, sym, subst, length, [], List}
use Rattle.std.specs.List.{Contains}
use Rattle.std.proofs.lemmas.Bool.{eqb-true}
use Rattle.dl_syntax.specs.declared.facts.Fact.{Fact}
use Rattle.dl_syntax.specs.Match.{atom_at}
use Rattle.list_lemmas.proofs.Elements.{Contains-none}
use Rattle.ucq_join.proofs.Adding.{nil_from_length}
use Rattle.ucq_join.proofs.join.lacks_fact.Goals as goal

pub returns : goal.returns
returns c h t there =
    let found : Contains c.candidates.result.now (atom_at t c.args.atom) =
    c.candidates.ensures.complete t (record { at = λ v e k. cc }) there in
    let empty : c.candidates.result.now ≡ [] =
    nil_from_length c.candidates.result.now
    (eqb-true (length c.candidates.result.now) 0 (sym c.is_empty.ensures ∙ h)) in
    Contains-none (atom_at t c.args.atom)
    (subst (λ (fs : List Fact). Contains fs (atom_at t c.args.atom)) empty found)
