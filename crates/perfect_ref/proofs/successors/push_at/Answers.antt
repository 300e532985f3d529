use Rattle.std.proofs.lemmas.Result.{on_ok_weaker}
use Rattle.std.proofs.Common.{List, get_or, subst}
use Rattle.std.specs.List.{Contains}
use Rattle.dl_syntax.specs.declared.ontology.Inclusion.{Inclusion}
use Rattle.dl_syntax.specs.declared.queries.Term.TheVariants.{Var}
use Rattle.dl_syntax.specs.declared.queries.Atom.{Atom}
use Rattle.dl_syntax.specs.declared.queries.Atom.TheVariants as atom
use Rattle.perfect_ref.specs.Rules.{IsFor, MakesFor}
use Rattle.perfect_ref.proofs.Gained.{Gains-rules}
use Rattle.perfect_ref.proofs.successors.push_at.Goals as goal

pub returns : goal.returns
returns c =
    let d : Atom = atom.Concept (record { 0 = 0 }) (Var 0) in
    on_ok_weaker c.push_replacements-2.result
    (Gains-rules c.args.rules.now c.candidates.result.now c.null_makers.result.now c.args.cq.now
    c.args.place d c.args.out.now.items _ _ c.candidates.ensures.sound
    c.null_makers.ensures.sound
    (subst (λ (atoms : List Atom). (i : Inclusion) → Contains c.args.rules.now i
    → IsFor i (get_or atoms c.args.place d)
    → Contains c.candidates.result.now i) c.as_slice.ensures c.candidates.ensures.complete)
    (subst (λ (atoms : List Atom). (i : Inclusion) → Contains c.args.rules.now i
    → MakesFor i (get_or atoms c.args.place d)
    → Contains c.null_makers.result.now i) c.as_slice.ensures c.null_makers.ensures.complete)
    c.in_ok-push_replacements.ensures)
    c.push_replacements-2.ensures
