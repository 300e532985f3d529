-- The number that is found is the first place of the name, since no name stands twice.
use Rattle.std.proofs.Common.{ℕ, List, sym, ◌∙◌, ap, subst}
use Rattle.std.specs.Prelude.{Some, None, slice_get}
use Rattle.std.specs.List.{Contains}
use Rattle.dl_syntax.proofs.Numbers.{found_number}
use Rattle.dl_syntax.proofs.ontology.Ontology.find.Goals as goal

pub returns-in-Some-clause-number : goal.returns-in-Some-clause-number
returns-in-Some-clause-number c =
    found_number c.args.kind c.args.self.now c.args.text.now (Some c.in-Some.place)
    c.names.ensures.sound
    (sym (ap (λ (names : List (List ℕ)). slice_get names c.in-Some.place)
    c.names.ensures.same) ∙ c.in-Some.ensures)

pub returns-in-None-clause-number : goal.returns-in-None-clause-number
returns-in-None-clause-number c =
    found_number c.args.kind c.args.self.now c.args.text.now None c.names.ensures.sound
    (λ there. c.in-None.ensures (subst (λ (names : List (List ℕ)).
    Contains names c.args.text.now) (sym c.names.ensures.same) there))
