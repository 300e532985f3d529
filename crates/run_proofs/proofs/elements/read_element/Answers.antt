use Rattle.std.proofs.Common.{◌∷◌, ◌∙◌, sym, [], decimal}
use Rattle.std.proofs.lemmas.List.{append_cancel_left}
use Rattle.dl_syntax.specs.declared.facts.Element.TheVariants.{Ind as ind_element, Null}
use Rattle.run_proofs.proofs.Names.{no_name_is_marked}
use Rattle.run_proofs.proofs.elements.read_element.Goals as goal

pub returns-in-None-read_number : goal.returns-in-None-read_number
returns-in-None-read_number c (ind_element i) writable is =
    no_name_is_marked c.args.ontology.now i.0 c.in-Some.digits.now c.count-count.ensures.sound
    writable (sym is ∙ c.in-Some.ensures)
returns-in-None-read_number c (Null number) writable is =
    c.in-None-read_number.ensures number writable
    (append_cancel_left (42 ∷ []) c.in-Some.digits.now (decimal number)
    (sym c.in-Some.ensures ∙ is))
