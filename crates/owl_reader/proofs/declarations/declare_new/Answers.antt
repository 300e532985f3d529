use Rattle.std.proofs.Common.{true, refl, sym, ap, ◌∙◌}
use Rattle.owl_reader.specs.Statements.{is_usable}
use Rattle.owl_reader.proofs.NameLemmas.{usable}
use Rattle.owl_reader.proofs.declarations.declare_new.Goals as goal

pub add-requires : goal.add-requires
add-requires c = usable c.name_of-name.result.now true
    (sym (ap is_usable c.name_of-name.ensures ∙ c.requires)) refl
