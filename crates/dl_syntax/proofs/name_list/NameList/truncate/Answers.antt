-- The first names are the first keys of the set.
use Rattle.std.proofs.Common.{ℕ, List, take, sym, ◌∙◌, ap}
use Rattle.std.proofs.lemmas.List.{take-map}
use Rattle.std.specs.Prelude.{map}
use Rattle.list_lemmas.proofs.Positions.{bytes_of}
use Rattle.dl_syntax.proofs.name_list.NameList.truncate.Goals as goal

pub returns : goal.returns
returns c =
    ap (map bytes_of) c.truncate.ensures.keys
    ∙ sym (take-map bytes_of c.args.len c.self.inside.names.keys)
    ∙ ap (λ (l : List (List ℕ)). take c.args.len l) c.self.view_is
