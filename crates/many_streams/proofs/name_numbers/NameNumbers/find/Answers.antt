-- The set's index is the number.
use Rattle.std.proofs.Common.{List, ℕ, ◌∙◌, ap}
use Rattle.many_streams.specs.Streams.{number_of}
use Rattle.many_streams.proofs.Numbers.{number_of-mapped}
use Rattle.many_streams.proofs.name_numbers.NameNumbers.find.Goals as goal

pub returns : goal.returns
returns c =
    c.get_index_of.ensures.index
    ∙ number_of-mapped c.args.name.now c.self.inside.names.keys
    ∙ ap (λ (l : List (List ℕ)). number_of l c.args.name.now) c.self.view_is
