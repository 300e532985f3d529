use Rattle.std.proofs.Common.{◌∙◌, ◌<◌, refl, ap, sym, subst, List, map}
use Rattle.std.specs.List.{All}
use Rattle.dl_syntax.specs.declared.queries.Term.{Term}
use Rattle.progression.specs.Tables.{variable_of}
use Rattle.progression.proofs.Leaves.{small_variables, places_rise, places_within, Tabulates-leaf}
use Rattle.progression.proofs.own.answered.Goals as goal

pub variables-requires : goal.variables-requires
variables-requires c =
    subst (λ (head : List Term). All (λ x. variable_of x < 256) head) (sym c.as_slice.ensures)
    (small_variables c.args.arity c.args.q.now c.requires.leaf (map variable_of c.args.q.now.head)
    refl c.ranges.arity.fits)

pub marked-requires-clause-rising_places : goal.marked-requires-clause-rising_places
marked-requires-clause-rising_places c =
    places_rise c.args.arity c.args.q.now c.requires.leaf c.as_slice-2.result.now
    (c.as_slice-2.ensures.value ∙ c.in_ok-places.ensures ∙ ap (map variable_of)
    c.as_slice.ensures)

pub marked-requires-clause-within : goal.marked-requires-clause-within
marked-requires-clause-within c =
    places_within c.args.arity c.args.q.now c.requires.leaf c.as_slice-2.result.now
    (c.as_slice-2.ensures.value ∙ c.in_ok-places.ensures ∙ ap (map variable_of)
    c.as_slice.ensures)

pub returns-clause-table : goal.returns-clause-table
returns-clause-table c =
    Tabulates-leaf c.args.arity c.args.q.now c.requires.leaf c.as_slice-2.result.now
    (c.as_slice-2.ensures.value ∙ c.in_ok-places.ensures ∙ ap (map variable_of)
    c.as_slice.ensures)
    c.args.slots c.args.rows.now.rows c.marked.new.store c.marked.result c.marked.ensures.slots
    c.marked.ensures.arity c.marked.ensures.held c.marked.ensures.others c.marked.ensures.stored
