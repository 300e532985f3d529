use Rattle.std.proofs.Common.{arith, ap, length}
use Rattle.tcq_syntax.specs.declared.query.Sizes.{Sizes}
use Rattle.tcq_syntax.specs.Sizes.{futures}
use Rattle.tcq_syntax.proofs.Powers.{units_below}
use Rattle.tcq_reader.proofs.builder.Builder.add_query.Goals as goal

pub overflow_add-total : goal.overflow_add-total
overflow_add-total c =
    let valid = c.requires.valid in
    let q = c.args.query in
    omega (
      arith,
      ap (λ (s : Sizes). s.units) c.sizes.ensures,
      c.requires.sound.few_units,
      units_below (length q.nodes) c.args.individuals q.vars (futures q.nodes) valid.few_nodes
          c.requires.few valid.few_variables valid.few_futures,
    )
