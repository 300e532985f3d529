use Rattle.std.proofs.Common.{◌+◌, ◌*◌, ◌<◌, ℕ, arith, sym, ap, ◌∙◌, take}
use Rattle.std.specs.Prelude.{slice_index_or}
use Rattle.std.proofs.lemmas.List.{take_more}
use Rattle.answer_tables.specs.Tuples.{number}
use Rattle.answer_tables.proofs.Numbers.{next_below, within_all, number-push}
use Rattle.answer_tables.proofs.table.number_of.Goals as goal

pub overflow_mul-number : goal.overflow_mul-number
overflow_mul-number c =
    let i = c.loop-individual.individual-index in
    let x = (slice_index_or c.args.tuple.now i (record { 0 = 0 })).0 in
    let less : x < c.args.slots =
    c.requires.below i (record { 0 = 0 }) c.loop-individual-test.true in
    let below = next_below c.loop-individual.number c.args.slots i x
    c.loop-individual.invariant.bound less in
    let all = within_all c.args.slots i _ x less c.loop-individual-test.true c.requires.few in
    omega (arith, below, all)

pub overflow_add-number : goal.overflow_add-number
overflow_add-number c =
    let i = c.loop-individual.individual-index in
    let x = (slice_index_or c.args.tuple.now i (record { 0 = 0 })).0 in
    let less : x < c.args.slots =
    c.requires.below i (record { 0 = 0 }) c.loop-individual-test.true in
    let below = next_below c.loop-individual.number c.args.slots i x
    c.loop-individual.invariant.bound less in
    let all = within_all c.args.slots i _ x less c.loop-individual-test.true c.requires.few in
    omega (arith, below, all)

pub loop-individual-preserved : goal.loop-individual-preserved
loop-individual-preserved c =
    let i = c.loop-individual.individual-index in
    let x = slice_index_or c.args.tuple.now i (record { 0 = 0 }) in
    let less : x.0 < c.args.slots =
    c.requires.below i (record { 0 = 0 }) c.loop-individual-test.true in
    record {
      value = ap (λ (n : ℕ). n * c.args.slots + x.0) c.loop-individual.invariant.value ∙ sym
          (ap (number c.args.slots) (take_more c.args.tuple.now i (record {
            0 =
                0;
          }) c.loop-individual-test.true) ∙ number-push c.args.slots (take i c.args.tuple.now) x);
      bound = next_below c.loop-individual.number c.args.slots i x.0
          c.loop-individual.invariant.bound less;
    }
