use Rattle.std.proofs.Common.{sym, ◌∙◌, subst, decimal}
use Rattle.checkpoint_reader.specs.Lines.{Lacks}
use Rattle.checkpoint_reader.proofs.Cuts.{no_cut}
use Rattle.checkpoint_reader.proofs.Items.{pair_parts}
use Rattle.checkpoint_reader.proofs.stretches.stretch_of.Goals as goal

pub returns-in_default : goal.returns-in_default
returns-in_default c s small fits is =
    no_cut 58 (decimal s.count) (decimal s.list) (subst (Lacks 58) is c.in_default.ensures)

pub returns-in_default-read_number : goal.returns-in_default-read_number
returns-in_default-read_number c s small fits is =
    let parts = pair_parts c.in-Some.first.now c.in-Some.second.now s.count s.list
    c.in-Some.ensures.1 small (sym c.in-Some.ensures.0 ∙ is) in
    c.in_default-read_number.ensures s.count small parts.0

pub returns-in_default-read_number-2 : goal.returns-in_default-read_number-2
returns-in_default-read_number-2 c s small fits is =
    let parts = pair_parts c.in-Some.first.now c.in-Some.second.now s.count s.list
    c.in-Some.ensures.1 small (sym c.in-Some.ensures.0 ∙ is) in
    c.in_default-read_number-2.ensures s.list fits parts.1
