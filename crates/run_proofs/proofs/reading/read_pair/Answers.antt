use Rattle.std.proofs.Common.{sym, ◌∙◌, subst, arith, decimal}
use Rattle.run_proofs.proofs.Words.{Free, first_space, no_space, decimal_free}
use Rattle.run_proofs.proofs.reading.read_pair.Goals as goal

pub returns-in_default : goal.returns-in_default
returns-in_default c m n small fits is =
    no_space (decimal m) (decimal n) (subst Free is c.in_default.ensures)

pub returns-in_default-read_number : goal.returns-in_default-read_number
returns-in_default-read_number c m n small fits is =
    let parts = first_space c.in-Some.one.now (decimal m) c.in-Some.other.now (decimal n)
    c.in-Some.ensures.1 (decimal_free m (omega arith)) (sym c.in-Some.ensures.0 ∙ is) in
    c.in_default-read_number.ensures m small parts.0

pub returns-in_default-read_number-2 : goal.returns-in_default-read_number-2
returns-in_default-read_number-2 c m n small fits is =
    let parts = first_space c.in-Some.one.now (decimal m) c.in-Some.other.now (decimal n)
    c.in-Some.ensures.1 (decimal_free m (omega arith)) (sym c.in-Some.ensures.0 ∙ is) in
    c.in_default-read_number-2.ensures n fits parts.1
