use Rattle.std.proofs.Common.{◌≡◌, sym, ◌∙◌, ap, arith, codes, decimal}
use Rattle.std.proofs.lemmas.List.{append_cancel_left}
use Rattle.std.proofs.lemmas.Fmt.{decimal_injective}
use Rattle.run_proofs.specs.Shows.{clash_of}
use Rattle.run_proofs.proofs.AskedLines.{not_there}
use Rattle.run_proofs.proofs.asking.read_known_clash.Goals as goal

pub returns-in-None : goal.returns-in-None
returns-in-None c n small some is =
    let same : c.in-Some.number ≡ n = decimal_injective c.in-Some.number n (omega arith)
    (omega arith) (append_cancel_left (codes "proof clash ") (decimal c.in-Some.number)
    (decimal n) (sym c.in-Some.ensures ∙ is)) in
    not_there (clash_of c.args.ontology.now.clashes n)
    (c.in-None.ensures ∙ ap (clash_of c.args.ontology.now.clashes) same) some
