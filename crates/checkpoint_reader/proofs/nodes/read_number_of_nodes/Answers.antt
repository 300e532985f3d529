use Rattle.std.proofs.Common.{◌≡◌, ◌<◌, ◌^◌, ◌++◌, length, codes, decimal, arith}
use Rattle.std.proofs.lemmas.Fmt.{decimal_injective}
use Rattle.checkpoint_text.specs.Text.{query_line}
use Rattle.checkpoint_reader.proofs.Cuts.{same_back}
use Rattle.checkpoint_reader.proofs.Progressing.{other_line}
use Rattle.checkpoint_reader.proofs.nodes.read_number_of_nodes.Goals as goal

pub returns-else-count-len : goal.returns-else-count-len
returns-else-count-len c =
    let count = c.in-Some.count in
    let many = length c.args.asked.now.places.items in
    other_line (λ line. line ≡ query_line many) c.args.bytes.now c.args.place c.in-Some.next
    (codes "query " ++ decimal count) c.in-Some.ensures.0
    (λ same. let fits : count < 2 ^ 64 = c.in-Some.ensures.1 in
    let small : many < 2 ^ 64 = omega arith in
    let is : count ≡ many = decimal_injective count many fits small
    (same_back (codes "query ") (decimal count) (decimal many) same) in
    omega (arith, is, c.if-count-len.false))
