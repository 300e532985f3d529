use Rattle.std.proofs.Common.{◌≡◌, [], ◌∷◌, ap, ◌∙◌, arith}
use Rattle.std.specs.Prelude.{codes}
use Rattle.json.specs.Token as json
use Rattle.snapshot_reader.specs.Tokens.{facts_before, members_before}
use Rattle.snapshot_reader.proofs.PlainLine.{line_tokens, line_facts}
use Rattle.snapshot_reader.proofs.plain_lines.gather_plain.Goals as goal

pub returns-in-None : goal.returns-in-None
returns-in-None c =
    let opened : c.args.reader.now ≡ json.begin_object ∷ c.next.new.self = grind arith in
    let before = rw c.in-Some-true.field-0-test at c.in-Some-true.ensures in
    let list : c.pass_members.new.reader ≡ json.begin_array ∷ c.next-2.new.self = grind arith in
    let facts = rw c.in-Some.is at c.in_ok-gathered.ensures in
    let after = rw c.in-Some-false.field-0-test at c.in-Some-false.ensures in
    let ended : c.pass_members-2.new.reader ≡ [] = grind arith in
    let tail = facts.1 ∙ ap (λ ts. facts_before facts.0 (json.end_array ∷ ts))
    (after.1 ∙ ap (λ ts. members_before after.0 (json.end_object ∷ ts)) ended) in
    let whole : c.args.reader.now ≡ line_tokens before.0 facts.0 after.0 =
    opened ∙ ap (λ ts. json.begin_object ∷ ts)
    (before.1 ∙ ap (λ ts. members_before before.0 (json.key (codes "facts") ∷ ts))
    (list ∙ ap (λ ts. json.begin_array ∷ ts) tail)) in (
      facts.0,
      line_facts c.args.reader.now before.0 facts.0 after.0 whole before.2 facts.2 after.2,
      facts.3,
    )
