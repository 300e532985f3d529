use Rattle.std.proofs.Common.{◌≡◌, [], ◌∷◌, ◌++◌, refl, sym, ap, ◌∙◌, arith, length-append}
use Rattle.std.proofs.lemmas.List.Elements.{All-nil, All-push}
use Rattle.json.specs.Token as json
use Rattle.snapshot_reader.specs.Written.{Written}
use Rattle.snapshot_reader.specs.Cursor.{written_seen}
use Rattle.snapshot_reader.specs.Tokens.{facts_before, IsSpelled}
use Rattle.snapshot_reader.proofs.PlainLine.{one_more_fact}
use Rattle.snapshot_reader.proofs.plain_lines.next_facts.Goals as goal

pub loop-init : goal.loop-init
loop-init c =
    let start = c.new-gathered.ensures c.args.ontology.now in
    record { few = omega (arith, start.count); gathered = ([], refl, All-nil IsSpelled, start) }

pub loop-preserved : goal.loop-preserved
loop-preserved c =
    let before = c.loop.invariant.gathered in
    let done = before.0 in
    let w : Written = written_seen c.in-Some.written in
    let first : c.loop.reader ≡ json.begin_array ∷ c.next.new.self = grind arith in
    let fact = c.in-Some.ensures in
    let after = c.in_ok-gather-in-Some-BeginArray.ensures done before.3 in
    record {
      few = omega (
        arith,
        after.count,
        before.3.count,
        length-append done (w ∷ []),
        c.loop.invariant.few,
      );
      gathered = (
        done ++ w ∷ [],
        before.1 ∙ ap (facts_before done) (first ∙ ap (λ ts. json.begin_array ∷ ts) fact.0) ∙ sym
            (one_more_fact done w c.next_fact.new.reader),
        All-push IsSpelled done w before.2 fact.1,
        after,
      );
    }
