use Rattle.std.proofs.Common.{List, map, take, get_or, sym, subst}
use Rattle.snapshot_reader.specs.Written.{Written}
use Rattle.snapshot_reader.specs.Cursor.{written_seen}
use Rattle.snapshot_reader.specs.Gathering.{AreBlamedInModel}
use Rattle.snapshot_reader.proofs.ModelFacts.{no_fact, seen_more, blamed_more}
use Rattle.snapshot_reader.proofs.blaming.blamed_in_model.Goals as goal

pub loop-written-preserved : goal.loop-written-preserved
loop-written-preserved c =
    let o = c.args.ontology.now in
    let facts = c.args.facts.now in
    let i = c.loop-written.written-index in
    let done : List Written = map written_seen (take i facts) in
    let w : Written = written_seen (get_or facts i no_fact) in
    let e = c.add_of_model.ensures in
    subst (λ (ws : List Written). AreBlamedInModel o ws c.add_of_model.new.self)
    (sym (seen_more facts i c.loop-written-test.true))
    (blamed_more o done w c.loop-written.blamed c.add_of_model.new.self c.loop-written.invariant
    e.unknown e.misused e.misplaced)
