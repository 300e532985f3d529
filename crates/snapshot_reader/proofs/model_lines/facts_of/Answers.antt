use Rattle.std.proofs.Common.{◌∷◌, [], ◌++◌, List, Vec, Global, map, take, get_or, sym, ap, ◌∙◌}
use Rattle.std.proofs.Common.{append-nil}
use Rattle.std.specs.Prelude.{Some, None, filter_map}
use Rattle.dl_syntax.specs.declared.facts.Fact.{Fact}
use Rattle.snapshot_reader.specs.Written.{Written}
use Rattle.snapshot_reader.specs.Cursor.{written_seen}
use Rattle.snapshot_reader.specs.ModelLines.{model_fact}
use Rattle.snapshot_reader.proofs.ModelFacts.{no_fact, seen_more, fact_more}
use Rattle.snapshot_reader.proofs.model_lines.facts_of.Goals as goal
use Rattle.snapshot_reader.proofs.model_lines.facts_of.Goals.{in-Some+in_ok-push, in_default}

pub loop-each-preserved : goal.loop-each-preserved
loop-each-preserved c =
    let o = c.args.ontology.now in
    let further = c.args.further.now in
    let written = c.args.written.now in
    let i = c.loop-each.each-index in
    let done : List Written = map written_seen (take i written) in
    let each : Written = written_seen (get_or written i no_fact) in
    let more = sym (ap (filter_map (model_fact o further)) (seen_more written i
    c.loop-each-test.true)) in
    elim c.match-fact_of.branch [
      | in-Some+in_ok-push w ↦
          ap (λ (v : Vec Fact Global). v.items) w.facts-is ∙ w.in_ok-push.ensures.items
          ∙ ap (λ (fs : List Fact). fs ++ w.in-Some.fact ∷ []) c.loop-each.invariant
          ∙ sym (fact_more o further done each (Some w.in-Some.fact) w.in-Some.ensures) ∙ more
      | in_default w ↦
          ap (λ (v : Vec Fact Global). v.items) w.facts-is ∙ c.loop-each.invariant
          ∙ sym (append-nil (filter_map (model_fact o further) done))
          ∙ sym (fact_more o further done each None (sym w.in_default.is ∙ c.fact_of.ensures))
          ∙ more
    ]
