use Rattle.std.proofs.Common.{List, map, take, get_or, sym, ap, ◌∙◌, arith, length, ℕ}
use Rattle.std.specs.Prelude.{fold}
use Rattle.snapshot_reader.specs.Written.{Written, arguments}
use Rattle.snapshot_reader.specs.Cursor.{written_seen}
use Rattle.snapshot_reader.specs.ModelLines.{with_further, further_names}
use Rattle.snapshot_reader.proofs.ModelFacts.{no_fact, seen_more, few_further}
use Rattle.snapshot_reader.proofs.ModelFacts.{further_more}
use Rattle.snapshot_reader.proofs.further.further_names.Goals as goal

pub loop-written-preserved : goal.loop-written-preserved
loop-written-preserved c =
    let o = c.args.ontology.now in
    let facts = c.args.facts.now in
    let i = c.loop-written.written-index in
    let done : List Written = map written_seen (take i facts) in
    let w : Written = written_seen (get_or facts i no_fact) in
    let names : List (List ℕ) = c.loop-written.names in
    record {
      same = c.in_ok-add_arguments.ensures
          ∙ ap (λ (ns : List (List ℕ)). fold (with_further o) ns (arguments w))
          c.loop-written.invariant.same
          ∙ sym (further_more o done w)
          ∙ sym (ap (further_names o) (seen_more facts i c.loop-written-test.true));
      few = omega (
        arith,
        ap (λ (ns : List (List ℕ)). length ns) c.in_ok-add_arguments.ensures,
        few_further o names w,
        c.loop-written.invariant.few,
      );
    }
