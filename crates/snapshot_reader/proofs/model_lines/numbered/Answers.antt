use Rattle.std.proofs.Common.{List, ℕ, map, length, sym, ap, ◌∙◌, subst, arith}
use Rattle.std.specs.Prelude.{filter_map}
use Rattle.std.proofs.lemmas.List.{length-map}
use Rattle.dl_syntax.specs.declared.facts.Fact.{Fact}
use Rattle.dl_syntax.specs.Snapshots.{IsSnapshot}
use Rattle.snapshot_reader.specs.Written.{Written}
use Rattle.snapshot_reader.specs.Cursor.{written_seen}
use Rattle.snapshot_reader.specs.Said.{distinct}
use Rattle.snapshot_reader.specs.ModelLines.{model_fact, further_names}
use Rattle.snapshot_reader.proofs.FactsSaid.{distinct_sound}
use Rattle.snapshot_reader.proofs.ModelFacts.{facts_free, numbered_few}
use Rattle.snapshot_reader.proofs.model_lines.numbered.Goals as goal

pub returns : goal.returns
returns c =
    let o = c.args.ontology.now in
    let written = c.args.written.now in
    let ws : List Written = map written_seen written in
    let same = c.in_ok-kept.ensures ∙ ap distinct (c.in_ok-facts.ensures
    ∙ ap (λ (names : List (List ℕ)). filter_map (model_fact o names) ws)
    c.in_ok-further.ensures.names) in
    record {
      facts = same;
      sound = subst IsSnapshot (sym same)
          (distinct_sound (filter_map (model_fact o (further_names o ws)) ws)
          (facts_free o (further_names o ws) ws));
      few = omega (
        arith,
        ap (λ (fs : List Fact). length fs) same,
        numbered_few o ws,
        length-map written written_seen,
        c.requires,
      );
    }
