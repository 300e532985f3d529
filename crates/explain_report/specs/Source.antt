-- What a report is given of a snapshot.
use Rattle.std.specs.Prelude.{◌≡◌, ◌≤◌, List, length}
use Rattle.std.specs.List.{All}
use Rattle.dl_syntax.specs.declared.facts.Fact.{Fact}
use Rattle.dl_syntax.specs.Encode.{IsOverOntology}
use Rattle.dl_syntax.specs.Ontology.{Declared}
use Rattle.report_text.specs.Names.{Text}
use Rattle.run_proofs.specs.Texts.{snapshot_text}
use Rattle.run_proofs.specs.Writable.{IsWritableFact}
use Rattle.proof_search.specs.Explaining.{HaveSame}
use Rattle.explain_report.specs.declared.proof_lines.Source.{Source}
use Rattle.explain_report.specs.Answers.{Task}

-- the snapshot is over the ontology, its facts can be written and are no more than a line writes,
-- the index has the same facts, and this is their line
pub record IsGiven (o : Declared) (snapshot index : List Fact) (line : Text) : Type 0 where
  pub over : IsOverOntology o snapshot
  pub writable : All (IsWritableFact o) snapshot
  pub few : length snapshot ≤ 65536
  pub same : HaveSame index snapshot
  pub written : line ≡ snapshot_text o snapshot

-- what the proofs are told of
abbrev pub task_in : Source → Task
task_in source = source.explainer.now

abbrev pub IsSource : Source → Type 0
IsSource source =
    IsGiven source.explainer.now.ontology source.snapshot.now source.index.now source.line.now
