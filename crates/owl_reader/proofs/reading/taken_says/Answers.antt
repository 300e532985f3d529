use Rattle.std.proofs.Common.{◌≡◌, ℕ, List, Option, Result, Err, sym, ap, ◌∙◌, map}
use Rattle.dl_syntax.specs.Ontology.{Declared}
use Rattle.owl_reader.specs.declared.entities.SayFault.{SayFault}
use Rattle.owl_reader.specs.declared.entities.SayFault.TheVariants as say
use Rattle.owl_reader.specs.declared.reading.OwlFault.{OwlFault}
use Rattle.owl_reader.specs.declared.reading.OwlFault.TheVariants as fault
use Rattle.owl_tokens.specs.Tokens.{Lexeme}
use Rattle.owl_documents.specs.Documents.{Document}
use Rattle.owl_documents.specs.ItemViews.{item_seen}
use Rattle.owl_reader.specs.Statements.{Said}
use Rattle.owl_reader.specs.StatementViews.{Says}
use Rattle.owl_reader.specs.Reading.{Fault, FaultAt, fault_of, taken_says, with_lines}
use Rattle.owl_reader.specs.Reading.{IsFlawed, Tells}
use Rattle.owl_reader.proofs.reading.taken_says.Goals as goal

lined : (text : List ℕ) (said : Said Declared) (whole : Result Declared FaultAt) (f : SayFault)
    (out : OwlFault) → Says {X = Declared} (Err f) said (λ o. o) → IsFlawed text f out
    → whole ≡ with_lines text said → Tells (Err out) whole
lined text said whole (say.Flaw place flaw) (fault.Bad line what) is flawed before =
    before ∙ ap (with_lines text) is ∙ ap (λ (n : ℕ). let r : Result Declared FaultAt =
    Err (n, fault_of flaw) in r) (sym flawed.0) ∙ ap (λ (k : Fault).
    let r : Result Declared FaultAt = Err (line, k) in r) (sym flawed.1)
lined text said whole (say.Flaw place flaw) fault.Memory is flawed before = tt
lined text said whole say.Memory (fault.Bad line what) is flawed before = elim flawed [ ]
lined text said whole say.Memory fault.Memory is flawed before = tt

pub returns-in-Ok : goal.returns-in-Ok
returns-in-Ok c =
    let text = c.args.text.now in
    let d : Document = record {
      known = c.args.known.now;
      items =
          map (item_seen text) c.args.items.now;
    } in
    ap (λ (r : Option Lexeme). taken_says text d r) (sym (c.in-None.ensures text)) ∙ ap
    (with_lines text) c.in-Ok.ensures

pub returns-in-Err : goal.returns-in-Err
returns-in-Err c =
    let text = c.args.text.now in
    let d : Document = record {
      known = c.args.known.now;
      items =
          map (item_seen text) c.args.items.now;
    } in
    lined text _ _ c.in-Err.fault c.flawed.result c.in-Err.ensures c.flawed.ensures
    (ap (λ (r : Option Lexeme). taken_says text d r) (sym (c.in-None.ensures text)))
