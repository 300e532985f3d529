use Rattle.std.proofs.Common.{ℕ, List, Option, sym, subst, Vec, Global}
use Rattle.std.specs.Prelude.{IfSome}
use Rattle.std.proofs.lemmas.Result.{IfOk-weaker}
use Rattle.answer_tables.specs.declared.run.Run.{Run}
use Rattle.answer_tables.specs.Runs.{unit_runs}
use Rattle.answer_tables.specs.Renaming.{AreRenamed}
use Rattle.answer_tables.proofs.Renamings.{AreRenamed-alike, AreRenamed-of_alike}
use Rattle.answer_tables.proofs.renaming.replaced.Goals as goal

pub returns-in-Some-2 : goal.returns-in-Some-2
returns-in-Some-2 c =
    let places = c.args.places.now in
    let ranks = c.args.ranks.now in
    let new = c.in-Some-2.new.items in
    let told : AreRenamed places (unit_runs 0 c.in-Some.bytes.now) (unit_runs 0 new) =
    subst (λ (o : Option (Vec ℕ Global)).
    IfSome o (λ x. AreRenamed places (unit_runs 0 c.in-Some.bytes.now) (unit_runs 0 x.items)))
    c.in-Some-2.is c.in_ok-new.ensures in
    let renamed : AreRenamed places ranks c.from_bytes.result =
    subst (λ (rs : List Run). AreRenamed places rs c.from_bytes.result) c.in-Some.ensures
    (subst (AreRenamed places (unit_runs 0 c.in-Some.bytes.now)) (sym c.from_bytes.ensures)
    told) in
    IfOk-weaker c.settled.result _ _ (λ (rs : List Run) alike.
    AreRenamed-alike places ranks c.from_bytes.result rs renamed alike) c.settled.ensures

pub returns : goal.returns
returns c =
    let places = c.args.places.now in
    let ranks = c.args.ranks.now in
    let runs = c.in_ok-runs.runs.items in
    let new = c.in_ok-new-2.new.items in
    let told : AreRenamed places runs new =
    subst (λ (rs : List Run). AreRenamed places rs new) c.as_slice.ensures.value
    c.in_ok-new-2.ensures in
    let renamed : AreRenamed places ranks c.from_runs.result =
    subst (AreRenamed places ranks) (sym c.from_runs.ensures)
    (AreRenamed-of_alike places ranks runs new c.in_ok-runs.ensures told) in
    IfOk-weaker c.settled-2.result _ _ (λ (rs : List Run) alike.
    AreRenamed-alike places ranks c.from_runs.result rs renamed alike) c.settled-2.ensures
