use Rattle.std.proofs.Common.{◌≡◌, ap, sym, subst, ◌∙◌}
use Rattle.std.specs.Prelude.{Some, Option}
use Rattle.std.specs.Option.{option_map_or}
use Rattle.serde_json.specs.Data.{Items}
use Rattle.serde_json.specs.View.{view, items_view}
use Rattle.serde_json.specs.Find.{as_array}
use Rattle.snapshot_reader.specs.Written.{Line, ◌>>=◌, facts_in, writes, malformed}
use Rattle.snapshot_reader.specs.Said.{line_says}
use Rattle.snapshot_reader.specs.Answers.{Tells}
use Rattle.snapshot_reader.proofs.JsonFacts.{with_facts, without_facts}
use Rattle.snapshot_reader.proofs.json_lines.read_value.Goals as goal

pub returns-in_default : goal.returns-in_default
returns-in_default c =
    let o = c.args.ontology.now in
    subst (λ (l : Line). Tells c.read_named.result (line_says o l))
    (sym (without_facts (view c.args.value.now) (sym c.in_default.ensures)))
    (c.read_named.ensures o)

pub returns-in-Some-as_array : goal.returns-in-Some-as_array
returns-in-Some-as_array c =
    let o = c.args.ontology.now in
    let member = view c.in-Some.member.now in
    let list = items_view c.as_slice.result.now in
    let is : as_array member ≡ Some list =
    sym (ap (λ vs. Some (items_view vs)) c.as_slice.ensures.value ∙ c.in-Some-as_array.ensures) in
    subst (λ (l : Line). Tells c.read_list.result (line_says o l))
    (sym (with_facts (view c.args.value.now) member (sym c.in-Some.ensures)
    ∙ ap (λ (found : Option Items). option_map_or writes (found >>= facts_in) malformed) is))
    c.read_list.ensures

pub returns-in-None : goal.returns-in-None
returns-in-None c =
    let o = c.args.ontology.now in
    let member = view c.in-Some.member.now in
    ap (λ (l : Line). line_says o l)
    (with_facts (view c.args.value.now) member (sym c.in-Some.ensures)
    ∙ ap (λ (found : Option Items). option_map_or writes (found >>= facts_in) malformed)
    (sym c.in-None.ensures))
