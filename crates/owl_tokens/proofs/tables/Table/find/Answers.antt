use Rattle.std.proofs.Common.{◌≡◌, ℕ, List, Vec, Global, Option, Some, None, ◌∙◌, ap}
use Rattle.std.specs.Option.{option_map}
use Rattle.std.specs.Str.{bytes_eq}
use Rattle.std.specs.Map.{lookup}
use Rattle.owl_tokens.specs.Tables.{Table, looked_up}
use Rattle.owl_tokens.proofs.TableLemmas.{Texts, bytes_of, seen, found}
use Rattle.owl_tokens.proofs.tables.Table.find.Goals as goal

answered : (key : List ℕ) (entries : Texts) (table : Table) (answer : Option (Vec ℕ Global))
    → seen entries ≡ table → answer ≡ lookup (λ k. bytes_eq key k.items) entries
    → option_map bytes_of answer ≡ looked_up key table
answered key entries table answer view is =
    ap (option_map bytes_of) is ∙ found key entries ∙ ap (looked_up key) view

pub returns-in-Some : goal.returns-in-Some
returns-in-Some c =
    ap Some c.as_slice.ensures.value ∙ answered c.args.key.now c.self.inside.entries.entries
    c.args.self.now (Some c.in-Some.text.now) c.self.view_is c.in-Some.ensures.value

pub returns-in-None : goal.returns-in-None
returns-in-None c = answered c.args.key.now c.self.inside.entries.entries c.args.self.now None
    c.self.view_is c.in-None.ensures.value
