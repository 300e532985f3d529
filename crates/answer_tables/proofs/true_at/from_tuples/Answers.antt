use Rattle.std.proofs.Common.{◌≡◌, Bool, cond, not, ℕ, List, [], ◌∷◌, length, sym, ◌∙◌, ap, subst}
use Rattle.std.specs.Prelude.{All}
use Rattle.std.proofs.lemmas.Result.{IfOk-weaker}
use Rattle.formula_store.proofs.Lists.{Contains-Extends}
use Rattle.answer_tables.specs.declared.run.Run.{Run}
use Rattle.answer_tables.specs.Runs.{link_at}
use Rattle.answer_tables.specs.Tuples.{number}
use Rattle.answer_tables.specs.Table.{Antichains}
use Rattle.answer_tables.specs.Combining.{LinksAreIn}
use Rattle.answer_tables.proofs.Two.{empty_other, picked_in, pick, three_facts}
use Rattle.answer_tables.proofs.true_at.from_tuples.Goals as goal

pub returns-then-has_no_individuals-clause-others :
    goal.returns-then-has_no_individuals-clause-others
returns-then-has_no_individuals-clause-others c =
    let wide : All (λ row. length row ≡ length c.args.places.now) c.args.rows.now.rows =
    subst (λ (k : ℕ). All (λ row. length row ≡ k) c.args.rows.now.rows) (sym c.requires.many)
    c.requires.wide in
    IfOk-weaker c.fill.result _ _ (λ (t : Antichains) same tuple tup absent.
    same tuple tup ∙ c.in_ok-link.ensures.link
    ∙ ap (λ (b : Bool). cond (not b) (0 ∷ []) [])
    (c.is_empty.ensures.1 (empty_other c.args.slots c.args.arity c.args.places.now
    c.args.rows.now.rows tuple (c.has_no_individuals.ensures.yes c.if-has_no_individuals.true)
    c.requires.within wide tup absent)))
    c.fill.ensures.same

pub returns-clause-stored : goal.returns-clause-stored
returns-clause-stored c =
    let store = c.fixed_link-3.new.store in
    let never = c.in_ok-never.never in
    let always = c.in_ok-always.always in
    let runs = c.in_ok-runs.runs.items in
    three_facts c.from_two.result _ _ _ (λ t. LinksAreIn t store)
    (λ (t : Antichains) slots arity each.
    picked_in c.args.slots c.args.arity runs c.in_ok-runs.ensures.ends
    c.in_ok-runs.ensures.named never always store t slots arity
    (Contains-Extends c.fixed_link-2.new.store store never c.in_ok-always.ensures.grown
    c.in_ok-never.ensures.stored) c.in_ok-always.ensures.stored
    (λ tuple tup. each tuple tup ∙ ap (λ (rs : List Run).
    pick never always (link_at rs (number c.args.slots tuple))) c.as_slice.ensures.value))
    c.from_two.ensures.slots c.from_two.ensures.arity c.from_two.ensures.each
