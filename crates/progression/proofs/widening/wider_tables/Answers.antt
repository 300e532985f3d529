-- One table more.
use Rattle.std.proofs.Common.{◌≡◌, ℕ, ◌+◌, List, ◌++◌, [], ◌∷◌, take, sym, ◌∙◌, ap, subst, arith}
use Rattle.std.specs.List.{AllZip}
use Rattle.std.proofs.lemmas.List.{take_more, take_all}
use Rattle.std.proofs.lemmas.List.Elements.{All-get_or}
use Rattle.std.proofs.lemmas.Slice.Zip.{all_zipped_more}
use Rattle.answer_tables.specs.Table.{Antichains}
use Rattle.progression.specs.Widening.{CanWiden, IsWiderEntry}
use Rattle.progression.proofs.widening.wider_tables.Goals as goal

pub wider_entry-requires : goal.wider_entry-requires
wider_entry-requires c =
    subst (λ (e : ℕ × Antichains). CanWiden c.args.more e.1) (sym c.entry-item.is)
    (All-get_or (λ (e : ℕ × Antichains). CanWiden c.args.more e.1) c.args.tables.now
    c.loop-entry.entry-index c.entry-item.result c.loop-entry-test.true c.requires)

pub loop-entry-preserved : goal.loop-entry-preserved
loop-entry-preserved c =
    let tables = c.args.tables.now in
    let i = c.loop-entry.entry-index in
    let entry = c.entry-item.result in
    let longer : take (i + 1) tables ≡ take i tables ++ entry ∷ [] =
    take_more tables i entry c.loop-entry-test.true ∙ ap (λ (e : ℕ × Antichains).
    take i tables ++ e ∷ []) (sym c.entry-item.is) in
    subst (AllZip (IsWiderEntry c.args.more) (take (i + 1) tables)) (sym c.in_ok-push.ensures.items)
    (subst (λ (es : List (ℕ × Antichains)). AllZip (IsWiderEntry c.args.more) es
    (c.loop-entry.wider.items ++ c.in_ok-new.new ∷ [])) (sym longer)
    (all_zipped_more (IsWiderEntry c.args.more) (take i tables) c.loop-entry.wider.items entry
    c.in_ok-new.new c.loop-entry.invariant c.in_ok-new.ensures))

pub returns : goal.returns
returns c =
    subst (λ (es : List (ℕ × Antichains)). AllZip (IsWiderEntry c.args.more) es
    c.loop-entry.wider.items)
    (take_all c.loop-entry.entry-index c.args.tables.now (omega (arith, c.loop-entry-test.false)))
    c.loop-entry.invariant
