-- What the tables of the nodes say, or where there is no tuple tables without one.
use Rattle.std.proofs.Common.{◌≡◌, ◌^◌, ℕ, zero, true, false, length, refl, sym, subst}
use Rattle.std.proofs.Common.{arith, inl, inr}
use Rattle.std.specs.Prelude.{Vec}
use Rattle.std.specs.Global.{Global}
use Rattle.std.specs.List.{AllZip}
use Rattle.std.proofs.lemmas.Bool.{cases_lt}
use Rattle.answer_tables.specs.Table.{Antichains}
use Rattle.progression.specs.declared.kept.Kept.{Kept}
use Rattle.checkpoint_state.specs.Resuming.{AreTablesBelow, IsTableOf}
use Rattle.checkpoint_state.proofs.Tabling.{resumed_empty, resumed_tables}
use Rattle.checkpoint_state.proofs.tables.kept_of.Goals as goal

abbrev made : ℕ → Vec (ℕ × Antichains) Global → Kept
made count tables = record { count = count; tables = tables }

pub returns : goal.returns
returns c =
    let lists = c.args.lists.now in
    let query = c.args.query.now in
    let slots = c.args.slots in
    let accepted = c.args.accepted in
    let nodes = c.args.nodes.now in
    elim c.if-accepted-gt0.branch [
      | goal.then-accepted-gt0+then-has_no_tuple+in_ok-tables w ↦
          resumed_empty lists c.requires.distinct query slots accepted nodes c.requires.kept
          w.in_ok-tables.ensures.table (made accepted c.if-accepted-gt0.tables)
          (length query.nodes) refl w.if-accepted-gt0.true (w.if-has_no_tuple.ensures.0 refl) refl
          (subst (λ (ts : Vec (ℕ × Antichains) Global).
          AreTablesBelow query slots (length query.nodes) ts.items) (sym w.tables-is)
          w.in_ok-tables.ensures.each)
      | goal.else-accepted-gt0+in_ok-tables-2 w ↦
          resumed_tables lists c.requires.distinct query slots accepted nodes c.requires.kept
          (made accepted c.if-accepted-gt0.tables) refl
          (elim w.else-accepted-gt0.branch [
            | goal.else-accepted-gt0-via-then-accepted-gt0+else-has_no_tuple v ↦
                elim (cases_lt zero (slots ^ query.vars)) [
                  | inl more ↦ inl more
                  | inr none ↦ let is : slots ^ query.vars ≡ 0 = omega (arith, none) in
                      let differ : false ≡ true = v.if-has_no_tuple.ensures.1 is in absurd (cc)
                ]
            | goal.else-accepted-gt0-via-else-accepted-gt0 v ↦
                inr (let none = v.if-accepted-gt0.false in omega (arith, none))
          ])
          (subst (λ (ts : Vec (ℕ × Antichains) Global).
          AllZip (IsTableOf lists query slots) nodes ts.items) (sym w.tables-is)
          w.in_ok-tables-2.ensures)
    ]
