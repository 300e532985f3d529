use Rattle.std.proofs.Common.{◌≡◌, ◌^◌, ◌<◌, ◌≤◌, Bool, ℕ, List, [], length, get_or, sym, ◌∙◌, ap}
use Rattle.std.proofs.Common.{subst, arith}
use Rattle.std.specs.Prelude.{slice_index_or}
use Rattle.std.proofs.lemmas.List.{get_or_default}
use Rattle.antichains.specs.Sets.{holds}
use Rattle.dl_syntax.specs.Rows.{Relation}
use Rattle.answer_tables.specs.declared.run.Run.{Run}
use Rattle.answer_tables.specs.Table.{antichain_at}
use Rattle.answer_tables.proofs.Runs.{run_at, Rest-here, Rest-above, Rest-next, Rest-within}
use Rattle.answer_tables.proofs.Runs.{Rest-end}
use Rattle.answer_tables.proofs.Listing.{Gathers, Gathers-held, Gathers-passed, Gathers-exact}
use Rattle.answer_tables.proofs.table.Table.tuples_holding.Goals as goal
use Rattle.answer_tables.proofs.table.Table.tuples_holding.Goals.{then-holds+in_ok-push_tuples}
use Rattle.answer_tables.proofs.table.Table.tuples_holding.Goals.{else-holds}

pub push_tuples-requires-clause-within : goal.push_tuples-requires-clause-within
push_tuples-requires-clause-within c =
    let slots = c.self.inside.slots in
    let runs = c.self.inside.ranks.value in
    let i = c.loop-place.place in
    let inside : i < length runs =
    omega (
      arith,
      c.loop-place-test.true,
      c.len-place-end.ensures,
      ap (λ (rs : List Run).
          length rs) c.deref.ensures,
    ) in
    let last : (run_at runs i).end ≤ slots ^ c.self.inside.arity =
    Rest-within runs i c.loop-place.start (slots ^ c.self.inside.arity)
    c.loop-place.invariant.rest inside in
    let same_run : c.run-run.result ≡ run_at runs i =
    c.run-run.ensures ∙ ap (λ (rs : List Run). run_at rs i) c.deref-in-loop-place.ensures in
    subst (λ (r : Run). r.end ≤ slots ^ c.loop-place.rows.arity) (sym same_run)
    (subst (λ (k : ℕ). (run_at runs i).end ≤ slots ^ k)
    (sym c.loop-place.invariant.gathers.arity_is) last)

pub loop-place-preserved : goal.loop-place-preserved
loop-place-preserved c =
    let slots = c.self.inside.slots in
    let arity = c.self.inside.arity in
    let links = c.self.inside.links.items in
    let runs = c.self.inside.ranks.value in
    let i = c.loop-place.place in
    let start = c.loop-place.start in
    let same_run : c.run-run.result ≡ run_at runs i =
    c.run-run.ensures ∙ ap (λ (rs : List Run). run_at rs i) c.deref-in-loop-place.ensures in
    let inside : i < length runs =
    omega (
      arith,
      c.loop-place-test.true,
      c.len-place-end.ensures,
      ap (λ (rs : List Run).
          length rs) c.deref.ensures,
    ) in
    let end : ℕ = c.run-run.result.end in
    let end_is : (run_at runs i).end ≡ end = ap (λ (r : Run). r.end) (sym same_run) in
    let test : ℕ → Bool = λ n. holds (antichain_at links runs n) c.args.set in
    let small : (run_at runs i).link < length links =
    c.self.invariant.are.named i (record { end = 0; link = 0 }) inside in
    let antichain : c.antichain.result.now ≡ slice_index_or links (run_at runs i).link [] =
    c.antichain.ensures ∙ c.index.ensures ∙ ap (λ (k : ℕ).
    get_or links k c.index.result.now) (ap (λ (r : Run). r.link) same_run) ∙ get_or_default
    links (run_at runs i).link c.index.result.now [] small in
    let told : (n : ℕ) → start ≤ n → n < end → test n ≡ c.holds.result = λ n from below.
    ap (λ (k : ℕ). holds (slice_index_or links k []) c.args.set)
    (Rest-here runs i start (slots ^ arity) n c.loop-place.invariant.rest inside from
    (omega (arith, below, end_is)))
    ∙ ap (λ (x : List ℕ). holds x c.args.set) (sym antichain) ∙ sym c.holds.ensures in
    let up : start ≤ end = (let above =
    Rest-above runs i start (slots ^ arity) c.loop-place.invariant.rest inside in
    omega (arith, above, end_is)) in
    record {
      gathers = elim c.if-holds.branch [
        | then-holds+in_ok-push_tuples w ↦
            subst (λ (r : Relation). Gathers slots c.args.bound arity test r end) (sym w.rows-is)
            (Gathers-held slots c.args.bound arity test c.loop-place.rows w.push_tuples.new.rows
            start end
            c.loop-place.invariant.gathers w.in_ok-push_tuples.ensures (λ n from below.
            told n from below ∙ w.if-holds.true))
        | else-holds w ↦ subst (λ (r : Relation). Gathers slots c.args.bound arity test r end)
            (sym w.rows-is)
            (Gathers-passed slots c.args.bound arity test c.loop-place.rows start end
            c.loop-place.invariant.gathers up (λ n from below.
            told n from below ∙ w.if-holds.false))
      ];
      rest = Rest-next runs i start (slots ^ arity) end c.loop-place.invariant.rest inside end_is;
    }

pub returns-clause-exact : goal.returns-clause-exact
returns-clause-exact c =
    let slots = c.self.inside.slots in
    let arity = c.self.inside.arity in
    let runs = c.self.inside.ranks.value in
    let past : length runs ≤ c.loop-place.place =
    (let test = c.loop-place-test.false in
    omega (
      arith,
      test,
      c.len-place-end.ensures,
      ap (λ (rs : List Run).
          length rs) c.deref.ensures,
    )) in
    Gathers-exact slots c.args.bound arity c.self.inside.links.items runs c.args.self.now
    c.args.set c.loop-place.rows c.loop-place.start c.requires c.self.view_is
    (Rest-end runs c.loop-place.place c.loop-place.start (slots ^ arity)
    c.loop-place.invariant.rest past) c.loop-place.invariant.gathers
