use Rattle.std.proofs.Common.{◌≡◌, ◌-◌, ◌^◌, ◌<◌, ◌≤◌, ◌++◌, ◌∷◌, ℕ, List, [], length, replicate}
use Rattle.std.proofs.Common.{get_or, sym, ◌∙◌, ap, arith}
use Rattle.std.specs.Prelude.{slice_index_or, ◌≢◌}
use Rattle.std.proofs.lemmas.List.{get_or_default}
use Rattle.answer_tables.specs.declared.run.Run.{Run}
use Rattle.answer_tables.specs.Table.{antichain_at, links_of}
use Rattle.answer_tables.proofs.Runs.{run_at, Rest-start, Rest-here, Rest-above, Rest-next}
use Rattle.answer_tables.proofs.Runs.{Rest-end}
use Rattle.answer_tables.proofs.Ranks.{first_run, no_run}
use Rattle.answer_tables.proofs.LinkLists.{others, links_view, links_view_none, links_exact}
use Rattle.answer_tables.proofs.LinkLists.{links_exact_none, numbers_apart, others_run_same}
use Rattle.answer_tables.proofs.LinkLists.{others_run_differ}
use Rattle.answer_tables.proofs.table.Table.links.Goals as goal
use Rattle.answer_tables.proofs.table.Table.links.Goals.{then-run-usual+in_ok-push_copies}
use Rattle.answer_tables.proofs.table.Table.links.Goals.{else-run-usual}

pub returns-then-len-eq0-clause-links : goal.returns-then-len-eq0-clause-links
returns-then-len-eq0-clause-links c =
    let none : length c.self.inside.ranks.value ≡ 0 =
    omega (
      arith,
      c.len.ensures,
      c.if-len-eq0.true,
      ap (λ (rs : List Run).
          length rs) c.deref.ensures,
    ) in
    let empty = no_run c.self.inside.ranks.value c.self.inside.slots c.self.inside.arity
    c.self.inside.links.items c.self.invariant.are none in
    c.new-links.ensures.items ∙ sym (links_view_none c.self.inside.slots c.self.inside.arity
    c.self.inside.links.items c.self.inside.ranks.value empty) ∙ ap links_of c.self.view_is

pub returns-then-len-eq0-clause-exact : goal.returns-then-len-eq0-clause-exact
returns-then-len-eq0-clause-exact c =
    let none : length c.self.inside.ranks.value ≡ 0 =
    omega (
      arith,
      c.len.ensures,
      c.if-len-eq0.true,
      ap (λ (rs : List Run).
          length rs) c.deref.ensures,
    ) in
    let empty = no_run c.self.inside.ranks.value c.self.inside.slots c.self.inside.arity
    c.self.inside.links.items c.self.invariant.are none in
    links_exact_none c.self.inside.slots c.self.inside.arity c.self.inside.links.items
    c.self.inside.ranks.value c.args.self.now c.new-links.result.items c.self.view_is empty
    c.new-links.ensures.items

pub loop-place-init : goal.loop-place-init
loop-place-init c =
    let links = c.self.inside.links.items in
    let runs = c.self.inside.ranks.value in
    let full : 0 < length runs = (let some = c.if-len-eq0.false in
    omega (arith, some, c.len.ensures, ap (λ (rs : List Run). length rs) c.deref.ensures)) in
    let first = first_run runs c.self.inside.slots c.self.inside.arity links c.self.invariant.are
    full in
    let number : c.run-usual.result ≡ run_at runs 0 =
    c.run-usual.ensures ∙ ap (λ (rs : List Run). run_at rs 0) c.deref-2.ensures in
    let small : (run_at runs 0).link < length links =
    c.self.invariant.are.named 0 (record { end = 0; link = 0 }) full in
    let link : c.index.result.now ≡ antichain_at links runs 0 =
    c.index.ensures ∙ ap (λ (r : Run). get_or links r.link c.index.result.now)
    number ∙ get_or_default links (run_at runs 0).link c.index.result.now [] small
    ∙ ap (λ (k : ℕ). slice_index_or links k []) (sym first.1) in
    record {
      links = c.in_ok-push.ensures.items ∙ ap (λ (xs : List (List ℕ)).
          xs ++ c.in_ok-copy.field-0 ∷ []) c.new-links.ensures.items ∙ ap (λ (x : List ℕ).
          x ∷ []) (c.in_ok-copy.ensures ∙ link);
      rest = Rest-start runs (c.self.inside.slots ^ c.self.inside.arity) c.self.invariant.are.rise
          c.self.invariant.are.ends;
    }

pub loop-place-preserved : goal.loop-place-preserved
loop-place-preserved c =
    let total : ℕ = c.self.inside.slots ^ c.self.inside.arity in
    let links = c.self.inside.links.items in
    let runs = c.self.inside.ranks.value in
    let i = c.loop-place.place in
    let start = c.loop-place.start in
    let full : 0 < length runs = (let some = c.if-len-eq0.false in
    omega (arith, some, c.len.ensures, ap (λ (rs : List Run). length rs) c.deref.ensures)) in
    let first = first_run runs c.self.inside.slots c.self.inside.arity links c.self.invariant.are
    full in
    let number : c.run-usual.result.link ≡ (run_at runs 0).link =
    ap (λ (r : Run). r.link) (c.run-usual.ensures ∙ ap (λ (rs : List Run).
    run_at rs 0) c.deref-2.ensures) in
    let same_run : c.run-run.result ≡ run_at runs i =
    c.run-run.ensures ∙ ap (λ (rs : List Run). run_at rs i) c.deref-in-loop-place.ensures in
    let inside : i < length runs =
    omega (
      arith,
      c.loop-place-test.true,
      c.len-place-end.ensures,
      ap (λ (rs : List Run).
          length rs) c.deref-3.ensures,
    ) in
    let end : ℕ = c.run-run.result.end in
    let end_is : (run_at runs i).end ≡ end = ap (λ (r : Run). r.end) (sym same_run) in
    let link_is : c.run-run.result.link ≡ (run_at runs i).link =
    ap (λ (r : Run). r.link) same_run in
    let here : (run_at runs i).link < length links =
    c.self.invariant.are.named i (record { end = 0; link = 0 }) inside in
    let usual_there : (run_at runs 0).link < length links =
    c.self.invariant.are.named 0 (record { end = 0; link = 0 }) full in
    let usual_is : antichain_at links runs 0 ≡ slice_index_or links (run_at runs 0).link [] =
    ap (λ (k : ℕ). slice_index_or links k []) first.1 in
    let each : (n : ℕ) → start ≤ n → n < end
    → antichain_at links runs n ≡ slice_index_or links (run_at runs i).link [] = λ n from below.
    ap (λ (k : ℕ). slice_index_or links k [])
    (Rest-here runs i start total n c.loop-place.invariant.rest inside from
    (omega (arith, below, end_is))) in
    let up : start ≤ end = (let above =
    Rest-above runs i start total c.loop-place.invariant.rest inside in
    omega (arith, above, end_is)) in
    record {
      links = elim c.if-run-usual.branch [
        | then-run-usual+in_ok-push_copies w ↦
            let differ : slice_index_or links (run_at runs i).link [] ≢ slice_index_or links
            (run_at runs 0).link [] =
            numbers_apart links (run_at runs i).link (run_at runs 0).link c.self.invariant.distinct
            here usual_there (λ same. w.if-run-usual.true (link_is ∙ same ∙ sym number)) in
            let copied : w.index-then-run-usual.result.now
            ≡ slice_index_or links (run_at runs i).link [] =
            w.index-then-run-usual.ensures ∙ ap (λ (k : ℕ).
            get_or links k w.index-then-run-usual.result.now) link_is ∙ get_or_default links
            (run_at runs i).link w.index-then-run-usual.result.now [] here in
            ap (λ v. v.items) w.links-is
            ∙ others_run_differ (antichain_at links runs) (antichain_at links runs 0)
            (slice_index_or links (run_at runs i).link []) c.loop-place.links.items
            w.push_copies.new.links.items start end up c.loop-place.invariant.links
            (λ same. differ (same ∙ usual_is)) each
            (w.in_ok-push_copies.ensures ∙ ap (λ (x : List ℕ).
            c.loop-place.links.items ++ replicate (end - start) x) copied)
        | else-run-usual w ↦
            ap (λ v. v.items) w.links-is
            ∙ others_run_same (antichain_at links runs) (antichain_at links runs 0)
            c.loop-place.links.items start end up c.loop-place.invariant.links
            (λ n from below. each n from below ∙ ap (λ (k : ℕ).
            slice_index_or links k []) (sym link_is ∙ w.if-run-usual.false ∙ number) ∙ sym
            usual_is)
      ];
      rest = Rest-next runs i start total end c.loop-place.invariant.rest inside end_is;
    }

pub returns-clause-links : goal.returns-clause-links
returns-clause-links c =
    let total : ℕ = c.self.inside.slots ^ c.self.inside.arity in
    let links = c.self.inside.links.items in
    let runs = c.self.inside.ranks.value in
    let full : 0 < length runs = (let some = c.if-len-eq0.false in
    omega (arith, some, c.len.ensures, ap (λ (rs : List Run). length rs) c.deref.ensures)) in
    let some = (first_run runs c.self.inside.slots c.self.inside.arity links c.self.invariant.are
    full).0 in
    let past : length runs ≤ c.loop-place.place =
    (let test = c.loop-place-test.false in
    omega (
      arith,
      test,
      c.len-place-end.ensures,
      ap (λ (rs : List Run).
          length rs) c.deref-3.ensures,
    )) in
    let done : c.loop-place.start ≡ total =
    Rest-end runs c.loop-place.place c.loop-place.start total c.loop-place.invariant.rest
    past in
    c.loop-place.invariant.links ∙ ap (λ (k : ℕ).
    antichain_at links runs 0 ∷ others (antichain_at links runs) (antichain_at links runs 0) 0
    k) done
    ∙ sym (links_view c.self.inside.slots c.self.inside.arity links runs some) ∙ ap links_of
    c.self.view_is

pub returns-clause-exact : goal.returns-clause-exact
returns-clause-exact c =
    let total : ℕ = c.self.inside.slots ^ c.self.inside.arity in
    let links = c.self.inside.links.items in
    let runs = c.self.inside.ranks.value in
    let full : 0 < length runs = (let some = c.if-len-eq0.false in
    omega (arith, some, c.len.ensures, ap (λ (rs : List Run). length rs) c.deref.ensures)) in
    let some = (first_run runs c.self.inside.slots c.self.inside.arity links c.self.invariant.are
    full).0 in
    let past : length runs ≤ c.loop-place.place =
    (let test = c.loop-place-test.false in
    omega (
      arith,
      test,
      c.len-place-end.ensures,
      ap (λ (rs : List Run).
          length rs) c.deref-3.ensures,
    )) in
    let done : c.loop-place.start ≡ total =
    Rest-end runs c.loop-place.place c.loop-place.start total c.loop-place.invariant.rest
    past in
    links_exact c.self.inside.slots c.self.inside.arity links runs c.args.self.now
    c.loop-place.links.items c.self.view_is some
    (c.loop-place.invariant.links ∙ ap (λ (k : ℕ).
    antichain_at links runs 0 ∷ others (antichain_at links runs) (antichain_at links runs 0) 0
    k) done)
