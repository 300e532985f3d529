-- One more tuple, or none.
use Rattle.std.proofs.Common.{◌++◌, ◌∷◌, [], ℕ, List, sym, ◌∙◌, ap, subst}
use Rattle.std.proofs.lemmas.Bool.{true≢false}
use Rattle.std.proofs.lemmas.Result.{on_ok_weaker}
use Rattle.dl_syntax.specs.declared.names.IndId.{IndId}
use Rattle.dl_syntax.specs.Rows.{IsAboveLast}
use Rattle.answer_tables.specs.Tuples.{IsTuple}
use Rattle.answer_tables.specs.Holding.{IsBelow}
use Rattle.answer_tables.proofs.Listing.{above_listed, Listed-push, Listed-skip}
use Rattle.answer_tables.proofs.holding.push_tuple.Goals as goal

pub push-requires-clause-above : goal.push-requires-clause-above
push-requires-clause-above c =
    let tuple = c.write_tuple.new.tuple.items in
    let is : IsTuple c.args.slots c.args.rows.now.arity tuple =
    subst (λ (k : ℕ). IsTuple c.args.slots k tuple) c.arity.ensures
    c.in_ok-write_tuple.ensures.tuple in
    subst (λ (t : List IndId). IsAboveLast t c.args.rows.now.rows) (sym c.as_slice-2.ensures.value)
    (above_listed c.args.slots c.args.bound c.args.rank c.args.rows.now tuple c.requires.listed is
    c.in_ok-write_tuple.ensures.number)

pub returns-then-not-is_below : goal.returns-then-not-is_below
returns-then-not-is_below c =
    let tuple = c.write_tuple.new.tuple.items in
    let old = c.args.rows.now in
    let is : IsTuple c.args.slots old.arity tuple =
    subst (λ (k : ℕ). IsTuple c.args.slots k tuple) c.arity.ensures
    c.in_ok-write_tuple.ensures.tuple in
    Listed-skip c.args.slots c.args.bound c.args.rank old tuple c.requires.listed is
    (λ low. true≢false (sym (c.is_below.ensures.1 (subst (IsBelow c.args.bound)
    (sym c.as_slice.ensures.value) low))
    ∙ c.if-not-is_below.true))
    c.in_ok-write_tuple.ensures.number

pub returns : goal.returns
returns c =
    let tuple = c.write_tuple.new.tuple.items in
    let old = c.args.rows.now in
    let is : IsTuple c.args.slots old.arity tuple =
    subst (λ (k : ℕ). IsTuple c.args.slots k tuple) c.arity.ensures
    c.in_ok-write_tuple.ensures.tuple in
    let low : IsBelow c.args.bound tuple =
    subst (IsBelow c.args.bound) c.as_slice.ensures.value
    (c.is_below.ensures.0 c.if-not-is_below.false) in
    on_ok_weaker c.push.result (λ same.
    Listed-push c.args.slots c.args.bound c.args.rank old c.push.new.self tuple c.requires.listed is
    low c.in_ok-write_tuple.ensures.number
    (same ∙ ap (λ (t : List IndId). record {
      arity = old.arity;
      rows =
          old.rows ++ t ∷ [];
    }) c.as_slice-2.ensures.value)) c.push.ensures.ok
