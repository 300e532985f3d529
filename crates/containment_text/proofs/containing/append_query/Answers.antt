use Rattle.std.proofs.Common.{◌≡◌, ◌+◌, ◌<◌, [], ◌++◌, Bool, get_or, length, take, sym, ◌∙◌, ap}
use Rattle.std.proofs.Common.{subst, arith}
use Rattle.std.specs.Prelude.{if◌then◌else◌}
use Rattle.std.proofs.lemmas.Bool.{eq-eqb, ne_eqb}
use Rattle.std.proofs.lemmas.Slice.Zip.{AllZip-long}
use Rattle.perfect_ref.specs.Plain.{encoded, Lists, PlainReachable}
use Rattle.containment_text.specs.Containments.{pair_of, pairs_with, IsUnionOf}
use Rattle.containment_text.proofs.PairTexts.{more_none, more_next, with_more, zip_at, get_or_own}
use Rattle.containment_text.proofs.containing.append_query.Goals as goal

pub loop-from-preserved-then-place-from : goal.loop-from-preserved-then-place-from
loop-from-preserved-then-place-from c =
    let queries = c.args.queries.now in
    let from = c.loop-from.from in
    let other = get_or queries from c.args.query.now in
    more_next c.args.source.now.ontology.now
    (pairs_with c.args.place c.args.query.now 0 (take from queries)) []
    (pairs_with c.args.place c.args.query.now 0 (take (from + 1) queries))
    c.args.text.now.items c.loop-from.text.items c.loop-from.text.items
    (with_more c.args.place c.args.query.now queries from other c.loop-from-test.true
    (get_or_own queries from c.args.query.now c.loop-from-test.true)
    ∙ ap (λ (b : Bool). pairs_with c.args.place c.args.query.now 0 (take from queries)
    ++ (if b then [] else pair_of c.args.query.now other))
    (eq-eqb c.args.place from c.if-place-from.true))
    c.loop-from.invariant (more_none c.args.source.now.ontology.now c.loop-from.text.items)

pub bounds-unions-from : goal.bounds-unions-from
bounds-unions-from c =
    let long : length c.args.unions.now ≡ length c.args.queries.now =
    AllZip-long (IsUnionOf (encoded c.args.source.now.ontology.now)) c.args.queries.now
    c.args.unions.now c.requires.unions in
    let below : c.loop-from.from < length c.args.queries.now = c.loop-from-test.true in
    omega (arith, long, below)

pub append_pair-requires-clause-union : goal.append_pair-requires-clause-union
append_pair-requires-clause-union c = λ q is.
    subst (Lists (PlainReachable (encoded c.args.source.now.ontology.now) q))
    (sym c.as_slice.ensures.value)
    (zip_at (IsUnionOf (encoded c.args.source.now.ontology.now)) c.args.queries.now
    c.args.unions.now c.loop-from.from c.index-queries-from.result c.index-unions-from.result
    c.requires.unions c.loop-from-test.true c.index-queries-from.is c.index-unions-from.is q is)

pub loop-from-preserved : goal.loop-from-preserved
loop-from-preserved c =
    let queries = c.args.queries.now in
    let from = c.loop-from.from in
    let other = c.index-queries-from.result in
    more_next c.args.source.now.ontology.now
    (pairs_with c.args.place c.args.query.now 0 (take from queries))
    (pair_of c.args.query.now other)
    (pairs_with c.args.place c.args.query.now 0 (take (from + 1) queries))
    c.args.text.now.items c.loop-from.text.items c.append_pair.new.text.items
    (with_more c.args.place c.args.query.now queries from other c.loop-from-test.true
    c.index-queries-from.is
    ∙ ap (λ (b : Bool). pairs_with c.args.place c.args.query.now 0 (take from queries)
    ++ (if b then [] else pair_of c.args.query.now other))
    (ne_eqb c.args.place from c.if-place-from.false))
    c.loop-from.invariant c.in_ok-append_pair.ensures
