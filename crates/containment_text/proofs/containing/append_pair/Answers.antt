use Rattle.std.proofs.Common.{◌≡◌, length, sym, ◌∙◌, rules}
use Rattle.std.proofs.lemmas.Bool.{eq-eqb}
use Rattle.contain_test.proofs.Showing.{union_queries, union_wide}
use Rattle.containment_text.proofs.LeafQueries.{leaf_is_query_of, pair_is}
use Rattle.containment_text.proofs.PairTexts.{more_pair, on_ok_weaker}
use Rattle.containment_text.proofs.containing.append_pair.Goals as goal

pub contain_by-requires-clause-first : goal.contain_by-requires-clause-first
contain_by-requires-clause-first c =
    leaf_is_query_of c.args.source.now.ontology.now c.args.query.now c.in-Some.first.now
    c.in-Some.ensures.valid c.requires.query (sym c.in-Some.ensures.leaf)

pub contain_by-requires-clause-queries : goal.contain_by-requires-clause-queries
contain_by-requires-clause-queries c =
    union_queries c.args.source.now.ontology.now c.in-Some-leaf_query.second.now c.args.union.now
    (c.requires.union c.in-Some-leaf_query.second.now (sym c.in-Some-leaf_query.ensures.leaf))
    (leaf_is_query_of c.args.source.now.ontology.now c.args.other.now
    c.in-Some-leaf_query.second.now c.in-Some-leaf_query.ensures.valid c.requires.other
    (sym c.in-Some-leaf_query.ensures.leaf)).query

pub contain_by-requires-clause-wide : goal.contain_by-requires-clause-wide
contain_by-requires-clause-wide c =
    let same : length c.in-Some.first.now.head ≡ length c.in-Some-leaf_query.second.now.head =
    search rules in
    union_wide c.args.source.now.ontology.now c.in-Some-leaf_query.second.now c.args.union.now
    (c.requires.union c.in-Some-leaf_query.second.now (sym c.in-Some-leaf_query.ensures.leaf))
    (leaf_is_query_of c.args.source.now.ontology.now c.args.other.now
    c.in-Some-leaf_query.second.now c.in-Some-leaf_query.ensures.valid c.requires.other
    (sym c.in-Some-leaf_query.ensures.leaf)).query
    (length c.in-Some.first.now.head) same

pub returns-in_ok-found : goal.returns-in_ok-found
returns-in_ok-found c =
    let same : length c.in-Some.first.now.head ≡ length c.in-Some-leaf_query.second.now.head =
    search rules in
    let listed = c.requires.union c.in-Some-leaf_query.second.now
    (sym c.in-Some-leaf_query.ensures.leaf) in
    let own = leaf_is_query_of c.args.source.now.ontology.now c.args.other.now
    c.in-Some-leaf_query.second.now c.in-Some-leaf_query.ensures.valid c.requires.other
    (sym c.in-Some-leaf_query.ensures.leaf) in
    on_ok_weaker _ _
    (λ gains. more_pair c.args.source.now.ontology.now c.args.query.now c.args.other.now
    c.in-Some.first.now c.in-Some-leaf_query.second.now
    c.bytes.result.now c.bytes-then-as_slice.result.now c.args.text.now.items
    c.append_line.new.out.items c.in_ok-found.found
    (pair_is c.args.query.now c.args.other.now c.in-Some.first.now c.in-Some-leaf_query.second.now
    (sym c.in-Some.ensures.leaf) (sym c.in-Some-leaf_query.ensures.leaf)
    (eq-eqb (length c.in-Some.first.now.head) (length c.in-Some-leaf_query.second.now.head)
    same))
    (c.in_ok-found.ensures.exact c.in-Some-leaf_query.second.now own listed)
    (c.bytes.ensures ∙ c.name.ensures)
    (c.bytes-then-as_slice.ensures ∙ c.name-then-as_slice.ensures) gains)
    c.append_line.result c.append_line.ensures
