use Rattle.std.proofs.Common.{◌≡◌, List, [], sym, ◌∙◌, subst}
use Rattle.std.proofs.lemmas.Result.{on_ok_weaker}
use Rattle.dl_syntax.specs.declared.queries.Term.{Term}
use Rattle.dl_syntax.specs.declared.queries.Atom.{Atom}
use Rattle.dl_syntax.specs.Match.{Match}
use Rattle.ucq_join.specs.Partial.{IsAnswerFrom}
use Rattle.ucq_join.specs.Split.{IsSplit}
use Rattle.ucq_join.proofs.Adding.{adds_none}
use Rattle.ucq_join.proofs.Parts.{adds_whole, adds_unmatched_rest, taken_covered}
use Rattle.ucq_join.proofs.join.add_answers.Goals as goal

split_of : (terms head : List Term) (atoms body taken rest : List Atom) → terms ≡ head
    → atoms ≡ body → IsSplit terms atoms taken rest → IsSplit head body taken rest
split_of terms head atoms body taken rest same is split =
    subst (λ (xs : List Term). IsSplit xs body taken rest) same
    (subst (λ (xs : List Atom). IsSplit terms xs taken rest) is split)

pub returns-then-lacks_facts : goal.returns-then-lacks_facts
returns-then-lacks_facts c =
    let q = c.args.query.now in
    adds_none c.args.rows.now (IsAnswerFrom c.args.index.now q.head q.body [])
    (λ row k. c.lacks_facts.ensures c.if-lacks_facts.true k.0
    (subst (λ (body : List Atom). Match body c.args.index.now k.0) (sym c.as_slice.ensures)
    k.2))

pub returns-then-not-branch : goal.returns-then-not-branch
returns-then-not-branch c =
    let q = c.args.query.now in
    let split = split_of c.as_slice-3.result.now q.head c.in_ok-rest.rest.items q.body
    c.in_ok-joined.joined.items c.take_joined.new.rest.items c.as_slice-3.ensures
    (c.in_ok-rest.ensures.items ∙ c.as_slice-2.ensures) c.in_ok-joined.ensures.split in
    adds_unmatched_rest c.args.index.now q.head q.body c.in_ok-joined.joined.items
    c.take_joined.new.rest.items split q.head (λ m. let found =
    c.in_ok-has_matches.ensures.1 m in let other = c.if-not-branch.true in cc) c.args.rows.now

pub add_ordered-requires-clause-covered : goal.add_ordered-requires-clause-covered
add_ordered-requires-clause-covered c =
    let q = c.args.query.now in
    let split = split_of c.as_slice-3.result.now q.head c.in_ok-rest.rest.items q.body
    c.in_ok-joined.joined.items c.take_joined.new.rest.items c.as_slice-3.ensures
    (c.in_ok-rest.ensures.items ∙ c.as_slice-2.ensures) c.in_ok-joined.ensures.split in
    rw (c.as_slice-5.ensures.value, c.as_slice-4.ensures)
    (taken_covered q c.in_ok-joined.joined.items c.take_joined.new.rest.items c.requires.query
    split)

pub returns : goal.returns
returns c =
    let q = c.args.query.now in
    let split = split_of c.as_slice-3.result.now q.head c.in_ok-rest.rest.items q.body
    c.in_ok-joined.joined.items c.take_joined.new.rest.items c.as_slice-3.ensures
    (c.in_ok-rest.ensures.items ∙ c.as_slice-2.ensures) c.in_ok-joined.ensures.split in
    on_ok_weaker c.add_ordered.result
    (λ added. adds_whole c.args.index.now q.head q.body c.in_ok-joined.joined.items
    c.take_joined.new.rest.items split q.head (λ x there.
    there) (c.in_ok-has_matches.ensures.0 c.if-not-branch.false) c.args.rows.now
    c.add_ordered.new.rows
    (rw (c.as_slice-5.ensures.value, c.as_slice-4.ensures) at added)) c.add_ordered.ensures
