use Rattle.std.proofs.Common.{◌+◌, [], List, length, refl, sym, ap, subst}
use Rattle.std.specs.List.{All}
use Rattle.std.proofs.lemmas.Option.{slice_get_read}
use Rattle.dl_syntax.specs.declared.queries.Cq.{Cq}
use Rattle.dl_syntax.specs.Queries.{IsQuery}
use Rattle.ucq_join.specs.Answers.{IsUnionAnswer}
use Rattle.consistency.specs.Asking.{HasEmptyHead}
use Rattle.consistency.specs.Matching.{AsksForMatch}
use Rattle.consistency.proofs.Meeting.{NoneBefore-next}
use Rattle.consistency.proofs.first.first_match.Goals as goal
use Rattle.consistency.proofs.first.first_match.Goals.{After-part}

asks : (c : After-part) → AsksForMatch c.args.part c.rewriting-item.result
asks c = subst (AsksForMatch c.args.part) (sym c.rewriting-item.is)
    (c.requires.ask c.loop-rewriting.rewriting-index c.rewriting-item.result
    c.loop-rewriting-test.true)

pub has_match-requires-clause-queries : goal.has_match-requires-clause-queries
has_match-requires-clause-queries c =
    subst (λ (qs : List Cq). All IsQuery qs) (sym c.part.ensures) (asks c).queries

pub has_match-requires-clause-heads : goal.has_match-requires-clause-heads
has_match-requires-clause-heads c =
    subst (λ (qs : List Cq). All HasEmptyHead qs) (sym c.part.ensures) (asks c).heads

pub returns-then-branch : goal.returns-then-branch
returns-then-branch c = record {
  place = c.loop-rewriting.rewriting-index;
  counted = ap (λ n. n + 1) c.loop-rewriting.invariant.0;
  rewriting = c.rewriting-item.result;
  listed = slice_get_read c.args.rewritings.now (length c.args.rewritings.now)
      c.loop-rewriting.rewriting-index c.rewriting-item.result refl c.loop-rewriting-test.true
      c.rewriting-item.is;
  matches = subst (λ (qs : List Cq). IsUnionAnswer c.args.index.now qs []) c.part.ensures
      (c.in_ok-has_match.ensures.0 c.if-branch.true);
  earlier = c.loop-rewriting.invariant.1;
}

pub loop-rewriting-preserved : goal.loop-rewriting-preserved
loop-rewriting-preserved c = (
  ap (λ n. n + 1) c.loop-rewriting.invariant.0,
  NoneBefore-next c.args.index.now c.args.part c.args.rewritings.now
      c.loop-rewriting.rewriting-index c.rewriting-item.result
      (slice_get_read c.args.rewritings.now (length c.args.rewritings.now)
      c.loop-rewriting.rewriting-index c.rewriting-item.result refl c.loop-rewriting-test.true
      c.rewriting-item.is)
      (λ h.
      let found = c.in_ok-has_match.ensures.1
      (subst (λ (qs : List Cq). IsUnionAnswer c.args.index.now qs []) (sym c.part.ensures) h) in
      let lost = c.if-branch.false in
      cc)
      c.loop-rewriting.invariant.1,
)
