use Rattle.std.proofs.Common.{◌∷◌, [], ◌++◌, List, sym, ◌∙◌, ap, subst}
use Rattle.dl_syntax.specs.declared.queries.Cq.{Cq}
use Rattle.perfect_ref.specs.Plain.{IsPlain}
use Rattle.perfect_ref.specs.Found.{Filters, none, keep, leave}
use Rattle.perfect_ref.proofs.Collected.{iterated}
use Rattle.perfect_ref.proofs.rewriting.plain_members.Goals as goal

pub loop-cq-init : goal.loop-cq-init
loop-cq-init c = (
  [],
  c.into_iter-cq-iterator.ensures.into_iter_gives.0,
  subst (Filters (IsPlain c.args.roles) []) (sym c.new-members.ensures.items) none,
)

pub loop-cq-preserved-in-Continue-1 : goal.loop-cq-preserved-in-Continue-1
loop-cq-preserved-in-Continue-1 c =
    let inv = c.loop-cq.invariant in (
      inv.0 ++ c.in-Some.cq ∷ [],
      iterated inv.0 c.in-Some.cq c.next.new.self c.args.found.keys
          (ap (λ (xs : List Cq). inv.0 ++ xs) (sym c.in-Some.ensures.steps) ∙ inv.1),
      subst (Filters (IsPlain c.args.roles) (inv.0 ++ c.in-Some.cq ∷ []))
          (sym c.in_ok-push.ensures.items) (keep (c.is_plain.ensures.0 c.if-is_plain.true) inv.2),
    )

pub loop-cq-preserved : goal.loop-cq-preserved
loop-cq-preserved c =
    let inv = c.loop-cq.invariant in (
      inv.0 ++ c.in-Some.cq ∷ [],
      iterated inv.0 c.in-Some.cq c.next.new.self c.args.found.keys
          (ap (λ (xs : List Cq). inv.0 ++ xs) (sym c.in-Some.ensures.steps) ∙ inv.1),
      leave (λ plain. let found = c.is_plain.ensures.1 plain in let not_found =
          c.if-is_plain.false in cc) inv.2,
    )
