use Rattle.std.proofs.Common.{◌≡◌, ◌∷◌, [], ◌++◌, List, sym, ◌∙◌, ap, subst, arith, rules}
use Rattle.std.proofs.Common.{append_assoc}
use Rattle.std.specs.List.{Contains}
use Rattle.std.proofs.lemmas.Grind.{common_steps}
use Rattle.dl_syntax.specs.declared.queries.Cq.{Cq}
use Rattle.std.proofs.lemmas.List.{append-nil}
use Rattle.list_lemmas.proofs.Elements.{Contains-none}
use Rattle.dl_syntax.proofs.Exactness.{queries_exact}
use Rattle.perfect_ref.specs.Plain.{IsPlain}
use Rattle.perfect_ref.specs.Found.{Absorbs}
use Rattle.perfect_ref.proofs.Collected.{Absorbs-insert, Absorbs-leave, Absorbs-start}
use Rattle.perfect_ref.proofs.rewriting.absorb_plain.Goals as goal

pub loop-cq-init : goal.loop-cq-init
loop-cq-init c = (
  [],
  sym (append-nil c.args.made.now.items),
  Absorbs-start (λ q. Contains [] q
      × IsPlain c.args.roles q) c.args.core.now.keys (λ q both. Contains-none q both.0),
)

pub loop-cq-preserved-in_ok-insert : goal.loop-cq-preserved-in_ok-insert
loop-cq-preserved-in_ok-insert c =
    let inv = c.loop-cq.invariant in (
      c.in-Some.cq ∷ inv.0,
      inv.1 ∙ ap (λ (xs : List Cq). xs ++ inv.0) c.in-Some.ensures.items ∙ append_assoc
          c.pop.new.self.items (c.in-Some.cq ∷ []) inv.0,
      Absorbs-insert c.args.roles _ (queries_exact _ _ (λ a b. search rules) (λ a b. search rules))
          inv.0 c.args.core.now.keys c.loop-cq.core.keys c.insert.new.self.keys c.in-Some.cq
          (c.is_plain.ensures.0 c.if-is_plain.true) c.in_ok-insert.ensures.keys inv.2,
    )

pub loop-cq-preserved : goal.loop-cq-preserved
loop-cq-preserved c =
    let inv = c.loop-cq.invariant in (
      c.in-Some.cq ∷ inv.0,
      inv.1 ∙ ap (λ (xs : List Cq). xs ++ inv.0) c.in-Some.ensures.items ∙ append_assoc
          c.pop.new.self.items (c.in-Some.cq ∷ []) inv.0,
      Absorbs-leave c.args.roles inv.0 c.args.core.now.keys c.loop-cq.core.keys c.in-Some.cq
          (λ plain. let found = c.is_plain.ensures.1 plain in let not_found = c.if-is_plain.false in
          cc) inv.2,
    )

pub returns-clause-absorbs : goal.returns-clause-absorbs
returns-clause-absorbs c =
    let inv = c.loop-cq.invariant in
    let none : c.loop-cq.made.items ≡ [] = grind (arith, common_steps) in
    let whole : c.args.made.now.items ≡ inv.0 = inv.1 ∙ ap (λ (xs : List Cq). xs ++ inv.0) none in
    subst (λ (xs : List Cq). Absorbs (λ q. Contains xs q
    × IsPlain c.args.roles q) c.args.core.now.keys c.loop-cq.core.keys) (sym whole) inv.2
