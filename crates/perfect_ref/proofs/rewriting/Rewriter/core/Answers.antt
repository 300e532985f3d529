use Rattle.std.proofs.Common.{List, sym, subst}
use Rattle.std.proofs.lemmas.List.Elements.{All-weaker}
use Rattle.std.specs.Prelude.{◌≢◌}
use Rattle.std.specs.List.{AllPairs}
use Rattle.dl_syntax.specs.declared.queries.Cq.{Cq}
use Rattle.dl_syntax.specs.Queries.{IsQuery}
use Rattle.query_unify.specs.Reach.{Reach}
use Rattle.perfect_ref.specs.Plain.{Encoded, IsPlain, Reachable, PlainCore, Lists}
use Rattle.perfect_ref.proofs.Answering.{Steps-query}
use Rattle.perfect_ref.proofs.Reached.{Lists-core, if_ok_weaker}
use Rattle.perfect_ref.proofs.rewriting.Rewriter.core.Goals as goal

pub core_of-requires : goal.core_of-requires
core_of-requires c =
    All-weaker (Reach c.args.self.now.inclusions c.args.cq.now) IsQuery (λ y reached.
    (Steps-query c.args.self.now.inclusions c.args.cq.now y c.requires.query reached).0)
    c.args.found.now c.requires.found.sound

pub returns : goal.returns
returns c =
    if_ok_weaker _ _
    (λ members (same, distinct). subst (λ (o : Encoded).
    Lists (PlainCore o c.args.cq.now) members.items) c.self.view_is
    (subst (λ (qs : List Cq). Lists (PlainCore (record {
      roles = c.self.inside.roles;
      inclusions =
          c.self.inside.rules;
    }) c.args.cq.now) qs) (sym same)
    (Lists-core c.self.inside.roles c.self.inside.rules c.args.cq.now c.in_ok-start.start
    c.args.found.now c.in_ok-core.core.keys c.in_ok-start.ensures
    (subst (λ (o : Encoded). IsPlain o.roles c.args.cq.now) (sym c.self.view_is) c.requires.plain)
    (subst (λ (o : Encoded). Lists (Reachable o c.args.cq.now) c.args.found.now)
    (sym c.self.view_is) c.requires.found)
    (subst (λ (qs : List Cq). AllPairs (λ p q. p ≢ q) qs) same distinct)
    c.in_ok-core.ensures)))
    c.members_of.result c.members_of.ensures
