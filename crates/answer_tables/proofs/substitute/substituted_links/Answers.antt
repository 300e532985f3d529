use Rattle.std.proofs.Common.{List, take, sym, subst}
use Rattle.std.specs.List.{All, Contains}
use Rattle.std.proofs.lemmas.List.{take_more}
use Rattle.std.proofs.lemmas.List.Elements.{All-push}
use Rattle.formula_store.proofs.Lists.{Extends-trans}
use Rattle.answer_tables.specs.declared.align.Joint.{Joint}
use Rattle.answer_tables.specs.Joint.{joint_at}
use Rattle.answer_tables.specs.Substituting.{AreSubstituted}
use Rattle.answer_tables.proofs.Combinations.{All-Extends}
use Rattle.answer_tables.proofs.Substitutions.{AreSubstituted-more}
use Rattle.answer_tables.proofs.substitute.substituted_links.Goals as goal

pub loop-joint-preserved : goal.loop-joint-preserved
loop-joint-preserved c =
    let joints = c.args.joints.now in
    let i = c.loop-joint.joint-index in
    let joint : Joint = joint_at joints i in
    let within = c.loop-joint-test.true in
    let link = c.in_ok-link.link in
    record {
      links = subst (λ (front : List Joint).
          AreSubstituted c.args.table.now.slots c.args.table.now.arity c.args.table.now
          c.args.values.now front c.push.new.self.items)
          (sym (take_more joints i (record { first = 0; second = 0; rank = 0 }) within))
          (AreSubstituted-more c.args.table.now.slots c.args.table.now.arity c.args.table.now
          c.args.values.now (take i joints) joint c.loop-joint.links.items c.push.new.self.items
          link c.loop-joint.invariant.links c.in_ok-link.ensures.link
          c.in_ok-push.ensures.items);
      stored = subst (All (Contains c.substituted_link.new.store)) (sym c.in_ok-push.ensures.items)
          (All-push (Contains c.substituted_link.new.store) c.loop-joint.links.items link
          (All-Extends c.loop-joint.store c.substituted_link.new.store c.loop-joint.links.items
          c.in_ok-link.ensures.grown c.loop-joint.invariant.stored)
          c.in_ok-link.ensures.stored);
      grown = Extends-trans c.args.store.now c.loop-joint.store c.substituted_link.new.store
          c.loop-joint.invariant.grown c.in_ok-link.ensures.grown;
    }
