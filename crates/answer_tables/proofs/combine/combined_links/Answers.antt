use Rattle.std.proofs.Common.{◌≡◌, [], ℕ, List, take, sym, ◌∙◌, subst}
use Rattle.std.specs.Prelude.{slice_index_or}
use Rattle.std.specs.List.{All, Contains}
use Rattle.std.proofs.lemmas.List.{take_more, get_or_default}
use Rattle.std.proofs.lemmas.List.Elements.{All-push}
use Rattle.formula_store.proofs.Lists.{Extends-trans}
use Rattle.answer_tables.specs.declared.align.Joint.{Joint}
use Rattle.answer_tables.specs.Joint.{joint_at}
use Rattle.answer_tables.specs.Combining.{test_of, Combines, AreCombined}
use Rattle.answer_tables.proofs.Combinations.{All-Extends, AreCombined-more}
use Rattle.answer_tables.proofs.combine.combined_links.Goals as goal

pub loop-joint-preserved : goal.loop-joint-preserved
loop-joint-preserved c =
    let a = c.args.a.now in
    let b = c.args.b.now in
    let joints = c.args.joints.now in
    let i = c.loop-joint.joint-index in
    let joint : Joint = joint_at joints i in
    let within = c.loop-joint-test.true in
    let places = c.requires i (record { first = 0; second = 0; rank = 0 }) within in
    let x = c.index-a-joint.result in
    let y = c.index-b-joint.result in
    let link = c.in_ok-link.link in
    let same_a : x ≡ slice_index_or a joint.first [] =
    c.index-a-joint.is ∙ get_or_default a joint.first x [] places.0 in
    let same_b : y ≡ slice_index_or b joint.second [] =
    c.index-b-joint.is ∙ get_or_default b joint.second y [] places.1 in
    let one : Combines (test_of c.args.operation) (slice_index_or a joint.first [])
    (slice_index_or b joint.second []) link =
    subst (λ (u : List ℕ). Combines (test_of c.args.operation) u (slice_index_or b joint.second [])
    link) same_a
    (subst (λ (u : List ℕ). Combines (test_of c.args.operation) x u link) same_b
    c.in_ok-link.ensures.link) in
    record {
      links = subst (λ (front : List Joint).
          AreCombined (test_of c.args.operation) a b front c.push.new.self.items)
          (sym (take_more joints i (record { first = 0; second = 0; rank = 0 }) within))
          (AreCombined-more (test_of c.args.operation) a b (take i joints) joint
          c.loop-joint.links.items c.push.new.self.items link c.loop-joint.invariant.links one
          c.in_ok-push.ensures.items);
      stored = subst (All (Contains c.combined_link.new.store)) (sym c.in_ok-push.ensures.items)
          (All-push (Contains c.combined_link.new.store) c.loop-joint.links.items link
          (All-Extends c.loop-joint.store c.combined_link.new.store c.loop-joint.links.items
          c.in_ok-link.ensures.grown c.loop-joint.invariant.stored)
          c.in_ok-link.ensures.stored);
      grown = Extends-trans c.args.store.now c.loop-joint.store c.combined_link.new.store
          c.loop-joint.invariant.grown c.in_ok-link.ensures.grown;
    }
