use Rattle.std.proofs.Common.{ℕ, List, Option, get_or, ◌∷◌, [], length, ◌+◌, length-append, sym}
use Rattle.std.proofs.Common.{◌∙◌, ap, subst, arith, inl}
use Rattle.answer_tables.specs.declared.run.Run.{Run}
use Rattle.answer_tables.specs.declared.align.Joint.{Joint}
use Rattle.answer_tables.specs.Runs.{unit_runs}
use Rattle.std.specs.Prelude.{IfSome}
use Rattle.answer_tables.specs.Coding.{IsCoding}
use Rattle.answer_tables.specs.Numbering.{Numbered}
use Rattle.answer_tables.specs.Joint.{IsAligned}
use Rattle.answer_tables.proofs.UnitRuns.{length_units, end_unit, rise_unit}
use Rattle.answer_tables.proofs.Aligning.{Aligning, Aligning-start, IsAligned-end}
use Rattle.answer_tables.proofs.Bytes.{Aligning-byte}
use Rattle.answer_tables.proofs.align.align_bytes.Goals as goal

pub loop-i-init : goal.loop-i-init
loop-i-init c =
    let a = c.args.a.now in
    let b = c.args.b.now in
    let none = c.in_ok-bytes.ensures.items in
    record {
      aligning = Aligning-start (unit_runs 0 a) (unit_runs 0 b)
          (unit_runs 0 c.in_ok-bytes.bytes.items) c.args.coding.joints.items (rise_unit a)
          (rise_unit b) (end_unit a ∙ c.requires.many ∙ sym (end_unit b)) (ap (unit_runs 0) none)
          c.requires.fresh;
      many = ap (λ (ns : List ℕ). length ns) none;
      coding = c.requires.coding;
    }

pub loop-i-preserved : goal.loop-i-preserved
loop-i-preserved c =
    let a = c.args.a.now in
    let b = c.args.b.now in
    let bytes = c.loop-i.bytes.items in
    let number = c.in-Some.byte in
    let joint : Joint = record {
      first = get_or a c.loop-i.i 0;
      second =
          get_or b c.loop-i.i 0;
      rank = c.loop-i.i;
    } in
    let numbered : Numbered c.loop-i.coding.joints.items joint c.byte.new.self.joints.items number =
    subst (λ (o : Option ℕ).
    IfSome o (Numbered c.loop-i.coding.joints.items joint c.byte.new.self.joints.items))
    c.in-Some.is c.in_ok-byte.ensures.numbered in
    let new = c.byte.new.self.joints.items in
    let pushed = c.in_ok-push.ensures.items in
    record {
      aligning = subst (λ (ns : List ℕ).
          Aligning (unit_runs 0 a) (unit_runs 0 b) (unit_runs 0 ns) new (c.loop-i.i + 1)
          (c.loop-i.i + 1) (c.loop-i.i + 1)) (sym pushed)
          (Aligning-byte a b bytes c.loop-i.coding.joints.items new c.loop-i.i number
          c.requires.many c.loop-i.invariant.many (omega arith) c.loop-i.invariant.aligning
          numbered);
      many = ap (λ (ns : List ℕ). length ns) pushed ∙ omega
          (arith, length-append bytes (number ∷ []), c.loop-i.invariant.many);
      coding = subst (λ (o : Option ℕ).
          IfSome o (λ x. IsCoding c.byte.new.self.joints.items c.byte.new.self.codes.items
          c.byte.new.self.width)) c.in-Some.is c.in_ok-byte.ensures.coding;
    }

pub returns : goal.returns
returns c =
    let a = c.args.a.now in
    let b = c.args.b.now in
    let joints = c.loop-i.coding.joints.items in
    subst (λ (rs : List Run). IsAligned (unit_runs 0 a) (unit_runs 0 b) rs joints)
    (sym c.from_bytes-ranks.ensures)
    (IsAligned-end (unit_runs 0 a) (unit_runs 0 b) (unit_runs 0 c.loop-i.bytes.items) joints
    c.loop-i.i c.loop-i.i c.loop-i.i c.loop-i.invariant.aligning (inl (let past =
    c.loop-i-test.false in omega (arith, past, length_units 0 a))))
