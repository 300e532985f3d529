use Rattle.std.proofs.Common.{◌≡◌, ◌<◌, ◌+◌, ℕ, List, ◌∷◌, [], ◌++◌, length, get_or, length-append}
use Rattle.std.proofs.Common.{sym, ◌∙◌, ap, subst, arith}
use Rattle.std.specs.Prelude.{slice_index}
use Rattle.answer_tables.specs.declared.run.Run.{Run}
use Rattle.answer_tables.specs.Runs.{unit_runs}
use Rattle.answer_tables.proofs.UnitRuns.{length_units, rise_unit, unit_run}
use Rattle.answer_tables.proofs.Renamings.{Mapping, Mapping-start, AreRenamed-end}
use Rattle.answer_tables.proofs.Bytes.{Mapping-byte}
use Rattle.answer_tables.proofs.renaming.renamed_bytes.Goals as goal

pub loop-byte-init : goal.loop-byte-init
loop-byte-init c =
    let none = c.in_ok-new.ensures.items in
    record {
      mapping = Mapping-start (slice_index c.args.places.now) (unit_runs 0 c.args.bytes.now)
          (unit_runs 0 c.in_ok-new.new.items) (rise_unit c.args.bytes.now) (ap (unit_runs 0) none);
      many = ap (λ (ns : List ℕ). length ns) none;
    }

pub bounds-places-byte : goal.bounds-places-byte
bounds-places-byte c =
    let bytes = c.args.bytes.now in
    let i = c.loop-byte.byte-index in
    let within = c.loop-byte-test.true in
    subst (λ (r : Run). r.link < length c.args.places.now) (unit_run bytes i within)
    (c.requires.named i (record {
      end = 0;
      link =
          0;
    }) (omega (arith, within, length_units 0 bytes)))

pub loop-byte-preserved : goal.loop-byte-preserved
loop-byte-preserved c =
    let bytes = c.args.bytes.now in
    let places = c.args.places.now in
    let new = c.loop-byte.new.items in
    let i = c.loop-byte.byte-index in
    let place : ℕ = slice_index places (get_or bytes i 0) in
    let pushed : c.push.new.self.items ≡ new ++ place ∷ [] = c.in_ok-push.ensures.items in
    record {
      mapping = subst (λ (ns : List ℕ).
          Mapping (slice_index places) (unit_runs 0 bytes) (unit_runs 0 ns) (i + 1)) (sym pushed)
          (Mapping-byte (slice_index places) bytes new i c.loop-byte.invariant.many (omega arith)
          c.loop-byte.invariant.mapping);
      many = ap (λ (ns : List ℕ). length ns) pushed ∙ omega
          (arith, length-append new (place ∷ []), c.loop-byte.invariant.many);
    }

pub returns : goal.returns
returns c =
    let past = c.loop-byte-test.false in
    AreRenamed-end c.args.places.now (unit_runs 0 c.args.bytes.now)
    (unit_runs 0 c.loop-byte.new.items) c.loop-byte.byte-index c.requires.named
    c.loop-byte.invariant.mapping (omega (arith, past, length_units 0 c.args.bytes.now))
