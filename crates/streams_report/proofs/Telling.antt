-- What is told of a line of mixed streams.
use Rattle.std.proofs.Common.{◌≡◌, ℕ, ◌+◌, Bool, List, [], ◌++◌, refl, sym, ◌∙◌, ap, subst}
use Rattle.std.proofs.Common.{append-nil}
use Rattle.std.specs.Prelude.{MatchBool, codes, Result, Ok, Err, OnOk}
use Rattle.edge_io.specs.Lines.{Item as StreamLine}
use Rattle.stream_report.specs.Told.{TellsLine}
use Rattle.monitor_core.specs.Setting.{Setting}
use Rattle.monitor_core.specs.Exchanging.{setting_under}
use Rattle.many_streams.specs.Streams.{Streams, IsOneTooMany}
use Rattle.marked_lines.specs.Marks.{Marked, Belonging, to_stream, skipped, belongs}
use Rattle.marked_lines.specs.Mixing.{Mixed, Refuses, Tells, GoesOn, with_stream}
use Rattle.marked_lines.specs.Texts.{Text, refusal_text}
use Rattle.watch_report.specs.Report.{Standing, watches}
use Rattle.streams_report.specs.declared.streamer.Counts.{Counts}
use Rattle.streams_report.specs.Report.{watch_of, closed_start, streaming}
use Rattle.streams_report.specs.Streaming.{IsMixed, GoesOnMixed, RepliesMixed}
use Rattle.streams_report.proofs.Entering.{IsEntered, too_many}

-- a line that is refused, since it belongs to no stream
pub refused_mixed : (setting : Setting) (set : Streams) (counts : List Counts) (old new : ℕ)
    (mixed : Mixed Standing) (number : ℕ) (line : Belonging) (cause before now : Text)
    → ((told : Text) (after : Mixed Standing) → Refuses mixed number cause told after
    → Tells (watches (watch_of setting)) closed_start mixed number line told after)
    → IsMixed set counts old mixed → new ≡ old + 1 → now ≡ before ++ refusal_text number cause
    → RepliesMixed setting mixed (IsMixed set counts new) number line before now
refused_mixed setting set counts old new mixed number line cause before now tells is more gathers =
    let after : Mixed Standing = record mixed { unowned = mixed.unowned + 1 } in
    record {
      told = refusal_text number cause;
      after = after;
      tells = tells (refusal_text number cause) after (refl, refl);
      stands = record {
        names = is.names;
        histories = is.histories;
        counted = is.counted;
        none = more ∙ ap (λ (n : ℕ). n + 1) is.none;
      };
      gathers = gathers;
    }

-- and a marked one whose stream would be one too many
pub refused_marked : (setting : Setting) (set : Streams) (counts : List Counts) (old new : ℕ)
    (mixed : Mixed Standing) (number : ℕ) (line : Marked) (before now : Text)
    → IsOneTooMany set line.name → IsMixed set counts old mixed → new ≡ old + 1
    → now ≡ before ++ refusal_text number (codes "too-many-streams " ++ line.name)
    → RepliesMixed setting mixed (IsMixed set counts new) number (to_stream line) before now
refused_marked setting set counts old new mixed number line before now many is more gathers =
    let step = watches (watch_of setting) in
    let cause = codes "too-many-streams " ++ line.name in
    refused_mixed setting set counts old new mixed number (to_stream line) cause before now
    (λ told after refuses. subst (λ (b : Bool). MatchBool b
    (Refuses mixed number cause told after)
    (GoesOn step line.name line.rest (with_stream closed_start line.name mixed.streams) told
    after.streams × (after.unowned ≡ mixed.unowned)))
    (sym (too_many set counts old mixed line.name is many)) refuses) is more gathers

-- a marked line whose stream was entered, and went on by it
pub told_marked : (setting : Setting) (entered new : Streams) (counts after : List Counts)
    (old left : ℕ) (mixed : Mixed Standing) (number : ℕ) (line : Marked) (before now : Text)
    → IsEntered entered counts old mixed line.name
    → ((m : Mixed Standing) → IsMixed entered counts old m
    → GoesOnMixed new after left m line before now)
    → setting_under new.watched ≡ setting
    → RepliesMixed setting mixed (IsMixed new after left) number (to_stream line) before now
told_marked setting entered new counts after old left mixed number line before now is goes same =
    let m : Mixed Standing =
    record mixed { streams = with_stream closed_start line.name mixed.streams } in
    let one = goes m is.mixes in
    record {
      told = one.told;
      after = one.after;
      tells = subst (λ (b : Bool). MatchBool b
          (Refuses mixed number (codes "too-many-streams " ++ line.name) one.told one.after)
          (GoesOn (watches (watch_of setting)) line.name line.rest m.streams one.told
          one.after.streams × (one.after.unowned ≡ mixed.unowned)))
          (sym is.few) (
            subst (λ (s : Setting). GoesOn (watches (watch_of s)) line.name line.rest m.streams
                one.told one.after.streams) same one.goes,
            one.same,
          );
      stands = one.stands;
      gathers = one.gathers;
    }

-- nothing is told of a line that is skipped
pub skipped_mixed : (setting : Setting) (mixed : Mixed Standing) (stands_for : Mixed Standing
    → Type 0) (number : ℕ) (text : Text) → stands_for mixed
    → RepliesMixed setting mixed stands_for number skipped text text
skipped_mixed setting mixed stands_for number text stands = record {
  told = [];
  after = mixed;
  tells = (refl, refl);
  stands = stands;
  gathers = sym (append-nil text);
}

-- what is told by what a line belongs to is told of the line
pub replied_line : (setting : Setting) (mixed : Mixed Standing) (stands_for : Mixed Standing
    → Type 0) (number : ℕ) (line : StreamLine) (belonging : Belonging) (before now : Text)
    → belonging ≡ belongs line → RepliesMixed setting mixed stands_for number belonging before now
    → TellsLine (streaming setting) mixed stands_for number line before now
replied_line setting mixed stands_for number line belonging before now is replies = record {
  told = replies.told;
  after = replies.after;
  tells = subst (λ (b : Belonging). Tells (watches (watch_of setting)) closed_start mixed number b
      replies.told replies.after) is replies.tells;
  stands = replies.stands;
  gathers = replies.gathers;
}

-- what two facts of an Ok give
pub on_both : {T E P Q R : Type 0} (r : Result T E) → (P → Q → R) → OnOk r P → OnOk r Q → OnOk r R
on_both (Ok x) joined p q = joined p q
on_both (Err e) joined p q = tt

-- a line that is refused, since it belongs to no stream, leaves the streams as they were
pub refused_line : (setting : Setting) (set stays : Streams) (counts same : List Counts)
    (old new : ℕ) (mixed : Mixed Standing) (number : ℕ) (line : StreamLine) (belonging : Belonging)
    (cause before now : Text) → belonging ≡ belongs line
    → ((told : Text) (after : Mixed Standing) → Refuses mixed number cause told after
    → Tells (watches (watch_of setting)) closed_start mixed number belonging told after)
    → stays ≡ set → same ≡ counts → IsMixed set counts old mixed → new ≡ old + 1
    → now ≡ before ++ refusal_text number cause
    → TellsLine (streaming setting) mixed (IsMixed stays same new) number line before now
refused_line setting set stays counts same old new mixed number line belonging cause before now is
    tells sets all stands more gathers =
    subst (λ (s : Streams). TellsLine (streaming setting) mixed (IsMixed s same new) number line
    before now) (sym sets)
    (subst (λ (l : List Counts). TellsLine (streaming setting) mixed (IsMixed set l new) number line
    before now) (sym all)
    (replied_line setting mixed (IsMixed set counts new) number line belonging before now is
    (refused_mixed setting set counts old new mixed number belonging cause before now tells stands
    more gathers)))
