-- A run goes on from what it has read, told and written so far, and ends.
use Rattle.std.proofs.Common.{◌≡◌, ℕ, ◌+◌, ◌<◌, ◌≤◌, ◌^◌, inl, inr, Bool, true, false, Option, Ok}
use Rattle.std.proofs.Common.{Err, List, [], ◌∷◌, ◌++◌, length, refl, sym, ◌∙◌, ap, subst, arith}
use Rattle.std.proofs.Common.{append_assoc, append-nil, length-append}
use Rattle.edge_io.specs.Known.{IsAtEnd, IsFront}
use Rattle.edge_io.specs.Lines.{Item as StreamLine, items, whole_items}
use Rattle.edge_io.specs.Reading.{Reading, Reads, NextDid, IsDry, fresh}
use Rattle.edge_io.specs.declared.line.Line.TheVariants.{End}
use Rattle.edge_io.specs.declared.line.ReadEnd.{ReadEnd}
use Rattle.edge_io.specs.declared.line.ReadEnd.TheVariants as ends
use Rattle.edge_io.proofs.Readings.{Reads-fresh, Reads-trans, Reads-ended, Reads-whole, Reads-dry}
use Rattle.edge_io.proofs.Readings.{failed_none_before}
use Rattle.edge_io.proofs.KnownLemmas.{Takes-none, Gains-none, Gains-trans, IsFront-behind}
use Rattle.stream_report.specs.declared.ending.Ending.{Ending}
use Rattle.stream_report.specs.declared.ending.Ending.TheVariants.{Done, Usage, Refused, ReadFault}
use Rattle.stream_report.specs.declared.ending.Ending.TheVariants.{WriteFault, Memory, StreamLimit}
use Rattle.stream_report.specs.Outside.{Ports}
use Rattle.stream_report.specs.Told.{Manner, Told, Part, Tells, TellsLine, Closes}
use Rattle.stream_report.specs.Ends.{ending_of, BeginsPart, Streamed, Written, IsWritten}
use Rattle.stream_report.specs.Ends.{Finishes, ReportTo, WroteTo, StreamedTo}
use Rattle.edge_io.specs.Writing.{IsProperFront}
use Rattle.stream_report.specs.Writing.{Flushes}
use Rattle.stream_report.specs.Serving.{Serves}
use Rattle.stream_report.proofs.ToldLaws.{told_joined}
use Rattle.stream_report.proofs.WholeReports.{cut_off}

pub tells_nothing : {State : Type 0} (manner : Manner State) (state : State) (stands_for : State
    → Type 0) (number : ℕ) (gathered : List ℕ) → stands_for state
    → Tells manner state stands_for number [] gathered gathered
tells_nothing manner state stands_for number gathered stands =
    record {
      told = [];
      after = state;
      tells = (refl, refl);
      stands = stands;
      gathers =
          sym (append-nil gathered);
    }

pub tells_one : {State : Type 0} (manner : Manner State) (state : State) (stands_for : State
    → Type 0) (number : ℕ) (line : StreamLine) (before now : List ℕ)
    → TellsLine manner state stands_for number line before now
    → Tells manner state stands_for number (line ∷ []) before now
tells_one manner state stands_for number line before now one = record {
  told = one.told;
  after = one.after;
  tells = (one.told, [], one.after, one.tells, (refl, refl), sym (append-nil one.told));
  stands = one.stands;
  gathers = one.gathers;
}

-- before anything is read or written
pub serves_first : {State : Type 0} (manner : Manner State) (first : State) (stands_for : State
    → Type 0) (left got : Option (List ℕ)) (reading : Reading) (gathered : List ℕ)
    → reading ≡ fresh (2 ^ 40) → gathered ≡ manner.opening → stands_for first
    → Serves manner first stands_for left left got got reading gathered 0
serves_first manner first stands_for left got reading gathered is_fresh opens stands =
    rw is_fresh (record {
      given = [];
      reads = Reads-fresh (2 ^ 40) left;
      within = omega arith;
      ended_within = λ ended. omega arith;
      counted = refl;
      told = [];
      after = first;
      tells = (refl, refl);
      stands = stands;
      wrote = [];
      gains = Gains-none got;
      gathers = opens ∙ sym (append-nil manner.opening);
    })

-- nothing was read or written
pub nothing_done : {Refusal State : Type 0} (manner : Manner State) (first : State) (ports : Ports)
    → Streamed {Refusal = Refusal} Memory manner first ports ports
nothing_done manner first ports = record {
  taken = [];
  takes = Takes-none ports.input.left;
  most = omega arith;
  wrote = [];
  gains = Gains-none ports.out.got;
  writes = inl (record {
    front = [];
    rest = [];
    split = refl;
    text = manner.opening ++ [];
    part =
        record { told = []; after = first; tells = (refl, refl); is = refl };
    begins =
        (manner.opening ++ [], refl);
  });
}

module _ {State : Type 0} (manner : Manner State) (first : State) (stands_for : State
    → Type 0) (lb ln gb gn : Option (List ℕ)) (reading : Reading) (gathered : List ℕ) (count : ℕ)
    (so_far : Serves manner first stands_for lb ln gb gn reading gathered count) where
  -- what was gathered moved on to the sink
  pub serves_flushed : {T E : Type 0} {value : T} (gn' : Option (List ℕ)) (gathered' : List ℕ)
      (is_emptied : Bool) → Flushes {T = T} {E = E} is_emptied gn gn' gathered gathered' (Ok value)
      → Serves manner first stands_for lb ln gb gn' reading gathered' count
  serves_flushed gn' gathered' is_emptied flushes = record {
    given = so_far.given;
    reads = so_far.reads;
    within = so_far.within;
    ended_within = so_far.ended_within;
    counted = so_far.counted;
    told = so_far.told;
    after = so_far.after;
    tells = so_far.tells;
    stands = so_far.stands;
    wrote = so_far.wrote ++ flushes.wrote;
    gains = Gains-trans gb gn gn' so_far.wrote flushes.wrote so_far.gains flushes.gains;
    gathers = append_assoc so_far.wrote flushes.wrote
        gathered' ∙ (ap (λ l. so_far.wrote ++ l) (sym flushes.moved) ∙ so_far.gathers);
  }

  -- the reader gave one more line, and what is told of it was gathered
  pub serves_told : (ln' : Option (List ℕ)) (new : Reading) (given : List StreamLine)
      (stands_then : State → Type 0) (gathered' : List ℕ) → Reads reading new ln ln' given
      → new.taken ≤ new.limit + 1 → (new.is_ended ≡ true → new.taken ≤ new.limit) → length given ≡ 1
      → ((at : State) → stands_for at
      → Tells manner at stands_then (count + 1) given gathered gathered')
      → Serves manner first stands_then lb ln' gb gn new gathered' (count + 1)
  serves_told ln' new given stands_then gathered' reads within ended_within one reports =
      let more = reports so_far.after so_far.stands in
      let number : count + 1 ≡ 1 + length so_far.given = omega (arith, so_far.counted) in
      let all : Reads (fresh (2 ^ 40)) new lb ln' (so_far.given ++ given) =
      Reads-trans (fresh (2 ^ 40)) reading new lb ln ln' so_far.given given so_far.reads
      reads in
      record {
        given = so_far.given ++ given;
        reads = all;
        within = omega (arith, within, all.limit);
        ended_within = λ ended. omega (arith, ended_within ended, all.limit);
        counted = omega (arith, so_far.counted, one, length-append so_far.given given);
        told = so_far.told ++ more.told;
        after = more.after;
        tells = told_joined manner.step so_far.given given 1 first so_far.after more.after
            so_far.told more.told so_far.tells
            (subst (λ n. Told manner.step given n so_far.after more.told more.after) number
            more.tells);
        stands = more.stands;
        wrote = so_far.wrote;
        gains = so_far.gains;
        gathers = ap (λ l. so_far.wrote ++ l) more.gathers
            ∙ (sym (append_assoc so_far.wrote gathered more.told)
            ∙ (ap (λ l. l ++ more.told) so_far.gathers ∙ append_assoc manner.opening so_far.told
            more.told));
      }

  told_part : Part manner first so_far.given (manner.opening ++ so_far.told)
  told_part = record { told = so_far.told; after = so_far.after; tells = so_far.tells; is = refl }

  -- the lines so far, and maybe more that the reader gave, of which such a beginning was written
  cut_short : (is_front : List ℕ → List ℕ
      → Type 0) (ln' : Option (List ℕ)) (new : Reading) (more : List StreamLine) (wrote : List ℕ)
      (reads : Reads (fresh (2 ^ 40)) new lb ln' (so_far.given ++ more))
      → (new.is_ended ≡ true → new.taken ≤ 2 ^ 40) → is_front wrote (manner.opening ++ so_far.told)
      → BeginsPart is_front manner first (IsAtEnd ln') reads.piece wrote
  cut_short is_front ln' new more wrote reads short begins =
      elim new.is_ended as (λ e. new.is_ended ≡ e
      → BeginsPart is_front manner first (IsAtEnd ln') reads.piece wrote) [
        | true ↦ λ ended. inr (
          reads.end refl ended,
          omega (arith, reads.size, short ended),
          record {
            front = so_far.given;
            rest = more;
            split =
                Reads-ended (2 ^ 40) new lb ln' (so_far.given ++ more) reads ended;
            text =
                manner.opening ++ so_far.told;
            part = told_part;
            begins = begins;
          },
        )
        | false ↦ λ going_on. inl (record {
          front = so_far.given;
          rest = more ++ whole_items new.pending;
          split = Reads-whole (2 ^ 40) new lb ln' (so_far.given ++ more) reads
              going_on ∙ append_assoc so_far.given more (whole_items new.pending);
          text = manner.opening ++ so_far.told;
          part = told_part;
          begins = begins;
        })
      ] refl

  same_reads : Reads (fresh (2 ^ 40)) reading lb ln (so_far.given ++ [])
  same_reads = subst (λ l. Reads (fresh (2 ^ 40)) reading lb ln l) (sym (append-nil so_far.given))
      so_far.reads

  then_reads : (ln' : Option (List ℕ)) (new : Reading) (more : List StreamLine)
      → Reads reading new ln ln' more → Reads (fresh (2 ^ 40)) new lb ln' (so_far.given ++ more)
  then_reads ln' new more reads =
      Reads-trans (fresh (2 ^ 40)) reading new lb ln ln' so_far.given more so_far.reads reads

  -- what was written behind what is written already
  behind : (wrote text : List ℕ) → IsProperFront wrote text
      → IsProperFront (so_far.wrote ++ wrote) (so_far.wrote ++ text)
  behind wrote text (front, less) = (
    IsFront-behind so_far.wrote wrote text front,
    omega
        (arith, less, length-append so_far.wrote wrote, length-append so_far.wrote text),
  )

  module _ (rb rn wb wn : ℕ) where
    abbrev pub before : Ports
    before = record {
      input = record { left = lb; faults = rb };
      out =
          record { got = gb; faults = wb };
    }

    abbrev pub at_ports : Option (List ℕ) → Option (List ℕ) → Ports
    at_ports left got = record {
      input = record { left = left; faults = rn };
      out =
          record { got = got; faults = wn };
    }

    -- a write of what was gathered failed
    pub flush_failed : {Refusal T E : Type 0} {e : E} (gn' : Option (List ℕ)) (gathered' : List ℕ)
        (is_emptied : Bool) → Flushes {T = T} {E = E} is_emptied gn gn' gathered gathered' (Err e)
        → Streamed {Refusal = Refusal} WriteFault manner first before (at_ports ln gn')
    flush_failed gn' gathered' is_emptied flushes = record {
      taken = same_reads.piece;
      takes = same_reads.takes;
      most = omega (arith, same_reads.size, so_far.within);
      wrote = so_far.wrote ++ flushes.wrote;
      gains = Gains-trans gb gn gn' so_far.wrote flushes.wrote so_far.gains flushes.gains;
      writes = inl (cut_short IsProperFront ln reading [] (so_far.wrote ++ flushes.wrote) same_reads
          so_far.ended_within
          (subst (IsProperFront (so_far.wrote ++ flushes.wrote)) so_far.gathers
          (behind flushes.wrote gathered flushes.failed)));
    }

    -- the reader gave more, and there was no memory to tell it
    pub memory_failed : {Refusal : Type 0} (ln' : Option (List ℕ)) (new : Reading)
        (more : List StreamLine) → Reads reading new ln ln' more → new.taken ≤ new.limit + 1
        → (new.is_ended ≡ true → new.taken ≤ new.limit)
        → Streamed {Refusal = Refusal} Memory manner first before (at_ports ln' gn)
    memory_failed ln' new more reads within ended_within =
        let all = then_reads ln' new more reads in
        record {
          taken = all.piece;
          takes = all.takes;
          most = omega (arith, all.size, all.limit, within);
          wrote = so_far.wrote;
          gains = so_far.gains;
          writes = cut_short IsFront ln' new more so_far.wrote all (λ ended.
              omega (arith, all.limit, ended_within ended)) (gathered, sym so_far.gathers);
        }

    part_of : (ln' : Option (List ℕ)) (new : Reading)
        (reads : Reads (fresh (2 ^ 40)) new lb ln' (so_far.given ++ [])) → gathered ≡ [] → IsDry new
        → Part manner first (whole_items reads.piece) so_far.wrote
    part_of ln' new reads empty dry = record {
      told = so_far.told;
      after = so_far.after;
      tells = subst (λ l. Told manner.step l 1 first so_far.told so_far.after)
          (sym (Reads-dry (2 ^ 40) new lb ln' (so_far.given ++ []) reads dry ∙ append-nil
          so_far.given)) so_far.tells;
      is = sym (append-nil so_far.wrote) ∙ (ap (λ l.
          so_far.wrote ++ l) (sym empty) ∙ so_far.gathers);
    }

    -- the reader gave no line
    pub stops : {Refusal : Type 0} (end : ReadEnd) (ln' : Option (List ℕ)) (new : Reading)
        → gathered ≡ [] → NextDid reading new ln ln' (Err end)
        → Streamed {Refusal = Refusal} (ending_of end) manner first before (at_ports ln' gn)
    stops ends.ReadFault ln' new empty did =
        let all : Reads (fresh (2 ^ 40)) new lb ln' (so_far.given ++ []) =
        then_reads ln' new [] did.reads in
        record {
          taken = all.piece;
          takes = all.takes;
          most = omega (arith, all.size, all.limit, did.within);
          wrote = so_far.wrote;
          gains = so_far.gains;
          writes = (
            omega (arith, all.size, all.limit, did.stops.1),
            part_of ln' new all empty
                did.stops.0,
          );
        }
    stops ends.StreamLimit ln' new empty did =
        let all : Reads (fresh (2 ^ 40)) new lb ln' (so_far.given ++ []) =
        then_reads ln' new [] did.reads in
        record {
          taken = all.piece;
          takes = all.takes;
          most = omega (arith, all.size, all.limit, did.within);
          wrote = so_far.wrote;
          gains = so_far.gains;
          writes = (
            omega (arith, all.size, all.limit, did.stops.past),
            part_of ln' new all empty
                did.stops.dry,
          );
        }

    -- the whole report is what was written, what was gathered and what stands last
    whole_report : (ln' : Option (List ℕ)) (new : Reading)
        (reads : Reads (fresh (2 ^ 40)) new lb ln' (so_far.given ++ [])) (text : List ℕ)
        → new.is_ended ≡ true → Closes manner so_far.after gathered text
        → ReportTo manner first stands_for (items reads.piece) (so_far.wrote ++ text)
    whole_report ln' new reads text ended closes = record {
      report = record {
        told = so_far.told;
        after = so_far.after;
        tells = subst (λ l. Told manner.step l 1 first so_far.told so_far.after)
            (sym (Reads-ended (2 ^ 40) new lb ln' (so_far.given ++ []) reads ended ∙ append-nil
            so_far.given)) so_far.tells;
        last = closes.last;
        closes = closes.closes;
        is = ap (λ l. so_far.wrote ++ l) closes.gathers
            ∙ (sym (append_assoc so_far.wrote gathered closes.last)
            ∙ (ap (λ l. l ++ closes.last) so_far.gathers ∙ append_assoc manner.opening so_far.told
            closes.last));
      };
      stands = so_far.stands;
    }

    -- how a run ends behind what was written
    ends_by : {Refusal : Type 0} (ending : Ending Refusal) (at_end : Type 0)
        (taken wrote text : List ℕ) → at_end → length taken ≤ 2 ^ 40
        → ReportTo manner first stands_for (items taken) (so_far.wrote ++ text)
        → IsWritten ending wrote text
        → WroteTo ending manner first stands_for at_end taken (so_far.wrote ++ wrote)
    ends_by Done at_end taken wrote text ended within report is = (
      ended,
      within,
      subst (λ l. ReportTo manner first stands_for (items taken) (so_far.wrote ++ l)) (sym is)
          report,
    )
    ends_by WriteFault at_end taken wrote text ended within report is =
        inr (ended, within, (so_far.wrote ++ text, report.report, behind wrote text is))
    ends_by Usage at_end taken wrote text ended within report is = is
    ends_by (Refused refusal) at_end taken wrote text ended within report is = is
    ends_by ReadFault at_end taken wrote text ended within report is = absurd is
    ends_by Memory at_end taken wrote text ended within report is = absurd is
    ends_by StreamLimit at_end taken wrote text ended within report is = absurd is

    written : {Refusal : Type 0} (ending : Ending Refusal) (ln' gn' : Option (List ℕ))
        (new : Reading) (text : List ℕ) → NextDid reading new ln ln' (Ok End)
        → Closes manner so_far.after gathered text → Written ending text gn gn'
        → StreamedTo ending manner first stands_for before (at_ports ln' gn')
    written ending ln' gn' new text did closes ends =
        let all : Reads (fresh (2 ^ 40)) new lb ln' (so_far.given ++ []) =
        then_reads ln' new [] did.reads in
        let short : length all.piece ≤ 2 ^ 40 =
        omega (arith, all.size, all.limit, did.ended_within did.stops) in
        record {
          taken = all.piece;
          takes = all.takes;
          most = omega (arith, short);
          wrote = so_far.wrote ++ ends.wrote;
          gains = Gains-trans gb gn gn' so_far.wrote ends.wrote so_far.gains ends.gains;
          writes = ends_by ending (IsAtEnd ln') all.piece ends.wrote text (all.end refl did.stops)
              short (whole_report ln' new all text did.stops closes) ends.is;
        }

    -- the input ended
    pub finishes : {Refusal : Type 0} (ending : Ending Refusal) (ln' gn' : Option (List ℕ))
        (new : Reading) → NextDid reading new ln ln' (Ok End)
        → ((at : State) → stands_for at → Finishes ending manner at gathered gn gn')
        → StreamedTo ending manner first stands_for before (at_ports ln' gn')
    finishes {Refusal} Memory ln' gn' new did finish =
        subst (λ g. StreamedTo {Refusal = Refusal} Memory manner first stands_for before
        (at_ports ln' g)) (sym (finish so_far.after so_far.stands))
        (cut_off manner first stands_for Memory before (at_ports ln' gn) tt
        (memory_failed ln' new [] did.reads did.within did.ended_within))
    finishes Done ln' gn' new did finish = let f = finish so_far.after so_far.stands in
        written Done ln' gn' new f.0 did f.1 f.2
    finishes Usage ln' gn' new did finish = let f = finish so_far.after so_far.stands in
        written Usage ln' gn' new f.0 did f.1 f.2
    finishes (Refused refusal) ln' gn' new did finish = let f = finish so_far.after so_far.stands in
        written (Refused refusal) ln' gn' new f.0 did f.1 f.2
    finishes ReadFault ln' gn' new did finish = let f = finish so_far.after so_far.stands in
        written ReadFault ln' gn' new f.0 did f.1 f.2
    finishes WriteFault ln' gn' new did finish = let f = finish so_far.after so_far.stands in
        written WriteFault ln' gn' new f.0 did f.1 f.2
    finishes StreamLimit ln' gn' new did finish = let f = finish so_far.after so_far.stands in
        written StreamLimit ln' gn' new f.0 did f.1 f.2

-- the run was waiting where the reader gave no line
pub surely : (waits : Bool) (pending : List StreamLine) → (waits ≡ false → 0 < length pending)
    → pending ≡ [] → waits ≡ true
surely true pending some none = refl
surely false pending some none = absurd (omega (arith, some refl, ap length none))

pub was_waiting : (waits : Bool) (reading new : Reading) (ln ln' : Option (List ℕ)) (end : ReadEnd)
    → (waits ≡ false → 0 < length (whole_items reading.pending))
    → NextDid reading new ln ln' (Err end) → waits ≡ true
was_waiting waits reading new ln ln' end some did =
    surely waits (whole_items reading.pending) some (failed_none_before reading new ln ln' end did)
