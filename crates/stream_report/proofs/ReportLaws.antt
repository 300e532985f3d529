-- The laws of reports.
use Rattle.std.proofs.Common.{◌≡◌, ◌≢◌, ℕ, ◌+◌, ◌<◌, ◌^◌, List, ◌++◌, inl, inr, length, refl, sym}
use Rattle.std.proofs.Common.{◌∙◌, ap, subst, arith, append_assoc, length-append}
use Rattle.edge_io.specs.Known.{IsAtEnd, IsFront}
use Rattle.edge_io.specs.Lines.{Item as StreamLine, items, whole_items}
use Rattle.edge_io.proofs.KnownLemmas.{IsFront-trans}
use Rattle.stream_report.specs.declared.ending.Ending.{Ending}
use Rattle.stream_report.specs.declared.ending.Ending.TheVariants.{Done, Usage, Refused, ReadFault}
use Rattle.stream_report.specs.declared.ending.Ending.TheVariants.{WriteFault, Memory, StreamLimit}
use Rattle.stream_report.specs.Told.{Told, Manner, Part, Report}
use Rattle.edge_io.specs.Writing.{IsProperFront}
use Rattle.stream_report.specs.Ends.{IsBeginning, Wrote}
use Rattle.stream_report.specs.Laws.{Parts, HasOneText, IsTotal, OneReport, OnePart, BeginsAll}
use Rattle.stream_report.specs.Laws.{BeginsWhole, CutShort, CutShortOfSome, LimitIsExact}
use Rattle.stream_report.proofs.ToldLaws.{told_joined, told_parts, one_told, some_told}

module _ {State : Type 0} (manner : Manner State) (single : HasOneText manner) where
  pub one_report : OneReport manner
  one_report first lines one other p q =
      let same = one_told manner.step single.0 lines 1 first p.told q.told p.after q.after p.tells
      q.tells in
      let last : p.last ≡ q.last =
      single.1 q.after p.last q.last
      (subst (λ (s : State). manner.closes s p.last) same.1 p.closes) q.closes in
      p.is
      ∙ (ap (λ (l : List ℕ). manner.opening ++ (l ++ p.last)) same.0
      ∙ (ap (λ (l : List ℕ). manner.opening ++ (q.told ++ l)) last ∙ sym q.is))

  pub one_part : OnePart manner
  one_part first lines one other p q =
      let same = one_told manner.step single.0 lines 1 first p.told q.told p.after q.after p.tells
      q.tells in
      p.is ∙ (ap (λ (l : List ℕ). manner.opening ++ l) same.0 ∙ sym q.is)

  -- the text of some first lines is a beginning of the text of all
  part_of_all : (first : State) (front rest : List StreamLine) (text all : List ℕ)
      → Part manner first front text → Part manner first (front ++ rest) all → IsFront text all
  part_of_all first front rest text all some whole =
      let parts : Parts manner.step front rest 1 first whole.after whole.told =
      told_parts manner.step front rest 1 first whole.after whole.told whole.tells in
      let same = one_told manner.step single.0 front 1 first some.told parts.front some.after
      parts.next some.tells parts.tells_front in
      let joined : manner.opening ++ whole.told ≡ text ++ parts.rest =
      ap (λ (l : List ℕ). manner.opening ++ l)
      (parts.joined ∙ ap (λ (l : List ℕ). l ++ parts.rest) (sym same.0))
      ∙ (sym (append_assoc manner.opening some.told parts.rest) ∙ ap (λ (l : List ℕ).
      l ++ parts.rest) (sym some.is)) in
      (parts.rest, whole.is ∙ joined)

  part_split : (first : State) (lines front rest : List StreamLine) (text all : List ℕ)
      → lines ≡ front ++ rest → Part manner first front text → Part manner first lines all
      → IsFront text all
  part_split first lines front rest text all split some whole =
      part_of_all first front rest text all some
      (subst (λ (l : List StreamLine). Part manner first l all) split whole)

  pub begins_all : BeginsAll manner
  begins_all first lines wrote text begins part =
      IsFront-trans wrote begins.text text begins.begins
      (part_split first lines begins.front begins.rest begins.text text begins.split begins.part
      part)

  without_last : (first : State) (lines : List StreamLine) (text : List ℕ)
      (report : Report manner first lines text) → IsFront (manner.opening ++ report.told) text
  without_last first lines text report =
      (report.last, report.is ∙ sym (append_assoc manner.opening report.told report.last))

  pub begins_whole : BeginsWhole manner
  begins_whole first lines wrote text begins report =
      IsFront-trans wrote (manner.opening ++ report.told) text
      (begins_all first lines wrote (manner.opening ++ report.told) begins (record {
        told =
            report.told;
        after = report.after;
        tells = report.tells;
        is = refl;
      }))
      (without_last first lines text report)

  loosened : (first : State) (lines : List StreamLine) (wrote : List ℕ)
      → IsBeginning IsProperFront manner first lines wrote
      → IsBeginning IsFront manner first lines wrote
  loosened first lines wrote b = record {
    front = b.front;
    rest = b.rest;
    split = b.split;
    text =
        b.text;
    part = b.part;
    begins = b.begins.0;
  }

  pub cut_short : CutShort manner
  cut_short first left taken wrote (inl (inl begins)) =
      inl (λ text part. begins_all first (whole_items taken) wrote text
      (loosened first (whole_items taken) wrote begins) part)
  cut_short first left taken wrote (inl (inr (end, short, begins))) =
      inr (
        end,
        λ text report. begins_whole first (items taken) wrote text
            (loosened first (items taken) wrote begins) report,
      )
  cut_short first left taken wrote (inr (inl (end, short, (whole, is, front)))) =
      inr (
        end,
        λ text report. subst (IsFront wrote)
            (one_report first (items taken) whole text is report) front.0,
      )
  cut_short first left taken wrote (inr (inr (inl begins))) =
      inl (λ text part. begins_all first (whole_items taken) wrote text begins part)
  cut_short first left taken wrote (inr (inr (inr (end, short, begins)))) =
      inr (end, λ text report. begins_whole first (items taken) wrote text begins report)

  shorter : (xs ys zs : List ℕ) → IsProperFront xs ys → IsFront ys zs → length xs < length zs
  shorter xs ys zs (front, less) (rest, is) = let total : length zs ≡ length ys + length rest =
      ap length is ∙ length-append ys rest in omega (arith, less, total)

  -- a run that stopped in mid-text didn't write the text of the complete lines
  not_all : (first : State) (lines : List StreamLine) (wrote : List ℕ)
      → IsBeginning IsProperFront manner first lines wrote → Part manner first lines wrote → ⊥
  not_all first lines wrote begins part =
      let less : length wrote < length wrote =
      shorter wrote begins.text wrote begins.begins
      (part_split first lines begins.front begins.rest begins.text wrote begins.split
      begins.part part) in
      omega (arith, less)

  module _ {Refusal : Type 0} where
    only_at_limit : (ending : Ending Refusal) (first : State) (at_end : Type 0)
        (taken wrote : List ℕ) → Wrote ending manner first at_end taken wrote → ending ≢ Memory
        → 2 ^ 40 < length taken → Part manner first (whole_items taken) wrote → ending ≡ StreamLimit
    only_at_limit Done first at_end taken wrote (end, short, report) other more part =
        absurd (omega (arith, short, more))
    only_at_limit Usage first at_end taken wrote did other more part = absurd did
    only_at_limit (Refused refusal) first at_end taken wrote did other more part = absurd did
    only_at_limit ReadFault first at_end taken wrote (short, text) other more part =
        absurd (omega (arith, short, more))
    only_at_limit WriteFault first at_end taken wrote (inl (inl begins)) other more part =
        absurd (not_all first (whole_items taken) wrote begins part)
    only_at_limit WriteFault first at_end taken wrote (inl (inr (end, short, begins))) other more
        part = absurd (omega (arith, short, more))
    only_at_limit WriteFault first at_end taken wrote (inr (end, short, begins)) other more part =
        absurd (omega (arith, short, more))
    only_at_limit Memory first at_end taken wrote did other more part = absurd (other refl)
    only_at_limit StreamLimit first at_end taken wrote did other more part = refl

    pub limit_is_exact : LimitIsExact Refusal manner
    limit_is_exact ending first before now run other = (
      λ is. subst (λ (e : Ending Refusal).
          Wrote e manner first (IsAtEnd now.input.left) run.taken run.wrote) is run.writes,
      λ both. only_at_limit ending first (IsAtEnd now.input.left) run.taken run.wrote run.writes
          other both.0 both.1,
    )

pub cut_short_of_some : {State : Type 0} (manner : Manner State) → IsTotal manner.step
    → CutShortOfSome manner
cut_short_of_some {State} manner total first lines wrote begins =
    let rest = some_told manner.step total begins.rest (1 + length begins.front)
    begins.part.after in
    let tells = told_joined manner.step begins.front begins.rest 1 first begins.part.after rest.1
    begins.part.told rest.0 begins.part.tells rest.2 in (
      manner.opening ++ (begins.part.told ++ rest.0),
      record {
        told = begins.part.told ++ rest.0;
        after = rest.1;
        tells =
            subst (λ (l : List StreamLine).
            Told manner.step l 1 first (begins.part.told ++ rest.0) rest.1) (sym begins.split)
            tells;
        is = refl;
      },
      IsFront-trans wrote begins.text (manner.opening ++ (begins.part.told ++ rest.0))
          begins.begins (
            rest.0,
            sym (append_assoc manner.opening begins.part.told rest.0) ∙ ap (λ (l : List ℕ).
                l ++ rest.0) (sym begins.part.is),
          ),
    )
