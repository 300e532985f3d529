-- A stream that goes on by a line.
use Rattle.std.proofs.Common.{◌≡◌, ℕ, zero, suc, ◌+◌, ◌-◌, ◌<◌, Bool, true, false}
use Rattle.std.proofs.Common.{List, [], ◌∷◌, ◌++◌, length, get_or, refl, sym, ◌∙◌, ap, ap₂, subst}
use Rattle.std.proofs.Common.{arith}
use Rattle.std.specs.Prelude.{map, replicate, Some, slice_get, slice_set, MatchBool}
use Rattle.std.specs.List.{AllZip, position_or_len}
use Rattle.std.specs.Str.{bytes_eq}
use Rattle.std.proofs.lemmas.List.Quantifiers.{position-Some}
use Rattle.std.proofs.lemmas.List.Sums.{fails_before_first}
use Rattle.list_lemmas.proofs.Zipped.{AllZip-right}
use Rattle.edge_io.specs.Lines.{text}
use Rattle.stream_report.specs.Told.{Step}
use Rattle.monitor_core.specs.declared.state.State.{State}
use Rattle.monitor_core.specs.Exchanging.{Watched, StandsUnder, setting_under}
use Rattle.many_streams.specs.Streams.{Streams, number_of, with_state}
use Rattle.marked_lines.specs.Marks.{Marked}
use Rattle.marked_lines.specs.Texts.{Text, marked}
use Rattle.marked_lines.specs.Mixing.{Stream, Mixed, names_in, FirstGoesOn, GoesOn}
use Rattle.marked_lines.proofs.StreamNames.{same_name}
use Rattle.watch_report.specs.Report.{Standing, watches}
use Rattle.streams_report.specs.declared.streamer.Counts.{Counts}
use Rattle.streams_report.specs.Report.{watch_of}
use Rattle.streams_report.specs.Streaming.{no_counts, counts_of, all_counts, StandsFor, IsMixed}
use Rattle.streams_report.specs.Streaming.{TellsOne, GoesOnMixed}

-- ---- the first stream of a name, by its place

-- no stream before the place has the name, and the one there has it
abbrev IsFirst : Text → List Text → ℕ → Type 0
IsFirst name [] p = ⊥
IsFirst name (n ∷ names) zero = bytes_eq name n ≡ true
IsFirst name (n ∷ names) (suc p) = (bytes_eq name n ≡ false) × IsFirst name names p

first_from : (name d : Text) (names : List Text) (p : ℕ) → p < length names
    → bytes_eq name (get_or names p d) ≡ true
    → ((k : ℕ) → k < p → bytes_eq name (get_or names k d) ≡ false) → IsFirst name names p
first_from name d [] p within there before = absurd (omega (arith, within))
first_from name d (n ∷ names) zero within there before = there
first_from name d (n ∷ names) (suc p) within there before = (
  before 0 (omega arith),
  first_from name d names p (omega (arith, within)) there
      (λ k less. before (suc k) (omega (arith, less))),
)

first_of_number : (names : List Text) (name : Text) (p : ℕ) → number_of names name ≡ Some p
    → IsFirst name names p
first_of_number names name p is =
    let found = position-Some (λ known. bytes_eq name known) names p name is in
    first_from name name names p found.0 found.1 (λ k less.
    fails_before_first (λ known. bytes_eq name known) names k name (earlier k less))
  where
    earlier : (k : ℕ) → k < p → k < position_or_len (λ known. bytes_eq name known) names
    earlier k less = grind (arith, is)

-- ---- the streams after it

module _ (step : Step Standing) (name line alone : Text) (next : Standing) (lines : ℕ) where
  abbrev gone : Text → Stream Standing
  gone own = record { name = own; lines = lines; state = next }

  goes_at : (streams : List (Stream Standing)) (p : ℕ) (stream : Stream Standing)
      → IsFirst name (names_in streams) p → slice_get streams p ≡ Some stream
      → lines ≡ stream.lines + 1 → step stream.state (stream.lines + 1) (text line) alone next
      → GoesOn step name line streams (marked name alone)
      (slice_set streams p (gone stream.name))
  goes_at [] p stream first at more tells = absurd first
  goes_at (s ∷ streams) zero stream first at more tells =
      let same : s ≡ stream = cc in
      let own : name ≡ s.name = same_name name s.name first in
      let here : FirstGoesOn step line s streams (marked name alone) (gone stream.name ∷ streams)
      = (
        alone,
        next,
        subst (λ (x : Stream Standing). step x.state (x.lines + 1) (text line) alone next)
            (sym same) tells,
        ap (λ (n : Text). marked n alone) own,
        ap₂ (λ (n : Text) (k : ℕ). (let x : Stream Standing =
            record { name = n; lines = k; state = next } in x) ∷ streams)
            (ap (λ (x : Stream Standing). x.name) (sym same))
            (more ∙ ap (λ (x : Stream Standing). x.lines + 1) (sym same)),
      ) in
      subst (λ (t : Bool). MatchBool t
      (FirstGoesOn step line s streams (marked name alone) (gone stream.name ∷ streams))
      ((later : List (Stream Standing)) × GoesOn step name line streams (marked name alone) later
      × (gone stream.name ∷ streams ≡ s ∷ later))) (sym first) here
  goes_at (s ∷ streams) (suc p) stream first at more tells =
      let after = slice_set streams p (gone stream.name) in
      let rest = goes_at streams p stream first.1 at more tells in
      subst (λ (t : Bool). MatchBool t
      (FirstGoesOn step line s streams (marked name alone) (s ∷ after))
      ((later : List (Stream Standing)) × GoesOn step name line streams (marked name alone) later
      × (s ∷ after ≡ s ∷ later))) (sym first.0) (after, rest, refl)

  names_gone : (streams : List (Stream Standing)) (p : ℕ) (stream : Stream Standing)
      → slice_get streams p ≡ Some stream
      → names_in (slice_set streams p (gone stream.name)) ≡ names_in streams
  names_gone [] p stream at = refl
  names_gone (s ∷ streams) zero stream at =
      let same : s ≡ stream = cc in
      ap (λ (x : Stream Standing). x.name ∷ names_in streams) (sym same)
  names_gone (s ∷ streams) (suc p) stream at =
      ap (λ (l : List Text). s.name ∷ l) (names_gone streams p stream at)

length-set : (streams : List (Stream Standing)) (p : ℕ) (x : Stream Standing)
    → length (slice_set streams p x) ≡ length streams
length-set [] p x = refl
length-set (s ∷ streams) zero x = refl
length-set (s ∷ streams) (suc p) x = ap suc (length-set streams p x)

set_front : (streams : List (Stream Standing)) (p : ℕ) (x : Stream Standing) (rest : List Counts)
    → p < length streams
    → map counts_of (slice_set streams p x) ++ rest
    ≡ slice_set (map counts_of streams ++ rest) p (counts_of x)
set_front [] p x rest within = absurd (omega (arith, within))
set_front (s ∷ streams) zero x rest within = refl
set_front (s ∷ streams) (suc p) x rest within =
    ap (λ (l : List Counts). counts_of s ∷ l)
    (set_front streams p x rest (omega (arith, within)))

counts_gone : (streams : List (Stream Standing)) (p : ℕ) (x : Stream Standing)
    → p < length streams
    → all_counts (slice_set streams p x) ≡ slice_set (all_counts streams) p (counts_of x)
counts_gone streams p x within =
    ap (λ (n : ℕ). map counts_of (slice_set streams p x) ++ replicate (64 - n) no_counts)
    (length-set streams p x)
    ∙ set_front streams p x (replicate (64 - length streams) no_counts) within

zip_set : (watched : Watched) (states : List State) (streams : List (Stream Standing)) (p : ℕ)
    (state : State) (x : Stream Standing) → AllZip (StandsFor watched) states streams
    → StandsFor watched state x
    → AllZip (StandsFor watched) (slice_set states p state) (slice_set streams p x)
zip_set watched [] [] p state x zipped one = tt
zip_set watched [] (y ∷ streams) p state x zipped one = absurd zipped
zip_set watched (s ∷ states) [] p state x zipped one = absurd zipped
zip_set watched (s ∷ states) (y ∷ streams) zero state x zipped one = (one, zipped.1)
zip_set watched (s ∷ states) (y ∷ streams) (suc p) state x zipped one =
    (zipped.0, zip_set watched states streams p state x zipped.1 one)

pub get_count : (streams : List (Stream Standing)) (p : ℕ) (stream : Stream Standing) (d : Counts)
    (rest : List Counts) → slice_get streams p ≡ Some stream
    → get_or (map counts_of streams ++ rest) p d ≡ counts_of stream
get_count [] p stream d rest at = absurd cc
get_count (s ∷ streams) zero stream d rest at =
    let same : s ≡ stream = cc in ap counts_of same
get_count (s ∷ streams) (suc p) stream d rest at = get_count streams p stream d rest at

within_streams : (streams : List (Stream Standing)) (p : ℕ) (stream : Stream Standing)
    → slice_get streams p ≡ Some stream → p < length streams
within_streams [] p stream at = absurd cc
within_streams (s ∷ streams) zero stream at = omega arith
within_streams (s ∷ streams) (suc p) stream at =
    let less = within_streams streams p stream at in omega (arith, less)

at_place : (streams : List (Stream Standing)) (name : Text) (p : ℕ)
    → IsFirst name (names_in streams) p
    → (stream : Stream Standing) × (slice_get streams p ≡ Some stream)
at_place [] name p first = absurd first
at_place (s ∷ streams) name zero first = (s, refl)
at_place (s ∷ streams) name (suc p) first = at_place streams name p first.1

-- ---- all of it

pub goes_mixed : (old new : Streams) (counts after : List Counts) (unowned : ℕ)
    (mixed : Mixed Standing) (line : Marked) (p lines refused : ℕ) (told before now : Text)
    (d : Counts) → IsMixed old counts unowned mixed → number_of old.names line.name ≡ Some p
    → lines ≡ (get_or counts p d).lines + 1
    → ((state : State) (standing : Standing) → slice_get old.states p ≡ Some state
    → StandsUnder old.watched state standing.history
    → TellsOne old new p lines line.rest [] told refused standing)
    → new.watched ≡ old.watched → new.names ≡ old.names
    → after ≡ slice_set counts p
    (record { lines = lines; refused = (get_or counts p d).refused + refused })
    → now ≡ before ++ marked line.name told
    → GoesOnMixed new after unowned mixed line before now
goes_mixed old new counts after unowned mixed line p lines refused told before now d is number more
    tells watched names gains gathers =
    let step = watches (watch_of (setting_under old.watched)) in
    let first : IsFirst line.name (names_in mixed.streams) p =
    subst (λ (l : List Text). IsFirst line.name l p) (sym is.names)
    (first_of_number old.names line.name p number) in
    let found = at_place mixed.streams line.name p first in
    let stream = found.0 in
    let own = AllZip-right (StandsFor old.watched) old.states mixed.streams p stream is.histories
    found.1 in
    let one = tells own.0 stream.state own.1 own.2 in
    let count : get_or counts p d ≡ counts_of stream =
    ap (λ (l : List Counts). get_or l p d) is.counted
    ∙ get_count mixed.streams p stream d (replicate (64 - length mixed.streams) no_counts)
    found.1 in
    let counted : lines ≡ stream.lines + 1 = more ∙ ap (λ (c : Counts). c.lines + 1) count in
    let next : Stream Standing =
    record { name = stream.name; lines = lines; state = one.next } in
    let streams = slice_set mixed.streams p next in
    let goes : GoesOn step line.name line.rest mixed.streams (marked line.name one.alone) streams =
    goes_at step line.name line.rest one.alone one.next lines mixed.streams p stream first found.1
    counted (subst (λ (n : ℕ). step stream.state n (text line.rest) one.alone one.next) counted
    one.tells) in
    let stands : IsMixed (with_state p one.state old) after unowned
    (record mixed { streams = streams }) = record {
      names = names_gone step line.name line.rest one.alone one.next lines mixed.streams p stream
          found.1 ∙ is.names;
      histories = zip_set old.watched old.states mixed.streams p one.state next is.histories
          one.stands;
      counted = gains
          ∙ ap₂ (λ (l : List Counts) (k : ℕ). slice_set l p
          (let c : Counts = record { lines = lines; refused = k } in c)) is.counted
          (ap (λ (c : Counts). c.refused + refused) count ∙ sym one.counted)
          ∙ sym (counts_gone mixed.streams p next
          (within_streams mixed.streams p stream found.1));
      none = is.none;
    } in
    record {
      told = marked line.name one.alone;
      after = record mixed { streams = streams };
      goes = subst (λ (w : Watched). GoesOn (watches (watch_of (setting_under w))) line.name
          line.rest mixed.streams (marked line.name one.alone) streams) (sym watched) goes;
      same = refl;
      stands = subst (λ (s : Streams). IsMixed s after unowned
          (record mixed { streams = streams })) (sym one.is) stands;
      gathers = gathers ∙ ap (λ (t : Text). before ++ marked line.name t) one.gathers;
    }
