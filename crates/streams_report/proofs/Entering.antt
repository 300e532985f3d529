-- A stream that is entered.
use Rattle.std.proofs.Common.{◌≡◌, ℕ, suc, ◌+◌, ◌-◌, ◌<◌, ◌≤◌, Bool, true, false, cond, List}
use Rattle.std.proofs.Common.{[]}
use Rattle.std.proofs.Common.{◌∷◌, ◌++◌, length, refl, sym, ◌∙◌, ap, subst, arith, append_assoc}
use Rattle.std.proofs.Common.{length-append}
use Rattle.std.specs.Prelude.{◌||◌, ◌&&◌, not, nat_le, map, replicate, Option, None, Some, is_some}
use Rattle.std.specs.Prelude.{MatchOption}
use Rattle.std.specs.List.{Contains}
use Rattle.std.specs.Str.{bytes_eq}
use Rattle.std.proofs.lemmas.List.{map-append, length-map}
use Rattle.std.proofs.lemmas.Bool.{true≢false}
use Rattle.std.proofs.lemmas.Slice.Eq.{bytes_eq-Decides}
use Rattle.list_lemmas.proofs.Elements.{Contains-first, Contains-later}
use Rattle.list_lemmas.proofs.Positions.{place_decides}
use Rattle.list_lemmas.proofs.Zipped.{AllZip-added}
use Rattle.monitor_core.specs.Exchanging.{Watched}
use Rattle.many_streams.specs.Streams.{Streams, number_of, IsOneTooMany, Begins, Enters}
use Rattle.many_streams.specs.Streams.{no_streams}
use Rattle.marked_lines.specs.Texts.{Text}
use Rattle.marked_lines.specs.Mixing.{Stream, Mixed, names_in, has_name, begun, with_stream}
use Rattle.marked_lines.specs.Mixing.{is_one_too_many, unmixed}
use Rattle.marked_lines.proofs.StreamNames.{has_from_contains}
use Rattle.watch_report.specs.Report.{Standing}
use Rattle.streams_report.specs.declared.streamer.Counts.{Counts}
use Rattle.streams_report.specs.Report.{closed_start}
use Rattle.streams_report.specs.Streaming.{no_counts, counts_of, all_counts, StandsFor, IsMixed}

has_contains : (name : Text) (names : List Text) → has_name name names ≡ true
    → Contains names name
has_contains name [] is = absurd cc
has_contains name (first ∷ names) is =
    elim (bytes_eq name first) as (λ t. bytes_eq name first ≡ t
    → (t || has_name name names) ≡ true → Contains (first ∷ names) name) [
      | true ↦ λ same there. subst (Contains (first ∷ names))
          (sym ((bytes_eq-Decides name first).0 same)) (Contains-first first names)
      | false ↦ λ other there. Contains-later first names name (has_contains name names there)
    ] refl is

pub lacks_name : (names : List Text) (name : Text) → number_of names name ≡ None
    → has_name name names ≡ false
lacks_name names name none = go (has_name name names) refl
  where
    go : (h : Bool) → has_name name names ≡ h → has_name name names ≡ false
    go false is = is
    go true is =
        let some : is_some (number_of names name) ≡ true =
        (place_decides names name).1 (has_contains name names is) in
        absurd (true≢false (sym some ∙ ap is_some none))

pub knows_name : (names : List Text) (name : Text) (known : ℕ) → number_of names name ≡ Some known
    → has_name name names ≡ true
knows_name names name known is =
    has_from_contains name names ((place_decides names name).0 (ap is_some is))

not_full : (names : List Text) → length names < 64 → nat_le 64 (length names) ≡ false
not_full names less = grind arith

full : (names : List Text) → length names ≡ 64 → nat_le 64 (length names) ≡ true
full names is = ap (nat_le 64) is

-- the stream that begins is counted as one without lines
counts_begun : (streams : List (Stream Standing)) (name : Text) → length streams < 64
    → all_counts (streams ++ begun closed_start name ∷ []) ≡ all_counts streams
counts_begun streams name less =
    let one : Stream Standing = begun closed_start name in
    let left : 64 - length streams ≡ suc (64 - length (streams ++ one ∷ [])) =
    omega (arith, length-append streams (one ∷ [])) in
    ap (λ (l : List Counts). l ++ replicate (64 - length (streams ++ one ∷ [])) no_counts)
    (map-append counts_of streams (one ∷ []))
    ∙ append_assoc (map counts_of streams) (no_counts ∷ [])
    (replicate (64 - length (streams ++ one ∷ [])) no_counts)
    ∙ ap (λ (n : ℕ). map counts_of streams ++ replicate n no_counts) (sym left)

-- the streams after one is entered, and that it isn't one too many
pub record IsEntered (new : Streams) (counts : List Counts) (unowned : ℕ) (mixed : Mixed Standing)
    (name : Text) : Type 0 where
  pub few : is_one_too_many name (names_in mixed.streams) ≡ false
  pub mixes : IsMixed new counts unowned
      (record mixed { streams = with_stream closed_start name mixed.streams })

begun_mixed : (old new : Streams) (counts : List Counts) (unowned : ℕ) (mixed : Mixed Standing)
    (name : Text) (number : ℕ) → IsMixed old counts unowned mixed
    → number_of old.names name ≡ None → Begins old new name number → length new.names ≤ 64
    → IsEntered new counts unowned mixed name
begun_mixed old new counts unowned mixed name number is none b small =
    let one : Stream Standing = begun closed_start name in
    let names = names_in mixed.streams in
    let lacks : has_name name names ≡ false =
    ap (has_name name) is.names ∙ lacks_name old.names name none in
    let longer : length new.names ≡ length old.names + 1 =
    ap (λ (s : Streams). length s.names) b.is ∙ length-append old.names (name ∷ []) in
    let same : length names ≡ length old.names = ap (λ (l : List Text). length l) is.names in
    let less : length names < 64 = omega (arith, small, longer, same) in
    let less_streams : length mixed.streams < 64 =
    omega (arith, less, length-map mixed.streams (λ (s : Stream Standing). s.name)) in
    let more : with_stream closed_start name mixed.streams ≡ mixed.streams ++ one ∷ [] =
    ap (λ h. cond h mixed.streams (mixed.streams ++ one ∷ [])) lacks in
    record {
      few = ap (λ h. not h && nat_le 64 (length names)) lacks ∙ not_full names less;
      mixes = subst (λ (l : List (Stream Standing)).
          IsMixed new counts unowned (record mixed { streams = l })) (sym more)
          (subst (λ (s : Streams). IsMixed s counts unowned
          (record mixed { streams = mixed.streams ++ one ∷ [] })) (sym b.is) (record {
            names = map-append (λ (s : Stream Standing). s.name) mixed.streams (one ∷ [])
                ∙ ap (λ (l : List Text). l ++ name ∷ []) is.names;
            histories = AllZip-added (StandsFor old.watched) old.states mixed.streams b.state one
                is.histories b.stands;
            counted = is.counted ∙ sym (counts_begun mixed.streams name less_streams);
            none = is.none;
          }));
    }

known_mixed : (old new : Streams) (counts : List Counts) (unowned : ℕ) (mixed : Mixed Standing)
    (name : Text) (known : ℕ) → IsMixed old counts unowned mixed
    → number_of old.names name ≡ Some known → new ≡ old → IsEntered new counts unowned mixed name
known_mixed old new counts unowned mixed name known is some same =
    let names = names_in mixed.streams in
    let has : has_name name names ≡ true =
    ap (has_name name) is.names ∙ knows_name old.names name known some in
    let stays : with_stream closed_start name mixed.streams ≡ mixed.streams =
    ap (λ h. cond h mixed.streams (mixed.streams ++ begun closed_start name ∷ [])) has in
    record {
      few = ap (λ h. not h && nat_le 64 (length names)) has;
      mixes = subst (λ (l : List (Stream Standing)).
          IsMixed new counts unowned (record mixed { streams = l })) (sym stays)
          (subst (λ (s : Streams). IsMixed s counts unowned mixed) (sym same) is);
    }

pub entered_mixed : (old new : Streams) (counts : List Counts) (unowned : ℕ)
    (mixed : Mixed Standing) (name : Text) (number : ℕ) → IsMixed old counts unowned mixed
    → Enters old new name number → length new.names ≤ 64
    → IsEntered new counts unowned mixed name
entered_mixed old new counts unowned mixed name number is enters small =
    go (number_of old.names name) refl enters
  where
    go : (n : Option ℕ) → number_of old.names name ≡ n
        → MatchOption n (Begins old new name number) (λ known. (number ≡ known) × (new ≡ old))
        → IsEntered new counts unowned mixed name
    go None none b = begun_mixed old new counts unowned mixed name number is none b small
    go (Some known) some both =
        known_mixed old new counts unowned mixed name known is some both.1

-- one too many
pub too_many : (set : Streams) (counts : List Counts) (unowned : ℕ) (mixed : Mixed Standing)
    (name : Text) → IsMixed set counts unowned mixed → IsOneTooMany set name
    → is_one_too_many name (names_in mixed.streams) ≡ true
too_many set counts unowned mixed name is many =
    ap (is_one_too_many name) is.names
    ∙ ap (λ h. not h && nat_le 64 (length set.names)) (lacks_name set.names name many.0)
    ∙ full set.names many.1

-- before the first line
pub begins_mixed : (set : Streams) (counts : List Counts) (unowned : ℕ) (watched : Watched)
    → set ≡ no_streams watched → counts ≡ replicate 64 no_counts → unowned ≡ 0
    → IsMixed set counts unowned unmixed
begins_mixed set counts unowned watched is all none =
    subst (λ (s : Streams). IsMixed s counts unowned unmixed) (sym is)
    (record { names = refl; histories = tt; counted = all; none = none })
