-- Mixed streams are told in one way, where one alone is.
use Rattle.std.proofs.Common.{◌≡◌, ℕ, ◌+◌, true, false, List, [], ◌∷◌, ◌++◌, length}
use Rattle.std.proofs.Common.{sym, ◌∙◌, ap}
use Rattle.std.specs.Prelude.{MatchBool, codes}
use Rattle.std.specs.Str.{bytes_eq}
use Rattle.edge_io.specs.Lines.{text}
use Rattle.stream_report.specs.Told.{Step}
use Rattle.stream_report.specs.Laws.{IsOneValued, HasOneText}
use Rattle.marked_lines.specs.Marks.{Belonging, to_stream, skipped, to_none, is_long}
use Rattle.marked_lines.specs.Marks.{belongs}
use Rattle.marked_lines.specs.Texts.{Text, marked, end_text}
use Rattle.marked_lines.specs.Mixing.{Stream, Mixed, names_in, with_stream, is_one_too_many}
use Rattle.marked_lines.specs.Mixing.{FirstGoesOn, GoesOn, Refuses, Tells, mixes, AreClosed, Ends}
use Rattle.marked_lines.specs.Mixing.{mixing}
use Rattle.marked_lines.specs.Laws.{telling_alone}

module _ {State : Type 0} (step : Step State) (closes : State → Text → Type 0) (first : State)
    (single : HasOneText (telling_alone step closes)) where
  first_once : (line : Text) (stream : Stream State) (streams : List (Stream State))
      (one other : Text) (after later : List (Stream State))
      → FirstGoesOn step line stream streams one after
      → FirstGoesOn step line stream streams other later → (one ≡ other) × (after ≡ later)
  first_once line stream streams one other after later p q =
      let same = single.0 stream.state (stream.lines + 1) (text line) p.0 q.0 p.1 q.1 p.2 q.2 in (
        p.3 ∙ ap (marked stream.name) same.0 ∙ sym q.3,
        p.4 ∙ ap (λ (s : State).
            (let next : Stream State =
            record { name = stream.name; lines = stream.lines + 1; state = s } in next) ∷ streams)
            same.1 ∙ sym q.4,
      )

  goes_once : (name line : Text) (streams : List (Stream State)) (one other : Text)
      (after later : List (Stream State)) → GoesOn step name line streams one after
      → GoesOn step name line streams other later → (one ≡ other) × (after ≡ later)
  goes_once name line [] one other after later p q = absurd p
  goes_once name line (stream ∷ streams) one other after later p q =
      elim (bytes_eq name stream.name) as (λ t.
      MatchBool t (FirstGoesOn step line stream streams one after)
      ((rest : List (Stream State)) × GoesOn step name line streams one rest
      × (after ≡ stream ∷ rest))
      → MatchBool t (FirstGoesOn step line stream streams other later)
      ((rest : List (Stream State)) × GoesOn step name line streams other rest
      × (later ≡ stream ∷ rest)) → (one ≡ other) × (after ≡ later)) [
        | true ↦ λ f g. first_once line stream streams one other after later f g
        | false ↦ λ f g.
            let same = goes_once name line streams one other f.0 g.0 f.1 g.1 in (
              same.0,
              f.2 ∙ ap (λ (l : List (Stream State)). stream ∷ l) same.1 ∙ sym g.2,
            )
      ] p q

  same_mixed : (one other : Mixed State) → one.streams ≡ other.streams
      → one.unowned ≡ other.unowned → one ≡ other
  same_mixed one other streams unowned =
      ap (λ (s : List (Stream State)).
      let m : Mixed State = record { streams = s; unowned = one.unowned } in m) streams
      ∙ ap (λ (n : ℕ).
      let m : Mixed State = record { streams = other.streams; unowned = n } in m) unowned

  tells_once : (before : Mixed State) (number : ℕ) (b : Belonging) (one other : Text)
      (after later : Mixed State) → Tells step first before number b one after
      → Tells step first before number b other later → (one ≡ other) × (after ≡ later)
  tells_once before number (to_stream line) one other after later p q =
      elim (is_one_too_many line.name (names_in before.streams)) as (λ t.
      MatchBool t (Refuses before number (codes "too-many-streams " ++ line.name) one after)
      (GoesOn step line.name line.rest (with_stream first line.name before.streams) one
      after.streams × (after.unowned ≡ before.unowned))
      → MatchBool t (Refuses before number (codes "too-many-streams " ++ line.name) other later)
      (GoesOn step line.name line.rest (with_stream first line.name before.streams) other
      later.streams × (later.unowned ≡ before.unowned)) → (one ≡ other) × (after ≡ later)) [
        | true ↦ λ f g. (f.0 ∙ sym g.0, f.1 ∙ sym g.1)
        | false ↦ λ f g.
            let same = goes_once line.name line.rest (with_stream first line.name before.streams)
            one other after.streams later.streams f.0 g.0 in
            (same.0, same_mixed after later same.1 (f.1 ∙ sym g.1))
      ] p q
  tells_once before number skipped one other after later p q = (p.0 ∙ sym q.0, p.1 ∙ sym q.1)
  tells_once before number to_none one other after later p q = (p.0 ∙ sym q.0, p.1 ∙ sym q.1)
  tells_once before number is_long one other after later p q = (p.0 ∙ sym q.0, p.1 ∙ sym q.1)

  mixes_once : IsOneValued (mixes step first)
  mixes_once before number line one other after later p q =
      tells_once before number (belongs line) one other after later p q

  closed_once : (streams : List (Stream State)) (one other : Text)
      → AreClosed closes streams one → AreClosed closes streams other → one ≡ other
  closed_once [] one other p q = p ∙ sym q
  closed_once (stream ∷ streams) one other p q =
      p.4
      ∙ ap (λ (t : Text). marked stream.name t ++ p.1) (single.1 stream.state p.0 q.0 p.2 q.2)
      ∙ ap (λ (t : Text). marked stream.name q.0 ++ t)
      (closed_once streams p.1 q.1 p.3 q.3) ∙ sym q.4

  ends_once : (after : Mixed State) (one other : Text) → Ends closes after one
      → Ends closes after other → one ≡ other
  ends_once after one other p q =
      p.2
      ∙ ap (λ (t : Text). t ++ end_text (length after.streams) after.unowned)
      (closed_once after.streams p.0 q.0 p.1 q.1) ∙ sym q.2

  pub mixing_once : HasOneText (mixing step closes first)
  mixing_once = (mixes_once, ends_once)
