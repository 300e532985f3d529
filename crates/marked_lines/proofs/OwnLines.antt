-- What a line of mixed streams does to the stream of one name.
use Rattle.std.proofs.Common.{◌≡◌, ◌≢◌, ℕ, ◌+◌, true, false, cond, List, [], ◌∷◌}
use Rattle.std.proofs.Common.{◌++◌, length, refl, sym, ◌∙◌, ap, subst, append-nil}
use Rattle.std.proofs.Common.{arith}
use Rattle.std.specs.Prelude.{MatchBool, codes}
use Rattle.std.specs.Str.{bytes_eq}
use Rattle.list_lemmas.proofs.Positions.{bytes_eq-other}
use Rattle.edge_io.specs.Lines.{Item as StreamLine, text, has_newline}
use Rattle.edge_io.proofs.LinesLemmas.{has_newline-append}
use Rattle.stream_report.specs.Told.{Step, Told}
use Rattle.marked_lines.specs.Marks.{Marked, Belonging, to_stream, skipped, to_none, is_long}
use Rattle.marked_lines.specs.Texts.{Text, IsWhole, marked}
use Rattle.marked_lines.specs.Mixing.{Stream, Mixed, names_in, has_name, begun, with_stream}
use Rattle.marked_lines.specs.Mixing.{is_one_too_many, FirstGoesOn, GoesOn, Refuses, Tells}
use Rattle.marked_lines.specs.Laws.{unmarked, own_rest}
use Rattle.marked_lines.proofs.MarkedTexts.{IsPlain, plain_line, unmarked_marked, unmarked_other}
use Rattle.marked_lines.proofs.BareTexts.{unmarked_refusal}
use Rattle.marked_lines.proofs.StreamNames.{same_name, other_name, IsPlainTo}

module _ {State : Type 0} (step : Step State) (first : State) where
  -- the stream of the name, or what it would begin as
  abbrev pub stream_of : Text → List (Stream State) → Stream State
  stream_of name [] = begun first name
  stream_of name (stream ∷ streams) =
      cond (bytes_eq name stream.name) stream (stream_of name streams)

  -- from one list of streams to another the stream of the name had these lines, of which this is
  -- what is told behind its mark
  pub record Passes (name : Text) (own : List StreamLine) (before after : List (Stream State))
      (told : Text) : Type 0 where
    pub alone : Text
    pub tells : Told step own ((stream_of name before).lines + 1) (stream_of name before).state
        alone (stream_of name after).state
    pub counted : (stream_of name after).lines ≡ (stream_of name before).lines + length own
    pub reads : (rest : Text) → unmarked name (told ++ rest) ≡ alone ++ unmarked name rest

  -- it had none, and nothing is told behind its mark
  pub passes_by : (name : Text) (own : List StreamLine) (before after : List (Stream State))
      (told : Text) → own ≡ [] → stream_of name after ≡ stream_of name before
      → ((rest : Text) → unmarked name (told ++ rest) ≡ unmarked name rest)
      → Passes name own before after told
  passes_by name own before after told none same reads =
      subst (λ (l : List StreamLine). Passes name l before after told) (sym none) (record {
        alone = [];
        tells = (refl, ap (λ (s : Stream State). s.state) same);
        counted = omega (arith, ap (λ (s : Stream State). s.lines) same);
        reads = reads;
      })

  -- ---- a stream that begins

  of_more : (name new : Text) (streams : List (Stream State))
      → stream_of name (streams ++ begun first new ∷ []) ≡ stream_of name streams
  of_more name new [] =
      elim (bytes_eq name new) as (λ t. bytes_eq name new ≡ t
      → cond t (begun first new) (begun first name) ≡ begun first name) [
        | true ↦ λ is. ap (begun first) (sym (same_name name new is))
        | false ↦ λ is. refl
      ] refl
  of_more name new (stream ∷ streams) =
      ap (cond (bytes_eq name stream.name) stream) (of_more name new streams)

  of_begun : (name new : Text) (streams : List (Stream State))
      → stream_of name (with_stream first new streams) ≡ stream_of name streams
  of_begun name new streams =
      elim (has_name new (names_in streams)) as (λ h.
      stream_of name (cond h streams (streams ++ begun first new ∷ []))
      ≡ stream_of name streams) [ true ↦ refl | false ↦ of_more name new streams ]

  -- ---- a stream that goes on

  record Went (name line told : Text) (old new : Stream State) : Type 0 where
    alone : Text
    tells : step old.state (old.lines + 1) (text line) alone new.state
    counted : new.lines ≡ old.lines + 1
    is : told ≡ marked name alone

  went : (name line : Text) (streams : List (Stream State)) (told : Text)
      (after : List (Stream State)) → GoesOn step name line streams told after
      → Went name line told (stream_of name streams) (stream_of name after)
  went name line [] told after p = absurd p
  went name line (stream ∷ streams) told after p =
      elim (bytes_eq name stream.name) as (λ t. bytes_eq name stream.name ≡ t →
      MatchBool t (FirstGoesOn step line stream streams told after)
      ((later : List (Stream State)) × GoesOn step name line streams told later
      × (after ≡ stream ∷ later)) →
      Went name line told (cond t stream (stream_of name streams)) (stream_of name after)) [
        | true ↦ λ is f.
            let next : Stream State =
            record { name = stream.name; lines = stream.lines + 1; state = f.1 } in
            let there : stream_of name after ≡ next =
            ap (stream_of name) f.4
            ∙ ap (λ t. cond t next (stream_of name streams)) is in
            subst (Went name line told stream) (sym there) (record {
              alone = f.0;
              tells = f.2;
              counted = refl;
              is = f.3 ∙ ap (λ (n : Text). marked n f.0) (sym (same_name name stream.name is));
            })
        | false ↦ λ is q.
            let there : stream_of name after ≡ stream_of name q.0 =
            ap (stream_of name) q.2 ∙ ap (λ t. cond t stream (stream_of name q.0)) is in
            subst (Went name line told (stream_of name streams)) (sym there)
            (went name line streams told q.0 q.1)
      ] refl p

  -- another one that goes on leaves it
  went_other : (name new line : Text) (streams : List (Stream State)) (told : Text)
      (after : List (Stream State)) → name ≢ new → GoesOn step new line streams told after
      → (alone : Text) × (told ≡ marked new alone)
      × (stream_of name after ≡ stream_of name streams)
  went_other name new line [] told after apart p = absurd p
  went_other name new line (stream ∷ streams) told after apart p =
      elim (bytes_eq new stream.name) as (λ t. bytes_eq new stream.name ≡ t →
      MatchBool t (FirstGoesOn step line stream streams told after)
      ((later : List (Stream State)) × GoesOn step new line streams told later
      × (after ≡ stream ∷ later)) →
      (alone : Text) × (told ≡ marked new alone)
      × (stream_of name after ≡ stream_of name (stream ∷ streams))) [
        | true ↦ λ is f.
            let next : Stream State =
            record { name = stream.name; lines = stream.lines + 1; state = f.1 } in
            let same : new ≡ stream.name = same_name new stream.name is in
            let never : bytes_eq name stream.name ≡ false =
            bytes_eq-other name stream.name (λ e. apart (e ∙ sym same)) in (
              f.0,
              f.3 ∙ ap (λ (n : Text). marked n f.0) (sym same),
              ap (stream_of name) f.4 ∙ ap (λ t. cond t next (stream_of name streams)) never
                  ∙ sym (ap (λ t. cond t stream (stream_of name streams)) never),
            )
        | false ↦ λ is q.
            let more = went_other name new line streams told q.0 apart q.1 in (
              more.0,
              more.1,
              ap (stream_of name) q.2
                  ∙ ap (cond (bytes_eq name stream.name) stream) more.2,
            )
      ] refl p

  -- ---- one line

  module _ (whole : (state : State) (number : ℕ) (line : StreamLine) (told : Text) (after : State)
      → step state number line told after → IsWhole told) where
    refused : (name : Text) (before after : Mixed State) (number : ℕ) (cause told : Text)
        → has_newline cause ≡ false → Refuses before number cause told after
        → Passes name [] before.streams after.streams told
    refused name before after number cause told none p =
        passes_by name [] before.streams after.streams told refl
        (ap (λ (m : Mixed State). stream_of name m.streams) p.1)
        (λ rest. ap (λ (t : Text). unmarked name (t ++ rest)) p.0
        ∙ unmarked_refusal name number cause rest none)

    own_went : (name rest told : Text) (before after : List (Stream State)) → IsPlain name
        → Went name rest told (stream_of name before) (stream_of name after)
        → Passes name (text rest ∷ []) before after told
    own_went name rest told before after plain w = record {
      alone = w.alone;
      tells = (
        w.alone,
        [],
        (stream_of name after).state,
        w.tells,
        (refl, refl),
        sym (append-nil w.alone),
      );
      counted = w.counted;
      reads = λ more. ap (λ (t : Text). unmarked name (t ++ more)) w.is
          ∙ unmarked_marked name w.alone more plain
          (whole (stream_of name before).state ((stream_of name before).lines + 1) (text rest)
          w.alone (stream_of name after).state w.tells);
    }

    -- a line of the stream itself
    same_line : (name : Text) (before after : Mixed State) (line : Marked) (told : Text)
        → IsPlain name → bytes_eq name line.name ≡ true
        → GoesOn step line.name line.rest (with_stream first line.name before.streams) told
        after.streams → Passes name (text line.rest ∷ []) before.streams after.streams told
    same_line name before after line told plain is p =
        let same : name ≡ line.name = same_name name line.name is in
        let here : GoesOn step name line.rest (with_stream first name before.streams) told
        after.streams = subst (λ (n : Text).
        GoesOn step n line.rest (with_stream first n before.streams) told after.streams) (sym same)
        p in
        own_went name line.rest told before.streams after.streams plain
        (subst (λ (s : Stream State). Went name line.rest told s (stream_of name after.streams))
        (of_begun name name before.streams)
        (went name line.rest (with_stream first name before.streams) told after.streams here))

    -- a line of another
    other_line : (name : Text) (before after : Mixed State) (line : Marked) (told : Text)
        → IsPlain name → IsPlain line.name → bytes_eq name line.name ≡ false
        → GoesOn step line.name line.rest (with_stream first line.name before.streams) told
        after.streams → Passes name [] before.streams after.streams told
    other_line name before after line told plain other is p =
        let apart : name ≢ line.name = other_name name line.name is in
        let w = went_other name line.name line.rest (with_stream first line.name before.streams)
        told after.streams apart p in
        passes_by name [] before.streams after.streams told refl
        (w.2 ∙ of_begun name line.name before.streams)
        (λ more. ap (λ (t : Text). unmarked name (t ++ more)) w.1
        ∙ unmarked_other name line.name w.0 more plain other apart)

    -- a marked line, where the name isn't one too many itself
    marked_line_passes : (name : Text) (before after : Mixed State) (number : ℕ) (line : Marked)
        (told : Text) → IsPlain name → IsPlain line.name
        → (is_one_too_many line.name (names_in before.streams) ≡ true → name ≢ line.name)
        → Tells step first before number (to_stream line) told after
        → Passes name (own_rest name (to_stream line)) before.streams after.streams told
    marked_line_passes name before after number line told plain other enters p =
        elim (bytes_eq name line.name) as (λ s. bytes_eq name line.name ≡ s →
        Passes name (cond s (text line.rest ∷ []) []) before.streams after.streams told) [
          | true ↦ λ same. elim (is_one_too_many line.name (names_in before.streams)) as (λ t.
              is_one_too_many line.name (names_in before.streams) ≡ t →
              MatchBool t
              (Refuses before number (codes "too-many-streams " ++ line.name) told after)
              (GoesOn step line.name line.rest (with_stream first line.name before.streams) told
              after.streams × (after.unowned ≡ before.unowned)) →
              Passes name (text line.rest ∷ []) before.streams after.streams told) [
                | true ↦ λ many r. absurd (enters many (same_name name line.name same))
                | false ↦ λ few g. same_line name before after line told plain same g.0
              ] refl p
          | false ↦ λ apart. elim (is_one_too_many line.name (names_in before.streams)) as (λ t.
              MatchBool t
              (Refuses before number (codes "too-many-streams " ++ line.name) told after)
              (GoesOn step line.name line.rest (with_stream first line.name before.streams) told
              after.streams × (after.unowned ≡ before.unowned)) →
              Passes name [] before.streams after.streams told) [
                | true ↦ λ r. refused name before after number
                    (codes "too-many-streams " ++ line.name) told
                    (has_newline-append (codes "too-many-streams ") line.name refl
                    (plain_line line.name other)) r
                | false ↦ λ g. other_line name before after line told plain other apart g.0
              ] p
        ] refl

    -- the name isn't the one that a line would bring too many by
    abbrev pub Enters : Text → List (Stream State) → Belonging → Type 0
    Enters name streams (to_stream line) =
        is_one_too_many line.name (names_in streams) ≡ true → name ≢ line.name
    Enters name streams skipped = Unit {0}
    Enters name streams to_none = Unit {0}
    Enters name streams is_long = Unit {0}

    -- any line
    pub line_passes : (name : Text) (before after : Mixed State) (number : ℕ) (b : Belonging)
        (told : Text) → IsPlain name → IsPlainTo b → Enters name before.streams b
        → Tells step first before number b told after
        → Passes name (own_rest name b) before.streams after.streams told
    line_passes name before after number (to_stream line) told plain other enters p =
        marked_line_passes name before after number line told plain other enters p
    line_passes name before after number skipped told plain other enters p =
        passes_by name [] before.streams after.streams told refl
        (ap (λ (m : Mixed State). stream_of name m.streams) p.1)
        (λ rest. ap (λ (t : Text). unmarked name (t ++ rest)) p.0)
    line_passes name before after number to_none told plain other enters p =
        refused name before after number (codes "no-stream") told refl p
    line_passes name before after number is_long told plain other enters p =
        refused name before after number (codes "too-long") told refl p
