-- Each of mixed streams is told as it would be told alone.
use Rattle.std.proofs.Common.{◌≡◌, ◌≢◌, ℕ, ◌+◌, Bool, true, false, cond, List, [], ◌∷◌, ◌++◌}
use Rattle.std.proofs.Common.{length, refl, sym, ◌∙◌, ap, subst, append-nil, append_assoc, arith}
use Rattle.std.proofs.Common.{length-append}
use Rattle.std.specs.Prelude.{◌&&◌, ◌||◌, not, nat_le}
use Rattle.std.specs.Str.{bytes_eq}
use Rattle.edge_io.specs.Lines.{Item as StreamLine}
use Rattle.stream_report.specs.Told.{Step, Told, Report}
use Rattle.stream_report.specs.Laws.{HasOneText}
use Rattle.stream_report.proofs.ToldLaws.{told_joined}
use Rattle.stream_report.proofs.ReportLaws.{one_report}
use Rattle.marked_lines.specs.Marks.{Belonging, to_stream, skipped, to_none, is_long}
use Rattle.marked_lines.specs.Marks.{belongs}
use Rattle.marked_lines.specs.Texts.{Text, IsWhole, marked, end_text}
use Rattle.marked_lines.specs.Mixing.{Stream, Mixed, unmixed, names_in, has_name, mixes}
use Rattle.marked_lines.specs.Mixing.{is_one_too_many, AreClosed}
use Rattle.marked_lines.specs.Laws.{unmarked, own_rest, alone, with_name_of, names_after}
use Rattle.marked_lines.specs.Laws.{telling_alone, EachIsAlone, OrderIsFree}
use Rattle.marked_lines.proofs.MarkedTexts.{IsPlain, unmarked_marked, unmarked_other}
use Rattle.marked_lines.proofs.BareTexts.{unmarked_end}
use Rattle.marked_lines.proofs.StreamNames.{other_name, belongs_plain, ArePlain, AreOnce}
use Rattle.marked_lines.proofs.StreamNames.{plain_with, plain_after, once_after, full_with}
use Rattle.marked_lines.proofs.StreamNames.{full_after, has_from_contains, plain_among, same_name}
use Rattle.marked_lines.proofs.StreamNames.{tells_names}
use Rattle.marked_lines.proofs.OwnLines.{stream_of, Passes, Enters, line_passes}

and_false : (a b : Bool) → (not a && b) ≡ true → (a ≡ false) × (b ≡ true)
and_false true b is = absurd cc
and_false false b is = (refl, is)

-- a name that is one too many is never among the names later
never_enters : (names : List Text) (lines : List StreamLine) (b : Belonging) (name new : Text)
    → is_one_too_many new names ≡ true
    → has_name name (names_after (with_name_of names b) lines) ≡ true → name ≢ new
never_enters names lines b name new many there same =
    let both = and_false (has_name new names) (nat_le 64 (length names)) many in
    let stay : names_after (with_name_of names b) lines ≡ names =
    ap (λ (n : List Text). names_after n lines) (full_with names b both.1)
    ∙ full_after lines names both.1 in
    let never : has_name name names ≡ false =
    ap (λ (n : Text). has_name n names) same ∙ both.0 in
    let here : has_name name names ≡ true =
    ap (has_name name) (sym stay) ∙ there in
    let clash : true ≡ false = sym here ∙ never in cc

either_false : (a b : Bool) → (a || b) ≡ false → (a ≡ false) × (b ≡ false)
either_false true b is = absurd cc
either_false false b is = (refl, is)

module _ {State : Type 0} (step : Step State) (closes : State → Text → Type 0) (first : State)
    (whole : (state : State) (number : ℕ) (line : StreamLine) (told : Text) (after : State)
    → step state number line told after → IsWhole told)
    (whole_end : (state : State) (told : Text) → closes state told → IsWhole told) where
  enters : (name : Text) (before : List (Stream State)) (b : Belonging) (lines : List StreamLine)
      → has_name name (names_after (with_name_of (names_in before) b) lines) ≡ true
      → Enters step first whole name before b
  enters name before (to_stream line) lines there = λ many.
      never_enters (names_in before) lines (to_stream line) name line.name many there
  enters name before skipped lines there = tt
  enters name before to_none lines there = tt
  enters name before is_long lines there = tt

  -- lines joined
  joined : (name : Text) (one other : List StreamLine) (a b c : List (Stream State))
      (told rest : Text) → Passes step first name one a b told
      → Passes step first name other b c rest
      → Passes step first name (one ++ other) a c (told ++ rest)
  joined name one other a b c told rest p q =
      let start = (stream_of step first name a).lines + 1 in
      let number : (stream_of step first name b).lines + 1 ≡ start + length one =
      omega (arith, p.counted) in
      record {
        alone = p.alone ++ q.alone;
        tells = told_joined step one other start (stream_of step first name a).state
            (stream_of step first name b).state (stream_of step first name c).state p.alone q.alone
            p.tells (subst (λ (n : ℕ).
            Told step other n (stream_of step first name b).state q.alone
            (stream_of step first name c).state) number q.tells);
        counted = omega (arith, p.counted, q.counted, length-append one other);
        reads = λ more. ap (unmarked name) (append_assoc told rest more)
            ∙ p.reads (rest ++ more)
            ∙ ap (λ (t : Text). p.alone ++ t) (q.reads more)
            ∙ sym (append_assoc p.alone q.alone (unmarked name more));
      }

  passes : (name : Text) (lines : List StreamLine) (number : ℕ) (before after : Mixed State)
      (told : Text) → IsPlain name → ArePlain (names_in before.streams)
      → has_name name (names_after (names_in before.streams) lines) ≡ true
      → Told (mixes step first) lines number before told after
      → Passes step first name (alone name lines) before.streams after.streams told
  passes name [] number before after told plain are there p = record {
    alone = [];
    tells = (refl, ap (λ (m : Mixed State). (stream_of step first name m.streams).state) p.1);
    counted = omega (
      arith,
      ap (λ (m : Mixed State). (stream_of step first name m.streams).lines)
          p.1,
    );
    reads = λ more. ap (λ (t : Text). unmarked name (t ++ more)) p.0;
  }
  passes name (line ∷ lines) number before after told plain are there p =
      let b = belongs line in
      let next = p.2 in
      let names : names_in next.streams ≡ with_name_of (names_in before.streams) b =
      tells_names step first before number b p.0 next p.3 in
      let one : Passes step first name (own_rest name b) before.streams next.streams p.0 =
      line_passes step first whole name before next number b p.0 plain (belongs_plain line)
      (enters name before.streams b lines there) p.3 in
      let more : Passes step first name (alone name lines) next.streams after.streams p.1 =
      passes name lines (number + 1) next after p.1 plain
      (subst ArePlain (sym names) (plain_with (names_in before.streams) b are (belongs_plain line)))
      (ap (λ (n : List Text). has_name name (names_after n lines)) names ∙ there) p.4 in
      subst (λ (t : Text). Passes step first name (own_rest name b ++ alone name lines)
      before.streams after.streams t) (sym p.5)
      (joined name (own_rest name b) (alone name lines) before.streams next.streams after.streams
      p.0 p.1 one more)

  after_names : (lines : List StreamLine) (number : ℕ) (before after : Mixed State) (told : Text)
      → Told (mixes step first) lines number before told after
      → names_in after.streams ≡ names_after (names_in before.streams) lines
  after_names [] number before after told p = ap (λ (m : Mixed State). names_in m.streams) p.1
  after_names (line ∷ lines) number before after told p =
      after_names lines (number + 1) p.2 after p.1 p.4
      ∙ ap (λ (n : List Text). names_after n lines)
      (tells_names step first before number (belongs line) p.0 p.2 p.3)

  -- ---- what stands last

  none_closed : (name : Text) (streams : List (Stream State)) (told : Text) → IsPlain name
      → ArePlain (names_in streams) → has_name name (names_in streams) ≡ false
      → AreClosed closes streams told
      → (rest : Text) → unmarked name (told ++ rest) ≡ unmarked name rest
  none_closed name [] told plain are none p rest =
      ap (λ (t : Text). unmarked name (t ++ rest)) p
  none_closed name (stream ∷ streams) told plain are none p rest =
      let both = either_false (bytes_eq name stream.name) (has_name name (names_in streams)) none in
      ap (λ (t : Text). unmarked name (t ++ rest)) p.4
      ∙ ap (unmarked name) (append_assoc (marked stream.name p.0) p.1 rest)
      ∙ unmarked_other name stream.name p.0 (p.1 ++ rest) plain are.0
      (other_name name stream.name both.0)
      ∙ none_closed name streams p.1 plain are.1 both.1 p.3 rest

  record Closed (name : Text) (streams : List (Stream State)) (told : Text) : Type 0 where
    alone : Text
    closes_so : closes (stream_of step first name streams).state alone
    reads : (rest : Text) → unmarked name (told ++ rest) ≡ alone ++ unmarked name rest

  closed : (name : Text) (streams : List (Stream State)) (told : Text) → IsPlain name
      → ArePlain (names_in streams) → AreOnce (names_in streams)
      → has_name name (names_in streams) ≡ true → AreClosed closes streams told
      → Closed name streams told
  closed name [] told plain are once there p = absurd cc
  closed name (stream ∷ streams) told plain are once there p =
      elim (bytes_eq name stream.name) as (λ t. bytes_eq name stream.name ≡ t
      → (t || has_name name (names_in streams)) ≡ true → Closed name (stream ∷ streams) told) [
        | true ↦ λ is some.
            let same : name ≡ stream.name = same_name name stream.name is in
            let none : has_name name (names_in streams) ≡ false =
            ap (λ (n : Text). has_name n (names_in streams)) same ∙ once.0 in
            let here : stream_of step first name (stream ∷ streams) ≡ stream =
            ap (λ t. cond t stream (stream_of step first name streams)) is in
            record {
              alone = p.0;
              closes_so = subst (λ (s : Stream State). closes s.state p.0) (sym here) p.2;
              reads = λ rest. ap (λ (t : Text). unmarked name (t ++ rest)) p.4
                  ∙ ap (unmarked name) (append_assoc (marked stream.name p.0) p.1 rest)
                  ∙ ap (λ (n : Text). unmarked name (marked n p.0 ++ (p.1 ++ rest))) (sym same)
                  ∙ unmarked_marked name p.0 (p.1 ++ rest) plain (whole_end stream.state p.0 p.2)
                  ∙ ap (λ (t : Text). p.0 ++ t)
                  (none_closed name streams p.1 plain are.1 none p.3 rest);
            }
        | false ↦ λ is some.
            let more = closed name streams p.1 plain are.1 once.1 some p.3 in
            let here : stream_of step first name (stream ∷ streams)
            ≡ stream_of step first name streams =
            ap (λ t. cond t stream (stream_of step first name streams)) is in
            record {
              alone = more.alone;
              closes_so = subst (λ (s : Stream State). closes s.state more.alone) (sym here)
                  more.closes_so;
              reads = λ rest. ap (λ (t : Text). unmarked name (t ++ rest)) p.4
                  ∙ ap (unmarked name) (append_assoc (marked stream.name p.0) p.1 rest)
                  ∙ unmarked_other name stream.name p.0 (p.1 ++ rest) plain are.0
                  (other_name name stream.name is) ∙ more.reads rest;
            }
      ] refl there

  -- ---- all of it

  pub each_is_alone : EachIsAlone step closes first
  each_is_alone lines told name report among =
      let there : has_name name (names_after [] lines) ≡ true =
      has_from_contains name (names_after [] lines) among in
      let plain : IsPlain name =
      plain_among name (names_after [] lines) (plain_after lines [] tt) there in
      let names : names_in report.after.streams ≡ names_after [] lines =
      after_names lines 1 unmixed report.after report.told report.tells in
      let own = passes name lines 1 unmixed report.after report.told plain tt there report.tells in
      let last = closed name report.after.streams report.closes.0 plain
      (subst ArePlain (sym names) (plain_after lines [] tt))
      (subst AreOnce (sym names) (once_after lines [] tt))
      (ap (has_name name) names ∙ there) report.closes.1 in
      let ending = end_text (length report.after.streams) report.after.unowned in
      record {
        told = own.alone;
        after = (stream_of step first name report.after.streams).state;
        tells = own.tells;
        last = last.alone;
        closes = last.closes_so;
        is = ap (unmarked name) report.is
            ∙ own.reads report.last
            ∙ ap (λ (t : Text). own.alone ++ unmarked name t) report.closes.2
            ∙ ap (λ (t : Text). own.alone ++ t) (last.reads ending
            ∙ ap (λ (t : Text). last.alone ++ t)
            (unmarked_end name (length report.after.streams) report.after.unowned)
            ∙ append-nil last.alone);
      }

  pub order_is_free : HasOneText (telling_alone step closes) → OrderIsFree step closes first
  order_is_free single lines later told retold name p q one other same =
      one_report (telling_alone step closes) single first (alone name later) (unmarked name told)
      (unmarked name retold)
      (subst (λ (l : List StreamLine).
      Report (telling_alone step closes) first l (unmarked name told)) same
      (each_is_alone lines told name p one))
      (each_is_alone later retold name q other)
