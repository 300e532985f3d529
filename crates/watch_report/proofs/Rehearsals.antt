-- How a drill ends by the loop over its stream.
use Rattle.std.proofs.Common.{◌≡◌, ℕ, ◌+◌, ◌≤◌, ◌^◌, inl, inr, Some, List, [], ◌∷◌, ◌++◌, length}
use Rattle.std.proofs.Common.{refl, sym, ◌∙◌, ap, subst, arith, append-nil, length-append}
use Rattle.edge_io.specs.Known.{Gains, IsFront}
use Rattle.edge_io.specs.Lines.{Item as StreamLine, items, whole_items}
use Rattle.edge_io.proofs.KnownLemmas.{gains_nothing}
use Rattle.monitor_core.specs.Setting.{Setting}
use Rattle.stream_report.specs.declared.ending.Ending.{Ending}
use Rattle.stream_report.specs.declared.ending.Ending.TheVariants.{Done, Usage, Refused, ReadFault}
use Rattle.stream_report.specs.declared.ending.Ending.TheVariants.{WriteFault, Memory, StreamLimit}
use Rattle.stream_report.specs.Ends.{IsBeginning, BeginsPart, Streamed, StreamEnds, TextEnds}
use Rattle.stream_report.specs.Outside.{SourceTold, SinkTold}
use Rattle.stream_report.specs.Told.{Told, Part, Report}
use Rattle.edge_io.specs.Writing.{IsProperFront}
use Rattle.job_sources.specs.declared.refusal.Refusal.{Refusal}
use Rattle.watch_report.specs.Drill.{Rehearsed, unrehearsed, plain, rehearses, rehearsing, IsDrill}
use Rattle.watch_report.specs.Task.{Task}

-- nothing is told of lines
told_nothing : (task : Task) (lines : List StreamLine) (number : ℕ) (state after : Rehearsed)
    (told : List ℕ) → Told (rehearses task) lines number state told after → told ≡ []
told_nothing task [] number state after told p = p.0
told_nothing task (line ∷ lines) number state after told p =
    p.5 ∙ (ap (λ (l : List ℕ). l ++ p.1) p.3.0 ∙ told_nothing task lines (number + 1) p.2 after p.1
    p.4)

no_part : (task : Task) (state : Rehearsed) (lines : List StreamLine) (text : List ℕ)
    → Part (rehearsing task) state lines text → text ≡ []
no_part task state lines text part =
    part.is ∙ told_nothing task lines 1 state part.after part.told part.tells

front_none : (xs ys : List ℕ) → IsFront xs ys → ys ≡ [] → xs ≡ []
front_none [] ys front none = refl
front_none (x ∷ xs) ys (rest, is) none = let never : (x ∷ xs) ++ rest ≡ [] = sym is ∙ none in cc

no_beginning : (task : Task) (state : Rehearsed) (lines : List StreamLine) (wrote : List ℕ)
    → IsBeginning IsFront (rehearsing task) state lines wrote → wrote ≡ []
no_beginning task state lines wrote b =
    front_none wrote b.text b.begins (no_part task state b.front b.text b.part)

no_proper : (task : Task) (state : Rehearsed) (lines : List StreamLine) (wrote : List ℕ)
    → ¬ IsBeginning IsProperFront (rehearsing task) state lines wrote
no_proper task state lines wrote b = let none : length b.text ≡ 0 =
    ap length (no_part task state b.front b.text b.part) in omega (arith, none, b.begins.1)

nothing_begun : (task : Task) (state : Rehearsed) (at_end : Type 0) (taken wrote : List ℕ)
    → BeginsPart IsFront (rehearsing task) state at_end taken wrote → wrote ≡ []
nothing_begun task state at_end taken wrote (inl begins) =
    no_beginning task state (whole_items taken) wrote begins
nothing_begun task state at_end taken wrote (inr (end, short, begins)) =
    no_beginning task state (items taken) wrote begins

none_proper : (task : Task) (state : Rehearsed) (at_end : Type 0) (taken wrote : List ℕ)
    → ¬ BeginsPart IsProperFront (rehearsing task) state at_end taken wrote
none_proper task state at_end taken wrote (inl begins) =
    no_proper task state (whole_items taken) wrote begins
none_proper task state at_end taken wrote (inr (end, short, begins)) =
    no_proper task state (items taken) wrote begins

module _ (setting : Setting) (stream left : List ℕ) (before now : SinkTold)
    (short : length stream ≤ 2 ^ 40) where
  abbrev task : Task
  task = record { setting = setting; options = plain }

  abbrev source : List ℕ → SourceTold
  source bytes = record { left = Some bytes; faults = 0 }

  abbrev Ran : Ending Refusal → Type 0
  Ran ending = Streamed ending (rehearsing task) unrehearsed (record {
    input = source stream;
    out =
        before;
  }) (record { input = source left; out = now })

  parts_of : (taken : List ℕ) → Some stream ≡ Some (taken ++ left) → stream ≡ taken ++ left
  parts_of taken takes = cc

  all_taken : (taken : List ℕ) → Some stream ≡ Some (taken ++ left) → left ≡ [] → taken ≡ stream
  all_taken taken takes gone =
      sym (parts_of taken takes ∙ (ap (λ (l : List ℕ). taken ++ l) gone ∙ append-nil taken))

  drilled : (taken text : List ℕ) → Some stream ≡ Some (taken ++ left) → left ≡ []
      → Report (rehearsing task) unrehearsed (items taken) text → IsDrill setting stream text
  drilled taken text takes gone report =
      subst (λ (b : List ℕ). Report (rehearsing task) unrehearsed (items b) text)
      (all_taken taken takes gone) report

  -- the loop over the stream ended so
  pub rehearsal_ends : (ending : Ending Refusal) (input : SourceTold)
      → StreamEnds (rehearsing task) unrehearsed ending (record {
        input = source stream;
        out =
            before;
      }) (record { input = source left; out = now })
      → TextEnds (IsDrill setting stream) ending (record {
        input = input;
        out =
            before;
      }) (record { input = input; out = now })
  rehearsal_ends Done input (run, fault) = (
    refl,
    (
      run.wrote,
      drilled run.taken run.wrote run.takes run.writes.0 run.writes.2,
      record
          { wrote = run.wrote; gains = run.gains; is = refl },
    ),
    tt,
  )
  rehearsal_ends WriteFault input (run, fault) = elim run.writes [
    | inl begins ↦ absurd (none_proper task unrehearsed (left ≡ []) run.taken run.wrote begins)
    | inr begins ↦ (
      refl,
      (
        begins.2.0,
        drilled run.taken begins.2.0 run.takes begins.0 begins.2.1,
        record
            { wrote = run.wrote; gains = run.gains; is = begins.2.2 },
      ),
      fault,
    )
  ]
  rehearsal_ends Memory input (run, fault) = (
    refl,
    gains_nothing before.got now.got
        (subst (λ (w : List ℕ). Gains before.got now.got w)
        (nothing_begun task unrehearsed (left ≡ []) run.taken run.wrote run.writes) run.gains),
  )
  rehearsal_ends ReadFault input (run, fault) = absurd (omega (arith, fault))
  rehearsal_ends StreamLimit input (run, fault) =
      absurd (omega (
        arith,
        short,
        run.writes.0,
        ap length (parts_of run.taken run.takes),
        length-append run.taken left,
      ))
  rehearsal_ends Usage input (run, fault) = absurd run.writes
  rehearsal_ends (Refused refusal) input (run, fault) = absurd run.writes
