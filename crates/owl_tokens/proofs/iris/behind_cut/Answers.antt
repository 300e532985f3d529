use Rattle.std.proofs.Common.{◌≡◌, ◌+◌, ◌-◌, ◌≤◌, ℕ, List, length, drop, get_or, cond, true}
use Rattle.std.proofs.Common.{false, Bool, sym, ap, ◌∙◌, arith, length-drop}
use Rattle.std.proofs.lemmas.List.{take_all}
use Rattle.owl_tokens.specs.Iris.{is_cut, behind_cut}
use Rattle.owl_tokens.proofs.IriLemmas.{cut_next, cut_end}
use Rattle.owl_tokens.proofs.iris.behind_cut.Goals as goal
use Rattle.owl_tokens.proofs.iris.behind_cut.Goals.{then-is_cut, else-is_cut}

chosen : (b : Bool) (start place next : ℕ) (text : List ℕ) → b ≡ is_cut (get_or text place 0)
    → next ≡ cond b (place + 1) start → place + 1 ≤ length text
    → behind_cut (drop next text) (drop (place + 1) text)
    ≡ behind_cut (drop start text) (drop place text)
chosen true start place next text is e lt =
    ap (λ (n : ℕ). behind_cut (drop n text) (drop (place + 1) text)) e
    ∙ ap (λ (b : Bool). behind_cut (cond b (drop (place + 1) text) (drop start text))
    (drop (place + 1) text)) is
    ∙ sym (cut_next start place text (omega arith))
chosen false start place next text is e lt =
    ap (λ (n : ℕ). behind_cut (drop n text) (drop (place + 1) text)) e
    ∙ ap (λ (b : Bool). behind_cut (cond b (drop (place + 1) text) (drop start text))
    (drop (place + 1) text)) is
    ∙ sym (cut_next start place text (omega arith))

pub loop-place-preserved : goal.loop-place-preserved
loop-place-preserved c =
    let text = c.args.text.now in
    let start = c.loop-place.start in
    let place = c.loop-place.place in
    elim c.if-is_cut.branch [
      | then-is_cut w ↦ record {
        within = omega arith;
        before = omega arith;
        passed = chosen true start place c.if-is_cut.start text
            (sym w.if-is_cut.true ∙ c.is_cut.ensures) w.start-is
            (omega arith) ∙ c.loop-place.invariant.passed;
      }
      | else-is_cut w ↦ record {
        within = omega arith;
        before = omega arith;
        passed = chosen false start place c.if-is_cut.start text
            (sym w.if-is_cut.false ∙ c.is_cut.ensures) w.start-is
            (omega arith) ∙ c.loop-place.invariant.passed;
      }
    ]

pub returns : goal.returns
returns c =
    let text = c.args.text.now in
    let start = c.loop-place.start in
    let le : length (drop start text) ≤ length text - start =
    omega (arith, length-drop start text) in
    take_all (length text - start) (drop start text) le
    ∙ sym (cut_end start c.loop-place.place text c.loop-place-test.false)
    ∙ c.loop-place.invariant.passed
