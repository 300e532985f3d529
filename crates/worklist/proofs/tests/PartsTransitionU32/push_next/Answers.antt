use Rattle.std.proofs.Common.{◌++◌, [], ◌∷◌, List, ◌∙◌, ap, ℕ, ◌/◌}
use Rattle.std.proofs.lemmas.List.{append_assoc}
use Rattle.std.proofs.lemmas.List.Elements.{All-contains_itself}
use Rattle.worklist.specs.Parts.{parts_of}
use Rattle.worklist.proofs.tests.PartsTransitionU32.push_next.Goals as goal

pub returns : goal.returns
returns c =
    let half = c.args.state.now / 2 ∷ [] in
    let third = c.args.state.now / 3 ∷ [] in
    record {
      added = parts_of c.args.state.now;
      order = c.in_ok-push-2.ensures.items ∙ ap (λ (xs : List ℕ).
          xs ++ third) c.in_ok-push.ensures.items ∙ append_assoc c.args.out.now.items half third;
      sound = All-contains_itself (parts_of c.args.state.now);
      complete = λ y h. h;
    }
