-- What a report tells of answers.
use Rattle.std.proofs.Common.{◌≡◌, List, ◌∙◌, ap, subst, arith, inl, inr}
use Rattle.std.specs.Prelude.{Some, slice_get}
use Rattle.std.specs.List.{All, Contains}
use Rattle.std.proofs.lemmas.Option.{slice_get-get_or}
use Rattle.std.proofs.lemmas.List.Elements.{All-contains}
use Rattle.list_lemmas.proofs.Elements.{Contains-at}
use Rattle.list_lemmas.proofs.Rising.{rising_unique}
use Rattle.list_lemmas.proofs.Zipped.{AllZip-left, AllZip-all}
use Rattle.dl_syntax.specs.declared.facts.Fact.{Fact}
use Rattle.dl_syntax.proofs.RowLists.{IsBelow-asymmetric}
use Rattle.run_proofs.specs.declared.proof.Goal.{Goal}
use Rattle.run_proofs.specs.declared.proof.Goal.TheVariants.{Answer, Clash}
use Rattle.run_proofs.specs.declared.proof.Proof.{Proof}
use Rattle.run_proofs.specs.Shows.{Shows, Holds}
use Rattle.run_proofs.proofs.Showing.{shown_holds}
use Rattle.explain_report.specs.Answers.{Task, IsBefore, Proves, ProveAll}
use Rattle.explain_report.specs.Laws.{AnswersAreTold, ContradictionsAreShown, OneOrder}

place_of : {X : Type 0} (xs : List X) (x : X) (there : Contains xs x)
    → slice_get xs there.0 ≡ Some x
place_of {X} xs x there = slice_get-get_or xs there.0 x there.1 ∙ ap (λ (y : X). Some y) there.2

-- it shows its goal by a run of the facts
abbrev ShowsFrom : Task → List Fact → Proof → Type 0
ShowsFrom task facts proof =
    Shows task.ontology task.queries proof × (proof.facts ≡ facts)

all_shown : (task : Task) (facts : List Fact) (goals : List Goal) (proofs : List Proof)
    → ProveAll task facts goals proofs → All (ShowsFrom task facts) proofs
all_shown task facts goals proofs prove =
    AllZip-all (Proves task facts) (ShowsFrom task facts)
    (λ g p is. (is.shows.shows, is.shows.facts_are)) goals
    proofs prove

pub answers_are_told : AnswersAreTold
answers_are_told task snapshot line number told tells = record {
  shown = AllZip-all (Proves task snapshot) (Shows task.ontology task.queries)
      (λ g p is. is.shows.shows) tells.goals tells.proofs tells.prove;
  certain = λ proof there.
      let own : ShowsFrom task snapshot proof =
      All-contains (ShowsFrom task snapshot) tells.proofs proof
      (all_shown task snapshot tells.goals tells.proofs tells.prove) there in
      subst (λ (facts : List Fact). Holds task.ontology task.queries facts proof.goal) own.1
      (shown_holds task.ontology task.queries proof own.0);
  told = λ query leaf row holds.
      let there : Contains tells.goals (Answer query leaf row) =
      (tells.are.member (Answer query leaf row)).1 (tt, holds) in
      let found : (proof : Proof) × (slice_get tells.proofs there.0 ≡ Some proof)
      × Proves task snapshot (Answer query leaf row) proof =
      AllZip-left (Proves task snapshot) tells.goals tells.proofs there.0 (Answer query leaf row)
      tells.prove (place_of tells.goals (Answer query leaf row) there) in
      (found.0, Contains-at tells.proofs there.0 found.0 found.1, found.2);
}

pub contradictions_are_shown : ContradictionsAreShown
contradictions_are_shown task snapshot line told tells = tells.proves.shows.shows

-- no two answers stand before each other
one_before : (g h : Goal) → IsBefore g h → IsBefore h g → ⊥
one_before (Answer q l r) (Answer q' l' r') (inl less) (inl more) = omega (arith, less, more)
one_before (Answer q l r) (Answer q' l' r') (inl less) (inr (same, more)) =
    omega (arith, less, same)
one_before (Answer q l r) (Answer q' l' r') (inr (same, less)) (inl more) =
    omega (arith, same, more)
one_before (Answer q l r) (Answer q' l' r') (inr (same, inl less)) (inr (equal, inl more)) =
    omega (arith, less, more)
one_before (Answer q l r) (Answer q' l' r') (inr (same, inl less)) (inr (equal, inr (leaf, more))) =
    omega (arith, less, leaf)
one_before (Answer q l r) (Answer q' l' r') (inr (same, inr (leaf, less))) (inr (equal, inl more)) =
    omega (arith, leaf, more)
one_before (Answer q l r) (Answer q' l' r') (inr (same, inr (leaf, less)))
    (inr (equal, inr (place, more))) = IsBelow-asymmetric r r' less more
one_before (Answer q l r) (Clash n) none other = absurd none
one_before (Clash n) h none other = absurd none

pub one_order : OneOrder
one_order task snapshot line number one other first second =
    rising_unique Goal IsBefore one_before first.goals second.goals first.are.rising
    second.are.rising
    (λ g there. (second.are.member g).1 ((first.are.member g).0 there))
    (λ g there. (first.are.member g).1 ((second.are.member g).0 there))
