-- A run copied, step by step, into a run that goes on from another one.
use Rattle.std.proofs.Common.{◌≡◌, ℕ, List, [], ◌∷◌, ◌++◌, length, map, refl, sym, ◌∙◌, ap, subst}
use Rattle.std.proofs.Common.{inl, inr}
use Rattle.std.specs.List.{Contains}
use Rattle.std.proofs.lemmas.List.Elements.{All-nil, All-cons, All-head, All-tail}
use Rattle.std.proofs.lemmas.List.Elements.{Contains-append_left, Contains-append_right}
use Rattle.std.proofs.lemmas.List.Elements.{Contains-append_cases}
use Rattle.dl_syntax.specs.declared.names.IndId.{IndId}
use Rattle.dl_syntax.specs.declared.facts.Element.{Element}
use Rattle.dl_syntax.specs.declared.facts.Element.TheVariants.{Ind as ind_element, Null}
use Rattle.dl_syntax.specs.declared.facts.Fact.{Fact}
use Rattle.dl_syntax.specs.declared.facts.Fact.TheVariants as fact
use Rattle.dl_syntax.specs.declared.ontology.Basic.TheVariants as basic
use Rattle.dl_syntax.specs.declared.ontology.Inclusion.{Inclusion}
use Rattle.dl_syntax.specs.declared.ontology.Inclusion.TheVariants as inclusion
use Rattle.dl_syntax.specs.declared.ontology.Clash.{Clash}
use Rattle.dl_syntax.specs.declared.ontology.Clash.TheVariants as clash
use Rattle.dl_syntax.specs.declared.queries.Atom.{Atom}
use Rattle.dl_syntax.specs.declared.queries.Cq.{Cq}
use Rattle.dl_syntax.specs.Facts.{HasNoNull}
use Rattle.dl_syntax.specs.Chase.{Run, Chase, Step, start, step, Makes, Meets, basic_fact}
use Rattle.dl_syntax.specs.Encode.{IsMet, IsReached}
use Rattle.dl_syntax.specs.Match.{Certain, Match, Assignment, term_at, atom_at}
use Rattle.list_lemmas.proofs.Elements.{Contains-none, Contains-first, Contains-later}
use Rattle.list_lemmas.proofs.Elements.{Contains-cons_cases}
use Rattle.list_lemmas.proofs.Maps.{Contains-map}
use Rattle.dl_syntax.proofs.Nulls.{HasOldElements, no_null_old, nulls_are_old}
use Rattle.dl_syntax.proofs.Images.{fact_at, override, override_new, fact_at_old, fact_at_itself}
use Rattle.dl_syntax.proofs.Images.{role_fact_at, basic_fact_at, Pair-at, In-at}
use Rattle.dl_syntax.proofs.RunLaws.{Run-step}
use Rattle.dl_syntax.proofs.Simulation.{IsWithin}
use Rattle.dl_syntax.proofs.EncodingLaws.{then_image, atom_image, head_image, without_nulls_image}

-- what an inclusion makes from a fact's image is the image of what it makes
Makes-at : (g : Element → Element) (place other : ℕ) → g (Null place) ≡ Null other
    → (i : Inclusion) (f : Fact) (made : List Fact) → Makes i f place made
    → Makes i (fact_at g f) other (map (fact_at g) made)
Makes-at g place other fresh (inclusion.Concepts b c) f made (e, is, whole) = (
  g e,
  In-at g b e f is,
  ap (map (fact_at g)) whole ∙ ap (λ (x : Fact).
      x ∷ []) (basic_fact_at g c e place other fresh),
)
Makes-at g place other fresh (inclusion.Roles r s) f made (e, e', is, whole) = (
  g e,
  g e',
  Pair-at g r e e' f is,
  ap (map (fact_at g)) whole ∙ ap (λ (x : Fact).
      x ∷ []) (role_fact_at g s e e'),
)
Makes-at g place other fresh (inclusion.Qualified b r c) f made (e, is, whole) = (
  g e,
  In-at g b e f is,
  ap (map (fact_at g)) whole
      ∙ (ap (λ (x : Fact). x ∷ fact.Concept c (g (Null place)) ∷ [])
      (basic_fact_at g (basic.Some r) e place other fresh)
      ∙ ap (λ (x : Element). basic_fact (basic.Some r) (g e) other ∷ fact.Concept c x ∷ []) fresh),
)

-- each fact at the start of a run stays in it
pub begins : (inclusions : List Inclusion) (snapshot : List Fact) (steps : List Step)
    (run : List Fact) → Chase inclusions snapshot steps run → IsWithin snapshot run
begins inclusions snapshot steps run start f there = there
begins inclusions snapshot steps run (step {steps = taken} {run =
    before} i g made chased listed earlier makes) f there =
    Contains-append_left before made f (begins inclusions snapshot taken before chased f there)

-- some run has all of the base, and an image of each fact of the other run
pub record Copied (inclusions : List Inclusion) (snapshot base run : List Fact) : Type 0 where
  pub image : Element → Element
  pub individuals : (i : IndId) → image (ind_element i) ≡ ind_element i
  pub other : List Fact
  pub is_run : Run inclusions snapshot other
  pub goes_on : IsWithin base other
  pub kept : (f : Fact) → Contains run f → Contains other (fact_at image f)

module _ (inclusions : List Inclusion) (snapshot base : List Fact) where
  copied_step : (run : List Fact) (i : Inclusion) (f : Fact) (made : List Fact)
      → ((x : Fact) → Contains run x → HasOldElements (length run) x) → Contains inclusions i
      → Contains run f → Makes i f (length run) made → Copied inclusions snapshot base run
      → Copied inclusions snapshot base (run ++ made)
  copied_step run i f made old listed earlier makes c =
      let new : Element → Element = override c.image (length run) (Null (length c.other)) in
      let more : List Fact = map (fact_at new) made in
      let same : (x : Fact) → Contains run x → fact_at new x ≡ fact_at c.image x =
      λ x there. fact_at_old c.image (length run) (Null (length c.other)) x (old x there) in
      let there : Contains c.other (fact_at new f) =
      subst (Contains c.other) (sym (same f earlier)) (c.kept f earlier) in
      let again : Makes i (fact_at new f) (length c.other) more =
      Makes-at new (length run) (length c.other)
      (override_new c.image (length run) (Null (length c.other))) i f made makes in
      record {
        image = new;
        individuals = c.individuals;
        other = c.other ++ more;
        is_run = Run-step inclusions snapshot c.other more i (fact_at new f) c.is_run listed there
            again;
        goes_on = λ x within. Contains-append_left c.other more x (c.goes_on x within);
        kept = λ x within. elim (Contains-append_cases run made x within) [
          | inl before ↦ Contains-append_left c.other more (fact_at new x)
              (subst (Contains c.other) (sym (same x before)) (c.kept x before))
          | inr after ↦ Contains-append_right c.other more (fact_at new x)
              (Contains-map (fact_at new) made x after)
        ];
      }

  -- a run from facts without nulls that a base has is copied into a run that goes on from the base
  pub copied : (from : List Fact) → ((f : Fact) → Contains from f → HasNoNull f)
      → Run inclusions snapshot base → IsWithin from base → (steps : List Step) (run : List Fact)
      → Chase inclusions from steps run → Copied inclusions snapshot base run
  copied from plain is_run within steps run start = record {
    image = λ e. e;
    individuals = λ i. refl;
    other = base;
    is_run = is_run;
    goes_on = λ f there. there;
    kept = λ f there. subst (Contains base) (sym (fact_at_itself f)) (within f there);
  }
  copied from plain is_run within steps run (step {steps = taken} {run =
      before} i f made chased listed earlier makes) =
      copied_step before i f made (nulls_are_old inclusions from (λ g there.
      no_null_old g (plain g there)) taken before chased) listed earlier makes
      (copied from plain is_run within taken before chased)

-- one run has all of the facts that runs reach
pub one_run : (inclusions : List Inclusion) (snapshot : List Fact)
    → ((f : Fact) → Contains snapshot f → HasNoNull f) → (facts : List Fact)
    → ((f : Fact) → Contains facts f → HasNoNull f × IsReached inclusions snapshot f)
    → (run : List Fact) × Run inclusions snapshot run × IsWithin facts run
one_run inclusions snapshot plain [] each =
    (snapshot, ([], start), λ f there. absurd (Contains-none f there))
one_run inclusions snapshot plain (f ∷ facts) each =
    let rest : (run : List Fact) × Run inclusions snapshot run × IsWithin facts run =
    one_run inclusions snapshot plain facts (λ g there.
    each g (Contains-later f facts g there)) in
    let known : HasNoNull f × IsReached inclusions snapshot f = each f (Contains-first f facts) in
    let own : List Fact = known.1.0 in
    let c : Copied inclusions snapshot rest.0 own =
    copied inclusions snapshot rest.0 snapshot plain rest.1
    (begins inclusions snapshot rest.1.0 rest.0 rest.1.1) known.1.1.0 own known.1.1.1 in
    let this : Contains c.other f =
    subst (Contains c.other) (without_nulls_image c.image c.individuals f known.0)
    (c.kept f known.1.2) in (
      c.other,
      c.is_run,
      λ g there. elim (Contains-cons_cases f facts g there) [
        | inl same ↦
            subst (Contains c.other) same this
        | inr later ↦ c.goes_on g (rest.2 g later)
      ],
    )

-- what a copy gives
module _ (inclusions : List Inclusion) (snapshot base run : List Fact)
    (c : Copied inclusions snapshot base run) where
  match_copied : (body : List Atom) (t : Assignment) → Match body run t
      → Match body c.other (then_image c.image t)
  match_copied [] t found = All-nil (λ a. Contains c.other (atom_at (then_image c.image t) a))
  match_copied (a ∷ body) t found =
      All-cons (λ x. Contains c.other (atom_at (then_image c.image t) x)) a body
      (subst (Contains c.other) (atom_image c.image c.individuals t a)
      (c.kept (atom_at t a) (All-head (λ x. Contains run (atom_at t x)) a body found)))
      (match_copied body t (All-tail (λ x. Contains run (atom_at t x)) a body found))

  pub answer_copied : (q : Cq) (row : List IndId) (t : Assignment) → Match q.body run t
      → map (term_at t) q.head ≡ map ind_element row → Certain inclusions q snapshot row
  answer_copied q row t found head = record {
    run = c.other;
    assignment = then_image c.image t;
    is_run = c.is_run;
    match = match_copied q.body t found;
    head = head_image c.image c.individuals t q.head row head;
  }

  clash_met : (m : Clash) → Meets m run → Meets m c.other
  clash_met (clash.Concepts b d) (f, h, e, f_there, h_there, f_in, h_in) = (
    fact_at c.image f,
    fact_at c.image h,
    c.image e,
    c.kept f f_there,
    c.kept h h_there,
    In-at
        c.image b e f f_in,
    In-at c.image d e h h_in,
  )
  clash_met (clash.Roles r s) (f, h, e, e', f_there, h_there, f_in, h_in) = (
    fact_at c.image f,
    fact_at c.image h,
    c.image e,
    c.image e',
    c.kept f f_there,
    c.kept h
        h_there,
    Pair-at c.image r e e' f f_in,
    Pair-at c.image s e e' h h_in,
  )

  pub clash_copied : (m : Clash) → Meets m run → IsMet inclusions snapshot m
  clash_copied m meets = (c.other, c.is_run, clash_met m meets)
