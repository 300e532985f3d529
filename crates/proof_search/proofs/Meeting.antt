-- Both sides of a clash in a run.
use Rattle.std.proofs.Common.{◌≡◌, ℕ, true, false, Bool, List, [], ◌∷◌, length, refl, sym, ◌∙◌}
use Rattle.std.proofs.Common.{ap, subst}
use Rattle.std.specs.Prelude.{if◌then◌else◌, Some, slice_get}
use Rattle.std.specs.List.{All, Contains}
use Rattle.std.proofs.lemmas.List.Elements.{All-head, All-tail}
use Rattle.dl_syntax.specs.declared.names.RoleId.{RoleId}
use Rattle.dl_syntax.specs.declared.facts.Fact.{Fact}
use Rattle.dl_syntax.specs.declared.facts.Fact.TheVariants as fact
use Rattle.dl_syntax.specs.declared.ontology.Role.{Role}
use Rattle.dl_syntax.specs.declared.ontology.Basic.{Basic}
use Rattle.dl_syntax.specs.declared.ontology.Basic.TheVariants as basic
use Rattle.dl_syntax.specs.declared.ontology.Clash.{Clash}
use Rattle.dl_syntax.specs.declared.ontology.Clash.TheVariants as clash
use Rattle.dl_syntax.specs.declared.queries.Term.TheVariants.{Var}
use Rattle.dl_syntax.specs.declared.queries.Atom.{Atom}
use Rattle.dl_syntax.specs.declared.queries.Atom.TheVariants as atom
use Rattle.dl_syntax.specs.Facts.{role_fact, In}
use Rattle.dl_syntax.specs.Declaring.{IsDeclaredClash}
use Rattle.dl_syntax.specs.Encode.{IsQueryOver, IsMet}
use Rattle.dl_syntax.specs.Match.{Assignment, Match, Certain, atom_at}
use Rattle.dl_syntax.specs.Ontology.{Declared}
use Rattle.consistency.specs.Asking.{pair_atom, side_atom, sides, query_of}
use Rattle.consistency.proofs.ClashQueries.{clash_is_asked, query_is_declared}
use Rattle.run_proofs.specs.Matching.{AreSides, MeetsAt}

turned : (t : Assignment) (p : RoleId) (x y : ℕ) (b : Bool)
    → atom_at t (if b then atom.Role p (Var y) (Var x) else atom.Role p (Var x) (Var y))
    ≡ (if b then fact.Role p (t y) (t x) else fact.Role p (t x) (t y))
turned t p x y true = refl
turned t p x y false = refl

-- what a pair of variables becomes
pair_at : (t : Assignment) (r : Role) (x y : ℕ)
    → atom_at t (pair_atom r x y) ≡ role_fact r (t x) (t y)
pair_at t r x y = turned t r.id x y r.inverse

-- what a side becomes puts the variable's element into it
side_holds : (t : Assignment) (b : Basic) (x y : ℕ) → In b (t x) (atom_at t (side_atom b x y))
side_holds t (basic.Concept c) x y = refl
side_holds t (basic.Some r) x y = (t y, pair_at t r x y)

-- what both sides become are both sides
sides_held : (m : Clash) (t : Assignment) (a b : Atom) → sides m ≡ a ∷ b ∷ []
    → AreSides m (atom_at t a) (atom_at t b)
sides_held (clash.Concepts c d) t a b is =
    let first : side_atom c 0 1 ≡ a = cc in
    let second : side_atom d 0 2 ≡ b = cc in (
      t 0,
      subst (λ (x : Atom). In c (t 0) (atom_at t x)) first (side_holds t c 0 1),
      subst (λ (x : Atom). In d (t 0) (atom_at t x)) second (side_holds t d 0 2),
    )
sides_held (clash.Roles r s) t a b is =
    let first : pair_atom r 0 1 ≡ a = cc in
    let second : pair_atom s 0 1 ≡ b = cc in (
      t 0,
      t 1,
      ap (atom_at t) (sym first) ∙ pair_at t r 0 1,
      ap (atom_at t) (sym second) ∙ pair_at t s 0 1,
    )

module _ (m : Clash) (run : List Fact) (t : Assignment) (a b : Atom) (is : sides m ≡ a ∷ b ∷ [])
    (match : Match (sides m) run t) where
  both_there : All (λ x. Contains run (atom_at t x)) (a ∷ b ∷ [])
  both_there = subst (λ (body : List Atom). Match body run t) is match

  pub left_there : Contains run (atom_at t a)
  left_there = All-head (λ x. Contains run (atom_at t x)) a (b ∷ []) both_there

  pub right_there : Contains run (atom_at t b)
  right_there = All-head (λ x. Contains run (atom_at t x)) b []
      (All-tail (λ x. Contains run (atom_at t x)) a (b ∷ []) both_there)

  pub met_at : (first second : ℕ) → slice_get run first ≡ Some (atom_at t a)
      → slice_get run second ≡ Some (atom_at t b) → MeetsAt m run first second
  met_at first second at other = record {
    left = atom_at t a;
    right = atom_at t b;
    at_first = at;
    at_second = other;
    are_sides = sides_held m t a b is;
  }

-- the clash's query names only what is declared
pub query_over : (o : Declared) (m : Clash)
    → IsDeclaredClash (length o.concepts) (length o.roles) m → IsQueryOver o (query_of m)
query_over o m declared = query_is_declared (length o.concepts) (length o.roles) m declared

-- no run meets a clash whose query isn't certain
pub not_met : (o : Declared) (facts : List Fact) (m : Clash)
    → (Certain o.inclusions (query_of m) facts [] → ⊥) → IsMet o.inclusions facts m → ⊥
not_met o facts m uncertain met = uncertain ((clash_is_asked o.inclusions facts m).0 met)
