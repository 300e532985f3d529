-- The queries of the tests are within the limits.
use Rattle.std.proofs.Common.{◌≡◌, ℕ, List, [], ◌∷◌, refl, subst, sym, arith, inl}
use Rattle.std.specs.List.{All}
use Rattle.std.proofs.lemmas.List.Elements.{All-nil, All-cons}
use Rattle.dl_syntax.specs.declared.names.ConceptId.{ConceptId}
use Rattle.dl_syntax.specs.declared.names.RoleId.{RoleId}
use Rattle.dl_syntax.specs.declared.queries.Term.TheVariants.{Var}
use Rattle.dl_syntax.specs.declared.queries.Atom.{Atom}
use Rattle.dl_syntax.specs.declared.queries.Atom.TheVariants as atom
use Rattle.dl_syntax.specs.declared.queries.Cq.{Cq}
use Rattle.dl_syntax.specs.Queries.{IsBound}
use Rattle.ucq_join.specs.Asked.{IsAsked}

pub itself_asked : (r : RoleId)
    → IsAsked 1 (record { head = Var 0 ∷ []; body = atom.Role r (Var 0) (Var 0) ∷ [] })
itself_asked r =
    let body : List Atom = atom.Role r (Var 0) (Var 0) ∷ [] in
    record {
      query = record {
        some_atom = omega arith;
        few_atoms = omega arith;
        head_bound =
            All-cons (IsBound body) (Var 0) []
            (0, atom.Role r (Var 0) (Var 0), omega arith, refl, inl refl) (All-nil (IsBound body));
      };
      wide = refl;
    }

pub apart_asked : (c : ConceptId) (r : RoleId)
    → IsAsked 1 (record {
      head = Var 0 ∷ [];
      body =
          atom.Concept c (Var 0) ∷ atom.Role r (Var 1) (Var 2) ∷ atom.Concept c (Var 2) ∷ [];
    })
apart_asked c r =
    let body : List Atom = atom.Concept c (Var 0) ∷ atom.Role r (Var 1) (Var 2)
    ∷ atom.Concept c (Var 2) ∷ [] in
    record {
      query = record {
        some_atom = omega arith;
        few_atoms = omega arith;
        head_bound =
            All-cons (IsBound body) (Var 0) [] (0, atom.Concept c (Var 0), omega arith, refl, refl)
            (All-nil (IsBound body));
      };
      wide = refl;
    }

pub one_asked : {arity : ℕ} (q r : Cq) → q ≡ r → IsAsked arity r → All (IsAsked arity) (q ∷ [])
one_asked {arity} q r same asked =
    All-cons (IsAsked arity) q [] (subst (IsAsked arity) (sym same) asked) (All-nil (IsAsked arity))

pub two_asked : {arity : ℕ} (p q r s : Cq) → p ≡ r → q ≡ s → IsAsked arity r → IsAsked arity s
    → All (IsAsked arity) (p ∷ q ∷ [])
two_asked {arity} p q r s same same' first second =
    All-cons (IsAsked arity) p (q ∷ []) (subst (IsAsked arity) (sym same) first)
    (one_asked q s same' second)
