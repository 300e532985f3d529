-- Each token in a leaf adds to what is built as it changes the state.
use Rattle.std.proofs.Common.{◌≡◌, ℕ, List, [], ◌∷◌, ◌++◌, length, take, Option, Some, None, refl}
use Rattle.std.proofs.Common.{sym, ap, subst, ◌∙◌, arith}
use Rattle.std.specs.Prelude.{IfSome}
use Rattle.dl_syntax.specs.Ontology.{Declared}
use Rattle.tcq_syntax.specs.declared.nodes.Node.TheVariants as node
use Rattle.tcq_grammar.specs.Symbols.{Symbol}
use Rattle.tcq_grammar.specs.Symbols as s
use Rattle.tcq_grammar.specs.Grammar as g
use Rattle.tcq_grammar.specs.Grammar.{Tree, Truth, Falsity, Leaf, Apply, Group, Timed, And, Or}
use Rattle.tcq_grammar.specs.Grammar.{term_spelled, File, Empty, More}
use Rattle.tcq_grammar.specs.Machine.{Stack, Head, Brackets, WantAtom, AfterPredicate, WantFirst}
use Rattle.tcq_grammar.specs.Machine.{AfterFirst, WantSecond, AfterSecond, AfterAtom, State, InLeaf}
use Rattle.tcq_grammar.specs.Machine.{in_leaf}
use Rattle.std.proofs.Math.Seq.{take-length}
use Rattle.dl_syntax.specs.declared.names.Kind.TheVariants.{Concept, Role}
use Rattle.tcq_grammar.specs.Texts.{Mark}
use Rattle.tcq_grammar.proofs.Erasure.{mode_inside}
use Rattle.tcq_reader.specs.declared.faults.QueryKind.{QueryKind}
use Rattle.tcq_reader.specs.Leaves.{Draft, blank, with_one, with_two, with_atom, with_atoms}
use Rattle.tcq_reader.specs.Leaves.{query_of, term_verdict, predicate_verdict}
use Rattle.tcq_reader.specs.Faults.{fault_or, first_fault}
use Rattle.tcq_reader.specs.Building.{with_operand}
use Rattle.tcq_reader.specs.Drafting.{Outcome, Gives, stop_at, emptied, one_said, two_said}
use Rattle.tcq_reader.specs.Drafting.{one_added, two_added}
use Rattle.tcq_reader.specs.Acting.{Build, with_words, with_table, with_leaf, atom_gives, acted}
use Rattle.tcq_reader.proofs.BuiltStates.{in_brackets, atoms_read, complete_built}
use Rattle.tcq_reader.proofs.LeafLemmas.{with_atoms-push, vars_same, body_length, answers_first}
use Rattle.tcq_reader.proofs.Following.{at, InsidePends, base_inside, settled_complete, Advances}
use Rattle.tcq_reader.proofs.Following.{advances_stop, Acts, all_advance}
use Rattle.tcq_reader.proofs.OuterActs.{gives_build}

module _ (o : Declared) (head : Head) (stack : Stack) where
  abbrev In : List g.Atom → List Mark → Build
  In atoms words = with_words (in_brackets o head stack atoms) words

  abbrev AdvancesIn : Brackets → List Mark → List Mark → Symbol → ℕ → List Mark → State → Type 0
  AdvancesIn brackets pending words symbol place rest next =
      Advances o next (first_fault o (Some (InLeaf head stack (base_inside brackets)))
      (pending ++ at symbol place ∷ rest)) rest
      (acted o (mode_inside brackets) (In (atoms_read brackets) words) (at symbol place))

  want_atom_advances : (front : List g.Atom) (symbol : Symbol) (place : ℕ) (rest : List Mark)
      → IfSome (in_leaf head stack (WantAtom front) symbol)
      (AdvancesIn (WantAtom front) [] [] symbol place rest)
  want_atom_advances front (s.Name text) place rest = record {
    pending = at (s.Name text) place ∷ [];
    follows = record {
      words = at (s.Name text) place ∷ [];
      build_is = refl;
      pends =
          (place, refl, refl);
    };
    same = refl;
  }
  want_atom_advances front _ place rest = tt

  after_predicate_advances : (front : List g.Atom) (p : List ℕ) (a : ℕ) (symbol : Symbol)
      (place : ℕ) (rest : List Mark)
      → IfSome (in_leaf head stack (AfterPredicate front p) symbol)
      (AdvancesIn (AfterPredicate front p) (at (s.Name p) a ∷ []) (at (s.Name p) a ∷ []) symbol
      place rest)
  after_predicate_advances front p a s.Open place rest = record {
    pending = at (s.Name p) a ∷ at s.Open place ∷ [];
    follows = record {
      words = at (s.Name p) a ∷ [];
      build_is = refl;
      pends =
          (a, place, refl, refl);
    };
    same = refl;
  }
  after_predicate_advances front p a _ place rest = tt

  want_first_advances : (front : List g.Atom) (p : List ℕ) (a b : ℕ) (symbol : Symbol) (place : ℕ)
      (rest : List Mark)
      → IfSome (in_leaf head stack (WantFirst front p) symbol)
      (AdvancesIn (WantFirst front p) (at (s.Name p) a ∷ at s.Open b ∷ [])
      (at (s.Name p) a ∷ []) symbol place rest)
  want_first_advances front p a b (s.Name text) place rest = record {
    pending = at (s.Name p) a ∷ at s.Open b ∷ at (s.Name text) place ∷ [];
    follows = record {
      words = at (s.Name p) a ∷ at (s.Name text) place ∷ [];
      build_is =
          refl;
      pends = (a, b, place, refl, refl);
    };
    same = refl;
  }
  want_first_advances front p a b (s.Var text) place rest = record {
    pending = at (s.Name p) a ∷ at s.Open b ∷ at (s.Var text) place ∷ [];
    follows = record {
      words = at (s.Name p) a ∷ at (s.Var text) place ∷ [];
      build_is =
          refl;
      pends = (a, b, place, refl, refl);
    };
    same = refl;
  }
  want_first_advances front p a b _ place rest = tt

  want_second_advances : (front : List g.Atom) (p : List ℕ) (x : g.Term) (a b c d : ℕ)
      (symbol : Symbol) (place : ℕ) (rest : List Mark)
      → IfSome (in_leaf head stack (WantSecond front p x) symbol)
      (AdvancesIn (WantSecond front p x) (at (s.Name p) a ∷ at s.Open b ∷ at (term_spelled x) c
      ∷ at s.Comma d ∷ []) (at (s.Name p) a ∷ at (term_spelled x) c ∷ []) symbol place rest)
  want_second_advances front p x a b c d (s.Name text) place rest = record {
    pending = at (s.Name p) a ∷ at s.Open b ∷ at (term_spelled x) c ∷ at s.Comma d
        ∷ at (s.Name text) place ∷ [];
    follows = record {
      words = at (s.Name p) a ∷ at (term_spelled x) c ∷ at (s.Name text) place
          ∷ [];
      build_is = refl;
      pends = (a, b, c, d, place, refl, refl);
    };
    same = refl;
  }
  want_second_advances front p x a b c d (s.Var text) place rest = record {
    pending = at (s.Name p) a ∷ at s.Open b ∷ at (term_spelled x) c ∷ at s.Comma d
        ∷ at (s.Var text) place ∷ [];
    follows = record {
      words = at (s.Name p) a ∷ at (term_spelled x) c ∷ at (s.Var text) place
          ∷ [];
      build_is = refl;
      pends = (a, b, c, d, place, refl, refl);
    };
    same = refl;
  }
  want_second_advances front p x a b c d _ place rest = tt

  -- ---- the end of an atom

  atom_gives_stop : (b : Build) (v : Option QueryKind) (place : ℕ) (outcome : Outcome Draft)
      → atom_gives b (stop_at v place outcome) ≡ stop_at v place (atom_gives b outcome)
  atom_gives_stop b (Some kind) place outcome = refl
  atom_gives_stop b None place outcome = refl

  as_many : (front : List g.Atom) → length (with_atoms o (blank head.variables) front).body
      ≡ length front
  as_many front = let long = body_length o (blank head.variables) front in omega (arith, long)

  atom_done : (front : List g.Atom) (last : g.Atom) (words : List Mark) (rest : List Mark)
      → Advances o (InLeaf head stack (AfterAtom front last))
      (first_fault o (Some (InLeaf head stack (AfterAtom front last))) rest) rest
      (Gives (with_words (with_leaf (In front words)
      (with_atom o (with_atoms o (blank head.variables) front) last)) []))
  atom_done front last words rest = record {
    pending = [];
    follows = record {
      words = [];
      build_is = ap (λ (d : Draft). with_words (with_leaf (In front words) d) [])
          (sym (with_atoms-push o front (blank head.variables) last));
      pends = (refl, refl);
    };
    same = refl;
  }

  -- the faults of an atom of a concept, in their order
  one_faults : (front : List g.Atom) (p : List ℕ) (x : g.Term) (a b c place : ℕ) (rest : List Mark)
      → first_fault o (Some (InLeaf head stack (WantAtom front)))
      (at (s.Name p) a ∷ at s.Open b ∷ at (term_spelled x) c ∷ at s.Close place ∷ rest)
      ≡ fault_or (predicate_verdict o (length front) Concept p) a
      (fault_or (term_verdict o x) c
      (first_fault o (Some (InLeaf head stack (AfterAtom front (g.One p x)))) rest))
  unfolding first_fault
  one_faults front p (g.Var text) a b c place rest = refl
  one_faults front p (g.Ind text) a b c place rest = refl

  one_outcome : (front : List g.Atom) (p : List ℕ) (x : g.Term) (a c : ℕ) (d : Draft)
      → one_added o d (at (s.Name p) a) (at (term_spelled x) c) ≡ one_said o d a p c x
  one_outcome front p (g.Var text) a c d = refl
  one_outcome front p (g.Ind text) a c d = refl

  one_ends : (front : List g.Atom) (p : List ℕ) (x : g.Term) (a b c place : ℕ) (rest : List Mark)
      → AdvancesIn (AfterFirst front p x) (at (s.Name p) a ∷ at s.Open b ∷ at (term_spelled x) c
      ∷ []) (at (s.Name p) a ∷ at (term_spelled x) c ∷ []) s.Close place rest
      (InLeaf head stack (AfterAtom front (g.One p x)))
  one_ends front p x a b c place rest =
      let next : State = InLeaf head stack (AfterAtom front (g.One p x)) in
      let words : List Mark = at (s.Name p) a ∷ at (term_spelled x) c ∷ [] in
      let d : Draft = with_atoms o (blank head.variables) front in
      let now : Build = In front words in
      let later = first_fault o (Some next) rest in
      let goes : Advances o next (fault_or (predicate_verdict o (length front) Concept p) a
      (fault_or (term_verdict o x) c later)) rest
      (stop_at (predicate_verdict o (length front) Concept p) a
      (stop_at (term_verdict o x) c
      (Gives (with_words (with_leaf now (with_one o d p x)) [])))) =
      advances_stop o next (predicate_verdict o (length front) Concept p) a
      (fault_or (term_verdict o x) c later) rest _
      (advances_stop o next (term_verdict o x) c later rest _
      (atom_done front (g.One p x) words rest)) in
      let outcome : atom_gives now (one_added o d (at (s.Name p) a) (at (term_spelled x) c))
      ≡ stop_at (predicate_verdict o (length front) Concept p) a
      (stop_at (term_verdict o x) c
      (Gives (with_words (with_leaf now (with_one o d p x)) []))) =
      ap (λ (r : Outcome Draft). atom_gives now r) (one_outcome front p x a c d)
      ∙ atom_gives_stop now (predicate_verdict o (length d.body) Concept p) a _
      ∙ ap (λ (r : Outcome Build). stop_at (predicate_verdict o (length d.body) Concept p) a r)
      (atom_gives_stop now (term_verdict o x) c _)
      ∙ ap (λ (n : ℕ). stop_at (predicate_verdict o n Concept p) a
      (stop_at (term_verdict o x) c (Gives (with_words (with_leaf now (with_one o d p x)) []))))
      (as_many front) in
      let whole = first_fault o (Some (InLeaf head stack (WantAtom front)))
      (at (s.Name p) a ∷ at s.Open b ∷ at (term_spelled x) c ∷ at s.Close place ∷ rest) in
      let stopped : Outcome Build =
      stop_at (predicate_verdict o (length front) Concept p) a
      (stop_at (term_verdict o x) c
      (Gives (with_words (with_leaf now (with_one o d p x)) []))) in
      subst (λ (r : Outcome Build). Advances o next whole rest r) (sym outcome)
      (subst (λ (f : Option (ℕ × QueryKind)).
      Advances o next f rest stopped) (sym (one_faults front p x a b c place rest)) goes)

  after_first_advances : (front : List g.Atom) (p : List ℕ) (x : g.Term) (a b c : ℕ)
      (symbol : Symbol) (place : ℕ) (rest : List Mark)
      → IfSome (in_leaf head stack (AfterFirst front p x) symbol)
      (AdvancesIn (AfterFirst front p x) (at (s.Name p) a ∷ at s.Open b ∷ at (term_spelled x) c
      ∷ []) (at (s.Name p) a ∷ at (term_spelled x) c ∷ []) symbol place rest)
  after_first_advances front p x a b c s.Comma place rest = record {
    pending = at (s.Name p) a ∷ at s.Open b ∷ at (term_spelled x) c ∷ at s.Comma place ∷ [];
    follows = record {
      words = at (s.Name p) a ∷ at (term_spelled x) c ∷ [];
      build_is =
          refl;
      pends = (a, b, c, place, refl, refl);
    };
    same = refl;
  }
  after_first_advances front p x a b c s.Close place rest = one_ends front p x a b c place rest
  after_first_advances front p x a b c _ place rest = tt

  two_faults : (front : List g.Atom) (p : List ℕ) (x y : g.Term) (a b c d e place : ℕ)
      (rest : List Mark)
      → first_fault o (Some (InLeaf head stack (WantAtom front)))
      (at (s.Name p) a ∷ at s.Open b ∷ at (term_spelled x) c ∷ at s.Comma d ∷ at (term_spelled y) e
      ∷ at s.Close place ∷ rest)
      ≡ fault_or (predicate_verdict o (length front) Role p) a
      (fault_or (term_verdict o x) c (fault_or (term_verdict o y) e
      (first_fault o (Some (InLeaf head stack (AfterAtom front (g.Two p x y)))) rest)))
  unfolding first_fault
  two_faults front p (g.Var t) (g.Var u) a b c d e place rest = refl
  two_faults front p (g.Var t) (g.Ind u) a b c d e place rest = refl
  two_faults front p (g.Ind t) (g.Var u) a b c d e place rest = refl
  two_faults front p (g.Ind t) (g.Ind u) a b c d e place rest = refl

  two_outcome : (p : List ℕ) (x y : g.Term) (a c e : ℕ) (d : Draft)
      → two_added o d (at (s.Name p) a) (at (term_spelled x) c) (at (term_spelled y) e)
      ≡ two_said o d a p c x e y
  two_outcome p (g.Var t) (g.Var u) a c e d = refl
  two_outcome p (g.Var t) (g.Ind u) a c e d = refl
  two_outcome p (g.Ind t) (g.Var u) a c e d = refl
  two_outcome p (g.Ind t) (g.Ind u) a c e d = refl

  two_ends : (front : List g.Atom) (p : List ℕ) (x y : g.Term) (a b c d e place : ℕ)
      (rest : List Mark)
      → AdvancesIn (AfterSecond front p x y)
      (at (s.Name p) a ∷ at s.Open b ∷ at (term_spelled x) c ∷ at s.Comma d
      ∷ at (term_spelled y) e ∷ [])
      (at (s.Name p) a ∷ at (term_spelled x) c ∷ at (term_spelled y) e ∷ []) s.Close place rest
      (InLeaf head stack (AfterAtom front (g.Two p x y)))
  two_ends front p x y a b c d e place rest =
      let next : State = InLeaf head stack (AfterAtom front (g.Two p x y)) in
      let words : List Mark = at (s.Name p) a ∷ at (term_spelled x) c ∷ at (term_spelled y) e
      ∷ [] in
      let draft : Draft = with_atoms o (blank head.variables) front in
      let now : Build = In front words in
      let v = predicate_verdict o (length front) Role p in
      let v' = predicate_verdict o (length draft.body) Role p in
      let end : Outcome Build = Gives (with_words (with_leaf now (with_two o draft p x y)) []) in
      let later = first_fault o (Some next) rest in
      let goes : Advances o next (fault_or v a
      (fault_or (term_verdict o x) c (fault_or (term_verdict o y) e later))) rest
      (stop_at v a (stop_at (term_verdict o x) c (stop_at (term_verdict o y) e end))) =
      advances_stop o next v a (fault_or (term_verdict o x) c (fault_or (term_verdict o y) e later))
      rest _
      (advances_stop o next (term_verdict o x) c (fault_or (term_verdict o y) e later) rest _
      (advances_stop o next (term_verdict o y) e later rest end
      (atom_done front (g.Two p x y) words rest))) in
      let outcome : atom_gives now (two_added o draft (at (s.Name p) a) (at (term_spelled x) c)
      (at (term_spelled y) e))
      ≡ stop_at v a (stop_at (term_verdict o x) c (stop_at (term_verdict o y) e end)) =
      ap (λ (r : Outcome Draft). atom_gives now r) (two_outcome p x y a c e draft)
      ∙ atom_gives_stop now v' a _
      ∙ ap (λ (r : Outcome Build). stop_at v' a r) (atom_gives_stop now (term_verdict o x) c _)
      ∙ ap (λ (r : Outcome Build). stop_at v' a (stop_at (term_verdict o x) c r))
      (atom_gives_stop now (term_verdict o y) e _)
      ∙ ap (λ (n : ℕ). stop_at (predicate_verdict o n Role p) a
      (stop_at (term_verdict o x) c (stop_at (term_verdict o y) e end))) (as_many front) in
      let whole = first_fault o (Some (InLeaf head stack (WantAtom front)))
      (at (s.Name p) a ∷ at s.Open b ∷ at (term_spelled x) c ∷ at s.Comma d
      ∷ at (term_spelled y) e ∷ at s.Close place ∷ rest) in
      let stopped : Outcome Build =
      stop_at v a (stop_at (term_verdict o x) c (stop_at (term_verdict o y) e end)) in
      subst (λ (r : Outcome Build). Advances o next whole rest r) (sym outcome)
      (subst (λ (f : Option (ℕ × QueryKind)).
      Advances o next f rest stopped) (sym (two_faults front p x y a b c d e place rest)) goes)

  after_second_advances : (front : List g.Atom) (p : List ℕ) (x y : g.Term) (a b c d e : ℕ)
      (symbol : Symbol) (place : ℕ) (rest : List Mark)
      → IfSome (in_leaf head stack (AfterSecond front p x y) symbol)
      (AdvancesIn (AfterSecond front p x y) (at (s.Name p) a ∷ at s.Open b ∷ at (term_spelled x) c
      ∷ at s.Comma d ∷ at (term_spelled y) e ∷ [])
      (at (s.Name p) a ∷ at (term_spelled x) c ∷ at (term_spelled y) e ∷ []) symbol place rest)
  after_second_advances front p x y a b c d e s.Close place rest =
      two_ends front p x y a b c d e place rest
  after_second_advances front p x y a b c d e _ place rest = tt

  emptied_is : (atoms : List g.Atom) → emptied (with_atoms o (blank head.variables) atoms)
      ≡ blank head.variables
  emptied_is atoms =
      let d : Draft = with_atoms o (blank head.variables) atoms in
      let vars : d.vars ≡ length head.variables = vars_same o (blank head.variables) atoms in
      let seen : take (length head.variables) d.seen ≡ head.variables =
      answers_first (length head.variables) o (blank head.variables) atoms
      (omega arith) ∙ take-length head.variables in
      rw (vars, seen) refl

  after_atom_acts : (front : List g.Atom) (last : g.Atom) (symbol : Symbol) (place : ℕ)
      (rest : List Mark)
      → IfSome (in_leaf head stack (AfterAtom front last) symbol)
      (Acts o (InLeaf head stack (AfterAtom front last)) symbol place rest)
  after_atom_acts front last s.Comma place rest = (tt, refl)
  after_atom_acts front last s.Unsquare place rest =
      let now : Build = in_brackets o head stack (front ++ last ∷ []) in (
        settled_complete head stack (Leaf front last),
        ap (λ (d : Draft). Gives (with_leaf
            (with_table now (with_operand now.table (node.Leaf (query_of now.leaf)))) d))
            (emptied_is (front ++ last ∷ []))
            ∙ gives_build _ _ (complete_built o head stack (Leaf front last)),
      )
  after_atom_acts front last _ place rest = tt

  after_atom_advances : (front : List g.Atom) (last : g.Atom) (symbol : Symbol) (place : ℕ)
      (rest : List Mark)
      → IfSome (in_leaf head stack (AfterAtom front last) symbol)
      (AdvancesIn (AfterAtom front last) [] [] symbol place rest)
  after_atom_advances front last symbol place rest =
      all_advance o (InLeaf head stack (AfterAtom front last)) symbol place rest
      (in_leaf head stack (AfterAtom front last) symbol) refl
      (after_atom_acts front last symbol place rest)

  moved : (brackets : Brackets) (pending pending' words words' : List Mark) (symbol : Symbol)
      (place : ℕ) (rest : List Mark) → pending ≡ pending' → words ≡ words'
      → IfSome (in_leaf head stack brackets symbol)
      (AdvancesIn brackets pending' words' symbol place rest)
      → IfSome (in_leaf head stack brackets symbol)
      (AdvancesIn brackets pending words symbol place rest)
  moved brackets pending pending' words words' symbol place rest e f h =
      subst (λ (p : List Mark). IfSome (in_leaf head stack brackets symbol)
      (AdvancesIn brackets p words symbol place rest)) (sym e)
      (subst (λ (w : List Mark). IfSome (in_leaf head stack brackets symbol)
      (AdvancesIn brackets pending' w symbol place rest)) (sym f) h)

  pub inside_advances : (brackets : Brackets) (pending words : List Mark)
      → InsidePends brackets pending words → (symbol : Symbol) (place : ℕ) (rest : List Mark)
      → IfSome (in_leaf head stack brackets symbol)
      (AdvancesIn brackets pending words symbol place rest)
  inside_advances (WantAtom front) pending words h symbol place rest =
      moved (WantAtom front) pending _ words _ symbol place rest h.0 h.1
      (want_atom_advances front symbol place rest)
  inside_advances (AfterPredicate front p) pending words (a, e, f) symbol place rest =
      moved (AfterPredicate front p) pending _ words _ symbol place rest e f
      (after_predicate_advances front p a symbol place rest)
  inside_advances (WantFirst front p) pending words (a, b, e, f) symbol place rest =
      moved (WantFirst front p) pending _ words _ symbol place rest e f
      (want_first_advances front p a b symbol place rest)
  inside_advances (AfterFirst front p x) pending words (a, b, c, e, f) symbol place rest =
      moved (AfterFirst front p x) pending _ words _ symbol place rest e f
      (after_first_advances front p x a b c symbol place rest)
  inside_advances (WantSecond front p x) pending words (a, b, c, d, e, f) symbol place rest =
      moved (WantSecond front p x) pending _ words _ symbol place rest e f
      (want_second_advances front p x a b c d symbol place rest)
  inside_advances (AfterSecond front p x y) pending words (a, b, c, d, k, e, f) symbol place rest =
      moved (AfterSecond front p x y) pending _ words _ symbol place rest e f
      (after_second_advances front p x y a b c d k symbol place rest)
  inside_advances (AfterAtom front last) pending words h symbol place rest =
      moved (AfterAtom front last) pending _ words _ symbol place rest h.0 h.1
      (after_atom_advances front last symbol place rest)
