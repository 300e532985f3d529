-- Entities and expressions: their fronts.
use Rattle.std.proofs.Common.{◌≡◌, ℕ, Bool, true, false, cond}
use Rattle.std.proofs.Common.{List, [], ◌∷◌, Some, None, Ok, Err, refl}
use Rattle.std.proofs.Common.{◌⊎◌, inl, inr, arith}
use Rattle.owl_tokens.specs.declared.tokens.TokenKind.TheVariants as kind
use Rattle.owl_tokens.specs.declared.words.Head.{Head}
use Rattle.owl_tokens.specs.declared.words.Head.TheVariants as head
use Rattle.owl_tokens.specs.Tokens.{Lexeme}
use Rattle.owl_tokens.specs.Tables.{Table}
use Rattle.owl_tokens.specs.Iris.{is_thing, thing}
use Rattle.owl_documents.specs.Terms.{Read, ◌>>=◌, close_first, group_end, First, entity, group}
use Rattle.owl_documents.specs.Terms.{term_first, term_end, filler_end, qualified_end, refused_end}
use Rattle.owl_documents.specs.Terms.{Entity, named, refused, Role, everything, only}
use Rattle.owl_documents.specs.Terms.{entity_from, entity_first, inverse_from}
use Rattle.owl_documents.specs.Terms.{role_from, role_first, filler_from, filler_first, existing}
use Rattle.owl_documents.specs.Terms.{existing_from, class_from, class_first, narrowed}
use Rattle.owl_documents.specs.Terms.{basic_first}
use Rattle.owl_faults.proofs.Readers.{Reader, Good, Starts, Fresh, changed, changed_good, agreed}
use Rattle.owl_faults.proofs.Readers.{one_good, then_reads, then_inner, fresh_then}
use Rattle.owl_faults.proofs.Groups.{close_mark, reads_close, paired, group_good, Takes, term}
use Rattle.owl_faults.proofs.Groups.{term_starts, term_takes, term_good, term_none}

-- ---- a closing parenthesis

pub close_good : {X : Type 0} (base : ℕ) (value : ℕ → X) → Good base 1 (changed close_first value)
close_good base value =
    changed_good base 1 close_first value (one_good base 1 close_first (reads_close base))

pub fresh_close : {A X : Type 0} (value : A → ℕ → X)
    → Fresh (λ (a : A). changed close_first (value a))
fresh_close value = record {
  more = λ rest. close_mark ∷ rest;
  takes = λ a rest. (value a 0, refl);
}

-- `<>`
abbrev pub empty_iri : Lexeme
empty_iri = record { kind = kind.Iri; text = 60 ∷ 62 ∷ []; start = 0 }

-- what begins with this IRI
pub record TakesIri {X : Type 0} (p : Reader X) : Type 0 where
  pub value : X
  pub takes : (rest : List Lexeme) → p (empty_iri ∷ rest) ≡ Ok (value, rest)

pub iri_starts : {X : Type 0} (p : Reader X) → TakesIri p → Starts p
iri_starts p t = record {
  more = λ rest. empty_iri ∷ rest;
  bare = λ rest. refl;
  takes = λ rest. (t.value, t.takes rest);
}

-- ---- what isn't taken

abbrev pub with_rest : {X : Type 0} → X → List Lexeme → Read (X × List Lexeme)
with_rest x rest = Ok (x, rest)

abbrev with_nothing : List Lexeme → Read (Unit {0} × List Lexeme)
with_nothing rest = Ok (tt, rest)

abbrev no_value : ℕ → Unit {0}
no_value place = tt

abbrev pub with_value_of : {X Y : Type 0} → (X → Y) → X × List Lexeme → Read (Y × List Lexeme)
with_value_of value a = Ok (value a.0, a.1)

changed_paired : {X : Type 0} (q : List Lexeme → Read (List Lexeme)) (x : X)
    (inside : List Lexeme) → changed (paired q) (λ u. x) inside ≡ (q inside >>= (λ rest.
    Ok (x, rest)))
changed_paired {X} q x inside = go (q inside)
  where
    go : (r : Read (List Lexeme)) → ((r >>= with_nothing) >>= with_value_of (λ (u : Unit {0}). x))
        ≡ (r >>= with_rest x)
    go (Ok rest) = refl
    go (Err e) = refl

pub with_value : {X : Type 0} (k : ℕ) (q : List Lexeme → Read (List Lexeme)) (x : X)
    → Good 0 k (paired q) → Good 0 k (λ inside. q inside >>= (λ rest. Ok (x, rest)))
with_value k q x good =
    agreed 0 k (changed (paired q) (λ u. x)) (λ inside. q inside >>= (λ rest. Ok (x, rest)))
    (changed_paired q x) (changed_good 0 k (paired q) (λ u. x) good)

abbrev any_end : First → Read (Unit {0} × List Lexeme)
any_end first = term_end first >>= (λ rest. Ok (tt, rest))

takes_any : Takes any_end
takes_any = record {
  by_entity = λ t. inl (tt, λ rest. refl);
  by_group = λ h t. inl group_good;
  iri = empty_iri;
  is_iri = refl;
  value = tt;
  taken = λ rest. refl;
}

module _ (known : Table) where
  abbrev any_filler : First → Read (Unit {0} × List Lexeme)
  any_filler first = filler_end known first >>= (λ rest. Ok (tt, rest))

  takes_filler : Takes any_filler
  unfolding thing
  takes_filler = record {
    by_entity = λ t. go t (is_thing known t) refl;
    by_group = λ h t. inl group_good;
    iri = empty_iri;
    is_iri = refl;
    value = tt;
    taken = λ rest. refl;
  }
    where
      go : (t : Lexeme) (b : Bool) → is_thing known t ≡ b
          → ((x : Unit {0}) × ((rest : List Lexeme) → any_filler (entity t rest) ≡ Ok (x, rest)))
          ⊎ ((rest : List Lexeme) → any_filler (entity t rest) ≡ Err (Some t.start))
      go t true is = inr (λ rest. rw is refl)
      go t false is = inl (tt, λ rest. rw is refl)

  abbrev qualified : Reader (Unit {0})
  qualified inside = then_reads (term any_end takes_any) (λ u.
      then_reads (term any_filler takes_filler) (λ v. changed close_first no_value)) inside

  abbrev ends : List Lexeme → Read (List Lexeme)
  ends rest = close_first rest >>= (λ end. Ok end.1)

  abbrev later : List Lexeme → Read (List Lexeme)
  later behind = term_first behind >>= (λ filler. filler_end known filler >>= ends)

  qualified_same : (inside : List Lexeme) → qualified inside ≡ paired (qualified_end known) inside
  unfolding qualified_end
  qualified_same inside = first (term_first inside)
    where
      last : (r : Read (ℕ × List Lexeme)) → (r >>= with_value_of no_value)
          ≡ ((r >>= (λ end. Ok end.1)) >>= with_nothing)
      last (Ok end) = refl
      last (Err e) = refl

      fourth : (r : Read (List Lexeme))
          → ((r >>= with_nothing) >>= (λ a. changed close_first no_value a.1))
          ≡ ((r >>= ends) >>= with_nothing)
      fourth (Ok rest) = last (close_first rest)
      fourth (Err e) = refl

      third : (r : Read First)
          → ((r >>= any_filler) >>= (λ a. changed close_first no_value a.1))
          ≡ ((r >>= (λ filler. filler_end known filler >>= ends)) >>= with_nothing)
      third (Ok filler) = fourth (filler_end known filler)
      third (Err e) = refl

      second : (r : Read (List Lexeme)) → ((r >>= with_nothing) >>= (λ a.
          then_reads (term any_filler takes_filler) (λ v. changed close_first no_value) a.1))
          ≡ ((r >>= later) >>= with_nothing)
      second (Ok behind) = third (term_first behind)
      second (Err e) = refl

      first : (r : Read First) → ((r >>= any_end) >>= (λ a.
          then_reads (term any_filler takes_filler) (λ v. changed close_first no_value) a.1))
          ≡ ((r >>= (λ role. term_end role >>= later)) >>= with_nothing)
      first (Ok role) = second (term_end role)
      first (Err e) = refl

  pub qualified_good : Good 0 1 (paired (qualified_end known))
  qualified_good =
      agreed 0 1 qualified (paired (qualified_end known)) qualified_same
      (then_inner 0 1 (term any_end takes_any) (λ u. then_reads (term any_filler takes_filler) (λ v.
      changed close_first no_value)) (omega arith) (term_good any_end takes_any) (λ u.
      then_inner 0 1 (term any_filler takes_filler) (λ v. changed close_first no_value)
      (omega arith) (term_good any_filler takes_filler) (λ v. close_good 0 no_value)
      (fresh_close (λ v place. tt)))
      (fresh_then (term any_filler takes_filler) (λ u v. changed close_first no_value)
      (term_starts any_filler takes_filler) (fresh_close (λ c place. tt))))

  -- ---- entities

  abbrev pub ByGroup : {X : Type 0} → (First → Read (X × List Lexeme)) → Head → Lexeme → Type 0
  ByGroup f h t = (Good 0 1 (λ inside. f (group h t inside)))
      ⊎ ((h ≡ head.Other → ⊥)
      × ((inside : List Lexeme) → f (group h t inside) ≡ Err (Some t.start)))

  -- a group that isn't taken, with the value that is read of it
  pub outside : {X : Type 0} (h : Head) (t : Lexeme) (x : X)
      → ByGroup (λ first. elim first [
        | entity u rest ↦ Err None
        | group word u inside ↦ refused_end known word u inside >>= (λ rest. Ok (x, rest))
      ]) h t
  outside head.Other t x = inl (with_value 1 (group_end 0) x group_good)
  outside head.ObjectSomeValuesFrom t x =
      inl (with_value 1 (qualified_end known) x qualified_good)
  outside _ t x = inr (λ e. absurd cc, λ inside. refl)

  takes_entity : Takes (entity_from known)
  takes_entity = record {
    by_entity = λ t. inl (cond (is_thing known t) (refused t) (named t), λ rest. refl);
    by_group = λ h t. outside h t (refused t);
    iri = empty_iri;
    is_iri = refl;
    value = cond (is_thing known empty_iri) (refused empty_iri) (named empty_iri);
    taken = λ rest. refl;
  }

  pub entity_good : Good 0 0 (entity_first known)
  unfolding entity_first
  entity_good = term_good (entity_from known) takes_entity

  pub entity_iri : TakesIri (entity_first known)
  unfolding entity_first takes_entity
  entity_iri = record {
    value = takes_entity.value;
    takes = term_takes (entity_from known) takes_entity;
  }

  takes_or_thing : Takes (filler_from known)
  takes_or_thing = record {
    by_entity = λ t. inl (cond (is_thing known t) None (Some (named t)), λ rest. refl);
    by_group = λ h t. outside h t (Some (refused t));
    iri = empty_iri;
    is_iri = refl;
    value = cond (is_thing known empty_iri) None (Some (named empty_iri));
    taken = λ rest. refl;
  }

  filler_good : Good 0 0 (filler_first known)
  unfolding filler_first
  filler_good = term_good (filler_from known) takes_or_thing

  pub filler_iri : TakesIri (filler_first known)
  unfolding filler_first takes_or_thing
  filler_iri = record {
    value = takes_or_thing.value;
    takes = term_takes (filler_from known) takes_or_thing;
  }

  -- ---- roles

  abbrev as_role : Bool → Entity → Role
  as_role inverse e = record { entity = e; inverse = inverse }

  inverse_good : Good 0 1 (inverse_from known)
  inverse_good =
      then_inner 0 1 (entity_first known) (λ e. changed close_first (λ place. as_role true e))
      (omega arith) entity_good (λ e. close_good 0 (λ place. as_role true e))
      (fresh_close (λ e place. as_role true e))

  role_group : (h : Head) (t : Lexeme) → ByGroup (role_from known) h t
  role_group head.ObjectInverseOf t = inl inverse_good
  role_group head.Other t =
      inl (changed_good 0 1 (λ inside. entity_from known (group head.Other t inside))
      (as_role false) (with_value 1 (group_end 0) (refused t) group_good))
  role_group head.ObjectSomeValuesFrom t =
      inl (changed_good 0 1 (λ inside. entity_from known (group head.ObjectSomeValuesFrom t inside))
      (as_role false) (with_value 1 (qualified_end known) (refused t) qualified_good))
  role_group _ t = inr (λ e. absurd cc, λ inside. refl)

  takes_role : Takes (role_from known)
  takes_role = record {
    by_entity = λ t.
        inl (as_role false (cond (is_thing known t) (refused t) (named t)), λ rest. refl);
    by_group = role_group;
    iri = empty_iri;
    is_iri = refl;
    value =
        as_role false (cond (is_thing known empty_iri) (refused empty_iri) (named empty_iri));
    taken = λ rest. refl;
  }

  pub role_good : Good 0 0 (role_first known)
  unfolding role_first
  role_good = term_good (role_from known) takes_role

  pub role_iri : TakesIri (role_first known)
  unfolding role_first takes_role
  role_iri = record {
    value = takes_role.value;
    takes = term_takes (role_from known) takes_role;
  }

  pub role_none : role_first known [] ≡ Err None
  unfolding role_first
  role_none = term_none (role_from known) takes_role

  -- ---- class expressions

  existing_good : (t : Lexeme) → Good 0 1 (existing_from known t)
  existing_good t =
      then_inner 0 1 (role_first known) (λ r. then_reads (filler_first known) (λ f.
      changed close_first (λ place. existing t r f))) (omega arith) role_good (λ r.
      then_inner 0 1 (filler_first known) (λ f. changed close_first (λ place. existing t r f))
      (omega arith) filler_good (λ f. close_good 0 (λ place. existing t r f))
      (fresh_close (λ f place. existing t r f)))
      (fresh_then (filler_first known) (λ r f. changed close_first (λ place. existing t r f))
      (iri_starts (filler_first known) filler_iri) (fresh_close (λ c place. existing t c.0 c.1)))

  class_group : (h : Head) (t : Lexeme) → ByGroup (class_from known) h t
  class_group head.ObjectSomeValuesFrom t = inl (existing_good t)
  class_group head.Other t = inl (with_value 1 (group_end 0) (only (refused t)) group_good)
  class_group _ t = inr (λ e. absurd cc, λ inside. refl)

  takes_class : Takes (class_from known)
  takes_class = record {
    by_entity = λ t.
        inl (cond (is_thing known t) (everything t) (only (named t)), λ rest. refl);
    by_group = class_group;
    iri = empty_iri;
    is_iri = refl;
    value = cond (is_thing known empty_iri) (everything empty_iri) (only (named empty_iri));
    taken = λ rest. refl;
  }

  pub class_good : Good 0 0 (class_first known)
  unfolding class_first
  class_good = term_good (class_from known) takes_class

  pub class_iri : TakesIri (class_first known)
  unfolding class_first takes_class
  class_iri = record {
    value = takes_class.value;
    takes = term_takes (class_from known) takes_class;
  }

  pub class_none : class_first known [] ≡ Err None
  unfolding class_first
  class_none = term_none (class_from known) takes_class

  pub basic_good : Good 0 0 (basic_first known)
  unfolding basic_first
  basic_good = changed_good 0 0 (class_first known) narrowed class_good

  pub basic_iri : TakesIri (basic_first known)
  unfolding basic_first
  basic_iri = record {
    value = narrowed class_iri.value;
    takes = λ rest. rw (class_iri.takes rest) refl;
  }

  pub basic_none : basic_first known [] ≡ Err None
  unfolding basic_first
  basic_none = rw class_none refl
