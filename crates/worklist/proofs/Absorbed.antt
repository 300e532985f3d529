-- What moving items into a set keeps.
use Rattle.std.proofs.Common.{◌≡◌, ◌++◌, [], ◌∷◌, List, Bool, true, false, cond, refl, sym, ◌∙◌, ap}
use Rattle.std.proofs.Common.{subst, append_assoc}
use Rattle.std.specs.Prelude.{All, Contains}
use Rattle.std.specs.List.{list_any}
use Rattle.std.proofs.lemmas.List.{append-nil}
use Rattle.std.proofs.lemmas.List.Elements.{All-nil, All-push, All-weaker, All-cons}
use Rattle.std.proofs.lemmas.List.Elements.{Contains-append_left, Contains-push}
use Rattle.std.proofs.lemmas.Map.Views.{Contains-from_any}
use Rattle.indexmap.specs.IndexSet.{insert_key}
use Rattle.worklist.specs.Reach.{IsExact, Grows}

-- some items are left, and the others are kept
pub record Moved {S : Type 0} (items left kept : List S) : Type 0 where
  pub moved : List S
  pub order : items ≡ left ++ moved
  pub inside : All (Contains kept) moved

pub Grows-none : {S : Type 0} (old items : List S) → Grows old items old
Grows-none old items = record {
  added = [];
  order = sym (append-nil old);
  source =
      All-nil (Contains items);
}

pub Moved-none : {S : Type 0} (items kept : List S) → Moved items items kept
Moved-none items kept = record {
  moved = [];
  order = sym (append-nil items);
  inside =
      All-nil (Contains kept);
}

-- a key is in the set once it is inserted
Contains-insert : {S : Type 0} (eq : S → S → Bool) → IsExact eq → (keys : List S) (key : S)
    → Contains (insert_key eq keys key) key
Contains-insert eq exact keys key = by_test (list_any (eq key) keys) refl where
  by_test : (b : Bool) → list_any (eq key) keys ≡ b → Contains (cond b keys (keys ++ key ∷ [])) key
  by_test true h = Contains-from_any (λ x y. (exact x y).0) key keys h
  by_test false h = Contains-push keys key

-- and no key is lost
Contains-insert_old : {S : Type 0} (eq : S → S → Bool) (keys : List S) (key other : S)
    → Contains keys other → Contains (insert_key eq keys key) other
Contains-insert_old eq keys key other h = by_test (list_any (eq key) keys) where
  by_test : (b : Bool) → Contains (cond b keys (keys ++ key ∷ [])) other
  by_test true = h
  by_test false = Contains-append_left keys (key ∷ []) other h

pub Grows-insert : {S : Type 0} (eq : S → S → Bool) (old items keys new : List S) (key : S)
    → Grows old items keys → Contains items key → new ≡ insert_key eq keys key → Grows old items new
Grows-insert eq old items keys new key g h e = by_test (list_any (eq key) keys) e where
  by_test : (b : Bool) → new ≡ cond b keys (keys ++ key ∷ []) → Grows old items new
  by_test true same = record { added = g.added; order = same ∙ g.order; source = g.source }
  by_test false longer = record {
    added = g.added ++ key ∷ [];
    order = longer ∙ ap (λ ks. ks ++ key ∷ []) g.order ∙ append_assoc old g.added (key ∷ []);
    source = All-push (Contains items) g.added key g.source h;
  }

-- the last item is one of the items
pub Moved-last : {S : Type 0} (items left kept rest : List S) (key : S) → Moved items left kept
    → left ≡ rest ++ key ∷ [] → Contains items key
Moved-last {S = S} items left kept rest key m e =
    let P : List S → Type 0 = λ xs. Contains xs key in
    subst P (sym (m.order ∙ ap (λ xs. xs ++ m.moved) e))
    (Contains-append_left (rest ++ key ∷ []) m.moved key (Contains-push rest key))

pub Moved-insert : {S : Type 0} (eq : S → S → Bool) → IsExact eq
    → (items left kept rest new : List S) (key : S) → Moved items left kept
    → left ≡ rest ++ key ∷ [] → new ≡ insert_key eq kept key → Moved items rest new
Moved-insert {S = S} eq exact items left kept rest new key m e grown = record {
  moved = key ∷ m.moved;
  order = m.order ∙ ap (λ xs. xs ++ m.moved) e ∙ append_assoc rest (key ∷ []) m.moved;
  inside = let P : List S → Type 0 = λ ks. All (Contains ks) (key ∷ m.moved) in
      subst P (sym grown) (All-cons (Contains (insert_key eq kept key)) key m.moved
      (Contains-insert eq exact kept key)
      (All-weaker (Contains kept) (Contains (insert_key eq kept key)) (λ other h.
      Contains-insert_old eq kept key other h) m.moved m.inside));
}

-- with nothing left, each item is kept
pub Moved-all : {S : Type 0} (items left kept : List S) → Moved items left kept → left ≡ []
    → All (Contains kept) items
Moved-all {S = S} items left kept m e =
    let P : List S → Type 0 = λ xs. All (Contains kept) xs in
    subst P (sym (m.order ∙ ap (λ xs. xs ++ m.moved) e)) m.inside
