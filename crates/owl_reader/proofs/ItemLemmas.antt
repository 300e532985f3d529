-- Items, one after the other.
use Rattle.std.proofs.Common.{◌≡◌, ℕ, suc, ◌+◌, ◌≤◌, ◌<◌, List, [], ◌∷◌, length, drop, get_or, refl}
use Rattle.std.proofs.Common.{sym, ap, ◌∙◌, add-one, drop-cons, map, Ok, Err}
use Rattle.std.proofs.lemmas.List.{drop_all}
use Rattle.dl_syntax.specs.Ontology.{Declared}
use Rattle.owl_documents.specs.declared.items.Item.{Item}
use Rattle.owl_reader.specs.declared.entities.SayFault.{SayFault}
use Rattle.owl_reader.specs.declared.entities.SayFault.TheVariants as fault_of
use Rattle.owl_tokens.specs.Tables.{Table}
use Rattle.owl_documents.specs.Items as i
use Rattle.owl_documents.specs.ItemViews.{item_seen}
use Rattle.owl_reader.specs.Statements.{Said, ◌>>=◌, Entities, Vocabulary, item_added, axioms_added}
use Rattle.owl_reader.specs.Statements.{item_declared, all_declared}
use Rattle.owl_reader.specs.StatementViews.{Becomes}

module _ {Y : Type 0} (step : Y → i.Item → Said Y) (all : Y → List i.Item → Said Y) (none : (y : Y)
    → all y [] ≡ Ok y)
    (more : (y : Y) (item : i.Item) (rest : List i.Item)
    → all y (item ∷ rest) ≡ (step y item >>= (λ next. all next rest))) (bytes : List ℕ)
    (xs : List Item) where
  next : (y : Y) (place : ℕ) (d : Item) → place < length xs
      → all y (map (item_seen bytes) (drop place xs))
      ≡ (step y (item_seen bytes (get_or xs place d)) >>= (λ z.
      all z (map (item_seen bytes) (drop (place + 1) xs))))
  next y place d lt =
      ap (λ (ys : List Item). all y (map (item_seen bytes) ys)) (drop-cons xs place d lt)
      ∙ more y (item_seen bytes (get_or xs place d)) (map (item_seen bytes) (drop (suc place) xs))
      ∙ ap (λ (n : ℕ). step y (item_seen bytes (get_or xs place d)) >>= (λ z.
      all z (map (item_seen bytes) (drop n xs)))) (sym (add-one place))

  pub item_passes : (y z : Y) (x : Item) (place : ℕ) → place < length xs → x ≡ get_or xs place x
      → step y (item_seen bytes x) ≡ Ok z
      → all y (map (item_seen bytes) (drop place xs))
      ≡ all z (map (item_seen bytes) (drop (place + 1) xs))
  item_passes y z x place lt at is =
      next y place x lt
      ∙ ap (λ (w : Item). step y (item_seen bytes w) >>= (λ z.
      all z (map (item_seen bytes) (drop (place + 1) xs)))) (sym at)
      ∙ ap (λ (r : Said Y). r >>= (λ z. all z (map (item_seen bytes) (drop (place + 1) xs)))) is

  pub item_fails : (y new : Y) (x : Item) (whole : Said Y) (place : ℕ) (fault : SayFault)
      → place < length xs → x ≡ get_or xs place x
      → Becomes (Err fault) (step y (item_seen bytes x)) new
      → whole ≡ all y (map (item_seen bytes) (drop place xs)) → Becomes (Err fault) whole new
  item_fails y new x whole place (fault_of.Flaw at flaw) lt there is before =
      before
      ∙ next y place x lt
      ∙ ap (λ (w : Item). step y (item_seen bytes w) >>= (λ z.
      all z (map (item_seen bytes) (drop (place + 1) xs)))) (sym there)
      ∙ ap (λ (r : Said Y). r >>= (λ z. all z (map (item_seen bytes) (drop (place + 1) xs)))) is
  item_fails y new x whole place fault_of.Memory lt there is before = tt

  pub items_end : (y : Y) (place : ℕ) → length xs ≤ place
      → all y (map (item_seen bytes) (drop place xs)) ≡ Ok y
  items_end y place le = ap (λ (ys : List Item).
      all y (map (item_seen bytes) ys)) (drop_all place xs le) ∙ none y

pub no_axioms : (known : Table) (es : Entities) (o : Declared) → axioms_added known es o [] ≡ Ok o
unfolding axioms_added
no_axioms known es o = refl

pub more_axioms : (known : Table) (es : Entities) (o : Declared) (item : i.Item)
    (rest : List i.Item) → axioms_added known es o (item ∷ rest)
    ≡ (item_added known es o item >>= (λ next. axioms_added known es next rest))
unfolding axioms_added
more_axioms known es o item rest = refl

pub no_declarations : (known : Table) (v : Vocabulary) → all_declared known v [] ≡ Ok v
unfolding all_declared
no_declarations known v = refl

pub more_declarations : (known : Table) (v : Vocabulary) (item : i.Item) (rest : List i.Item)
    → all_declared known v (item ∷ rest)
    ≡ (item_declared known v item >>= (λ next. all_declared known next rest))
unfolding all_declared
more_declarations known v item rest = refl
