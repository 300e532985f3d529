-- Items, without where their texts lie in memory.
use Rattle.std.specs.Prelude.{ℕ, List, map}
use Rattle.owl_documents.specs.declared.items.Content as contents
use Rattle.owl_documents.specs.declared.items.Axiom as axioms
use Rattle.owl_documents.specs.declared.items.Declaration as declarations
use Rattle.owl_documents.specs.declared.items.Declaration.TheVariants as declaration_of
use Rattle.owl_documents.specs.declared.items.Item as items
use Rattle.owl_documents.specs.declared.items.Item.TheVariants as item_of
use Rattle.owl_tokens.specs.Tokens.{lexeme}
use Rattle.owl_documents.specs.Views.{entity_seen, role_seen, class_seen}
use Rattle.owl_documents.specs.Items.{Content, Axiom, Declaration, of_entity, of_annotations}
use Rattle.owl_documents.specs.Items.{of_refused, Item, silent, not_taken, declares, states}

module _ (bytes : List ℕ) where
  abbrev pub content_seen : contents.Content → Content
  content_seen c = (map (role_seen bytes) c.roles.items, map (class_seen bytes) c.classes.items)

  abbrev pub axiom_seen : axioms.Axiom → Axiom
  axiom_seen a = record {
    form = a.form;
    roles = map (role_seen bytes) a.roles.items;
    classes =
        map (class_seen bytes) a.classes.items;
    close = a.close;
  }

  abbrev pub declaration_seen : declarations.Declaration → Declaration
  declaration_seen (declaration_of.OfEntity kind e) = of_entity kind (entity_seen bytes e)
  declaration_seen declaration_of.OfAnnotations = of_annotations
  declaration_seen (declaration_of.OfRefused t) = of_refused (lexeme bytes t)

  abbrev pub item_seen : items.Item → Item
  item_seen item_of.Silent = silent
  item_seen (item_of.NotTaken t) = not_taken (lexeme bytes t)
  item_seen (item_of.Declares kind e close) = declares kind (entity_seen bytes e) close
  item_seen (item_of.States a) = states (axiom_seen a)
