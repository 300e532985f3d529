-- The rows of leaves, told one after the other.
use Rattle.std.proofs.Common.{◌≡◌, ℕ, ◌+◌, List, [], ◌∷◌, ◌++◌, length, refl, sym, ap, ◌∙◌}
use Rattle.std.proofs.Common.{append_assoc, append-nil}
use Rattle.std.specs.Prelude.{Vec, OnOk, Result, Ok, Err, true, false}
use Rattle.std.proofs.Common.{subst}
use Rattle.std.specs.Global.{Global}
use Rattle.std.specs.List.{All, AllZip}
use Rattle.std.proofs.lemmas.List.Elements.{All-nil, All-cons, All-contains}
use Rattle.dl_syntax.specs.declared.facts.Fact.{Fact}
use Rattle.dl_syntax.specs.declared.queries.Cq.{Cq}
use Rattle.dl_syntax.specs.Ontology.{Declared}
use Rattle.dl_syntax.specs.Rows.{Relation}
use Rattle.list_lemmas.proofs.Elements.{All-from_contains, Contains-first, Contains-later}
use Rattle.tcq_syntax.specs.declared.nodes.Node.{Node}
use Rattle.tcq_syntax.specs.declared.nodes.Node.TheVariants as node
use Rattle.tcq_syntax.specs.Tcq.{Tcq}
use Rattle.report_text.specs.Names.{Text, IsNamed, AreNamed}
use Rattle.model_audit.specs.Rows.{AreRowsOf, AreRowsOfQueries, leaf_queries}
use Rattle.audit_report.specs.Lines.{leaf_text}
use Rattle.audit_report.specs.Rows.{TellsMoreNodes}
use Rattle.audit_report.specs.Rows.{is_leaf}
use Rattle.audit_report.specs.Rows.{TellsMoreQueries, AreAllNamed}

module _ (o : Declared) (facts : List Fact) where
  abbrev AreRowsHere : Cq → Relation → Type 0
  AreRowsHere q r = AreRowsOf facts (length o.individuals) q r

  -- ---- what is told

  -- no node is left
  pub no_nodes : (name : Text) (place : ℕ) (out : Text)
      → TellsMoreNodes o facts name place [] out out
  no_nodes name place out = record { told = []; tells = refl; gains = sym (append-nil out) }

  -- a leaf comes first
  pub leaf_first : (name : Text) (place : ℕ) (q : Cq) (nodes : List Node) (relation : Relation)
      (before between now : Text)
      → AreRowsHere q relation
      → between ≡ before ++ leaf_text o.individuals name place relation.rows
      → TellsMoreNodes o facts name (place + 1) nodes between now
      → TellsMoreNodes o facts name place (node.Leaf q ∷ nodes) before now
  leaf_first name place q nodes relation before between now are first rest =
      record {
        told = leaf_text o.individuals name place relation.rows ++ rest.told;
        tells = (
          relation.rows,
          rest.told,
          record { rising = are.rising; member = are.member },
          rest.tells,
          refl,
        );
        gains = rest.gains ∙ ap (λ (t : Text). t ++ rest.told) first
            ∙ append_assoc before (leaf_text o.individuals name place relation.rows) rest.told;
      }

  -- another node comes first
  pub other_first : (name : Text) (place : ℕ) (x : Node) (nodes : List Node) (before now : Text)
      → is_leaf x ≡ false → TellsMoreNodes o facts name (place + 1) nodes before now
      → TellsMoreNodes o facts name place (x ∷ nodes) before now
  other_first name place (node.Leaf q) nodes before now no_leaf rest = absurd (cc)
  other_first name place _ nodes before now no_leaf rest =
      record { told = rest.told; tells = rest.tells; gains = rest.gains }

  -- it has no rows
  pub other_rows : (x : Node) (nodes : List Node) (rows : List Relation) → is_leaf x ≡ false
      → AllZip AreRowsHere (leaf_queries (x ∷ nodes)) rows
      → AllZip AreRowsHere (leaf_queries nodes) rows
  other_rows (node.Leaf q) nodes rows no_leaf zipped = absurd (cc)
  other_rows _ nodes rows no_leaf zipped = zipped

  -- no query is left
  pub no_queries : (out : Text) → TellsMoreQueries o facts [] out out
  no_queries out = record { told = []; tells = refl; gains = sym (append-nil out) }

  -- a query comes first
  pub query_first : (query : Tcq) (queries : List Tcq) (before between now : Text)
      → TellsMoreNodes o facts query.name 0 query.nodes before between
      → TellsMoreQueries o facts queries between now
      → TellsMoreQueries o facts (query ∷ queries) before now
  query_first query queries before between now first rest =
      record {
        told = first.told ++ rest.told;
        tells = (first.told, rest.told, first.tells, rest.tells, refl);
        gains = rest.gains ∙ ap (λ (t : Text). t ++ rest.told) first.gains
            ∙ append_assoc before first.told rest.told;
      }

  -- ---- each individual has a name

  -- the first relation of a list has names, and so have the later ones
  pub named_first : (relation : Relation) (every rows : List Relation) → every ≡ relation ∷ rows
      → All (λ (r : Relation). AreNamed o r.rows) every
      → AreNamed o relation.rows × All (λ (r : Relation). AreNamed o r.rows) rows
  named_first relation every rows is named =
      let all : All (λ (r : Relation). AreNamed o r.rows) (relation ∷ rows) =
      subst (All (λ (r : Relation). AreNamed o r.rows)) is named in (
        All-contains (λ (r : Relation). AreNamed o r.rows) (relation ∷ rows) relation all
            (Contains-first relation rows),
        All-from_contains (λ (r : Relation). AreNamed o r.rows) rows (λ r there.
            All-contains (λ (s : Relation). AreNamed o s.rows) (relation ∷ rows) r all
            (Contains-later relation rows r there)),
      )

  relation_named : (q : Cq) (relation : Relation) → AreRowsHere q relation
      → AreNamed o relation.rows
  relation_named q relation are =
      All-from_contains (IsNamed o) relation.rows (λ row there. ((are.member row).0 there).1)

  relations_named : (queries : List Cq) (rows : List Relation) → AllZip AreRowsHere queries rows
      → All (λ relation. AreNamed o relation.rows) rows
  relations_named [] [] zipped = All-nil (λ relation. AreNamed o relation.rows)
  relations_named [] (r ∷ rows) zipped = absurd zipped
  relations_named (q ∷ queries) [] zipped = absurd zipped
  relations_named (q ∷ queries) (r ∷ rows) zipped =
      All-cons (λ relation. AreNamed o relation.rows) r rows (relation_named q r zipped.0)
      (relations_named queries rows zipped.1)

  pub all_named : (queries : List Tcq) (rows : List (Vec Relation Global))
      → AreRowsOfQueries facts (length o.individuals) queries rows → All (AreAllNamed o) rows
  all_named [] [] zipped = All-nil (AreAllNamed o)
  all_named [] (each ∷ rows) zipped = absurd zipped
  all_named (query ∷ queries) [] zipped = absurd zipped
  all_named (query ∷ queries) (each ∷ rows) zipped =
      All-cons (AreAllNamed o) each rows
      (relations_named (leaf_queries query.nodes) each.items zipped.0)
      (all_named queries rows zipped.1)

-- a leaf has a query
leaf_of : (x : Node) → is_leaf x ≡ true → (q : Cq) × (x ≡ node.Leaf q)
leaf_of (node.Leaf q) asks = (q, refl)
leaf_of _ asks = absurd (cc)

-- what is told of later nodes, where another one comes first
pub other_told : {T E : Type 0} (o : Declared) (name : Text) (place : ℕ) (x : Node)
    (all nodes : List Node) (rows : List Relation) (before now : Text) (result : Result T E)
    → all ≡ x ∷ nodes → is_leaf x ≡ false →
    OnOk result ((facts : List Fact)
    → AllZip (AreRowsOf facts (length o.individuals)) (leaf_queries nodes) rows
    → TellsMoreNodes o facts name (place + 1) nodes before now) →
    OnOk result ((facts : List Fact)
    → AllZip (AreRowsOf facts (length o.individuals)) (leaf_queries all) rows
    → TellsMoreNodes o facts name place all before now)
other_told o name place x all nodes rows before now (Ok t) is no_leaf rest = λ facts zipped.
    subst (λ (ns : List Node). TellsMoreNodes o facts name place ns before now) (sym is)
    (other_first o facts name place x nodes before now no_leaf
    (rest facts (other_rows o facts x nodes rows no_leaf
    (subst (λ (ns : List Node). AllZip (AreRowsOf facts (length o.individuals)) (leaf_queries ns)
    rows) is zipped))))
other_told o name place x all nodes rows before now (Err e) is no_leaf rest = rest

-- the same, where a leaf comes first
pub first_leaf_told : {T E : Type 0} (o : Declared) (name : Text) (place : ℕ) (x : Node)
    (all nodes : List Node) (relation : Relation) (every rows : List Relation)
    (before between now : Text) (result : Result T E) → all ≡ x ∷ nodes → is_leaf x ≡ true
    → every ≡ relation ∷ rows
    → between ≡ before ++ leaf_text o.individuals name place relation.rows →
    OnOk result ((facts : List Fact)
    → AllZip (AreRowsOf facts (length o.individuals)) (leaf_queries nodes) rows
    → TellsMoreNodes o facts name (place + 1) nodes between now) →
    OnOk result ((facts : List Fact)
    → AllZip (AreRowsOf facts (length o.individuals)) (leaf_queries all) every
    → TellsMoreNodes o facts name place all before now)
first_leaf_told o name place x all nodes relation every rows before between now (Ok t) is leaf are
    first rest = λ facts zipped.
    let found : (q : Cq) × (x ≡ node.Leaf q) = leaf_of x leaf in
    let whole : all ≡ node.Leaf found.0 ∷ nodes =
    is ∙ ap (λ (n : Node). n ∷ nodes) found.1 in
    let both : AllZip (AreRowsOf facts (length o.individuals))
    (leaf_queries (node.Leaf found.0 ∷ nodes)) (relation ∷ rows) =
    subst (λ (rs : List Relation). AllZip (AreRowsOf facts (length o.individuals))
    (leaf_queries (node.Leaf found.0 ∷ nodes)) rs) are
    (subst (λ (ns : List Node). AllZip (AreRowsOf facts (length o.individuals)) (leaf_queries ns)
    every) whole zipped) in
    subst (λ (ns : List Node). TellsMoreNodes o facts name place ns before now) (sym whole)
    (leaf_first o facts name place found.0 nodes relation before between now both.0 first
    (rest facts both.1))
first_leaf_told o name place x all nodes relation every rows before between now (Err e) is leaf are
    first rest = rest

-- a leaf without rows is in no such list
pub no_row_told : (o : Declared) (facts : List Fact) (name : Text) (place : ℕ) (x : Node)
    (all nodes : List Node) (rows : List Relation) (before now : Text) → all ≡ x ∷ nodes
    → is_leaf x ≡ true → rows ≡ []
    → AllZip (AreRowsOf facts (length o.individuals)) (leaf_queries all) rows
    → TellsMoreNodes o facts name place all before now
no_row_told o facts name place x all nodes rows before now is leaf none zipped =
    let found : (q : Cq) × (x ≡ node.Leaf q) = leaf_of x leaf in
    let whole : all ≡ node.Leaf found.0 ∷ nodes =
    is ∙ ap (λ (n : Node). n ∷ nodes) found.1 in
    absurd (subst (λ (rs : List Relation). AllZip (AreRowsOf facts (length o.individuals))
    (leaf_queries (node.Leaf found.0 ∷ nodes)) rs) none
    (subst (λ (ns : List Node). AllZip (AreRowsOf facts (length o.individuals)) (leaf_queries ns)
    rows) whole zipped))
