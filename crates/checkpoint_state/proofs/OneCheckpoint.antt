-- A history has one checkpoint.
use Rattle.std.proofs.Common.{◌≡◌, ℕ, ◌<◌, ◌^◌, true, false, List, [], ◌∷◌, ◌++◌}
use Rattle.std.proofs.Common.{refl, sym, ◌∙◌, ap, subst, arith}
use Rattle.std.specs.Prelude.{All, None, Option, Some, map}
use Rattle.std.specs.List.{AllZip}
use Rattle.std.proofs.lemmas.List.Elements.{All-head, All-tail}
use Rattle.list_lemmas.proofs.Rising.{rising_unique}
use Rattle.dl_syntax.specs.declared.names.IndId.{IndId}
use Rattle.dl_syntax.specs.declared.ontology.Inclusion.{Inclusion}
use Rattle.tcq_syntax.specs.Histories.{History}
use Rattle.tcq_syntax.specs.End.{IsMinimal}
use Rattle.tcq_syntax.specs.Formula.{formula_at}
use Rattle.tcq_syntax.specs.Sizes.{futures}
use Rattle.tcq_syntax.specs.Tcq.{Tcq}
use Rattle.tcq_syntax.proofs.OneList.{one_minimal}
use Rattle.answer_tables.specs.Tuples.{tuples}
use Rattle.formula_store.specs.Interned.{AreDistinct, interned_all}
use Rattle.checkpoint_text.specs.declared.checkpoint.Stretch.{Stretch}
use Rattle.checkpoint_text.specs.Suspended.{ArePlaces, Frame, IsKeptOf, NodeLists, Suspended}
use Rattle.checkpoint_text.specs.Suspended.{slots_with, tuples_of}
use Rattle.checkpoint_state.specs.Laws.{OneCheckpoint}
use Rattle.checkpoint_state.specs.Telling.{AreNamesOf, IsCheckpointOf, IsNodeOf, drawn_out, list_at}
use Rattle.checkpoint_state.proofs.Rebuilding.{AreGood, HaveGood, all_good, lists_told}
use Rattle.checkpoint_state.proofs.Rebuilding.{stretches_told, told_of, told_of_node, told_of_nodes}

names_told : (history : History) (one other : Option (List (List ℕ))) → AreNamesOf history one
    → AreNamesOf history other → one ≡ other
names_told history None None first second = refl
names_told history None (Some names) first second =
    absurd (let differ : true ≡ false = sym first.0 ∙ second.0 in cc)
names_told history (Some names) None first second =
    absurd (let differ : true ≡ false = sym second.0 ∙ first.0 in cc)
names_told history (Some names) (Some others) first second =
    ap (λ (xs : List (List ℕ)). Some xs) (sym first.1 ∙ second.1)

-- the same place with the same antichains
record AreSame (lists others : List (List ℕ)) (one other : NodeLists) : Type 0 where
  pub place : one.place ≡ other.place
  pub told : told_of_node lists one ≡ told_of_node others other

module _ (inclusions : List Inclusion) (history : History) (query : Tcq) (slots : ℕ)
    (lists others : List (List ℕ)) where
  -- minimal sets of the same tuples
  tuples_told : (place : ℕ) (rows : List (List IndId)) (ns ms : List ℕ)
      → AllZip (λ row n. IsMinimal inclusions history (futures query.nodes)
      (formula_at query.nodes place) row (list_at lists n)) rows ns
      → AllZip (λ row n. IsMinimal inclusions history (futures query.nodes)
      (formula_at query.nodes place) row (list_at others n)) rows ms
      → map (list_at lists) ns ≡ map (list_at others) ms
  tuples_told place [] [] [] first second = refl
  tuples_told place [] [] (m ∷ ms) first second = absurd second
  tuples_told place [] (n ∷ ns) ms first second = absurd first
  tuples_told place (row ∷ rows) [] ms first second = absurd first
  tuples_told place (row ∷ rows) (n ∷ ns) [] first second = absurd second
  tuples_told place (row ∷ rows) (n ∷ ns) (m ∷ ms) first second =
      ap (λ (x : List ℕ). x ∷ map (list_at lists) ns)
      (one_minimal inclusions history (futures query.nodes) (formula_at query.nodes place) row
      (list_at lists n) (list_at others m) first.0 second.0)
      ∙ ap (λ (xs : List (List ℕ)). list_at others m ∷ xs)
      (tuples_told place rows ns ms first.1 second.1)

  abbrev First : NodeLists → Type 0
  First node = IsNodeOf inclusions history query slots lists node

  abbrev Second : NodeLists → Type 0
  Second node = IsNodeOf inclusions history query slots others node

  node_told : (one other : NodeLists) → one.place ≡ other.place → First one → Second other
      → AreSame lists others one other
  node_told one other same first second = record {
    place = same;
    told = tuples_told one.place (tuples slots query.vars) (drawn_out one.stretches)
        (drawn_out other.stretches) first
        (subst (λ (p : ℕ). AllZip (λ row n. IsMinimal inclusions history (futures query.nodes)
        (formula_at query.nodes p) row (list_at others n)) (tuples slots query.vars)
        (drawn_out other.stretches)) (sym same) second);
  }

  nodes_told : (ones those : List NodeLists)
      → map (λ node. node.place) ones ≡ map (λ node. node.place) those
      → All First ones → All Second those → AllZip (AreSame lists others) ones those
  nodes_told [] [] same first second = tt
  nodes_told [] (other ∷ those) same first second = absurd (cc)
  nodes_told (one ∷ ones) [] same first second = absurd (cc)
  nodes_told (one ∷ ones) (other ∷ those) same first second =
      let place : one.place ≡ other.place = cc in
      let rest : map (λ node. node.place) ones ≡ map (λ node. node.place) those = cc in (
        node_told one other place (All-head First one ones first)
            (All-head Second other those second),
        nodes_told ones those rest (All-tail First one ones first)
            (All-tail Second other those second),
      )

-- the places are told
places_told : (accepted tuples : ℕ) (query : Tcq) (one other : List ℕ)
    → ArePlaces accepted tuples query one → ArePlaces accepted tuples query other → one ≡ other
places_told accepted tuples query one other first second =
    rising_unique ℕ (λ p q. p < q) (λ p q less more. omega (arith, less, more)) one other
    first.rising second.rising
    (λ p there. (second.exact p).1 ((first.exact p).0 there))
    (λ p there. (first.exact p).1 ((second.exact p).0 there))

-- ---- equal antichains

flat_same : (lists others : List (List ℕ)) (ones those : List NodeLists)
    → AllZip (AreSame lists others) ones those
    → told_of_nodes lists ones ≡ told_of_nodes others those
flat_same lists others [] [] same = refl
flat_same lists others [] (other ∷ those) same = absurd same
flat_same lists others (one ∷ ones) [] same = absurd same
flat_same lists others (one ∷ ones) (other ∷ those) same =
    ap (λ (xs : List (List ℕ)). xs ++ told_of_nodes lists ones) same.0.told
    ∙ ap (λ (xs : List (List ℕ)). told_of_node others other ++ xs)
    (flat_same lists others ones those same.1)

all_same : (lists others : List (List ℕ)) (ones those : List (List NodeLists))
    → AllZip (AllZip (AreSame lists others)) ones those
    → told_of lists ones ≡ told_of others those
all_same lists others [] [] same = refl
all_same lists others [] (other ∷ those) same = absurd same
all_same lists others (one ∷ ones) [] same = absurd same
all_same lists others (one ∷ ones) (other ∷ those) same =
    ap (λ (xs : List (List ℕ)). xs ++ told_of lists ones) (flat_same lists others one other same.0)
    ∙ ap (λ (xs : List (List ℕ)). told_of_nodes others other ++ xs)
    (all_same lists others ones those same.1)

abbrev node_made : ℕ → List Stretch → NodeLists
node_made place stretches = record { place = place; stretches = stretches }

module _ (lists : List (List ℕ)) (distinct : AreDistinct lists) where
  node_same : (one other : NodeLists) → AreGood lists one.stretches
      → AreGood lists other.stretches → AreSame lists lists one other → one ≡ other
  node_same one other first second same =
      ap (λ (p : ℕ). node_made p one.stretches) same.place
      ∙ ap (node_made other.place)
      (stretches_told lists one.stretches other.stretches distinct first second same.told)

  nodes_same : (ones those : List NodeLists) → HaveGood lists ones → HaveGood lists those
      → AllZip (AreSame lists lists) ones those → ones ≡ those
  nodes_same [] [] first second same = refl
  nodes_same [] (other ∷ those) first second same = absurd same
  nodes_same (one ∷ ones) [] first second same = absurd same
  nodes_same (one ∷ ones) (other ∷ those) first second same =
      ap (λ (n : NodeLists). n ∷ ones)
      (node_same one other
      (All-head (λ (n : NodeLists). AreGood lists n.stretches) one ones first)
      (All-head (λ (n : NodeLists). AreGood lists n.stretches) other those second) same.0)
      ∙ ap (λ (ns : List NodeLists). other ∷ ns)
      (nodes_same ones those
      (All-tail (λ (n : NodeLists). AreGood lists n.stretches) one ones first)
      (All-tail (λ (n : NodeLists). AreGood lists n.stretches) other those second) same.1)

  queries_same : (ones those : List (List NodeLists)) → All (HaveGood lists) ones
      → All (HaveGood lists) those → AllZip (AllZip (AreSame lists lists)) ones those
      → ones ≡ those
  queries_same [] [] first second same = refl
  queries_same [] (other ∷ those) first second same = absurd same
  queries_same (one ∷ ones) [] first second same = absurd same
  queries_same (one ∷ ones) (other ∷ those) first second same =
      ap (λ (ns : List NodeLists). ns ∷ ones)
      (nodes_same one other (All-head (HaveGood lists) one ones first)
      (All-head (HaveGood lists) other those second) same.0)
      ∙ ap (λ (qs : List (List NodeLists)). other ∷ qs)
      (queries_same ones those (All-tail (HaveGood lists) one ones first)
      (All-tail (HaveGood lists) other those second) same.1)

-- ---- the whole

abbrev made : Option (List (List ℕ)) → ℕ → List (List ℕ) → List (List NodeLists) → Suspended
made names accepted lists queries = record {
  names = names;
  accepted = accepted;
  lists = lists;
  queries = queries;
}

module _ (frame : Frame) (history : History) (c other : Suspended)
    (first : IsCheckpointOf frame history c) (second : IsCheckpointOf frame history other) where
  names_same : c.names ≡ other.names
  names_same = names_told history c.names other.names first.names second.names

  accepted_same : c.accepted ≡ other.accepted
  accepted_same = first.counted ∙ sym second.counted

  abbrev slots : ℕ
  slots = slots_with frame.ontology c.names

  slots_same : slots_with frame.ontology other.names ≡ slots
  slots_same = ap (slots_with frame.ontology) (sym names_same)

  abbrev FirstNodes : Tcq → List NodeLists → Type 0
  FirstNodes query nodes =
      All (IsNodeOf frame.ontology.inclusions history query slots c.lists) nodes

  abbrev SecondNodes : ℕ → Tcq → List NodeLists → Type 0
  SecondNodes n query nodes =
      All (IsNodeOf frame.ontology.inclusions history query n other.lists) nodes

  both_places : (query : Tcq) (ones those : List NodeLists) → IsKeptOf frame c query ones
      → IsKeptOf frame other query those
      → map (λ node. node.place) ones ≡ map (λ node. node.place) those
  both_places query ones those kept kept' =
      places_told c.accepted (tuples_of frame c query) query (map (λ node. node.place) ones)
      (map (λ node. node.place) those) kept.places
      (subst (λ (a : ℕ). ArePlaces a (slots ^ query.vars) query (map (λ node. node.place) those))
      (sym accepted_same)
      (subst (λ (n : ℕ). ArePlaces other.accepted (n ^ query.vars) query
      (map (λ node. node.place) those)) slots_same kept'.places))

  zipped : (queries : List Tcq) (ones those : List (List NodeLists))
      → AllZip (IsKeptOf frame c) queries ones → AllZip (IsKeptOf frame other) queries those
      → AllZip FirstNodes queries ones
      → AllZip (SecondNodes (slots_with frame.ontology other.names)) queries those
      → AllZip (AllZip (AreSame c.lists other.lists)) ones those
  zipped [] [] [] kept kept' told told' = tt
  zipped [] [] (those ∷ later) kept kept' told told' = absurd kept'
  zipped [] (ones ∷ rest) those kept kept' told told' = absurd kept
  zipped (query ∷ queries) [] those kept kept' told told' = absurd kept
  zipped (query ∷ queries) (ones ∷ rest) [] kept kept' told told' = absurd kept'
  zipped (query ∷ queries) (ones ∷ rest) (those ∷ later) kept kept' told told' = (
    nodes_told frame.ontology.inclusions history query slots c.lists other.lists ones those
        (both_places query ones those kept.0 kept'.0) told.0
        (subst (λ (n : ℕ). SecondNodes n query those) slots_same told'.0),
    zipped queries rest later kept.1 kept'.1 told.1 told'.1,
  )

  all_zipped : AllZip (AllZip (AreSame c.lists other.lists)) c.queries other.queries
  all_zipped = zipped frame.queries c.queries other.queries first.fits.queries
      second.fits.queries first.minimal second.minimal

  lists_same : c.lists ≡ other.lists
  lists_same =
      sym (lists_told frame c first.fits)
      ∙ ap (λ (xs : List (List ℕ)). interned_all [] xs)
      (all_same c.lists other.lists c.queries other.queries all_zipped)
      ∙ lists_told frame other second.fits

  all_queries_same : c.queries ≡ other.queries
  all_queries_same = queries_same c.lists first.fits.distinct c.queries other.queries
      (all_good frame c first.fits.queries)
      (subst (λ (ls : List (List ℕ)). All (HaveGood ls) other.queries) (sym lists_same)
      (all_good frame other second.fits.queries))
      (subst (λ (ls : List (List ℕ)). AllZip (AllZip (AreSame c.lists ls)) c.queries other.queries)
      (sym lists_same) all_zipped)

  pub checkpoints_same : c ≡ other
  checkpoints_same =
      ap (λ (n : Option (List (List ℕ))). made n c.accepted c.lists c.queries) names_same
      ∙ ap (λ (a : ℕ). made other.names a c.lists c.queries) accepted_same
      ∙ ap (λ (ls : List (List ℕ)). made other.names other.accepted ls c.queries) lists_same
      ∙ ap (made other.names other.accepted other.lists) all_queries_same

pub one_checkpoint : OneCheckpoint
one_checkpoint frame history c other first second =
    checkpoints_same frame history c other first second
