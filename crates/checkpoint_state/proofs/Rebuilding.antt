-- The lists and the stretches of a checkpoint, told by the antichains of its tuples.
use Rattle.std.proofs.Common.{◌≡◌, ℕ, zero, suc, ◌<◌, List, [], ◌∷◌, length, take}
use Rattle.std.proofs.Common.{replicate, refl, sym, ◌∙◌, ap, arith}
use Rattle.std.specs.Prelude.{All, flat_map, map}
use Rattle.std.specs.List.{AllZip}
use Rattle.std.proofs.lemmas.List.{map-append, take_all}
use Rattle.std.proofs.lemmas.List.Elements.{All-append, All-cons, All-head, All-nil, All-tail}
use Rattle.std.proofs.lemmas.Option.{slice_get-get_or}
use Rattle.list_lemmas.proofs.Zipped.{AllZip-all}
use Rattle.tcq_syntax.specs.Tcq.{Tcq}
use Rattle.formula_store.specs.Interned.{AreDistinct, interned_all}
use Rattle.checkpoint_text.specs.declared.checkpoint.Stretch.{Stretch}
use Rattle.checkpoint_text.specs.Suspended.{AreApart, AreStretches, Frame, IsKeptOf}
use Rattle.checkpoint_text.specs.Suspended.{IsSuspended, NodeLists, Suspended, numbers_in}
use Rattle.checkpoint_text.specs.Suspended.{numbers_of, numbers_of_nodes, tuples_of}
use Rattle.checkpoint_state.specs.Suspending.{number_in, stretches_of}
use Rattle.checkpoint_state.specs.Telling.{drawn_out, list_at}
use Rattle.checkpoint_state.proofs.Interning.{interned_append, number_there}
use Rattle.checkpoint_state.proofs.Ordering.{AreBelow, drawn_interned, interned_in_order}
use Rattle.checkpoint_state.proofs.Stretching.{HaveSome, stretches_drawn}

-- the stretches have lists, and different neighbours
pub record AreGood (lists : List (List ℕ)) (ss : List Stretch) : Type 0 where
  pub some : HaveSome ss
  pub apart : AreApart ss
  pub known : All (λ s. s.list < length lists) ss

pub good_of : (lists : List (List ℕ)) (query : Tcq) (tuples place : ℕ) (ss : List Stretch)
    → AreStretches lists query tuples place ss → AreGood lists ss
good_of lists query tuples place ss are =
    record { some = are.some; apart = are.apart; known = are.known }

abbrev pub HaveGood : List (List ℕ) → List NodeLists → Type 0
HaveGood lists nodes = All (λ node. AreGood lists node.stretches) nodes

-- ---- numbers

-- what holds of the number of each stretch holds of each of its tuples
pub drawn_all : (P : ℕ → Type 0) (ss : List Stretch) → All (λ s. P s.list) ss
    → All P (drawn_out ss)
drawn_all P [] all = All-nil P
drawn_all P (s ∷ ss) all =
    All-append P (replicate s.count s.list) (drawn_out ss) (often s.count)
    (drawn_all P ss (All-tail (λ (r : Stretch). P r.list) s ss all))
  where
    often : (k : ℕ) → All P (replicate k s.list)
    often zero = All-nil P
    often (suc k) = All-cons P s.list (replicate k s.list)
        (All-head (λ (r : Stretch). P r.list) s ss all) (often k)

-- the number of the list with a number is this
pub number_of_list : (lists : List (List ℕ)) (n : ℕ) → AreDistinct lists → n < length lists
    → number_in lists (list_at lists n) ≡ n
number_of_list lists n distinct within =
    number_there lists n (list_at lists n) distinct (slice_get-get_or lists n [] within)

numbers_forth : (lists : List (List ℕ)) (ns : List ℕ) → AreDistinct lists
    → AreBelow (length lists) ns → map (number_in lists) (map (list_at lists) ns) ≡ ns
numbers_forth lists [] distinct below = refl
numbers_forth lists (n ∷ ns) distinct below =
    ap (λ (k : ℕ). k ∷ map (number_in lists) (map (list_at lists) ns))
    (number_of_list lists n distinct (All-head (λ (k : ℕ). k < length lists) n ns below))
    ∙ ap (λ (ks : List ℕ). n ∷ ks) (numbers_forth lists ns distinct
    (All-tail (λ (k : ℕ). k < length lists) n ns below))

-- stretches are those of the numbers of their lists
pub stretches_back : (lists : List (List ℕ)) (ss : List Stretch) → AreDistinct lists
    → AreGood lists ss
    → stretches_of (map (number_in lists) (map (list_at lists) (drawn_out ss))) ≡ ss
stretches_back lists ss distinct good =
    ap stretches_of (numbers_forth lists (drawn_out ss) distinct
    (drawn_all (λ (n : ℕ). n < length lists) ss good.known))
    ∙ stretches_drawn ss good.some good.apart

-- they are told by their lists
pub stretches_told : (lists : List (List ℕ)) (one other : List Stretch) → AreDistinct lists
    → AreGood lists one → AreGood lists other
    → map (list_at lists) (drawn_out one) ≡ map (list_at lists) (drawn_out other) → one ≡ other
stretches_told lists one other distinct first second same =
    sym (stretches_back lists one distinct first)
    ∙ ap (λ (xs : List (List ℕ)). stretches_of (map (number_in lists) xs)) same
    ∙ stretches_back lists other distinct second

-- ---- the antichains of all tuples

abbrev pub told_of_node : List (List ℕ) → NodeLists → List (List ℕ)
told_of_node lists node = map (list_at lists) (drawn_out node.stretches)

abbrev pub told_of_nodes : List (List ℕ) → List NodeLists → List (List ℕ)
told_of_nodes lists nodes = flat_map (told_of_node lists) nodes

abbrev pub told_of : List (List ℕ) → List (List NodeLists) → List (List ℕ)
told_of lists queries = flat_map (told_of_nodes lists) queries

nodes_told : (lists list : List (List ℕ)) (nodes : List NodeLists) → HaveGood lists nodes
    → interned_all list (told_of_nodes lists nodes)
    ≡ interned_all list (map (list_at lists) (numbers_of_nodes nodes))
nodes_told lists list [] good = refl
nodes_told lists list (node ∷ nodes) good =
    let first : List (List ℕ) = told_of_node lists node in
    let numbers : List ℕ = numbers_in node.stretches in
    let later : List ℕ = numbers_of_nodes nodes in
    let is : AreGood lists node.stretches =
    All-head (λ (n : NodeLists). AreGood lists n.stretches) node nodes good in
    interned_append list first (told_of_nodes lists nodes)
    ∙ ap (λ (l : List (List ℕ)). interned_all l (told_of_nodes lists nodes))
    (drawn_interned (list_at lists) list node.stretches is.some)
    ∙ nodes_told lists (interned_all list (map (list_at lists) numbers)) nodes
    (All-tail (λ (n : NodeLists). AreGood lists n.stretches) node nodes good)
    ∙ sym (ap (interned_all list) (map-append (list_at lists) numbers later)
    ∙ interned_append list (map (list_at lists) numbers) (map (list_at lists) later))

all_told : (lists list : List (List ℕ)) (queries : List (List NodeLists))
    → All (HaveGood lists) queries
    → interned_all list (told_of lists queries)
    ≡ interned_all list (map (list_at lists) (numbers_of queries))
all_told lists list [] good = refl
all_told lists list (nodes ∷ queries) good =
    let first : List (List ℕ) = told_of_nodes lists nodes in
    let numbers : List ℕ = numbers_of_nodes nodes in
    let later : List ℕ = numbers_of queries in
    interned_append list first (told_of lists queries)
    ∙ ap (λ (l : List (List ℕ)). interned_all l (told_of lists queries))
    (nodes_told lists list nodes (All-head (HaveGood lists) nodes queries good))
    ∙ all_told lists (interned_all list (map (list_at lists) numbers)) queries
    (All-tail (HaveGood lists) nodes queries good)
    ∙ sym (ap (interned_all list) (map-append (list_at lists) numbers later)
    ∙ interned_append list (map (list_at lists) numbers) (map (list_at lists) later))

nodes_below : (lists : List (List ℕ)) (nodes : List NodeLists) → HaveGood lists nodes
    → AreBelow (length lists) (numbers_of_nodes nodes)
nodes_below lists [] good = All-nil (λ (n : ℕ). n < length lists)
nodes_below lists (node ∷ nodes) good =
    All-append (λ (n : ℕ). n < length lists) (numbers_in node.stretches) (numbers_of_nodes nodes)
    (numbered node.stretches
    (All-head (λ (n : NodeLists). AreGood lists n.stretches) node nodes good).known)
    (nodes_below lists nodes
    (All-tail (λ (n : NodeLists). AreGood lists n.stretches) node nodes good))
  where
    numbered : (ss : List Stretch) → All (λ s. s.list < length lists) ss
        → AreBelow (length lists) (numbers_in ss)
    numbered [] known = All-nil (λ (n : ℕ). n < length lists)
    numbered (s ∷ ss) known = All-cons (λ (n : ℕ). n < length lists) s.list (numbers_in ss)
        (All-head (λ (r : Stretch). r.list < length lists) s ss known)
        (numbered ss (All-tail (λ (r : Stretch). r.list < length lists) s ss known))

pub all_below : (lists : List (List ℕ)) (queries : List (List NodeLists))
    → All (HaveGood lists) queries → AreBelow (length lists) (numbers_of queries)
all_below lists [] good = All-nil (λ (n : ℕ). n < length lists)
all_below lists (nodes ∷ queries) good =
    All-append (λ (n : ℕ). n < length lists) (numbers_of_nodes nodes) (numbers_of queries)
    (nodes_below lists nodes (All-head (HaveGood lists) nodes queries good))
    (all_below lists queries (All-tail (HaveGood lists) nodes queries good))

-- ---- of what fits

pub all_good : (frame : Frame) (c : Suspended) → AllZip (IsKeptOf frame c) frame.queries c.queries
    → All (HaveGood c.lists) c.queries
all_good frame c kept =
    AllZip-all (IsKeptOf frame c) (HaveGood c.lists) (λ query nodes is.
    each query nodes is.each) frame.queries c.queries kept
  where
    each : (query : Tcq) (nodes : List NodeLists) → All (λ node. AreStretches c.lists query
        (tuples_of frame c query) node.place node.stretches) nodes → HaveGood c.lists nodes
    each query [] are = All-nil (λ (n : NodeLists). AreGood c.lists n.stretches)
    each query (node ∷ nodes) are =
        All-cons (λ (n : NodeLists). AreGood c.lists n.stretches) node nodes
        (good_of c.lists query (tuples_of frame c query) node.place node.stretches
        (All-head (λ (n : NodeLists). AreStretches c.lists query (tuples_of frame c query) n.place
        n.stretches) node nodes are))
        (each query nodes (All-tail (λ (n : NodeLists). AreStretches c.lists query
        (tuples_of frame c query) n.place n.stretches) node nodes are))

-- numbers in order of first occurrence bring in exactly the lists
pub lists_numbered : (frame : Frame) (c : Suspended) → IsSuspended frame c
    → interned_all [] (map (list_at c.lists) (numbers_of c.queries)) ≡ c.lists
lists_numbered frame c is =
    interned_in_order c.lists is.distinct zero (numbers_of c.queries) (omega arith)
    (all_below c.lists c.queries (all_good frame c is.queries)) is.order
    ∙ ap (λ (k : ℕ). take k c.lists) is.occur
    ∙ take_all (length c.lists) c.lists (omega arith)

-- the lists are the antichains of the tuples, each once
pub lists_told : (frame : Frame) (c : Suspended) → IsSuspended frame c
    → interned_all [] (told_of c.lists c.queries) ≡ c.lists
lists_told frame c is =
    all_told c.lists [] c.queries (all_good frame c is.queries) ∙ lists_numbered frame c is
