-- What a builder keeps from token to token.
use Rattle.std.proofs.Common.{◌≡◌, ℕ, ◌+◌, ◌<◌, ◌≤◌, Bool, true, false, cond, ltb, List, [], ◌∷◌}
use Rattle.std.proofs.Common.{◌++◌, length, Option, Some, None, refl, sym, subst, arith}
use Rattle.std.specs.Prelude.{IfSome}
use Rattle.dl_syntax.specs.Ontology.{Declared}
use Rattle.tcq_syntax.specs.declared.nodes.Node.{Node}
use Rattle.tcq_syntax.specs.declared.nodes.Node.TheVariants as node
use Rattle.tcq_grammar.specs.declared.words.UnaryOp.{UnaryOp}
use Rattle.tcq_grammar.specs.declared.words.TimedOp.{TimedOp}
use Rattle.tcq_grammar.specs.declared.words.Keyword.{Keyword}
use Rattle.tcq_grammar.specs.declared.words.Keyword.TheVariants as k
use Rattle.tcq_grammar.specs.Words.{keyword_of}
use Rattle.tcq_grammar.specs.Symbols.{Symbol}
use Rattle.tcq_grammar.specs.Symbols as s
use Rattle.tcq_grammar.specs.Grammar as g
use Rattle.tcq_grammar.specs.Grammar.{Tree, Truth, Falsity, Leaf, Apply, Group, Timed, And, Or}
use Rattle.tcq_grammar.specs.Grammar.{term_spelled, File, Empty, More}
use Rattle.tcq_grammar.specs.Machine.{Level, Stack, Head, Brackets, WantAtom, AfterPredicate}
use Rattle.tcq_grammar.specs.Machine.{WantFirst, AfterFirst, WantSecond, AfterSecond, AfterAtom}
use Rattle.tcq_grammar.specs.Machine.{State, Between, AfterQuery, AfterName, InVariables}
use Rattle.tcq_grammar.specs.Machine.{AfterVariables, Want, Have, InLeaf, disjunction_of, go_on}
use Rattle.tcq_grammar.specs.Machine.{step}
use Rattle.std.specs.Prelude.{slice_get, nat_le, nat_lt}
use Rattle.std.specs.List.{All}
use Rattle.std.proofs.Common.{inl, inr, length-append}
use Rattle.std.proofs.lemmas.Bool.{ltb-false}
use Rattle.std.proofs.lemmas.List.Elements.{All-push, All-nil, All-contains}
use Rattle.std.proofs.lemmas.List.Sums.{sum_by_push}
use Rattle.std.proofs.lemmas.Option.{slice_get_within, get_or_from_slice_get}
use Rattle.dl_syntax.specs.declared.names.Kind.{Kind}
use Rattle.dl_syntax.specs.declared.names.Kind.TheVariants.{Concept, Role}
use Rattle.tcq_syntax.specs.Tcq.{IsLeaf, IsPostOrder}
use Rattle.tcq_syntax.specs.Sizes.{units, units_of, most_units}
use Rattle.dl_syntax.specs.declared.queries.Cq.{Cq}
use Rattle.tcq_grammar.specs.declared.words.UnaryOp.TheVariants as unary
use Rattle.tcq_grammar.specs.declared.words.TimedOp.TheVariants as timed
use Rattle.tcq_grammar.specs.Texts.{Mark}
use Rattle.tcq_grammar.specs.declared.checker.Mode.TheVariants as m
use Rattle.tcq_grammar.proofs.Erasure.{erase, mode_inside}
use Rattle.tcq_reader.specs.declared.faults.QueryKind.{QueryKind}
use Rattle.tcq_reader.specs.declared.faults.QueryKind.TheVariants.{TooMany}
use Rattle.tcq_reader.specs.declared.table.Places.{Places}
use Rattle.tcq_reader.specs.declared.table.Frame.{Frame}
use Rattle.tcq_reader.specs.declared.table.Frame.TheVariants as f
use Rattle.tcq_reader.specs.Leaves.{Draft, blank, with_one, with_two, with_atoms, query_of}
use Rattle.tcq_reader.specs.Leaves.{term_verdict, predicate_verdict}
use Rattle.tcq_reader.specs.Meaning.{unary_node, timed_node, last_place, with_node, table_said}
use Rattle.tcq_reader.specs.Faults.{name_verdict, variable_verdict, has_too_many_nodes, end_verdict}
use Rattle.tcq_reader.specs.Building.{Table, no_table, put, applied, joined, timed_joined}
use Rattle.tcq_reader.specs.Building.{conjunction_nodes, disjunction_nodes, with_operand, closed}
use Rattle.tcq_reader.specs.Building.{closed_frames}
use Rattle.tcq_reader.specs.Drafting.{Outcome, Gives, Stops, Free, stop_at, if_name, if_term}
use Rattle.tcq_reader.specs.Drafting.{one_said, two_said, atom_added}
use Rattle.tcq_reader.specs.Acting.{Build, with_words, with_leaf, with_table, leaf_gives}
use Rattle.tcq_reader.specs.Acting.{word_wanted, wanted, word_had, table_given, had, query_built}
use Rattle.tcq_reader.specs.Acting.{with_query, finished, atom_gives, atom_ended, leaf_ended, begun}
use Rattle.tcq_reader.specs.Acting.{answered, acted, EndsAsQuery, EndsAt, IsSound}
use Rattle.tcq_reader.proofs.BuiltStates.{atoms_read, built}
use Rattle.tcq_reader.proofs.WholeTables.{Caps, table_caps, is_post_order}
use Rattle.tcq_reader.proofs.LeafLemmas.{vars_same, body_length, few_seen}
use Rattle.tcq_reader.proofs.HeadLemmas.{is_leaf}
use Rattle.tcq_reader.proofs.Following.{Follows}
use Rattle.tcq_reader.proofs.OuterActs.{nodes_at_end}

abbrev pub NodeFits : ℕ → Node → Type 0
NodeFits vars (node.Leaf q) = IsLeaf vars q
NodeFits vars _ = Unit {0}

pub record Keeps (b : Build) : Type 0 where
  pub few_answers : b.leaf.vars ≤ 4
  pub few_atoms : length b.leaf.body ≤ 8
  pub few_units : b.total ≤ most_units
  pub leaves : All (NodeFits b.leaf.vars) b.table.nodes

-- ---- tables

module _ (vars : ℕ) where
  put_if : (b : Bool) (nodes : List Node) (n : Node) → All (NodeFits vars) nodes → NodeFits vars n
      → All (NodeFits vars) (cond b (with_node nodes n) nodes)
  put_if true nodes n h k = All-push (NodeFits vars) nodes n h k
  put_if false nodes n h k = h

  put_fits : (nodes : List Node) (n : Node) → All (NodeFits vars) nodes → NodeFits vars n
      → All (NodeFits vars) (put nodes n)
  put_fits nodes n h k = put_if (ltb (length nodes) 65) nodes n h k

  unary_fits : (op : UnaryOp) (place : ℕ) → NodeFits vars (unary_node op place)
  unary_fits unary.Next place = tt
  unary_fits unary.WeakNext place = tt
  unary_fits unary.Prev place = tt
  unary_fits unary.WeakPrev place = tt
  unary_fits unary.Eventually place = tt
  unary_fits unary.Always place = tt
  unary_fits unary.Once place = tt
  unary_fits unary.Historically place = tt

  timed_fits : (op : TimedOp) (left right : ℕ) → NodeFits vars (timed_node op left right)
  timed_fits timed.Until left right = tt
  timed_fits timed.Since left right = tt

  applied_fits : (places : Places) (frames : List Frame) (nodes : List Node)
      → All (NodeFits vars) nodes → All (NodeFits vars) (applied places frames nodes).nodes
  applied_fits places [] nodes h = h
  applied_fits places (f.Operand op ∷ frames) nodes h =
      applied_fits places frames (put nodes (unary_node op (last_place nodes)))
      (put_fits nodes (unary_node op (last_place nodes)) h (unary_fits op (last_place nodes)))
  applied_fits places (f.Inside outer ∷ frames) nodes h = h

  timed_joined_fits : (left : Option (TimedOp × ℕ)) (nodes : List Node) → All (NodeFits vars) nodes
      → All (NodeFits vars) (timed_joined left nodes)
  timed_joined_fits None nodes h = h
  timed_joined_fits (Some left) nodes h =
      put_fits nodes (timed_node left.0 left.1 (last_place nodes)) h
      (timed_fits left.0 left.1 (last_place nodes))

  both_fits : (left : Option ℕ) (nodes : List Node) → All (NodeFits vars) nodes
      → All (NodeFits vars) (joined (λ a b. node.And a b) left nodes)
  both_fits None nodes h = h
  both_fits (Some left) nodes h = put_fits nodes (node.And left (last_place nodes)) h tt

  either_fits : (left : Option ℕ) (nodes : List Node) → All (NodeFits vars) nodes
      → All (NodeFits vars) (joined (λ a b. node.Or a b) left nodes)
  either_fits None nodes h = h
  either_fits (Some left) nodes h = put_fits nodes (node.Or left (last_place nodes)) h tt

  conjunction_fits : (places : Places) (nodes : List Node) → All (NodeFits vars) nodes
      → All (NodeFits vars) (conjunction_nodes places nodes)
  conjunction_fits places nodes h =
      both_fits places.both (timed_joined places.timed nodes)
      (timed_joined_fits places.timed nodes h)

  disjunction_fits : (places : Places) (nodes : List Node) → All (NodeFits vars) nodes
      → All (NodeFits vars) (disjunction_nodes places nodes)
  disjunction_fits places nodes h =
      either_fits places.either (conjunction_nodes places nodes) (conjunction_fits places nodes h)

  closed_fits : (frames : List Frame) (nodes : List Node) → All (NodeFits vars) nodes
      → IfSome (closed_frames frames nodes) (λ t. All (NodeFits vars) t.nodes)
  closed_fits [] nodes h = tt
  closed_fits (f.Operand op ∷ frames) nodes h = tt
  closed_fits (f.Inside outer ∷ frames) nodes h = applied_fits outer frames nodes h

-- ---- outcomes

abbrev pub IfGives : {X : Type 0} → (X → Type 0) → Outcome X → Type 0
IfGives P (Gives x) = P x
IfGives P (Stops place kind) = Unit {0}
IfGives P Free = Unit {0}

stop_keeps : {X : Type 0} (P : X → Type 0) (v : Option QueryKind) (place : ℕ) (outcome : Outcome X)
    → (v ≡ None → IfGives P outcome) → IfGives P (stop_at v place outcome)
stop_keeps P (Some kind) place outcome h = tt
stop_keeps P None place outcome h = h refl

name_keeps : {X : Type 0} (P : X → Type 0) (symbol : Symbol) (next : List ℕ → Outcome X)
    → ((text : List ℕ) → IfGives P (next text)) → IfGives P (if_name symbol next)
name_keeps P (s.Name text) next h = h text
name_keeps P _ next h = tt

term_keeps : {X : Type 0} (P : X → Type 0) (symbol : Symbol) (next : g.Term → Outcome X)
    → ((x : g.Term) → IfGives P (next x)) → IfGives P (if_term symbol next)
term_keeps P (s.Var text) next h = h (g.Var text)
term_keeps P (s.Name text) next h = h (g.Ind text)
term_keeps P _ next h = tt

-- a draft keeps its answer variables, and has at most so many atoms
abbrev DraftKeeps : Draft → Draft → Type 0
DraftKeeps d e = (e.vars ≡ d.vars) × (length e.body ≤ 8)

less_if : (b : Bool) (n : ℕ) (v : Option QueryKind) → nat_le 8 n ≡ b
    → cond b (Some TooMany) v ≡ None → n < 8
less_if true n v e h = absurd cc
less_if false n v e h = grind arith

room_left : (o : Declared) (n : ℕ) (kind : Kind) (p : List ℕ) → predicate_verdict o n kind p ≡ None
    → n < 8
room_left o n kind p h = less_if (nat_le 8 n) n _ refl h

one_keeps : (o : Declared) (d : Draft) (p : ℕ) (predicate : List ℕ) (c : ℕ) (x : g.Term)
    → IfGives (DraftKeeps d) (one_said o d p predicate c x)
one_keeps o d p predicate c x =
    stop_keeps (DraftKeeps d) (predicate_verdict o (length d.body) Concept predicate) p _ (λ few.
    stop_keeps (DraftKeeps d) (term_verdict o x) c (Gives (with_one o d predicate x)) (λ _. (
      refl,
      omega (
        arith,
        room_left o (length d.body) Concept predicate few,
        length-append d.body
            (with_one o (record { vars = d.vars; seen = d.seen; body = [] }) predicate x).body,
      ),
    )))

two_keeps : (o : Declared) (d : Draft) (p : ℕ) (predicate : List ℕ) (c : ℕ) (x : g.Term) (e : ℕ)
    (y : g.Term) → IfGives (DraftKeeps d) (two_said o d p predicate c x e y)
two_keeps o d p predicate c x e y =
    stop_keeps (DraftKeeps d) (predicate_verdict o (length d.body) Role predicate) p _ (λ few.
    stop_keeps (DraftKeeps d) (term_verdict o x) c _ (λ _.
    stop_keeps (DraftKeeps d) (term_verdict o y) e (Gives (with_two o d predicate x y)) (λ _. (
      refl,
      omega (
        arith,
        room_left o (length d.body) Role predicate few,
        length-append d.body
            (with_two o (record { vars = d.vars; seen = d.seen; body = [] }) predicate x y).body,
      ),
    ))))

atom_keeps : (o : Declared) (d : Draft) (words : List Mark)
    → IfGives (DraftKeeps d) (atom_added o d words)
atom_keeps o d [] = tt
atom_keeps o d (p ∷ []) = tt
atom_keeps o d (p ∷ x ∷ []) =
    name_keeps (DraftKeeps d) p.symbol _ (λ predicate.
    term_keeps (DraftKeeps d) x.symbol _ (λ first.
    one_keeps o d p.start predicate x.start first))
atom_keeps o d (p ∷ x ∷ y ∷ []) =
    name_keeps (DraftKeeps d) p.symbol _ (λ predicate.
    term_keeps (DraftKeeps d) x.symbol _ (λ first.
    term_keeps (DraftKeeps d) y.symbol _ (λ second.
    two_keeps o d p.start predicate x.start first y.start second)))
atom_keeps o d (p ∷ x ∷ y ∷ z ∷ rest) = tt

-- ---- each kind of token

with_table_keeps : (b : Build) (t : Table) → Keeps b → All (NodeFits b.leaf.vars) t.nodes
    → Keeps (with_table b t)
with_table_keeps b t h k = record {
  few_answers = h.few_answers;
  few_atoms =
      h.few_atoms;
  few_units = h.few_units;
  leaves = k;
}

operand_fits : (b : Build) (n : Node) → Keeps b → NodeFits b.leaf.vars n
    → All (NodeFits b.leaf.vars) (with_operand b.table n).nodes
operand_fits b n h k = applied_fits b.leaf.vars b.table.places b.table.frames (put b.table.nodes n)
    (put_fits b.leaf.vars b.table.nodes n h.leaves k)

word_wanted_keeps : (b : Build) (keyword : Keyword) → Keeps b
    → IfGives Keeps (word_wanted b keyword)
word_wanted_keeps b k.True h = with_table_keeps b _ h (operand_fits b node.True h tt)
word_wanted_keeps b k.False h = with_table_keeps b _ h (operand_fits b node.False h tt)
word_wanted_keeps b (k.Unary op) h = with_table_keeps b _ h h.leaves
word_wanted_keeps b _ h = tt

wanted_keeps : (b : Build) (symbol : Symbol) → Keeps b → IfGives Keeps (wanted b symbol)
wanted_keeps b (s.Name text) h = word_wanted_keeps b (keyword_of text) h
wanted_keeps b s.Open h = with_table_keeps b _ h h.leaves
wanted_keeps b s.Square h = h
wanted_keeps b _ h = tt

word_had_keeps : (b : Build) (keyword : Keyword) → Keeps b → IfGives Keeps (word_had b keyword)
word_had_keeps b (k.Timed op) h = with_table_keeps b _ h h.leaves
word_had_keeps b _ h = tt

given_keeps : (b : Build) (t : Option Table) → Keeps b
    → IfSome t (λ t. All (NodeFits b.leaf.vars) t.nodes) → IfGives Keeps (table_given b t)
given_keeps b (Some t) h k = with_table_keeps b t h k
given_keeps b None h k = tt

units_if : (b : Bool) (individuals : ℕ) (total : ℕ) (kind : QueryKind) → nat_lt most_units total ≡ b
    → cond b (Some kind) None ≡ None → total ≤ most_units
units_if true individuals total kind e h = absurd cc
units_if false individuals total kind e h = ltb-false most_units total e

end_if : (b : Bool) (v : Option QueryKind) → cond b (Some TooMany) v ≡ None → v ≡ None
end_if true v h = absurd cc
end_if false v h = h

finished_keeps : (individuals : ℕ) (b : Build) (place : ℕ) → b.total ≡ units individuals b.queries
    → IfGives Keeps (finished individuals b place)
finished_keeps individuals b place e =
    let q = query_built b in
    stop_keeps Keeps (end_verdict individuals b.queries q) place
    (Gives (with_query individuals (with_table b no_table) q)) (λ none.
    let few : units individuals (b.queries ++ q ∷ []) ≤ most_units =
    units_if (nat_lt most_units (units individuals (b.queries ++ q ∷ []))) individuals _ _ refl
    (end_if (has_too_many_nodes q) _ none) in
    let sum : units individuals (b.queries ++ q ∷ [])
    ≡ units individuals b.queries + units_of individuals q =
    sum_by_push (units_of individuals) b.queries q in
    record {
      few_answers = omega arith;
      few_atoms = omega arith;
      few_units = omega (arith, few, sum, e);
      leaves = All-nil (NodeFits 0);
    })

had_keeps : (individuals : ℕ) (b : Build) (t : Mark) (symbol : Symbol)
    → b.total ≡ units individuals b.queries → Keeps b → IfGives Keeps (had individuals b t symbol)
had_keeps individuals b t (s.Name text) e h = word_had_keeps b (keyword_of text) h
had_keeps individuals b t s.Amp e h =
    with_table_keeps b _ h (conjunction_fits b.leaf.vars b.table.places b.table.nodes h.leaves)
had_keeps individuals b t s.Bar e h =
    with_table_keeps b _ h (disjunction_fits b.leaf.vars b.table.places b.table.nodes h.leaves)
had_keeps individuals b t s.Close e h =
    given_keeps b (closed b.table) h (closed_fits b.leaf.vars b.table.frames
    (disjunction_nodes b.table.places b.table.nodes)
    (disjunction_fits b.leaf.vars b.table.places b.table.nodes h.leaves))
had_keeps individuals b t s.Semi e h = finished_keeps individuals b t.start e
had_keeps individuals b t _ e h = tt

begun_keeps : (b : Build) (t : Mark) → Keeps b → IfGives Keeps (begun b t)
begun_keeps b t h = name_keeps Keeps t.symbol _ (λ text.
    stop_keeps Keeps (name_verdict b.queries text) t.start _ (λ _.
    record {
      few_answers = h.few_answers;
      few_atoms = h.few_atoms;
      few_units = h.few_units;
      leaves =
          h.leaves;
    }))

words_keep : (b : Build) (words : List Mark) → Keeps b → Keeps (with_words b words)
words_keep b words h = record {
  few_answers = h.few_answers;
  few_atoms = h.few_atoms;
  few_units =
      h.few_units;
  leaves = h.leaves;
}

atom_gives_keeps : (b : Build) (outcome : Outcome Draft) → Keeps b
    → IfGives (DraftKeeps b.leaf) outcome → IfGives Keeps (atom_gives b outcome)
atom_gives_keeps b (Gives d) h k = record {
  few_answers = omega (arith, h.few_answers, k.0);
  few_atoms = k.1;
  few_units = h.few_units;
  leaves = subst (λ (n : ℕ). All (NodeFits n) b.table.nodes) (sym k.0) h.leaves;
}
atom_gives_keeps b (Stops place kind) h k = tt
atom_gives_keeps b Free h k = tt

atom_ended_keeps : (o : Declared) (b : Build) (symbol : Symbol) → Keeps b
    → IfGives Keeps (atom_ended o b symbol)
atom_ended_keeps o b s.Close h =
    atom_gives_keeps b (atom_added o b.leaf b.words) h (atom_keeps o b.leaf b.words)
atom_ended_keeps o b _ h = h

leaf_ended_keeps : (b : Build) (symbol : Symbol) → Keeps b → IsLeaf b.leaf.vars (query_of b.leaf)
    → IfGives Keeps (leaf_ended b symbol)
leaf_ended_keeps b s.Unsquare h leaf = record {
  few_answers = h.few_answers;
  few_atoms = omega arith;
  few_units = h.few_units;
  leaves = operand_fits b (node.Leaf (query_of b.leaf)) h leaf;
}
leaf_ended_keeps b _ h leaf = h

fewer_if : (b : Bool) (n : ℕ) (v : Option QueryKind) → nat_le 4 n ≡ b
    → cond b (Some TooMany) v ≡ None → n < 4
fewer_if true n v e h = absurd cc
fewer_if false n v e h = grind arith

answer_keeps : (b : Build) (v : Option QueryKind) (place : ℕ) (d : Draft) → Keeps b
    → (v ≡ None → Keeps (with_leaf b d)) → IfGives Keeps (leaf_gives b (stop_at v place (Gives d)))
answer_keeps b (Some kind) place d h k = tt
answer_keeps b None place d h k = k refl

answered_keeps : (b : Build) (t : Mark) (symbol : Symbol) → Keeps b
    → b.leaf.vars ≡ length b.leaf.seen → b.table.nodes ≡ [] → IfGives Keeps (answered b t symbol)
answered_keeps b t (s.Var text) h same none =
    answer_keeps b (variable_verdict b.leaf.seen text) t.start _ h (λ e.
    let few : length b.leaf.seen < 4 =
    fewer_if (nat_le 4 (length b.leaf.seen)) (length b.leaf.seen) _ refl e in
    record {
      few_answers = omega (arith, few, same);
      few_atoms = h.few_atoms;
      few_units = h.few_units;
      leaves = subst (All (NodeFits (b.leaf.vars + 1))) (sym none)
          (All-nil (NodeFits (b.leaf.vars + 1)));
    })
answered_keeps b t _ h same none = h

-- ---- every state

leaf_read : (o : Declared) (variables : List (List ℕ)) (front : List g.Atom) (last : g.Atom)
    → length (with_atoms o (blank variables) (front ++ last ∷ [])).body ≤ 8
    → IsLeaf (with_atoms o (blank variables) (front ++ last ∷ [])).vars
    (query_of (with_atoms o (blank variables) (front ++ last ∷ [])))
leaf_read o variables front last few =
    let atoms = front ++ last ∷ [] in
    let long : length atoms ≡ length front + 1 = length-append front (last ∷ []) in
    let many = body_length o (blank variables) atoms in
    subst (λ (n : ℕ). IsLeaf n (query_of (with_atoms o (blank variables) atoms)))
    (sym (vars_same o (blank variables) atoms))
    (is_leaf o variables atoms (omega (arith, long)) (omega (arith, many, few)))

inside_keeps : (o : Declared) (head : Head) (stack : Stack) (brackets : Brackets)
    (words : List Mark) (t : Mark) → Keeps (with_words (built o (InLeaf head stack brackets)) words)
    → IfGives Keeps (acted o (mode_inside brackets)
    (with_words (built o (InLeaf head stack brackets)) words) t)
inside_keeps o head stack (WantAtom front) words t h = words_keep _ _ h
inside_keeps o head stack (AfterPredicate front p) words t h = h
inside_keeps o head stack (WantFirst front p) words t h = words_keep _ _ h
inside_keeps o head stack (AfterFirst front p x) words t h = atom_ended_keeps o _ t.symbol h
inside_keeps o head stack (WantSecond front p x) words t h = words_keep _ _ h
inside_keeps o head stack (AfterSecond front p x y) words t h = atom_ended_keeps o _ t.symbol h
inside_keeps o head stack (AfterAtom front last) words t h =
    leaf_ended_keeps _ t.symbol h (leaf_read o head.variables front last h.few_atoms)

state_keeps : (o : Declared) (state : State) (words : List Mark) (t : Mark)
    → Keeps (with_words (built o state) words)
    → IfGives Keeps (acted o (erase state).mode (with_words (built o state) words) t)
state_keeps o (Between front) words t h = h
state_keeps o (AfterQuery front) words t h = begun_keeps _ t h
state_keeps o (AfterName front name) words t h = h
state_keeps o (InVariables head) words t h = answered_keeps _ t t.symbol h refl refl
state_keeps o (AfterVariables head) words t h = h
state_keeps o (Want head stack) words t h = wanted_keeps _ t.symbol h
state_keeps o (Have head outer level tree) words t h =
    had_keeps (length o.individuals) _ t t.symbol refl h
state_keeps o (InLeaf head stack brackets) words t h = inside_keeps o head stack brackets words t h

pub token_keeps : (o : Declared) (state : State) (pending : List Mark) (b : Build) (t : Mark)
    → Follows o state pending b → Keeps b → IfGives Keeps (acted o (erase state).mode b t)
token_keeps o state pending b t h k =
    subst (λ (now : Build). IfGives Keeps (acted o (erase state).mode now t)) (sym h.build_is)
    (state_keeps o state h.words t (subst Keeps h.build_is k))

-- ---- what the builder asks for

seen_few : (o : Declared) (state : State) → (built o state).leaf.vars ≤ 4
    → length (built o state).leaf.body ≤ 8 → length (built o state).leaf.seen < 50000
seen_few o (Between front) few atoms = omega arith
seen_few o (AfterQuery front) few atoms = omega arith
seen_few o (AfterName front name) few atoms = omega arith
seen_few o (InVariables head) few atoms = omega (arith, few)
seen_few o (AfterVariables head) few atoms = omega (arith, few)
seen_few o (Want head stack) few atoms = omega (arith, few)
seen_few o (Have head outer level tree) few atoms = omega (arith, few)
seen_few o (InLeaf head stack brackets) few atoms =
    let read = atoms_read brackets in
    omega (
      arith,
      few,
      atoms,
      vars_same o (blank head.variables) read,
      body_length o
          (blank head.variables) read,
      few_seen o (blank head.variables) read,
    )

total_is : (o : Declared) (state : State)
    → (built o state).total ≡ units (length o.individuals) (built o state).queries
total_is o (Between front) = refl
total_is o (AfterQuery front) = refl
total_is o (AfterName front name) = refl
total_is o (InVariables head) = refl
total_is o (AfterVariables head) = refl
total_is o (Want head stack) = refl
total_is o (Have head outer level tree) = refl
total_is o (InLeaf head stack brackets) = refl

sound_words : (o : Declared) (state : State) (words : List Mark)
    → Keeps (with_words (built o state) words)
    → IsSound (length o.individuals) (with_words (built o state) words)
sound_words o state words k = record {
  few_answers = k.few_answers;
  few_variables = seen_few o state k.few_answers k.few_atoms;
  few_units = k.few_units;
  total_is = total_is o state;
}

pub is_sound : (o : Declared) (state : State) (pending : List Mark) (b : Build)
    → Follows o state pending b → Keeps b → IsSound (length o.individuals) b
is_sound o state pending b h k =
    subst (IsSound (length o.individuals)) (sym h.build_is)
    (sound_words o state h.words (subst Keeps h.build_is k))

fits_at : (vars : ℕ) (nodes : List Node) (place : ℕ) (q : Cq) → All (NodeFits vars) nodes
    → slice_get nodes place ≡ Some (node.Leaf q) → IsLeaf vars q
fits_at vars nodes place q h at =
    All-contains (NodeFits vars) nodes (node.Leaf q) h (
      place,
      slice_get_within nodes place (node.Leaf q) at,
      get_or_from_slice_get nodes place
          (node.Leaf q) (node.Leaf q) at,
    )

is_whole : (kept whole : List Node) → Caps kept whole → length kept ≤ 64 → IsPostOrder whole
    → IsPostOrder kept
is_whole kept whole (inl e) few h = subst IsPostOrder (sym e) h
is_whole kept whole (inr h) few k = absurd (omega (arith, h.0))

ends_whole : (o : Declared) (head : Head) (level : Level) (tree : Tree) (words : List Mark)
    → Keeps (with_words (built o (Have head None level tree)) words)
    → EndsAsQuery (with_words (built o (Have head None level tree)) words)
ends_whole o head level tree words k few fewer =
    let b = built o (Have head None level tree) in
    let nodes = (query_built b).nodes in
    let same = nodes_at_end o head level tree in
    let fit : All (NodeFits b.leaf.vars) nodes =
    disjunction_fits b.leaf.vars b.table.places b.table.nodes k.leaves in
    record {
      tree = subst IsPostOrder (sym same)
          (is_whole _ (table_said o head.variables (disjunction_of level tree))
          (table_caps o head.variables (disjunction_of level tree))
          (subst (λ (ns : List Node). length ns ≤ 64) same few)
          (is_post_order o head.variables (disjunction_of level tree)));
      few_nodes = few;
      few_futures = fewer;
      few_variables = k.few_answers;
      leaves = λ place q at. fits_at b.leaf.vars nodes place q fit at;
    }

have_ends : (o : Declared) (head : Head) (outer : Option Stack) (level : Level) (tree : Tree)
    (next : State) (symbol : Symbol) (words : List Mark)
    → go_on head outer level tree symbol ≡ Some next
    → Keeps (with_words (built o (Have head outer level tree)) words)
    → EndsAt m.Have symbol (with_words (built o (Have head outer level tree)) words)
have_ends o head None level tree next s.Semi words e k = ends_whole o head level tree words k
have_ends o head (Some stack) level tree next s.Semi words e k = absurd cc
have_ends o head outer level tree next _ words e k = tt

inside_ends : (o : Declared) (brackets : Brackets) (symbol : Symbol) (b : Build)
    → EndsAt (mode_inside brackets) symbol b
inside_ends o (WantAtom front) symbol b = tt
inside_ends o (AfterPredicate front p) symbol b = tt
inside_ends o (WantFirst front p) symbol b = tt
inside_ends o (AfterFirst front p x) symbol b = tt
inside_ends o (WantSecond front p x) symbol b = tt
inside_ends o (AfterSecond front p x y) symbol b = tt
inside_ends o (AfterAtom front last) symbol b = tt

state_ends : (o : Declared) (state next : State) (symbol : Symbol) (words : List Mark)
    → step state symbol ≡ Some next → Keeps (with_words (built o state) words)
    → EndsAt (erase state).mode symbol (with_words (built o state) words)
state_ends o (Between front) next symbol words e k = tt
state_ends o (AfterQuery front) next symbol words e k = tt
state_ends o (AfterName front name) next symbol words e k = tt
state_ends o (InVariables head) next symbol words e k = tt
state_ends o (AfterVariables head) next symbol words e k = tt
state_ends o (Want head stack) next symbol words e k = tt
state_ends o (Have head outer level tree) next symbol words e k =
    have_ends o head outer level tree next symbol words e k
state_ends o (InLeaf head stack brackets) next symbol words e k = inside_ends o brackets symbol _

pub ends_at : (o : Declared) (state next : State) (pending : List Mark) (b : Build)
    (symbol : Symbol) → Follows o state pending b → Keeps b → step state symbol ≡ Some next
    → EndsAt (erase state).mode symbol b
ends_at o state next pending b symbol h k e =
    subst (EndsAt (erase state).mode symbol) (sym h.build_is)
    (state_ends o state next symbol h.words e (subst Keeps h.build_is k))
