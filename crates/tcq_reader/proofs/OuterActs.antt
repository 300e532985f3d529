-- Each token outside of leaves adds to what is built as it changes the state.
use Rattle.std.proofs.Common.{◌≡◌, ℕ, ◌+◌, ◌<◌, ltb, List, [], ◌∷◌, ◌++◌, length, Option, Some}
use Rattle.std.proofs.Common.{None, refl, sym, ap, ◌∙◌}
use Rattle.std.specs.Prelude.{IfSome}
use Rattle.dl_syntax.specs.Ontology.{Declared}
use Rattle.tcq_syntax.specs.declared.nodes.Node.{Node}
use Rattle.tcq_grammar.specs.declared.words.TimedOp.{TimedOp}
use Rattle.tcq_grammar.specs.declared.words.Keyword.{Keyword}
use Rattle.tcq_grammar.specs.declared.words.Keyword.TheVariants as k
use Rattle.tcq_grammar.specs.Words.{keyword_of}
use Rattle.tcq_grammar.specs.Symbols.{Symbol}
use Rattle.tcq_grammar.specs.Symbols as s
use Rattle.tcq_grammar.specs.Grammar.{Tree, Truth, Falsity, Group, File}
use Rattle.tcq_grammar.specs.Machine.{Level, Stack, nesting, Head, State, Between, AfterQuery}
use Rattle.tcq_grammar.specs.Machine.{AfterName, InVariables, AfterVariables, Want, Have, reopen}
use Rattle.tcq_grammar.specs.Machine.{conjunction_of, disjunction_of, begin_word, begin, timed_left}
use Rattle.tcq_grammar.specs.Machine.{close, finish, go_on_word, go_on, between_word, between}
use Rattle.tcq_grammar.specs.Machine.{after_query, after_name, in_variables, after_variables}
use Rattle.std.proofs.Common.{inl, inr, length-append}
use Rattle.std.proofs.lemmas.Bool.{lt-ltb}
use Rattle.std.proofs.lemmas.List.Sums.{sum_by_push}
use Rattle.tcq_syntax.specs.Tcq.{Tcq}
use Rattle.tcq_syntax.specs.Sizes.{units, units_of}
use Rattle.tcq_grammar.specs.Texts.{Mark}
use Rattle.tcq_grammar.proofs.Sound.{if_some}
use Rattle.tcq_reader.specs.declared.faults.QueryKind.{QueryKind}
use Rattle.tcq_reader.specs.declared.faults.QueryKind.TheVariants.{TooMany}
use Rattle.tcq_reader.specs.Leaves.{Draft, blank}
use Rattle.tcq_reader.specs.Meaning.{last_place, emit, table_said, queries_said}
use Rattle.tcq_reader.specs.Faults.{end_verdict, fault_at}
use Rattle.tcq_reader.specs.Building.{Table, no_table, put, applied, both_waits, either_waits}
use Rattle.tcq_reader.specs.Drafting.{Gives, stop_at}
use Rattle.tcq_reader.specs.Acting.{Build, with_leaf, leaf_gives, word_wanted, word_had}
use Rattle.tcq_reader.specs.Acting.{query_built}
use Rattle.tcq_reader.proofs.BuiltStates.{base_nodes, outer_frames, place_of, stack_nodes}
use Rattle.tcq_reader.proofs.BuiltStates.{stack_places, stack_frames, have_table, reopened_table}
use Rattle.tcq_reader.proofs.BuiltStates.{conjunction_built, disjunction_built, headed, built}
use Rattle.tcq_reader.proofs.BuiltStates.{complete_built}
use Rattle.tcq_reader.proofs.WholeTables.{Caps, table_caps}
use Rattle.tcq_reader.proofs.Following.{Settled, settled_complete, Acts}

pub gives_build : (a b : Build) → a ≡ b → Gives a ≡ Gives b
gives_build a b e = ap (λ (x : Build). Gives x) e

pub gives_table : (o : Declared) (head : Head) (a b : Table) → a ≡ b
    → Gives (headed o head a) ≡ Gives (headed o head b)
gives_table o head a b e = ap (λ (t : Table). Gives (headed o head t)) e

pub between_word_acts : (o : Declared) (front : File) (text : List ℕ) (place : ℕ) (rest : List Mark)
    (keyword : Keyword) → IfSome (between_word front keyword)
    (Acts o (Between front) (s.Name text) place rest)
between_word_acts o front text place rest k.Query = (tt, refl)
between_word_acts o front text place rest _ = tt

pub between_acts : (o : Declared) (front : File) (symbol : Symbol) (place : ℕ) (rest : List Mark)
    → IfSome (between front symbol) (Acts o (Between front) symbol place rest)
between_acts o front (s.Name text) place rest =
    between_word_acts o front text place rest (keyword_of text)
between_acts o front _ place rest = tt

pub after_query_acts : (o : Declared) (front : File) (symbol : Symbol) (place : ℕ)
    (rest : List Mark) → IfSome (after_query front symbol)
    (Acts o (AfterQuery front) symbol place rest)
after_query_acts o front (s.Name text) place rest = (tt, refl)
after_query_acts o front _ place rest = tt

pub after_name_acts : (o : Declared) (front : File) (name : List ℕ) (symbol : Symbol) (place : ℕ)
    (rest : List Mark) → IfSome (after_name front name symbol)
    (Acts o (AfterName front name) symbol place rest)
after_name_acts o front name s.Open place rest = (tt, refl)
after_name_acts o front name _ place rest = tt

pub leaf_gives_stop : (b : Build) (v : Option QueryKind) (place : ℕ) (d : Draft)
    → leaf_gives b (stop_at v place (Gives d)) ≡ stop_at v place (Gives (with_leaf b d))
leaf_gives_stop b (Some kind) place d = refl
leaf_gives_stop b None place d = refl

pub one_answer_more : (variables : List (List ℕ)) (text : List ℕ)
    → record {
      vars = length variables + 1;
      seen = variables ++ text ∷ [];
      body =
          [];
    } ≡ blank (variables ++ text ∷ [])
one_answer_more variables text = let long : length variables + 1 ≡ length (variables ++ text ∷ []) =
    sym (length-append variables (text ∷ [])) in rw long refl

pub in_variables_acts : (o : Declared) (head : Head) (symbol : Symbol) (place : ℕ)
    (rest : List Mark) → IfSome (in_variables head symbol)
    (Acts o (InVariables head) symbol place rest)
in_variables_acts o head (s.Var text) place rest = (
  tt,
  leaf_gives_stop (headed o head no_table) _ place _
      ∙ ap (λ (d : Draft). stop_at (fault_at o (InVariables head) (s.Var text) rest) place
      (Gives (with_leaf (headed o head no_table) d))) (one_answer_more head.variables text),
)
in_variables_acts o head s.Close place rest = (tt, refl)
in_variables_acts o head _ place rest = tt

pub after_variables_acts : (o : Declared) (head : Head) (symbol : Symbol) (place : ℕ)
    (rest : List Mark) → IfSome (after_variables head symbol)
    (Acts o (AfterVariables head) symbol place rest)
after_variables_acts o head s.Equal place rest = (tt, refl)
after_variables_acts o head _ place rest = tt

abbrev pub WordActs : Declared → Head → Stack → Keyword → State → Type 0
WordActs o head stack keyword next = Settled next
    × (word_wanted (built o (Want head stack)) keyword ≡ Gives (built o next))

pub begin_word_acts : (o : Declared) (head : Head) (stack : Stack) (keyword : Keyword)
    → IfSome (begin_word head stack keyword) (WordActs o head stack keyword)
begin_word_acts o head stack k.True =
    (settled_complete head stack Truth, gives_build _ _ (complete_built o head stack Truth))
begin_word_acts o head stack k.False =
    (settled_complete head stack Falsity, gives_build _ _ (complete_built o head stack Falsity))
begin_word_acts o head stack (k.Unary op) = if_some (ltb (nesting stack) 256) _ _ (λ _. (tt, refl))
begin_word_acts o head stack _ = tt

pub begin_acts : (o : Declared) (head : Head) (stack : Stack) (symbol : Symbol) (place : ℕ)
    (rest : List Mark) → IfSome (begin head stack symbol)
    (Acts o (Want head stack) symbol place rest)
begin_acts o head stack (s.Name text) place rest = begin_word_acts o head stack (keyword_of text)
begin_acts o head stack s.Square place rest = (tt, refl)
begin_acts o head stack s.Open place rest = if_some (ltb (nesting stack) 256) _ _ (λ _. (tt, refl))
begin_acts o head stack _ place rest = tt

abbrev pub WordHad : Declared → Head → Option Stack → Level → Tree → Keyword → State → Type 0
WordHad o head outer level tree keyword next =
    Settled next × (word_had (built o (Have head outer level tree)) keyword ≡ Gives (built o next))

pub settled_want : (head : Head) (stack : Stack) → Settled (Want head stack)
settled_want head stack = tt

pub timed_acts : (o : Declared) (head : Head) (outer : Option Stack) (level : Level) (tree : Tree)
    (op : TimedOp) (left : Option (TimedOp × Tree)) → level.timed ≡ left
    → IfSome (timed_left head outer level tree op left)
    (WordHad o head outer level tree (k.Timed op))
timed_acts o head outer level tree op None e = (
  tt,
  rw e (gives_table o head _ _ (sym (reopened_table o head.variables outer (record {
    either =
        level.either;
    both = level.both;
    timed = Some (op, tree);
  })))),
)
timed_acts o head outer level tree op (Some left) e = tt

pub go_on_word_acts : (o : Declared) (head : Head) (outer : Option Stack) (level : Level)
    (tree : Tree) (keyword : Keyword)
    → IfSome (go_on_word head outer level tree keyword) (WordHad o head outer level tree keyword)
go_on_word_acts o head outer level tree (k.Timed op) =
    timed_acts o head outer level tree op level.timed refl
go_on_word_acts o head outer level tree _ = tt

pub close_acts : (o : Declared) (head : Head) (outer : Option Stack) (level : Level) (tree : Tree)
    (place : ℕ) (rest : List Mark)
    → IfSome (close head outer (disjunction_of level tree))
    (Acts o (Have head outer level tree) s.Close place rest)
close_acts o head None level tree place rest = tt
close_acts o head (Some stack) level tree place rest = (
  settled_complete head stack (Group (disjunction_of level tree)),
  gives_table o head _ _ (ap (λ (ns : List Node).
      applied (stack_places o head.variables stack) (stack_frames o head.variables stack) ns)
      (disjunction_built o head.variables (stack_nodes o head.variables stack) level tree))
      ∙ gives_build _ _ (complete_built o head stack (Group (disjunction_of level tree))),
)

abbrev pub query_with : List ℕ → ℕ → List Node → Tcq
query_with name vars nodes = record { name = name; vars = vars; nodes = nodes }

abbrev pub ended : ℕ → List Tcq → Tcq → Build
ended individuals queries q = record {
  queries = queries ++ q ∷ [];
  total =
      units individuals queries + units_of individuals q;
  name = [];
  leaf = blank [];
  table =
      no_table;
  words = [];
}

abbrev pub ended_whole : ℕ → List Tcq → Tcq → Build
ended_whole individuals queries q = record {
  queries = queries ++ q ∷ [];
  total =
      units individuals (queries ++ q ∷ []);
  name = [];
  leaf = blank [];
  table = no_table;
  words =
      [];
}

pub summed : (individuals : ℕ) (queries : List Tcq) (q : Tcq)
    → ended individuals queries q ≡ ended_whole individuals queries q
summed individuals queries q = rw (sum_by_push (units_of individuals) queries q) refl

pub too_many : (individuals : ℕ) (queries : List Tcq) (q : Tcq) → 64 < length q.nodes
    → end_verdict individuals queries q ≡ Some TooMany
too_many individuals queries q lt = rw (lt-ltb 64 (length q.nodes) lt) refl

pub ends_alike : (individuals : ℕ) (queries : List Tcq) (name : List ℕ) (vars : ℕ)
    (kept whole : List Node) (place : ℕ) → Caps kept whole
    → stop_at (end_verdict individuals queries (query_with name vars kept)) place
    (Gives (ended individuals queries (query_with name vars kept)))
    ≡ stop_at (end_verdict individuals queries (query_with name vars whole)) place
    (Gives (ended_whole individuals queries (query_with name vars whole)))
ends_alike individuals queries name vars kept whole place (inl e) =
    ap (λ (b : Build). stop_at (end_verdict individuals queries (query_with name vars kept)) place
    (Gives b)) (summed individuals queries (query_with name vars kept))
    ∙ ap (λ (ns : List Node). stop_at (end_verdict individuals queries (query_with name vars ns))
    place (Gives (ended_whole individuals queries (query_with name vars ns)))) e
ends_alike individuals queries name vars kept whole place (inr h) =
    ap (λ (v : Option QueryKind). stop_at v place
    (Gives (ended individuals queries (query_with name vars kept))))
    (too_many individuals queries (query_with name vars kept) h.0)
    ∙ ap (λ (v : Option QueryKind).
    stop_at v place (Gives (ended_whole individuals queries (query_with name vars whole))))
    (sym (too_many individuals queries (query_with name vars whole) h.1))

pub nodes_at_end : (o : Declared) (head : Head) (level : Level) (tree : Tree)
    → (query_built (built o (Have head None level tree))).nodes
    ≡ emit put o head.variables [] (disjunction_of level tree)
nodes_at_end o head level tree = disjunction_built o head.variables [] level tree

pub finish_acts : (o : Declared) (head : Head) (outer : Option Stack) (level : Level) (tree : Tree)
    (place : ℕ) (rest : List Mark)
    → IfSome (finish head outer (disjunction_of level tree))
    (Acts o (Have head outer level tree) s.Semi place rest)
finish_acts o head None level tree place rest =
    let c = length o.individuals in
    let queries = queries_said o head.front in
    let vars = length head.variables in (
      tt,
      ap (λ (ns : List Node). stop_at (end_verdict c queries (query_with head.name vars ns)) place
          (Gives (ended c queries (query_with head.name vars ns)))) (nodes_at_end o head level tree)
          ∙ ends_alike c queries head.name vars
          (emit put o head.variables [] (disjunction_of level tree))
          (table_said o head.variables (disjunction_of level tree)) place
          (table_caps o head.variables (disjunction_of level tree)),
    )
finish_acts o head (Some stack) level tree place rest = tt

pub both_acts : (o : Declared) (head : Head) (outer : Option Stack) (level : Level) (tree : Tree)
    → Gives (headed o head (both_waits (have_table o head.variables outer level tree)))
    ≡ Gives (built o (Want head (reopen outer (record {
      either = level.either;
      both =
          Some (conjunction_of level tree);
      timed = None;
    }))))
both_acts o head outer level tree =
    let vs = head.variables in
    let nodes = base_nodes o vs outer in
    let waiting : List Node → Table = λ ns. record {
      places =
          record {
            either = place_of o vs nodes level.either;
            both = Some (last_place ns);
            timed =
                None;
          };
      frames = outer_frames o vs outer;
      nodes = ns;
    } in
    gives_table o head _ _ (ap waiting (conjunction_built o vs nodes level tree)
    ∙ sym (reopened_table o vs outer (record {
      either = level.either;
      both =
          Some (conjunction_of level tree);
      timed = None;
    })))

pub either_acts : (o : Declared) (head : Head) (outer : Option Stack) (level : Level) (tree : Tree)
    → Gives (headed o head (either_waits (have_table o head.variables outer level tree)))
    ≡ Gives (built o (Want head (reopen outer (record {
      either =
          Some (disjunction_of level tree);
      both = None;
      timed = None;
    }))))
either_acts o head outer level tree =
    let vs = head.variables in
    let nodes = base_nodes o vs outer in
    let waiting : List Node → Table = λ ns. record {
      places =
          record { either = Some (last_place ns); both = None; timed = None };
      frames =
          outer_frames o vs outer;
      nodes = ns;
    } in
    gives_table o head _ _ (ap waiting (disjunction_built o vs nodes level tree)
    ∙ sym (reopened_table o vs outer (record {
      either = Some (disjunction_of level tree);
      both =
          None;
      timed = None;
    })))

pub go_on_acts : (o : Declared) (head : Head) (outer : Option Stack) (level : Level) (tree : Tree)
    (symbol : Symbol) (place : ℕ) (rest : List Mark)
    → IfSome (go_on head outer level tree symbol)
    (Acts o (Have head outer level tree) symbol place rest)
go_on_acts o head outer level tree (s.Name text) place rest =
    go_on_word_acts o head outer level tree (keyword_of text)
go_on_acts o head outer level tree s.Amp place rest = (tt, both_acts o head outer level tree)
go_on_acts o head outer level tree s.Bar place rest = (tt, either_acts o head outer level tree)
go_on_acts o head outer level tree s.Close place rest =
    close_acts o head outer level tree place rest
go_on_acts o head outer level tree s.Semi place rest =
    finish_acts o head outer level tree place rest
go_on_acts o head outer level tree _ place rest = tt
