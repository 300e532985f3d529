-- Reading a whole text.
use Rattle.std.proofs.Common.{◌≡◌, ℕ, ◌≤◌, Bool, true, false, cond, List, [], ◌∷◌, ◌++◌, length}
use Rattle.std.proofs.Common.{Option, Some, None, refl, sym, ap, subst, ◌∙◌, append_assoc, arith}
use Rattle.std.specs.Prelude.{IfSome}
use Rattle.dl_syntax.specs.Ontology.{Declared, number_of, is_declared}
use Rattle.tcq_grammar.specs.Symbols.{Symbol}
use Rattle.tcq_grammar.specs.Symbols as s
use Rattle.tcq_grammar.specs.Grammar.{Tree, File, Empty}
use Rattle.tcq_grammar.specs.Machine.{Stack, Head, Brackets, WantAtom, WantFirst, WantSecond, State}
use Rattle.tcq_grammar.specs.Machine.{Between, AfterQuery, InVariables, Have, InLeaf}
use Rattle.tcq_grammar.specs.Machine.{disjunction_of, step, run}
use Rattle.std.specs.Prelude.{Err, nat_le, nat_lt, is_some}
use Rattle.std.specs.List.{list_any}
use Rattle.std.specs.Str.{bytes_eq}
use Rattle.std.proofs.lemmas.List.{append-nil}
use Rattle.std.proofs.lemmas.List.Elements.{All-nil}
use Rattle.tcq_syntax.specs.Tcq.{Tcq}
use Rattle.tcq_syntax.specs.Sizes.{units, most_units}
use Rattle.tcq_grammar.specs.Grammar.{IsFile}
use Rattle.tcq_grammar.specs.Symbols.{symbol}
use Rattle.tcq_grammar.specs.Texts.{Mark, marks, marks_of, symbols}
use Rattle.tcq_grammar.specs.Control.{Control, idle, control_step}
use Rattle.tcq_grammar.specs.declared.checker.Mode.TheVariants as m
use Rattle.tcq_grammar.proofs.Erasure.{erase, erased, erase_step}
use Rattle.tcq_grammar.proofs.Language.{start, file_accepted, accepted}
use Rattle.tcq_grammar.specs.Fault.{StopsAt}
use Rattle.tcq_grammar.proofs.Complete.{run-append}
use Rattle.tcq_grammar.proofs.Whole.{HasRead, stops, stops_at_fault}
use Rattle.text_scan.specs.declared.Token.{Token}
use Rattle.text_scan.specs.declared.Next.{Next}
use Rattle.text_scan.specs.declared.Next.TheVariants as next
use Rattle.text_scan.specs.Lexing.{lexed_from, IsNext}
use Rattle.tcq_reader.specs.declared.faults.QueryKind.{QueryKind}
use Rattle.tcq_reader.specs.declared.faults.QueryKind.TheVariants as kinds
use Rattle.tcq_reader.specs.declared.faults.Stop.{Stop}
use Rattle.tcq_reader.specs.declared.faults.Stop.TheVariants as stop
use Rattle.tcq_reader.specs.Names.{verdict_of_number, verdict_of_individual}
use Rattle.tcq_reader.specs.Leaves.{known_as}
use Rattle.tcq_reader.specs.Meaning.{queries_said, query_said}
use Rattle.tcq_reader.specs.Faults.{has_too_many_nodes, kind_ahead, name_fault, variable_fault}
use Rattle.tcq_reader.specs.Faults.{predicate_fault, term_fault, whole_fault, end_fault, fault_at}
use Rattle.tcq_reader.specs.Faults.{fault_or, first_fault}
use Rattle.tcq_reader.specs.Reading.{most_bytes, line_of, fault_of, fault_in, SaysQueries, IsWrong}
use Rattle.tcq_reader.specs.Reading.{IsFault, Reads}
use Rattle.tcq_reader.specs.Drafting.{Outcome, Gives, Stops, Free, GivesTo, StopsWith, Answers}
use Rattle.tcq_reader.specs.Acting.{Build, nothing_built, acted, IsSound, EndsAt}
use Rattle.tcq_reader.proofs.Following.{at, base, Follows, Moves, Advances}
use Rattle.tcq_reader.proofs.Acts.{token_advances, follows_start}
use Rattle.tcq_reader.proofs.KeepsLemmas.{NodeFits, Keeps, IfGives, token_keeps, is_sound, ends_at}

-- ---- the kinds of faults that symbols have

abbrev Named : QueryKind → Type 0
Named kinds.BadQuery = ⊥
Named kinds.TooLong = ⊥
Named _ = Unit {0}

named_if : (b : Bool) (v w : Option QueryKind) → IfSome v Named → IfSome w Named
    → IfSome (cond b v w) Named
named_if true v w h k = h
named_if false v w h k = k

named_number : (found : Option ℕ) (known : Bool) → IfSome (verdict_of_number found known) Named
named_number (Some n) known = tt
named_number None known = named_if known (Some kinds.WrongKind) (Some kinds.Unknown) tt tt

named_individual : (found : Option ℕ) → IfSome (verdict_of_individual found) Named
named_individual (Some n) = tt
named_individual None = tt

named_name : (o : Declared) (front : File) (symbol : Symbol)
    → IfSome (name_fault o front symbol) Named
named_name o front (s.Name text) =
    named_if (nat_le 16 (length (queries_said o front))) (Some kinds.TooMany) _ tt
    (named_if (list_any (λ q. bytes_eq q.name text) (queries_said o front))
    (Some kinds.NameTwice) None tt tt)
named_name o front _ = tt

named_variable : (variables : List (List ℕ)) (symbol : Symbol)
    → IfSome (variable_fault variables symbol) Named
named_variable variables (s.Var text) =
    named_if (nat_le 4 (length variables)) (Some kinds.TooMany) _ tt
    (named_if (is_some (known_as variables text)) (Some kinds.NameTwice) None tt tt)
named_variable variables _ = tt

named_predicate : (o : Declared) (before : ℕ) (symbol : Symbol) (rest : List Mark)
    → IfSome (predicate_fault o before symbol rest) Named
named_predicate o before (s.Name text) rest =
    named_if (nat_le 8 before) (Some kinds.TooMany) _ tt
    (named_number (number_of (kind_ahead rest) o text) (is_declared o text))
named_predicate o before _ rest = tt

named_term : (o : Declared) (symbol : Symbol) → IfSome (term_fault o symbol) Named
named_term o (s.Name text) = named_individual _
named_term o _ = tt

named_whole : (o : Declared) (head : Head) (tree : Tree) (outer : Option Stack)
    → IfSome (whole_fault o head tree outer) Named
named_whole o head tree None =
    let q = query_said o head.name head.variables tree in
    named_if (has_too_many_nodes q) (Some kinds.TooMany) _ tt
    (named_if (nat_lt most_units (units (length o.individuals)
    (queries_said o head.front ++ q ∷ []))) _ None tt tt)
named_whole o head tree (Some stack) = tt

named_end : (o : Declared) (head : Head) (outer : Option Stack) (tree : Tree) (symbol : Symbol)
    → IfSome (end_fault o head outer tree symbol) Named
named_end o head outer tree s.Semi = named_whole o head tree outer
named_end o head outer tree _ = tt

named_inside : (o : Declared) (head : Head) (stack : Stack) (brackets : Brackets) (symbol : Symbol)
    (rest : List Mark) → IfSome (fault_at o (InLeaf head stack brackets) symbol rest) Named
named_inside o head stack (WantAtom front) symbol rest =
    named_predicate o (length front) symbol rest
named_inside o head stack (WantFirst front p) symbol rest = named_term o symbol
named_inside o head stack (WantSecond front p x) symbol rest = named_term o symbol
named_inside o head stack _ symbol rest = tt

named_at : (o : Declared) (state : State) (symbol : Symbol) (rest : List Mark)
    → IfSome (fault_at o state symbol rest) Named
named_at o (AfterQuery front) symbol rest = named_name o front symbol
named_at o (InVariables head) symbol rest = named_variable head.variables symbol
named_at o (Have head outer level tree) symbol rest =
    named_end o head outer (disjunction_of level tree) symbol
named_at o (InLeaf head stack brackets) symbol rest = named_inside o head stack brackets symbol rest
named_at o _ symbol rest = tt

NamedFault : ℕ × QueryKind → Type 0
NamedFault f = Named f.1

named_or : (v : Option QueryKind) (place : ℕ) (later : Option (ℕ × QueryKind)) → IfSome v Named
    → IfSome later NamedFault → IfSome (fault_or v place later) NamedFault
unfolding NamedFault
named_or (Some kind) place later h k = h
named_or None place later h k = k

named_first : (o : Declared) (state : Option State) (rest : List Mark)
    → IfSome (first_fault o state rest) NamedFault
unfolding first_fault
named_first o state [] = tt
named_first o None (mark ∷ rest) = tt
named_first o (Some state) (mark ∷ rest) =
    named_or (fault_at o state mark.symbol rest) mark.start _ (named_at o state mark.symbol rest)
    (named_first o (step state mark.symbol) rest)

if_some_at : (P : ℕ × QueryKind → Type 0) (r : Option (ℕ × QueryKind)) (f : ℕ × QueryKind)
    → r ≡ Some f → IfSome r P → P f
if_some_at P r f e h = subst (λ (x : Option (ℕ × QueryKind)). IfSome x P) e h

wrong_is_fault : (o : Declared) (text : List ℕ) (line : ℕ) (kind : QueryKind) → Named kind
    → IsWrong o text line kind → IsFault o text line kind
wrong_is_fault o text line kinds.BadQuery n h = absurd n
wrong_is_fault o text line kinds.TooLong n h = absurd n
wrong_is_fault o text line kinds.NameTwice n h = h
wrong_is_fault o text line kinds.Unknown n h = h
wrong_is_fault o text line kinds.WrongKind n h = h
wrong_is_fault o text line kinds.Undeclared n h = h
wrong_is_fault o text line kinds.TooMany n h = h
wrong_is_fault o text line (kinds.TooLarge total) n h = h

pub is_fault : (o : Declared) (text : List ℕ) (place : ℕ) (kind : QueryKind)
    → length text ≤ most_bytes → IsFile (symbols (marks text))
    → fault_in o text ≡ Some (place, kind)
    → IsFault o text (line_of text place) kind
unfolding NamedFault
is_fault o text place kind short file first =
    let named : Named kind =
    if_some_at NamedFault (fault_in o text) (place, kind) first
    (named_first o (Some (Between Empty)) (marks text)) in
    wrong_is_fault o text (line_of text place) kind named (record {
      short = short;
      file =
          file;
      place = place;
      first = first;
      line_is = refl;
    })

-- ---- the loop

-- what is read and built of a text, and the rest
pub record Reading (o : Declared) (control : Control) (b : Build) (rest : List Mark)
    (text : List ℕ) : Type 0 where
  pub read : HasRead control rest (marks text)
  pub pending : List Mark
  pub follows : Follows o read.stands.state pending b
  pub keeps : Keeps b
  pub first : fault_in o text ≡ first_fault o (Some (base read.stands.state)) (pending ++ rest)

keeps_nothing : Keeps nothing_built
keeps_nothing = record {
  few_answers = omega arith;
  few_atoms = omega arith;
  few_units =
      omega arith;
  leaves = All-nil (NodeFits 0);
}

none_run : run start [] ≡ Some (Between Empty)
unfolding run
none_run = refl

pub reading_begun : (o : Declared) (control : Control) (b : Build) (text : List ℕ)
    → control ≡ idle m.Between → b ≡ nothing_built → Reading o control b (marks text) text
reading_begun o control b text e f = record {
  read = record {
    front = [];
    parts = refl;
    stands =
        record { state = Between Empty; read = none_run; control_is = e };
  };
  pending = [];
  follows = follows_start o b f;
  keeps = subst Keeps (sym f) keeps_nothing;
  first = refl;
}

-- ---- one more token

record Went (state : State) (symbol : Symbol) (new : Control) : Type 0 where
  pub next : State
  pub steps : step state symbol ≡ Some next
  pub new_is : new ≡ erase next

went_to : (state : State) (symbol : Symbol) (new : Control) (r : Option State)
    → step state symbol ≡ r → Some new ≡ erased r → Went state symbol new
went_to state symbol new None e f = absurd cc
went_to state symbol new (Some next) e f = record { next = next; steps = e; new_is = cc }

went : (state : State) (symbol : Symbol) (control new : Control) → control ≡ erase state
    → control_step control symbol ≡ Some new → Went state symbol new
went state symbol control new e f =
    let erases : control_step control symbol ≡ erased (step state symbol) =
    rw e (erase_step state symbol) in
    went_to state symbol new (step state symbol) refl (sym f ∙ erases)

symbols-append : (a b : List Mark) → symbols (a ++ b) ≡ symbols a ++ symbols b
symbols-append [] b = refl
symbols-append (mark ∷ a) b = ap (λ (ss : List Symbol). mark.symbol ∷ ss) (symbols-append a b)

run_more : (front : List Mark) (symbol : Symbol) (place : ℕ) (state next : State)
    → run start (symbols front) ≡ Some state → step state symbol ≡ Some next
    → run start (symbols (front ++ at symbol place ∷ [])) ≡ Some next
unfolding run
run_more front symbol place state next e f =
    rw (symbols-append front (at symbol place ∷ []))
    (run-append start (symbols front) (symbol ∷ []) ∙ ap (λ (now : Option State).
    run now (symbol ∷ [])) e ∙ f)

record Moved (o : Declared) (next : State) (before : Option (ℕ
    × QueryKind)) (rest : List Mark) (b : Build) : Type 0 where
  pub moves : Moves o next before rest b
  pub keeps : Keeps b

moved_by : (o : Declared) (next : State) (before : Option (ℕ
    × QueryKind)) (rest : List Mark) (outcome : Outcome Build) (b : Build)
    → Advances o next before rest outcome → IfGives Keeps outcome → GivesTo outcome b
    → Moved o next before rest b
moved_by o next before rest (Gives now) b h k e =
    record { moves = subst (Moves o next before rest) (sym e) h; keeps = subst Keeps (sym e) k }
moved_by o next before rest (Stops place kind) b h k e = absurd e
moved_by o next before rest Free b h k e = absurd h

pub reading_more : (o : Declared) (control new : Control) (b now : Build) (symbol : Symbol)
    (place : ℕ) (rest : List Mark) (text : List ℕ)
    → Reading o control b (at symbol place ∷ rest) text
    → control_step control symbol ≡ Some new
    → GivesTo (acted o control.mode b (at symbol place)) now → Reading o new now rest text
reading_more o control new b now symbol place rest text h e gives =
    let stands = h.read.stands in
    let state = stands.state in
    let w = went state symbol control new stands.control_is e in
    let here : GivesTo (acted o (erase state).mode b (at symbol place)) now =
    subst (λ (c : Control). GivesTo (acted o c.mode b (at symbol place)) now) stands.control_is
    gives in
    let m = moved_by o w.next (first_fault o (Some (base state))
    (h.pending ++ at symbol place ∷ rest)) rest (acted o (erase state).mode b (at symbol place))
    now
    (token_advances o state w.next h.pending b symbol place rest h.follows w.steps)
    (token_keeps o state h.pending b (at symbol place) h.follows h.keeps) here in
    record {
      read = record {
        front = h.read.front ++ at symbol place ∷ [];
        parts = h.read.parts ∙ sym (append_assoc h.read.front (at symbol place ∷ []) rest);
        stands = record {
          state = w.next;
          read =
              run_more h.read.front symbol place state w.next stands.read w.steps;
          control_is =
              w.new_is;
        };
      };
      pending = m.moves.pending;
      follows = m.moves.follows;
      keeps = m.keeps;
      first = h.first ∙ m.moves.same;
    }

stopped_by : (o : Declared) (next : State) (before : Option (ℕ
    × QueryKind)) (rest : List Mark) (outcome : Outcome Build) (place : ℕ) (kind : QueryKind)
    → Advances o next before rest outcome → StopsWith outcome place kind
    → before ≡ Some (place, kind)
stopped_by o next before rest (Gives now) place kind h e = absurd e
stopped_by o next before rest (Stops p what) place kind h e = rw (e.0, e.1) h
stopped_by o next before rest Free place kind h e = absurd h

pub reading_stops : (o : Declared) (control new : Control) (b : Build) (symbol : Symbol) (place : ℕ)
    (rest : List Mark) (text : List ℕ) (where_ : ℕ) (kind : QueryKind)
    → Reading o control b (at symbol place ∷ rest) text → control_step control symbol ≡ Some new
    → StopsWith (acted o control.mode b (at symbol place)) where_ kind
    → fault_in o text ≡ Some (where_, kind)
reading_stops o control new b symbol place rest text where_ kind h e stops =
    let stands = h.read.stands in
    let state = stands.state in
    let w = went state symbol control new stands.control_is e in
    let here : StopsWith (acted o (erase state).mode b (at symbol place)) where_ kind =
    subst (λ (c : Control). StopsWith (acted o c.mode b (at symbol place)) where_ kind)
    stands.control_is stops in
    h.first ∙ stopped_by o w.next _ rest (acted o (erase state).mode b (at symbol place)) where_
    kind (token_advances o state w.next h.pending b symbol place rest h.follows w.steps) here

-- what the builder asks for
pub reading_sound : (o : Declared) (control : Control) (b : Build) (rest : List Mark)
    (text : List ℕ) → Reading o control b rest text → IsSound (length o.individuals) b
reading_sound o control b rest text h = is_sound o h.read.stands.state h.pending b h.follows h.keeps

pub reading_ends_at : (o : Declared) (control new : Control) (b : Build) (symbol : Symbol)
    (rest : List Mark) (text : List ℕ) → Reading o control b rest text
    → control_step control symbol ≡ Some new
    → EndsAt control.mode symbol b
reading_ends_at o control new b symbol rest text h e =
    let stands = h.read.stands in
    let w = went stands.state symbol control new stands.control_is e in
    subst (λ (c : Control). EndsAt c.mode symbol b) (sym stands.control_is)
    (ends_at o stands.state w.next h.pending b symbol h.follows h.keeps w.steps)

-- ---- the end

-- a file stops nowhere
pub file_not_stopped : (text : List Mark) (place : ℕ) → StopsAt text place → IsFile (symbols text)
    → ⊥
file_not_stopped text place h file =
    let whole : symbols text ≡ (symbols h.front ++ h.symbol ∷ []) ++ symbols h.rest =
    ap symbols h.parts ∙ symbols-append h.front (at h.symbol place ∷ h.rest) ∙ sym
    (append_assoc (symbols h.front) (h.symbol ∷ []) (symbols h.rest)) in
    h.stops (symbols h.rest, subst IsFile whole file)

nothing_left : (o : Declared) (file : File) (pending : List Mark) → pending ≡ []
    → first_fault o (Some (Between file)) (pending ++ []) ≡ None
unfolding first_fault
nothing_left o file pending e = rw e refl

ends_as : (o : Declared) (file : File) (state : State) (pending : List Mark) (b : Build)
    → state ≡ Between file → Follows o state pending b
    → (b.queries ≡ queries_said o file) × (first_fault o (Some (base state)) (pending ++ []) ≡ None)
ends_as o file state pending b e h =
    let follows : Follows o (Between file) pending b =
    subst (λ (st : State). Follows o st pending b) e h in (
      ap (λ (x : Build). x.queries) follows.build_is,
      ap (λ (st : State). first_fault o (Some (base st)) (pending ++ [])) e ∙ nothing_left o file
          pending follows.pends.0,
    )

pub reading_ends : (o : Declared) (control : Control) (b : Build) (text : List ℕ)
    (queries : List Tcq) → Reading o control b [] text → IsFile (symbols (marks text))
    → length text ≤ most_bytes → queries ≡ b.queries
    → SaysQueries o text queries
reading_ends o control b text queries h file short same =
    let a = file_accepted (symbols (marks text)) file in
    let all : h.read.front ≡ marks text = sym (append-nil h.read.front) ∙ sym h.read.parts in
    let there : run start (symbols (marks text)) ≡ Some h.read.stands.state =
    subst (λ (front : List Mark). run start (symbols front)
    ≡ Some h.read.stands.state) all h.read.stands.read in
    let state : h.read.stands.state ≡ Between a.0 =
    let e : Some h.read.stands.state ≡ Some (Between a.0) = sym there ∙ a.1 in cc in
    let says = accepted (symbols (marks text)) a.0 a.1 in
    let end = ends_as o a.0 h.read.stands.state h.pending b state h.follows in
    record {
      short = short;
      file = a.0;
      fits = says.0;
      spelled = says.1;
      no_fault = h.first ∙ end.1;
      says = same ∙ end.0;
    }

-- what the text goes on with, in place of the rest
pub reading_rest : (o : Declared) (control : Control) (b : Build) (before rest : List Mark)
    (text : List ℕ) → before ≡ rest → Reading o control b before text
    → Reading o control b rest text
reading_rest o control b before rest text e h =
    subst (λ (marks : List Mark). Reading o control b marks text) e h

-- behind the last token of a file nothing is at fault
pub reading_done : (o : Declared) (control : Control) (b : Build) (text : List ℕ)
    (queries : List Tcq) (place : ℕ) (r : Next) → IsNext text place r
    → ((token : Token) → r ≡ next.Token token → ⊥)
    → Reading o control b (marks_of (lexed_from text place)) text → IsFile (symbols (marks text))
    → length text ≤ most_bytes → queries ≡ b.queries → SaysQueries o text queries
reading_done o control b text queries place (next.Token token) is never h file short same =
    absurd (never token refl)
reading_done o control b text queries place (next.Fault fault) is never h file short same =
    let here = reading_rest o control b (marks_of (lexed_from text place)) (at s.Fault fault ∷ [])
    text (ap marks_of is) h in
    absurd (file_not_stopped (marks text) fault
    (stops_at_fault control fault (marks text) here.read) file)
reading_done o control b text queries place next.End is never h file short same =
    reading_ends o control b text queries
    (reading_rest o control b (marks_of (lexed_from text place)) [] text (ap marks_of is) h)
    file short same

-- of a file no token is refused
pub never_refused : (o : Declared) (control : Control) (b : Build) (symbol : Symbol) (place : ℕ)
    (rest : List Mark) (text : List ℕ) → Reading o control b (at symbol place ∷ rest) text
    → IsFile (symbols (marks text))
    → control_step control symbol ≡ None → ⊥
never_refused o control b symbol place rest text h file e =
    file_not_stopped (marks text) place (stops control (at symbol place) rest (marks text) h.read e)
    file

-- what the builder stops at is the first fault
pub stop_is_fault : (o : Declared) (control new : Control) (b now : Build) (symbol : Symbol)
    (place : ℕ) (rest : List Mark) (text : List ℕ) (refusal : Stop)
    → Reading o control b (at symbol place ∷ rest) text
    → control_step control symbol ≡ Some new
    → Answers {A = Unit {0}} (acted o control.mode b (at symbol place)) (Err refusal) now
    → length text ≤ most_bytes → IsFile (symbols (marks text))
    → Reads o text (Err (fault_of text refusal))
stop_is_fault o control new b now symbol place rest text (stop.At where_ kind) h e stops short
    file =
    is_fault o text where_ kind short file
    (reading_stops o control new b symbol place rest text where_ kind h e stops)
stop_is_fault o control new b now symbol place rest text stop.Memory h e stops short file = tt
