-- The value of a line of the usual form, and its facts.
use Rattle.std.proofs.Common.{◌≡◌, ℕ, ◌-◌, ◌<◌, ◌≤◌, true, false, List, [], ◌∷◌, ◌++◌, length, refl}
use Rattle.std.proofs.Common.{sym, ap, ◌∙◌, arith, cond}
use Rattle.std.specs.Prelude.{◌<◌, ◌^◌, ◌==◌, nat_lt, slice_index, Some, codes, option_and_then}
use Rattle.std.specs.Prelude.{Option, None, is_some}
use Rattle.std.specs.Option.{option_map_or}
use Rattle.std.specs.List.{All, list_all}
use Rattle.std.specs.Str.{is_utf8}
use Rattle.std.proofs.lemmas.List.Elements.{All-head, All-tail}
use Rattle.json.specs.Token as json
use Rattle.json.specs.Json as tree
use Rattle.json.specs.Json.{Json, parse_map, items, members, value, if_last}
use Rattle.json.proofs.Grammar.{value_is, value-begin_array, value-begin_object, items_more}
use Rattle.json.proofs.Grammar.{items_end, members_more, members_end}
use Rattle.fast_float.specs.Text.{Parts, scan, digits_of, IsInteger}
use Rattle.serde_json.specs.Data.{unsigned, Data, string, array, object, Items, no_items, item}
use Rattle.serde_json.specs.Data.{Members, no_members, put}
use Rattle.serde_json.specs.Find.{get_member, get, as_array}
use Rattle.json.specs.Lex.{tokens}
use Rattle.text_scan.specs.Bytes.{is_blank}
use Rattle.serde_json.specs.Read.{number_of, is_integer, read, of_json, of_items, of_members}
use Rattle.serde_json.proofs.Views.{get_member-put, get_member-put_other}
use Rattle.snapshot_reader.specs.Written.{Written, unary, binary, writes, fact_in, facts_in}
use Rattle.snapshot_reader.specs.Written.{facts_of, json_writes, ◌>>=◌, malformed, declaring}
use Rattle.snapshot_reader.specs.Written.{named_in, data_writes}
use Rattle.snapshot_reader.specs.Tokens.{fact_before, facts_before, IsSpelled, value_in, Passed}
use Rattle.snapshot_reader.specs.Tokens.{IsPassed, members_before, data_of}

-- ---- lists that grow at their ends

pub one_more_fact : (done : List Written) (w : Written) (rest : List json.Token)
    → facts_before (done ++ w ∷ []) rest ≡ facts_before done (json.begin_array ∷ fact_before w rest)
one_more_fact [] w rest = refl
one_more_fact (first ∷ done) w rest =
    ap (λ ts. json.begin_array ∷ fact_before first ts) (one_more_fact done w rest)

pub one_more_member : (done : List Passed) (m : Passed) (rest : List json.Token)
    → members_before (done ++ m ∷ []) rest ≡ members_before done (json.key m.key ∷ m.token ∷ rest)
one_more_member [] m rest = refl
one_more_member (first ∷ done) m rest =
    ap (λ ts. json.key first.key ∷ first.token ∷ ts) (one_more_member done m rest)

-- ---- a fact

abbrev texts_of : Written → Items
texts_of (unary p a) = item (string p) (item (string a) no_items)
texts_of (binary p a b) = item (string p) (item (string a) (item (string b) no_items))

abbrev tree_of : Written → tree.Items
tree_of (unary p a) = tree.item (tree.string p) (tree.item (tree.string a) tree.no_items)
tree_of (binary p a b) = tree.item (tree.string p)
    (tree.item (tree.string a) (tree.item (tree.string b) tree.no_items))

text_item : (depth n : ℕ) (s : List ℕ) (rest : List json.Token) → 0 < n
    → items (value depth) n (json.string s ∷ rest)
    ≡ parse_map (tree.item (tree.string s)) (items (value depth) (n - 1) rest)
text_item depth n s rest some =
    items_more (value depth) n (json.string s ∷ rest) rest (tree.string s) some refl
    (value_is depth (json.string s ∷ rest))

last_item : (depth n : ℕ) (rest : List json.Token) → length rest < n
    → items (value depth) n (json.end_array ∷ rest) ≡ Some (tree.no_items, rest)
last_item depth n rest enough =
    items_end (value depth) n (json.end_array ∷ rest) rest (omega (arith, enough)) refl

fact_items : (depth n : ℕ) (w : Written) (rest : List json.Token) → length (fact_before w rest) ≤ n
    → items (value depth) n (fact_before w rest) ≡ Some (tree_of w, rest)
fact_items depth n (unary p a) rest enough =
    text_item depth n p _ (omega arith) ∙ ap (parse_map (tree.item (tree.string p)))
    (text_item depth (n - 1) a _ (omega arith) ∙ ap (parse_map (tree.item (tree.string a)))
    (last_item depth (n - 1 - 1) rest (omega arith)))
fact_items depth n (binary p a b) rest enough =
    text_item depth n p _ (omega arith) ∙ ap (parse_map (tree.item (tree.string p)))
    (text_item depth (n - 1) a _ (omega arith) ∙ ap (parse_map (tree.item (tree.string a)))
    (text_item depth (n - 1 - 1) b _ (omega arith) ∙ ap (parse_map (tree.item (tree.string b)))
    (last_item depth (n - 1 - 1 - 1) rest (omega arith))))

fact_read : (depth : ℕ) (w : Written) (rest : List json.Token) → 0 < depth
    → value depth (json.begin_array ∷ fact_before w rest) ≡ Some (tree.array (tree_of w), rest)
fact_read depth w rest deep =
    let ts = fact_before w rest in
    value-begin_array depth ts deep ∙ ap (parse_map tree.array)
    (fact_items (depth - 1) (length ts) w rest (omega arith))

longer : (w : Written) (rest : List json.Token) → length rest < length (fact_before w rest)
longer (unary p a) rest = omega arith
longer (binary p a b) rest = omega arith

-- ---- a list of facts

abbrev lists_of : List Written → Items
lists_of [] = no_items
lists_of (w ∷ ws) = item (array (texts_of w)) (lists_of ws)

abbrev trees_of : List Written → tree.Items
trees_of [] = tree.no_items
trees_of (w ∷ ws) = tree.item (tree.array (tree_of w)) (trees_of ws)

facts_read : (depth n : ℕ) (ws : List Written) (rest : List json.Token) → 0 < depth
    → length (facts_before ws (json.end_array ∷ rest)) ≤ n
    → items (value depth) n (facts_before ws (json.end_array ∷ rest)) ≡ Some (trees_of ws, rest)
facts_read depth n [] rest deep enough = last_item depth n rest (omega arith)
facts_read depth n (w ∷ ws) rest deep enough =
    let more = facts_before ws (json.end_array ∷ rest) in
    items_more (value depth) n (json.begin_array ∷ fact_before w more) more (tree.array (tree_of w))
    (omega arith) refl (fact_read depth w more deep)
    ∙ ap (parse_map (tree.item (tree.array (tree_of w))))
    (facts_read depth (n - 1) ws rest deep (omega (arith, longer w more)))

list_read : (depth : ℕ) (ws : List Written) (rest : List json.Token) → 1 < depth
    → value depth (json.begin_array ∷ facts_before ws (json.end_array ∷ rest))
    ≡ Some (tree.array (trees_of ws), rest)
list_read depth ws rest deep =
    let more = facts_before ws (json.end_array ∷ rest) in
    value-begin_array depth more (omega arith) ∙ ap (parse_map tree.array)
    (facts_read (depth - 1) (length more) ws rest (omega arith) (omega arith))

list_longer : (ws : List Written) (rest : List json.Token)
    → length rest < length (facts_before ws (json.end_array ∷ rest))
list_longer [] rest = omega arith
list_longer (w ∷ ws) rest =
    omega (arith, longer w (facts_before ws (json.end_array ∷ rest)), list_longer ws rest)

one_list : (w : Written) → of_json (tree.array (tree_of w)) ≡ Some (array (texts_of w))
one_list (unary p a) = refl
one_list (binary p a b) = refl

all_lists : (ws : List Written) → of_items (trees_of ws) ≡ Some (lists_of ws)
all_lists [] = refl
all_lists (w ∷ ws) = rw (one_list w, all_lists ws) refl

one_fact : (w : Written) → IsSpelled w → fact_in (array (texts_of w)) ≡ Some w
one_fact (unary p a) named = rw (named.0, named.1) refl
one_fact (binary p a b) named = rw (named.0, named.1, named.2) refl

all_facts : (ws : List Written) → All IsSpelled ws → facts_in (lists_of ws) ≡ Some ws
all_facts [] named = refl
all_facts (w ∷ ws) named =
    rw (one_fact w (All-head IsSpelled w ws named), all_facts ws (All-tail IsSpelled w ws named))
    refl

-- ---- members that are passed over

-- an integer of 64 bits has a value
pub natural_read : (s : List ℕ) (p : Parts) → (slice_index s 0 == 45) ≡ false → p ≡ scan s
    → IsInteger p → digits_of p < 2 ^ 64 → number_of s ≡ Some (unsigned (digits_of p))
unfolding number_of
natural_read s p unsigned_text is whole small =
    let integer : is_integer p ≡ true = grind (arith, whole) in
    let fits : nat_lt (digits_of p) (2 ^ 64) ≡ true = grind (arith, small) in
    rw (unsigned_text, ← is, integer, fits) refl

abbrev token_tree : json.Token → Json
token_tree (json.string s) = tree.string s
token_tree (json.number s) = tree.number s
token_tree (json.boolean b) = tree.boolean b
token_tree _ = tree.null

token_read : (depth : ℕ) (t : json.Token) (rest : List json.Token) (d : Data) → value_in t ≡ Some d
    → (value depth (t ∷ rest) ≡ Some (token_tree t, rest)) × (of_json (token_tree t) ≡ Some d)
token_read depth json.begin_object rest d is = absurd cc
token_read depth json.end_object rest d is = absurd cc
token_read depth json.begin_array rest d is = absurd cc
token_read depth json.end_array rest d is = absurd cc
token_read depth (json.key s) rest d is = absurd cc
token_read depth (json.string s) rest d is = (value_is depth (json.string s ∷ rest), is)
token_read depth (json.number s) rest d is = (value_is depth (json.number s ∷ rest), is)
token_read depth (json.boolean b) rest d is = (value_is depth (json.boolean b ∷ rest), is)
token_read depth json.null rest d is = (value_is depth (json.null ∷ rest), is)
token_read depth json.bad rest d is = absurd cc

abbrev passed_tree : List Passed → tree.Members → tree.Members
passed_tree [] more = more
passed_tree (m ∷ ms) more = tree.member m.key (token_tree m.token) (passed_tree ms more)

abbrev with_passed : List Passed → Members → Members
with_passed [] found = found
with_passed (m ∷ ms) found = with_passed ms (put m.key m.meaning found)

members_passed : (depth n : ℕ) (ms : List Passed) (rest : List json.Token) (more : tree.Members)
    → length (members_before ms rest) ≤ n → All IsPassed ms
    → ((turns : ℕ) → length rest ≤ turns → members (value depth) turns rest ≡ Some (more, []))
    → members (value depth) n (members_before ms rest) ≡ Some (passed_tree ms more, [])
members_passed depth n [] rest more enough passed go_on = go_on n enough
members_passed depth n (m ∷ ms) rest more enough passed go_on =
    let later = members_before ms rest in
    members_more (value depth) n m.key (json.key m.key ∷ m.token ∷ later) (m.token ∷ later) later
    (token_tree m.token) (omega arith) refl
    (token_read depth m.token later m.meaning (All-head IsPassed m ms passed).1).0
    ∙ ap (parse_map (tree.member m.key (token_tree m.token)))
    (members_passed depth (n - 1) ms rest more (omega arith) (All-tail IsPassed m ms passed)
    go_on)

meaning_passed : (ms : List Passed) (more : tree.Members) (found : Members) → All IsPassed ms
    → of_members (passed_tree ms more) found ≡ of_members more (with_passed ms found)
meaning_passed [] more found passed = refl
meaning_passed (m ∷ ms) more found passed =
    rw (token_read 0 m.token [] m.meaning (All-head IsPassed m ms passed).1).1
    (meaning_passed ms more (put m.key m.meaning found) (All-tail IsPassed m ms passed))

kept : (ms : List Passed) (found : Members) → All IsPassed ms
    → get_member (codes "facts") (with_passed ms found) ≡ get_member (codes "facts") found
kept [] found passed = refl
kept (m ∷ ms) found passed =
    kept ms (put m.key m.meaning found) (All-tail IsPassed m ms passed) ∙ get_member-put_other
    (codes "facts") m.key m.meaning found (λ h. (All-head IsPassed m ms passed).0 (sym h))

-- ---- the whole line

abbrev tail_tokens : List Passed → List json.Token
tail_tokens after = members_before after (json.end_object ∷ [])

abbrev facts_tokens : List Written → List Passed → List json.Token
facts_tokens ws after = json.key (codes "facts") ∷ json.begin_array
    ∷ facts_before ws (json.end_array ∷ tail_tokens after)

abbrev pub line_tokens : List Passed → List Written → List Passed → List json.Token
line_tokens before ws after = json.begin_object ∷ members_before before (facts_tokens ws after)

abbrev facts_tree : List Written → List Passed → tree.Members
facts_tree ws after = tree.member (codes "facts") (tree.array (trees_of ws))
    (passed_tree after tree.no_members)

tail_read : (depth n : ℕ) (after : List Passed) → length (tail_tokens after) ≤ n
    → All IsPassed after → members (value depth) n (tail_tokens after)
    ≡ Some (passed_tree after tree.no_members, [])
tail_read depth n after enough passed =
    members_passed depth n after (json.end_object ∷ []) tree.no_members enough passed (λ turns some.
    members_end (value depth) turns (json.end_object ∷ []) [] some refl)

facts_tail_read : (depth n : ℕ) (ws : List Written) (after : List Passed) → 1 < depth
    → length (facts_tokens ws after) ≤ n → All IsPassed after
    → members (value depth) n (facts_tokens ws after) ≡ Some (facts_tree ws after, [])
facts_tail_read depth n ws after deep enough passed =
    let tail = tail_tokens after in
    let list = json.begin_array ∷ facts_before ws (json.end_array ∷ tail) in
    members_more (value depth) n (codes "facts") (facts_tokens ws after) list tail
    (tree.array (trees_of ws)) (omega arith) refl (list_read depth ws tail deep)
    ∙ ap (parse_map (tree.member (codes "facts") (tree.array (trees_of ws))))
    (tail_read depth (n - 1) after (omega (arith, list_longer ws tail)) passed)

line_read : (depth : ℕ) (before : List Passed) (ws : List Written) (after : List Passed) → 2 < depth
    → All IsPassed before → All IsPassed after
    → value depth (line_tokens before ws after)
    ≡ Some (tree.object (passed_tree before (facts_tree ws after)), [])
line_read depth before ws after deep is_before is_after =
    let whole = members_before before (facts_tokens ws after) in
    value-begin_object depth whole (omega arith) ∙ ap (parse_map tree.object)
    (members_passed (depth - 1) (length whole) before (facts_tokens ws after) (facts_tree ws after)
    (omega arith) is_before (λ turns enough.
    facts_tail_read (depth - 1) turns ws after (omega arith) enough is_after))

abbrev found_in : List Passed → List Written → List Passed → Members
found_in before ws after =
    with_passed after (put (codes "facts") (array (lists_of ws)) (with_passed before no_members))

line_means : (before : List Passed) (ws : List Written) (after : List Passed) → All IsPassed before
    → All IsPassed after
    → of_json (tree.object (passed_tree before (facts_tree ws after)))
    ≡ Some (object (found_in before ws after))
line_means before ws after is_before is_after =
    let old = with_passed before no_members in
    let new = put (codes "facts") (array (lists_of ws)) old in
    let first = meaning_passed before (facts_tree ws after) no_members is_before in
    let last = meaning_passed after tree.no_members new is_after in
    rw (first, all_lists ws, last) refl

-- a line of the usual form has its facts
pub line_facts : (ts : List json.Token) (before : List Passed) (ws : List Written)
    (after : List Passed) → ts ≡ line_tokens before ws after
    → All IsPassed before → All IsSpelled ws → All IsPassed after
    → (data_of ts >>= facts_of) ≡ Some ws
line_facts ts before ws after is is_before named is_after =
    let found = found_in before ws after in
    let new = put (codes "facts") (array (lists_of ws)) (with_passed before no_members) in
    let has : get_member (codes "facts") found ≡ Some (array (lists_of ws)) =
    kept after new is_after ∙ get_member-put (codes "facts") (array (lists_of ws))
    (with_passed before no_members) in
    let read : data_of ts ≡ Some (object found) =
    ap data_of is ∙ ap (λ o. option_and_then of_json (option_and_then (λ p. if_last p.0 p.1) o))
    (line_read 127 before ws after (omega arith) is_before is_after) ∙ line_means before ws
    after is_before is_after in
    rw (read, has) (all_facts ws named)

-- ---- the line that has these tokens

member_writes : (member : Option Data) (facts : List Written) (name : Option (List ℕ))
    → (member >>= λ m. as_array m >>= λ list. facts_in list) ≡ Some facts
    → cond (is_some member)
    (option_map_or writes (member >>= λ m. as_array m >>= λ list. facts_in list) malformed)
    (option_map_or declaring name malformed) ≡ writes facts
member_writes None facts name is = absurd cc
member_writes (Some m) facts name is = rw is refl

-- a value that has facts writes them
pub read_writes : (found : Option Data) (facts : List Written) → (found >>= facts_of) ≡ Some facts
    → option_map_or data_writes found malformed ≡ writes facts
unfolding data_writes
read_writes None facts is = absurd cc
read_writes (Some d) facts is =
    member_writes (get (codes "facts") d) facts (named_in d) is

pub plain_writes : (line : List ℕ) (ts : List json.Token) (facts : List Written)
    → list_all is_blank line ≡ false → is_utf8 line ≡ true → ts ≡ tokens line
    → (data_of ts >>= facts_of) ≡ Some facts → json_writes line ≡ writes facts
unfolding json_writes
plain_writes line ts facts some text is found =
    let whole : (read line >>= facts_of) ≡ Some facts =
    ap (λ all. data_of all >>= facts_of) (sym is) ∙ found in
    rw (some, text) (read_writes (read line) facts whole)
