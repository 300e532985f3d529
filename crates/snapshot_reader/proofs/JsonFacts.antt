-- The facts of a value, and of a line in JSON form.
use Rattle.std.proofs.Common.{◌≡◌, ℕ, ◌<◌, ◌+◌, Bool, true, false, cond, List, [], ◌∷◌}
use Rattle.std.proofs.Common.{length, drop, drop-cons, get_or, add-one, refl, sym, ap, ◌∙◌, arith}
use Rattle.std.specs.Prelude.{Option, Some, None, Err, codes}
use Rattle.std.specs.Option.{option_map, option_map_or}
use Rattle.std.specs.List.{list_all}
use Rattle.std.specs.Str.{is_utf8}
use Rattle.serde_json.specs.Data.{Data}
use Rattle.serde_json.specs.Find.{get, as_array, as_str}
use Rattle.serde_json.specs.Read.{read}
use Rattle.serde_json.specs.View.{view, items_view}
use Rattle.serde_json.specs.declared.value.Value.{Value}
use Rattle.text_scan.specs.Bytes.{is_blank}
use Rattle.dl_syntax.specs.Names.{IsName, is_name}
use Rattle.dl_syntax.specs.Ontology.{Declared}
use Rattle.dl_syntax.proofs.NameTests.{name_decides}
use Rattle.snapshot_reader.specs.Written.{Written, blank, malformed, writes, name_in}
use Rattle.snapshot_reader.specs.Written.{fact_in, fact_of_items, facts_in, json_writes, ◌>>=◌}
use Rattle.snapshot_reader.specs.Written.{named_in, data_writes, declaring}
use Rattle.snapshot_reader.specs.declared.SnapFault.{SnapFault}
use Rattle.snapshot_reader.specs.declared.SnapFault.TheVariants as fault
use Rattle.snapshot_reader.specs.Said.{line_says}
use Rattle.snapshot_reader.specs.Answers.{Tells, HasNoValue}

-- ---- a name

pub named : (d : Data) (text : List ℕ) → Some text ≡ as_str d → IsName text → Some text ≡ name_in d
named d text is name =
    sym (ap (λ (found : Option (List ℕ)). found >>= λ t.
    cond (is_name t) (Some t) None) (sym is) ∙ ap (λ (b : Bool).
    cond b (Some text) None) ((name_decides text).1 name))

pub unnamed : (d : Data) (text : List ℕ) → Some text ≡ as_str d → (IsName text → ⊥)
    → None ≡ name_in d
unnamed d text is no_name =
    sym (ap (λ (found : Option (List ℕ)). found >>= λ t.
    cond (is_name t) (Some t) None) (sym is) ∙ go (is_name text) (λ h.
    no_name ((name_decides text).0 h)))
  where
    go : (b : Bool) → (b ≡ true → ⊥) → cond b (Some text) None ≡ None
    go true h = absurd (h refl)
    go false h = refl

-- ---- a list of values

pub too_few : (vs : List Value) → length vs < 2 → fact_of_items (items_view vs) ≡ None
too_few [] few = refl
too_few (a ∷ []) few = refl
too_few (a ∷ b ∷ vs) few = absurd (omega arith)

pub too_many : (vs : List Value) → 3 < length vs → fact_of_items (items_view vs) ≡ None
too_many [] many = absurd (omega arith)
too_many (a ∷ []) many = absurd (omega arith)
too_many (a ∷ b ∷ []) many = absurd (omega arith)
too_many (a ∷ b ∷ c ∷ []) many = absurd (omega arith)
too_many (a ∷ b ∷ c ∷ d ∷ vs) many = refl

pub first_fact : (vs : List Value) (i : ℕ) (v : Value) (w : Written) → i < length vs
    → v ≡ get_or vs i v → Some w ≡ fact_in (view v)
    → facts_in (items_view (drop i vs))
    ≡ option_map (λ facts. w ∷ facts) (facts_in (items_view (drop (i + 1) vs)))
first_fact vs i v w within at is = rw (add-one, drop-cons vs i v, ← at, ← is) refl

pub no_fact : (vs : List Value) (i : ℕ) (v : Value) → i < length vs → v ≡ get_or vs i v
    → None ≡ fact_in (view v) → facts_in (items_view (drop i vs)) ≡ None
no_fact vs i v within at none = rw (drop-cons vs i v, ← at, ← none) refl

-- ---- a line

pub blank_line : (line : List ℕ) → list_all is_blank line ≡ true → json_writes line ≡ blank
unfolding json_writes
blank_line line blanks = rw blanks refl

pub value_writes : (line : List ℕ) (d : Data) → list_all is_blank line ≡ false → is_utf8 line ≡ true
    → read line ≡ Some d → json_writes line ≡ data_writes d
unfolding json_writes
value_writes line d some text is = rw (some, text, is) refl

pub no_value : (line : List ℕ) → list_all is_blank line ≡ false
    → (is_utf8 line ≡ true → read line ≡ None) → json_writes line ≡ malformed
unfolding json_writes
no_value line some unread = rw some (go (is_utf8 line) (read line) unread)
  where
    go : (text : Bool) (value : Option Data) → (text ≡ true → value ≡ None)
        → cond text (option_map_or data_writes value malformed) malformed ≡ malformed
    go false value none = refl
    go true value none = rw (none refl) refl

-- a fault tells why a line has no value
pub told_no_value : (o : Declared) (line : List ℕ) (e : SnapFault) → list_all is_blank line ≡ false
    → HasNoValue line e → Tells (Err e) (line_says o (json_writes line))
told_no_value o line fault.Malformed some unread = ap (line_says o) (no_value line some unread)
told_no_value o line (fault.Unknown name) some unread = absurd unread
told_no_value o line (fault.WrongKind name) some unread = absurd unread
told_no_value o line (fault.Undeclared name) some unread = absurd unread
told_no_value o line fault.TooManyFacts some unread = absurd unread
told_no_value o line fault.Memory some unread = tt

-- ---- a value

pub with_facts : (d member : Data) → get (codes "facts") d ≡ Some member
    → data_writes d ≡ option_map_or writes (as_array member >>= facts_in) malformed
unfolding data_writes
with_facts d member is = rw is refl

pub without_facts : (d : Data) → get (codes "facts") d ≡ None
    → data_writes d ≡ option_map_or declaring (named_in d) malformed
unfolding data_writes
without_facts d is = rw is refl
