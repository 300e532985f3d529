-- A line of the usual form, as the tokens of its text.
use Rattle.std.specs.Prelude.{◌≡◌, ℕ, Bool, true, List, [], ◌∷◌, codes, Option, Some, None}
use Rattle.std.specs.Prelude.{if◌then◌else◌, option_map, option_and_then}
use Rattle.json.specs.Token as json
use Rattle.json.specs.Json.{value, if_last}
use Rattle.serde_json.specs.Data.{Data, null, boolean, number, string}
use Rattle.serde_json.specs.Read.{number_of, of_json, max_depth}
use Rattle.dl_syntax.specs.Ontology.{Declared}
use Rattle.snapshot_reader.specs.declared.gathering.Gathered.{Gathered}
use Rattle.dl_syntax.specs.Names.{is_name}
use Rattle.snapshot_reader.specs.Written.{Written, unary, binary, facts_of, ◌>>=◌}
use Rattle.snapshot_reader.specs.Gathering.{Gathers}

-- ---- facts

-- a fact behind its first bracket, and then more
abbrev pub fact_before : Written → List json.Token → List json.Token
fact_before (unary p a) rest = json.string p ∷ json.string a ∷ json.end_array ∷ rest
fact_before (binary p a b) rest =
    json.string p ∷ json.string a ∷ json.string b ∷ json.end_array ∷ rest

-- facts one behind the other, and then more
abbrev pub facts_before : List Written → List json.Token → List json.Token
facts_before [] rest = rest
facts_before (w ∷ ws) rest = json.begin_array ∷ fact_before w (facts_before ws rest)

-- the texts of a fact are names
abbrev pub IsSpelled : Written → Type 0
IsSpelled (unary p a) = (is_name p ≡ true) × (is_name a ≡ true)
IsSpelled (binary p a b) = (is_name p ≡ true) × (is_name a ≡ true) × (is_name b ≡ true)

-- ---- members that are passed over

-- the value that a token is by itself
abbrev pub value_in : json.Token → Option Data
value_in json.begin_object = None
value_in json.end_object = None
value_in json.begin_array = None
value_in json.end_array = None
value_in (json.key s) = None
value_in (json.string s) = Some (string s)
value_in (json.number s) = option_map number (number_of s)
value_in (json.boolean b) = Some (boolean b)
value_in json.null = Some null
value_in json.bad = None

-- a member whose value is one token
pub record Passed : Type 0 where
  pub key : List ℕ
  pub token : json.Token
  pub meaning : Data

abbrev pub IsPassed : Passed → Type 0
IsPassed m = (m.key ≡ codes "facts" → ⊥) × (value_in m.token ≡ Some m.meaning)

-- members one behind the other, and then more
abbrev pub members_before : List Passed → List json.Token → List json.Token
members_before [] rest = rest
members_before (m ∷ ms) rest = json.key m.key ∷ m.token ∷ members_before ms rest

-- what the members stop at
abbrev pub stop_token : Bool → json.Token
stop_token at_facts = if at_facts then json.key (codes "facts") else json.end_object

-- ---- a whole line

-- the value that tokens are
abbrev pub data_of : List json.Token → Option Data
data_of ts = option_and_then of_json (option_and_then (λ p. if_last p.0 p.1) (value max_depth ts))

-- the tokens are those of a value with facts, and these were gathered
abbrev pub GatheredAll : Declared → List json.Token → Gathered → Type 0
GatheredAll o ts gathered = (facts : List Written) × ((data_of ts >>= facts_of) ≡ Some facts)
    × Gathers o facts gathered
