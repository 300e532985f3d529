-- A name goes last, unless it is there.
use Rattle.std.proofs.Common.{◌≡◌, ℕ, Bool, true, false, cond, List, [], ◌∷◌, ◌++◌, map, Vec}
use Rattle.std.proofs.Common.{Global}
use Rattle.std.proofs.Common.{refl, sym, ap, ◌∙◌}
use Rattle.std.specs.Prelude.{◌||◌}
use Rattle.std.specs.List.{list_any}
use Rattle.std.specs.Str.{bytes_eq}
use Rattle.std.proofs.lemmas.List.{map-append}
use Rattle.dl_syntax.specs.Ontology.{is_declared}
use Rattle.list_lemmas.proofs.Positions.{Names, is_text, bytes_of}
use Rattle.snapshot_reader.proofs.further.FurtherNames.add.Goals as goal

any_seen : (text : List ℕ) (names : Names)
    → list_any (is_text text) names ≡ list_any (bytes_eq text) (map bytes_of names)
any_seen text [] = refl
any_seen text (n ∷ names) =
    ap (λ (b : Bool). bytes_eq text (bytes_of n) || b) (any_seen text names)

choice_seen : (there : Bool) (names : Names) (name : Vec ℕ Global)
    → map bytes_of (cond there names (names ++ name ∷ []))
    ≡ cond there (map bytes_of names) (map bytes_of names ++ bytes_of name ∷ [])
choice_seen true names name = refl
choice_seen false names name = map-append bytes_of names (name ∷ [])

added : (text : List ℕ) (name : Vec ℕ Global) (names new : Names) (list : List (List ℕ))
    (declared : Bool) → map bytes_of names ≡ list → bytes_of name ≡ text → declared ≡ false
    → new ≡ cond (list_any (is_text (bytes_of name)) names) names (names ++ name ∷ [])
    → map bytes_of new
    ≡ cond (declared || list_any (bytes_eq text) list) list (list ++ text ∷ [])
added text name names new list declared view spelled free is =
    ap (map bytes_of) is
    ∙ choice_seen (list_any (is_text (bytes_of name)) names) names name
    ∙ ap (λ (b : Bool). cond b (map bytes_of names) (map bytes_of names ++ bytes_of name ∷ []))
    (any_seen (bytes_of name) names)
    ∙ ap (λ (l : List (List ℕ)). cond (list_any (bytes_eq (bytes_of name)) l) l
    (l ++ bytes_of name ∷ [])) view
    ∙ ap (λ (t : List ℕ). cond (list_any (bytes_eq t) list) list (list ++ t ∷ [])) spelled
    ∙ ap (λ (b : Bool). cond (b || list_any (bytes_eq text) list) list (list ++ text ∷ []))
    (sym free)

pub returns : goal.returns
returns c = record {
  ok = added c.args.name.now c.in_ok-name.name c.self.inside.names.keys c.insert.new.self.keys
      c.args.self.now (is_declared c.args.ontology.now c.args.name.now) c.self.view_is
      c.in_ok-name.ensures.items (sym c.is_declared.ensures.same ∙ c.if-is_declared.false)
      c.in_ok-insert.ensures.keys;
}
