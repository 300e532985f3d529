-- A text stops at one place at most, and a front of a file at none.
use Rattle.std.proofs.Common.{◌≡◌, ℕ, List, [], ◌∷◌, ◌++◌, inl, inr, sym, ap, subst, ◌∙◌}
use Rattle.std.proofs.Common.{append_assoc}
use Rattle.std.specs.Prelude.{◌⊎◌}
use Rattle.std.proofs.lemmas.List.{append-nil, map-append}
use Rattle.tcq_grammar.specs.Symbols.{Symbol}
use Rattle.tcq_grammar.specs.Grammar.{IsFile, BeginsFile}
use Rattle.tcq_grammar.specs.Texts.{Mark, symbols}
use Rattle.tcq_grammar.specs.Fault.{StopsAt}
use Rattle.tcq_grammar.specs.Laws.{StopsOnce, FrontsGoOn}

-- a file begins itself
pub file_begins : (text : List Symbol) → IsFile text → BeginsFile text
file_begins text file = ([], subst IsFile (sym (append-nil text)) file)

pub fronts_go_on : FrontsGoOn
fronts_go_on text place begins stops =
    let before : List Symbol = symbols stops.front in
    let behind : List Symbol = symbols stops.rest in
    let mark : Mark = record { symbol = stops.symbol; start = place } in
    let parts : symbols text ≡ before ++ stops.symbol ∷ behind =
    ap symbols stops.parts ∙ map-append (λ (m : Mark). m.symbol) stops.front (mark ∷ stops.rest) in
    let whole : symbols text ++ begins.0 ≡ (before ++ stops.symbol ∷ []) ++ (behind ++ begins.0) =
    ap (λ (ss : List Symbol). ss ++ begins.0) parts
    ∙ append_assoc before (stops.symbol ∷ behind) begins.0
    ∙ sym (append_assoc before (stops.symbol ∷ []) (behind ++ begins.0)) in
    stops.stops (behind ++ begins.0, subst IsFile whole begins.1)

-- one list in parts around two marks: they are one, or one front holds the other and its mark
abbrev Parted : List Mark → Mark → List Mark → Mark → Type 0
Parted f m g n = (m ≡ n)
    ⊎ (((more : List Mark) × (f ≡ g ++ n ∷ more)) ⊎ ((more : List Mark) × (g ≡ f ++ m ∷ more)))

parted_more : (x y : Mark) (f g : List Mark) (m n : Mark)
    → x ≡ y → Parted f m g n → Parted (x ∷ f) m (y ∷ g) n
parted_more x y f g m n same (inl marks) = inl marks
parted_more x y f g m n same (inr (inl (more, is))) =
    inr (inl (more, ap (λ (z : Mark). z ∷ f) same ∙ ap (λ (zs : List Mark). y ∷ zs) is))
parted_more x y f g m n same (inr (inr (more, is))) =
    inr (inr (more, ap (λ (z : Mark). z ∷ g) (sym same) ∙ ap (λ (zs : List Mark). x ∷ zs) is))

parted : (f g : List Mark) (m n : Mark) (r s : List Mark) → f ++ m ∷ r ≡ g ++ n ∷ s → Parted f m g n
parted [] [] m n r s e = inl cc
parted [] (y ∷ g) m n r s e = let same : y ≡ m = cc in inr (inr (g, ap (λ (z : Mark). z ∷ g) same))
parted (x ∷ f) [] m n r s e = let same : x ≡ n = cc in inr (inl (f, ap (λ (z : Mark). z ∷ f) same))
parted (x ∷ f) (y ∷ g) m n r s e =
    let same : x ≡ y = cc in
    let tails : f ++ m ∷ r ≡ g ++ n ∷ s = cc in
    parted_more x y f g m n same (parted f g m n r s tails)

abbrev mark_at : {text : List Mark} {place : ℕ} → StopsAt text place → Mark
mark_at {place} stops = record { symbol = stops.symbol; start = place }

-- a text that goes on behind the place of another stops nowhere there
goes_on : (text other : List Mark) (place : ℕ) (more : List Mark) (stops : StopsAt text place)
    → BeginsFile (symbols other) → other ≡ stops.front ++ mark_at stops ∷ more → ⊥
goes_on text other place more stops begins is = fronts_go_on other place begins (record {
  front = stops.front;
  symbol = stops.symbol;
  rest = more;
  parts = is;
  before = stops.before;
  stops = stops.stops;
})

once : (text : List Mark) (place other : ℕ) (one : StopsAt text place) (two : StopsAt text other)
    → Parted one.front (mark_at one) two.front (mark_at two) → place ≡ other
once text place other one two (inl marks) = ap (λ (m : Mark). m.start) marks
once text place other one two (inr (inl (more, is))) =
    absurd (goes_on text one.front other more two one.before is)
once text place other one two (inr (inr (more, is))) =
    absurd (goes_on text two.front place more one two.before is)

pub stops_once : StopsOnce
stops_once text place other one two = once text place other one two
    (parted one.front two.front (mark_at one) (mark_at two) one.rest two.rest
    (sym one.parts ∙ two.parts))
