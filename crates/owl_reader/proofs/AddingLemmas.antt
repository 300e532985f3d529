-- Statements, one after the other.
use Rattle.std.proofs.Common.{◌-◌, length-drop}
use Rattle.std.specs.Prelude.{◌⊎◌}
use Rattle.std.proofs.Common.{◌≡◌, ℕ, ◌+◌, ◌≤◌, ◌<◌, false, List, [], ◌∷◌, ◌++◌, length}
use Rattle.std.proofs.Common.{suc, inl, inr, drop, take, get_or, refl, sym, ap, ◌∙◌, arith, add-one}
use Rattle.std.proofs.Common.{drop-cons, map, Result, Ok, Err}
use Rattle.std.proofs.lemmas.List.{drop_all, take_all, length-map, drop-map}
use Rattle.std.proofs.Math.ListN.{get_or-map}
use Rattle.dl_syntax.specs.Ontology.{Declared}
use Rattle.ontology_reader.specs.declared.OntologyKind.{OntologyKind}
use Rattle.ontology_reader.specs.Sayings.{Saying}
use Rattle.ontology_reader.specs.Adding.{added}
use Rattle.ontology_reader.specs.declared.adding.LineFault.{LineFault}
use Rattle.ontology_reader.specs.declared.adding.LineFault.TheVariants as fault_of
use Rattle.ontology_reader.specs.Answers.{Fails}
use Rattle.owl_reader.specs.declared.entities.Term as terms
use Rattle.owl_reader.specs.declared.entities.Term.TheVariants as term_of
use Rattle.owl_reader.specs.StatementViews.{term_seen}
use Rattle.owl_reader.specs.Statements.{Term, sub, disjoint_terms, in_turn, equivalent}
use Rattle.owl_reader.specs.Statements.{all_disjoint}
use Rattle.owl_reader.specs.Statements.{all_added}

-- what is left to say where these terms are left of the cycle
abbrev pub rest_of_cycle : List Term → List Term → List Saying
rest_of_cycle [] left = []
rest_of_cycle (first ∷ terms) [] = []
rest_of_cycle (first ∷ terms) (x ∷ left) = in_turn first x left

abbrev pub after_one : Result Declared OntologyKind → List Saying → Result Declared OntologyKind
after_one change rest = elim change [ Ok next ↦ all_added next rest | Err kind ↦ Err kind ]

pub one_added : (o next : Declared) (s : Saying) (rest : List Saying) → added o s ≡ Ok next
    → all_added o (s ∷ rest) ≡ all_added next rest
unfolding all_added
one_added o next s rest is = ap (λ (change : Result Declared OntologyKind).
    after_one change rest) is

pub one_fails : (o : Declared) (kind : OntologyKind) (s : Saying) (rest : List Saying)
    → added o s ≡ Err kind → all_added o (s ∷ rest) ≡ Err kind
unfolding all_added
one_fails o kind s rest is = ap (λ (change : Result Declared OntologyKind).
    after_one change rest) is

-- ---- as a loop does

-- what stands for the term behind the last one
abbrev pub no_term : terms.Term
no_term = term_of.Role (record { role = record { ref_ptr = (0, 0); now = [] }; inverse = false })

pub step_fails : (fault : LineFault) (whole : Result Declared OntologyKind) (o : Declared)
    (s : Saying) (rest : List Saying) → Fails fault (added o s) → whole ≡ all_added o (s ∷ rest)
    → Fails fault whole
step_fails (fault_of.Kind kind) whole o s rest is before = before ∙ one_fails o kind s rest is
step_fails fault_of.Memory whole o s rest is before = tt

pub append_added : (o next : Declared) (front rest : List Saying) → all_added o front ≡ Ok next
    → all_added o (front ++ rest) ≡ all_added next rest
unfolding all_added
append_added o next [] rest is = let e : o ≡ next = cc in ap (λ (m : Declared). all_added m rest) e
append_added o next (s ∷ front) rest is =
    go (added o s) (λ m e. append_added m next front rest e) is
  where
    go : (change : Result Declared OntologyKind)
        → ((m : Declared) → all_added m front ≡ Ok next
        → all_added m (front ++ rest) ≡ all_added next rest) → after_one change front ≡ Ok next
        → after_one change (front ++ rest) ≡ all_added next rest
    go (Ok m) later e = later m e
    go (Err kind) later e = absurd cc

pub append_fails : (o : Declared) (kind : OntologyKind) (front rest : List Saying)
    → all_added o front ≡ Err kind → all_added o (front ++ rest) ≡ Err kind
unfolding all_added
append_fails o kind [] rest is = absurd cc
append_fails o kind (s ∷ front) rest is =
    go (added o s) (λ m e. append_fails m kind front rest e) is
  where
    go : (change : Result Declared OntologyKind)
        → ((m : Declared) → all_added m front ≡ Err kind → all_added m (front ++ rest) ≡ Err kind)
        → after_one change front ≡ Err kind → after_one change (front ++ rest) ≡ Err kind
    go (Ok m) later e = later m e
    go (Err k) later e = e

pub steps_fail : (fault : LineFault) (whole : Result Declared OntologyKind) (o : Declared)
    (front rest : List Saying) → Fails fault (all_added o front)
    → whole ≡ all_added o (front ++ rest) → Fails fault whole
steps_fail (fault_of.Kind kind) whole o front rest is before =
    before ∙ append_fails o kind front rest is
steps_fail fault_of.Memory whole o front rest is before = tt

pub none_added : (o : Declared) → all_added o [] ≡ Ok o
unfolding all_added
none_added o = refl

pub each_next : (left : Term) (xs : List terms.Term) (place : ℕ) → place < length xs
    → map (disjoint_terms left) (map term_seen (drop place xs))
    ≡ disjoint_terms left (term_seen (get_or xs place no_term))
    ∷ map (disjoint_terms left) (map term_seen (drop (place + 1) xs))
each_next left xs place lt = ap (λ (ys : List terms.Term).
    map (disjoint_terms left) (map term_seen ys)) (drop-cons xs place no_term lt) ∙ rw add-one refl

pub pairs_next : (xs : List terms.Term) (place : ℕ) → place < length xs
    → all_disjoint (map term_seen (drop place xs))
    ≡ map (disjoint_terms (term_seen (get_or xs place no_term)))
    (map term_seen (take (length xs - (place + 1)) (drop (place + 1) xs)))
    ++ all_disjoint (map term_seen (drop (place + 1) xs))
pairs_next xs place lt =
    let later : take (length xs - (place + 1)) (drop (place + 1) xs) ≡ drop (place + 1) xs =
    take_all (length xs - (place + 1)) (drop (place + 1) xs)
    (omega (arith, length-drop (place + 1) xs)) in
    ap (λ (ys : List terms.Term). all_disjoint (map term_seen ys))
    (drop-cons xs place no_term lt) ∙ rw later (rw add-one refl)

pub terms_end : (xs : List terms.Term) (place : ℕ) → length xs ≤ place
    → map term_seen (drop place xs) ≡ []
terms_end xs place le = ap (map term_seen) (drop_all place xs le)

-- the next term of the cycle
pub cycle_next : (first : Term) (ts : List Term) (place next : ℕ) (d : Term)
    → place < length (first ∷ ts) → ((place + 1 < length (first ∷ ts)) × (next ≡ place + 1))
    ⊎ ((length (first ∷ ts) ≤ place + 1) × (next ≡ 0))
    → rest_of_cycle (first ∷ ts) (drop place (first ∷ ts))
    ≡ sub (get_or (first ∷ ts) place d) (get_or (first ∷ ts) next d)
    ∷ rest_of_cycle (first ∷ ts) (drop (place + 1) (first ∷ ts))
cycle_next first ts place next d lt (inl (more, is)) =
    let whole = first ∷ ts in
    let e : place + 1 ≡ suc place = add-one place in
    let here : drop place whole ≡ get_or whole place d ∷ drop (suc place) whole =
    drop-cons whole place d lt in
    let there : drop (suc place) whole ≡ get_or whole (suc place) d ∷ drop (suc (suc place)) whole =
    drop-cons whole (suc place) d (omega (arith, e)) in
    ap (rest_of_cycle whole) (here ∙ ap (λ (l : List Term). get_or whole place d ∷ l) there)
    ∙ ap (λ (l : List Term). sub (get_or whole place d) (get_or whole (suc place) d)
    ∷ rest_of_cycle whole l) (sym there)
    ∙ ap (λ (n : ℕ). sub (get_or whole place d) (get_or whole n d)
    ∷ rest_of_cycle whole (drop (suc place) whole)) (sym (is ∙ e))
    ∙ ap (λ (n : ℕ). sub (get_or whole place d) (get_or whole next d)
    ∷ rest_of_cycle whole (drop n whole)) (sym e)
cycle_next first ts place next d lt (inr (last, is)) =
    let whole = first ∷ ts in
    let e : place + 1 ≡ suc place = add-one place in
    let here : drop place whole ≡ get_or whole place d ∷ drop (suc place) whole =
    drop-cons whole place d lt in
    let none : drop (suc place) whole ≡ [] = drop_all (suc place) whole (omega (arith, e)) in
    let none_later : drop (place + 1) whole ≡ [] = drop_all (place + 1) whole last in
    ap (rest_of_cycle whole) (here ∙ ap (λ (l : List Term). get_or whole place d ∷ l) none)
    ∙ ap (λ (n : ℕ). sub (get_or whole place d) (get_or whole n d) ∷ []) (sym is)
    ∙ ap (λ (l : List Term). sub (get_or whole place d) (get_or whole next d)
    ∷ rest_of_cycle whole l) (sym none_later)

pub equivalent_cycle : (ts : List Term) → equivalent ts ≡ rest_of_cycle ts ts
equivalent_cycle [] = refl
equivalent_cycle (x ∷ ts) = refl

pub cycle_end : (ts : List Term) → rest_of_cycle ts [] ≡ []
cycle_end [] = refl
cycle_end (x ∷ ts) = refl

pub seen_next : (xs : List terms.Term) (place next : ℕ) → place < length xs
    → ((place + 1 < length xs) × (next ≡ place + 1)) ⊎ ((length xs ≤ place + 1) × (next ≡ 0))
    → rest_of_cycle (map term_seen xs) (map term_seen (drop place xs))
    ≡ sub (term_seen (get_or xs place no_term)) (term_seen (get_or xs next no_term))
    ∷ rest_of_cycle (map term_seen xs) (map term_seen (drop (place + 1) xs))
seen_next [] place next lt which = absurd (omega arith)
seen_next (x ∷ xs) place next lt which =
    let ts = map term_seen (x ∷ xs) in
    let len : length ts ≡ length (x ∷ xs) = length-map (x ∷ xs) term_seen in
    let within : next < length (x ∷ xs) = bound which in
    let seen_which : ((place + 1 < length ts) × (next ≡ place + 1))
    ⊎ ((length ts ≤ place + 1) × (next ≡ 0)) = moved which len in
    ap (rest_of_cycle ts) (sym (drop-map term_seen place (x ∷ xs)))
    ∙ cycle_next (term_seen x) (map term_seen xs) place next (term_seen no_term)
    (omega (arith, len)) seen_which
    ∙ ap (λ (l : List Term). sub (get_or ts place (term_seen no_term))
    (get_or ts next (term_seen no_term)) ∷ rest_of_cycle ts l)
    (drop-map term_seen (place + 1) (x ∷ xs))
    ∙ ap (λ (y : Term). sub y (get_or ts next (term_seen no_term))
    ∷ rest_of_cycle ts (map term_seen (drop (place + 1) (x ∷ xs)))) (got place)
    ∙ ap (λ (y : Term). sub (term_seen (get_or (x ∷ xs) place no_term)) y
    ∷ rest_of_cycle ts (map term_seen (drop (place + 1) (x ∷ xs)))) (got next)
  where
    got : (n : ℕ) → get_or (map term_seen (x ∷ xs)) n (term_seen no_term)
        ≡ term_seen (get_or (x ∷ xs) n no_term)
    got n = get_or-map term_seen (x ∷ xs) n no_term

    bound : ((place + 1 < length (x ∷ xs)) × (next ≡ place + 1))
        ⊎ ((length (x ∷ xs) ≤ place + 1) × (next ≡ 0)) → next < length (x ∷ xs)
    bound (inl (a, b)) = omega arith
    bound (inr (a, b)) = omega arith

    moved : ((place + 1 < length (x ∷ xs)) × (next ≡ place + 1))
        ⊎ ((length (x ∷ xs) ≤ place + 1) × (next ≡ 0))
        → length (map term_seen (x ∷ xs)) ≡ length (x ∷ xs)
        → ((place + 1 < length (map term_seen (x ∷ xs))) × (next ≡ place + 1))
        ⊎ ((length (map term_seen (x ∷ xs)) ≤ place + 1) × (next ≡ 0))
    moved (inl (a, b)) len = inl (omega arith, b)
    moved (inr (a, b)) len = inr (omega arith, b)
