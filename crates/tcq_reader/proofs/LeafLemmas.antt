-- The query of a leaf is within the limits of a query's leaf.
use Rattle.std.proofs.Common.{◌≡◌, ℕ, suc, ◌+◌, ◌*◌, ◌<◌, ◌≤◌, List, [], ◌∷◌, ◌++◌, length, take}
use Rattle.std.proofs.Common.{Option, Some, None, refl, sym, ap, subst, ◌∙◌, append_assoc, inl, inr}
use Rattle.std.proofs.Common.{arith, length-append}
use Rattle.std.specs.Prelude.{◌⊎◌, unwrap_or}
use Rattle.std.specs.List.{Contains}
use Rattle.std.specs.Str.{bytes_eq}
use Rattle.std.proofs.lemmas.Bool.{cases_lt}
use Rattle.std.proofs.lemmas.List.{append-nil, take-append-le, take_at}
use Rattle.std.proofs.lemmas.List.Elements.{Contains-push, Contains-append_left}
use Rattle.std.proofs.lemmas.List.Quantifiers.{position-Some}
use Rattle.std.proofs.lemmas.Option.{slice_get_within}
use Rattle.dl_syntax.specs.declared.queries.Atom.{Atom}
use Rattle.dl_syntax.specs.Ontology.{Declared}
use Rattle.tcq_syntax.specs.Tcq.{term_variables, atom_variables, body_variables, IsNumberedFrom}
use Rattle.tcq_syntax.proofs.Trees.{each_push}
use Rattle.tcq_grammar.specs.Grammar as g
use Rattle.tcq_reader.specs.Leaves.{Draft, blank, known_as, seen_after, seen_with, term_said}
use Rattle.tcq_reader.specs.Leaves.{with_one, with_two, with_atom, with_atoms}

-- ---- one more atom

pub with_atoms-push : (o : Declared) (front : List g.Atom) (d : Draft) (last : g.Atom)
    → with_atoms o d (front ++ last ∷ []) ≡ with_atom o (with_atoms o d front) last
with_atoms-push o [] d last = refl
with_atoms-push o (a ∷ front) d last = with_atoms-push o front (with_atom o d a) last

-- ---- numbering

-- of so many variables, those from the number on all occur in the list, each new one as the next
pub record Numbered (vars count : ℕ) (list : List ℕ) : Type 0 where
  pub some : vars ≤ count
  pub filled : (w : ℕ) → vars ≤ w → w < count → Contains list w
  pub numbered : IsNumberedFrom vars list

abbrev Before : ℕ → List ℕ → ℕ → ℕ → Type 0
Before vars list place v = (w : ℕ) → vars ≤ w → w < v → Contains (take place list) w

contains_inside : (list : List ℕ) (v place w : ℕ) → place < length list
    → Contains (take place list) w → Contains (take place (list ++ v ∷ [])) w
contains_inside list v place w lt h =
    subst (λ (l : List ℕ). Contains l w) (sym (take-append-le place list (v ∷ []) (omega arith))) h

numbered_push : (vars count : ℕ) (list : List ℕ) (v : ℕ) → Numbered vars count list → v ≤ count
    → IsNumberedFrom vars (list ++ v ∷ [])
numbered_push vars count list v h le place u w at from less =
    each_push ℕ (λ place u. (w : ℕ) → vars ≤ w → w < u
    → Contains (take place (list ++ v ∷ [])) w) list v
    (λ place u at w from less. contains_inside list v place w (slice_get_within list place u at)
    (h.numbered place u w at from less))
    (λ w from less. subst (λ (l : List ℕ). Contains l w)
    (sym (take_at list (v ∷ []) (length list) refl)) (h.filled w from (omega arith)))
    place u at w from less

known : (vars count : ℕ) (list : List ℕ) (v : ℕ) → Numbered vars count list → v < count
    → Numbered vars count (list ++ v ∷ [])
known vars count list v h less = record {
  some = h.some;
  filled = λ w from lt. Contains-append_left list (v ∷ []) w (h.filled w from lt);
  numbered = numbered_push vars count list v h (omega arith);
}

new_filled : (vars count : ℕ) (list : List ℕ) → Numbered vars count list → (w : ℕ) → vars ≤ w
    → w < count + 1 → (w < count) ⊎ (count ≤ w) → Contains (list ++ count ∷ []) w
new_filled vars count list h w from lt (inl less) =
    Contains-append_left list (count ∷ []) w (h.filled w from less)
new_filled vars count list h w from lt (inr le) = let same : count ≡ w = omega arith in
    subst (Contains (list ++ count ∷ [])) same (Contains-push list count)

new : (vars count : ℕ) (list : List ℕ) → Numbered vars count list
    → Numbered vars (count + 1) (list ++ count ∷ [])
new vars count list h = record {
  some = omega (arith, h.some);
  filled = λ w from lt. new_filled vars count list h w from lt (cases_lt w count);
  numbered = numbered_push vars count list count h (omega arith);
}

-- a written term is the next of the list
numbered_variable : (vars : ℕ) (seen : List (List ℕ)) (list : List ℕ) (text : List ℕ)
    (found : Option ℕ) → known_as seen text ≡ found → Numbered vars (length seen) list
    → Numbered vars (length (seen_after seen text found))
    (list ++ unwrap_or found (length seen) ∷ [])
numbered_variable vars seen list text (Some n) e h =
    known vars (length seen) list n h (position-Some (λ k. bytes_eq k text) seen n [] e).0
numbered_variable vars seen list text None e h =
    let long : length (seen ++ text ∷ []) ≡ length seen + 1 =
    omega (arith, length-append seen (text ∷ [])) in
    subst (λ (n : ℕ). Numbered vars n (list ++ length seen ∷ [])) (sym long)
    (new vars (length seen) list h)

numbered_term : (o : Declared) (vars : ℕ) (seen : List (List ℕ)) (list : List ℕ) (x : g.Term)
    → Numbered vars (length seen) list
    → Numbered vars (length (seen_with seen x)) (list ++ term_variables (term_said o seen x))
numbered_term o vars seen list (g.Var text) h =
    numbered_variable vars seen list text (known_as seen text) refl h
numbered_term o vars seen list (g.Ind text) h =
    subst (Numbered vars (length seen)) (sym (append-nil list)) h

body_variables-push : (body : List Atom) (a : Atom)
    → body_variables (body ++ a ∷ []) ≡ body_variables body ++ atom_variables a
body_variables-push [] a = append-nil (atom_variables a)
body_variables-push (b ∷ body) a =
    ap (λ (l : List ℕ). atom_variables b ++ l) (body_variables-push body a) ∙ sym
    (append_assoc (atom_variables b) (body_variables body) (atom_variables a))

abbrev pub IsNumbered : Draft → Type 0
IsNumbered d = Numbered d.vars (length d.seen) (body_variables d.body)

numbered_atom : (o : Declared) (d : Draft) (a : g.Atom) → IsNumbered d
    → IsNumbered (with_atom o d a)
numbered_atom o d (g.One p x) h =
    subst (Numbered d.vars (length (seen_with d.seen x))) (sym (body_variables-push d.body _))
    (numbered_term o d.vars d.seen (body_variables d.body) x h)
numbered_atom o d (g.Two p x y) h =
    let seen = seen_with d.seen x in
    let first = numbered_term o d.vars d.seen (body_variables d.body) x h in
    let second = numbered_term o d.vars seen
    (body_variables d.body ++ term_variables (term_said o d.seen x)) y first in
    subst (Numbered d.vars (length (seen_with seen y)))
    (append_assoc (body_variables d.body) (term_variables (term_said o d.seen x))
    (term_variables (term_said o seen y)) ∙ sym (body_variables-push d.body _)) second

pub numbered_atoms : (o : Declared) (d : Draft) (atoms : List g.Atom) → IsNumbered d
    → IsNumbered (with_atoms o d atoms)
numbered_atoms o d [] h = h
numbered_atoms o d (a ∷ atoms) h = numbered_atoms o (with_atom o d a) atoms (numbered_atom o d a h)

pub numbered_blank : (variables : List (List ℕ)) → IsNumbered (blank variables)
numbered_blank variables = record {
  some = omega arith;
  filled = λ w from lt. absurd (omega arith);
  numbered = λ place v w at from less. let never : place < 0 = slice_get_within [] place v at in
      absurd (omega arith);
}

-- ---- lengths

pub vars_same : (o : Declared) (d : Draft) (atoms : List g.Atom)
    → (with_atoms o d atoms).vars ≡ d.vars
vars_same o d [] = refl
vars_same o d (g.One p x ∷ atoms) = vars_same o (with_one o d p x) atoms
vars_same o d (g.Two p x y ∷ atoms) = vars_same o (with_two o d p x y) atoms

body_step : {n : ℕ} (o : Declared) (d e : Draft) (a : Atom) (atoms : List g.Atom)
    → e.body ≡ d.body ++ a ∷ [] → n ≡ length e.body + length atoms
    → n ≡ length d.body + suc (length atoms)
body_step o d e a atoms f h =
    let long : length e.body ≡ length d.body + 1 = ap length f ∙ length-append d.body (a ∷ []) in
    omega (arith, h, long)

pub body_length : (o : Declared) (d : Draft) (atoms : List g.Atom)
    → length (with_atoms o d atoms).body ≡ length d.body + length atoms
body_length o d [] = omega arith
body_length o d (g.One p x ∷ atoms) =
    body_step o d (with_one o d p x) _ atoms refl (body_length o (with_one o d p x) atoms)
body_length o d (g.Two p x y ∷ atoms) =
    body_step o d (with_two o d p x y) _ atoms refl (body_length o (with_two o d p x y) atoms)

seen_after_length : (seen : List (List ℕ)) (text : List ℕ) (found : Option ℕ)
    → (length seen ≤ length (seen_after seen text found))
    × (length (seen_after seen text found) ≤ length seen + 1)
seen_after_length seen text (Some n) = (omega arith, omega arith)
seen_after_length seen text None =
    (omega (arith, length-append seen (text ∷ [])), omega (arith, length-append seen (text ∷ [])))

seen_length : (seen : List (List ℕ)) (x : g.Term)
    → (length seen ≤ length (seen_with seen x)) × (length (seen_with seen x) ≤ length seen + 1)
seen_length seen (g.Var text) = seen_after_length seen text (known_as seen text)
seen_length seen (g.Ind text) = (omega arith, omega arith)

pub few_seen : (o : Declared) (d : Draft) (atoms : List g.Atom)
    → length (with_atoms o d atoms).seen ≤ length d.seen + 2 * length atoms
few_seen o d [] = omega arith
few_seen o d (g.One p x ∷ atoms) =
    omega (arith, few_seen o (with_one o d p x) atoms, seen_length d.seen x)
few_seen o d (g.Two p x y ∷ atoms) =
    omega (
      arith,
      few_seen o (with_two o d p x y) atoms,
      seen_length d.seen x,
      seen_length
          (seen_with d.seen x) y,
    )

-- the answer variables stay first
take_after : (n : ℕ) (seen : List (List ℕ)) (text : List ℕ) (found : Option ℕ) → n ≤ length seen
    → take n (seen_after seen text found) ≡ take n seen
take_after n seen text (Some k) le = refl
take_after n seen text None le = take-append-le n seen (text ∷ []) le

take_with : (n : ℕ) (seen : List (List ℕ)) (x : g.Term) → n ≤ length seen
    → take n (seen_with seen x) ≡ take n seen
take_with n seen (g.Var text) le = take_after n seen text (known_as seen text) le
take_with n seen (g.Ind text) le = refl

pub answers_first : (n : ℕ) (o : Declared) (d : Draft) (atoms : List g.Atom) → n ≤ length d.seen
    → take n (with_atoms o d atoms).seen ≡ take n d.seen
answers_first n o d [] le = refl
answers_first n o d (g.One p x ∷ atoms) le =
    answers_first n o (with_one o d p x) atoms (omega (arith, le, seen_length d.seen x)) ∙ take_with
    n d.seen x le
answers_first n o d (g.Two p x y ∷ atoms) le =
    let first : n ≤ length (seen_with d.seen x) = omega (arith, le, seen_length d.seen x) in
    answers_first n o (with_two o d p x y) atoms
    (omega (arith, first, seen_length (seen_with d.seen x) y)) ∙ take_with n
    (seen_with d.seen x) y first ∙ take_with n d.seen x le
