-- Annotations, one after the other.
use Rattle.std.proofs.Common.{◌≡◌, ℕ, zero, suc, ◌≤◌, ◌<◌, Bool, true, false, cond, List, []}
use Rattle.std.proofs.Common.{◌∷◌, length, Option, Some, None, Ok, Err, refl, sym, ap}
use Rattle.std.proofs.Common.{◌∙◌, arith}
use Rattle.std.specs.Prelude.{◌&&◌}
use Rattle.owl_documents.specs.declared.groups.GroupStep.{GroupStep}
use Rattle.owl_documents.specs.declared.groups.GroupStep.TheVariants as step
use Rattle.owl_documents.specs.declared.groups.Stop.{Stop}
use Rattle.owl_documents.specs.declared.groups.Stop.TheVariants as stop
use Rattle.owl_documents.specs.Views.{Gives}
use Rattle.owl_tokens.specs.Tokens.{Lexeme}
use Rattle.owl_tokens.specs.Words.{head_of}
use Rattle.owl_documents.specs.Terms.{Read, ◌>>=◌, is_open, is_word, group_of, group_step, stepped}
use Rattle.owl_documents.specs.Terms.{group_end}
use Rattle.owl_documents.specs.Items.{is_annotation, annotation_first, behind_annotation}
use Rattle.owl_documents.specs.Items.{annotations_end, behind_annotations}

pub group_shorter : (depth : ℕ) (ts rest : List Lexeme) → group_end depth ts ≡ Ok rest
    → length rest < length ts
unfolding group_end
group_shorter depth [] rest is = absurd cc
group_shorter depth (t ∷ ts) rest is =
    go (group_step depth t.kind) (λ d e. group_shorter d ts rest e) is
  where
    go : (s : GroupStep) → ((d : ℕ) → group_end d ts ≡ Ok rest → length rest < length ts)
        → stepped s t.start ts (λ next. group_end next ts) ≡ Ok rest → length rest < suc (length ts)
    go (step.Inside d) more e = omega (arith, more d e)
    go step.Behind more e = let f : ts ≡ rest = cc in omega (arith, ap length f)
    go step.Fault more e = absurd cc

opened : (b : Bool) (ts inside : List Lexeme) → cond b (Some ts) None ≡ Some inside → ts ≡ inside
opened true ts inside e = cc
opened false ts inside e = absurd cc

group_of_shorter : (ts inside : List Lexeme) → group_of ts ≡ Some inside → length inside < length ts
group_of_shorter [] inside e = absurd cc
group_of_shorter (t ∷ ts) inside e = let f : ts ≡ inside = opened (is_open t.kind) ts inside e in
    omega (arith, ap length f)

chosen : (b : Bool) (ts inside : List Lexeme) → cond b (group_of ts) None ≡ Some inside
    → length inside < length ts
chosen true ts inside e = group_of_shorter ts inside e
chosen false ts inside e = absurd cc

pub annotation_shorter : (ts inside : List Lexeme) → annotation_first ts ≡ Some inside
    → length inside < length ts
annotation_shorter [] inside e = absurd cc
annotation_shorter (t ∷ ts) inside e =
    omega (arith, chosen (is_word t.kind && is_annotation (head_of t.text)) ts inside e)

-- more room than there are tokens changes nothing
pub enough : (n m : ℕ) (ts : List Lexeme) → length ts ≤ n → length ts ≤ m
    → annotations_end n ts ≡ annotations_end m ts
unfolding annotations_end
enough zero zero ts h k = refl
enough zero (suc m) [] h k = refl
enough zero (suc m) (t ∷ ts) h k = absurd (omega arith)
enough (suc n) zero [] h k = refl
enough (suc n) zero (t ∷ ts) h k = absurd (omega arith)
enough (suc n) (suc m) ts h k = go (annotation_first ts) refl (λ rest a b. enough n m rest a b)
  where
    Later : Type 0
    Later = (rest : List Lexeme) → length rest ≤ n → length rest ≤ m
        → annotations_end n rest ≡ annotations_end m rest

    behind : (inside : List Lexeme) (r : Read (List Lexeme)) → length inside < length ts
        → r ≡ group_end 0 inside → Later
        → (r >>= (λ rest. annotations_end n rest)) ≡ (r >>= (λ rest. annotations_end m rest))
    behind inside (Ok rest) lt is later = let le = group_shorter 0 inside rest (sym is) in
        later rest (omega (arith, le)) (omega (arith, le))
    behind inside (Err e) lt is later = refl

    go : (found : Option (List Lexeme)) → found ≡ annotation_first ts → Later
        → behind_annotation found ts (λ rest. annotations_end n rest)
        ≡ behind_annotation found ts (λ rest. annotations_end m rest)
    go None is later = refl
    go (Some inside) is later =
        behind inside (group_end 0 inside) (annotation_shorter ts inside (sym is)) refl later

pub passed : (ts inside rest : List Lexeme) → annotation_first ts ≡ Some inside
    → group_end 0 inside ≡ Ok rest → behind_annotations ts ≡ behind_annotations rest
unfolding annotations_end
passed [] inside rest is end = absurd cc
passed (t ∷ ts) inside rest is end =
    let lt = annotation_shorter (t ∷ ts) inside is in
    let le = group_shorter 0 inside rest end in
    ap (λ (found : Option (List Lexeme)).
    behind_annotation found (t ∷ ts) (λ rest. annotations_end (length ts) rest)) is
    ∙ ap (λ (r : Read (List Lexeme)). r >>= (λ rest. annotations_end (length ts) rest)) end
    ∙ enough (length ts) (length rest) rest (omega (arith, lt, le)) (omega arith)

fails : (ts inside : List Lexeme) (e : Option ℕ) → annotation_first ts ≡ Some inside
    → group_end 0 inside ≡ Err e → behind_annotations ts ≡ Err e
unfolding annotations_end
fails [] inside e is end = absurd cc
fails (t ∷ ts) inside e is end =
    ap (λ (found : Option (List Lexeme)).
    behind_annotation found (t ∷ ts) (λ rest. annotations_end (length ts) rest)) is
    ∙ ap (λ (r : Read (List Lexeme)). r >>= (λ rest. annotations_end (length ts) rest)) end

pub none_left : (ts : List Lexeme) → annotation_first ts ≡ None → behind_annotations ts ≡ Ok ts
unfolding annotations_end
none_left [] is = refl
none_left (t ∷ ts) is = ap (λ (found : Option (List Lexeme)).
    behind_annotation found (t ∷ ts) (λ rest. annotations_end (length ts) rest)) is

pub stops : {E F : Type 0} (ts inside : List Lexeme) (whole : Read (List Lexeme)) (stop : Stop)
    (see : E → List Lexeme) (seen : F → List Lexeme)
    → annotation_first ts ≡ Some inside → Gives {X = E} (Err stop) (group_end 0 inside) see
    → whole ≡ behind_annotations ts → Gives {X = F} (Err stop) whole seen
stops ts inside whole (stop.At place) see seen is end before =
    before ∙ fails ts inside (Some place) is end
stops ts inside whole stop.End see seen is end before = before ∙ fails ts inside None is end
stops ts inside whole stop.Memory see seen is end before = tt
