-- The text of a proof by its pieces.
use Rattle.std.proofs.Common.{◌≡◌, ℕ, List, [], ◌∷◌, ◌++◌, codes, refl, ◌∙◌, ap, append_assoc}
use Rattle.std.specs.Prelude.{flat_map, map}
use Rattle.std.proofs.lemmas.Grind.{flat_map-append}
use Rattle.std.proofs.lemmas.List.{append-nil}
use Rattle.dl_syntax.specs.Ontology.{Declared}
use Rattle.tcq_syntax.specs.Tcq.{Tcq}
use Rattle.run_proofs.specs.declared.proof.Proof.{Proof}
use Rattle.run_proofs.specs.Texts.{goal_text, snapshot_text, step_text, ending_text, proof_text}

-- the texts of the images
pub flat_images : {X : Type 0} (line : X → List ℕ) (end : List ℕ) (xs : List X)
    → flat_map (λ t. t ++ end) (map line xs) ≡ flat_map (λ x. line x ++ end) xs
flat_images line end [] = refl
flat_images line end (x ∷ xs) =
    ap (λ (rest : List ℕ). (line x ++ end) ++ rest) (flat_images line end xs)

-- lines around others
pub lines_around : (end goal snapshot ending last : List ℕ) (between : List (List ℕ))
    (steps : List ℕ) → flat_map (λ t. t ++ end) between ≡ steps
    → flat_map (λ t. t ++ end) (goal ∷ snapshot ∷ between ++ ending ∷ last ∷ [])
    ≡ goal ++ (end ++ (snapshot ++ (end ++ (steps ++ (ending ++ (end ++ (last ++ end)))))))
lines_around end goal snapshot ending last between steps is =
    ap (λ (rest : List ℕ). (goal ++ end) ++ ((snapshot ++ end) ++ rest))
    (flat_map-append (λ t. t ++ end) between (ending ∷ last ∷ [])
    ∙ ap (λ (s : List ℕ). s ++ flat_map (λ t. t ++ end) (ending ∷ last ∷ [])) is)
    ∙ simp (append_assoc, append-nil)

-- a text that gained the pieces gained them as one
pub pieces_joined : (end : List ℕ) (goal snapshot steps ending last : List ℕ)
    (o0 o1 o2 o3 o4 o5 o6 o7 : List ℕ) → o1 ≡ o0 ++ goal → o2 ≡ o1 ++ end
    → o3 ≡ o2 ++ snapshot → o4 ≡ o3 ++ end → o5 ≡ o4 ++ steps → o6 ≡ o5 ++ ending
    → o7 ≡ o6 ++ last
    → o7 ≡ o0 ++ (goal ++ (end ++ (snapshot ++ (end ++ (steps ++ (ending ++ last))))))
pieces_joined end goal snapshot steps ending last o0 o1 o2 o3 o4 o5 o6 o7 a b c d e f g =
    whole ∙ simp append_assoc
  where
    whole : o7 ≡ ((((((o0 ++ goal) ++ end) ++ snapshot) ++ end) ++ steps) ++ ending) ++ last
    whole = cc

pub whole_proof : (o : Declared) (queries : List Tcq) (proof : Proof) →
    proof_text o queries proof
    ≡ goal_text o.individuals queries proof.goal ++ (10 ∷ [] ++ (snapshot_text o proof.facts
    ++ (10 ∷ [] ++ (flat_map (λ s. step_text s ++ 10 ∷ []) proof.steps
    ++ (ending_text o.individuals proof.ending ++ codes "\nend\n")))))
whole_proof o queries proof =
    lines_around (10 ∷ []) (goal_text o.individuals queries proof.goal)
    (snapshot_text o proof.facts) (ending_text o.individuals proof.ending) (codes "end")
    (map step_text proof.steps) (flat_map (λ s. step_text s ++ 10 ∷ []) proof.steps)
    (flat_images step_text (10 ∷ []) proof.steps)

-- and so for the pieces of the first line
pub answer_joined : (word name space digits row : List ℕ) (o0 o1 o2 o3 o4 o5 : List ℕ)
    → o1 ≡ o0 ++ word → o2 ≡ o1 ++ name → o3 ≡ o2 ++ space → o4 ≡ o3 ++ digits → o5 ≡ o4 ++ row
    → o5 ≡ o0 ++ (word ++ (name ++ (space ++ (digits ++ row))))
answer_joined word name space digits row o0 o1 o2 o3 o4 o5 a b c d e = whole ∙ simp append_assoc
  where
    whole : o5 ≡ ((((o0 ++ word) ++ name) ++ space) ++ digits) ++ row
    whole = cc
