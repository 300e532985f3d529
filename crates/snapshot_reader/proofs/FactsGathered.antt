-- Gathering one fact after the other.
use Rattle.std.proofs.Common.{◌≡◌, List, [], ◌∷◌, ◌++◌, refl, sym, ap, ◌∙◌, subst, append_assoc}
use Rattle.std.specs.Prelude.{Option, Some, None}
use Rattle.std.specs.Option.{option_map}
use Rattle.std.proofs.lemmas.List.{append-nil}
use Rattle.std.specs.List.{All}
use Rattle.dl_syntax.specs.Facts.{HasNoNull}
use Rattle.dl_syntax.specs.Ontology.{Declared}
use Rattle.snapshot_reader.specs.declared.gathering.Gathered.{Gathered}
use Rattle.snapshot_reader.specs.Written.{Written}
use Rattle.snapshot_reader.specs.Gathering.{Gathers}
use Rattle.snapshot_reader.proofs.FactsSaid.{facts_free}

-- the facts that were gathered, and those that follow
abbrev pub behind_facts : List Written → Option (List Written) → Option (List Written)
behind_facts done left = option_map (λ facts. done ++ facts) left

-- some facts of the whole were gathered, and these are left
pub record HasGathered (o : Declared) (whole left : Option (List Written)) (h : Gathered) : Type 0
  where
    pub done : List Written
    pub rest : behind_facts done left ≡ whole
    pub gathers : Gathers o done h

pub nothing_behind : (facts : Option (List Written)) → behind_facts [] facts ≡ facts
nothing_behind None = refl
nothing_behind (Some facts) = refl

pub at_first : (o : Declared) (whole : Option (List Written)) (h : Gathered) → Gathers o [] h
    → HasGathered o whole whole h
at_first o whole h gathers = record { done = []; rest = nothing_behind whole; gathers = gathers }

pub moved : (done : List Written) (w : Written) (left : Option (List Written))
    → behind_facts done (option_map (λ facts. w ∷ facts) left) ≡ behind_facts (done ++ w ∷ []) left
moved done w None = refl
moved done w (Some facts) = ap Some (simp append_assoc)

pub one_more : (o : Declared) (whole left later : Option (List Written)) (w : Written)
    (old new : Gathered) → HasGathered o whole left old
    → left ≡ option_map (λ facts. w ∷ facts) later
    → ((done : List Written) → Gathers o done old → Gathers o (done ++ w ∷ []) new)
    → HasGathered o whole later new
one_more o whole left later w old new h first more = record {
  done = h.done ++ w ∷ [];
  rest = sym (moved h.done w later) ∙ ap (behind_facts h.done) (sym first) ∙ h.rest;
  gathers = more h.done h.gathers;
}

pub all_gathered : (o : Declared) (whole left : Option (List Written)) (gathered : Gathered)
    (h : HasGathered o whole left gathered) → left ≡ Some [] → whole ≡ Some h.done
all_gathered o whole left gathered h end =
    sym h.rest ∙ ap (behind_facts h.done) end ∙ ap Some (append-nil h.done)

pub none_gathered : (o : Declared) (whole left : Option (List Written)) (gathered : Gathered)
    (h : HasGathered o whole left gathered) → left ≡ None → whole ≡ None
none_gathered o whole left gathered h bad = sym h.rest ∙ ap (behind_facts h.done) bad

pub without_nulls : (o : Declared) (whole left : Option (List Written)) (gathered : Gathered)
    → HasGathered o whole left gathered → All HasNoNull gathered.facts.items
without_nulls o whole left gathered h =
    subst (All HasNoNull) (sym h.gathers.facts) (facts_free o h.done)
