-- The containments of the same queries are one text.
use Rattle.std.proofs.Common.{◌≡◌, ℕ, List, [], ◌∷◌, ◌++◌, refl, sym, ◌∙◌, ap}
use Rattle.dl_syntax.specs.declared.names.IndId.{IndId}
use Rattle.dl_syntax.specs.declared.facts.Fact.{Fact}
use Rattle.dl_syntax.specs.declared.queries.Cq.{Cq}
use Rattle.dl_syntax.specs.Ontology.{Declared}
use Rattle.contain_test.specs.declared.deciding.Containment.{Containment}
use Rattle.contain_test.specs.declared.deciding.Containment.TheVariants.{Yes, No}
use Rattle.contain_test.specs.Contained.{IsExact}
use Rattle.containment_text.specs.Containments.{Pair, pairs, pair_line, TellsPair, TellsPairs}
use Rattle.containment_text.specs.Containments.{OneContainment}

module _ (o : Declared) where
  one_verdict : (first second : Cq) (c d : Containment) → IsExact o first second c
      → IsExact o first second d → c ≡ d
  one_verdict first second Yes d is other = sym (other.exact.1 (is.exact.0 refl))
  one_verdict first second (No facts row) Yes is other = is.exact.1 (other.exact.0 refl)
  one_verdict first second (No facts row) (No facts' row') is other =
      ap (λ (fs : List Fact). No fs row) (is.shown.frozen.body ∙ sym other.shown.frozen.body)
      ∙ ap (λ (r : List IndId). No facts' r) (is.shown.frozen.head ∙ sym other.shown.frozen.head)

  one_pair : (pair : Pair) (one other : List ℕ) → TellsPair o pair one → TellsPair o pair other
      → one ≡ other
  one_pair pair one other a b =
      a.is ∙ (ap (pair_line o pair.first_name pair.second_name)
      (one_verdict pair.first pair.second a.containment b.containment a.exact b.exact) ∙ sym
      b.is)

  one_told : (ps : List Pair) (one other : List ℕ) → TellsPairs o ps one → TellsPairs o ps other
      → one ≡ other
  one_told [] one other a b = a ∙ sym b
  one_told (p ∷ ps) one other (first, rest, pair, later, is) (first', rest', pair', later', is') =
      is ∙ (ap (λ (t : List ℕ). t ++ rest)
      (one_pair p first first' pair pair') ∙ (ap (λ (t : List ℕ).
      first' ++ t) (one_told ps rest rest' later later') ∙ sym is'))

pub one_containment : OneContainment
one_containment setting one other a b =
    one_told setting.ontology (pairs setting.queries) one other a b
