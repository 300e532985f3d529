-- Both sides of a clash.
use Rattle.std.proofs.Common.{◌≡◌, sym, ◌∙◌, ap}
use Rattle.std.specs.Prelude.{Some}
use Rattle.dl_syntax.specs.declared.facts.Element.{Element}
use Rattle.dl_syntax.specs.declared.facts.Fact.{Fact}
use Rattle.dl_syntax.specs.declared.ontology.Basic.{Basic}
use Rattle.dl_syntax.specs.declared.ontology.Role.{Role}
use Rattle.dl_syntax.specs.declared.ontology.Clash.TheVariants as clash
use Rattle.dl_syntax.specs.Facts.{element_in, pair_in}
use Rattle.dl_syntax.proofs.FactLaws.{In-element_in, element_in-In, Pair-pair_in, pair_in-Pair}
use Rattle.run_proofs.specs.Matching.{AreSides}

module _ (b c : Basic) (f g : Fact) where
  pub shared_element : (e e' : Element) → element_in b f ≡ Some e → element_in c g ≡ Some e'
      → e ≡ e' → AreSides (clash.Concepts b c) f g
  shared_element e e' first second same =
      (e, In-element_in b f e first, In-element_in c g e (second ∙ ap Some (sym same)))

  pub element_shared : (e e' : Element) → element_in b f ≡ Some e → element_in c g ≡ Some e'
      → AreSides (clash.Concepts b c) f g → e ≡ e'
  element_shared e e' first second (x, left, right) =
      let one : Some e ≡ Some x = sym first ∙ element_in-In b f x left in
      let other : Some e' ≡ Some x = sym second ∙ element_in-In c g x right in
      cc

module _ (r s : Role) (f g : Fact) where
  pub shared_pair : (p q : Element × Element) → pair_in r f ≡ Some p → pair_in s g ≡ Some q → p ≡ q
      → AreSides (clash.Roles r s) f g
  shared_pair p q first second same = (
    p.0,
    p.1,
    Pair-pair_in r f p.0 p.1 first,
    Pair-pair_in s g p.0 p.1
        (second ∙ ap Some (sym same)),
  )

  pub pair_shared : (p q : Element × Element) → pair_in r f ≡ Some p → pair_in s g ≡ Some q
      → AreSides (clash.Roles r s) f g → p ≡ q
  pair_shared p q first second (x, y, left, right) =
      let one : Some p ≡ Some (x, y) = sym first ∙ pair_in-Pair r f x y left in
      let other : Some q ≡ Some (x, y) = sym second ∙ pair_in-Pair s g x y right in
      cc
