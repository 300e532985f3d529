use Rattle.std.proofs.Common.{List, [], ◌∷◌, subst}
use Rattle.std.specs.Prelude.{◌↔◌, IsTrue}
use Rattle.std.specs.List.Sorted.{IsPermutation}
use Rattle.std.proofs.lemmas.Result.{IfOk-weaker}
use Rattle.dl_syntax.specs.declared.queries.Term.{Term}
use Rattle.dl_syntax.specs.declared.queries.Atom.{Atom}
use Rattle.ucq_join.specs.declared.bindings.Binding.{Binding}
use Rattle.ucq_join.specs.Partial.{HasMatch}
use Rattle.ucq_join.specs.Split.{AddsTerms, IsSplit}
use Rattle.ucq_join.proofs.Parts.{with_atom, part_answer}
use Rattle.ucq_join.proofs.split.has_part.Goals as goal

pub returns-clause-found : goal.returns-clause-found
returns-clause-found c =
    let adds : AddsTerms c.args.atom [] c.push_terms.new.known.items =
    subst (λ (xs : List Term). AddsTerms c.args.atom xs c.push_terms.new.known.items)
    c.new-terms.ensures.items c.in_ok-push_terms.ensures in
    let split : IsSplit c.push_terms.new.known.items c.args.rest.now.items c.in_ok-part.part.items
    c.take_joined.new.rest.items =
    subst (λ (xs : List Term). IsSplit xs c.args.rest.now.items c.in_ok-part.part.items
    c.take_joined.new.rest.items) c.as_slice.ensures.value c.in_ok-part.ensures.split in
    let whole : IsSplit [] (c.args.atom ∷ c.args.rest.now.items) c.push.new.self.items
    c.take_joined.new.rest.items =
    with_atom c.args.atom c.push_terms.new.known.items c.args.rest.now.items c.in_ok-part.part.items
    c.take_joined.new.rest.items c.push.new.self.items adds split c.in_ok-push.ensures.items in
    let p : IsPermutation c.push.new.self.items c.in_ok-body.body.items =
    subst (λ (xs : List Atom). IsPermutation xs c.in_ok-body.body.items)
    c.as_slice-2.ensures.value c.in_ok-body.ensures in
    IfOk-weaker c.has_match.result
    (λ found. IsTrue found ↔ HasMatch c.args.index.now c.as_slice-3.result.now
    c.new-bindings.result.items) _
    (λ found is.
    part_answer c.args.index.now c.args.atom c.args.rest.now.items c.push.new.self.items
    c.in_ok-body.body.items c.take_joined.new.rest.items whole p found
    (subst (λ (bs : List Binding). IsTrue found
    ↔ HasMatch c.args.index.now c.in_ok-body.body.items bs) c.new-bindings.ensures.items
    (subst (λ (xs : List Atom). IsTrue found
    ↔ HasMatch c.args.index.now xs c.new-bindings.result.items) c.as_slice-3.ensures.value is)))
    c.has_match.ensures.found
