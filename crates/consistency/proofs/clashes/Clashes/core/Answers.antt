use Rattle.std.proofs.Common.{◌≡◌, ◌<◌, ℕ, List, length, refl, sym, ◌∙◌, ap, subst}
use Rattle.std.specs.Prelude.{Some, slice_get, option_map}
use Rattle.std.proofs.lemmas.Option.{slice_get_read, slice_get-map}
use Rattle.std.proofs.lemmas.List.{length-map}
use Rattle.consistency.specs.declared.rewriting.Rewriting.{Rewriting}
use Rattle.consistency.specs.Prepared.{Prepared, cores_of}
use Rattle.consistency.proofs.clashes.Clashes.core.Goals as goal

few : (p own : Prepared) (place : ℕ) → own ≡ p → place < length (cores_of p)
    → place < length own.rewritings
few p own place same small = subst (λ (n : ℕ).
    place < n) (length-map p.rewritings (λ (r : Rewriting).
    r.core.items) ∙ sym (ap (λ (z : Prepared). length z.rewritings) same)) small

pub returns : goal.returns
returns c =
    let own = c.self.inside.rewritings.items in
    let r : Rewriting = c.index.result.now in
    let same : own ≡ c.args.self.now.rewritings =
    ap (λ (p : Prepared). p.rewritings) c.self.view_is in
    let within : c.args.place < length own =
    few c.args.self.now _ c.args.place c.self.view_is c.requires in
    let there : slice_get own c.args.place ≡ Some r =
    slice_get_read own (length own) c.args.place r refl within c.index.ensures in
    slice_get-map (λ (z : Rewriting). z.core.items) c.args.self.now.rewritings c.args.place
    ∙ (ap (option_map (λ (z : Rewriting). z.core.items))
    (subst (λ (rs : List Rewriting). slice_get rs c.args.place ≡ Some r) same there)
    ∙ ap Some (sym c.as_slice.ensures.value))
