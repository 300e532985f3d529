use Rattle.std.proofs.Common.{◌≡◌, length, sym, ◌∙◌, ap}
use Rattle.std.proofs.lemmas.List.{length-map}
use Rattle.consistency.specs.declared.rewriting.Rewriting.{Rewriting}
use Rattle.consistency.specs.Prepared.{Prepared}
use Rattle.consistency.proofs.clashes.Clashes.count.Goals as goal

pub returns : goal.returns
returns c =
    let own : c.len.result ≡ length c.self.inside.rewritings.items =
    c.len.ensures ∙ c.self.inside.rewritings.ok.0 in
    own ∙ (ap (λ (p : Prepared). length p.rewritings) c.self.view_is ∙ sym
    (length-map c.args.self.now.rewritings (λ (r : Rewriting). r.core.items)))
