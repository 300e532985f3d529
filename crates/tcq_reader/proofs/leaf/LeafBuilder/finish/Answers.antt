use Rattle.std.proofs.Common.{◌≡◌, ℕ, List, [], map, ap, sym, ◌∙◌, Bor, take}
use Rattle.std.proofs.lemmas.List.{take-map}
use Rattle.tcq_reader.proofs.leaf.LeafBuilder.finish.Goals as goal

pub returns-clause-empty : goal.returns-clause-empty
returns-clause-empty c =
    let see : Bor (List ℕ) → List ℕ = λ (v : Bor (List ℕ)). v.now in
    let vars = c.args.self.now.vars in
    let old = c.args.self.now.variables.items in
    let seen : map see c.truncate.new.self.items ≡ take vars (map see old) =
    ap (map see) c.truncate.ensures.items ∙ sym (take-map see vars old) in
    let body : c.replace-body.new.dest.items ≡ [] =
    rw c.replace-body.ensures.after c.new.ensures.items in
    cc
