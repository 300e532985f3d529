use Rattle.std.proofs.Common.{◌≡◌, ◌<◌, ◌∙◌, length, sym, ap, arith, rules}
use Rattle.std.specs.Prelude.{Ok}
use Rattle.dl_syntax.specs.Ontology.{IsDeclared, names_of, most_names}
use Rattle.ontology_reader.proofs.Declared.{few_names, declared_twice, declared_full, declared_new}
use Rattle.ontology_reader.proofs.adding.declare.Goals as goal

pub returns-in-Ok : goal.returns-in-Ok
returns-in-Ok c =
    let o = c.args.ontology.now in
    let kind = c.args.kind in
    let new : IsDeclared o c.args.name.now → ⊥ = λ known. let e = c.in-Ok.ensures.twice.1 known in
    cc in
    let room : length (names_of kind o) < most_names kind =
    omega (
      arith,
      few_names kind o c.count.ensures.sound,
      let h : length (names_of kind o)
          ≡ most_names kind → ⊥ = λ full. let e = c.in-Ok.ensures.many.1 (new, full) in cc in h,
    ) in
    declared_new o kind c.args.name.now new room ∙ ap Ok (sym c.in-Ok.ensures.ok.1)

pub returns-in-Err-NameTwice : goal.returns-in-Err-NameTwice
returns-in-Err-NameTwice c =
    let is = rw c.in-Err-NameTwice.field-0-is at c.in-Err-NameTwice.ensures.twice in
    declared_twice c.args.ontology.now c.args.kind c.args.name.now (is.0 (search rules))

pub returns-in-Err-TooMany : goal.returns-in-Err-TooMany
returns-in-Err-TooMany c =
    let is = rw c.in-Err-TooMany.field-0-is at c.in-Err-TooMany.ensures.many in
    let full = is.0 (search rules) in
    declared_full c.args.ontology.now c.args.kind c.args.name.now full.0 full.1
