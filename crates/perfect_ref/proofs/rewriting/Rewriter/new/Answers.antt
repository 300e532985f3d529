use Rattle.std.proofs.Common.{List, length, sym, subst}
use Rattle.std.specs.List.{All}
use Rattle.dl_syntax.specs.declared.ontology.Inclusion.{Inclusion}
use Rattle.dl_syntax.specs.Encode.{IsUnqualified}
use Rattle.dl_syntax.proofs.EncodingShape.{encoding_is_plain}
use Rattle.perfect_ref.proofs.rewriting.Rewriter.new.Goals as goal

pub new-requires : goal.new-requires
new-requires c =
    subst (λ (xs : List Inclusion). All IsUnqualified xs) (sym c.in_ok-inclusions.ensures)
    (encoding_is_plain (length c.args.ontology.now.concepts) (length c.args.ontology.now.roles)
    c.args.ontology.now.inclusions c.count-roles.ensures.sound.inclusions_declared).0
