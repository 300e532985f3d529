use Rattle.std.proofs.Common.{map, sym, ◌∙◌, arith}
use Rattle.owl_tokens.specs.Tokens.{lexeme}
use Rattle.owl_documents.proofs.AnnotationLemmas.{passed, stops, none_left}
use Rattle.owl_documents.proofs.items.behind_annotations.Goals as goal

pub groups-preserved : goal.groups-preserved
groups-preserved c =
    let bytes = c.args.bytes.now in
    record {
      room = omega (
        arith,
        c.groups.invariant.room,
        c.in-Some.ensures.shorter,
        c.in-Ok.ensures.shorter,
      );
      read =
          c.groups.invariant.read
          ∙ passed (map (lexeme bytes) c.groups.rest.now) (map (lexeme bytes) c.in-Some.inside.now)
          (map (lexeme bytes) c.in-Ok.next.now) (sym c.in-Some.ensures.given)
          (c.in-Ok.ensures.given bytes);
    }

pub returns-in-Err-clause-given : goal.returns-in-Err-clause-given
returns-in-Err-clause-given c =
    let bytes = c.args.bytes.now in
    stops (map (lexeme bytes) c.groups.rest.now) (map (lexeme bytes) c.in-Some.inside.now) _
    c.in-Err.stop _ _ (sym c.in-Some.ensures.given) (c.in-Err.ensures.given bytes)
    c.groups.invariant.read

pub returns-in-None-clause-given : goal.returns-in-None-clause-given
returns-in-None-clause-given c =
    c.groups.invariant.read ∙ none_left (map (lexeme c.args.bytes.now) c.groups.rest.now)
    (sym c.in-None.ensures.given)
