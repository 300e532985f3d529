use Rattle.std.proofs.Common.{◌≡◌, ◌-◌, length, map, refl, sym, ◌∙◌, arith}
use Rattle.std.proofs.lemmas.List.{length-map}
use Rattle.owl_tokens.specs.Tokens.{lexeme}
use Rattle.owl_documents.specs.Documents.{no_prefix, prefix_first}
use Rattle.owl_tokens.specs.IriViews.{prefix_seen}
use Rattle.owl_documents.proofs.ManyLemmas.{NeedsTokens, many_ends, loop_next}
use Rattle.owl_documents.proofs.ManyLemmas.{loop_fails}
use Rattle.owl_documents.proofs.documents.prefixes_first.Goals as goal

needs : NeedsTokens no_prefix prefix_first
unfolding prefix_first
needs = record { goes_on = refl; fails = refl }

pub loop-rest-preserved : goal.loop-rest-preserved
loop-rest-preserved c =
    let bytes = c.args.bytes.now in
    let ts = map (lexeme bytes) c.loop-rest.rest.now in
    let long : length ts ≡ length c.loop-rest.rest.now =
    length-map c.loop-rest.rest.now (lexeme bytes) in
    let grown = c.in_ok-push-in-Ok.ensures.items in
    record {
      room = omega (
        arith,
        c.loop-rest.invariant.room,
        c.in-Ok.ensures.shorter,
        c.in_ok-push-in-Ok.ensures.len,
      );
      read =
          loop_next no_prefix prefix_first needs prefix_seen c.loop-rest.prefixes.items
          c.push.new.self.items c.in-Ok.prefix _ (length c.args.tokens.now) ts
          (map (lexeme bytes) c.in-Ok.next.now)
          grown (sym c.no_prefix.ensures ∙ c.loop-rest-test.true) c.in-Ok.ensures.given
          (omega (arith, long, c.loop-rest.invariant.room)) c.loop-rest.invariant.read;
    }

pub returns-in-Err-clause-given : goal.returns-in-Err-clause-given
returns-in-Err-clause-given c =
    let bytes = c.args.bytes.now in
    let ts = map (lexeme bytes) c.loop-rest.rest.now in
    let long : length ts ≡ length c.loop-rest.rest.now =
    length-map c.loop-rest.rest.now (lexeme bytes) in
    loop_fails no_prefix prefix_first needs (map prefix_seen c.loop-rest.prefixes.items)
    (length c.args.tokens.now - length c.loop-rest.prefixes.items) ts c.in-Err.stop _ _ _
    (sym c.no_prefix.ensures ∙ c.loop-rest-test.true) c.in-Err.ensures.given
    (omega (arith, long, c.loop-rest.invariant.room)) c.loop-rest.invariant.read

pub returns-clause-given : goal.returns-clause-given
returns-clause-given c =
    let bytes = c.args.bytes.now in
    let ts = map (lexeme bytes) c.loop-rest.rest.now in
    let long : length ts ≡ length c.loop-rest.rest.now =
    length-map c.loop-rest.rest.now (lexeme bytes) in
    c.loop-rest.invariant.read
    ∙ many_ends no_prefix prefix_first needs (map prefix_seen c.loop-rest.prefixes.items)
    (length c.args.tokens.now - length c.loop-rest.prefixes.items) ts
    (sym c.no_prefix.ensures ∙ c.loop-rest-test.false)
    (omega (arith, long, c.loop-rest.invariant.room))
