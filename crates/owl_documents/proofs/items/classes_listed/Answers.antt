use Rattle.std.proofs.Common.{◌≡◌, ◌-◌, length, map, refl, sym, ◌∙◌, arith}
use Rattle.std.proofs.lemmas.List.{length-map}
use Rattle.owl_tokens.specs.Tokens.{lexeme}
use Rattle.owl_documents.specs.Terms.{term_first, basic_first, class_first}
use Rattle.owl_documents.specs.Items.{closes}
use Rattle.owl_documents.specs.Views.{class_seen}
use Rattle.owl_tokens.specs.Tables.{Table}
use Rattle.owl_documents.proofs.ManyLemmas.{NeedsTokens, many_ends, loop_next}
use Rattle.owl_documents.proofs.ManyLemmas.{loop_fails}
use Rattle.owl_documents.proofs.items.classes_listed.Goals as goal

needs : (known : Table) → NeedsTokens closes (basic_first known)
unfolding basic_first term_first class_first
needs known = record { goes_on = refl; fails = refl }

pub loop-rest-preserved : goal.loop-rest-preserved
loop-rest-preserved c =
    let bytes = c.args.bytes.now in
    let ts = map (lexeme bytes) c.loop-rest.rest.now in
    let long : length ts ≡ length c.loop-rest.rest.now =
    length-map c.loop-rest.rest.now (lexeme bytes) in
    let grown = c.in_ok-push-in-Ok.ensures.items in
    record {
      room = omega (
        arith,
        c.loop-rest.invariant.room,
        c.in-Ok.ensures.shorter,
        c.in_ok-push-in-Ok.ensures.len,
      );
      read =
          loop_next closes (basic_first c.args.known.now) (needs c.args.known.now)
          (class_seen bytes) c.loop-rest.classes.items c.push.new.self.items c.in-Ok.class _
          (length c.args.tokens.now) ts (map (lexeme bytes) c.in-Ok.next.now)
          grown (sym (c.closes.ensures bytes) ∙ c.loop-rest-test.true) c.in-Ok.ensures.given
          (omega (arith, long, c.loop-rest.invariant.room)) c.loop-rest.invariant.read;
    }

pub returns-in-Err-clause-given : goal.returns-in-Err-clause-given
returns-in-Err-clause-given c =
    let bytes = c.args.bytes.now in
    let ts = map (lexeme bytes) c.loop-rest.rest.now in
    let long : length ts ≡ length c.loop-rest.rest.now =
    length-map c.loop-rest.rest.now (lexeme bytes) in
    loop_fails closes (basic_first c.args.known.now) (needs c.args.known.now)
    (map (class_seen bytes) c.loop-rest.classes.items)
    (length c.args.tokens.now - length c.loop-rest.classes.items) ts c.in-Err.stop _ _ _
    (sym (c.closes.ensures bytes) ∙ c.loop-rest-test.true) c.in-Err.ensures.given
    (omega (arith, long, c.loop-rest.invariant.room)) c.loop-rest.invariant.read

pub returns-clause-given : goal.returns-clause-given
returns-clause-given c =
    let bytes = c.args.bytes.now in
    let ts = map (lexeme bytes) c.loop-rest.rest.now in
    let long : length ts ≡ length c.loop-rest.rest.now =
    length-map c.loop-rest.rest.now (lexeme bytes) in
    c.loop-rest.invariant.read
    ∙ many_ends closes (basic_first c.args.known.now) (needs c.args.known.now)
    (map (class_seen bytes) c.loop-rest.classes.items)
    (length c.args.tokens.now - length c.loop-rest.classes.items) ts
    (sym (c.closes.ensures bytes) ∙ c.loop-rest-test.false)
    (omega (arith, long, c.loop-rest.invariant.room))
