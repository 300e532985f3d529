use Rattle.std.proofs.Common.{◌≡◌, ◌-◌, length, map, refl, sym, ◌∙◌, arith}
use Rattle.std.proofs.lemmas.List.{length-map}
use Rattle.owl_tokens.specs.Tokens.{lexeme}
use Rattle.owl_documents.specs.Items.{closes, item_first}
use Rattle.owl_documents.specs.ItemViews.{item_seen}
use Rattle.owl_tokens.specs.Tables.{Table}
use Rattle.owl_documents.proofs.ManyLemmas.{NeedsTokens, many_ends, loop_next}
use Rattle.owl_documents.proofs.ManyLemmas.{loop_fails}
use Rattle.owl_documents.proofs.documents.items_listed.Goals as goal

needs : (known : Table) → NeedsTokens closes (item_first known)
unfolding item_first
needs known = record { goes_on = refl; fails = refl }

pub listed-preserved : goal.listed-preserved
listed-preserved c =
    let bytes = c.args.bytes.now in
    let ts = map (lexeme bytes) c.listed.rest.now in
    let long : length ts ≡ length c.listed.rest.now = length-map c.listed.rest.now (lexeme bytes) in
    let grown = c.in_ok-push-in-Ok.ensures.items in
    record {
      room = omega (
        arith,
        c.listed.invariant.room,
        c.in-Ok.ensures.shorter,
        c.in_ok-push-in-Ok.ensures.len,
      );
      read =
          loop_next closes (item_first c.args.known.now) (needs c.args.known.now) (item_seen bytes)
          c.listed.items.items c.push.new.self.items c.in-Ok.item _ (length c.args.tokens.now)
          ts (map (lexeme bytes) c.in-Ok.next.now)
          grown (sym (c.closes.ensures bytes) ∙ c.listed-test.true) c.in-Ok.ensures.given
          (omega (arith, long, c.listed.invariant.room)) c.listed.invariant.read;
    }

pub returns-in-Err-clause-given : goal.returns-in-Err-clause-given
returns-in-Err-clause-given c =
    let bytes = c.args.bytes.now in
    let ts = map (lexeme bytes) c.listed.rest.now in
    let long : length ts ≡ length c.listed.rest.now = length-map c.listed.rest.now (lexeme bytes) in
    loop_fails closes (item_first c.args.known.now) (needs c.args.known.now)
    (map (item_seen bytes) c.listed.items.items)
    (length c.args.tokens.now - length c.listed.items.items) ts c.in-Err.stop _ _ _
    (sym (c.closes.ensures bytes) ∙ c.listed-test.true) c.in-Err.ensures.given
    (omega (arith, long, c.listed.invariant.room)) c.listed.invariant.read

pub returns-clause-given : goal.returns-clause-given
returns-clause-given c =
    let bytes = c.args.bytes.now in
    let ts = map (lexeme bytes) c.listed.rest.now in
    let long : length ts ≡ length c.listed.rest.now = length-map c.listed.rest.now (lexeme bytes) in
    c.listed.invariant.read
    ∙ many_ends closes (item_first c.args.known.now) (needs c.args.known.now)
    (map (item_seen bytes) c.listed.items.items)
    (length c.args.tokens.now - length c.listed.items.items) ts
    (sym (c.closes.ensures bytes) ∙ c.listed-test.false)
    (omega (arith, long, c.listed.invariant.room))
