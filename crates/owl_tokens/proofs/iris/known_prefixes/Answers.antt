use Rattle.std.proofs.Common.{◌+◌, sym, ap, ◌∙◌, arith, map, drop}
use Rattle.owl_tokens.specs.Tables.{Table}
use Rattle.owl_tokens.specs.Iris.{with_prefixes}
use Rattle.owl_tokens.specs.IriViews.{prefix_seen}
use Rattle.owl_tokens.proofs.PrefixLemmas.{prefix_next, prefixes_end}
use Rattle.owl_tokens.proofs.iris.known_prefixes.Goals as goal

pub loop-place-init : goal.loop-place-init
loop-place-init c = record {
  within = omega arith;
  read = ap (λ (t : Table). with_prefixes t (map prefix_seen c.args.declared.now))
      (sym c.in_ok-put_own_prefixes.ensures);
}

pub loop-place-preserved : goal.loop-place-preserved
loop-place-preserved c = record {
  within = omega arith;
  read =
      c.loop-place.invariant.read
      ∙ prefix_next c.loop-place.known c.loop-place.place c.args.declared.now c.loop-place-test.true
      ∙ ap (λ (t : Table). with_prefixes t
      (map prefix_seen (drop (c.loop-place.place + 1) c.args.declared.now)))
      (sym c.in_ok-declare_prefix.ensures);
}

pub returns : goal.returns
returns c = sym (c.loop-place.invariant.read ∙ prefixes_end c.loop-place.known c.loop-place.place
    c.args.declared.now c.loop-place-test.false)
