use Rattle.std.proofs.lemmas.Result.{on_ok_weaker}
use Rattle.worklist.proofs.Closed.{slice_get-from_read}
use Rattle.proof_search.proofs.Growing.{expand_grows}
use Rattle.proof_search.proofs.reached.expand.Goals as goal

pub returns : goal.returns
returns c =
    let there = slice_get-from_read c.args.reached.now.found.keys c.as_slice.result.now
    c.args.place c.index-as_slice-place.result c.as_slice.ensures.keys c.requires.within
    c.index-as_slice-place.is in
    on_ok_weaker c.add_reducts.result
    (λ reduced. expand_grows c.args.inclusions.now c.args.reached.now.found.keys
    c.add_all_replacements.new.reached.found.keys c.add_reducts.new.reached.found.keys
    c.args.reached.now.links.items c.add_all_replacements.new.reached.links.items
    c.add_reducts.new.reached.links.items c.args.place c.index-as_slice-place.result
    c.in_ok-cq.cq there c.in_ok-cq.ensures c.in_ok-add_all_replacements.ensures reduced)
    c.add_reducts.ensures
