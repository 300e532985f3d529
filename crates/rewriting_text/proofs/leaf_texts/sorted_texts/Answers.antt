use Rattle.std.proofs.Common.{map}
use Rattle.report_text.specs.Queries.{cq_text}
use Rattle.rewriting_text.proofs.SortedTexts.{sorted_bytes, arranged_bytes}
use Rattle.rewriting_text.proofs.leaf_texts.sorted_texts.Goals as goal

pub returns-clause-arranged : goal.returns-clause-arranged
returns-clause-arranged c =
    arranged_bytes (map (cq_text c.args.ontology.now) c.args.members.now) c.in_ok-texts.texts.items
    c.sort.new.self.items c.in_ok-texts.ensures c.in_ok-sort.ensures.permutation

pub returns-clause-sorted : goal.returns-clause-sorted
returns-clause-sorted c = sorted_bytes c.sort.new.self.items c.in_ok-sort.ensures.sorted
