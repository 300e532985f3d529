use Rattle.std.proofs.Common.{◌≡◌, ◌++◌, take}
use Rattle.rewriting_text.specs.Leaves.{bytes_of_each, text_lines}
use Rattle.rewriting_text.proofs.leaf_texts.append_texts.Given as goal

abbrev pub invariant-loop-text : goal.invariant-loop-text
invariant-loop-text l = l.out.items ≡ l.initial.out.items
    ++ text_lines (bytes_of_each (take l.text-index l.texts))
