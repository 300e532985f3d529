use Rattle.std.proofs.Common.{◌≡◌, ◌-◌, ◌≤◌, length, map}
use Rattle.text_scan.specs.Lexing.{lexed, lexed_from}
use Rattle.ontology_reader.specs.Sayings.{words_read}
use Rattle.ontology_reader.specs.Views.{word_seen}
use Rattle.ontology_reader.proofs.WordsRead.{behind_words}
use Rattle.ontology_reader.proofs.words.words_in.Given as goal

abbrev pub invariant-loop-token : goal.invariant-loop-token
invariant-loop-token l =
    record {
      within : l.place ≤ length l.line;
      rest : behind_words (map word_seen l.words.items)
          (words_read (lexed_from l.line l.place)) ≡ words_read (lexed 0 0 l.line);
    }

abbrev pub decreases-loop-token : goal.decreases-loop-token
decreases-loop-token l = length l.initial.line - l.place
