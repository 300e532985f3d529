-- The words that no command takes, in a list of strings.
use Rattle.std.proofs.Common.{◌≡◌, List, String, string_bytes}
use Rattle.std.specs.List.{list_any}
use Rattle.std.specs.declared.alloc.Global.{Global}
use Rattle.clap.proofs.WalkLemmas.{list_any-map}
use Rattle.command_words.specs.Commands.{has_barred_word, is_barred_word, texts_of}

pub barred_is : (words : List (String Global))
    → list_any (λ word. is_barred_word (string_bytes word)) words ≡ has_barred_word (texts_of words)
barred_is words = list_any-map is_barred_word (λ word. string_bytes word) words
