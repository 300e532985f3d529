use Rattle.std.proofs.Common.{◌≡◌, ◌++◌, ◌∷◌, [], List, map, sym, ap, ◌∙◌, arith, rules}
use Rattle.std.proofs.lemmas.List.{map_push, append-nil}
use Rattle.std.specs.Prelude.{Some}
use Rattle.text_scan.specs.Lexing.{Lexed, lexeme, lexed_from, behind}
use Rattle.ontology_reader.specs.Sayings.{Word, words_read, word_of}
use Rattle.ontology_reader.specs.Views.{word_seen}
use Rattle.ontology_reader.proofs.WordsRead.{behind_words, no_word, word_goes_on, words_end}
use Rattle.ontology_reader.proofs.words.words_in.Goals as goal

pub returns-then-not-is_name : goal.returns-then-not-is_name
returns-then-not-is_name c =
    let line = c.args.line.now in
    let token = c.in-Token.token in
    sym (ap (behind_words (map word_seen c.loop-token.words.items))
    (ap words_read c.in-Token.ensures.0 ∙ no_word (lexeme token) (lexed_from line (behind token))
    (search rules)))
    ∙ c.loop-token.invariant.rest

pub loop-token-preserved : goal.loop-token-preserved
loop-token-preserved c =
    let line = c.args.line.now in
    let token = c.in-Token.token in
    let front = map word_seen c.loop-token.words.items in
    let pushed : map word_seen c.push.new.self.items ≡ front ++ word_of token.text.now ∷ [] =
    rw c.in_ok-push-in-Token.ensures.items
    (map_push word_seen c.loop-token.words.items c.word_of.result ∙ ap (λ (w : Word).
    front ++ w ∷ []) c.word_of.ensures) in
    record {
      within = omega (arith, c.end-place.ensures, c.in-Token.ensures.2);
      rest =
          ap (λ place. behind_words (map word_seen c.push.new.self.items)
          (words_read (lexed_from line place))) c.end-place.ensures
          ∙ ap (λ (words : List Word).
          behind_words words (words_read (lexed_from line (behind token)))) pushed
          ∙ sym (word_goes_on front (lexeme token) (lexed_from line (behind token)) (search rules))
          ∙ ap (λ (read : Lexed). behind_words front (words_read read)) (sym c.in-Token.ensures.0)
          ∙ c.loop-token.invariant.rest;
    }

pub returns-in-End : goal.returns-in-End
returns-in-End c =
    let front = map word_seen c.loop-token.words.items in
    sym (ap (behind_words front) (ap words_read c.in-End.ensures ∙ words_end) ∙ ap Some
    (append-nil front))
    ∙ c.loop-token.invariant.rest
