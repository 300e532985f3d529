use Rattle.std.proofs.Common.{◌≡◌, ◌∙◌, true, ap, sym}
use Rattle.std.proofs.lemmas.Slice.Eq.{bytes_eq-Decides}
use Rattle.hex.specs.Hex.{decode_sized, encode_lower}
use Rattle.hex.proofs.HexLemmas.{decode_sized-encode_lower}
use Rattle.checkpoint_text.proofs.digests.read_digest.Goals as goal

pub returns-in_default : goal.returns-in_default
returns-in_default c digest bytes long is =
    c.in_default.not-Ok digest (c.from_hex.ensures ∙ ap (λ t. decode_sized t 32) is
    ∙ decode_sized-encode_lower digest 32 long bytes)

pub returns-else-eq : goal.returns-else-eq
returns-else-eq c digest bytes long is =
    let read = c.from_hex.ensures ∙ ap (λ t. decode_sized t 32) is
    ∙ decode_sized-encode_lower digest 32 long bytes in
    let same : c.in-Ok.digest ≡ digest = cc in
    let text : c.as_slice.result.now ≡ c.args.text.now =
    c.as_slice.ensures ∙ c.digest_text.ensures ∙ ap encode_lower same ∙ sym is in
    let yes : c.eq.result ≡ true =
    c.eq.ensures ∙ (bytes_eq-Decides c.as_slice.result.now c.args.text.now).1 text in
    cc
