-- The digest of the texts that a checkpoint goes with.
use Rattle.std.specs.Prelude.{ℕ, List, ◌++◌, length}
use Rattle.std.specs.Int.{to_be_bytes, w64}
use Rattle.sha2.specs.Sha256.{sha256}

-- the SHA-256 (FIPS 180-4) of the length of the ontology's text as eight bytes, the most significant
-- first, of that text, and of the queries' text
abbrev pub digest_of_sources : List ℕ → List ℕ → List ℕ
digest_of_sources ontology queries =
    sha256 (to_be_bytes w64 (length ontology) ++ ontology ++ queries)
