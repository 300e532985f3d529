-- One fact makes a snapshot.
use Rattle.std.specs.Prelude.{◌≢◌, [], ◌∷◌}
use Rattle.std.proofs.lemmas.List.Elements.{All-nil, All-cons}
use Rattle.std.proofs.lemmas.List.Kept.{AllPairs-cons}
use Rattle.list_lemmas.proofs.Elements.{AllPairs-nil}
use Rattle.dl_syntax.specs.declared.facts.Fact.{Fact}
use Rattle.dl_syntax.specs.Facts.{HasNoNull}
use Rattle.dl_syntax.specs.Snapshots.{IsSnapshot}

pub one_fact : (f : Fact) → HasNoNull f → IsSnapshot (f ∷ [])
one_fact f plain = record {
  distinct = AllPairs-cons (λ g h. g ≢ h) f [] (All-nil (λ h. f ≢ h)) (AllPairs-nil (λ g h. g ≢ h));
  without_nulls = All-cons HasNoNull f [] plain (All-nil HasNoNull);
}
