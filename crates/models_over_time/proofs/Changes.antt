-- What more facts, more inclusions and entailed inclusions change over time.
use Rattle.std.proofs.Common.{ℕ, ◌++◌, length, subst}
use Rattle.tcq_syntax.specs.Histories.{snapshot_at}
use Rattle.models.proofs.Entailed.{more_keeps_answers, entailed_keep_answers}
use Rattle.models_over_time.specs.Readings.{HoldsBy, certainly}
use Rattle.models_over_time.specs.Laws.{MoreKeepsHolding, EntailedKeepHolding}
use Rattle.models_over_time.proofs.Monotony.{weakened, holding_is_a_reading, plain_at}

pub more_keeps_holding : MoreKeepsHolding
more_keeps_holding inclusions more_inclusions history more_history row f i plain alike part parts
    inside holds =
    (holding_is_a_reading more_inclusions more_history row f i).1
    (subst (λ (n : ℕ). HoldsBy (certainly more_inclusions more_history) n row f i) alike
    (weakened (certainly inclusions history) (certainly more_inclusions more_history)
    (length history.snapshots) row
    (λ j position q tuple certain.
    more_keeps_answers inclusions more_inclusions (snapshot_at history j)
    (snapshot_at more_history j) q tuple (plain_at history plain j position) part (parts j)
    certain)
    f i inside ((holding_is_a_reading inclusions history row f i).0 holds)))

pub entailed_keep_holding : EntailedKeepHolding
entailed_keep_holding inclusions others history row f i plain entails inside = (
  λ holds.
      (holding_is_a_reading inclusions history row f i).1
      (weakened (certainly (inclusions ++ others) history) (certainly inclusions history)
      (length history.snapshots) row
      (λ j position q tuple certain.
      (entailed_keep_answers inclusions others (snapshot_at history j) q tuple
      (plain_at history plain j position) entails).0 certain)
      f i inside ((holding_is_a_reading (inclusions ++ others) history row f i).0 holds)),
  λ holds.
      (holding_is_a_reading (inclusions ++ others) history row f i).1
      (weakened (certainly inclusions history) (certainly (inclusions ++ others) history)
      (length history.snapshots) row
      (λ j position q tuple certain.
      (entailed_keep_answers inclusions others (snapshot_at history j) q tuple
      (plain_at history plain j position) entails).1 certain)
      f i inside ((holding_is_a_reading inclusions history row f i).0 holds)),
)
