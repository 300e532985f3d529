use Rattle.std.proofs.Common.{◌≡◌, length, take}
use Rattle.tcq_syntax.specs.Histories.{History}
use Rattle.monitor_core.specs.Standing.{setting_of, Stands}
use Rattle.watch_report.specs.Task.{own_setting}
use Rattle.watch_report.specs.Told.{AreSizes}
use Rattle.watch_report.proofs.telling.sizes_of.Given as goal

abbrev pub invariant-loop-place : goal.invariant-loop-place
invariant-loop-place l = record {
  many : length l.sizes.items ≡ l.place;
  counted : l.count ≡ length (setting_of l.monitor).queries;
  sizes : (history : History) → Stands l.monitor history
      → AreSizes (own_setting l.monitor) history (take l.place (setting_of l.monitor).queries)
      l.sizes.items;
}
