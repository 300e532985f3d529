-- The bytes of events one after another.
use Rattle.std.proofs.Common.{◌≡◌, ◌+◌, List, [], ◌∷◌, ◌++◌, refl, sym, ◌∙◌, ap, append_assoc, cond}
use Rattle.std.proofs.lemmas.List.Sums.{sum_by-append}
use Rattle.tcq_syntax.specs.Histories.{History}
use Rattle.report_text.specs.declared.event.Event.{Event}
use Rattle.watch_report.specs.Task.{Task}
use Rattle.watch_report.specs.Report.{bytes_of, bytes_of_event, is_refusal, refused_in}

pub bytes-append : (task : Task) (history : History) (xs ys : List Event)
    → bytes_of task history (xs ++ ys) ≡ bytes_of task history xs ++ bytes_of task history ys
bytes-append task history [] ys = refl
bytes-append task history (x ∷ xs) ys =
    ap (λ l. bytes_of_event task history x ++ l) (bytes-append task history xs ys) ∙ sym
    (append_assoc (bytes_of_event task history x) (bytes_of task history xs)
    (bytes_of task history ys))

pub refused-append : (xs ys : List Event) → refused_in (xs ++ ys) ≡ refused_in xs + refused_in ys
refused-append xs ys = sum_by-append (λ x. cond (is_refusal x) 1 0) xs ys
