-- The stream's limit, told of a run.
use Rattle.std.proofs.Common.{◌≡◌, ◌≢◌, ◌↔◌, ℕ, ◌<◌, ◌^◌, inl, inr, Some, List, ◌++◌, length, refl}
use Rattle.std.proofs.Common.{sym, ◌∙◌, ap, subst, arith, length-append}
use Rattle.std.specs.declared.option.Option.{Option}
use Rattle.std.proofs.lemmas.List.{append_cancel_left, append_cancel_right}
use Rattle.edge_io.specs.Known.{Takes, Gains}
use Rattle.edge_io.specs.Lines.{whole_items}
use Rattle.command_words.specs.Meanings.{watch}
use Rattle.monitor_core.specs.Setting.{Setting}
use Rattle.stream_report.specs.declared.ending.Ending.{Ending}
use Rattle.stream_report.specs.declared.ending.Ending.TheVariants.{Done, Usage, Refused, ReadFault}
use Rattle.stream_report.specs.declared.ending.Ending.TheVariants.{WriteFault, Memory, StreamLimit}
use Rattle.stream_report.specs.Ends.{Streamed}
use Rattle.stream_report.specs.Outside.{FilesTold, Outside}
use Rattle.stream_report.specs.Told.{Part}
use Rattle.stream_report.proofs.ReportLaws.{limit_is_exact}
use Rattle.job_sources.specs.declared.refusal.Refusal.{Refusal}
use Rattle.job_sources.specs.declared.refusal.Refusal.TheVariants.{BadOntology, TooManyRewritings}
use Rattle.job_sources.specs.declared.refusal.Refusal.TheVariants.{BadDocument, BadQueries}
use Rattle.job_sources.specs.declared.refusal.Refusal.TheVariants.{NotALeaf, TooLarge}
use Rattle.monitor_run.specs.declared.status.Status.TheVariants as status
use Rattle.monitor_run.specs.Ends.{status_of, status_of_refusal}
use Rattle.job_sources.specs.FileNames.{FileNames}
use Rattle.monitor_run.specs.Jobs.{asked_by}
use Rattle.monitor_run.specs.Laws.{Watches, LimitComesExactly}
use Rattle.job_sources.specs.Opening.{HasText}
use Rattle.watch_report.specs.Report.{start, watching}
use Rattle.monitor_run.specs.Running.{AskedEnds}
use Rattle.job_sources.specs.Sources.{nothing_more, OpeningFails, FilesSay, FilesUnread}
use Rattle.watch_report.specs.Task.{Task}
use Rattle.monitor_run.specs.Jobs.{options_of}
use Rattle.monitor_run.proofs.Completing.{by_meaning}
use Rattle.job_sources.proofs.OneSetting.{one_text, same_setting}
use Rattle.watch_report.proofs.OneReport.{watching_once}

no_refusal_status : (refusal : Refusal) → status_of_refusal refusal ≡ status.StreamLimit → ⊥
no_refusal_status (BadOntology line kind) is = cc
no_refusal_status (BadDocument line kind) is = cc
no_refusal_status TooManyRewritings is = cc
no_refusal_status (BadQueries line kind) is = cc
no_refusal_status (NotALeaf name) is = cc
no_refusal_status (TooLarge total) is = cc

-- the status of the limit is of that ending alone
at_limit : (ending : Ending Refusal) → status_of ending ≡ status.StreamLimit → ending ≡ StreamLimit
at_limit StreamLimit is = refl
at_limit Done is = cc
at_limit Usage is = cc
at_limit (Refused refusal) is = absurd (no_refusal_status refusal is)
at_limit ReadFault is = cc
at_limit WriteFault is = cc
at_limit Memory is = cc

-- no opening ends at the limit
never_opening : (held : FilesTold) (now : FilesTold) (names : FileNames) (ending : Ending Refusal)
    → OpeningFails nothing_more (FilesSay held.held names) (FilesUnread held now names) ending
    → ending ≡ StreamLimit → ⊥
never_opening held now names StreamLimit (inl unread) is = unread
never_opening held now names StreamLimit (inr (setting, say, refused)) is = refused
never_opening held now names Done fails is = cc
never_opening held now names Usage fails is = cc
never_opening held now names (Refused refusal) fails is = cc
never_opening held now names ReadFault fails is = cc
never_opening held now names WriteFault fails is = cc
never_opening held now names Memory fails is = cc

same_taken : (before now : Option (List ℕ)) (one other left : List ℕ) → before ≡ Some (one ++ left)
    → now ≡ Some left → Takes before now other → other ≡ one
same_taken before now one other left told later takes =
    let here : Some (one ++ left) ≡ Some (other ++ left) =
    sym told ∙ subst (λ (n : Option (List ℕ)). Takes before n other) later takes in
    let both : one ++ left ≡ other ++ left = cc in
    sym (append_cancel_right one other left both)

same_wrote : (before now : Option (List ℕ)) (one other got : List ℕ) → before ≡ Some got
    → now ≡ Some (got ++ one) → Gains before now other → other ≡ one
same_wrote before now one other got told later gains =
    let here : Some (got ++ one) ≡ Some (got ++ other) =
    sym later ∙ subst (λ (b : Option (List ℕ)). Gains b now other) told gains in
    let both : got ++ one ≡ got ++ other = cc in
    sym (append_cancel_left got one other both)

none_taken : (before now : Option (List ℕ)) (taken left : List ℕ) → before ≡ Some (taken ++ left)
    → now ≡ Some left → now ≡ before → length taken ≡ 0
none_taken before now taken left told later same =
    let here : Some left ≡ Some (taken ++ left) = sym later ∙ (same ∙ told) in
    let both : left ≡ taken ++ left = cc in
    omega (arith, ap length both, length-append taken left)

module _ (words : List (List ℕ)) (before now : Outside) (taken wrote : List ℕ)
    (w : Watches words before now taken wrote) where
  abbrev names : FileNames
  names = record {
    ontology = w.asked.ontology;
    queries = w.asked.queries;
    owl = w.asked.owl;
  }

  abbrev task : Setting → Task
  task setting = record { setting = setting; options = options_of w.asked }

  abbrev IsAtLimit : Type 0
  IsAtLimit = (2 ^ 40 < length taken)
      × Part (watching (task w.setting)) start (whole_items taken) wrote

  abbrev one_of : (name one other : List ℕ) → HasText before.files.held name one
      → HasText before.files.held name other → one ≡ other
  one_of name one other p q = one_text before.files.held w.files name one other w.held p q

  streamed : (ending : Ending Refusal) → ending ≢ Memory
      → Streamed ending (watching (task w.setting)) start before.ports now.ports
      → (ending ≡ StreamLimit) ↔ IsAtLimit
  streamed ending other run =
      let exact = limit_is_exact (watching (task w.setting)) (watching_once (task w.setting)) ending
      start before.ports now.ports run other in
      let same : run.taken ≡ taken =
      same_taken before.ports.input.left now.ports.input.left taken run.taken w.left
      w.input_before w.input_now run.takes in
      let text : run.wrote ≡ wrote =
      same_wrote before.ports.out.got now.ports.out.got wrote run.wrote w.got w.out_before
      w.out_now run.gains in
      subst (λ (t : List ℕ). (ending ≡ StreamLimit)
      ↔ ((2 ^ 40 < length t) × Part (watching (task w.setting)) start (whole_items t) wrote))
      same
      (subst (λ (b : List ℕ). (ending ≡ StreamLimit)
      ↔ ((2 ^ 40 < length run.taken)
      × Part (watching (task w.setting)) start (whole_items run.taken) b)) text exact)

  asked_exactly : (ending : Ending Refusal) → ending ≢ Memory
      → AskedEnds (asked_by (watch w.asked)) ending before now → (ending ≡ StreamLimit) ↔ IsAtLimit
  asked_exactly ending other (stay, inl (fails, untouched)) = (
    λ is. absurd (never_opening before.files now.files names ending fails is),
    λ both. absurd (omega (
      arith,
      both.0,
      none_taken before.ports.input.left now.ports.input.left
          taken w.left w.input_before w.input_now (ap (λ i. i.left) untouched.input),
    )),
  )
  asked_exactly ending other (stay, inr (setting, opens, (run, fault))) =
      let same : setting ≡ w.setting =
      same_setting names.owl (HasText before.files.held names.ontology)
      (HasText before.files.held names.queries) (one_of names.ontology) (one_of names.queries)
      setting w.setting opens.say w.opens.say in
      streamed ending other (subst (λ (s : Setting).
      Streamed ending (watching (task s)) start before.ports now.ports) same run)

pub limit_comes_exactly : LimitComesExactly
limit_comes_exactly s words before now eb en taken wrote ran w other =
    let rest : ran.ending ≢ Memory = λ is. other (ran.status_is ∙ ap status_of is) in
    let exact : (ran.ending ≡ StreamLimit) ↔ IsAtLimit words before now taken wrote w =
    by_meaning ((ran.ending ≡ StreamLimit)
    ↔ IsAtLimit words before now taken wrote w) words (watch w.asked) before now w.words_mean
    ran.ending
    (λ is same. absurd (rest is)) (asked_exactly words before now taken wrote w ran.ending rest)
    ran.ends in (
      λ is. exact.0 (at_limit ran.ending (sym ran.status_is ∙ is)),
      λ both.
          ran.status_is ∙ ap status_of (exact.1 both),
    )
