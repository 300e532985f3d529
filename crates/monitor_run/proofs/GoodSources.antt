-- Sources without a fault are opened but for want of memory.
use Rattle.std.proofs.Common.{◌≡◌, ℕ, false, inl, inr, List, refl, sym, ◌∙◌}
use Rattle.monitor_core.specs.Setting.{Setting}
use Rattle.stream_report.specs.declared.ending.Ending.{Ending}
use Rattle.stream_report.specs.declared.ending.Ending.TheVariants.{Done, Usage, Refused, ReadFault}
use Rattle.stream_report.specs.declared.ending.Ending.TheVariants.{WriteFault, Memory, StreamLimit}
use Rattle.stream_report.specs.Outside.{Outside}
use Rattle.stream_maker.specs.Ontology.{ontology_text}
use Rattle.stream_maker.specs.Snapshots.{queries_text}
use Rattle.job_sources.specs.declared.refusal.Refusal.{Refusal}
use Rattle.job_sources.specs.FileNames.{FileNames}
use Rattle.job_sources.specs.Opening.{HasText, Is}
use Rattle.job_sources.specs.Sources.{nothing_more, Opens, OpeningFails}
use Rattle.job_sources.specs.Sources.{FilesSay, FilesUnread, TextsUnread}
use Rattle.job_sources.proofs.OneSetting.{one_text, never_lacks, never_faulty, only_memory}
use Rattle.watch_report.specs.Drill.{MadeSay}
use Rattle.monitor_run.specs.Laws.{HasGoodFiles}

module _ (own : Setting → Refusal → Type 0) (names : FileNames) (before now : Outside)
    (good : HasGoodFiles own names before now) where
  abbrev one_of : (name one other : List ℕ) → HasText before.files.held name one
      → HasText before.files.held name other → one ≡ other
  one_of name one other p q = one_text before.files.held good.files name one other good.held p q

  unread_memory : (ending : Ending Refusal) → FilesUnread before.files now.files names ending
      → ending ≡ Memory
  unread_memory Memory unread = refl
  unread_memory (Refused refusal) unread =
      absurd (never_faulty names.owl (HasText before.files.held names.ontology)
      (HasText before.files.held names.queries) (one_of names.ontology) (one_of names.queries)
      own good.setting good.opens refusal unread)
  unread_memory ReadFault (inl rose) = absurd (good.no_file_fault rose)
  unread_memory ReadFault (inr (inl lacks)) =
      absurd (never_lacks before.files.held good.files names.ontology good.opens.say.ontology
      good.held good.opens.say.ontology_is lacks)
  unread_memory ReadFault (inr (inr (says, lacks))) =
      absurd (never_lacks before.files.held good.files names.queries good.opens.say.queries
      good.held good.opens.say.queries_is lacks)
  unread_memory Done unread = absurd unread
  unread_memory Usage unread = absurd unread
  unread_memory WriteFault unread = absurd unread
  unread_memory StreamLimit unread = absurd unread

  -- good files open but for want of memory
  pub files_memory : (ending : Ending Refusal)
      → OpeningFails own (FilesSay before.files.held names)
      (FilesUnread before.files now.files names) ending → ending ≡ Memory
  files_memory ending fails =
      only_memory names.owl (HasText before.files.held names.ontology)
      (HasText before.files.held names.queries) (one_of names.ontology) (one_of names.queries)
      own good.setting good.opens
      (FilesUnread before.files now.files names) unread_memory ending fails

-- ---- what a drill makes

module _ (setting : Setting) (opens : Opens nothing_more MadeSay setting) where
  texts_memory : (ending : Ending Refusal) → TextsUnread ontology_text queries_text ending
      → ending ≡ Memory
  texts_memory Memory unread = refl
  texts_memory (Refused refusal) unread =
      absurd (never_faulty false (Is ontology_text) (Is queries_text) (λ a b x y. x ∙ sym y)
      (λ a b x y. x ∙ sym y) nothing_more setting opens refusal unread)
  texts_memory Done unread = absurd unread
  texts_memory Usage unread = absurd unread
  texts_memory ReadFault unread = absurd unread
  texts_memory WriteFault unread = absurd unread
  texts_memory StreamLimit unread = absurd unread

  pub made_memory : (ending : Ending Refusal)
      → OpeningFails nothing_more MadeSay (TextsUnread ontology_text queries_text) ending
      → ending ≡ Memory
  made_memory ending fails =
      only_memory false (Is ontology_text) (Is queries_text) (λ a b x y. x ∙ sym y) (λ a b x y.
      x ∙ sym y) nothing_more setting opens (TextsUnread ontology_text queries_text)
      texts_memory ending fails
