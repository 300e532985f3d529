-- The laws of what is told of lines.
use Rattle.std.proofs.Common.{◌≡◌, ℕ, zero, suc, ◌<◌, Bool, true, false, Option, None, List, []}
use Rattle.std.proofs.Common.{◌∷◌, length, Some, refl, sym, ◌∙◌, ap, subst, arith}
use Rattle.std.specs.Prelude.{slice_get}
use Rattle.std.specs.List.{Contains}
use Rattle.dl_syntax.specs.declared.facts.Fact.{Fact}
use Rattle.dl_syntax.specs.declared.names.IndId.{IndId}
use Rattle.dl_syntax.specs.declared.ontology.Clash.{Clash}
use Rattle.dl_syntax.specs.Ontology.{Declared}
use Rattle.list_lemmas.proofs.Elements.{Contains-first, Contains-later}
use Rattle.tcq_syntax.specs.Histories.{History}
use Rattle.tcq_syntax.specs.Tcq.{Tcq}
use Rattle.tcq_syntax.proofs.OneList.{one_answers}
use Rattle.edge_io.specs.Lines.{text, too_long}
use Rattle.snapshot_reader.specs.Said.{Said, nothing, names, says, said}
use Rattle.snapshot_reader.specs.Said.{refused as is_refused}
use Rattle.report_text.specs.declared.item.Cause.{Cause}
use Rattle.report_text.specs.declared.item.Cause.TheVariants.{TooLong, Malformed, Unknown}
use Rattle.report_text.specs.declared.item.Cause.TheVariants.{WrongKind, Undeclared, TooManyFacts}
use Rattle.report_text.specs.declared.item.Cause.TheVariants.{Contradiction, Closed, NameTwice}
use Rattle.report_text.specs.declared.item.Cause.TheVariants.{TooMany, TooLarge}
use Rattle.report_text.specs.declared.event.Event.{Event}
use Rattle.report_text.specs.declared.event.Event.TheVariants.{Accepted}
use Rattle.consistency.specs.Least.{IsLeastClash, IsConsistentUnder}
use Rattle.monitor_core.specs.Answering.{AreRowsOf, AreAllAnswers, own_count}
use Rattle.monitor_core.specs.Setting.{Setting}
use Rattle.tcq_syntax.specs.Kept.{IsKeptSize}
use Rattle.dl_syntax.specs.Rows.{Relation}
use Rattle.dl_syntax.specs.declared.ontology.Inclusion.{Inclusion}
use Rattle.std.specs.List.Sorted.{IsPermutation}
use Rattle.std.proofs.lemmas.List.Sorted.{sum_by-IsPermutation}
use Rattle.monitor_core.specs.Standing.{count_of}
use Rattle.watch_report.specs.Outcome.{Outcome, skip, refused, declares, accepted, SnapshotHas}
use Rattle.watch_report.specs.Outcome.{SaidHas}
use Rattle.watch_report.specs.Task.{Task, ontology_after}
use Rattle.watch_report.specs.Told.{AreSizes, AreAskedSizes, TellsAccepted, Replies}
use Rattle.report_text.proofs.Arrangements.{arranged}
use Rattle.watch_report.specs.ReportLaws.{OneOutcome, OneLine}

listed_contained : (xs : List Clash) (place : ℕ) (c : Clash) → slice_get xs place ≡ Some c
    → Contains xs c
listed_contained [] zero c is = cc
listed_contained [] (suc place) c is = cc
listed_contained (x ∷ xs) zero c is = let same : x ≡ c = cc in
    subst (Contains (x ∷ xs)) same (Contains-first x xs)
listed_contained (x ∷ xs) (suc place) c is = Contains-later x xs c (listed_contained xs place c is)

module _ (ontology : Declared) (snapshot : List Fact) where
  -- no snapshot is consistent and meets a clash
  never_both : (number : ℕ) → IsLeastClash ontology snapshot number
      → IsConsistentUnder ontology snapshot → ⊥
  never_both number least consistent =
      consistent least.met.0 least.clash least.met.1
      (listed_contained ontology.clashes least.place least.clash least.listed) least.met.2

  not_before : (m n : ℕ) (one : IsLeastClash ontology snapshot m)
      (other : IsLeastClash ontology snapshot n) → one.place < other.place → ⊥
  not_before m n one other less = other.least one.place one.clash less one.listed one.met

  one_clash : (m n : ℕ) → IsLeastClash ontology snapshot m → IsLeastClash ontology snapshot n
      → m ≡ n
  one_clash m n one other =
      let not_less : one.place < other.place → ⊥ = not_before m n one other in
      let not_more : other.place < one.place → ⊥ = not_before n m other one in
      omega (arith, one.counted, other.counted, not_less, not_more)

  -- a snapshot is refused for a clash alone
  by_clash : (cause : Cause) → SnapshotHas ontology snapshot (refused cause)
      → (number : ℕ) × (cause ≡ Contradiction number) × IsLeastClash ontology snapshot number
  by_clash TooLong has = absurd has
  by_clash Malformed has = absurd has
  by_clash (Unknown name) has = absurd has
  by_clash (WrongKind name) has = absurd has
  by_clash (Undeclared name) has = absurd has
  by_clash TooManyFacts has = absurd has
  by_clash (Contradiction number) has = (number, refl, has)
  by_clash Closed has = absurd has
  by_clash (NameTwice name) has = absurd has
  by_clash TooMany has = absurd has
  by_clash (TooLarge total) has = absurd has

  one_snapshot : (one other : Outcome) → SnapshotHas ontology snapshot one
      → SnapshotHas ontology snapshot other → one ≡ other
  one_snapshot skip other p q = absurd p
  one_snapshot (declares name) other p q = absurd p
  one_snapshot (refused c) skip p q = absurd q
  one_snapshot (refused c) (declares name) p q = absurd q
  one_snapshot (refused c) (refused d) p q =
      let first = by_clash c p in
      let second = by_clash d q in
      ap refused (first.1 ∙ (ap Contradiction (one_clash first.0 second.0 first.2 second.2) ∙ sym
      second.1))
  one_snapshot (refused c) (accepted b) p q = let first = by_clash c p in
      absurd (never_both first.0 first.2 q.1)
  one_snapshot (accepted a) skip p q = absurd q
  one_snapshot (accepted a) (declares name) p q = absurd q
  one_snapshot (accepted a) (refused d) p q = let second = by_clash d q in
      absurd (never_both second.0 second.2 p.1)
  one_snapshot (accepted a) (accepted b) p q = ap accepted (p.0 ∙ sym q.0)

one_said : (setting : Setting) (history : History) (what : Said) (one other : Outcome)
    → SaidHas setting history what one → SaidHas setting history what other → one ≡ other
one_said setting history nothing one other p q = p ∙ sym q
one_said setting history (is_refused cause) one other p q = p ∙ sym q
one_said setting history (names name) one other p q = p ∙ sym q
one_said setting history (says snapshot) one other p q =
    one_snapshot (ontology_after setting history) snapshot one other p q

pub one_outcome : OneOutcome
one_outcome setting history form too_long one other p q = p ∙ sym q
one_outcome setting history form (text line) one other p q =
    one_said setting history (said (ontology_after setting history) form line) one other p q

same_relation : (one other : Relation) → one.arity ≡ other.arity → one.rows ≡ other.rows
    → one ≡ other
same_relation one other arity rows =
    ap (λ (k : ℕ). record { arity = k; rows = one.rows }) arity ∙ ap (λ (r : List (List IndId)).
    record { arity = other.arity; rows = r }) rows

one_relations : (ontology : Declared) (history : History) (queries : List Tcq)
    (one other : List Relation) → AreRowsOf ontology queries one
    → AreAllAnswers ontology queries history one → AreRowsOf ontology queries other
    → AreAllAnswers ontology queries history other → one ≡ other
one_relations ontology history [] [] [] p q r s = refl
one_relations ontology history [] (x ∷ xs) other p q r s = absurd p
one_relations ontology history [] [] (y ∷ ys) p q r s = absurd r
one_relations ontology history (query ∷ queries) [] other p q r s = absurd p
one_relations ontology history (query ∷ queries) (x ∷ xs) [] p q r s = absurd r
one_relations ontology history (query ∷ queries) (x ∷ xs) (y ∷ ys) p q r s =
    let rows : x.rows ≡ y.rows =
    one_answers ontology.inclusions (own_count ontology history) query history x.rows y.rows
    q.0 s.0 in
    let first : x ≡ y = same_relation x y (p.0 ∙ sym r.0) rows in
    let later : xs ≡ ys = one_relations ontology history queries xs ys p.2 q.1 r.2 s.1 in
    ap (λ (z : Relation). z ∷ xs) first ∙ ap (λ (zs : List Relation). y ∷ zs) later

one_size : (inclusions : List Inclusion) (count : ℕ) (history : History) (queries : List Tcq)
    (one other : ℕ) → IsKeptSize inclusions count history queries one
    → IsKeptSize inclusions count history queries other → one ≡ other
one_size inclusions count history queries one other (xs, p, is) (ys, q, same) =
    let arrangement : IsPermutation xs ys =
    arranged xs ys p.distinct q.distinct (λ sets there.
    (q.member sets).1 ((p.member sets).0 there)) (λ sets there.
    (p.member sets).1 ((q.member sets).0 there)) in
    is ∙ (sym (sum_by-IsPermutation length xs ys arrangement) ∙ sym same)

one_sizes : (setting : Setting) (history : History) (queries : List Tcq) (one other : List ℕ)
    → AreSizes setting history queries one → AreSizes setting history queries other → one ≡ other
one_sizes setting history [] [] [] p q = refl
one_sizes setting history [] (x ∷ xs) other p q = absurd p
one_sizes setting history [] [] (y ∷ ys) p q = absurd q
one_sizes setting history (query ∷ queries) [] other p q = absurd p
one_sizes setting history (query ∷ queries) (x ∷ xs) [] p q = absurd q
one_sizes setting history (query ∷ queries) (x ∷ xs) (y ∷ ys) p q =
    let first : x ≡ y = one_size setting.ontology.inclusions (length setting.ontology.individuals)
    history (query ∷ []) x y p.0 q.0 in
    let later : xs ≡ ys = one_sizes setting history queries xs ys p.1 q.1 in
    ap (λ (z : ℕ). z ∷ xs) first ∙ ap (λ (zs : List ℕ). y ∷ zs) later

not_both : (asked : Bool) → asked ≡ true → asked ≡ false → ⊥
not_both asked on off = let never : true ≡ false = sym on ∙ off in cc

one_asked : (asked : Bool) (setting : Setting) (history : History) (one other : Option (List ℕ))
    → AreAskedSizes asked setting history one → AreAskedSizes asked setting history other
    → one ≡ other
one_asked asked setting history None None p q = refl
one_asked asked setting history None (Some ys) p q = absurd (not_both asked q.0 p)
one_asked asked setting history (Some xs) None p q = absurd (not_both asked p.0 q)
one_asked asked setting history (Some xs) (Some ys) p q =
    ap (λ (zs : List ℕ). Some zs) (one_sizes setting history setting.queries xs ys p.1 q.1)

one_accepted : (task : Task) (after : History) (line : ℕ) (one other : List Event)
    → TellsAccepted task after line one → TellsAccepted task after line other → one ≡ other
one_accepted task after line one other p q =
    let relations : p.relations ≡ q.relations =
    one_relations (ontology_after task.setting after) after task.setting.queries p.relations
    q.relations
    p.answered.shaped p.answered.exact q.answered.shaped q.answered.exact in
    let kept : p.kept ≡ q.kept =
    one_asked task.options.sizes task.setting after p.kept q.kept p.sizes q.sizes in
    p.is
    ∙ (ap (λ (r : List Relation). Accepted line (count_of after) r p.kept ∷ []) relations
    ∙ (ap (λ (k : Option (List ℕ)). Accepted line (count_of after) q.relations k ∷ []) kept ∙ sym
    q.is))

one_replies : (task : Task) (history : History) (line : ℕ) (outcome : Outcome)
    (one other : List Event) (after later : History) → Replies task history line outcome one after
    → Replies task history line outcome other later → (one ≡ other) × (after ≡ later)
one_replies task history line skip one other after later p q = (p.0 ∙ sym q.0, p.1 ∙ sym q.1)
one_replies task history line (refused cause) one other after later p q =
    (p.0 ∙ sym q.0, p.1 ∙ sym q.1)
one_replies task history line (declares name) one other after later p q =
    (p.0 ∙ sym q.0, p.1 ∙ sym q.1)
one_replies task history line (accepted snapshot) one other after later p q =
    let same : after ≡ later = p.0 ∙ sym q.0 in (
      one_accepted task later line one other
          (subst (λ (h : History). TellsAccepted task h line one) same p.1) q.1,
      same,
    )

pub one_line : OneLine
one_line task history line item one other after later p q =
    let same : p.outcome ≡ q.outcome =
    one_outcome task.setting history task.options.form item p.outcome q.outcome p.has q.has in
    one_replies task history line q.outcome one other after later
    (subst (λ (o : Outcome). Replies task history line o one after) same p.replies) q.replies
