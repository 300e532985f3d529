-- A proof that shows its goal and can be written is a certificate.
use Rattle.std.proofs.Common.{◌≡◌, ◌≢◌, ℕ, zero, suc, ◌+◌, ◌*◌, ◌<◌, ◌≤◌, ◌^◌, List, [], ◌∷◌, ◌++◌}
use Rattle.std.proofs.Common.{length, refl, sym, ap, subst, arith, inl, inr, map, codes, decimal}
use Rattle.std.proofs.Common.{length-append}
use Rattle.std.specs.Prelude.{◌⊎◌, Option, Some, None, flat_map, slice_get}
use Rattle.std.specs.List.{All}
use Rattle.std.proofs.lemmas.Bool.{cases_lt}
use Rattle.std.proofs.lemmas.Fmt.{length-decimal-le}
use Rattle.std.proofs.lemmas.Option.{slice_get_within, get_or_from_slice_get}
use Rattle.std.proofs.lemmas.List.Elements.{All-nil, All-cons, All-head, All-tail, All-append}
use Rattle.std.proofs.lemmas.List.Elements.{All-contains}
use Rattle.list_lemmas.proofs.Elements.{Contains-at}
use Rattle.dl_syntax.specs.declared.names.IndId.{IndId}
use Rattle.dl_syntax.specs.declared.facts.Element.{Element}
use Rattle.dl_syntax.specs.declared.facts.Element.TheVariants.{Ind, Null}
use Rattle.dl_syntax.specs.declared.facts.Fact.{Fact}
use Rattle.dl_syntax.specs.declared.ontology.Clash.{Clash}
use Rattle.dl_syntax.specs.declared.queries.Cq.{Cq}
use Rattle.dl_syntax.specs.Names.{IsName}
use Rattle.dl_syntax.specs.Ontology.{Declared, IsOntology}
use Rattle.tcq_syntax.specs.declared.nodes.Node.{Node}
use Rattle.tcq_syntax.specs.declared.nodes.Node.TheVariants as node
use Rattle.tcq_syntax.specs.Tcq.{Tcq, IsTcq, IsLeaf}
use Rattle.edge_io.specs.Lines.{longest}
use Rattle.run_proofs.specs.declared.proof.Goal.{Goal}
use Rattle.run_proofs.specs.declared.proof.Goal.TheVariants.{Answer, Clash as Contradiction}
use Rattle.run_proofs.specs.declared.proof.Ending.{Ending}
use Rattle.run_proofs.specs.declared.proof.Ending.TheVariants.{Match, Places}
use Rattle.run_proofs.specs.declared.proof.ProofStep.{ProofStep}
use Rattle.run_proofs.specs.declared.proof.Proof.{Proof}
use Rattle.run_proofs.specs.Growing.{made_in, run_after, AllMake}
use Rattle.run_proofs.specs.Shows.{leaf_of_query, leaf_of_node, leaf_at, clash_of, EndsAnswer}
use Rattle.run_proofs.specs.Shows.{EndsClash, Ends}
use Rattle.run_proofs.specs.Texts.{Text, individual_text, element_text, row_text, query_name}
use Rattle.run_proofs.specs.Texts.{goal_text, snapshot_text, step_text, ending_text, IsWritable}
use Rattle.run_proofs.specs.Writable.{IsNamed, IsWritableRow, IsWritableGoal, IsWritableEnding}
use Rattle.run_proofs.specs.Asking.{IsAsked, IsToldEnding}
use Rattle.run_proofs.specs.Laws.{AreApart}
use Rattle.run_proofs.proofs.AskedLines.{is_there}
use Rattle.run_proofs.proofs.Spelled.{individual_spelled}
use Rattle.run_proofs.proofs.Steps.{nothing_made, made_short}
use Rattle.verify_report.specs.Stages.{most_steps}
use Rattle.verify_report.specs.Outcome.{Task}
use Rattle.verify_report.specs.Certificates.{IsSmallStep}
use Rattle.verify_report.specs.Laws.{NamesApart}
use Rattle.certificate_laws.specs.Certificates.{IsCertificate, IsWritten}
use Rattle.certificate_laws.proofs.LeafSizes.{short_row, few_elements}

-- ---- lengths

name_length : (name : Text) → IsName name → length name ≤ 64
name_length [] is = absurd is
name_length (b ∷ name) is = is.2

spread_length : {X : Type 0} (line : X → Text) (Fits : X → Type 0) (xs : List X)
    → ((x : X) → Fits x → length (line x) ≤ 65) → All Fits xs
    → length (flat_map line xs) ≤ 65 * length xs
spread_length line Fits [] each all = omega arith
spread_length line Fits (x ∷ xs) each all =
    omega (
      arith,
      length-append (line x) (flat_map line xs),
      each x (All-head Fits x xs all),
      spread_length line Fits xs each (All-tail Fits x xs all),
    )

number_length : (n : ℕ) → n < 2 ^ 32 → length (decimal n) ≤ 10
number_length n small = length-decimal-le 10 n (omega arith) (omega arith) (omega arith)

step_length : (step : ProofStep) → IsSmallStep step → length (step_text step) ≤ longest
step_length step small =
    omega (
      arith,
      number_length step.from small.0,
      number_length step.inclusion small.1,
      length-append (codes "step ") (decimal step.from ++ 32 ∷ decimal step.inclusion),
      length-append (decimal step.from) (32 ∷ decimal step.inclusion),
    )

module _ (o : Declared) (sound : IsOntology o) where
  individual_length : (i : IndId) → IsNamed o i
      → length (32 ∷ individual_text o.individuals i) ≤ 65
  individual_length i named =
      omega (
        arith,
        name_length (individual_text o.individuals i)
            (individual_spelled o sound i named),
      )

  element_length : (e : Element) → IsWritable o.individuals e
      → length (32 ∷ element_text o.individuals e) ≤ 65
  element_length (Ind i) writable = individual_length i writable
  element_length (Null n) writable = omega (arith, number_length n writable)

  query_length : (queries : List Tcq) (query : ℕ) → AreApart queries
      → length (query_name (slice_get queries query)) ≤ 64
  query_length queries query apart = by (slice_get queries query) refl
    where
      by : (found : Option Tcq) → slice_get queries query ≡ found
          → length (query_name found) ≤ 64
      by None is = omega arith
      by (Some known) is =
          name_length known.name (subst (λ (x : Tcq). IsName x.name)
          (get_or_from_slice_get queries query known known is)
          (apart.spelled query known (slice_get_within queries query known is)))

  answer_length : (queries : List Tcq) (query leaf : ℕ) (row : List IndId) → AreApart queries
      → leaf < 2 ^ 16 → length row ≤ 16 → IsWritableRow o row
      → length (goal_text o.individuals queries (Answer query leaf row)) ≤ longest
  answer_length queries query leaf row apart small short writable =
      let name = query_name (slice_get queries query) in
      let names = row_text o.individuals row in
      omega (
        arith,
        query_length queries query apart,
        number_length leaf (omega arith),
        spread_length (λ (i : IndId). 32 ∷ individual_text o.individuals i) (IsNamed o) row
            individual_length writable,
        length-append (codes "proof answer ") (name ++ (32 ∷ decimal leaf ++ names)),
        length-append name (32 ∷ decimal leaf ++ names),
        length-append (32 ∷ decimal leaf) names,
      )

  clash_length : (queries : List Tcq) (number : ℕ) → number < 2 ^ 32
      → length (goal_text o.individuals queries (Contradiction number)) ≤ longest
  clash_length queries number small =
      omega (
        arith,
        number_length number small,
        length-append (codes "proof clash ")
            (decimal number),
      )

  match_length : (elements : List Element) → length elements ≤ 16
      → All (IsWritable o.individuals) elements
      → length (ending_text o.individuals (Match elements)) ≤ longest
  match_length elements few writable =
      omega (
        arith,
        spread_length (λ (e : Element). 32 ∷ element_text o.individuals e)
            (IsWritable o.individuals) elements element_length writable,
        length-append (codes "match") (flat_map (λ e. 32 ∷ element_text o.individuals e) elements),
      )

  places_length : (first second : ℕ) → first < 2 ^ 32 → second < 2 ^ 32
      → length (ending_text o.individuals (Places first second)) ≤ longest
  places_length first second small other =
      omega (
        arith,
        number_length first small,
        number_length second other,
        length-append (codes "at ") (decimal first ++ 32 ∷ decimal second),
        length-append (decimal first) (32 ∷ decimal second),
      )

  -- ---- steps

  run_length : (run : List Fact) (steps : List ProofStep)
      → length (run_after o.inclusions run steps) ≤ length run + 2 * length steps
  run_length run [] = omega arith
  run_length run (step ∷ steps) =
      omega (
        arith,
        run_length (run ++ made_in o.inclusions run step) steps,
        made_short o.inclusions run step,
        length-append run (made_in o.inclusions run step),
      )

  names_both : (run : List Fact) (step : ProofStep) → made_in o.inclusions run step ≢ []
      → length run < 2 ^ 32 → IsSmallStep step
  names_both run step makes few =
      (from (cases_lt step.from (2 ^ 32)), inclusion (cases_lt step.inclusion (2 ^ 32)))
    where
      from : (step.from < 2 ^ 32) ⊎ (2 ^ 32 ≤ step.from) → step.from < 2 ^ 32
      from (inl below) = below
      from (inr past) = absurd (makes (nothing_made o.inclusions run step (λ both.
          let within : step.from < length run = both.0 in omega arith)))

      inclusion : (step.inclusion < 2 ^ 32) ⊎ (2 ^ 32 ≤ step.inclusion) → step.inclusion < 2 ^ 32
      inclusion (inl below) = below
      inclusion (inr past) = absurd (makes (nothing_made o.inclusions run step (λ both.
          let within : step.inclusion ≤ length o.inclusions = both.2 in
          let limit : length o.inclusions ≤ 16384 = sound.few_inclusions in omega arith)))

  small_steps : (run : List Fact) (steps : List ProofStep) → AllMake o.inclusions run steps
      → length run + 2 * length steps < 2 ^ 32 → All IsSmallStep steps
  small_steps run [] make few = All-nil IsSmallStep
  small_steps run (step ∷ steps) make few =
      All-cons IsSmallStep step steps (names_both run step make.0 (omega arith))
      (small_steps (run ++ made_in o.inclusions run step) steps make.1
      (omega (
        arith,
        made_short o.inclusions run step,
        length-append run (made_in o.inclusions run step),
      )))

  -- ---- the goal and the ending

  record Parts (queries : List Tcq) (g : Goal) (e : Ending) : Type 0 where
    asked : IsAsked o queries g
    told : IsToldEnding o.individuals e
    goal_short : length (goal_text o.individuals queries g) ≤ longest
    ending_short : length (ending_text o.individuals e) ≤ longest

  record LeafThere (queries : List Tcq) (query leaf : ℕ) (q : Cq) : Type 0 where
    known : Tcq
    there : slice_get queries query ≡ Some known
    here : slice_get known.nodes leaf ≡ Some (node.Leaf q)

  leaf_node : (found : Option Node) (q : Cq) → leaf_of_node found ≡ Some q
      → found ≡ Some (node.Leaf q)
  leaf_node (Some (node.Leaf p)) q is = let same : p ≡ q = cc in ap (λ x. Some (node.Leaf x)) same
  leaf_node found q is = absurd (cc)

  leaf_there : (queries : List Tcq) (query leaf : ℕ) (q : Cq) → leaf_at queries query leaf ≡ Some q
      → LeafThere queries query leaf q
  leaf_there queries query leaf q is = by (slice_get queries query) refl is
    where
      by : (found : Option Tcq) → slice_get queries query ≡ found
          → leaf_of_query found leaf ≡ Some q → LeafThere queries query leaf q
      by None at none = absurd (cc)
      by (Some known) at some = record {
        known = known;
        there = at;
        here = leaf_node (slice_get known.nodes leaf) q some;
      }

  module _ (queries : List Tcq) (apart : AreApart queries) (few_queries : length queries ≤ 65536)
      (tables : All (λ (query : Tcq). IsTcq query.vars query.nodes) queries) (run : List Fact)
      (short : length run < 2 ^ 32) where
    answer_parts : (query leaf : ℕ) (row : List IndId) (elements : List Element)
        → (found : Option Cq) → leaf_at queries query leaf ≡ found
        → EndsAnswer found run row elements → IsWritableGoal o queries (Answer query leaf row)
        → IsWritableEnding o (Match elements) → Parts queries (Answer query leaf row)
        (Match elements)
    answer_parts query leaf row elements None is none writable named = absurd none
    answer_parts query leaf row elements (Some q) is m writable named =
        let at : LeafThere queries query leaf q = leaf_there queries query leaf q is in
        let table : IsTcq at.known.vars at.known.nodes =
        All-contains (λ (query : Tcq). IsTcq query.vars query.nodes) queries at.known tables
        (Contains-at queries query at.known at.there) in
        let own : IsLeaf at.known.vars q = table.leaves leaf q at.here in
        let first : query < length queries = slice_get_within queries query at.known at.there in
        let second : leaf < length at.known.nodes =
        slice_get_within at.known.nodes leaf (node.Leaf q) at.here in
        let nodes : length at.known.nodes ≤ 64 = table.few_nodes in
        record {
          asked = (
            omega arith,
            omega arith,
            is_there (leaf_at queries query leaf) q (sym is),
            writable.1,
          );
          told = named;
          goal_short = answer_length queries query leaf row apart (omega arith)
              (short_row at.known.vars q own run row elements m) writable.1;
          ending_short = match_length elements
              (few_elements at.known.vars q own run row elements m) named;
        }

    clash_number : (number : ℕ) (m : Clash) → clash_of o.clashes number ≡ Some m
        → number ≤ length o.clashes
    clash_number zero m is = absurd (cc)
    clash_number (suc place) m is = omega (arith, slice_get_within o.clashes place m is)

    clash_parts : (number first second : ℕ) (found : Option Clash)
        → clash_of o.clashes number ≡ found → EndsClash found run first second
        → Parts queries (Contradiction number) (Places first second)
    clash_parts number first second None is none = absurd none
    clash_parts number first second (Some m) is meets =
        let one : first < length run = slice_get_within run first meets.left meets.at_first in
        let other : second < length run = slice_get_within run second meets.right meets.at_second
        in
        let few : length o.clashes ≤ 4096 = sound.few_clashes in
        let within : number ≤ length o.clashes = clash_number number m is in
        record {
          asked = (omega arith, is_there (clash_of o.clashes number) m (sym is));
          told = (omega arith, omega arith);
          goal_short = clash_length queries number (omega arith);
          ending_short = places_length first second (omega arith) (omega arith);
        }

    parts : (g : Goal) (e : Ending) → Ends o queries run g e → IsWritableGoal o queries g
        → IsWritableEnding o e → Parts queries g e
    parts (Answer query leaf row) (Match elements) ends writable named =
        answer_parts query leaf row elements (leaf_at queries query leaf) refl ends writable named
    parts (Answer query leaf row) (Places first second) ends writable named = absurd ends
    parts (Contradiction number) (Match elements) ends writable named = absurd ends
    parts (Contradiction number) (Places first second) ends writable named =
        clash_parts number first second (clash_of o.clashes number) refl ends

-- ---- the proof

abbrev IsShort : Text → Type 0
IsShort line = length line ≤ longest

steps_short : (steps : List ProofStep) → All IsSmallStep steps → All IsShort (map step_text steps)
steps_short [] small = All-nil IsShort
steps_short (step ∷ steps) small =
    All-cons IsShort (step_text step) (map step_text steps)
    (step_length step (All-head IsSmallStep step steps small))
    (steps_short steps (All-tail IsSmallStep step steps small))

pub certificate : (task : Task) → NamesApart task → (proof : Proof) → IsWritten task proof
    → IsCertificate task proof
certificate task apart proof is =
    let o = task.ontology in
    let run = run_after o.inclusions proof.facts proof.steps in
    let long : length run ≤ length proof.facts + 2 * length proof.steps =
    run_length o apart.sound proof.facts proof.steps in
    let few : length proof.facts ≤ 65536 = is.few in
    let short : length proof.steps ≤ most_steps = is.few_steps in
    let own : Parts o apart.sound task.queries proof.goal proof.ending =
    parts o apart.sound task.queries apart.apart is.few_queries is.tables run (omega arith)
    proof.goal proof.ending is.shows.ends is.writable.writable_goal is.writable.writable_ending in
    let small : All IsSmallStep proof.steps =
    small_steps o apart.sound proof.facts proof.steps is.shows.steps (omega arith) in
    let last : List Text = ending_text o.individuals proof.ending ∷ codes "end" ∷ [] in
    record {
      readable = record { asked = own.asked; small = small; few = short; told = own.told };
      declared = is.declared;
      distinct = is.distinct;
      few = few;
      short =
          All-cons IsShort (goal_text o.individuals task.queries proof.goal)
          (snapshot_text o proof.facts ∷ (map step_text proof.steps ++ last)) own.goal_short
          (All-cons IsShort (snapshot_text o proof.facts) (map step_text proof.steps ++ last)
          is.short (All-append IsShort (map step_text proof.steps) last
          (steps_short proof.steps small)
          (All-cons IsShort (ending_text o.individuals proof.ending) (codes "end" ∷ [])
          own.ending_short (All-cons IsShort (codes "end") [] (omega arith) (All-nil IsShort)))));
      shows = is.shows;
    }
