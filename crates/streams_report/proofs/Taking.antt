-- Which queries streams take.
use Rattle.std.proofs.Common.{◌≡◌, ◌≤◌, ◌<◌, ℕ, List, inl, sym, ◌∙◌, ap, arith}
use Rattle.dl_syntax.specs.Ontology.{Declared}
use Rattle.tcq_syntax.specs.Tcq.{Tcq}
use Rattle.monitor_core.specs.Setting.{Setting}
use Rattle.stream_report.specs.declared.ending.Ending.TheVariants.{Refused}
use Rattle.job_sources.specs.declared.refusal.Refusal.TheVariants.{BadOntology, TooManyRewritings}
use Rattle.job_sources.specs.declared.refusal.Refusal.TheVariants.{BadDocument, BadQueries}
use Rattle.job_sources.specs.declared.refusal.Refusal.TheVariants.{NotALeaf, TooLarge}
use Rattle.job_sources.specs.Sources.{IsTaken, IsRefused}
use Rattle.streams_report.specs.Opening.{units_in, most_of_each, refuses_large}

abbrev of : Declared → List Tcq → Setting
of ontology queries = record { ontology = ontology; queries = queries }

takes_small : (setting : Setting) → units_in setting ≤ most_of_each → IsTaken refuses_large setting
takes_small setting small (TooLarge total) own = omega (arith, small, own.0, own.1)
takes_small setting small (BadOntology line kind) own = own
takes_small setting small (BadDocument line kind) own = own
takes_small setting small TooManyRewritings own = own
takes_small setting small (BadQueries line kind) own = own
takes_small setting small (NotALeaf name) own = own

-- queries of few units are taken
pub are_taken : (ontology : Declared) (counted queries : List Tcq) (total : ℕ)
    → total ≡ units_in (of ontology counted) → counted ≡ queries → total ≤ most_of_each
    → IsTaken refuses_large (of ontology queries)
are_taken ontology counted queries total is same small =
    let few : units_in (of ontology queries) ≡ total =
    sym (is ∙ ap (λ (l : List Tcq). units_in (of ontology l)) same) in
    takes_small (of ontology queries) (omega (arith, few, small))

-- and others are refused
pub are_refused : (ontology : Declared) (counted queries : List Tcq) (total : ℕ)
    → total ≡ units_in (of ontology counted) → counted ≡ queries → most_of_each < total
    → IsRefused refuses_large (of ontology queries) (Refused (TooLarge total))
are_refused ontology counted queries total is same many =
    inl (is ∙ ap (λ (l : List Tcq). units_in (of ontology l)) same, many)
