-- A run grown by places stays a run.
use Rattle.std.proofs.Common.{◌≡◌, ℕ, zero, suc, Bool, List, [], ◌++◌, length, refl, sym, subst}
use Rattle.std.specs.Prelude.{Option, Some, None, Result, Ok, Err, IfOk, OnErr, slice_get}
use Rattle.std.proofs.lemmas.List.{append-nil}
use Rattle.std.proofs.lemmas.Option.{none-some}
use Rattle.std.specs.List.{Contains}
use Rattle.list_lemmas.proofs.Elements.{Contains-at}
use Rattle.dl_syntax.specs.declared.facts.Fact.{Fact}
use Rattle.dl_syntax.specs.declared.ontology.Inclusion.{Inclusion}
use Rattle.dl_syntax.specs.Chase.{Run}
use Rattle.dl_syntax.specs.Growing.{inclusion_of, made_of_both, made_at}
use Rattle.dl_syntax.proofs.RunLaws.{grown_is_run}

listed_at : (inclusions : List Inclusion) (number : ℕ) (i : Inclusion)
    → inclusion_of inclusions number ≡ Some i → Contains inclusions i
listed_at inclusions zero i at = absurd (none-some i at)
listed_at inclusions (suc place) i at = Contains-at inclusions place i at

same_run : (inclusions : List Inclusion) (snapshot run : List Fact) → Run inclusions snapshot run
    → Run inclusions snapshot (run ++ [])
same_run inclusions snapshot run is_run =
    subst (Run inclusions snapshot) (sym (append-nil run)) is_run

grown_of_both : (inclusions : List Inclusion) (snapshot run : List Fact) (from number : ℕ)
    (i : Option Inclusion) (f : Option Fact) → inclusion_of inclusions number ≡ i
    → slice_get run from ≡ f → Run inclusions snapshot run
    → Run inclusions snapshot (run ++ made_of_both i f (length run))
grown_of_both inclusions snapshot run from number (Some i) (Some f) listed earlier is_run =
    grown_is_run inclusions snapshot run i f is_run (listed_at inclusions number i listed)
    (Contains-at run from f earlier)
grown_of_both inclusions snapshot run from number (Some i) None listed earlier is_run =
    same_run inclusions snapshot run is_run
grown_of_both inclusions snapshot run from number None f listed earlier is_run =
    same_run inclusions snapshot run is_run

pub grown_at_is_run : (inclusions : List Inclusion) (snapshot run : List Fact) (from number : ℕ)
    → Run inclusions snapshot run
    → Run inclusions snapshot (run ++ made_at inclusions run from number)
grown_at_is_run inclusions snapshot run from number is_run =
    grown_of_both inclusions snapshot run from number (inclusion_of inclusions number)
    (slice_get run from) refl refl is_run

-- grown on success, and as before on an error
pub run_stays : {E : Type 0} (result : Result Bool E) (inclusions : List Inclusion)
    (snapshot run grown : List Fact) (from number : ℕ)
    → IfOk result (λ _. grown ≡ run ++ made_at inclusions run from number)
    → OnErr result (grown ≡ run) → Run inclusions snapshot run → Run inclusions snapshot grown
run_stays (Ok grows) inclusions snapshot run grown from number ok err is_run =
    subst (Run inclusions snapshot) (sym ok)
    (grown_at_is_run inclusions snapshot run from number is_run)
run_stays (Err fault) inclusions snapshot run grown from number ok err is_run =
    subst (Run inclusions snapshot) (sym err) is_run
