-- States that take turns.
use Rattle.std.proofs.Common.{◌≡◌, ℕ, zero, suc, ◌+◌, ◌<◌, ◌≤◌, List, [], ◌∷◌, ◌++◌, length}
use Rattle.std.proofs.Common.{get_or, set, refl, sym, ◌∙◌, ap, ap₂, subst, arith, take}
use Rattle.std.proofs.Common.{length-append}
use Rattle.std.proofs.Common.{◌-◌}
use Rattle.std.specs.Prelude.{Option, None, Some, slice_get, slice_set, is_some, MatchOption, map}
use Rattle.std.specs.Prelude.{Bool}
use Rattle.std.specs.List.{All, AllZip}
use Rattle.std.proofs.lemmas.List.{map-append, take-append-le}
use Rattle.std.proofs.lemmas.List.Elements.{All-push}
use Rattle.std.proofs.Math.Seq.{take-length}
use Rattle.list_lemmas.proofs.Zipped.{AllZip-added}
use Rattle.dl_syntax.specs.declared.facts.Fact.{Fact}
use Rattle.dl_syntax.specs.Rows.{Relation}
use Rattle.tcq_syntax.specs.Histories.{History, with_snapshot}
use Rattle.monitor_core.specs.declared.state.State.{State}
use Rattle.monitor_core.specs.declared.plan.Plan.{Plan}
use Rattle.monitor_core.specs.Keeping.{Monitored}
use Rattle.monitor_core.specs.Answering.{AreAllAnswers}
use Rattle.monitor_core.specs.Exchanging.{Watched, watched_of, in_state, FitsUnder, StandsUnder}
use Rattle.monitor_core.specs.Standing.{Takes, no_history, setting_of}
use Rattle.many_streams.specs.Streams.{Streams, number_of, with_stream, with_state, Begins, Enters}
use Rattle.many_streams.specs.Streams.{GoesOn, AreStreams}
use Rattle.many_streams.proofs.Numbers.{number_of-last}
use Rattle.many_streams.specs.Standing.{Named, names_in, Stand, entered, taken, StandEntered}
use Rattle.many_streams.specs.Standing.{StandTaken}

-- ---- lists at a place

pub set_twice : {X : Type 0} (xs : List X) (n : ℕ) (x y : X)
    → slice_set (slice_set xs n x) n y ≡ slice_set xs n y
set_twice [] n x y = refl
set_twice (z ∷ xs) zero x y = refl
set_twice (z ∷ xs) (suc n) x y = ap (λ l. z ∷ l) (set_twice xs n x y)

pub set_same : {X : Type 0} (xs : List X) (n : ℕ) (x : X) → slice_get xs n ≡ Some x
    → slice_set xs n x ≡ xs
set_same [] n x at = refl
set_same (z ∷ xs) zero x at = let same : z ≡ x = cc in ap (λ y. y ∷ xs) (sym same)
set_same (z ∷ xs) (suc n) x at = ap (λ l. z ∷ l) (set_same xs n x at)

pub get_set : {X : Type 0} (xs : List X) (n : ℕ) (x y : X) → slice_get (slice_set xs n x) n ≡ Some y
    → x ≡ y
get_set [] n x y at = absurd cc
get_set (z ∷ xs) zero x y at = cc
get_set (z ∷ xs) (suc n) x y at = get_set xs n x y at

-- ---- a stream that begins

begun_stands : (old new : Streams) (name : List ℕ) (number : ℕ) → number_of old.names name ≡ None
    → Begins old new name number → StandEntered old new name
begun_stands old new name number none b all stand =
    let one : Named = record { name = name; history = no_history } in
    let is_new : is_some (number_of (names_in all) name) ≡ is_some (let n : Option ℕ = None in n) =
    ap (λ (l : List (List ℕ)). is_some (number_of l name)) stand.names ∙ ap is_some none in
    let more : entered name all ≡ all ++ one ∷ [] = rw is_new refl in
    subst (λ (l : List Named). Stand new l) (sym more)
    (subst (λ (s : Streams). Stand s (all ++ one ∷ [])) (sym b.is) (record {
      names = map-append (λ (n : Named). n.name) all (one ∷ [])
          ∙ ap (λ (l : List (List ℕ)). l ++ name ∷ []) stand.names;
      histories = AllZip-added (λ state (n : Named). StandsUnder old.watched state n.history)
          old.states all b.state one stand.histories b.stands;
    }))

known_stands : (old new : Streams) (name : List ℕ) (known : ℕ)
    → number_of old.names name ≡ Some known → new ≡ old → StandEntered old new name
known_stands old new name known some same all stand =
    let is_known : is_some (number_of (names_in all) name)
    ≡ is_some (let n : Option ℕ = Some known in n) =
    ap (λ (l : List (List ℕ)). is_some (number_of l name)) stand.names ∙ ap is_some some in
    let stays : entered name all ≡ all = rw is_known refl in
    subst (λ (l : List Named). Stand new l) (sym stays)
    (subst (λ (s : Streams). Stand s all) (sym same) stand)

pub enters_stands : (old new : Streams) (name : List ℕ) (number : ℕ) → Enters old new name number
    → StandEntered old new name
enters_stands old new name number enters = go (number_of old.names name) refl enters
  where
    go : (n : Option ℕ) → number_of old.names name ≡ n
        → MatchOption n (Begins old new name number) (λ known. (number ≡ known) × (new ≡ old))
        → StandEntered old new name
    go None is b = begun_stands old new name number is b
    go (Some known) is both = known_stands old new name known is both.1

-- ---- a stream that goes on

names_taken : (number : ℕ) (snapshot : List Fact) (all : List Named)
    → names_in (taken number snapshot all) ≡ names_in all
names_taken number snapshot [] = refl
names_taken zero snapshot (named ∷ all) = refl
names_taken (suc number) snapshot (named ∷ all) =
    ap (λ (l : List (List ℕ)). named.name ∷ l) (names_taken number snapshot all)

module _ (watched : Watched) (snapshot : List Fact) (before after : State)
    (next : (history : History) → StandsUnder watched before history
    → StandsUnder watched after (with_snapshot snapshot history)) where
  histories_taken : (number : ℕ) (states : List State) (all : List Named)
      → slice_get states number ≡ Some before
      → AllZip (λ state (n : Named). StandsUnder watched state n.history) states all
      → AllZip (λ state (n : Named). StandsUnder watched state n.history)
      (slice_set states number after) (taken number snapshot all)
  histories_taken number [] all at zipped = absurd cc
  histories_taken number (s ∷ states) [] at zipped = absurd zipped
  histories_taken zero (s ∷ states) (named ∷ all) at zipped =
      let same : s ≡ before = cc in (
        next named.history
            (subst (λ (x : State). StandsUnder watched x named.history) same zipped.0),
        zipped.1,
      )
  histories_taken (suc number) (s ∷ states) (named ∷ all) at zipped =
      (zipped.0, histories_taken number states all at zipped.1)

its_history : (watched : Watched) (number : ℕ) (states : List State) (all : List Named)
    (state : State) (named : Named) → slice_get states number ≡ Some state
    → slice_get all number ≡ Some named
    → AllZip (λ s (n : Named). StandsUnder watched s n.history) states all
    → StandsUnder watched state named.history
its_history watched number [] all state named at there zipped = absurd cc
its_history watched number (s ∷ states) [] state named at there zipped = absurd zipped
its_history watched zero (s ∷ states) (n ∷ all) state named at there zipped =
    let same : s ≡ state = cc in
    let this : n ≡ named = cc in
    subst (λ (x : State). StandsUnder watched x named.history) same
    (subst (λ (x : Named). StandsUnder watched s x.history) this zipped.0)
its_history watched (suc number) (s ∷ states) (n ∷ all) state named at there zipped =
    its_history watched number states all state named at there zipped.1

pub goes_stands : (old new : Streams) (number : ℕ) (snapshot : List Fact)
    (answers : List Relation) → GoesOn old new number snapshot answers
    → StandTaken old new number snapshot answers
unfolding setting_of
goes_stands old new number snapshot answers g all stand = (
  subst (λ (s : Streams). Stand s (taken number snapshot all)) (sym g.is) (record {
    names = names_taken number snapshot all ∙ stand.names;
    histories = histories_taken old.watched snapshot g.before g.after
        (λ history here. (g.takes history here).stands) number old.states all g.was
        stand.histories;
  }),
  λ named at. (g.takes named.history
      (its_history old.watched number old.states all g.before named g.was at
      stand.histories)).answers,
)

-- ---- the set stays sound

pub more_streams : (watched : Watched) (names later : List (List ℕ)) (states after : List State)
    (name : List ℕ) (state : State)
    → AreStreams (record { watched = watched; names = names; states = states })
    → later ≡ names ++ name ∷ [] → after ≡ states ++ state ∷ [] → length names < 64
    → FitsUnder watched state
    → AreStreams (record { watched = watched; names = later; states = after })
more_streams watched names later states after name state are named kept room fits =
    let count : length later ≡ length names + 1 =
    ap (λ (l : List (List ℕ)). length l) named ∙ length-append names (name ∷ []) in
    let kept_count : length after ≡ length states + 1 =
    ap (λ (l : List State). length l) kept ∙ length-append states (state ∷ []) in
    record {
      closed = are.closed;
      unnamed = are.unnamed;
      one_each = omega (arith, count, kept_count, are.one_each);
      few = omega (arith, count, room);
      fits = subst (All (FitsUnder watched)) (sym kept)
          (All-push (FitsUnder watched) states state are.fits fits);
    }

-- a state that was put last is taken away
pub popped : (states after more : List State) (state : State) → after ≡ states ++ state ∷ []
    → more ≡ take (length after - 1) after → more ≡ states
popped states after more state is rest =
    let count : length after ≡ length states + 1 =
    ap (λ (l : List State). length l) is ∙ length-append states (state ∷ []) in
    let few : length after - 1 ≡ length states = omega (arith, count) in
    rest ∙ ap₂ (λ (n : ℕ) (l : List State). take n l) few is
    ∙ take-append-le (length states) states (state ∷ []) (omega arith) ∙ take-length states

pub begins_there : (old new : Streams) (name : List ℕ) (number : ℕ)
    → number_of old.names name ≡ None → Begins old new name number
    → number_of new.names name ≡ Some number
begins_there old new name number none b =
    ap (λ (s : Streams). number_of s.names name) b.is
    ∙ number_of-last old.names name none
    ∙ ap (λ (n : ℕ). let o : Option ℕ = Some n in o) (sym b.is_next)

-- ---- a turn

module _ (old : Streams) (m0 m1 m2 m3 : Monitored) (names : List (List ℕ)) (s0 s1 s3 : List State)
    (place : ℕ)
    (is : (let s : Streams = record { watched = watched_of m0; names = names; states = s0 } in s)
    ≡ old)
    (w1 : watched_of m1 ≡ watched_of m0) (g1 : slice_get s0 place ≡ Some m1.state)
    (e1 : s1 ≡ slice_set s0 place m0.state) (w2 : watched_of m2 ≡ watched_of m1)
    (w3 : watched_of m3 ≡ watched_of m2) (e3 : s3 ≡ slice_set s1 place m2.state) where
  abbrev inside : Streams
  inside = record { watched = watched_of m0; names = names; states = s0 }

  abbrev pub after_turn : Streams
  after_turn = record { watched = watched_of m3; names = names; states = s3 }

  states_after : s3 ≡ slice_set s0 place m2.state
  states_after =
      e3 ∙ ap (λ (l : List State). slice_set l place m2.state) e1
      ∙ set_twice s0 place m0.state m2.state

  after_is : after_turn ≡ with_state place m2.state inside
  after_is =
      ap₂ (λ (w : Watched) (l : List State). let s : Streams = record {
        watched = w;
        names = names;
        states = l;
      } in s) (w3 ∙ w2 ∙ w1) states_after

  pub goes_turn : (snapshot : List Fact) (answers : List Relation) → Takes m1 m2 snapshot answers
      → GoesOn old after_turn place snapshot answers
  goes_turn snapshot answers takes =
      let first : Takes (in_state (watched_of m0) m1.state) (in_state (watched_of m2) m2.state)
      snapshot answers = subst (λ (w : Watched).
      Takes (in_state w m1.state) (in_state (watched_of m2) m2.state) snapshot answers) w1 takes in
      let both : Takes (in_state (watched_of m0) m1.state) (in_state (watched_of m0) m2.state)
      snapshot answers = subst (λ (w : Watched).
      Takes (in_state (watched_of m0) m1.state) (in_state w m2.state) snapshot answers) (w2 ∙ w1)
      first in
      subst (λ (o : Streams). GoesOn o after_turn place snapshot answers) is (record {
        before = m1.state;
        was = g1;
        after = m2.state;
        is = after_is;
        takes = both;
      })

  pub stays_turn : m2 ≡ m1 → after_turn ≡ old
  stays_turn same =
      after_is
      ∙ ap (λ (s : State). with_state place s inside) (ap (λ (m : Monitored). m.state) same)
      ∙ ap (λ (l : List State). let s : Streams = record {
        watched = watched_of m0;
        names = names;
        states = l;
      } in s) (set_same s0 place m1.state g1) ∙ is

pub same_watched : (old new : Monitored) → new.plan ≡ old.plan → new.strangers ≡ old.strangers
    → new.declared ≡ old.declared → watched_of new ≡ watched_of old
same_watched old new plans strangers declared =
    ap (λ (p : Plan). let w : Watched = record {
      plan = p;
      strangers = new.strangers;
      declared = new.declared;
    } in w) plans
    ∙ ap (λ (b : Bool). let w : Watched = record {
      plan = old.plan;
      strangers = b;
      declared = new.declared;
    } in w) strangers
    ∙ ap (λ (n : ℕ). let w : Watched = record {
      plan = old.plan;
      strangers = old.strangers;
      declared = n;
    } in w) declared
