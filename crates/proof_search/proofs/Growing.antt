-- Queries gain the results of one more place.
use Rattle.std.proofs.Common.{◌≡◌, ℕ, ◌+◌, ◌<◌, ◌≤◌, List, [], ◌∷◌, ◌++◌, length, get_or, sym, ◌∙◌}
use Rattle.std.proofs.Common.{ap, subst, arith, inl, inr, append_assoc, Bool, true, false, cond}
use Rattle.std.proofs.Common.{length-append, refl}
use Rattle.std.specs.Prelude.{◌⊎◌, Some, None, slice_get, not}
use Rattle.std.specs.List.{Contains, list_any}
use Rattle.std.proofs.Math.ListN.{get_or-append}
use Rattle.std.proofs.lemmas.Bool.{cases_lt}
use Rattle.std.proofs.lemmas.List.{append-nil, get_or_push}
use Rattle.std.proofs.lemmas.Option.{slice_get-get_or, slice_get_within, get_or_from_slice_get}
use Rattle.std.proofs.lemmas.Option.{slice_get_read}
use Rattle.std.proofs.lemmas.List.Elements.{All-nil, All-cons, All-append, All-weaker}
use Rattle.std.proofs.lemmas.List.Elements.{Contains-append_left, Contains-push, Contains-get_or}
use Rattle.std.proofs.lemmas.Map.Views.{Contains-from_any}
use Rattle.indexmap.specs.IndexSet.{insert_key}
use Rattle.dl_syntax.specs.declared.ontology.Inclusion.{Inclusion}
use Rattle.dl_syntax.specs.declared.ontology.Inclusion.TheVariants as inclusion
use Rattle.dl_syntax.specs.declared.queries.Cq.{Cq}
use Rattle.dl_syntax.specs.Exact.{IsExact}
use Rattle.query_unify.specs.Reach.{Replaces, Reduces, Step, replace, reduce}
use Rattle.query_unify.proofs.OneResult.{replace_has_one_result, reduce_has_one_result}
use Rattle.perfect_ref.specs.Found.{Somewhere, IsReplacement, IsReduct}
use Rattle.perfect_ref.proofs.Gained.{ByNumber}
use Rattle.proof_search.specs.declared.reached.Link.{Link}
use Rattle.proof_search.specs.Reached.{LeadsBy, IsLinked, AreLinked, Grows}

-- what stands at a place stays there
pub at_grown : {X : Type 0} (xs more new : List X) (k : ℕ) (x : X) → new ≡ xs ++ more
    → slice_get xs k ≡ Some x → slice_get new k ≡ Some x
at_grown xs more new k x order at =
    let within : k < length xs = slice_get_within xs k x at in
    let same : get_or new k x ≡ x =
    ap (λ ys. get_or ys k x) order ∙ get_or-append xs more x k within
    ∙ get_or_from_slice_get xs k x x at in
    let long : k < length (xs ++ more) = rw length-append (omega arith) in
    slice_get_read new (length new) k x refl (subst (λ ys. k < length ys) (sym order) long)
    (sym same)

-- what stands last in a longer list
at_cases : {X : Type 0} (xs : List X) (y : X) (k : ℕ) (x : X) → slice_get (xs ++ y ∷ []) k ≡ Some x
    → (slice_get xs k ≡ Some x) ⊎ ((k ≡ length xs) × (x ≡ y))
at_cases {X} xs y k x at =
    let within : k < length (xs ++ y ∷ []) = slice_get_within (xs ++ y ∷ []) k x at in
    by (cases_lt k (length xs)) (rw length-append at within)
  where
    by : (k < length xs) ⊎ (length xs ≤ k) → k < length xs + length (y ∷ [])
        → (slice_get xs k ≡ Some x) ⊎ ((k ≡ length xs) × (x ≡ y))
    by (inl early) below =
        inl (slice_get-get_or xs k x early
        ∙ ap Some (sym (get_or-append xs (y ∷ []) x k early)
        ∙ get_or_from_slice_get (xs ++ y ∷ []) k x x at))
    by (inr late) below = inr (omega arith, last (omega arith))
      where
        last : k ≡ length xs → x ≡ y
        last same =
            sym (get_or_from_slice_get (xs ++ y ∷ []) k x x at) ∙ get_or_push xs y x k (sym same)

module _ (inclusions : List Inclusion) where
  -- the links of fewer queries serve for more
  IsLinked-grown : (keys more new : List Cq) (k : ℕ) (q : Cq) (link : Link) → new ≡ keys ++ more
      → IsLinked inclusions keys k q link → IsLinked inclusions new k q link
  IsLinked-grown keys more new k q link order is = record {
    earlier = is.earlier;
    before = is.before;
    at = at_grown keys more new link.from is.before order is.at;
    leads = is.leads;
  }

  -- a query with its link, put last
  pub linked_push : (keys : List Cq) (links : List Link) (q before : Cq) (link : Link)
      → slice_get keys link.from ≡ Some before → LeadsBy inclusions link.via before q
      → AreLinked inclusions keys links
      → AreLinked inclusions (keys ++ q ∷ []) (links ++ link ∷ [])
  linked_push keys links q before link at leads are = record {
    same_length = rw (length-append, length-append) (omega (arith, are.same_length));
    linked = λ k q' l positive here there.
        by k q' l positive (at_cases keys q k q' here) (at_cases links link k l there);
  }
    where
      by : (k : ℕ) (q' : Cq) (l : Link) → 0 < k
          → (slice_get keys k ≡ Some q') ⊎ ((k ≡ length keys) × (q' ≡ q))
          → (slice_get links k ≡ Some l) ⊎ ((k ≡ length links) × (l ≡ link))
          → IsLinked inclusions (keys ++ q ∷ []) k q' l
      by k q' l positive (inl here) (inl there) =
          IsLinked-grown keys (q ∷ []) (keys ++ q ∷ []) k q' l refl
          (are.linked k q' l positive here there)
      by k q' l positive (inl here) (inr there) =
          let within : k < length keys = slice_get_within keys k q' here in
          absurd (omega (arith, are.same_length, there.0))
      by k q' l positive (inr here) (inl there) =
          let within : k < length links = slice_get_within links k l there in
          absurd (omega (arith, are.same_length, here.0))
      by k q' l positive (inr here) (inr there) =
          let first : IsLinked inclusions (keys ++ q ∷ []) k q link = record {
            earlier = (let within : link.from < length keys =
                slice_get_within keys link.from before at in omega (arith, here.0));
            before = before;
            at = at_grown keys (q ∷ []) (keys ++ q ∷ []) link.from before refl at;
            leads = leads;
          } in
          subst (λ (l' : Link). IsLinked inclusions (keys ++ q ∷ []) k q' l') (sym there.1)
          (subst (λ (p : Cq). IsLinked inclusions (keys ++ q ∷ []) k p link) (sym here.1) first)

  pub grows_none : (P : Cq → Type 0) (keys : List Cq) (links : List Link) → ((q : Cq) → P q → ⊥)
      → Grows inclusions P keys links keys links
  grows_none P keys links none = record {
    added = [];
    order = sym (append-nil keys);
    sound = All-nil P;
    complete = λ q h. absurd (none q h);
    kept = λ are. are;
  }

  pub grows_start : (R : ℕ → Cq → Type 0) (keys : List Cq) (links : List Link)
      → Grows inclusions (Somewhere R 0) keys links keys links
  grows_start R keys links = grows_none (Somewhere R 0) keys links (λ q h. omega (arith, h.1))

  module _ (keys mid new : List Cq) (links mid_links new_links : List Link) where
    pub grows_next : (R : ℕ → Cq → Type 0) (bound : ℕ)
        → Grows inclusions (Somewhere R bound) keys links mid mid_links
        → Grows inclusions (R bound) mid mid_links new new_links
        → Grows inclusions (Somewhere R (bound + 1)) keys links new new_links
    grows_next R bound g h = record {
      added = g.added ++ h.added;
      order = h.order ∙ ap (λ (xs : List Cq). xs ++ h.added) g.order
          ∙ append_assoc keys g.added h.added;
      sound = All-append (Somewhere R (bound + 1)) g.added h.added
          (All-weaker (Somewhere R bound) (Somewhere R (bound + 1)) (λ q s.
          (s.0, omega (arith, s.1), s.2)) g.added g.sound)
          (All-weaker (R bound) (Somewhere R (bound + 1)) (λ q s.
          (bound, omega arith, s)) h.added h.sound);
      complete = λ q s. found q s (cases_lt s.0 bound);
      kept = λ are. h.kept (g.kept are);
    }
      where
        found : (q : Cq) (s : Somewhere R (bound + 1) q) → (s.0 < bound) ⊎ (bound ≤ s.0)
            → Contains new q
        found q s (inl early) = subst (λ (xs : List Cq). Contains xs q) (sym h.order)
            (Contains-append_left mid h.added q (g.complete q (s.0, early, s.2)))
        found q s (inr late) =
            let at : s.0 ≡ bound = omega (arith, s.1, late) in
            h.complete q (subst (λ (n : ℕ). R n q) at s.2)

    pub grows_both : (P Q : Cq → Type 0) → Grows inclusions P keys links mid mid_links
        → Grows inclusions Q mid mid_links new new_links
        → Grows inclusions (λ q. P q ⊎ Q q) keys links new new_links
    grows_both P Q g h = record {
      added = g.added ++ h.added;
      order = h.order ∙ ap (λ (xs : List Cq). xs ++ h.added) g.order
          ∙ append_assoc keys g.added h.added;
      sound = All-append (λ q. P q ⊎ Q q) g.added h.added (All-weaker P (λ q. P q
          ⊎ Q q) (λ q s. inl s) g.added g.sound) (All-weaker Q (λ q. P q
          ⊎ Q q) (λ q s. inr s) h.added h.sound);
      complete = λ q s. found q s;
      kept = λ are. h.kept (g.kept are);
    }
      where
        found : (q : Cq) → P q ⊎ Q q → Contains new q
        found q (inl s) = subst (λ (xs : List Cq). Contains xs q) (sym h.order)
            (Contains-append_left mid h.added q (g.complete q s))
        found q (inr s) = h.complete q s

  module _ (keys new : List Cq) (links new_links : List Link) where
    pub grows_same : (P Q : Cq → Type 0) → ((q : Cq) → P q → Q q) → ((q : Cq) → Q q → P q)
        → Grows inclusions P keys links new new_links → Grows inclusions Q keys links new new_links
    grows_same P Q to from g = record {
      added = g.added;
      order = g.order;
      sound = All-weaker P Q to g.added g.sound;
      complete = λ q h. g.complete q (from q h);
      kept = g.kept;
    }

    -- one query, and no other has the property
    pub grows_one : (P : Cq → Type 0) (next : Cq) → P next → ((q : Cq) → P q → next ≡ q)
        → Grows inclusions (λ q. next ≡ q) keys links new new_links
        → Grows inclusions P keys links new new_links
    grows_one P next is one g = grows_same (λ q. next ≡ q) P (λ q same. subst P same is) one g

    pub grows_number : (q : Cq) (place n : ℕ) (i : Inclusion) → slice_get inclusions n ≡ Some i
        → Grows inclusions (Replaces i place q) keys links new new_links
        → Grows inclusions (ByNumber inclusions q place n) keys links new new_links
    grows_number q place n i at g =
        grows_same (Replaces i place q) (ByNumber inclusions q place n) (λ q' h. (i, at, h))
        (λ q' h. let same : h.0 ≡ i = cc (at, h.1) in
        subst (λ (j : Inclusion). Replaces j place q q') same h.2) g

    pub grows_list : (q : Cq) (place n : ℕ) → n ≡ length inclusions
        → Grows inclusions (Somewhere (ByNumber inclusions q place) n) keys links new new_links
        → Grows inclusions (IsReplacement inclusions q place) keys links new new_links
    grows_list q place n all g =
        grows_same (Somewhere (ByNumber inclusions q place) n) (IsReplacement inclusions q place)
        (λ q' (k, below, (i, at, r)).
        (i, (k, slice_get_within inclusions k i at, get_or_from_slice_get inclusions k i i at), r))
        (λ q' (i, (k, below, is), r).
        (k, omega arith, (i, slice_get-get_or inclusions k i below ∙ ap Some is, r))) g

    -- a query that is in the set stays, and another goes last with its link
    pub grows_insert : (eq : Cq → Cq → Bool) → IsExact eq → (q before : Cq) (link : Link)
        → slice_get keys link.from ≡ Some before → LeadsBy inclusions link.via before q
        → new ≡ insert_key eq keys q → (list_any (eq q) keys ≡ true → new_links ≡ links)
        → (list_any (eq q) keys ≡ false → new_links ≡ links ++ link ∷ [])
        → Grows inclusions (λ p. q ≡ p) keys links new new_links
    grows_insert eq exact q before link at leads is stay push =
        by (list_any (eq q) keys) refl is
      where
        by : (b : Bool) → list_any (eq q) keys ≡ b → new ≡ cond b keys (keys ++ q ∷ [])
            → Grows inclusions (λ p. q ≡ p) keys links new new_links
        by true there same = record {
          added = [];
          order = same ∙ sym (append-nil keys);
          sound = All-nil (λ p. q ≡ p);
          complete = λ p here. subst (λ (x : Cq). Contains new x) here
              (subst (λ (xs : List Cq). Contains xs q) (sym same)
              (Contains-from_any (λ x y. (exact x y).0) q keys there));
          kept = λ are. subst (λ (xs : List Cq). AreLinked inclusions xs new_links) (sym same)
              (subst (λ (ls : List Link). AreLinked inclusions keys ls) (sym (stay there)) are);
        }
        by false absent longer = record {
          added = q ∷ [];
          order = longer;
          sound = All-cons (λ p. q ≡ p) q [] refl (All-nil (λ p. q ≡ p));
          complete = λ p here. subst (λ (x : Cq). Contains new x) here
              (subst (λ (xs : List Cq). Contains xs q) (sym longer) (Contains-push keys q));
          kept = λ are. subst (λ (xs : List Cq). AreLinked inclusions xs new_links) (sym longer)
              (subst (λ (ls : List Link). AreLinked inclusions (keys ++ q ∷ []) ls)
              (sym (push absent)) (linked_push keys links q before link at leads are));
        }

  module _ (keys mid new : List Cq) (links mid_links new_links : List Link) where
    -- exactly the steps are gained
    pub grows_steps : (q : Cq)
        → Grows inclusions (Somewhere (IsReplacement inclusions q) (length q.body)) keys links mid
        mid_links
        → Grows inclusions (IsReduct q) mid mid_links new new_links
        → Grows inclusions (Step inclusions q) keys links new new_links
    grows_steps q g h =
        grows_same keys new links new_links
        (λ q'. Somewhere (IsReplacement inclusions q) (length q.body) q' ⊎ IsReduct q q')
        (Step inclusions q) taken listed
        (grows_both keys mid new links mid_links new_links
        (Somewhere (IsReplacement inclusions q) (length q.body)) (IsReduct q) g h)
      where
        taken : (q' : Cq) → Somewhere (IsReplacement inclusions q) (length q.body) q'
            ⊎ IsReduct q q' → Step inclusions q q'
        taken q' (inl (place, within, (i, there, r))) = replace i place there r
        taken q' (inr (k, below, (j, order, r))) = reduce j k order r

        listed : (q' : Cq) → Step inclusions q q'
            → Somewhere (IsReplacement inclusions q) (length q.body) q' ⊎ IsReduct q q'
        listed q' (replace i place there r) =
            inl (place, slice_get_within q.body place r.old r.at, (i, there, r))
        listed q' (reduce j k order r) =
            inr (k, slice_get_within q.body k r.second r.at_second, (j, order, r))

module _ (inclusions : List Inclusion) (keys new : List Cq) (links new_links : List Link) where
  pub grows_replaced : (d : Inclusion) (q next : Cq) (place number from : ℕ)
      → slice_get keys from ≡ Some q → number < length inclusions
      → Replaces (get_or inclusions number d) place q next
      → ((incl : List Inclusion) (before : Cq) → slice_get keys from ≡ Some before
      → LeadsBy incl (Some (get_or inclusions number d)) before next
      → Grows incl (λ p. next ≡ p) keys links new new_links)
      → (i : Inclusion) → slice_get inclusions number ≡ Some i
      → Grows inclusions (Replaces i place q) keys links new new_links
  grows_replaced d q next place number from at within r added i listed =
      let j : Inclusion = get_or inclusions number d in
      let same : j ≡ i = get_or_from_slice_get inclusions number i d listed in
      let leads : LeadsBy inclusions (Some j) q next =
      (place, Contains-get_or inclusions number d within, r) in
      let grown : Grows inclusions (Replaces j place q) keys links new new_links =
      grows_one inclusions keys new links new_links (Replaces j place q) next r
      (λ p other. replace_has_one_result j place q next p r other)
      (added inclusions q at leads) in
      subst (λ (k : Inclusion). Grows inclusions (Replaces k place q) keys links new new_links) same
      grown

  pub grows_reduced : (q next : Cq) (j k from : ℕ) → slice_get keys from ≡ Some q → j < k
      → Reduces j k q next
      → ((incl : List Inclusion) (before : Cq) → slice_get keys from ≡ Some before
      → LeadsBy incl None before next → Grows incl (λ p. next ≡ p) keys links new new_links)
      → Grows inclusions (Reduces j k q) keys links new new_links
  grows_reduced q next j k from at order r added =
      grows_one inclusions keys new links new_links (Reduces j k q) next r
      (λ p other. reduce_has_one_result j k q next p r other)
      (added inclusions q at (j, k, order, r))

module _ (inclusions : List Inclusion) (keys : List Cq) (links : List Link) where
  pub grows_unreplaced : (d : Inclusion) (q : Cq) (place number : ℕ)
      → ((p : Cq) → Replaces (get_or inclusions number d) place q p → ⊥)
      → (i : Inclusion) → slice_get inclusions number ≡ Some i
      → Grows inclusions (Replaces i place q) keys links keys links
  grows_unreplaced d q place number none i listed =
      grows_none inclusions (Replaces i place q) keys links
      (λ p r. none p (subst (λ (k : Inclusion). Replaces k place q p)
      (sym (get_or_from_slice_get inclusions number i d listed)) r))

-- a query stays at its place
pub at_still : (inclusions : List Inclusion) (P : Cq → Type 0) (keys new : List Cq)
    (links new_links : List Link) (k : ℕ) (q : Cq) → slice_get keys k ≡ Some q
    → Grows inclusions P keys links new new_links → slice_get new k ≡ Some q
at_still inclusions P keys new links new_links k q at g = at_grown keys g.added new k q g.order at

-- any inclusion
pub no_inclusion : Inclusion
no_inclusion = inclusion.Roles (record { id = record { 0 = 0 }; inverse = false })
    (record { id = record { 0 = 0 }; inverse = false })

-- a query that is not new was there, and a new one wasn't
pub was_there : {X : Type 0} (b new : Bool) → new ≡ not b → new ≡ false → b ≡ false → X
was_there true new e h k = absurd (cc)
was_there false new e h k = absurd (cc)

pub was_absent : {X : Type 0} (b new : Bool) → new ≡ not b → new ≡ true → b ≡ true → X
was_absent true new e h k = absurd (cc)
was_absent false new e h k = absurd (cc)

-- all that one step leads to from the query at the place
pub expand_grows : (inclusions : List Inclusion) (keys mid new : List Cq)
    (links mid_links new_links : List Link) (place : ℕ) (x copy : Cq)
    → slice_get keys place ≡ Some x → copy ≡ x
    → Grows inclusions (Somewhere (IsReplacement inclusions copy) (length copy.body)) keys links mid
    mid_links
    → ((incl : List Inclusion) → Grows incl (IsReduct copy) mid mid_links new new_links)
    → (q : Cq) → slice_get keys place ≡ Some q
    → Grows inclusions (Step inclusions q) keys links new new_links
expand_grows inclusions keys mid new links mid_links new_links place x copy here same g h q at =
    let alike : x ≡ q = cc (here, at) in
    let is : copy ≡ q = same ∙ alike in
    subst (λ (p : Cq). Grows inclusions (Step inclusions p) keys links new new_links) is
    (grows_steps inclusions keys mid new links mid_links new_links copy g (h inclusions))
