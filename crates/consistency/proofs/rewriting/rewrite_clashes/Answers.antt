use Rattle.std.proofs.Common.{◌≡◌, ◌<◌, ◌≤◌, ◌+◌, ◌-◌, ◌++◌, [], ◌∷◌, ℕ, suc, List, length, take}
use Rattle.std.proofs.Common.{drop, get_or, subst, sym, ◌∙◌, ap, arith, drop-cons}
use Rattle.std.proofs.lemmas.List.{take-append-drop, take_more, map-append}
use Rattle.dl_syntax.specs.declared.ontology.Clash.{Clash}
use Rattle.dl_syntax.specs.declared.ontology.Clash.TheVariants as clash
use Rattle.dl_syntax.specs.declared.ontology.Basic.TheVariants as basic
use Rattle.dl_syntax.specs.declared.queries.Cq.{Cq}
use Rattle.perfect_ref.specs.Plain.{Reachable, HoldsOfMore}
use Rattle.perfect_ref.specs.Counting.{ReachAll, ReachMore}
use Rattle.perfect_ref.specs.declared.rewriting.RewriteFault.{RewriteFault}
use Rattle.perfect_ref.proofs.Counting.{all_joined, all_one, more_first, more_later, more_one}
use Rattle.std.specs.Prelude.{Err}
use Rattle.consistency.specs.Asking.{query_of, queries_of}
use Rattle.consistency.specs.Prepared.{IsRewriting}
use Rattle.list_lemmas.proofs.Zipped.{AllZip-next}
use Rattle.consistency.proofs.rewriting.rewrite_clashes.Goals as goal

none : Clash
none = clash.Concepts (basic.Concept (record { 0 = 0 })) (basic.Concept (record { 0 = 0 }))

-- the list up to a place, the element there, and what comes after
parted : {X : Type 0} (xs : List X) (k : ℕ) (d : X) → k < length xs
    → take k xs ++ get_or xs k d ∷ drop (suc k) xs ≡ xs
parted xs k d within = ap (λ ys. take k xs ++ ys) (sym (drop-cons xs k d within)) ∙ take-append-drop
    k xs

queries_parted : (clashes : List Clash) (k : ℕ) (d : Clash) → k < length clashes
    → queries_of (take k clashes) ++ query_of (get_or clashes k d)
    ∷ queries_of (drop (suc k) clashes) ≡ queries_of clashes
queries_parted clashes k d within =
    sym (map-append query_of (take k clashes) (get_or clashes k d ∷ drop (suc k) clashes)) ∙ ap
    queries_of (parted clashes k d within)

queries_next : (clashes : List Clash) (k : ℕ) (d : Clash) → k < length clashes
    → queries_of (take (k + 1) clashes) ≡ queries_of (take k clashes)
    ++ query_of (get_or clashes k d) ∷ []
queries_next clashes k d within =
    ap queries_of (take_more clashes k d within) ∙ map-append query_of (take k clashes)
    (get_or clashes k d ∷ [])

pub returns-in-Err-clause-many : goal.returns-in-Err-clause-many
unfolding none
returns-in-Err-clause-many c = λ is.
    let e = c.args.rewriter.now in
    let clashes = c.args.clashes.now in
    let k = c.loop-clash.clash-index in
    let q : Cq = query_of (get_or clashes k none) in
    let rest : List Cq = queries_of (drop (suc k) clashes) in
    let fault : c.in-Err.fault ≡ RewriteFault.TooManyRewritings = cc in
    let more : HoldsOfMore (Reachable e q) (c.args.room - c.loop-clash.reached) =
    c.rewrite_clash.ensures.many (c.in-Err.is ∙ ap Err fault) in
    subst (λ (qs : List Cq). ReachMore e qs c.args.room)
    (queries_parted clashes k none c.loop-clash-test.true)
    (more_later e (queries_of (take k clashes)) (q ∷ rest) c.loop-clash.reached c.args.room
    c.loop-clash.invariant.counted c.loop-clash.invariant.few
    (more_first e (q ∷ []) rest (c.args.room - c.loop-clash.reached)
    (more_one e q (c.args.room - c.loop-clash.reached) more)))

pub loop-clash-preserved : goal.loop-clash-preserved
unfolding none
loop-clash-preserved c =
    let e = c.args.rewriter.now in
    let clashes = c.args.clashes.now in
    let k = c.loop-clash.clash-index in
    let inv = c.loop-clash.invariant in
    let q : Cq = query_of (get_or clashes k none) in
    let few : c.in-Ok.rewriting.count ≤ c.args.room - c.loop-clash.reached = c.in-Ok.ensures.few in
    let within : c.loop-clash.reached ≤ c.args.room = inv.few in
    let is : IsRewriting e (get_or clashes k none) c.in-Ok.rewriting = c.in-Ok.ensures.rewriting in
    record {
      each = AllZip-next (IsRewriting e) clashes c.loop-clash.each.items _ k none c.in-Ok.rewriting
          c.loop-clash-test.true inv.each is c.in-Ok-push.ensures.items;
      counted = subst (λ (qs : List Cq).
          ReachAll e qs (c.loop-clash.reached + c.in-Ok.rewriting.count))
          (sym (queries_next clashes k none c.loop-clash-test.true))
          (all_joined e (queries_of (take k clashes)) (q ∷ []) c.loop-clash.reached
          c.in-Ok.rewriting.count inv.counted (all_one e q c.in-Ok.rewriting.count is.count));
      few = omega arith;
    }
