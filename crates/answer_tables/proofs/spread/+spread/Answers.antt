use Rattle.std.proofs.Common.{◌≡◌, ◌+◌, ◌-◌, ◌*◌, ◌^◌, ◌<◌, ◌≤◌, ℕ, List, length, take, drop, min}
use Rattle.std.proofs.Common.{sym, ◌∙◌, ap, subst, arith}
use Rattle.std.specs.Prelude.{slice_index}
use Rattle.std.proofs.lemmas.Result.{on_ok_weaker}
use Rattle.std.proofs.Math.Nat.{mul-le-mul_left}
use Rattle.answer_tables.specs.Runs.{Extended, end_from, link_at}
use Rattle.answer_tables.specs.Spreading.{Spread, reach}
use Rattle.answer_tables.proofs.Spreads.{Spreading, Spread-even, Spreading-even, Spreading-step}
use Rattle.answer_tables.proofs.Spreads.{Spread-whole, nonempty, head_tail, reach_split}
use Rattle.answer_tables.proofs.Spreads.{length_split, tail_is, power_some, power_split}
use Rattle.answer_tables.proofs.spread.+spread.Goals as goal

pub extend-requires-clause-more : goal.extend-requires-clause-more
extend-requires-clause-more t c = let some = power_some c.args.slots c.args.arity c.requires.some in
    omega (arith, some, c.requires.new_end, c.tuple_count.ensures)

pub returns-then-old-reach : goal.returns-then-old-reach
returns-then-old-reach t c =
    let far : c.args.old + reach c.args.limit c.args.weights.now < c.run_of-run.result.end =
    omega (arith, c.if-old-reach.true, c.reach.ensures) in
    let count : c.tuple_count.result ≡ c.args.slots ^ length c.args.weights.now =
    c.tuple_count.ensures ∙ ap (λ (k : ℕ). c.args.slots ^ k) (sym c.requires.long) in
    on_ok_weaker c.extend.result (λ extended.
    Spread-even c.args.runs.now c.args.new.now.items c.extend.new.runs.items c.args.weights.now
    c.args.slots c.args.limit c.args.old c.args.start c.run_of-run.result
    c.run_of-run.ensures.link c.run_of-run.ensures.same far (omega (arith, c.requires.within))
    c.requires.new_end
    (subst (λ (k : ℕ). Extended c.args.new.now.items (record {
      end = c.args.start + k;
      link =
          c.run_of-run.result.link;
    }) c.extend.new.runs.items) count extended)) c.extend.ensures.ok

pub tuple_count-part-requires : goal.tuple_count-part-requires
tuple_count-part-requires t c =
    let some : 0 < length c.args.weights.now =
    nonempty c.args.limit c.args.weights.now c.args.old c.run_of-run.result.end
    c.run_of-run.ensures.ahead (omega (arith, c.if-old-reach.false, c.reach.ensures)) in
    let power : c.args.slots ^ c.args.arity ≡ c.args.slots ^ (c.args.arity - 1) * c.args.slots =
    power_split c.args.slots c.args.arity (omega (arith, some, c.requires.long)) in
    let more : c.args.slots ^ (c.args.arity - 1) * 1 ≤ c.args.slots ^ (c.args.arity - 1) *
    c.args.slots = mul-le-mul_left (c.args.slots ^ (c.args.arity - 1))
    (omega (arith, c.requires.some)) in
    omega (arith, power, more, c.requires.room)

pub spread-requires : goal.spread-requires
spread-requires t c =
    let weights = c.args.weights.now in
    let w : ℕ = slice_index weights 0 in
    let slots = c.args.slots in
    let k : ℕ = c.args.arity - 1 in
    let digit = c.loop-digit.digit in
    let some : 0 < length weights =
    nonempty c.args.limit weights c.args.old c.run_of-run.result.end c.run_of-run.ensures.ahead
    (omega (arith, c.if-old-reach.false, c.reach.ensures)) in
    let long : length (drop 1 weights) ≡ k =
    omega (arith, length_split weights some, c.requires.long) in
    let power : slots ^ c.args.arity ≡ slots ^ k * slots =
    power_split slots c.args.arity (omega (arith, some, c.requires.long)) in
    let part : slots ^ k * (digit + 1) ≤ slots ^ k * slots =
    mul-le-mul_left (slots ^ k) (let less = c.loop-digit-test.true in omega (arith, less)) in
    let least : w * c.min.result ≤ w * c.args.limit =
    mul-le-mul_left w (omega (arith, c.min.ensures)) in
    let tail = tail_is weights in
    let room : c.args.start + digit * c.tuple_count-part.result + slots ^ k ≤ 2 ^ 60 =
    subst (λ (p : ℕ). c.args.start + digit * p + slots ^ k ≤ 2 ^ 60)
    (sym c.tuple_count-part.ensures) (omega (arith, part, power, c.requires.room)) in
    let within : c.args.old + w * c.min.result + reach c.args.limit (drop 1 weights) < end_from 0
    c.args.runs.now =
    omega (arith, least, reach_split c.args.limit weights some, c.requires.within) in
    let ends : end_from 0 c.loop-digit.new.items
    ≡ c.args.start + digit * c.tuple_count-part.result =
    c.loop-digit.invariant.so.ends ∙ ap (λ (m : ℕ).
    c.args.start + digit * slots ^ m) long ∙ ap (λ (p : ℕ).
    c.args.start + digit * p) (sym c.tuple_count-part.ensures) in
    let smaller : k < t = omega (arith, c.decreases, some, c.requires.long) in (
      smaller,
      (
        c.requires.rise,
        (
          ap (λ (ws : List ℕ).
              length ws) tail ∙ long,
          (
            c.requires.some,
            (
              subst (λ (ws : List ℕ).
                  c.args.old + w * c.min.result + reach c.args.limit ws < end_from 0
                  c.args.runs.now) (sym tail) within,
              (c.requires.few, (room, (c.loop-digit.invariant.so.rise, ends))),
            ),
          ),
        ),
      ),
    )

pub returns : goal.returns
returns t c =
    let weights = c.args.weights.now in
    let some : 0 < length weights =
    nonempty c.args.limit weights c.args.old c.run_of-run.result.end c.run_of-run.ensures.ahead
    (omega (arith, c.if-old-reach.false, c.reach.ensures)) in
    let past = c.loop-digit-test.false in
    let done : c.loop-digit.digit ≡ c.args.slots =
    omega (arith, past, c.loop-digit.invariant.within) in
    subst (λ (ws : List ℕ). Spread c.args.runs.now ws c.args.slots c.args.limit c.args.old
    c.args.start c.args.new.now.items c.loop-digit.new.items) (sym (head_tail weights some))
    (Spread-whole c.args.runs.now (slice_index weights 0) (drop 1 weights) c.args.slots c.args.limit
    c.args.old c.args.start c.args.new.now.items c.loop-digit.new.items
    (subst (λ (d : ℕ). Spreading c.args.runs.now (slice_index weights 0) (drop 1 weights)
    c.args.slots c.args.limit c.args.old c.args.start c.args.new.now.items
    c.loop-digit.new.items d) done c.loop-digit.invariant.so))

pub extend-requires-then-digit-until-clause-more : goal.extend-requires-then-digit-until-clause-more
extend-requires-then-digit-until-clause-more t c =
    let weights = c.args.weights.now in
    let slots = c.args.slots in
    let digit = c.loop-digit.digit in
    let until = c.even_until-until.result in
    let some : 0 < length weights =
    nonempty c.args.limit weights c.args.old c.run_of-run.result.end c.run_of-run.ensures.ahead
    (omega (arith, c.if-old-reach.false, c.reach.ensures)) in
    let long : length (drop 1 weights) ≡ c.args.arity - 1 =
    omega (arith, length_split weights some, c.requires.long) in
    let part : c.tuple_count-part.result ≡ slots ^ length (drop 1 weights) =
    c.tuple_count-part.ensures ∙ ap (λ (m : ℕ). slots ^ m) (sym long) in
    let full = power_some slots (length (drop 1 weights)) c.requires.some in
    let more : slots ^ length (drop 1 weights) * (digit + 1) ≤ slots ^ length
    (drop 1 weights) * until =
    mul-le-mul_left (slots ^ length (drop 1 weights)) (omega (arith, c.if-digit-until.true)) in
    subst (λ (p : ℕ). end_from 0 c.loop-digit.new.items < c.args.start + until * p) (sym part)
    (omega (arith, more, full, c.loop-digit.invariant.so.ends))

pub loop-digit-preserved-then-digit-until : goal.loop-digit-preserved-then-digit-until
loop-digit-preserved-then-digit-until t c =
    let weights = c.args.weights.now in
    let w : ℕ = slice_index weights 0 in
    let ws : List ℕ = drop 1 weights in
    let slots = c.args.slots in
    let limit = c.args.limit in
    let digit = c.loop-digit.digit in
    let until = c.even_until-until.result in
    let run = c.run_of-run-in-loop-digit.result in
    let new = c.extend-then-digit-until.new.runs.items in
    let some : 0 < length weights =
    nonempty limit weights c.args.old c.run_of-run.result.end c.run_of-run.ensures.ahead
    (omega (arith, c.if-old-reach.false, c.reach.ensures)) in
    let long : length ws ≡ c.args.arity - 1 =
    omega (arith, length_split weights some, c.requires.long) in
    let part : c.tuple_count-part.result ≡ slots ^ length ws =
    c.tuple_count-part.ensures ∙ ap (λ (m : ℕ). slots ^ m) (sym long) in
    let far : c.reach-far.result ≡ reach limit ws =
    c.reach-far.ensures ∙ ap (reach limit) (tail_is weights) in
    let from : c.args.old + w * c.min.result ≡ c.args.old + w * min digit limit =
    ap (λ (m : ℕ). c.args.old + w * m) c.min.ensures in
    let least : w * min digit limit ≤ w * limit = mul-le-mul_left w (omega arith) in
    let inside : c.args.old + w * min digit limit < end_from 0 c.args.runs.now =
    omega (arith, least, reach_split limit weights some, c.requires.within) in
    let even : (d : ℕ) → digit ≤ d → d < until
    → c.args.old + w * min digit limit + reach limit
    ws + w * (min d limit - min digit limit) < run.end = λ d late less.
    subst (λ (f : ℕ). f + reach limit ws + w * (min d limit - min digit limit) < run.end) from
    (subst (λ (r : ℕ). c.args.old + w * c.min.result + r + w * (min d limit - min digit
    limit) < run.end) far (c.even_until-until.ensures.even d late less)) in
    record {
      within = c.even_until-until.ensures.within;
      so = Spreading-even c.args.runs.now w ws slots limit c.args.old c.args.start
          c.args.new.now.items c.loop-digit.new.items new digit until run c.loop-digit.invariant.so
          c.if-digit-until.true
          (c.run_of-run-in-loop-digit.ensures.link ∙ ap (link_at c.args.runs.now) from)
          (λ n above below. c.run_of-run-in-loop-digit.ensures.same n (omega (arith, above, from))
          below ∙ ap (link_at c.args.runs.now) from) inside even
          (subst (λ (p : ℕ). Extended c.loop-digit.new.items (record {
            end =
                c.args.start + until * p;
            link = run.link;
          }) new) part c.in_ok-extend.ensures.ok);
    }

pub loop-digit-preserved : goal.loop-digit-preserved
loop-digit-preserved t c =
    let weights = c.args.weights.now in
    let w : ℕ = slice_index weights 0 in
    let slots = c.args.slots in
    let digit = c.loop-digit.digit in
    let some : 0 < length weights =
    nonempty c.args.limit weights c.args.old c.run_of-run.result.end c.run_of-run.ensures.ahead
    (omega (arith, c.if-old-reach.false, c.reach.ensures)) in
    let long : length (drop 1 weights) ≡ c.args.arity - 1 =
    omega (arith, length_split weights some, c.requires.long) in
    let start_is : c.args.start + digit * c.tuple_count-part.result
    ≡ c.args.start + digit * slots ^ length (drop 1 weights) =
    ap (λ (p : ℕ). c.args.start + digit * p) c.tuple_count-part.ensures ∙ ap (λ (m : ℕ).
    c.args.start + digit * slots ^ m) (sym long) in
    let old_is : c.args.old + w * c.min.result ≡ c.args.old + w * min digit c.args.limit =
    ap (λ (m : ℕ). c.args.old + w * m) c.min.ensures in
    let new = c.spread.new.new.items in
    record {
      within = (let less = c.loop-digit-test.true in omega (arith, less));
      so = Spreading-step c.args.runs.now w (drop 1 weights) slots c.args.limit c.args.old
          c.args.start c.args.new.now.items c.loop-digit.new.items new digit
          c.loop-digit.invariant.so
          (subst (λ (ws : List ℕ). Spread c.args.runs.now ws slots c.args.limit
          (c.args.old + w * min digit c.args.limit)
          (c.args.start + digit * slots ^ length (drop 1 weights)) c.loop-digit.new.items new)
          (tail_is weights)
          (subst (λ (o : ℕ). Spread c.args.runs.now (take (length weights - 1) (drop 1 weights))
          slots c.args.limit o (c.args.start + digit * slots ^ length (drop 1 weights))
          c.loop-digit.new.items new) old_is
          (subst (λ (s : ℕ). Spread c.args.runs.now (take (length weights - 1) (drop 1 weights))
          slots c.args.limit (c.args.old + w * c.min.result) s c.loop-digit.new.items new)
          start_is c.in_ok-spread.ensures)));
    }
