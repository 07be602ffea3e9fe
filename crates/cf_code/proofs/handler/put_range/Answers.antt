use Rattle.std.proofs.Common.{◌≡◌, ◌⊎◌, ◌≤◌, ◌++◌, ℕ, ◌∙◌, List, length, take, drop, map, inl, inr, ap, arith}
use Rattle.std.proofs.lemmas.Bool.{cases_lt}
use Rattle.std.proofs.lemmas.List.{take_all}
use Rattle.cf_code.proofs.HandlerLemmas.{range_adds}
use Rattle.cf_code.proofs.handler.put_range.Goals as goal

pub returns : goal.returns
returns c =
    let starts = c.args.starts.now in
    let old = c.args.out.now.items in
    let pair : ℕ → ℕ × ℕ = λ start. (start, c.args.handler) in
    let high = c.count_below.result in
    let low = c.count_below-2.result in
    let first = c.min-first.result in
    let size : length c.split_at.result.0.now ≡ high = c.split_at.ensures.front_len in
    let least : (first ≤ low) × (low ≤ first ⊎ high ≤ first) = elim (cases_lt low high) [
      | inl less ↦ (omega (arith, c.min-first.ensures, size), inl (omega (arith, c.min-first.ensures, size)))
      | inr le ↦ (omega (arith, c.min-first.ensures, size), inr (omega (arith, c.min-first.ensures, size)))
    ] in
    let front : c.split_at.result.0.now ≡ take high starts = c.split_at.ensures.front in
    let range : c.split_at-2.result.1.now ≡ drop first (take high starts) =
    c.split_at-2.ensures.back ∙ ap (λ (xs : List ℕ). drop first xs) front in
    let all : take c.loop-start.start-index c.split_at-2.result.1.now ≡ c.split_at-2.result.1.now =
    take_all c.loop-start.start-index c.split_at-2.result.1.now c.loop-start-test.false in
    range_adds starts c.args.from c.args.end first low high c.count_below-2.ensures.count c.count_below.ensures.count
    least.0 least.1 old c.loop-start.out.items c.args.handler
    (c.loop-start.invariant ∙ ap (λ (xs : List ℕ). old ++ map pair xs) (all ∙ range))
