use Rattle.std.proofs.Common.{◌≡◌, ◌↔◌, List, Contains, IsPermutation, take, ◌∙◌, ap, subst, arith}
use Rattle.std.specs.List.{dedup, flat_map}
use Rattle.std.proofs.lemmas.List.Filters.{dedup_is}
use Rattle.std.proofs.lemmas.List.{take_all}
use Rattle.cf_code.specs.declared.code.Placed.{Placed}
use Rattle.cf_code.specs.Decoding.{pcs}
use Rattle.cf_code.specs.Steps.Ways.{ways}
use Rattle.cf_code.proofs.PairLemmas.{pair_eq, in_order, same_members}
use Rattle.cf_code.proofs.WayLemmas.{IsWay, ways_follow, follow_is_way}
use Rattle.cf_code.proofs.transfer.transfers.Goals as goal

pub returns-clause-order : goal.returns-clause-order
returns-clause-order c =
    let kept : c.dedup.new.self.items ≡ dedup pair_eq c.sort_unstable.new.self.items =
    dedup_is pair_eq c.sort_unstable.new.self.items c.dedup.new.self.items c.dedup.ensures.filtered in
    in_order c.sort_unstable.new.self.items c.from_vec.result c.sort_unstable.ensures.sorted (c.from_vec.ensures ∙ kept)

pub returns-clause-pairs : goal.returns-clause-pairs
returns-clause-pairs c a b =
    let starts = c.in_ok-starts.starts.items in
    let code = c.args.code.now in
    let rows = c.args.rows.now in
    let kept : c.dedup.new.self.items ≡ dedup pair_eq c.sort_unstable.new.self.items =
    dedup_is pair_eq c.sort_unstable.new.self.items c.dedup.new.self.items c.dedup.ensures.filtered in
    let same : IsPermutation (pcs code) starts =
    subst (λ (code : List Placed). IsPermutation (pcs code) starts) c.as_slice.ensures c.in_ok-starts.ensures.same
    in
    let whole : take c.loop-placed.placed-index c.as_slice-placed-items.result.now ≡ code =
    take_all c.loop-placed.placed-index c.as_slice-placed-items.result.now (omega arith)
    ∙ c.as_slice-placed-items.ensures in
    let all : c.loop-placed.pairs.items ≡ flat_map (ways starts) code =
    c.loop-placed.invariant ∙ ap (λ (code : List Placed). flat_map (ways starts) code) whole in
    let added : Contains c.put_handlers.new.out.items (a, b) ↔ IsWay code rows starts a b =
    rw (all, c.as_slice-2.ensures.value, c.as_slice-3.ensures) at (c.in_ok-put_handlers.ensures a b) in
    let members = same_members c.put_handlers.new.out.items c.sort_unstable.new.self.items c.from_vec.result
    (a, b) c.sort_unstable.ensures.permutation (c.from_vec.ensures ∙ kept) in (
      λ h. ways_follow code rows starts a b same (added.0 (members.0 h)),
      λ f. members.1 (added.1 (follow_is_way code rows starts a b same f)),
    )
