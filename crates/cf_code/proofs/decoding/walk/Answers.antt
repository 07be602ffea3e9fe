use Rattle.std.proofs.Common.{◌≡◌, ◌≤◌, ℕ, List, length, take, get_or, refl, sym, subst, ◌∙◌, arith, rules}
use Rattle.cf_code.specs.declared.code.Placed.{Placed}
use Rattle.cf_code.specs.Decoding.{HasStarts}
use Rattle.cf_code.proofs.PlaceLemmas.{Places, places_step, only_there, good_there, begins_at, ends_at, begins_all}
use Rattle.cf_code.proofs.PlaceLemmas.{ends_inside, ends_whole}
use Rattle.cf_code.proofs.StartLemmas.{start_inside}
use Rattle.cf_code.proofs.decoding.walk.Goals as goal

-- the starts of a loop that goes over them
same_starts : (bytes starts between same : List ℕ) (stop : ℕ) → same ≡ between → between ≡ starts
    → HasStarts bytes starts stop → HasStarts bytes same stop
same_starts bytes starts between same stop d e has =
    subst (λ (ss : List ℕ). HasStarts bytes ss stop) (sym (d ∙ e)) has

pub marks_of-requires : goal.marks_of-requires
marks_of-requires c k d l =
    start_inside c.args.bytes.now c.in_ok-pcs.pcs.items c.in_ok-pcs.stop k d c.in_ok-pcs.ensures l

pub loop-pc-init : goal.loop-pc-init
loop-pc-init c =
    let xs = c.deref-pc-items.result.now in
    subst (λ (ps : List Placed). Places c.args.bytes.now xs (take 0 xs) ps) (sym c.new-code.ensures.items) tt

pub slice_bounds-rest-count : goal.slice_bounds-rest-count
slice_bounds-rest-count c =
    let xs = c.deref-pc-items.result.now in
    let has = same_starts _ _ _ xs _ c.deref-pc-items.ensures.value c.in_ok-starts.ensures c.in_ok-pcs.ensures in
    omega (arith, start_inside _ xs _ c.loop-pc.pc-index 0 has c.loop-pc-test.true, c.from.ensures)

pub slice_bounds-rest-start : goal.slice_bounds-rest-start
slice_bounds-rest-start c =
    let xs = c.deref-pc-items.result.now in
    let has = same_starts _ _ _ xs _ c.deref-pc-items.ensures.value c.in_ok-starts.ensures c.in_ok-pcs.ensures in
    let there = start_inside _ xs _ c.loop-pc.pc-index 0 has c.loop-pc-test.true in
    let inside : c.from.result ≤ length c.args.bytes.now = omega (arith, there, c.from.ensures) in
    search (rules, arith)

pub returns-in_default-clause-begins : goal.returns-in_default-clause-begins
returns-in_default-clause-begins c =
    let xs = c.deref-pc-items.result.now in
    let has = same_starts _ _ _ xs _ c.deref-pc-items.ensures.value c.in_ok-starts.ensures c.in_ok-pcs.ensures in
    begins_at _ xs _ _ has _ c.from_vec-code.ensures c.loop-pc.pc-index c.loop-pc.invariant c.loop-pc-test.true

pub returns-in_default-clause-end : goal.returns-in_default-clause-end
returns-in_default-clause-end c =
    let xs = c.deref-pc-items.result.now in
    let k = c.loop-pc.pc-index in
    let same = sym c.deref-pc-items.ensures.value in
    let has = same_starts _ _ _ xs _ c.deref-pc-items.ensures.value c.in_ok-starts.ensures c.in_ok-pcs.ensures in
    ends_at _ xs _ _ has _ c.from_vec-code.ensures k c.loop-pc.invariant c.loop-pc-test.true (λ good.
    let read = good_there _ xs _ (get_or xs k 0) c.from.result c.from.ensures same good in
    c.in_default.not-Some read.1 (c.in_ok-instr.ensures.only read.0 read.1 read.2 read.3 read.4))

pub loop-pc-preserved : goal.loop-pc-preserved
loop-pc-preserved c =
    let xs = c.deref-pc-items.result.now in
    let at = get_or xs c.loop-pc.pc-index 0 in
    let found = rw c.in-Some.is at c.in_ok-instr.ensures.found in
    let same = sym c.deref-pc-items.ensures.value in
    let only = only_there _ xs _ at c.from.result c.in-Some.instr c.from.ensures same found in
    places_step _ xs c.loop-pc.pc-index c.loop-pc.code.items c.push.new.self.items
    (record { pc = at; instr = c.in-Some.instr }) c.loop-pc-test.true c.loop-pc.invariant refl only
    c.in_ok-push.ensures.items

pub returns-then-from-bytes-clause-begins : goal.returns-then-from-bytes-clause-begins
returns-then-from-bytes-clause-begins c =
    let xs = c.deref-pc-items.result.now in
    let has = same_starts _ _ _ xs _ c.deref-pc-items.ensures.value c.in_ok-starts.ensures c.in_ok-pcs.ensures in
    begins_all _ xs _ _ has _ c.from_vec-code-2.ensures c.loop-pc.pc-index c.loop-pc.invariant c.loop-pc-test.false

pub returns-then-from-bytes-clause-end : goal.returns-then-from-bytes-clause-end
returns-then-from-bytes-clause-end c =
    let xs = c.deref-pc-items.result.now in
    let has = same_starts _ _ _ xs _ c.deref-pc-items.ensures.value c.in_ok-starts.ensures c.in_ok-pcs.ensures in
    ends_inside _ xs _ _ has _ c.from_vec-code-2.ensures c.loop-pc.pc-index c.loop-pc.invariant c.loop-pc-test.false
    (omega (arith, c.from-2.ensures, c.if-from-bytes.true))

pub returns-clause-begins : goal.returns-clause-begins
returns-clause-begins c =
    let xs = c.deref-pc-items.result.now in
    let has = same_starts _ _ _ xs _ c.deref-pc-items.ensures.value c.in_ok-starts.ensures c.in_ok-pcs.ensures in
    begins_all _ xs _ _ has _ c.from_vec-code-2.ensures c.loop-pc.pc-index c.loop-pc.invariant c.loop-pc-test.false

pub returns-clause-end : goal.returns-clause-end
returns-clause-end c =
    let xs = c.deref-pc-items.result.now in
    let has = same_starts _ _ _ xs _ c.deref-pc-items.ensures.value c.in_ok-starts.ensures c.in_ok-pcs.ensures in
    ends_whole _ xs _ _ has _ c.from_vec-code-2.ensures c.loop-pc.pc-index c.loop-pc.invariant c.loop-pc-test.false
    (omega (arith, c.from-2.ensures, c.if-from-bytes.false))
