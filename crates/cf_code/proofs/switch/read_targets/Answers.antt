use Rattle.std.proofs.Common.{◌≡◌, ◌<◌, ℕ, [], length, ap, sym, ◌∙◌, eqb-true, arith}
use Rattle.std.proofs.lemmas.Bool.{eqb-false}
use Rattle.jv_list.proofs.FrontLemmas.{front_stuck}
use Rattle.cf_code.specs.Bytes.{IsTwo}
use Rattle.cf_code.specs.Switches.{far}
use Rattle.cf_code.proofs.ReadLemmas.{read_more, read_end}
use Rattle.cf_code.proofs.switch.read_targets.Goals as goal

filled : (pc t : ℕ) → IsTwo t → 0 < length (far pc t)
filled pc t fits = omega arith

pub loop-target-preserved : goal.loop-target-preserved
loop-target-preserved c =
    let found = c.in-Some.ensures.found in
    read_more (far c.args.pc) IsTwo (filled c.args.pc) c.args.bytes.now c.loop-target.targets.items _ c.in-Some.target
    c.loop-target.rest.now c.in-Some.after.now c.loop-target.invariant found.0 found.1 c.in-Some.ensures.only
    c.in_ok-push.ensures.items

pub returns-then-is_empty-clause-only : goal.returns-then-is_empty-clause-only
returns-then-is_empty-clause-only c ts all is =
    let empty = eqb-true _ _ (sym c.is_empty.ensures ∙ c.if-is_empty.true) in
    let given = c.from_vec.ensures ∙ read_end (far c.args.pc) IsTwo (filled c.args.pc) c.args.bytes.now
    c.loop-target.targets.items c.loop-target.rest.now c.loop-target.invariant empty ts all is in
    cc

pub returns-else-is_empty-clause-only : goal.returns-else-is_empty-clause-only
returns-else-is_empty-clause-only c ts all is =
    let some : c.loop-target.rest.now ≡ [] → ⊥ = λ e.
    eqb-false _ _ (sym c.is_empty.ensures ∙ c.if-is_empty.false) (ap length e) in
    absurd (front_stuck (far c.args.pc) IsTwo c.args.bytes.now c.loop-target.targets.items c.loop-target.rest.now
    c.loop-target.invariant some c.in_default.ensures.only ts all is)
