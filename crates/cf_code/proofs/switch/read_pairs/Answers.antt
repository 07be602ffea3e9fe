use Rattle.std.proofs.Common.{◌≡◌, ◌<◌, ℕ, [], length, ap, sym, ◌∙◌, eqb-true, arith}
use Rattle.std.proofs.lemmas.Bool.{eqb-false}
use Rattle.jv_list.proofs.FrontLemmas.{front_stuck}
use Rattle.cf_code.specs.declared.switch.Case.{Case}
use Rattle.cf_code.specs.Switches.{pair, FitsCase}
use Rattle.cf_code.proofs.ReadLemmas.{read_more, read_end}
use Rattle.cf_code.proofs.switch.read_pairs.Goals as goal

filled : (pc : ℕ) (t : Case) → FitsCase t → 0 < length (pair pc t)
filled pc t fits = omega arith

pub loop-case-preserved : goal.loop-case-preserved
loop-case-preserved c =
    let found = c.in-Some.ensures.found in
    read_more (pair c.args.pc) FitsCase (filled c.args.pc) c.args.bytes.now c.loop-case.cases.items _ c.in-Some.case
    c.loop-case.rest.now c.in-Some.after.now c.loop-case.invariant found.0 found.1 c.in-Some.ensures.only
    c.in_ok-push.ensures.items

pub returns-then-is_empty-clause-only : goal.returns-then-is_empty-clause-only
returns-then-is_empty-clause-only c ts all is =
    let empty = eqb-true _ _ (sym c.is_empty.ensures ∙ c.if-is_empty.true) in
    let given = c.from_vec.ensures ∙ read_end (pair c.args.pc) FitsCase (filled c.args.pc) c.args.bytes.now
    c.loop-case.cases.items c.loop-case.rest.now c.loop-case.invariant empty ts all is in
    cc

pub returns-else-is_empty-clause-only : goal.returns-else-is_empty-clause-only
returns-else-is_empty-clause-only c ts all is =
    let some : c.loop-case.rest.now ≡ [] → ⊥ = λ e.
    eqb-false _ _ (sym c.is_empty.ensures ∙ c.if-is_empty.false) (ap length e) in
    absurd (front_stuck (pair c.args.pc) FitsCase c.args.bytes.now c.loop-case.cases.items c.loop-case.rest.now
    c.loop-case.invariant some c.in_default.ensures.only ts all is)
