-- Where no further character leads on, an escape may.
use Rattle.std.proofs.Common.{sym, subst, ◌∙◌, arith}
use Rattle.jv_base.specs.declared.form.Progress.{Progress}
use Rattle.jv_base.proofs.SpelledFrontLemmas.{HasRead, read_none, read_more, read_within, longest_plain, longest_escape}
use Rattle.jv_base.proofs.spelled.spelled_front.Goals as goal

pub loop-next-init : goal.loop-next-init
loop-next-init c =
    subst (λ (p : Progress). HasRead c.args.form c.args.text.now p c.args.text.now) (sym c.start_of-progress.ensures)
    (read_none c.args.form c.args.text.now)

pub loop-next-preserved : goal.loop-next-preserved
loop-next-preserved c =
    let l = c.loop-next in
    let found = c.in-Some.ensures.found in
    read_more c.args.form c.args.text.now l.progress c.in-Some.next l.rest.now c.in-Some.after.now found.0 l.invariant
    found.1 found.2 found.3

pub overflow_sub-read : goal.overflow_sub-read
overflow_sub-read c =
    let l = c.loop-next in
    read_within c.args.form c.args.text.now l.progress l.rest.now l.invariant

pub returns-then-takes_names-clause-longest : goal.returns-then-takes_names-clause-longest
returns-then-takes_names-clause-longest c =
    let l = c.loop-next in
    let within = read_within c.args.form c.args.text.now l.progress l.rest.now l.invariant in
    longest_escape c.args.form c.args.text.now l.progress l.rest.now l.invariant c.in_default.ensures.none _
    (omega arith) c.escape_front.result (sym c.takes_names.ensures ∙ c.if-takes_names.true)
    c.escape_front.ensures.longest

pub returns-then-takes_names-clause-within : goal.returns-then-takes_names-clause-within
returns-then-takes_names-clause-within c =
    let l = c.loop-next in
    let within = read_within c.args.form c.args.text.now l.progress l.rest.now l.invariant in
    omega arith

pub returns-else-takes_names-clause-longest : goal.returns-else-takes_names-clause-longest
returns-else-takes_names-clause-longest c =
    let l = c.loop-next in
    let within = read_within c.args.form c.args.text.now l.progress l.rest.now l.invariant in
    longest_plain c.args.form c.args.text.now l.progress l.rest.now l.invariant c.in_default.ensures.none _
    (omega arith) (sym c.takes_names.ensures ∙ c.if-takes_names.false)
