use Rattle.std.proofs.Common.{List, Bool, subst}
use Rattle.jb_run.specs.declared.gates.Bit.{Bit}
use Rattle.jb_run.specs.declared.solver.Answer.{Answer}
use Rattle.jb_run.specs.declared.solver.Answer.TheVariants.{Sat, Unsat}
use Rattle.jb_run.specs.declared.int_bits.IntBits.{IntBits}
use Rattle.jb_run.specs.Shown.{ShowInts}
use Rattle.jb_run.specs.Solved.{value_at, IsRight}
use Rattle.jb_run.proofs.VerdictLemmas.{unsat_justified, sat_justified}
use Rattle.jb_run.proofs.verdicts.decide.Goals as goal

pub returns-in-Unsat : goal.returns-in-Unsat
returns-in-Unsat c code method bounds of room =
    let encoding = c.args.encoding.now in
    let answered =
    subst (λ (a : Answer). IsRight encoding.formula c.goal-bit.result a) c.in-Unsat.is c.in_ok-solve.ensures in
    let right = subst (λ (b : Bit). IsRight encoding.formula b Unsat) c.goal-bit.ensures answered in
    unsat_justified encoding code method bounds c.args.goal.now.site.pc c.args.goal.now.kind right of

pub returns-in_ok-input-in-Sat : goal.returns-in_ok-input-in-Sat
returns-in_ok-input-in-Sat c code method bounds of room =
    let encoding = c.args.encoding.now in
    let values = c.in-Sat.assignment.items in
    let answered =
    subst (λ (a : Answer). IsRight encoding.formula c.goal-bit.result a) c.in-Sat.is c.in_ok-solve.ensures in
    let right = subst (λ (b : Bit). IsRight encoding.formula b (Sat c.in-Sat.assignment)) c.goal-bit.ensures answered in
    let shows = c.in_ok-input-in-Sat.ensures in
    let by_values =
    subst (λ (v : List Bool). ShowInts (value_at v) c.as_slice.result.now shows.0) c.as_slice-in-Sat.ensures.value
    shows.2 in
    let shown = subst (λ (words : List IntBits). ShowInts (value_at values) words shows.0) c.as_slice.ensures by_values
    in
    sat_justified encoding code method bounds c.args.goal.now.site.pc c.args.goal.now.kind values
    c.in_ok-input-in-Sat.input shows.0 right.1 right.2 shows.1 shown of room
