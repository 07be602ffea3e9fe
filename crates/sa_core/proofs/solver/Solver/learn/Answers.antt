use Rattle.std.proofs.Common.{ℕ, subst}
use Rattle.sa_core.specs.SpentLog.{IsLearnable}
use Rattle.sa_core.proofs.SolveLemmas.{learnable, learns_one}
use Rattle.sa_core.proofs.solver.Solver.learn.Goals as goal

pub record-requires : goal.record-requires
record-requires c =
    let search = c.args.search.now in
    let solver = c.args.self.now in
    subst (λ (n : ℕ). IsLearnable n solver.log.entries c.in_ok-lits.lits) c.requires.searching.number
    (learnable c.literal_laws.ensures.opposite_twice c.literal_laws.ensures.opposite_variable
    c.propagation_laws.ensures.rup search.store search.trail.steps search.trail.places search.trail.variables
    c.args.mark
    c.in_ok-lits.lits search.trail.placed search.trail.size c.requires.searching.ready.justified c.requires.mark
    c.in_ok-lits.ensures solver.log.entries c.requires.searching.holds solver.holds)

pub returns-clause-learns : goal.returns-clause-learns
returns-clause-learns c =
    let one = c.in_ok-record.ensures.entries in
    learns_one c.args.self.now.log.entries c.record.new.self.log.entries one.clause one.entries
