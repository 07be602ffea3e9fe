use Rattle.std.proofs.Common.{◌≡◌, ◌+◌, ◌∙◌, ℕ, length, sym, subst, ap, arith}
use Rattle.sa_core.specs.SearchView.{trail_of, Reads}
use Rattle.std.proofs.lemmas.List.{length_push}
use Rattle.sa_core.proofs.AnswerLemmas.{reads_more, reads_now, all_true}
use Rattle.sa_core.proofs.search.Search.assignment.Goals as goal

pub loop-variable-preserved : goal.loop-variable-preserved
loop-variable-preserved c =
    let own = c.args.self.now.trail in
    let trail = trail_of c.args.self.now in
    let values = c.loop-variable.values in
    let variable = c.loop-variable.variable in
    let now =
    reads_now own.steps own.places variable c.new-lit.result c.place_of.result c.is_some.result own.placed
    c.new-lit.ensures c.place_of.ensures c.is_some.ensures in
    record {
      number =
          let was = c.loop-variable.invariant.number in
          ap length c.in_ok-add.ensures.ok ∙ length_push values c.is_some.result ∙ ap (λ (n : ℕ). n + 1) was;
      reads =
          subst (Reads trail (variable + 1)) (sym c.in_ok-add.ensures.ok)
          (reads_more trail variable values c.is_some.result c.loop-variable.invariant.number
          c.loop-variable.invariant.reads now);
    }

pub returns-clause-satisfies : goal.returns-clause-satisfies
returns-clause-satisfies c =
    let own = c.args.self.now in
    let all = c.loop-variable-test.false in
    let few = c.loop-variable.auto.variable-end in
    let same : c.loop-variable.variable ≡ own.trail.variables = omega (arith, all, few) in
    all_true c.literal_laws.ensures.parts (trail_of own) own.trail.variables c.loop-variable.values
    own.trail.placed.apart
    (subst (λ (n : ℕ). Reads (trail_of own) n c.loop-variable.values) same c.loop-variable.invariant.reads) own.store
    c.requires.given c.requires.within c.requires.settled
