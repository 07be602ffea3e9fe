use Rattle.std.proofs.Common.{◌≡◌, ◌<◌, ◌+◌, ◌*◌, ◌^◌, ℕ, List, length, take, get_or, sym, ap, ◌∙◌, subst}
use Rattle.std.proofs.Common.{take_all, arith}
use Rattle.std.proofs.lemmas.List.{take_more}
use Rattle.cn_clauses.specs.declared.lit.Lit.{Lit}
use Rattle.sa_core.specs.TrailView.{lits_of}
use Rattle.sa_core.specs.Analysis.{NoHighest}
use Rattle.sa_core.proofs.TrailLemmas.{no_place, one_place, place_within}
use Rattle.sa_core.proofs.SearchLemmas.{trail_fits}
use Rattle.sa_core.proofs.BacktrackLemmas.{none_more}
use Rattle.sa_core.proofs.backtrack.highest.Goals as goal
use Rattle.sa_core.proofs.backtrack.highest.Goals.{in-Some+else-place-limit, in_default}

abbrev first_lit : Lit
first_lit = record { 0 = 0 }

pub overflow_add-place : goal.overflow_add-place
overflow_add-place c =
    let own = c.args.trail.now in
    let place = c.in-Some.place in
    let lt : place < length own.steps =
    place_within own.steps own.places (get_or c.args.lits.now c.loop-lit.lit-index first_lit) c.opposite.result
    own.placed c.opposite.ensures place c.in-Some.ensures in
    let fits = trail_fits own.steps own.places own.placed in
    let size : length own.places ≡ 2 * own.variables = own.size in
    let few : own.variables < 2 ^ 63 = own.few in
    omega (arith, lt, fits, size, few)

pub loop-lit-preserved : goal.loop-lit-preserved
loop-lit-preserved c =
    let own = c.args.trail.now in
    let trail = lits_of own.steps in
    let lits = c.args.lits.now in
    let i = c.loop-lit.lit-index in
    let lit = get_or lits i first_lit in
    subst (λ (l : List Lit). NoHighest trail l c.args.limit) (sym (take_more lits i first_lit c.loop-lit-test.true))
    (none_more trail (take i lits) c.args.limit lit c.loop-lit.invariant
    (λ place at is.
    elim c.match-place_of.branch [
      | in-Some+else-place-limit w ↦
          let same =
          one_place own.steps own.places lit c.opposite.result own.placed c.opposite.ensures w.in-Some.place
          w.in-Some.ensures place is in
          w.if-place-limit.false (ap (λ (n : ℕ). n + 1) (sym same) ∙ sym at)
      | in_default w ↦
          no_place own.steps own.places lit c.opposite.result own.placed c.opposite.ensures w.in_default.ensures place
          is
    ]))

pub returns : goal.returns
returns c =
    let lits = c.args.lits.now in
    subst (λ (l : List Lit). NoHighest (lits_of c.args.trail.now.steps) l c.args.limit)
    (take_all c.loop-lit.lit-index lits c.loop-lit-test.false) c.loop-lit.invariant
