use Rattle.std.proofs.Common.{Bool, List, Some, Contains, sym, subst}
use Rattle.cn_clauses.specs.declared.lit.Lit.{Lit}
use Rattle.sa_core.specs.declared.propagate.Asks.{Asks}
use Rattle.sa_core.specs.TrailView.{lits_of, HasValue}
use Rattle.sa_core.specs.Calls.Propagate.{IsAskedOf}
use Rattle.jv_list.proofs.ElementLemmas.{one_at}
use Rattle.sa_core.proofs.AskLemmas.{all_false, clause_within}
use Rattle.sa_core.proofs.propagate.asked_by.Goals as goal
use Rattle.sa_core.proofs.propagate.asked_by.Goals.{in-Some-false, in-None}

pub spare_from-requires : goal.spare_from-requires
spare_from-requires c lit has =
    clause_within c.args.trail.now.variables c.args.store.now c.args.place c.at-lits.result.now lit c.requires.within
    c.at-lits.ensures has

pub returns-in-None-spare_from : goal.returns-in-None-spare_from
returns-in-None-spare_from c lits e =
    let trail = lits_of c.args.trail.now.steps in
    let mine = c.at-lits.result.now in
    elim c.match-value.branch [
      | in-Some-false w ↦
          subst (λ (asks : Asks). IsAskedOf trail lits c.args.pair c.args.lit asks) (sym w.last-is)
          (all_false c.args.store.now trail c.args.place mine c.in-Some.other c.at-lits.ensures
          c.in-None-spare_from.ensures
          (subst (λ (b : Bool). HasValue trail c.in-Some.other (Some b)) w.in-Some-false.field-0-test
          w.in-Some-false.ensures)
          lits e)
      | in-None w ↦
          subst (λ (asks : Asks). IsAskedOf trail lits c.args.pair c.args.lit asks) (sym w.last-is)
          (record {
            is = c.in-Some.ensures;
            others = λ lit has ne.
                c.in-None-spare_from.ensures lit
                (subst (λ (l : List Lit). Contains l lit)
                (one_at c.args.store.now c.args.place lits mine e c.at-lits.ensures) has)
                ne;
            unset = w.in-None.ensures;
          })
    ]
