use Rattle.std.proofs.Common.{List, take, get_or, sym, subst, take_all}
use Rattle.std.proofs.lemmas.List.{take_more}
use Rattle.cn_clauses.specs.declared.lit.Lit.{Lit}
use Rattle.sa_core.specs.TrailView.{lits_of}
use Rattle.sa_core.specs.Calls.Propagate.{AreFalseBut}
use Rattle.sa_core.proofs.LitLemmas.{same_from_test}
use Rattle.sa_core.proofs.AskLemmas.{false_more, false_same, taken_stands}
use Rattle.sa_core.proofs.propagate.spare_of.Goals as goal
use Rattle.sa_core.proofs.propagate.spare_of.Goals.{else-ne-via-then-ne+else-is_none, else-ne-via-else-ne}

abbrev first_lit : Lit
first_lit = record { 0 = 0 }

pub loop-index-preserved : goal.loop-index-preserved
loop-index-preserved c =
    let own = c.args.trail.now in
    let trail = lits_of own.steps in
    let lits = c.args.lits.now in
    let i = c.loop-index.index in
    let lit = get_or lits i first_lit in
    subst (λ (l : List Lit). AreFalseBut trail l c.args.other) (sym (take_more lits i first_lit c.loop-index-test.true))
    (elim c.else-ne.branch [
      | else-ne-via-then-ne+else-is_none w ↦
          false_more trail (take i lits) c.args.other lit c.loop-index.invariant
          (taken_stands own.steps own.places lit w.opposite.result own.placed w.opposite.ensures w.place_of.result
          w.place_of.ensures w.is_none.result w.is_none.ensures w.if-is_none.false)
      | else-ne-via-else-ne w ↦
          false_same trail (take i lits) c.args.other lit c.loop-index.invariant
          (same_from_test lit c.args.other c.ne.result c.ne.ensures w.if-ne.false)
    ])

pub returns : goal.returns
returns c =
    let lits = c.args.lits.now in
    subst (λ (l : List Lit). AreFalseBut (lits_of c.args.trail.now.steps) l c.args.other)
    (take_all c.loop-index.index lits c.loop-index-test.false) c.loop-index.invariant
