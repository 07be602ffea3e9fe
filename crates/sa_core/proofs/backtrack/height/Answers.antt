use Rattle.std.proofs.Common.{List, take, get_or, sym, subst}
use Rattle.std.proofs.lemmas.List.{take_more}
use Rattle.cn_clauses.specs.declared.lit.Lit.{Lit}
use Rattle.sa_core.specs.TrailView.{lits_of}
use Rattle.sa_core.specs.Analysis.{IsHeight}
use Rattle.jv_list.proofs.ElementLemmas.{in_read}
use Rattle.sa_core.proofs.TrailLemmas.{no_place, its_place}
use Rattle.sa_core.proofs.BacktrackLemmas.{height_more, height_same}
use Rattle.sa_core.proofs.backtrack.height.Goals as goal
use Rattle.sa_core.proofs.backtrack.height.Goals.{in-Some+then-height-place, in-Some+else-height-place, in-None}

abbrev first_lit : Lit
first_lit = record { 0 = 0 }

pub loop-lit-preserved : goal.loop-lit-preserved
loop-lit-preserved c =
    let own = c.args.trail.now in
    let trail = lits_of own.steps in
    let lits = c.args.lits.now in
    let i = c.loop-lit.lit-index in
    let lit = get_or lits i first_lit in
    let front = sym (take_more lits i first_lit c.loop-lit-test.true) in
    let new = c.match-place_of.height in
    elim c.match-place_of.branch [
      | in-Some+then-height-place w ↦
          subst (λ (l : List Lit). IsHeight trail l new) front
          (height_more trail (take i lits) c.loop-lit.height lit w.in-Some.place c.loop-lit.invariant
          (its_place own.steps own.places lit c.opposite.result own.placed c.opposite.ensures w.in-Some.place
          w.in-Some.ensures)
          new w.if-height-place.true w.height-is)
      | in-Some+else-height-place w ↦
          subst (λ (l : List Lit). IsHeight trail l new) front
          (height_same trail (take i lits) c.loop-lit.height lit w.in-Some.place c.loop-lit.invariant
          (its_place own.steps own.places lit c.opposite.result own.placed c.opposite.ensures w.in-Some.place
          w.in-Some.ensures)
          new w.if-height-place.false w.height-is)
      | in-None w ↦
          let s = c.requires.opposed lit (in_read lits i first_lit c.loop-lit-test.true) in
          absurd (no_place own.steps own.places lit c.opposite.result own.placed c.opposite.ensures w.in-None.ensures
          s.place s.is)
    ]
