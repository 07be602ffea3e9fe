use Rattle.std.proofs.Common.{◌≤◌, ◌∷◌, [], List, length, sym, subst, arith}
use Rattle.std.proofs.lemmas.List.{length-append}
use Rattle.cn_clauses.specs.declared.lit.Lit.{Lit}
use Rattle.cn_clauses.specs.Extension.{Grows}
use Rattle.bb_terms.proofs.WordLemmas.{fresh_conservative}
use Rattle.bb_terms.proofs.free.free_word.Goals as goal

pub loop-formula-preserved : goal.loop-formula-preserved
loop-formula-preserved c =
    let old = c.args.formula.now in
    let mid = c.loop-formula.formula in
    let new = c.fresh.new.self in
    let lits = c.loop-formula.lits in
    let lit = c.in_ok-lit.lit in
    let fresh = c.in_ok-lit.ensures.input in
    let laws = c.input_laws.ensures in
    let is = sym c.in_ok-add.ensures.ok in
    let count = length-append lits (lit ∷ []) in
    let room = rw c.length.ensures at c.loop-formula-test.true in
    record {
      grows = subst (Grows old new) is
          (laws.through old mid new lits (lit ∷ []) c.loop-formula.invariant.grows (laws.fresh mid new lit fresh));
      fits = subst (λ (l : List Lit). length l ≤ c.args.width) is (omega (arith, room, count));
      keeps = c.growth_laws.ensures.through old mid new c.loop-formula.invariant.keeps
          (fresh_conservative mid new lit fresh);
    }

pub returns-in_err-add-clause-keeps : goal.returns-in_err-add-clause-keeps
returns-in_err-add-clause-keeps c =
    c.growth_laws.ensures.through c.args.formula.now c.loop-formula.formula c.fresh.new.self
    c.loop-formula.invariant.keeps
    (fresh_conservative c.loop-formula.formula c.fresh.new.self c.in_ok-lit.lit c.in_ok-lit.ensures.input)
