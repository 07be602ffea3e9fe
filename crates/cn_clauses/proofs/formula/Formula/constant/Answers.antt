use Rattle.std.proofs.Common.{true, false, ap, sym, ◌∙◌}
use Rattle.std.proofs.lemmas.Bool.{eqb-true}
use Rattle.cn_clauses.specs.declared.lit.Lit.{Lit}
use Rattle.cn_clauses.specs.Literals.{opposite_of}
use Rattle.cn_clauses.proofs.ExtensionLemmas.{shows_known, shows_opposite, shows_number}
use Rattle.cn_clauses.proofs.formula.Formula.constant.Goals as goal

pub returns-then-eq-clause-shows : goal.returns-then-eq-clause-shows
returns-then-eq-clause-shows c =
    let self = c.args.self.now in
    let known = c.in_ok-known.known in
    let number = eqb-true c.args.lit.0 known.0 (sym c.if-eq.ensures) in
    shows_number self c.args.lit known (λ a. true) number (shows_known self known c.in_ok-known.was)

pub returns-then-eq-2-clause-shows : goal.returns-then-eq-2-clause-shows
returns-then-eq-2-clause-shows c =
    let self = c.args.self.now in
    let known = c.in_ok-known.known in
    let same = eqb-true c.args.lit.0 c.opposite.result.0 (sym c.if-eq-2.ensures) in
    let number = same ∙ ap (λ (l : Lit). l.0) c.opposite.ensures in
    let opposite = shows_opposite self known (λ a. true) (shows_known self known c.in_ok-known.was) in
    shows_number self c.args.lit (opposite_of known) (λ a. false) number opposite
