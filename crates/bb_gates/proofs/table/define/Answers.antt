use Rattle.std.proofs.Common.{List, ap, ◌∙◌, ◌++◌, take}
use Rattle.cn_clauses.specs.declared.lit.Lit.{Lit}
use Rattle.bb_gates.specs.Calls.Table.{table_lits}
use Rattle.bb_gates.proofs.DefineLemmas.{gate_defined, few_conservative}
use Rattle.bb_gates.proofs.table.define.Goals as goal

pub returns-in_err-push_rows-clause-keeps : goal.returns-in_err-push_rows-clause-keeps
returns-in_err-push_rows-clause-keeps c =
    let rows = c.args.rows.now in
    let first = c.push_rows.ensures.first in
    let before = c.in_ok-own.ensures in
    let after = c.push_rows.ensures in
    let lits = table_lits c.in_ok-own.own c.args.operands (take first.0 rows) in
    few_conservative c.literal_laws.ensures.opposite_value c.extension_laws.ensures.over c.args.formula.now
    c.in_ok-own.own c.args.operands rows c.requires.named c.requires.table c.fresh.new.self c.push_rows.new.formula
    first.0 before.input c.fresh.ensures.clauses (after.variables ∙ before.variables)
    (first.1 ∙ ap (λ (cs : List (List Lit)). cs ++ lits) c.fresh.ensures.clauses) (after.known ∙ c.fresh.ensures.known)

pub returns-clause-gate : goal.returns-clause-gate
returns-clause-gate c =
    let rows = c.args.rows.now in
    let before = c.in_ok-own.ensures in
    let after = c.push_rows.ensures in
    let lits = table_lits c.in_ok-own.own c.args.operands rows in
    gate_defined c.literal_laws.ensures.opposite_value c.extension_laws.ensures.over c.args.formula.now
    c.in_ok-own.own c.args.operands rows c.requires.named c.requires.table c.extension_laws.ensures.defined
    c.push_rows.new.formula before.lit (after.variables ∙ before.variables)
    (c.in_ok-push_rows.ensures.ok ∙ ap (λ (cs : List (List Lit)). cs ++ lits) c.fresh.ensures.clauses)
    (after.known ∙ c.fresh.ensures.known)

pub returns-clause-keeps : goal.returns-clause-keeps
returns-clause-keeps c =
    let rows = c.args.rows.now in
    let first = c.push_rows.ensures.first in
    let before = c.in_ok-own.ensures in
    let after = c.push_rows.ensures in
    let lits = table_lits c.in_ok-own.own c.args.operands (take first.0 rows) in
    few_conservative c.literal_laws.ensures.opposite_value c.extension_laws.ensures.over c.args.formula.now
    c.in_ok-own.own c.args.operands rows c.requires.named c.requires.table c.fresh.new.self c.push_rows.new.formula
    first.0 before.input c.fresh.ensures.clauses (after.variables ∙ before.variables)
    (first.1 ∙ ap (λ (cs : List (List Lit)). cs ++ lits) c.fresh.ensures.clauses) (after.known ∙ c.fresh.ensures.known)
