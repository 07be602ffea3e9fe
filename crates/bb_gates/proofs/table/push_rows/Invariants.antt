-- The clauses of the rows so far stand at the end.
use Rattle.std.proofs.Common.{◌≡◌, ◌++◌, take}
use Rattle.cn_clauses.specs.Formulas.{variables_of, clauses_of, known_of}
use Rattle.bb_gates.specs.Calls.Table.{table_lits}
use Rattle.bb_gates.proofs.table.push_rows.Given as goal

abbrev pub invariant-loop-row : goal.invariant-loop-row
invariant-loop-row l =
    (clauses_of l.formula ≡ clauses_of l.fn.formula ++ table_lits l.own l.operands (take l.row-index l.rows))
    × (variables_of l.formula ≡ variables_of l.fn.formula)
    × (known_of l.formula ≡ known_of l.fn.formula)
