use Rattle.std.proofs.Common.{◌≡◌, ◌++◌, take}
use Rattle.std.specs.List.{flat_map}
use Rattle.bd_scan.specs.Facts.{row_facts}
use Rattle.bd_scan.proofs.method.put_rows.Given as goal

abbrev pub invariant-loop-row : goal.invariant-loop-row
invariant-loop-row l = l.facts ≡ l.fn.facts ++ flat_map (row_facts l.pool) (take l.row-index l.rows)
