-- What is still to be searched answers what the whole list does.
use Rattle.std.proofs.Common.{◌≡◌, length, map}
use Rattle.lib_rows.specs.Rows.{row, named}
use Rattle.lib_rows.proofs.row.named.Given as goal

abbrev pub invariant-loop-rows : goal.invariant-loop-rows
invariant-loop-rows l =
    named (map (λ r. row r.0.now r.1.now r.2) l.rows) l.name l.desc
    ≡ named (map (λ r. row r.0.now r.1.now r.2) l.initial.rows) l.name l.desc

abbrev pub decreases-loop-rows : goal.decreases-loop-rows
decreases-loop-rows l = length l.rows
