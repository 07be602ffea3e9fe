use Rattle.std.proofs.Common.{◌≡◌, take, map}
use Rattle.cf_class.specs.Content.{row_of}
use Rattle.cf_class.proofs.code.row_list.Given as goal

abbrev pub invariant-loop-row : goal.invariant-loop-row
invariant-loop-row l = l.made ≡ map row_of (take l.row-index l.rows)
