-- The members so far, and what is left, are all.
use Rattle.std.specs.Prelude.{◌≡◌, ◌++◌}
use Rattle.bd_core.proofs.closing.list_of.Given as goal

abbrev pub invariant-members : goal.invariant-members
invariant-members l = l.list ++ l.member-iterator ≡ l.fn.found.keys
