-- The names so far, and what is left, are all.
use Rattle.std.specs.Prelude.{◌≡◌, ◌++◌}
use Rattle.hi_inputs.proofs.classes.names_of.Given as goal

abbrev pub invariant-names : goal.invariant-names
invariant-names l = l.names ++ l.name-iterator ≡ l.fn.found.keys
