-- What a solver shows: how many variables it has, and the entries of its log.
use Rattle.std.specs.Prelude.{ℕ, List}
use Rattle.sa_core.specs.declared.log.LogEntry.{LogEntry}
use Rattle.sa_core.specs.declared.solver.Solver.{Solver}

-- the number of variables
abbrev pub number_of : Solver → ℕ
number_of solver = solver.variables

-- the entries of the log, in order
abbrev pub entries_of : Solver → List LogEntry
entries_of solver = solver.log.entries
