-- What was read stands at its indices, which are no more than there are.
use Rattle.std.proofs.Common.{◌-◌, ◌≤◌, length}
use Rattle.cf_pool.proofs.ReadingLemmas.{ReadSoFar}
use Rattle.cf_pool.proofs.reader.read_entries.Given as goal

abbrev pub invariant-entries : goal.invariant-entries
invariant-entries l = record {
  so_far : ReadSoFar l.bytes l.pool l.rest;
  within : length l.pool ≤ l.count;
}

abbrev pub decreases-entries : goal.decreases-entries
decreases-entries l = l.count - length l.pool
