-- Entry by entry.
use Rattle.std.proofs.Common.{◌≡◌, ◌-◌, ◌++◌, ℕ, List, length, ap, subst, ◌∙◌, arith}
use Rattle.std.proofs.lemmas.List.{length-append}
use Rattle.cf_pool.specs.declared.entry.PoolEntry.{PoolEntry}
use Rattle.cf_pool.specs.declared.entry.PoolEntry.TheVariants.{Unusable}
use Rattle.cf_pool.specs.Entries.{slots}
use Rattle.cf_pool.specs.ConstantPool.{Names}
use Rattle.cf_pool.specs.Calls.Contents.{later, IsFaultOfEntries}
use Rattle.cf_pool.proofs.ReadingLemmas.{starts, goes_on, is_read, fault_of_entries, fault_within}
use Rattle.cf_pool.proofs.PoolReadingLemmas.{read_shorter}
use Rattle.cf_pool.proofs.PoolReadingLemmas.{slots_some}
use Rattle.cf_pool.proofs.reader.read_entries.Goals as goal

pub entries-init : goal.entries-init
entries-init c =
    let first = c.in_ok-push_slots.ensures.ok ∙ ap (λ (t : List PoolEntry). t ++ slots Unusable) c.new-pool.ensures in
    record { so_far = starts c.args.bytes.now c.push_slots.new.pool first; within = omega (arith, ap length first) }

pub entries-smaller : goal.entries-smaller
entries-smaller c =
    let pushed = c.in_ok-push_slots-in-Ok.ensures.ok in
    omega (arith, ap length pushed, length-append c.entries.pool (slots c.in-Ok.entry), slots_some c.in-Ok.entry)

pub entries-preserved : goal.entries-preserved
entries-preserved c =
    let pushed = c.in_ok-push_slots-in-Ok.ensures.ok in
    let found = c.in-Ok.ensures.found in
    record {
      so_far = goes_on c.args.bytes.now c.entries.rest.now c.in-Ok.after.now c.entries.pool c.push_slots-in-Ok.new.pool
          c.in-Ok.entry c.entries.invariant.so_far found.0 found.2 pushed;
      within = omega (arith, found.1, ap length pushed, length-append c.entries.pool (slots c.in-Ok.entry));
    }

pub overflow_sub-bytes : goal.overflow_sub-bytes
overflow_sub-bytes c = read_shorter c.args.bytes.now c.entries.rest.now c.entries.pool c.entries.invariant.so_far

pub returns-in-Err-clause-fault : goal.returns-in-Err-clause-fault
returns-in-Err-clause-fault c =
    let shorter = read_shorter c.args.bytes.now c.entries.rest.now c.entries.pool c.entries.invariant.so_far in
    let count : c.from-count.result ≡ c.args.count = c.from-count.ensures in
    let named =
    fault_of_entries c.in-Err.fault c.from-count.result
    (length c.args.bytes.now - length c.entries.rest.now) c.args.bytes.now c.entries.rest.now c.entries.pool
    c.entries.invariant.so_far
    (omega arith) (omega arith) (rw (← c.length-in-entries.ensures) c.in-Err.ensures.fault) in
    rw c.later.ensures
    (subst (λ (n : ℕ). Names (IsFaultOfEntries n c.args.bytes.now)
    (later (length c.args.bytes.now - length c.entries.rest.now) c.in-Err.fault)) count named)

pub returns-in-Err-clause-within : goal.returns-in-Err-clause-within
returns-in-Err-clause-within c =
    let shorter = read_shorter c.args.bytes.now c.entries.rest.now c.entries.pool c.entries.invariant.so_far in
    rw c.later.ensures
    (fault_within c.in-Err.fault
    (length c.args.bytes.now - length c.entries.rest.now) c.args.bytes.now c.entries.rest.now
    (omega arith) c.in-Err.ensures.within)

pub returns-clause-found : goal.returns-clause-found
returns-clause-found c =
    is_read c.args.count c.args.bytes.now c.entries.rest.now c.entries.pool c.entries.invariant.so_far
    (omega (arith, c.entries.invariant.within, c.from-count.ensures))
