use Rattle.std.proofs.Common.{arith, length, ap}
use Rattle.std.proofs.lemmas.List.Folds.{length-flat_map-take}
use Rattle.cf_pool.specs.declared.entry.PoolEntry.{PoolEntry}
use Rattle.cf_pool.specs.Spelling.{entry_text}
use Rattle.cf_bodies.proofs.size.entries_size.Goals as goal

pub entry_size-size-requires : goal.entry_size-size-requires
entry_size-size-requires c =
    let fits = length-flat_map-take entry_text c.args.pool.now c.loop-entry.entry-index c.entry-item.result
    c.loop-entry-test.true in
    omega (arith, fits, c.requires, ap (λ (e : PoolEntry). length (entry_text e)) c.entry-item.is)

pub overflow_add-size : goal.overflow_add-size
overflow_add-size c =
    let fits = length-flat_map-take entry_text c.args.pool.now c.loop-entry.entry-index c.entry-item.result
    c.loop-entry-test.true in
    omega (
      arith,
      fits,
      c.requires,
      c.loop-entry.invariant,
      c.entry_size-size.ensures,
      ap (λ (e : PoolEntry). length (entry_text e)) c.entry-item.is,
    )
