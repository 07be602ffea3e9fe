-- The head, the count and the entries.
use Rattle.std.proofs.Common.{arith}
use Rattle.cf_pool.proofs.NumberLemmas.{FitBytes}
use Rattle.cf_pool.proofs.PoolReadingLemmas.{file_split, pool_found, pool_fault}
use Rattle.cf_pool.proofs.PoolLemmas.{outside_of}
use Rattle.cf_pool.proofs.reader.read_pool.Goals as goal

pub returns-in-Ok-clause-found : goal.returns-in-Ok-clause-found
returns-in-Ok-clause-found c =
    let fits : FitBytes c.args.bytes.now = λ i. omega (arith, c.type_inv.bytes i) in
    let parts = file_split c.args.bytes.now c.split_at.result.0.now c.split_at.result.1.now c.read_u16-count.result
    (omega arith) fits c.split_at.ensures.front c.split_at.ensures.back c.read_u16-count.ensures in
    pool_found c.args.bytes.now c.split_at.result.1.now c.in-Ok.rest.now c.read_u16-count.result c.in-Ok.entries
    (omega arith) (omega (arith, c.read_u16-count.type_inv)) parts c.in-Ok.ensures.found

pub returns-in-Err-clause-fault : goal.returns-in-Err-clause-fault
returns-in-Err-clause-fault c =
    let fits : FitBytes c.args.bytes.now = λ i. omega (arith, c.type_inv.bytes i) in
    let parts = file_split c.args.bytes.now c.split_at.result.0.now c.split_at.result.1.now c.read_u16-count.result
    (omega arith) fits c.split_at.ensures.front c.split_at.ensures.back c.read_u16-count.ensures in
    rw c.later.ensures (pool_fault c.in-Err.fault c.args.bytes.now c.split_at.result.1.now c.read_u16-count.result
    (omega arith) (omega (arith, c.read_u16-count.type_inv)) parts c.in-Err.ensures.fault)

pub returns-in-Err-clause-outside : goal.returns-in-Err-clause-outside
returns-in-Err-clause-outside c =
    let fits : FitBytes c.args.bytes.now = λ i. omega (arith, c.type_inv.bytes i) in
    let parts = file_split c.args.bytes.now c.split_at.result.0.now c.split_at.result.1.now c.read_u16-count.result
    (omega arith) fits c.split_at.ensures.front c.split_at.ensures.back c.read_u16-count.ensures in
    let named = pool_fault c.in-Err.fault c.args.bytes.now c.split_at.result.1.now c.read_u16-count.result (omega arith)
    (omega (arith, c.read_u16-count.type_inv)) parts c.in-Err.ensures.fault in
    rw c.later.ensures (outside_of _ c.args.bytes.now named)
