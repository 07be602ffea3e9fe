-- The version, the pool, and what stands behind it.
use Rattle.std.proofs.Common.{arith}
use Rattle.std.proofs.lemmas.Result.{err_from_is_err_and}
use Rattle.cf_structure.specs.Views.{class_of}
use Rattle.cf_structure.proofs.ReadLemmas.{AreBytes}
use Rattle.cf_structure.proofs.FileLemmas.{structure_spelled}
use Rattle.cf_structure.proofs.StructureLemmas.{is_outside, pool_named, class_named, structure_of}
use Rattle.cf_structure.proofs.class_file.read_structure.Goals as goal

pub returns-in_err-pool-clause-outside : goal.returns-in_err-pool-clause-outside
returns-in_err-pool-clause-outside c =
    let p = err_from_is_err_and c.from_residual.result c.from_residual.ensures.1 in
    let fits : AreBytes c.args.bytes.now = λ i. omega (arith, c.type_inv.bytes i) in
    let named = pool_named c.args.bytes.now c.in-Ok.version c.in-Ok.field-0-1.now c.in-Ok.ensures
    c.in_err-pool.field-0.0 c.in_err-pool.ensures.fault in
    rw (p.1, p.2) (is_outside c.one_structure.ensures c.args.bytes.now fits _ named)

pub returns-in-Err-read_class_part-clause-fault : goal.returns-in-Err-read_class_part-clause-fault
returns-in-Err-read_class_part-clause-fault c =
    let stops = rw (c.as_slice.ensures, c.split_at.ensures.back) at c.in-Err-read_class_part.ensures in
    rw c.in_file-in-Err-read_class_part.ensures (class_named c.args.bytes.now c.in-Ok.version c.in-Ok.field-0-1.now
    c.in-Ok.ensures c.in_ok-pool.pool.entries c.in_ok-pool.place c.in-Err-read_class_part.stop
    c.in_ok-pool.ensures.found stops)

pub returns-in-Err-read_class_part-clause-outside : goal.returns-in-Err-read_class_part-clause-outside
returns-in-Err-read_class_part-clause-outside c =
    let fits : AreBytes c.args.bytes.now = λ i. omega (arith, c.type_inv.bytes i) in
    let stops = rw (c.as_slice.ensures, c.split_at.ensures.back) at c.in-Err-read_class_part.ensures in
    let named = class_named c.args.bytes.now c.in-Ok.version c.in-Ok.field-0-1.now c.in-Ok.ensures
    c.in_ok-pool.pool.entries c.in_ok-pool.place c.in-Err-read_class_part.stop c.in_ok-pool.ensures.found stops in
    rw c.in_file-in-Err-read_class_part.ensures (is_outside c.one_structure.ensures c.args.bytes.now fits _ named)

pub returns-clause-spelled : goal.returns-clause-spelled
returns-clause-spelled c =
    let fits : AreBytes c.args.bytes.now = λ i. omega (arith, c.type_inv.bytes i) in
    let read = rw (c.as_slice.ensures, c.split_at.ensures.back) at c.in-Ok-read_class_part.ensures in
    structure_spelled c.args.bytes.now _ fits (structure_of c.args.bytes.now c.in-Ok.version c.in-Ok.field-0-1.now
    c.in-Ok.ensures c.in_ok-pool.pool.entries c.in_ok-pool.place (class_of c.in-Ok-read_class_part.class)
    c.in_ok-pool.ensures.found read)
