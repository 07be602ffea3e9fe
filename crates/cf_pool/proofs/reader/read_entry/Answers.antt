-- The fault of a text, counted from its tag.
use Rattle.std.proofs.Common.{arith}
use Rattle.std.proofs.lemmas.Result.{err_from_is_err_and}
use Rattle.cf_pool.proofs.NumberLemmas.{FitBytes, FitBytes-rest, FitBytes-front}
use Rattle.cf_pool.proofs.ReadingLemmas.{text_fault, text_fault_within}
use Rattle.cf_pool.proofs.PoolReadingLemmas.{split_whole, size_again}
use Rattle.cf_pool.proofs.reader.read_entry.Goals as goal

pub returns-in_err-entry-clause-fault : goal.returns-in_err-entry-clause-fault
returns-in_err-entry-clause-fault c =
    let p = err_from_is_err_and c.from_residual.result c.from_residual.ensures.1 in
    let rest = c.in-Some.rest.now in
    let content = c.split_at.result.0.now in
    let after = c.split_at.result.1.now in
    let tag = c.in-Some-tag_with_room.tag in
    let parts = c.in-Some.ensures.cases.0 in
    let split =
    split_whole c.content_size-size.result rest content after c.split_at.ensures.front c.split_at.ensures.back in
    let bytes_fit : FitBytes c.args.bytes.now = λ i. omega (arith, c.type_inv.bytes i) in
    let fits =
    FitBytes-front rest content after (FitBytes-rest c.in-Some.byte.now c.args.bytes.now rest bytes_fit parts) split
    in
    let size =
    size_again tag c.content_size-size.result rest content c.content_size-size.ensures c.split_at.ensures.front
    (omega arith) in
    rw (p.1, p.2)
    (text_fault c.in_err-entry.field-0.0 c.args.left tag c.in-Some.byte.now c.args.bytes.now rest content after fits
    parts c.in-Some-tag_with_room.ensures.found.0 split size c.in_err-entry.ensures.fault)

pub returns-in_err-entry-clause-within : goal.returns-in_err-entry-clause-within
returns-in_err-entry-clause-within c =
    let p = err_from_is_err_and c.from_residual.result c.from_residual.ensures.1 in
    let rest = c.in-Some.rest.now in
    let content = c.split_at.result.0.now in
    let after = c.split_at.result.1.now in
    let tag = c.in-Some-tag_with_room.tag in
    let split =
    split_whole c.content_size-size.result rest content after c.split_at.ensures.front c.split_at.ensures.back in
    let size =
    size_again tag c.content_size-size.result rest content c.content_size-size.ensures c.split_at.ensures.front
    (omega arith) in
    rw (p.1, p.2)
    (text_fault_within c.in_err-entry.field-0.0 tag c.in-Some.byte.now c.args.bytes.now rest content after
    c.in-Some.ensures.cases.0 split size c.in_err-entry.ensures.fault)
