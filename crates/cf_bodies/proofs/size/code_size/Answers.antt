use Rattle.std.proofs.Common.{List, length, map, ap, arith}
use Rattle.std.specs.List.{flat_map}
use Rattle.cf_structure.specs.declared.code.SkippedPart.{SkippedPart}
use Rattle.cf_structure.specs.Spelled.{skipped_text}
use Rattle.cf_structure.specs.Views.{skipped_of, code_of}
use Rattle.cf_bodies.proofs.SizeLemmas.{code_length}
use Rattle.cf_bodies.proofs.size.code_size.Goals as goal

pub overflow_mul-rows : goal.overflow_mul-rows
overflow_mul-rows c = omega (arith, code_length (code_of c.args.code.now), c.requires, c.length.ensures)

pub overflow_add-result-2 : goal.overflow_add-result-2
overflow_add-result-2 c = omega (arith, code_length (code_of c.args.code.now), c.requires, c.length.ensures)

pub overflow_add-result-3 : goal.overflow_add-result-3
overflow_add-result-3 c =
    let same = ap (λ (xs : List SkippedPart). length (flat_map skipped_text (map skipped_of xs))) c.as_slice.ensures in
    omega (arith, code_length (code_of c.args.code.now), same, c.requires, c.length.ensures, c.skipped_size.ensures)

pub returns : goal.returns
returns c =
    let same = ap (λ (xs : List SkippedPart). length (flat_map skipped_text (map skipped_of xs))) c.as_slice.ensures in
    omega (arith, code_length (code_of c.args.code.now), same, c.length.ensures, c.skipped_size.ensures)
