use Rattle.std.proofs.Common.{ℕ, ◌+◌, List, [], ◌++◌, length, map, ap, ◌∙◌, arith}
use Rattle.std.specs.List.{flat_map}
use Rattle.jv_list.specs.Places.{each_place}
use Rattle.cf_structure.specs.declared.attribute.AttributePart.{AttributePart}
use Rattle.cf_structure.specs.Spelled.{attribute_text, member_text}
use Rattle.cf_structure.specs.Views.{attribute_of, member_of, file_of}
use Rattle.cf_bodies.specs.Places.{attribute_codes, method_codes, methods_start}
use Rattle.cf_bodies.specs.Calls.Views.{placed_of}
use Rattle.cf_bodies.proofs.SizeLemmas.{methods_fit}
use Rattle.cf_bodies.proofs.PlaceLemmas.{none_found, fits_next, found_next, all_found}
use Rattle.cf_bodies.proofs.place.codes_of.Goals as goal

pub loop-method-init : goal.loop-method-init
loop-method-init c =
    let start = methods_start (file_of c.args.structure.now) in
    rw (c.methods_place-place.ensures, c.new-found.ensures)
    (none_found member_of method_codes member_text start [] c.args.structure.now.class.methods)

pub overflow_add-place : goal.overflow_add-place
overflow_add-place c =
    let l = c.loop-method in
    let file = file_of c.args.structure.now in
    let lt = rw c.as_slice-method-items.ensures at c.loop-method-test.true in
    let is = rw c.as_slice-method-items.ensures at c.method-item.is in
    let fits = fits_next member_of method_codes member_text (methods_start file) [] c.args.structure.now.class.methods
    l.method-index l.place (map placed_of l.found) c.method-item.result lt is l.invariant in
    omega (arith, fits, methods_fit file, c.requires)

pub push_codes-requires : goal.push_codes-requires
push_codes-requires c =
    let l = c.loop-method in
    let file = file_of c.args.structure.now in
    let lt = rw c.as_slice-method-items.ensures at c.loop-method-test.true in
    let is = rw c.as_slice-method-items.ensures at c.method-item.is in
    let fits = fits_next member_of method_codes member_text (methods_start file) [] c.args.structure.now.class.methods
    l.method-index l.place (map placed_of l.found) c.method-item.result lt is l.invariant in
    let same = ap (λ (xs : List AttributePart). length (flat_map attribute_text (map attribute_of xs)))
    c.as_slice.ensures in
    omega (arith, fits, methods_fit file, c.requires, same)

pub member_size-place-requires : goal.member_size-place-requires
member_size-place-requires c =
    let l = c.loop-method in
    let file = file_of c.args.structure.now in
    let lt = rw c.as_slice-method-items.ensures at c.loop-method-test.true in
    let is = rw c.as_slice-method-items.ensures at c.method-item.is in
    let fits = fits_next member_of method_codes member_text (methods_start file) [] c.args.structure.now.class.methods
    l.method-index l.place (map placed_of l.found) c.method-item.result lt is l.invariant in
    omega (arith, fits, methods_fit file, c.requires)

pub overflow_add-place-in-loop-method : goal.overflow_add-place-in-loop-method
overflow_add-place-in-loop-method c =
    let l = c.loop-method in
    let file = file_of c.args.structure.now in
    let lt = rw c.as_slice-method-items.ensures at c.loop-method-test.true in
    let is = rw c.as_slice-method-items.ensures at c.method-item.is in
    let fits = fits_next member_of method_codes member_text (methods_start file) [] c.args.structure.now.class.methods
    l.method-index l.place (map placed_of l.found) c.method-item.result lt is l.invariant in
    omega (arith, fits, methods_fit file, c.requires, c.member_size-place.ensures)

pub loop-method-preserved : goal.loop-method-preserved
loop-method-preserved c =
    let l = c.loop-method in
    let lt = rw c.as_slice-method-items.ensures at c.loop-method-test.true in
    let is = rw c.as_slice-method-items.ensures at c.method-item.is in
    let more = c.in_ok-push_codes.ensures
    ∙ ap (λ (xs : List AttributePart). map placed_of l.found
    ++ each_place attribute_codes attribute_text (l.place + 8) (map attribute_of xs)) c.as_slice.ensures in
    found_next member_of method_codes member_text (methods_start (file_of c.args.structure.now)) []
    c.args.structure.now.class.methods l.method-index l.place (map placed_of l.found) c.method-item.result lt is
    l.invariant (l.place + c.member_size-place.result) (map placed_of c.push_codes.new.found)
    (ap (λ (n : ℕ). l.place + n) c.member_size-place.ensures) more

pub returns : goal.returns
returns c =
    let l = c.loop-method in
    all_found member_of method_codes member_text (methods_start (file_of c.args.structure.now)) []
    c.args.structure.now.class.methods l.method-index l.place (map placed_of l.found)
    (rw c.as_slice-method-items.ensures at c.loop-method-test.false) l.invariant
