use Rattle.std.proofs.Common.{List, map}
use Rattle.std.specs.List.{flat_map}
use Rattle.cf_structure.specs.Raw.{RawCode}
use Rattle.cf_structure.specs.declared.class_file.Structure.{Structure}
use Rattle.cf_structure.specs.Views.{attribute_of, member_of}
use Rattle.cf_class.specs.Calls.Contents.{attribute_codes, member_codes}
use Rattle.cf_class.proofs.BodiesLemmas.{first_part, second_part, third_part}
use Rattle.cf_class.proofs.class_file.class_content.Goals as goal

abbrev of_fields : Structure → List RawCode
of_fields s = flat_map member_codes (map member_of s.class.fields)

abbrev of_methods : Structure → List RawCode
of_methods s = flat_map member_codes (map member_of s.class.methods)

abbrev of_class : Structure → List RawCode
of_class s = flat_map attribute_codes (map attribute_of s.class.attributes)

pub member_list-requires-clause-bodies : goal.member_list-requires-clause-bodies
member_list-requires-clause-bodies c =
    let s = c.args.structure in
    rw (c.as_slice-3.ensures, c.new-bodies.ensures)
    (first_part (of_fields s) (of_methods s) (of_class s) c.args.bodies c.requires.bodies)

pub member_list-requires-2-clause-bodies : goal.member_list-requires-2-clause-bodies
member_list-requires-2-clause-bodies c =
    let s = c.args.structure in
    rw c.as_slice-4.ensures
    (second_part (of_fields s) (of_methods s) (of_class s) c.args.bodies c.requires.bodies c.member_list.new.bodies
    (rw (c.as_slice-3.ensures, c.new-bodies.ensures) at c.in_ok-fields.ensures.left))

pub attribute_list-requires-clause-bodies : goal.attribute_list-requires-clause-bodies
attribute_list-requires-clause-bodies c =
    let s = c.args.structure in
    rw c.as_slice-5.ensures
    (third_part (of_fields s) (of_methods s) (of_class s) c.args.bodies c.requires.bodies c.member_list.new.bodies
    (rw (c.as_slice-3.ensures, c.new-bodies.ensures) at c.in_ok-fields.ensures.left) c.member_list-2.new.bodies
    (rw c.as_slice-4.ensures at c.in_ok-methods.ensures.left))
