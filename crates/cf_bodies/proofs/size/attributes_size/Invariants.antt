use Rattle.std.proofs.Common.{◌≡◌, length, take, map}
use Rattle.std.specs.List.{flat_map}
use Rattle.cf_structure.specs.Spelled.{attribute_text}
use Rattle.cf_structure.specs.Views.{attribute_of}
use Rattle.cf_bodies.proofs.size.attributes_size.Given as goal

abbrev pub invariant-loop-attribute : goal.invariant-loop-attribute
invariant-loop-attribute l = l.size ≡ length (flat_map attribute_text (map attribute_of (take l.attribute-index
    l.attributes)))
