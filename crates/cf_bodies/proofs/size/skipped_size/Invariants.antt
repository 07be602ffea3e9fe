use Rattle.std.proofs.Common.{◌≡◌, length, take, map}
use Rattle.std.specs.List.{flat_map}
use Rattle.cf_structure.specs.Spelled.{skipped_text}
use Rattle.cf_structure.specs.Views.{skipped_of}
use Rattle.cf_bodies.proofs.size.skipped_size.Given as goal

abbrev pub invariant-loop-attribute : goal.invariant-loop-attribute
invariant-loop-attribute l = l.size ≡ length (flat_map skipped_text (map skipped_of (take l.attribute-index
    l.attributes)))
