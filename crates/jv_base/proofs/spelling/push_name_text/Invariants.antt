-- The characters so far are spelled.
use Rattle.std.proofs.Common.{◌≡◌, ◌++◌, string_bytes}
use Rattle.std.specs.List.{flat_map}
use Rattle.jv_base.specs.Spelling.{character_text}
use Rattle.jv_base.proofs.spelling.push_name_text.Given as goal

abbrev pub invariant-loop-c : goal.invariant-loop-c
invariant-loop-c l = string_bytes l.out ≡ string_bytes l.initial.out ++ flat_map character_text l.yielded
