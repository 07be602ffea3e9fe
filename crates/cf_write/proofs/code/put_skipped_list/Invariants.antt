use Rattle.std.proofs.Common.{◌≡◌, ◌++◌, take}
use Rattle.std.specs.List.{flat_map}
use Rattle.cf_write.specs.Calls.Texts.{skipped_text}
use Rattle.cf_write.proofs.code.put_skipped_list.Given as goal

abbrev pub invariant-loop-attribute : goal.invariant-loop-attribute
invariant-loop-attribute l = l.out ≡ l.fn.out ++ flat_map skipped_text (take l.attribute-index l.attributes)
