use Rattle.std.proofs.Common.{◌≡◌, ◌++◌, take}
use Rattle.std.specs.List.{flat_map}
use Rattle.cf_code.specs.Kinds.{raises}
use Rattle.bd_scan.specs.Facts.{exception_facts}
use Rattle.bd_scan.proofs.exception.put_raised.Given as goal

abbrev pub invariant-loop-exception : goal.invariant-loop-exception
invariant-loop-exception l =
    l.facts ≡ l.fn.facts ++ flat_map (exception_facts (raises l.instr)) (take l.exception-index l.exceptions)
