-- So many methods are told.
use Rattle.std.proofs.Common.{take}
use Rattle.std.specs.List.{AllZip}
use Rattle.ck_show.specs.Verdicts.{IsTold}
use Rattle.ck_show.proofs.verdict.all_told.Given as goal

abbrev pub invariant-loop-member : goal.invariant-loop-member
invariant-loop-member l = AllZip (IsTold l.class) (take l.member-index l.members) l.told
