-- The first literals are opposed.
use Rattle.std.proofs.Common.{◌≡◌, length, map, take}
use Rattle.cn_clauses.specs.Literals.{opposite_of}
use Rattle.bb_arith.proofs.sum.opposites.Given as goal

abbrev pub invariant-loop-i : goal.invariant-loop-i
invariant-loop-i g l = record {
  opposed : take l.i l.made ≡ map opposite_of (take l.i l.word);
  size : length l.made ≡ length l.word;
}
