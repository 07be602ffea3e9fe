use Rattle.cf_thin.specs.ThinCode.{Shapes, MeetsRules}
use Rattle.cf_thin.specs.Calls.Passes.{IsSound, Covers}
use Rattle.cf_thin.proofs.thin_code.has_shapes.Given as goal

abbrev pub invariant-loop-pc : goal.invariant-loop-pc
invariant-loop-pc l = record {
  sound : IsSound l.code l.limits l.shapes.items l.pc;
  covers : (all : Shapes)
      → MeetsRules l.code l.limits all → Covers l.shapes.items all;
}
