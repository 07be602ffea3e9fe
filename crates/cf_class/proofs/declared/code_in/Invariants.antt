-- What is left has the first Code.
use Rattle.std.proofs.Common.{◌≡◌, drop}
use Rattle.cf_class.specs.Members.{code_in}
use Rattle.cf_class.proofs.declared.code_in.Given as goal

abbrev pub invariant-loop-attribute : goal.invariant-loop-attribute
invariant-loop-attribute l = code_in (drop l.attribute-index l.attributes) ≡ code_in l.attributes
