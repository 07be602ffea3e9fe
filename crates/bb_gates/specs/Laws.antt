-- What holds of growth: steps of it, one after the other.
use Rattle.std.specs.Prelude.{◌+◌, ℕ}
use Rattle.cn_clauses.specs.declared.formula.Formula.{Formula}
use Rattle.cn_clauses.specs.Extension.{Extends}
use Rattle.bb_gates.specs.Growth.{IsConservative, Adds}

-- a formula that extends another in exactly one way keeps what can be said of it
abbrev pub ExtendsIsConservative : Type 0
ExtendsIsConservative = (old new : Formula) → Extends old new → IsConservative old new

-- and so does one by way of a formula that does
abbrev pub ConservativeThrough : Type 0
ConservativeThrough = (old between new : Formula) → IsConservative old between → IsConservative between new
    → IsConservative old new

-- what two steps add
abbrev pub AddsThrough : Type 0
AddsThrough = (n m i j : ℕ) (old between new : Formula) → Adds n m old between → Adds i j between new
    → Adds (n + i) (m + j) old new
