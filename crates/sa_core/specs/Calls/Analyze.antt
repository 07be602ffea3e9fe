-- What the functions of analysis ensure.
use Rattle.std.specs.Prelude.{ℕ, List}
use Rattle.cn_clauses.specs.declared.lit.Lit.{Lit}
use Rattle.sa_core.specs.declared.analyze.Seen.{Seen}
use Rattle.sa_core.specs.Analysis.{IsLower, Sees}

-- the opposites of these literals were seen as well, and the list below the mark kept up
pub record SeesMore (trail : List Lit) (mark : ℕ) (old new : Seen) (lits : List Lit) : Type 0 where
  pub sees : Sees trail old.places new.places lits
  pub lower : IsLower trail mark old.places old.lower → IsLower trail mark new.places new.lower
