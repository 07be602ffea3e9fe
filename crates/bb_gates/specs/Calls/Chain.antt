-- What the private functions of slices ensure.
use Rattle.std.specs.Prelude.{ℕ, Bool, List}
use Rattle.std.specs.List.{list_all}
use Rattle.cn_clauses.specs.declared.lit.Lit.{Lit}
use Rattle.cn_clauses.specs.Literals.{lit_value}
use Rattle.bb_gates.specs.Calls.Table.{signed_lit}

-- each literal is true, or each is false
abbrev pub all_signed : Bool → List Lit → (ℕ → Bool) → Bool
all_signed sign lits w = list_all (λ (lit : Lit). lit_value w (signed_lit lit sign)) lits
