-- The first of some instructions that lacks what it needs.
use Rattle.std.specs.Prelude.{◌≡◌, ℕ, List, ◌∷◌, ◌++◌, Option, Some, None}
use Rattle.std.specs.List.{AllByRecursion}
use Rattle.cf_pool.specs.declared.entry.PoolEntry.{PoolEntry}
use Rattle.cf_code.specs.declared.code.Placed.{Placed}
use Rattle.cf_bodies.specs.Needs.{need, IsMet}

abbrev pub AreMet : List PoolEntry → List Placed → Type 0
AreMet pool code = AllByRecursion (λ placed. IsMet pool (need placed.instr)) code

pub record IsFirstUnmet (pool : List PoolEntry) (code : List Placed) (pc : ℕ) : Type 0 where
  pub before : List Placed
  pub placed : Placed
  pub after : List Placed
  pub parts : code ≡ before ++ placed ∷ after
  pub met : AreMet pool before
  pub unmet : IsMet pool (need placed.instr) → ⊥
  pub pc_is : pc ≡ placed.pc

abbrev pub TellsUnmet : List PoolEntry → List Placed → Option ℕ → Type 0
TellsUnmet pool code None = AreMet pool code
TellsUnmet pool code (Some pc) = IsFirstUnmet pool code pc
