-- Serves decode: what it needs of the pcs at which instructions begin.
use Rattle.std.specs.Prelude.{◌≡◌, ℕ, Bool, false, List, take, slice_index_or, nat_eq}
use Rattle.std.specs.List.{list_any}
use Rattle.cf_code.specs.declared.instr.Instr.{Instr}
use Rattle.cf_code.specs.Instr.{IsInstr}
use Rattle.cf_code.specs.Sizes.{HasSize}
use Rattle.cf_code.specs.Decoding.{HasTargets}

-- of each byte, whether an instruction begins there
abbrev pub Marks : List Bool → List ℕ → Type 0
Marks marks starts = (at : ℕ) → slice_index_or marks at false ≡ list_any (nat_eq at) starts

-- the instruction at the front of the bytes, of the one size that it has, whose targets are starts
pub record IsOnlyInstr (starts : List ℕ) (pc : ℕ) (bytes : List ℕ) (instr : Instr) : Type 0 where
  pub size : ℕ
  pub has : HasSize pc bytes size
  pub only : (other : ℕ) → HasSize pc bytes other → other ≡ size
  pub is : IsInstr pc (take size bytes) instr
  pub has_targets : HasTargets starts instr
