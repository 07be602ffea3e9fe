-- A refusal of one of the passes is one of the file.
use Rattle.std.proofs.Common.{ℕ, List, inl, inr}
use Rattle.cf_pool.specs.Laws.{IsBytes}
use Rattle.cf_structure.specs.declared.fault.ClassFault.{ClassFault}
use Rattle.cf_structure.specs.declared.fault.ClassFault.TheVariants.{Malformed, NoMemory}
use Rattle.cf_structure.specs.Raw.{RawFile}
use Rattle.cf_structure.specs.ClassFile.{IsStructure, IsStructureFault, Names}
use Rattle.cf_judge.specs.Judged.{IsJudged, IsJudgedFault}
use Rattle.cf_bodies.specs.Judged.{IsBodyFault}
use Rattle.cf_bodies.specs.Laws.{OneFile}
use Rattle.cf_bodies.specs.Passes.{IsFaultOf}
use Rattle.cf_class.specs.declared.class_file.ClassFile.{ClassFile}
use Rattle.cf_class.specs.Content.{IsClass}

module _ (bytes : List ℕ) where
  pub of_structure : (refusal : ClassFault) → Names (IsStructureFault bytes) refusal → Names (IsFaultOf bytes) refusal
  of_structure (Malformed fault) h = inl h
  of_structure NoMemory h = tt

  module _ (file : RawFile) (structure : IsStructure bytes file) where
    pub of_names : (refusal : ClassFault) → Names (IsJudgedFault file) refusal → Names (IsFaultOf bytes) refusal
    of_names (Malformed fault) h = inr (inl (record { file = file; structure = structure; fault_is = h }))
    of_names NoMemory h = tt

    pub of_bodies : IsJudged file → (refusal : ClassFault) → Names (IsBodyFault file) refusal
        → Names (IsFaultOf bytes) refusal
    of_bodies judged (Malformed fault) h =
        inr (inr (record { file = file; structure = structure; judged = judged; fault_is = h }))
    of_bodies judged NoMemory h = tt

  -- bytes that have a fault are no class file
  pub no_class : OneFile → IsBytes bytes → (refusal : ClassFault) → Names (IsFaultOf bytes) refusal
      → Names (λ _. (c : ClassFile) → IsClass bytes c → ⊥) refusal
  no_class law fits (Malformed fault) h = λ c is. (law bytes fits).not_both is.file fault is.in_order h
  no_class law fits NoMemory h = tt
