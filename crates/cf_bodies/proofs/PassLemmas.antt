-- The judgements of a file, one after the other: bytes are a file that is in order, or have one fault, and not both.
use Rattle.std.proofs.Common.{◌≡◌, ℕ, List, subst, inl, inr, ◌⊎◌}
use Rattle.cf_pool.specs.declared.fault.Fault.{Fault}
use Rattle.cf_pool.specs.Laws.{ExactlyOne}
use Rattle.cf_structure.specs.Raw.{RawFile}
use Rattle.cf_structure.specs.ClassFile.{IsStructure, IsStructureFault}
use Rattle.cf_judge.specs.Judged.{IsJudged, IsJudgedFault}
use Rattle.cf_judge.specs.Laws.{OneJudgementOf}
use Rattle.cf_bodies.specs.Judged.{IsBodyFault}
use Rattle.cf_bodies.specs.Passes.{IsInOrder, IsFaultOfNames, IsFaultOf}
use Rattle.cf_bodies.specs.Laws.{OneVerdictOf}

module _ (bytes : List ℕ) (parts : ExactlyOne (IsStructure bytes) (IsStructureFault bytes))
    (names : (file : RawFile) → OneJudgementOf file) (code : (file : RawFile) → IsStructure bytes file
    → OneVerdictOf file) where
  by_code : (file : RawFile) → IsStructure bytes file → IsJudged file
      → ((f : RawFile) × IsInOrder bytes f) ⊎ ((fault : Fault) × IsFaultOf bytes fault)
  by_code file s j = elim (code file s).one [
    | inl b ↦ inl (file, record { structure = s; judged = j; bodies = b })
    | inr h ↦ inr (h.0, inr (inr (record { file = file; structure = s; judged = j; fault_is = h.1 })))
  ]

  by_names : (file : RawFile) → IsStructure bytes file
      → ((f : RawFile) × IsInOrder bytes f) ⊎ ((fault : Fault) × IsFaultOf bytes fault)
  by_names file s = elim (names file).one [
    | inl j ↦ by_code file s j
    | inr g ↦ inr (g.0, inr (inl (record { file = file; structure = s; fault_is = g.1 })))
  ]

  order_or_fault : ((file : RawFile) × IsInOrder bytes file) ⊎ ((fault : Fault) × IsFaultOf bytes fault)
  order_or_fault = elim parts.one [
    | inl s ↦ by_names s.0 s.1
    | inr f ↦ inr (f.0, inl f.1)
  ]

  -- what is said of a file's structure is said of the one that the bytes have
  of_one : (P : RawFile → Type 0) (f g : RawFile) → IsStructure bytes f → IsStructure bytes g → P f → P g
  of_one P f g s t h = subst P (parts.one_content f g s t) h

  no_names : (fault : Fault) (file : RawFile) → IsStructure bytes file → IsJudged file → IsFaultOfNames bytes fault → ⊥
  no_names fault file s j g =
      (names file).not_both fault j
      (of_one (λ (f : RawFile). IsJudgedFault f fault) g.file file g.structure s g.fault_is)

  no_structure : (fault : Fault) (file : RawFile) → IsStructure bytes file → IsStructureFault bytes fault → ⊥
  no_structure fault file s f = parts.not_both file fault s f

  same_fault : (a b : Fault) → IsFaultOf bytes a → IsFaultOf bytes b → a ≡ b
  same_fault a b (inl f) (inl g) = parts.one_fault a b f g
  same_fault a b (inl f) (inr (inl g)) = absurd (no_structure a g.file g.structure f)
  same_fault a b (inl f) (inr (inr g)) = absurd (no_structure a g.file g.structure f)
  same_fault a b (inr (inl f)) (inl g) = absurd (no_structure b f.file f.structure g)
  same_fault a b (inr (inr f)) (inl g) = absurd (no_structure b f.file f.structure g)
  same_fault a b (inr (inl f)) (inr (inl g)) =
      (names g.file).one_fault a b
      (of_one (λ (r : RawFile). IsJudgedFault r a) f.file g.file f.structure g.structure f.fault_is) g.fault_is
  same_fault a b (inr (inl f)) (inr (inr g)) = absurd (no_names a g.file g.structure g.judged f)
  same_fault a b (inr (inr f)) (inr (inl g)) = absurd (no_names b f.file f.structure f.judged g)
  same_fault a b (inr (inr f)) (inr (inr g)) =
      (code g.file g.structure).one_fault a b
      (of_one (λ (r : RawFile). IsBodyFault r a) f.file g.file f.structure g.structure f.fault_is) g.fault_is

  not_both : (file : RawFile) (fault : Fault) → IsInOrder bytes file → IsFaultOf bytes fault → ⊥
  not_both file fault o (inl f) = no_structure fault file o.structure f
  not_both file fault o (inr (inl f)) = no_names fault file o.structure o.judged f
  not_both file fault o (inr (inr f)) =
      (code file o.structure).not_both fault o.bodies
      (of_one (λ (r : RawFile). IsBodyFault r fault) f.file file f.structure o.structure f.fault_is)

  pub joined : ExactlyOne (IsInOrder bytes) (IsFaultOf bytes)
  joined = record {
    one = order_or_fault;
    one_content = λ f g o p. parts.one_content f g o.structure p.structure;
    one_fault = same_fault;
    not_both = not_both;
  }
