-- The laws of a step, from what holds of each effect.
use Rattle.std.proofs.Common.{◌≡◌, ◌⊎◌, ℕ, true, Contains, refl, subst, inl, inr}
use Rattle.jv_base.specs.declared.method.Kind.{Kind}
use Rattle.cf_code.specs.declared.instr.Instr.{Instr}
use Rattle.cf_code.specs.declared.instr.Instr.TheVariants.{Nop, Constant, Local, Array, Stack, Number, Jump, Table}
use Rattle.cf_code.specs.declared.instr.Instr.TheVariants.{Lookup, Return, Field, Call, Object}
use Rattle.cf_code.specs.Kinds.{raises}
use Rattle.cf_code.specs.Targets.{targets, goes_on}
use Rattle.vm_world.specs.declared.frame.Frame.{Frame}
use Rattle.vm_frame.specs.declared.effect.FrameEffect.{FrameEffect}
use Rattle.vm_frame.specs.declared.effect.FrameEffect.TheVariants.{Gives, Drops, Copies, Swaps, Stores, Changes}
use Rattle.vm_frame.specs.declared.effect.FrameEffect.TheVariants.{Jumps, Raises, Sticks, Exceeds}
use Rattle.vm_frame.specs.declared.effect.FrameWent.TheVariants.{Next, Raised}
use Rattle.vm_frame.specs.Effects.{done}
use Rattle.vm_frame.specs.Calls.Suits.{Suits}
use Rattle.vm_frame.specs.Steps.{frame_effect}
use Rattle.vm_frame.proofs.EffectLemmas.{Meets, constant_meets, local_meets, stack_meets, jump_meets, table_meets}
use Rattle.vm_frame.proofs.EffectLemmas.{lookup_meets}
use Rattle.vm_frame.proofs.NumberLemmas.{number_meets}

-- the effect of each instruction
pub effect_meets : (instr : Instr) (frame : Frame) → Meets instr (frame_effect instr frame) frame
effect_meets Nop frame = refl
effect_meets (Constant c) frame = constant_meets c frame
effect_meets (Local l) frame = local_meets l frame
effect_meets (Stack m) frame = stack_meets m frame
effect_meets (Number n) frame = number_meets n frame
effect_meets (Jump j) frame = jump_meets j frame
effect_meets (Table s) frame = table_meets s frame
effect_meets (Lookup s) frame = lookup_meets s frame
effect_meets (Array a) frame = tt
effect_meets (Return r) frame = tt
effect_meets (Field f) frame = tt
effect_meets (Call c) frame = tt
effect_meets (Object o) frame = tt

pub suits_if_meets : (instr : Instr) (e : FrameEffect) (frame : Frame) → Meets instr e frame → Suits e frame
suits_if_meets instr (Gives n v) frame m = tt
suits_if_meets instr (Drops n) frame m = tt
suits_if_meets instr (Copies over under) frame m = m.1
suits_if_meets instr (Swaps under over) frame m = m.1
suits_if_meets instr (Stores index v) frame m = tt
suits_if_meets instr (Changes index v) frame m = m.1
suits_if_meets instr (Jumps n pc) frame m = tt
suits_if_meets instr (Raises kind) frame m = tt
suits_if_meets instr Sticks frame m = tt
suits_if_meets instr Exceeds frame m = tt

pub effect_suits : (instr : Instr) (frame : Frame) → Suits (frame_effect instr frame) frame
effect_suits instr frame = suits_if_meets instr (frame_effect instr frame) frame (effect_meets instr frame)

module _ (instr : Instr) (next : ℕ) (frame : Frame) where
  kind_is : (e : FrameEffect) (kind : Kind) → Meets instr e frame → (done next e frame).0 ≡ Raised kind
      → raises instr kind ≡ true
  kind_is (Gives n v) kind m e = absurd cc
  kind_is (Drops n) kind m e = absurd cc
  kind_is (Copies over under) kind m e = absurd cc
  kind_is (Swaps under over) kind m e = absurd cc
  kind_is (Stores index v) kind m e = absurd cc
  kind_is (Changes index v) kind m e = absurd cc
  kind_is (Jumps n pc) kind m e = absurd cc
  kind_is (Raises raised) kind m e = let same : raised ≡ kind = cc in subst (λ (k : Kind). raises instr k ≡ true) same m
  kind_is Sticks kind m e = absurd cc
  kind_is Exceeds kind m e = absurd cc

  way_is : (e : FrameEffect) → Meets instr e frame → (done next e frame).0 ≡ Next
      → ((goes_on instr ≡ true) × ((done next e frame).1.pc ≡ next)) ⊎ Contains (targets instr) (done next e frame).1.pc
  way_is (Gives n v) m e = inl (m, refl)
  way_is (Drops n) m e = inl (m, refl)
  way_is (Copies over under) m e = inl (m.0, refl)
  way_is (Swaps under over) m e = inl (m.0, refl)
  way_is (Stores index v) m e = inl (m, refl)
  way_is (Changes index v) m e = inl (m.0, refl)
  way_is (Jumps n pc) m e = inr m
  way_is (Raises raised) m e = absurd cc
  way_is Sticks m e = absurd cc
  way_is Exceeds m e = absurd cc

  pub kept_is : (e : FrameEffect)
      → ((done next e frame).1.method ≡ frame.method) × ((done next e frame).1.initialises ≡ frame.initialises)
  kept_is (Gives n v) = (refl, refl)
  kept_is (Drops n) = (refl, refl)
  kept_is (Copies over under) = (refl, refl)
  kept_is (Swaps under over) = (refl, refl)
  kept_is (Stores index v) = (refl, refl)
  kept_is (Changes index v) = (refl, refl)
  kept_is (Jumps n pc) = (refl, refl)
  kept_is (Raises raised) = (refl, refl)
  kept_is Sticks = (refl, refl)
  kept_is Exceeds = (refl, refl)

  pub raises_its_kinds : (kind : Kind) → (done next (frame_effect instr frame) frame).0 ≡ Raised kind
      → raises instr kind ≡ true
  raises_its_kinds kind e = kind_is (frame_effect instr frame) kind (effect_meets instr frame) e

  pub follows_its_ways : (done next (frame_effect instr frame) frame).0 ≡ Next
      → ((goes_on instr ≡ true) × ((done next (frame_effect instr frame) frame).1.pc ≡ next))
      ⊎ Contains (targets instr) (done next (frame_effect instr frame) frame).1.pc
  follows_its_ways e = way_is (frame_effect instr frame) (effect_meets instr frame) e
