-- The laws of all instructions on arrays, from what their effects are.
use Rattle.std.proofs.Common.{pos, ◌≡◌, ◌≢◌, ℕ, ◌<◌, true, List, length, Option, refl, sym, subst}
use Rattle.jv_base.specs.declared.method.Kind.{Kind}
use Rattle.jv_base.specs.declared.method.Kind.TheVariants.{NegSize}
use Rattle.jv_base.specs.declared.value.Value.{Value}
use Rattle.cf_code.specs.declared.instr.Instr.TheVariants as instrs
use Rattle.cf_code.specs.declared.array.Array.{Array}
use Rattle.cf_code.specs.declared.array.Array.TheVariants.{Load, Store, New, NewOf, NewMany, Length}
use Rattle.cf_code.specs.declared.array.Element.{Element}
use Rattle.cf_code.specs.Kinds.{array_raises, raises}
use Rattle.vm_world.specs.declared.frame.Frame.{Frame}
use Rattle.vm_world.specs.declared.object.Object.{Object}
use Rattle.vm_object.specs.declared.effect.ArrayEffect.{ArrayEffect}
use Rattle.vm_object.specs.declared.effect.ArrayEffect.TheVariants.{Gives, Makes, Puts, Raises, Sticks, Leaves}
use Rattle.vm_object.specs.declared.effect.ArrayWent.TheVariants.{Next, Raised}
use Rattle.vm_object.specs.declared.step.Setting.{Setting}
use Rattle.vm_object.specs.Calls.Suits.{Suits}
use Rattle.vm_object.specs.ElementTypes.{type_text}
use Rattle.vm_object.specs.Loads.{load_effect}
use Rattle.vm_object.specs.Stores.{store_effect}
use Rattle.vm_object.specs.Lengths.{length_effect}
use Rattle.vm_object.specs.NewArrays.{make_effect}
use Rattle.vm_object.specs.Steps.{array_effect}
use Rattle.vm_object.specs.Effects.{done}
use Rattle.vm_object.proofs.EffectLemmas.{Reads, MakesNamed, not_empty, load_reads, length_reads, make_makes}
use Rattle.vm_object.proofs.StoreLemmas.{Writes, store_writes}

-- a kind that is raised is the instruction's, and where an array is made there is a value on top
abbrev pub Meets : Array → List Value → ArrayEffect → Type 0
Meets array stack (Gives n v) = Unit {0}
Meets array stack (Makes descriptor n v) = 0 < length stack
Meets array stack (Puts number place v) = Unit {0}
Meets array stack (Raises kind) = array_raises array kind ≡ true
Meets array stack Sticks = Unit {0}
Meets array stack Leaves = Unit {0}

meets_reads : (array : Array) (stack : List Value) (effect : ArrayEffect) → Reads array effect
    → Meets array stack effect
meets_reads array stack (Gives n v) h = tt
meets_reads array stack (Makes descriptor n v) h = absurd h
meets_reads array stack (Puts number place v) h = tt
meets_reads array stack (Raises kind) h = h
meets_reads array stack Sticks h = tt
meets_reads array stack Leaves h = tt

meets_writes : (e : Element) (stack : List Value) (heap : List Object) (effect : ArrayEffect)
    → Writes e stack heap effect → Meets (Store e) stack effect
meets_writes e stack heap (Gives n v) h = tt
meets_writes e stack heap (Makes descriptor n v) h = absurd h
meets_writes e stack heap (Puts number place v) h = tt
meets_writes e stack heap (Raises kind) h = h
meets_writes e stack heap Sticks h = tt
meets_writes e stack heap Leaves h = tt

meets_makes : (array : Array) (named : Option (List ℕ)) (bound : ℕ) (stack : List Value) (effect : ArrayEffect)
    → array_raises array NegSize ≡ true → MakesNamed named bound stack effect → Meets array stack effect
meets_makes array named bound stack (Gives n v) negsize h = tt
meets_makes array named bound stack (Makes descriptor n v) negsize h = not_empty stack (pos n) h.count
meets_makes array named bound stack (Puts number place v) negsize h = tt
meets_makes array named bound stack (Raises kind) negsize h =
    subst (λ (k : Kind). array_raises array k ≡ true) (sym h) negsize
meets_makes array named bound stack Sticks negsize h = tt
meets_makes array named bound stack Leaves negsize h = tt

module _ (setting : Setting) (stack : List Value) (heap : List Object) where
  pub effect_meets : (array : Array) → Meets array stack (array_effect array setting stack heap)
  effect_meets (Load e) = meets_reads (Load e) stack (load_effect e stack heap) (load_reads e stack heap)
  effect_meets (Store e) =
      meets_writes e stack heap (store_effect e setting.suits stack heap) (store_writes e setting.suits stack heap)
  effect_meets (New code) =
      meets_makes (New code) (type_text code) setting.bound stack (make_effect (type_text code) setting.bound stack)
      refl (make_makes (type_text code) setting.bound stack)
  effect_meets (NewOf index) =
      meets_makes (NewOf index) setting.element setting.bound stack (make_effect setting.element setting.bound stack)
      refl (make_makes setting.element setting.bound stack)
  effect_meets (NewMany index dimensions) = tt
  effect_meets Length = meets_reads Length stack (length_effect stack heap) (length_reads stack heap)

suits_if_meets : (array : Array) (effect : ArrayEffect) (frame : Frame) → Meets array frame.stack effect
    → Suits effect frame
suits_if_meets array (Gives n v) frame h = tt
suits_if_meets array (Makes descriptor n v) frame h = h
suits_if_meets array (Puts number place v) frame h = tt
suits_if_meets array (Raises kind) frame h = tt
suits_if_meets array Sticks frame h = tt
suits_if_meets array Leaves frame h = tt

pub effect_suits : (array : Array) (setting : Setting) (frame : Frame) (heap : List Object)
    → Suits (array_effect array setting frame.stack heap) frame
effect_suits array setting frame heap =
    suits_if_meets array (array_effect array setting frame.stack heap) frame
    (effect_meets setting frame.stack heap array)

module _ (next : ℕ) (frame : Frame) (heap : List Object) where
  kind_is : (array : Array) (effect : ArrayEffect) (kind : Kind) → Meets array frame.stack effect
      → (done next effect frame heap).0 ≡ Raised kind → raises (instrs.Array array) kind ≡ true
  kind_is array (Gives n v) kind h e = absurd cc
  kind_is array (Makes descriptor n v) kind h e = absurd cc
  kind_is array (Puts number place v) kind h e = absurd cc
  kind_is array (Raises raised) kind h e =
      let same : raised ≡ kind = cc in subst (λ (k : Kind). raises (instrs.Array array) k ≡ true) same h
  kind_is array Sticks kind h e = absurd cc
  kind_is array Leaves kind h e = absurd cc

  pub goes_on : (effect : ArrayEffect) → (done next effect frame heap).0 ≡ Next
      → (done next effect frame heap).1.pc ≡ next
  goes_on (Gives n v) e = refl
  goes_on (Makes descriptor n v) e = refl
  goes_on (Puts number place v) e = refl
  goes_on (Raises raised) e = absurd cc
  goes_on Sticks e = absurd cc
  goes_on Leaves e = absurd cc

  pub kept_by_refusal : (effect : ArrayEffect) → (done next effect frame heap).0 ≢ Next
      → ((done next effect frame heap).1 ≡ frame) × ((done next effect frame heap).2 ≡ heap)
  kept_by_refusal (Gives n v) e = absurd (e refl)
  kept_by_refusal (Makes descriptor n v) e = absurd (e refl)
  kept_by_refusal (Puts number place v) e = absurd (e refl)
  kept_by_refusal (Raises raised) e = (refl, refl)
  kept_by_refusal Sticks e = (refl, refl)
  kept_by_refusal Leaves e = (refl, refl)

  pub locals_kept : (effect : ArrayEffect)
      → ((done next effect frame heap).1.locals ≡ frame.locals)
      × ((done next effect frame heap).1.method ≡ frame.method)
      × ((done next effect frame heap).1.initialises ≡ frame.initialises)
  locals_kept (Gives n v) = (refl, refl, refl)
  locals_kept (Makes descriptor n v) = (refl, refl, refl)
  locals_kept (Puts number place v) = (refl, refl, refl)
  locals_kept (Raises raised) = (refl, refl, refl)
  locals_kept Sticks = (refl, refl, refl)
  locals_kept Leaves = (refl, refl, refl)

  pub raises_its_kinds : (array : Array) (setting : Setting) (kind : Kind)
      → (done next (array_effect array setting frame.stack heap) frame heap).0 ≡ Raised kind
      → raises (instrs.Array array) kind ≡ true
  raises_its_kinds array setting kind e =
      kind_is array (array_effect array setting frame.stack heap) kind (effect_meets setting frame.stack heap array) e
