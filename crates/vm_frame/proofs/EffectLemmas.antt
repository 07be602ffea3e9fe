-- What holds of the effect of each instruction: it finds what it speaks of, raises a kind of the instruction, and
-- leads to
-- one of its targets, or on to the next instruction.
use Rattle.std.proofs.Common.{◌≡◌, ℕ, zero, suc, ◌+◌, ◌-◌, ◌<◌, ◌≤◌, ℤ, pos, negsuc, ◌-ℤ◌, Bool, true, false}
use Rattle.std.proofs.Common.{if◌then◌else◌}
use Rattle.std.proofs.Common.{List, [], ◌∷◌, length, map, Contains, Option, Some, None, refl, subst, arith}
use Rattle.std.specs.List.{find}
use Rattle.std.specs.Option.{option_map}
use Rattle.std.specs.Ordering.{int_eq}
use Rattle.std.proofs.lemmas.List.{length-take-le}
use Rattle.std.proofs.lemmas.Option.{same_Some}
use Rattle.std.proofs.lemmas.List.Elements.{Contains-append_right}
use Rattle.jv_list.proofs.ElementLemmas.{at_contains}
use Rattle.jv_base.specs.declared.value.Value.{Value}
use Rattle.jv_base.specs.declared.value.Value.TheVariants.{Int, Long, Ref}
use Rattle.cf_code.specs.declared.instr.Instr.{Instr}
use Rattle.cf_code.specs.declared.instr.Instr.TheVariants as instrs
use Rattle.cf_code.specs.declared.constant.Constant.{Constant}
use Rattle.cf_code.specs.declared.constant.Constant.TheVariants as constants
use Rattle.cf_code.specs.declared.local.Local.{Local}
use Rattle.cf_code.specs.declared.local.Local.TheVariants as locals
use Rattle.cf_code.specs.declared.stack.StackMove.{StackMove}
use Rattle.cf_code.specs.declared.stack.StackMove.TheVariants as moves
use Rattle.cf_code.specs.declared.jump.Jump.{Jump}
use Rattle.cf_code.specs.declared.jump.Jump.TheVariants as jumps
use Rattle.cf_code.specs.declared.jump.Equality.{Equality}
use Rattle.cf_code.specs.declared.jump.Condition.{Condition}
use Rattle.cf_code.specs.declared.switch.Case.{Case}
use Rattle.cf_code.specs.declared.switch.TableSwitch.{TableSwitch}
use Rattle.cf_code.specs.declared.switch.LookupSwitch.{LookupSwitch}
use Rattle.cf_code.specs.Kinds.{raises}
use Rattle.cf_code.specs.Targets.{targets, goes_on}
use Rattle.vm_world.specs.declared.frame.Frame.{Frame}
use Rattle.vm_frame.specs.declared.operand.Operands.{Operands}
use Rattle.vm_frame.specs.declared.operand.Operands.TheVariants.{NoOperand, OneOperand, TwoOperands}
use Rattle.vm_frame.specs.declared.effect.FrameEffect.{FrameEffect}
use Rattle.vm_frame.specs.declared.effect.FrameEffect.TheVariants.{Gives, Drops, Copies, Swaps, Stores, Changes}
use Rattle.vm_frame.specs.declared.effect.FrameEffect.TheVariants.{Jumps, Raises, Sticks, Exceeds}
use Rattle.vm_frame.specs.Operands.{without, top, second, int_in, reference_in, values, one_word, two_words}
use Rattle.vm_frame.specs.Operands.{operands_of, two_ints, two_references}
use Rattle.vm_frame.specs.Constants.{constant_effect}
use Rattle.vm_frame.specs.Locals.{local_at, of_type, index_of, load_effect, store_effect, iinc_effect, local_effect}
use Rattle.vm_frame.specs.Stacks.{dropped, copied, copied_under, copies, swaps, stack_effect}
use Rattle.vm_frame.specs.Jumps.{branch, if_zero, if_ints, if_references, if_null, jump_effect, target_or, target_at}
use Rattle.vm_frame.specs.Jumps.{case_target}
use Rattle.vm_frame.specs.Jumps.{table_target, lookup_target, switch_given, table_effect, lookup_effect}
use Rattle.vm_frame.proofs.StoreLemmas.{in_list}

abbrev pub Meets : Instr → FrameEffect → Frame → Type 0
Meets instr (Gives n v) frame = goes_on instr ≡ true
Meets instr (Drops n) frame = goes_on instr ≡ true
Meets instr (Copies over under) frame =
    (goes_on instr ≡ true) × (length (values over) + length (values under) ≤ length frame.stack)
Meets instr (Swaps under over) frame = (goes_on instr ≡ true) × (2 ≤ length frame.stack)
Meets instr (Stores index v) frame = goes_on instr ≡ true
Meets instr (Changes index v) frame = (goes_on instr ≡ true) × (index < length frame.locals)
Meets instr (Jumps n pc) frame = Contains (targets instr) pc
Meets instr (Raises kind) frame = raises instr kind ≡ true
Meets instr Sticks frame = Unit {0}
Meets instr Exceeds frame = Unit {0}

pub meets_if : (b : Bool) (instr : Instr) (e f : FrameEffect) (frame : Frame) → Meets instr e frame
    → Meets instr f frame
    → Meets instr (if b then e else f) frame
meets_if b instr e f frame first last =
    elim b as (λ t. Meets instr (if t then e else f) frame) [ true ↦ first | false ↦ last ]

-- ---- constants

pub constant_meets : (c : Constant) (frame : Frame) → Meets (instrs.Constant c) (constant_effect c) frame
constant_meets constants.Null frame = refl
constant_meets (constants.Iconst z) frame = refl
constant_meets (constants.Lconst n) frame = refl
constant_meets (constants.Bipush z) frame = refl
constant_meets (constants.Sipush z) frame = refl
constant_meets (constants.Fconst n) frame = tt
constant_meets (constants.Dconst n) frame = tt
constant_meets (constants.Ldc n) frame = tt
constant_meets (constants.LdcW n) frame = tt
constant_meets (constants.Ldc2W n) frame = tt

-- ---- locals

load_meets : (instr : Instr) (o : Option Value) (frame : Frame) → goes_on instr ≡ true
    → Meets instr (load_effect o) frame
load_meets instr None frame on = tt
load_meets instr (Some v) frame on = on

store_meets : (instr : Instr) (index : ℕ) (o : Option Value) (frame : Frame) → goes_on instr ≡ true
    → Meets instr (store_effect index o) frame
store_meets instr index None frame on = tt
store_meets instr index (Some v) frame on = on

iinc_meets : (instr : Instr) (index : ℕ) (by : ℤ) (o : Option Value) (frame : Frame) → goes_on instr ≡ true
    → local_at frame.locals index ≡ o → Meets instr (iinc_effect index by (int_in o)) frame
iinc_meets instr index by None frame on is = tt
iinc_meets instr index by (Some (Int n)) frame on is = (on, in_list frame.locals index (Int n) is)
iinc_meets instr index by (Some (Long n)) frame on is = tt
iinc_meets instr index by (Some (Ref r)) frame on is = tt

pub local_meets : (l : Local) (frame : Frame) → Meets (instrs.Local l) (local_effect l frame.locals frame.stack) frame
local_meets (locals.Load word index) frame =
    load_meets (instrs.Local (locals.Load word index)) (of_type word (local_at frame.locals (index_of index))) frame
    refl
local_meets (locals.Store word index) frame =
    store_meets (instrs.Local (locals.Store word index)) (index_of index) (of_type word (top frame.stack)) frame refl
local_meets (locals.Iinc index by) frame =
    iinc_meets (instrs.Local (locals.Iinc index by)) index by (local_at frame.locals index) frame refl refl
local_meets (locals.IincWide index by) frame =
    iinc_meets (instrs.Local (locals.IincWide index by)) index by (local_at frame.locals index) frame refl refl
local_meets (locals.Ret index) frame = tt
local_meets (locals.RetWide index) frame = tt

-- ---- moves on the stack

at_most_two : (o : Operands) → length (values o) ≤ 2
at_most_two NoOperand = omega arith
at_most_two (OneOperand v) = omega arith
at_most_two (TwoOperands w v) = omega arith

one_size : (t : Option Value) (o : Operands) → one_word t ≡ Some o → length (values o) ≤ 1
one_size None o e = absurd cc
one_size (Some (Int n)) o e = subst (λ (p : Operands). length (values p) ≤ 1) (same_Some _ o e) (omega arith)
one_size (Some (Long n)) o e = absurd cc
one_size (Some (Ref r)) o e = subst (λ (p : Operands). length (values p) ≤ 1) (same_Some _ o e) (omega arith)

alone_size : (t : Option Value) (o : Operands) → two_words t None ≡ Some o → length (values o) ≤ 1
alone_size None o e = absurd cc
alone_size (Some (Int n)) o e = absurd cc
alone_size (Some (Long n)) o e = subst (λ (p : Operands). length (values p) ≤ 1) (same_Some _ o e) (omega arith)
alone_size (Some (Ref r)) o e = absurd cc

one_within : (s : List Value) (o : Operands) → one_word (top s) ≡ Some o → length (values o) ≤ length s
one_within [] o e = absurd cc
one_within (x ∷ xs) o e = omega (arith, one_size (top (x ∷ xs)) o e)

two_within : (s : List Value) (o : Operands) → two_words (top s) (second s) ≡ Some o → length (values o) ≤ length s
two_within [] o e = absurd cc
two_within (x ∷ []) o e = omega (arith, alone_size (Some x) o e)
two_within (x ∷ y ∷ ys) o e = omega (arith, at_most_two o)

-- the values that have so many words are on the stack
pub operands_within : (n : ℕ) (s : List Value) (o : Operands) → operands_of n s ≡ Some o → length (values o) ≤ length s
operands_within zero s o e = subst (λ (p : Operands). length (values p) ≤ length s) (same_Some NoOperand o e)
    (omega arith)
operands_within (suc zero) s o e = one_within s o e
operands_within (suc (suc n)) s o e = two_within s o e

module _ (m : StackMove) (frame : Frame) where
  dropped_meets : (o : Option Operands) → Meets (instrs.Stack m) (dropped o) frame
  dropped_meets None = tt
  dropped_meets (Some o) = refl

  copied_meets : (over : Operands) (under : Option Operands) → length (values over) ≤ length frame.stack
      → ((o : Operands) → under ≡ Some o → length (values o) ≤ length (without (length (values over)) frame.stack))
      → Meets (instrs.Stack m) (copied over under) frame
  copied_meets over None there within = tt
  copied_meets over (Some under) there within =
      let rest = length frame.stack - length (values over) in
      let size : length (without (length (values over)) frame.stack) ≡ rest =
      length-take-le rest frame.stack (omega arith) in
      (refl, omega (arith, within under refl, size, there))

  copied_under_meets : (n : ℕ) (over : Option Operands)
      → ((o : Operands) → over ≡ Some o → length (values o) ≤ length frame.stack)
      → Meets (instrs.Stack m) (copied_under n frame.stack over) frame
  copied_under_meets n None there = tt
  copied_under_meets n (Some over) there =
      let rest = without (length (values over)) frame.stack in
      copied_meets over (operands_of n rest) (there over refl) (operands_within n rest)

  copies_meets : (n k : ℕ) → Meets (instrs.Stack m) (copies n k frame.stack) frame
  copies_meets n k = copied_under_meets k (operands_of n frame.stack) (operands_within n frame.stack)

  swaps_meets : (o : Option Operands) → ((p : Operands) → o ≡ Some p → length (values p) ≤ length frame.stack)
      → Meets (instrs.Stack m) (swaps o) frame
  swaps_meets None there = tt
  swaps_meets (Some NoOperand) there = tt
  swaps_meets (Some (OneOperand v)) there = tt
  swaps_meets (Some (TwoOperands w v)) there = (refl, there (TwoOperands w v) refl)

pub stack_meets : (m : StackMove) (frame : Frame) → Meets (instrs.Stack m) (stack_effect m frame.stack) frame
stack_meets moves.Pop frame = dropped_meets moves.Pop frame (operands_of 1 frame.stack)
stack_meets moves.Pop2 frame = dropped_meets moves.Pop2 frame (operands_of 2 frame.stack)
stack_meets moves.Dup frame = copies_meets moves.Dup frame 1 0
stack_meets moves.DupX1 frame = copies_meets moves.DupX1 frame 1 1
stack_meets moves.DupX2 frame = copies_meets moves.DupX2 frame 1 2
stack_meets moves.Dup2 frame = copies_meets moves.Dup2 frame 2 0
stack_meets moves.Dup2X1 frame = copies_meets moves.Dup2X1 frame 2 1
stack_meets moves.Dup2X2 frame = copies_meets moves.Dup2X2 frame 2 2
stack_meets moves.Swap frame = swaps_meets moves.Swap frame (operands_of 2 frame.stack) (operands_within 2 frame.stack)

-- ---- jumps

module _ (j : Jump) (frame : Frame) where
  -- a jump that can go on goes to its target or on
  branch_meets : (taken target : ℕ) (test : Bool) → goes_on (instrs.Jump j) ≡ true
      → Contains (targets (instrs.Jump j)) target
      → Meets (instrs.Jump j) (branch taken target test) frame
  branch_meets taken target true on named = named
  branch_meets taken target false on named = on

first_named : (x : ℕ) (xs : List ℕ) → Contains (x ∷ xs) x
first_named x xs = at_contains (x ∷ xs) 0 x refl

zero_meets : (c : Condition) (target : ℕ) (frame : Frame) (o : Option ℤ)
    → Meets (instrs.Jump (jumps.IfZero c target)) (if_zero c target o) frame
zero_meets c target frame None = tt
zero_meets c target frame (Some a) = branch_meets (jumps.IfZero c target) frame 1 target _ refl (first_named target [])

ints_meet : (c : Condition) (target : ℕ) (frame : Frame) (o : Option (ℤ × ℤ))
    → Meets (instrs.Jump (jumps.IfInts c target)) (if_ints c target o) frame
ints_meet c target frame None = tt
ints_meet c target frame (Some (a, b)) = branch_meets (jumps.IfInts c target) frame 2 target _ refl
    (first_named target [])

references_meet : (e : Equality) (target : ℕ) (frame : Frame) (o : Option (Option ℕ × Option ℕ))
    → Meets (instrs.Jump (jumps.IfReferences e target)) (if_references e target o) frame
references_meet e target frame None = tt
references_meet e target frame (Some (a, b)) =
    branch_meets (jumps.IfReferences e target) frame 2 target _ refl (first_named target [])

null_meets : (e : Equality) (target : ℕ) (frame : Frame) (o : Option (Option ℕ))
    → Meets (instrs.Jump (jumps.IfNull e target)) (if_null e target o) frame
null_meets e target frame None = tt
null_meets e target frame (Some a) = branch_meets (jumps.IfNull e target) frame 1 target _ refl (first_named target [])

pub jump_meets : (j : Jump) (frame : Frame) → Meets (instrs.Jump j) (jump_effect j frame.stack) frame
jump_meets (jumps.IfZero c target) frame = zero_meets c target frame (int_in (top frame.stack))
jump_meets (jumps.IfInts c target) frame = ints_meet c target frame (two_ints frame.stack)
jump_meets (jumps.IfReferences e target) frame = references_meet e target frame (two_references frame.stack)
jump_meets (jumps.IfNull e target) frame = null_meets e target frame (reference_in (top frame.stack))
jump_meets (jumps.Goto target) frame = first_named target []
jump_meets (jumps.GotoW target) frame = first_named target []
jump_meets (jumps.Jsr target) frame = tt
jump_meets (jumps.JsrW target) frame = tt

-- ---- switches

-- a target that was found, or the default, is named
named_or : (default : ℕ) (all : List ℕ) (o : Option ℕ) → ((t : ℕ) → o ≡ Some t → Contains all t)
    → Contains (default ∷ all) (target_or default o)
named_or default all None found = first_named default all
named_or default all (Some t) found = Contains-append_right (default ∷ []) all t (found t refl)

target_named : (all : List ℕ) (z : ℤ) (t : ℕ) → target_at all z ≡ Some t → Contains all t
target_named all (pos i) t e = at_contains all i t e
target_named all (negsuc i) t e = absurd cc

case_if : (b : Bool) (key : ℤ) (c : Case) (cs : List Case) (t : ℕ)
    → ((u : ℕ) → case_target cs key ≡ Some u → Contains (map (λ (d : Case). d.target) cs) u)
    → option_map (λ (d : Case). d.target) (if b then Some c else find (λ d. int_eq d.key key) cs) ≡ Some t
    → Contains (map (λ (d : Case). d.target) (c ∷ cs)) t
case_if true key c cs t later e = at_contains (map (λ (d : Case). d.target) (c ∷ cs)) 0 t e
case_if false key c cs t later e =
    Contains-append_right (c.target ∷ []) (map (λ (d : Case). d.target) cs) t (later t e)

case_named : (cs : List Case) (key : ℤ) (t : ℕ) → case_target cs key ≡ Some t
    → Contains (map (λ (d : Case). d.target) cs) t
case_named [] key t e = absurd cc
case_named (c ∷ cs) key t e = case_if (int_eq c.key key) key c cs t (λ u. case_named cs key u) e

switch_meets : (instr : Instr) (target : ℤ → ℕ) (o : Option ℤ) (frame : Frame)
    → ((key : ℤ) → Contains (targets instr) (target key)) → Meets instr (switch_given target o) frame
switch_meets instr target None frame named = tt
switch_meets instr target (Some key) frame named = named key

pub table_meets : (s : TableSwitch) (frame : Frame) → Meets (instrs.Table s) (table_effect s frame.stack) frame
table_meets s frame =
    switch_meets (instrs.Table s) (table_target s) (int_in (top frame.stack)) frame
    (λ key. named_or s.default s.targets (target_at s.targets (key -ℤ s.low))
    (λ t. target_named s.targets (key -ℤ s.low) t))

pub lookup_meets : (s : LookupSwitch) (frame : Frame) → Meets (instrs.Lookup s) (lookup_effect s frame.stack) frame
lookup_meets s frame =
    switch_meets (instrs.Lookup s) (lookup_target s) (int_in (top frame.stack)) frame
    (λ key. named_or s.default (map (λ (d : Case). d.target) s.cases) (case_target s.cases key)
    (λ t. case_named s.cases key t))
