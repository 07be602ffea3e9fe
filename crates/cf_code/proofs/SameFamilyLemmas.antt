-- Values that `==` finds equal are the same: the instructions that are not on numbers.
use Rattle.std.proofs.Common.{ℕ, ap, refl}
use Rattle.std.proofs.lemmas.Bool.{false≢true}
use Rattle.cf_code.specs.declared.array.Element.{Element}
use Rattle.cf_code.specs.declared.array.Element.TheVariants as element
use Rattle.cf_code.specs.contracts.array.ElementPartialEq.TheImpl as element_eq
use Rattle.cf_code.specs.declared.array.Array.{Array}
use Rattle.cf_code.specs.declared.array.Array.TheVariants as array
use Rattle.cf_code.specs.contracts.array.ArrayPartialEq.TheImpl as array_eq
use Rattle.cf_code.specs.declared.call.Call.{Call}
use Rattle.cf_code.specs.declared.call.Call.TheVariants as call
use Rattle.cf_code.specs.contracts.call.CallPartialEq.TheImpl as call_eq
use Rattle.cf_code.specs.declared.constant.Constant.{Constant}
use Rattle.cf_code.specs.declared.constant.Constant.TheVariants as constant
use Rattle.cf_code.specs.contracts.constant.ConstantPartialEq.TheImpl as constant_eq
use Rattle.cf_code.specs.declared.field.FieldUse.{FieldUse}
use Rattle.cf_code.specs.declared.field.FieldUse.TheVariants as field_use
use Rattle.cf_code.specs.contracts.field.FieldUsePartialEq.TheImpl as field_use_eq
use Rattle.cf_code.specs.declared.jump.Condition.{Condition}
use Rattle.cf_code.specs.declared.jump.Condition.TheVariants as condition
use Rattle.cf_code.specs.contracts.jump.ConditionPartialEq.TheImpl as condition_eq
use Rattle.cf_code.specs.declared.jump.Equality.{Equality}
use Rattle.cf_code.specs.declared.jump.Equality.TheVariants as equality
use Rattle.cf_code.specs.contracts.jump.EqualityPartialEq.TheImpl as equality_eq
use Rattle.cf_code.specs.declared.jump.Jump.{Jump}
use Rattle.cf_code.specs.declared.jump.Jump.TheVariants as jump
use Rattle.cf_code.specs.contracts.jump.JumpPartialEq.TheImpl as jump_eq
use Rattle.cf_code.specs.declared.word.Word.{Word}
use Rattle.cf_code.specs.declared.word.Word.TheVariants as word
use Rattle.cf_code.specs.contracts.word.WordPartialEq.TheImpl as word_eq
use Rattle.cf_code.specs.declared.word.Returned.{Returned}
use Rattle.cf_code.specs.declared.word.Returned.TheVariants as returned
use Rattle.cf_code.specs.contracts.word.ReturnedPartialEq.TheImpl as returned_eq
use Rattle.cf_code.specs.declared.local.LocalIndex.{LocalIndex}
use Rattle.cf_code.specs.declared.local.LocalIndex.TheVariants as local_index
use Rattle.cf_code.specs.contracts.local.LocalIndexPartialEq.TheImpl as local_index_eq
use Rattle.cf_code.specs.declared.local.Local.{Local}
use Rattle.cf_code.specs.declared.local.Local.TheVariants as local
use Rattle.cf_code.specs.contracts.local.LocalPartialEq.TheImpl as local_eq
use Rattle.cf_code.specs.declared.object.Object.{Object}
use Rattle.cf_code.specs.declared.object.Object.TheVariants as object
use Rattle.cf_code.specs.contracts.object.ObjectPartialEq.TheImpl as object_eq
use Rattle.cf_code.specs.declared.stack.StackMove.{StackMove}
use Rattle.cf_code.specs.declared.stack.StackMove.TheVariants as stack_move
use Rattle.cf_code.specs.contracts.stack.StackMovePartialEq.TheImpl as stack_move_eq
use Rattle.cf_code.specs.declared.field.Field.{Field}
use Rattle.cf_code.specs.contracts.field.FieldPartialEq.TheImpl as field_eq
use Rattle.cf_code.proofs.SameLemmas.{Same, same_numbers, same_ints, same_two, same_three}

pub same_element : Same Element (element_eq.ghosts).eq
same_element element.Int element.Int e = refl
same_element element.Long element.Long e = refl
same_element element.Float element.Float e = refl
same_element element.Double element.Double e = refl
same_element element.Reference element.Reference e = refl
same_element element.Byte element.Byte e = refl
same_element element.Char element.Char e = refl
same_element element.Short element.Short e = refl
same_element x y e = absurd (false≢true e)

pub same_array : Same Array (array_eq.ghosts).eq
same_array (array.Load x) (array.Load y) e = ap array.Load (same_element x y e)
same_array (array.Store x) (array.Store y) e = ap array.Store (same_element x y e)
same_array (array.New x) (array.New y) e = ap array.New (same_numbers x y e)
same_array (array.NewOf x) (array.NewOf y) e = ap array.NewOf (same_numbers x y e)
same_array (array.NewMany x p) (array.NewMany y q) e = same_two array.NewMany same_numbers same_numbers x y p q e
same_array array.Length array.Length e = refl
same_array x y e = absurd (false≢true e)

pub same_call : Same Call (call_eq.ghosts).eq
same_call (call.Virtual x) (call.Virtual y) e = ap call.Virtual (same_numbers x y e)
same_call (call.Special x) (call.Special y) e = ap call.Special (same_numbers x y e)
same_call (call.Static x) (call.Static y) e = ap call.Static (same_numbers x y e)
same_call (call.Interface x p u) (call.Interface y q v) e =
    same_three call.Interface same_numbers same_numbers same_numbers x y p q u v e
same_call (call.Dynamic x p) (call.Dynamic y q) e = same_two call.Dynamic same_numbers same_numbers x y p q e
same_call x y e = absurd (false≢true e)

pub same_constant : Same Constant (constant_eq.ghosts).eq
same_constant constant.Null constant.Null e = refl
same_constant (constant.Iconst x) (constant.Iconst y) e = ap constant.Iconst (same_ints x y e)
same_constant (constant.Lconst x) (constant.Lconst y) e = ap constant.Lconst (same_numbers x y e)
same_constant (constant.Fconst x) (constant.Fconst y) e = ap constant.Fconst (same_numbers x y e)
same_constant (constant.Dconst x) (constant.Dconst y) e = ap constant.Dconst (same_numbers x y e)
same_constant (constant.Bipush x) (constant.Bipush y) e = ap constant.Bipush (same_ints x y e)
same_constant (constant.Sipush x) (constant.Sipush y) e = ap constant.Sipush (same_ints x y e)
same_constant (constant.Ldc x) (constant.Ldc y) e = ap constant.Ldc (same_numbers x y e)
same_constant (constant.LdcW x) (constant.LdcW y) e = ap constant.LdcW (same_numbers x y e)
same_constant (constant.Ldc2W x) (constant.Ldc2W y) e = ap constant.Ldc2W (same_numbers x y e)
same_constant x y e = absurd (false≢true e)

pub same_field_use : Same FieldUse (field_use_eq.ghosts).eq
same_field_use field_use.GetStatic field_use.GetStatic e = refl
same_field_use field_use.PutStatic field_use.PutStatic e = refl
same_field_use field_use.Get field_use.Get e = refl
same_field_use field_use.Put field_use.Put e = refl
same_field_use x y e = absurd (false≢true e)

pub same_condition : Same Condition (condition_eq.ghosts).eq
same_condition condition.Equal condition.Equal e = refl
same_condition condition.NotEqual condition.NotEqual e = refl
same_condition condition.Less condition.Less e = refl
same_condition condition.AtLeast condition.AtLeast e = refl
same_condition condition.Greater condition.Greater e = refl
same_condition condition.AtMost condition.AtMost e = refl
same_condition x y e = absurd (false≢true e)

pub same_equality : Same Equality (equality_eq.ghosts).eq
same_equality equality.Same equality.Same e = refl
same_equality equality.Other equality.Other e = refl
same_equality x y e = absurd (false≢true e)

pub same_jump : Same Jump (jump_eq.ghosts).eq
same_jump (jump.IfZero x p) (jump.IfZero y q) e = same_two jump.IfZero same_condition same_numbers x y p q e
same_jump (jump.IfInts x p) (jump.IfInts y q) e = same_two jump.IfInts same_condition same_numbers x y p q e
same_jump (jump.IfReferences x p) (jump.IfReferences y q) e = same_two jump.IfReferences same_equality same_numbers x
    y p q e
same_jump (jump.IfNull x p) (jump.IfNull y q) e = same_two jump.IfNull same_equality same_numbers x y p q e
same_jump (jump.Goto x) (jump.Goto y) e = ap jump.Goto (same_numbers x y e)
same_jump (jump.GotoW x) (jump.GotoW y) e = ap jump.GotoW (same_numbers x y e)
same_jump (jump.Jsr x) (jump.Jsr y) e = ap jump.Jsr (same_numbers x y e)
same_jump (jump.JsrW x) (jump.JsrW y) e = ap jump.JsrW (same_numbers x y e)
same_jump x y e = absurd (false≢true e)

pub same_word : Same Word (word_eq.ghosts).eq
same_word word.Int word.Int e = refl
same_word word.Long word.Long e = refl
same_word word.Float word.Float e = refl
same_word word.Double word.Double e = refl
same_word word.Reference word.Reference e = refl
same_word x y e = absurd (false≢true e)

pub same_returned : Same Returned (returned_eq.ghosts).eq
same_returned returned.Nothing returned.Nothing e = refl
same_returned (returned.Value x) (returned.Value y) e = ap returned.Value (same_word x y e)
same_returned x y e = absurd (false≢true e)

pub same_local_index : Same LocalIndex (local_index_eq.ghosts).eq
same_local_index (local_index.Short x) (local_index.Short y) e = ap local_index.Short (same_numbers x y e)
same_local_index (local_index.Byte x) (local_index.Byte y) e = ap local_index.Byte (same_numbers x y e)
same_local_index (local_index.Wide x) (local_index.Wide y) e = ap local_index.Wide (same_numbers x y e)
same_local_index x y e = absurd (false≢true e)

pub same_local : Same Local (local_eq.ghosts).eq
same_local (local.Load x p) (local.Load y q) e = same_two local.Load same_word same_local_index x y p q e
same_local (local.Store x p) (local.Store y q) e = same_two local.Store same_word same_local_index x y p q e
same_local (local.Iinc x p) (local.Iinc y q) e = same_two local.Iinc same_numbers same_ints x y p q e
same_local (local.IincWide x p) (local.IincWide y q) e = same_two local.IincWide same_numbers same_ints x y p q e
same_local (local.Ret x) (local.Ret y) e = ap local.Ret (same_numbers x y e)
same_local (local.RetWide x) (local.RetWide y) e = ap local.RetWide (same_numbers x y e)
same_local x y e = absurd (false≢true e)

pub same_object : Same Object (object_eq.ghosts).eq
same_object (object.New x) (object.New y) e = ap object.New (same_numbers x y e)
same_object object.Throw object.Throw e = refl
same_object (object.CheckCast x) (object.CheckCast y) e = ap object.CheckCast (same_numbers x y e)
same_object (object.InstanceOf x) (object.InstanceOf y) e = ap object.InstanceOf (same_numbers x y e)
same_object object.MonitorEnter object.MonitorEnter e = refl
same_object object.MonitorExit object.MonitorExit e = refl
same_object x y e = absurd (false≢true e)

pub same_stack_move : Same StackMove (stack_move_eq.ghosts).eq
same_stack_move stack_move.Pop stack_move.Pop e = refl
same_stack_move stack_move.Pop2 stack_move.Pop2 e = refl
same_stack_move stack_move.Dup stack_move.Dup e = refl
same_stack_move stack_move.DupX1 stack_move.DupX1 e = refl
same_stack_move stack_move.DupX2 stack_move.DupX2 e = refl
same_stack_move stack_move.Dup2 stack_move.Dup2 e = refl
same_stack_move stack_move.Dup2X1 stack_move.Dup2X1 e = refl
same_stack_move stack_move.Dup2X2 stack_move.Dup2X2 e = refl
same_stack_move stack_move.Swap stack_move.Swap e = refl
same_stack_move x y e = absurd (false≢true e)

abbrev field_of : FieldUse → ℕ → Field
field_of access index = record { access = access; index = index }

pub same_field : Same Field (field_eq.ghosts).eq
same_field x y e = same_two field_of same_field_use same_numbers x.access y.access x.index y.index e
