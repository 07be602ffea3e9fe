-- The instructions as the Specification spells them (JVM Specification SE 8, 6.5, and chapter 7: a mnemonic for each
-- opcode), a row each, at pc 0. 258 has the bytes 1 and 2.
use Rattle.std.proofs.Common.{◌≡◌, ℕ, pos, negsuc, List, [], ◌∷◌, map, refl}
use Rattle.cf_code.specs.Instr.{spelling}
use Rattle.cf_code.specs.declared.instr.Instr.{Instr}
use Rattle.cf_code.specs.declared.instr.Instr.TheVariants.{Nop, Constant, Local, Array, Stack, Number, Jump, Table}
use Rattle.cf_code.specs.declared.instr.Instr.TheVariants.{Lookup, Return, Field, Call, Object}
use Rattle.cf_code.specs.declared.constant.Constant.TheVariants as constant
use Rattle.cf_code.specs.declared.word.Word.TheVariants as word
use Rattle.cf_code.specs.declared.word.Returned.TheVariants as returned
use Rattle.cf_code.specs.declared.local.Local.TheVariants as local
use Rattle.cf_code.specs.declared.local.LocalIndex.TheVariants as index
use Rattle.cf_code.specs.declared.array.Array.TheVariants as array
use Rattle.cf_code.specs.declared.array.Element.TheVariants as element
use Rattle.cf_code.specs.declared.stack.StackMove.TheVariants as stack
use Rattle.cf_code.specs.declared.number.Number.TheVariants as number
use Rattle.cf_code.specs.declared.number.Num.TheVariants as num
use Rattle.cf_code.specs.declared.number.Whole.TheVariants as whole
use Rattle.cf_code.specs.declared.number.ArithOp.TheVariants as arith_op
use Rattle.cf_code.specs.declared.number.ShiftOp.TheVariants as shift
use Rattle.cf_code.specs.declared.number.BitOp.TheVariants as bit
use Rattle.cf_code.specs.declared.number.Conversion.TheVariants as conversion
use Rattle.cf_code.specs.declared.number.Comparison.TheVariants as comparison
use Rattle.cf_code.specs.declared.jump.Jump.TheVariants as jump
use Rattle.cf_code.specs.declared.jump.Condition.TheVariants as condition
use Rattle.cf_code.specs.declared.jump.Equality.TheVariants as equality
use Rattle.cf_code.specs.declared.field.FieldUse.TheVariants as access
use Rattle.cf_code.specs.declared.call.Call.TheVariants as call
use Rattle.cf_code.specs.declared.object.Object.TheVariants as object

-- an instruction and its bytes
abbrev Row : Type 0
Row = Instr × List ℕ

abbrev AreSpelled : List Row → Type 0
AreSpelled rows = map (λ r. spelling 0 r.0) rows ≡ map (λ r. r.1) rows

-- constants and loads
abbrev constants_and_loads : List Row
constants_and_loads =
    (Nop, 0 ∷ []) ∷  -- nop
    (Constant constant.Null, 1 ∷ []) ∷  -- aconst_null
    (Constant (constant.Iconst (negsuc 0)), 2 ∷ []) ∷  -- iconst_m1
    (Constant (constant.Iconst (pos 0)), 3 ∷ []) ∷  -- iconst_0
    (Constant (constant.Iconst (pos 1)), 4 ∷ []) ∷  -- iconst_1
    (Constant (constant.Iconst (pos 2)), 5 ∷ []) ∷  -- iconst_2
    (Constant (constant.Iconst (pos 3)), 6 ∷ []) ∷  -- iconst_3
    (Constant (constant.Iconst (pos 4)), 7 ∷ []) ∷  -- iconst_4
    (Constant (constant.Iconst (pos 5)), 8 ∷ []) ∷  -- iconst_5
    (Constant (constant.Lconst 0), 9 ∷ []) ∷  -- lconst_0
    (Constant (constant.Lconst 1), 10 ∷ []) ∷  -- lconst_1
    (Constant (constant.Fconst 0), 11 ∷ []) ∷  -- fconst_0
    (Constant (constant.Fconst 1), 12 ∷ []) ∷  -- fconst_1
    (Constant (constant.Fconst 2), 13 ∷ []) ∷  -- fconst_2
    (Constant (constant.Dconst 0), 14 ∷ []) ∷  -- dconst_0
    (Constant (constant.Dconst 1), 15 ∷ []) ∷  -- dconst_1
    (Constant (constant.Bipush (negsuc 1)), 16 ∷ 254 ∷ []) ∷  -- bipush
    (Constant (constant.Sipush (negsuc 1)), 17 ∷ 255 ∷ 254 ∷ []) ∷  -- sipush
    (Constant (constant.Ldc 7), 18 ∷ 7 ∷ []) ∷  -- ldc
    (Constant (constant.LdcW 258), 19 ∷ 1 ∷ 2 ∷ []) ∷  -- ldc_w
    (Constant (constant.Ldc2W 258), 20 ∷ 1 ∷ 2 ∷ []) ∷  -- ldc2_w
    (Local (local.Load word.Int (index.Byte 7)), 21 ∷ 7 ∷ []) ∷  -- iload
    (Local (local.Load word.Long (index.Byte 7)), 22 ∷ 7 ∷ []) ∷  -- lload
    (Local (local.Load word.Float (index.Byte 7)), 23 ∷ 7 ∷ []) ∷  -- fload
    (Local (local.Load word.Double (index.Byte 7)), 24 ∷ 7 ∷ []) ∷  -- dload
    (Local (local.Load word.Reference (index.Byte 7)), 25 ∷ 7 ∷ []) ∷  -- aload
    (Local (local.Load word.Int (index.Short 0)), 26 ∷ []) ∷  -- iload_0
    (Local (local.Load word.Int (index.Short 1)), 27 ∷ []) ∷  -- iload_1
    (Local (local.Load word.Int (index.Short 2)), 28 ∷ []) ∷  -- iload_2
    (Local (local.Load word.Int (index.Short 3)), 29 ∷ []) ∷  -- iload_3
    (Local (local.Load word.Long (index.Short 0)), 30 ∷ []) ∷  -- lload_0
    (Local (local.Load word.Long (index.Short 1)), 31 ∷ []) ∷  -- lload_1
    (Local (local.Load word.Long (index.Short 2)), 32 ∷ []) ∷  -- lload_2
    (Local (local.Load word.Long (index.Short 3)), 33 ∷ []) ∷  -- lload_3
    (Local (local.Load word.Float (index.Short 0)), 34 ∷ []) ∷  -- fload_0
    (Local (local.Load word.Float (index.Short 1)), 35 ∷ []) ∷  -- fload_1
    (Local (local.Load word.Float (index.Short 2)), 36 ∷ []) ∷  -- fload_2
    (Local (local.Load word.Float (index.Short 3)), 37 ∷ []) ∷  -- fload_3
    (Local (local.Load word.Double (index.Short 0)), 38 ∷ []) ∷  -- dload_0
    (Local (local.Load word.Double (index.Short 1)), 39 ∷ []) ∷  -- dload_1
    (Local (local.Load word.Double (index.Short 2)), 40 ∷ []) ∷  -- dload_2
    (Local (local.Load word.Double (index.Short 3)), 41 ∷ []) ∷  -- dload_3
    (Local (local.Load word.Reference (index.Short 0)), 42 ∷ []) ∷  -- aload_0
    (Local (local.Load word.Reference (index.Short 1)), 43 ∷ []) ∷  -- aload_1
    (Local (local.Load word.Reference (index.Short 2)), 44 ∷ []) ∷  -- aload_2
    (Local (local.Load word.Reference (index.Short 3)), 45 ∷ []) ∷  -- aload_3
    (Array (array.Load element.Int), 46 ∷ []) ∷  -- iaload
    (Array (array.Load element.Long), 47 ∷ []) ∷  -- laload
    (Array (array.Load element.Float), 48 ∷ []) ∷  -- faload
    (Array (array.Load element.Double), 49 ∷ []) ∷  -- daload
    (Array (array.Load element.Reference), 50 ∷ []) ∷  -- aaload
    (Array (array.Load element.Byte), 51 ∷ []) ∷  -- baload
    (Array (array.Load element.Char), 52 ∷ []) ∷  -- caload
    (Array (array.Load element.Short), 53 ∷ []) ∷  -- saload
    []

constants_and_loads_are : AreSpelled constants_and_loads
constants_and_loads_are = refl

-- stores, and the operand stack
abbrev stores_and_moves : List Row
stores_and_moves =
    (Local (local.Store word.Int (index.Byte 7)), 54 ∷ 7 ∷ []) ∷  -- istore
    (Local (local.Store word.Long (index.Byte 7)), 55 ∷ 7 ∷ []) ∷  -- lstore
    (Local (local.Store word.Float (index.Byte 7)), 56 ∷ 7 ∷ []) ∷  -- fstore
    (Local (local.Store word.Double (index.Byte 7)), 57 ∷ 7 ∷ []) ∷  -- dstore
    (Local (local.Store word.Reference (index.Byte 7)), 58 ∷ 7 ∷ []) ∷  -- astore
    (Local (local.Store word.Int (index.Short 0)), 59 ∷ []) ∷  -- istore_0
    (Local (local.Store word.Int (index.Short 1)), 60 ∷ []) ∷  -- istore_1
    (Local (local.Store word.Int (index.Short 2)), 61 ∷ []) ∷  -- istore_2
    (Local (local.Store word.Int (index.Short 3)), 62 ∷ []) ∷  -- istore_3
    (Local (local.Store word.Long (index.Short 0)), 63 ∷ []) ∷  -- lstore_0
    (Local (local.Store word.Long (index.Short 1)), 64 ∷ []) ∷  -- lstore_1
    (Local (local.Store word.Long (index.Short 2)), 65 ∷ []) ∷  -- lstore_2
    (Local (local.Store word.Long (index.Short 3)), 66 ∷ []) ∷  -- lstore_3
    (Local (local.Store word.Float (index.Short 0)), 67 ∷ []) ∷  -- fstore_0
    (Local (local.Store word.Float (index.Short 1)), 68 ∷ []) ∷  -- fstore_1
    (Local (local.Store word.Float (index.Short 2)), 69 ∷ []) ∷  -- fstore_2
    (Local (local.Store word.Float (index.Short 3)), 70 ∷ []) ∷  -- fstore_3
    (Local (local.Store word.Double (index.Short 0)), 71 ∷ []) ∷  -- dstore_0
    (Local (local.Store word.Double (index.Short 1)), 72 ∷ []) ∷  -- dstore_1
    (Local (local.Store word.Double (index.Short 2)), 73 ∷ []) ∷  -- dstore_2
    (Local (local.Store word.Double (index.Short 3)), 74 ∷ []) ∷  -- dstore_3
    (Local (local.Store word.Reference (index.Short 0)), 75 ∷ []) ∷  -- astore_0
    (Local (local.Store word.Reference (index.Short 1)), 76 ∷ []) ∷  -- astore_1
    (Local (local.Store word.Reference (index.Short 2)), 77 ∷ []) ∷  -- astore_2
    (Local (local.Store word.Reference (index.Short 3)), 78 ∷ []) ∷  -- astore_3
    (Array (array.Store element.Int), 79 ∷ []) ∷  -- iastore
    (Array (array.Store element.Long), 80 ∷ []) ∷  -- lastore
    (Array (array.Store element.Float), 81 ∷ []) ∷  -- fastore
    (Array (array.Store element.Double), 82 ∷ []) ∷  -- dastore
    (Array (array.Store element.Reference), 83 ∷ []) ∷  -- aastore
    (Array (array.Store element.Byte), 84 ∷ []) ∷  -- bastore
    (Array (array.Store element.Char), 85 ∷ []) ∷  -- castore
    (Array (array.Store element.Short), 86 ∷ []) ∷  -- sastore
    (Stack stack.Pop, 87 ∷ []) ∷  -- pop
    (Stack stack.Pop2, 88 ∷ []) ∷  -- pop2
    (Stack stack.Dup, 89 ∷ []) ∷  -- dup
    (Stack stack.DupX1, 90 ∷ []) ∷  -- dup_x1
    (Stack stack.DupX2, 91 ∷ []) ∷  -- dup_x2
    (Stack stack.Dup2, 92 ∷ []) ∷  -- dup2
    (Stack stack.Dup2X1, 93 ∷ []) ∷  -- dup2_x1
    (Stack stack.Dup2X2, 94 ∷ []) ∷  -- dup2_x2
    (Stack stack.Swap, 95 ∷ []) ∷  -- swap
    []

stores_and_moves_are : AreSpelled stores_and_moves
stores_and_moves_are = refl

-- math, conversions and comparisons
abbrev numbers : List Row
numbers =
    (Number (number.Arith arith_op.Add num.Int), 96 ∷ []) ∷  -- iadd
    (Number (number.Arith arith_op.Add num.Long), 97 ∷ []) ∷  -- ladd
    (Number (number.Arith arith_op.Add num.Float), 98 ∷ []) ∷  -- fadd
    (Number (number.Arith arith_op.Add num.Double), 99 ∷ []) ∷  -- dadd
    (Number (number.Arith arith_op.Sub num.Int), 100 ∷ []) ∷  -- isub
    (Number (number.Arith arith_op.Sub num.Long), 101 ∷ []) ∷  -- lsub
    (Number (number.Arith arith_op.Sub num.Float), 102 ∷ []) ∷  -- fsub
    (Number (number.Arith arith_op.Sub num.Double), 103 ∷ []) ∷  -- dsub
    (Number (number.Arith arith_op.Mul num.Int), 104 ∷ []) ∷  -- imul
    (Number (number.Arith arith_op.Mul num.Long), 105 ∷ []) ∷  -- lmul
    (Number (number.Arith arith_op.Mul num.Float), 106 ∷ []) ∷  -- fmul
    (Number (number.Arith arith_op.Mul num.Double), 107 ∷ []) ∷  -- dmul
    (Number (number.Arith arith_op.Div num.Int), 108 ∷ []) ∷  -- idiv
    (Number (number.Arith arith_op.Div num.Long), 109 ∷ []) ∷  -- ldiv
    (Number (number.Arith arith_op.Div num.Float), 110 ∷ []) ∷  -- fdiv
    (Number (number.Arith arith_op.Div num.Double), 111 ∷ []) ∷  -- ddiv
    (Number (number.Arith arith_op.Rem num.Int), 112 ∷ []) ∷  -- irem
    (Number (number.Arith arith_op.Rem num.Long), 113 ∷ []) ∷  -- lrem
    (Number (number.Arith arith_op.Rem num.Float), 114 ∷ []) ∷  -- frem
    (Number (number.Arith arith_op.Rem num.Double), 115 ∷ []) ∷  -- drem
    (Number (number.Arith arith_op.Neg num.Int), 116 ∷ []) ∷  -- ineg
    (Number (number.Arith arith_op.Neg num.Long), 117 ∷ []) ∷  -- lneg
    (Number (number.Arith arith_op.Neg num.Float), 118 ∷ []) ∷  -- fneg
    (Number (number.Arith arith_op.Neg num.Double), 119 ∷ []) ∷  -- dneg
    (Number (number.Shift shift.Left whole.WholeInt), 120 ∷ []) ∷  -- ishl
    (Number (number.Shift shift.Left whole.WholeLong), 121 ∷ []) ∷  -- lshl
    (Number (number.Shift shift.Right whole.WholeInt), 122 ∷ []) ∷  -- ishr
    (Number (number.Shift shift.Right whole.WholeLong), 123 ∷ []) ∷  -- lshr
    (Number (number.Shift shift.RightUnsigned whole.WholeInt), 124 ∷ []) ∷  -- iushr
    (Number (number.Shift shift.RightUnsigned whole.WholeLong), 125 ∷ []) ∷  -- lushr
    (Number (number.Bitwise bit.And whole.WholeInt), 126 ∷ []) ∷  -- iand
    (Number (number.Bitwise bit.And whole.WholeLong), 127 ∷ []) ∷  -- land
    (Number (number.Bitwise bit.Or whole.WholeInt), 128 ∷ []) ∷  -- ior
    (Number (number.Bitwise bit.Or whole.WholeLong), 129 ∷ []) ∷  -- lor
    (Number (number.Bitwise bit.Xor whole.WholeInt), 130 ∷ []) ∷  -- ixor
    (Number (number.Bitwise bit.Xor whole.WholeLong), 131 ∷ []) ∷  -- lxor
    (Local (local.Iinc 7 (negsuc 1)), 132 ∷ 7 ∷ 254 ∷ []) ∷  -- iinc
    (Number (number.Convert conversion.IntToLong), 133 ∷ []) ∷  -- i2l
    (Number (number.Convert conversion.IntToFloat), 134 ∷ []) ∷  -- i2f
    (Number (number.Convert conversion.IntToDouble), 135 ∷ []) ∷  -- i2d
    (Number (number.Convert conversion.LongToInt), 136 ∷ []) ∷  -- l2i
    (Number (number.Convert conversion.LongToFloat), 137 ∷ []) ∷  -- l2f
    (Number (number.Convert conversion.LongToDouble), 138 ∷ []) ∷  -- l2d
    (Number (number.Convert conversion.FloatToInt), 139 ∷ []) ∷  -- f2i
    (Number (number.Convert conversion.FloatToLong), 140 ∷ []) ∷  -- f2l
    (Number (number.Convert conversion.FloatToDouble), 141 ∷ []) ∷  -- f2d
    (Number (number.Convert conversion.DoubleToInt), 142 ∷ []) ∷  -- d2i
    (Number (number.Convert conversion.DoubleToLong), 143 ∷ []) ∷  -- d2l
    (Number (number.Convert conversion.DoubleToFloat), 144 ∷ []) ∷  -- d2f
    (Number (number.Convert conversion.IntToByte), 145 ∷ []) ∷  -- i2b
    (Number (number.Convert conversion.IntToChar), 146 ∷ []) ∷  -- i2c
    (Number (number.Convert conversion.IntToShort), 147 ∷ []) ∷  -- i2s
    (Number (number.Compare comparison.CompareLong), 148 ∷ []) ∷  -- lcmp
    (Number (number.Compare comparison.CompareFloatLess), 149 ∷ []) ∷  -- fcmpl
    (Number (number.Compare comparison.CompareFloatGreater), 150 ∷ []) ∷  -- fcmpg
    (Number (number.Compare comparison.CompareDoubleLess), 151 ∷ []) ∷  -- dcmpl
    (Number (number.Compare comparison.CompareDoubleGreater), 152 ∷ []) ∷  -- dcmpg
    (Jump (jump.IfZero condition.Equal 258), 153 ∷ 1 ∷ 2 ∷ []) ∷  -- ifeq
    (Jump (jump.IfZero condition.NotEqual 258), 154 ∷ 1 ∷ 2 ∷ []) ∷  -- ifne
    (Jump (jump.IfZero condition.Less 258), 155 ∷ 1 ∷ 2 ∷ []) ∷  -- iflt
    (Jump (jump.IfZero condition.AtLeast 258), 156 ∷ 1 ∷ 2 ∷ []) ∷  -- ifge
    (Jump (jump.IfZero condition.Greater 258), 157 ∷ 1 ∷ 2 ∷ []) ∷  -- ifgt
    (Jump (jump.IfZero condition.AtMost 258), 158 ∷ 1 ∷ 2 ∷ []) ∷  -- ifle
    (Jump (jump.IfInts condition.Equal 258), 159 ∷ 1 ∷ 2 ∷ []) ∷  -- if_icmpeq
    (Jump (jump.IfInts condition.NotEqual 258), 160 ∷ 1 ∷ 2 ∷ []) ∷  -- if_icmpne
    (Jump (jump.IfInts condition.Less 258), 161 ∷ 1 ∷ 2 ∷ []) ∷  -- if_icmplt
    (Jump (jump.IfInts condition.AtLeast 258), 162 ∷ 1 ∷ 2 ∷ []) ∷  -- if_icmpge
    (Jump (jump.IfInts condition.Greater 258), 163 ∷ 1 ∷ 2 ∷ []) ∷  -- if_icmpgt
    (Jump (jump.IfInts condition.AtMost 258), 164 ∷ 1 ∷ 2 ∷ []) ∷  -- if_icmple
    (Jump (jump.IfReferences equality.Same 258), 165 ∷ 1 ∷ 2 ∷ []) ∷  -- if_acmpeq
    (Jump (jump.IfReferences equality.Other 258), 166 ∷ 1 ∷ 2 ∷ []) ∷  -- if_acmpne
    []

numbers_are : AreSpelled numbers
numbers_are = refl

-- control, where the switches have three bytes of padding here, and references
abbrev control_and_references : List Row
control_and_references =
    (Jump (jump.Goto 258), 167 ∷ 1 ∷ 2 ∷ []) ∷  -- goto
    (Jump (jump.Jsr 258), 168 ∷ 1 ∷ 2 ∷ []) ∷  -- jsr
    (Local (local.Ret 7), 169 ∷ 7 ∷ []) ∷  -- ret
    (
      Table (record { padding = 0 ∷ 0 ∷ 0 ∷ []; default = 3; low = negsuc 0; targets = 4 ∷ [] }),
      170 ∷ 0 ∷ 0 ∷ 0 ∷ 0 ∷ 0 ∷ 0 ∷ 3 ∷ 255 ∷ 255 ∷ 255 ∷ 255 ∷ 255 ∷ 255 ∷ 255 ∷ 255 ∷ 0 ∷ 0 ∷ 0 ∷ 4 ∷ [],
    ) ∷  -- tableswitch
    (
      Lookup (record { padding = 0 ∷ 0 ∷ 0 ∷ []; default = 3; cases = record { key = negsuc 0; target = 4 } ∷ [] }),
      171 ∷ 0 ∷ 0 ∷ 0 ∷ 0 ∷ 0 ∷ 0 ∷ 3 ∷ 0 ∷ 0 ∷ 0 ∷ 1 ∷ 255 ∷ 255 ∷ 255 ∷ 255 ∷ 0 ∷ 0 ∷ 0 ∷ 4 ∷ [],
    ) ∷  -- lookupswitch
    (Return (returned.Value word.Int), 172 ∷ []) ∷  -- ireturn
    (Return (returned.Value word.Long), 173 ∷ []) ∷  -- lreturn
    (Return (returned.Value word.Float), 174 ∷ []) ∷  -- freturn
    (Return (returned.Value word.Double), 175 ∷ []) ∷  -- dreturn
    (Return (returned.Value word.Reference), 176 ∷ []) ∷  -- areturn
    (Return returned.Nothing, 177 ∷ []) ∷  -- return
    (Field (record { access = access.GetStatic; index = 258 }), 178 ∷ 1 ∷ 2 ∷ []) ∷  -- getstatic
    (Field (record { access = access.PutStatic; index = 258 }), 179 ∷ 1 ∷ 2 ∷ []) ∷  -- putstatic
    (Field (record { access = access.Get; index = 258 }), 180 ∷ 1 ∷ 2 ∷ []) ∷  -- getfield
    (Field (record { access = access.Put; index = 258 }), 181 ∷ 1 ∷ 2 ∷ []) ∷  -- putfield
    (Call (call.Virtual 258), 182 ∷ 1 ∷ 2 ∷ []) ∷  -- invokevirtual
    (Call (call.Special 258), 183 ∷ 1 ∷ 2 ∷ []) ∷  -- invokespecial
    (Call (call.Static 258), 184 ∷ 1 ∷ 2 ∷ []) ∷  -- invokestatic
    (Call (call.Interface 258 3 0), 185 ∷ 1 ∷ 2 ∷ 3 ∷ 0 ∷ []) ∷  -- invokeinterface
    (Call (call.Dynamic 258 0), 186 ∷ 1 ∷ 2 ∷ 0 ∷ 0 ∷ []) ∷  -- invokedynamic
    (Object (object.New 258), 187 ∷ 1 ∷ 2 ∷ []) ∷  -- new
    (Array (array.New 10), 188 ∷ 10 ∷ []) ∷  -- newarray
    (Array (array.NewOf 258), 189 ∷ 1 ∷ 2 ∷ []) ∷  -- anewarray
    (Array array.Length, 190 ∷ []) ∷  -- arraylength
    (Object object.Throw, 191 ∷ []) ∷  -- athrow
    (Object (object.CheckCast 258), 192 ∷ 1 ∷ 2 ∷ []) ∷  -- checkcast
    (Object (object.InstanceOf 258), 193 ∷ 1 ∷ 2 ∷ []) ∷  -- instanceof
    (Object object.MonitorEnter, 194 ∷ []) ∷  -- monitorenter
    (Object object.MonitorExit, 195 ∷ []) ∷  -- monitorexit
    []

control_and_references_are : AreSpelled control_and_references
control_and_references_are = refl

-- extended: the forms behind wide, and those that have wide offsets
abbrev extended : List Row
extended =
    (Local (local.Load word.Int (index.Wide 258)), 196 ∷ 21 ∷ 1 ∷ 2 ∷ []) ∷  -- wide iload
    (Local (local.Load word.Long (index.Wide 258)), 196 ∷ 22 ∷ 1 ∷ 2 ∷ []) ∷  -- wide lload
    (Local (local.Load word.Float (index.Wide 258)), 196 ∷ 23 ∷ 1 ∷ 2 ∷ []) ∷  -- wide fload
    (Local (local.Load word.Double (index.Wide 258)), 196 ∷ 24 ∷ 1 ∷ 2 ∷ []) ∷  -- wide dload
    (Local (local.Load word.Reference (index.Wide 258)), 196 ∷ 25 ∷ 1 ∷ 2 ∷ []) ∷  -- wide aload
    (Local (local.Store word.Int (index.Wide 258)), 196 ∷ 54 ∷ 1 ∷ 2 ∷ []) ∷  -- wide istore
    (Local (local.Store word.Long (index.Wide 258)), 196 ∷ 55 ∷ 1 ∷ 2 ∷ []) ∷  -- wide lstore
    (Local (local.Store word.Float (index.Wide 258)), 196 ∷ 56 ∷ 1 ∷ 2 ∷ []) ∷  -- wide fstore
    (Local (local.Store word.Double (index.Wide 258)), 196 ∷ 57 ∷ 1 ∷ 2 ∷ []) ∷  -- wide dstore
    (Local (local.Store word.Reference (index.Wide 258)), 196 ∷ 58 ∷ 1 ∷ 2 ∷ []) ∷  -- wide astore
    (Local (local.IincWide 258 (negsuc 1)), 196 ∷ 132 ∷ 1 ∷ 2 ∷ 255 ∷ 254 ∷ []) ∷  -- wide iinc
    (Local (local.RetWide 258), 196 ∷ 169 ∷ 1 ∷ 2 ∷ []) ∷  -- wide ret
    (Array (array.NewMany 258 3), 197 ∷ 1 ∷ 2 ∷ 3 ∷ []) ∷  -- multianewarray
    (Jump (jump.IfNull equality.Same 258), 198 ∷ 1 ∷ 2 ∷ []) ∷  -- ifnull
    (Jump (jump.IfNull equality.Other 258), 199 ∷ 1 ∷ 2 ∷ []) ∷  -- ifnonnull
    (Jump (jump.GotoW 258), 200 ∷ 0 ∷ 0 ∷ 1 ∷ 2 ∷ []) ∷  -- goto_w
    (Jump (jump.JsrW 258), 201 ∷ 0 ∷ 0 ∷ 1 ∷ 2 ∷ []) ∷  -- jsr_w
    []

extended_are : AreSpelled extended
extended_are = refl
