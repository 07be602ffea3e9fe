-- Which arguments of an input are ints.
use Rattle.std.specs.Prelude.{ℤ, IsSome, Option, Some, None}
use Rattle.jv_base.specs.declared.input.Tree.{Tree, out-Tree}
use Rattle.jv_base.specs.declared.input.Tree.TheOpen.{Tree-F}
use Rattle.jv_base.specs.declared.input.Part.{Part}

-- the int of one level of a tree that is one
abbrev pub int_level : Tree-F Tree Part → Option ℤ
int_level (Tree-F.Int n) = Some n
int_level level = None

-- the int of an argument that is one
abbrev pub int_of : Tree → Option ℤ
int_of tree = int_level (out-Tree tree)

-- an argument that stands in the inputs of thin methods: an int
abbrev pub IsIntTree : Tree → Type 0
IsIntTree tree = IsSome (int_of tree)
