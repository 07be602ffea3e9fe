-- An input of ints has no float.
use Rattle.std.proofs.Common.{◌≡◌, ℕ, ℤ, pos, negsuc, false, List, [], ◌∷◌, map, All, refl, rules}
use Rattle.std.proofs.lemmas.List.Elements.{All-head, All-tail}
use Rattle.jv_base.specs.declared.input.Tree.{Tree, out-Tree}
use Rattle.jv_base.specs.declared.input.Tree.TheOpen.{Tree-F}
use Rattle.jv_base.specs.declared.input.Tree.TheFolds.{fold_out-Tree}
use Rattle.jv_base.specs.declared.input.Input.{Input}
use Rattle.serde_json.specs.Data.{Data}
use Rattle.serde_json.specs.Find.{is_float, of_integer}
use Rattle.serde_json.specs.Written.{has_float, items_have_float}
use Rattle.serde_json.specs.View.{items_of}
use Rattle.jb_run.specs.Inputs.{IsIntTree}
use Rattle.jb_run.specs.InputText.{level_json, part_json, argument_json, input_json}

integer : (n : ℤ) → is_float (of_integer n) ≡ false
integer (pos n) = refl
integer (negsuc n) = refl

one : (tree : Tree) → IsIntTree tree → has_float (argument_json tree) ≡ false
one tree is =
    let opened = fold_out-Tree Data (List ℕ × Data) level_json part_json tree in
    elim (out-Tree tree) as (λ level. out-Tree tree ≡ level → has_float (argument_json tree) ≡ false) [
      | Tree-F.Int n ↦ λ e. search (rules, opened, e, integer)
      | Tree-F.Long n ↦ λ e. absurd cc
      | Tree-F.Null ↦ λ e. absurd cc
      | Tree-F.Text units ↦ λ e. absurd cc
      | Tree-F.Array trees ↦ λ e. absurd cc
      | Tree-F.Object parts ↦ λ e. absurd cc
    ] refl

all : (trees : List Tree) → All IsIntTree trees → items_have_float (items_of (map argument_json trees)) ≡ false
all [] are = refl
all (tree ∷ trees) are =
    rw (one tree (All-head IsIntTree tree trees are)) (all trees (All-tail IsIntTree tree trees are))

pub input-has_no_float : (input : Input) → All IsIntTree input.args → has_float (input_json input) ≡ false
input-has_no_float input are = rw (all input.args are) refl
