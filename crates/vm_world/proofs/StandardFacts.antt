-- Trees in the heap, in pre-order: an array of T that holds an object, null and another object, where the first object
-- has an int and an array of one long.
use Rattle.std.proofs.Common.{◌≡◌, ℕ, pos, List, [], ◌∷◌, Some, None, refl, codes}
use Rattle.jv_base.specs.declared.method.FieldId.{FieldId}
use Rattle.jv_base.specs.declared.value.Value.TheVariants.{Int, Long, Ref}
use Rattle.jv_base.specs.declared.input.Tree.TheOpen.{Tree-F}
use Rattle.vm_world.specs.declared.fields.Slot.{Slot}
use Rattle.vm_world.specs.declared.object.Object.TheVariants.{Instance, Array, Text}
use Rattle.vm_world.specs.declared.object.TextKind.TheVariants.{Str}
use Rattle.vm_world.specs.Start.{Typed, place_tree, place_field, element_type, class_name, locals_of}

-- the class of `La/T;` is a/T, and the elements of `[[J` are `[J`
class_of_object : class_name (codes "La/T;") ≡ codes "a/T"
class_of_object = refl

elements_of_array : element_type (codes "[[J") ≡ codes "[J"
elements_of_array = refl

abbrev field : List ℕ → List ℕ → FieldId
field name desc = record { class = codes "T"; name = name; desc = desc }

abbrev longs : Typed
longs = place_tree (Tree-F.Array (place_tree (Tree-F.Long (pos 1)) ∷ []))

abbrev first : Typed
first =
    place_tree (Tree-F.Object (
    place_field (record { field = field (codes "f") (codes "I"); value = place_tree (Tree-F.Int (pos 7)) })
    ∷ place_field (record { field = field (codes "g") (codes "[J"); value = longs }) ∷ []))

abbrev whole : Typed
whole = place_tree (Tree-F.Array (first ∷ place_tree Tree-F.Null ∷ place_tree (Tree-F.Object []) ∷ []))

abbrev slots : List Slot
slots =
    record { field = field (codes "f") (codes "I"); value = Int (pos 7) }
    ∷ record { field = field (codes "g") (codes "[J"); value = Ref (Some 3) } ∷ []

in_order : whole (codes "[LT;") 1 ≡ record {
  value = Ref (Some 1);
  objects =
      Array (codes "LT;") (Ref (Some 2) ∷ Ref None ∷ Ref (Some 4) ∷ [])
      ∷ Instance (codes "T") slots ∷ Array (codes "J") (Long (pos 1) ∷ []) ∷ Instance (codes "T") [] ∷ [];
}
in_order = refl

-- a text is one object
one_text : place_tree (Tree-F.Text (97 ∷ [])) (codes "Ljava/lang/String;") 5
    ≡ record { value = Ref (Some 5); objects = Text Str (97 ∷ []) ∷ [] }
one_text = refl

-- a long takes two locals
long_in_two : locals_of (Long (pos 3)) ≡ Some (Long (pos 3)) ∷ None ∷ []
long_in_two = refl
