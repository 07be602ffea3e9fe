-- The JSON value of an input has no float.
use Rattle.std.proofs.Common.{◌≡◌, ℕ, ℤ, pos, negsuc, Bool, true, false, cond, ◌||◌, List, [], ◌∷◌, map, codes, nat_eq}
use Rattle.std.proofs.Common.{Ordering, Less, Equal, Greater, nat_cmp, refl, ap, subst, ◌∙◌}
use Rattle.std.proofs.lemmas.Bool.{or_parts, or_from}
use Rattle.std.specs.Ordering.{match_ordering}
use Rattle.std.specs.Cmp.Lexicographic.{slice_cmp, pointwise}
use Rattle.jv_base.specs.declared.input.Input.{Input}
use Rattle.jv_base.specs.declared.input.Part.{Part, roll-Part}
use Rattle.jv_base.specs.declared.input.Tree.{Tree, roll-Tree}
use Rattle.jv_base.specs.declared.input.Tree.TheOpen.{Tree-F, Part-F}
use Rattle.jv_base.specs.declared.input.Tree.TheFolds.{fold-Part, fold-roll-Tree, fold-roll-Part, ind-Tree}
use Rattle.jv_base.specs.declared.input.Tree.TheFolds.{map-Tree, map-Part}
use Rattle.serde_json.specs.Data.{Data, boolean, array, object, Members, no_members, member, put}
use Rattle.serde_json.specs.View.{items_of}
use Rattle.serde_json.specs.Written.{has_float, items_have_float, members_have_float}
use Rattle.tr_inputs.specs.Values.{Typed, integer, int_value, truth, level_value, field_value, tree_value, values_of}
use Rattle.tr_inputs.specs.Values.{put_all, members_in_order, element_type}
use Rattle.tr_inputs.specs.Texts.{arguments_value, input_value}

whole : (n : ℤ) → has_float (integer n) ≡ false
whole (pos n) = refl
whole (negsuc n) = refl

int_whole : (n : ℤ) (desc : List ℕ) → has_float (int_value n desc) ≡ false
int_whole n desc = by (pointwise nat_eq desc (codes "Z"))
  where
    by : (b : Bool) → has_float (cond b (boolean (truth n)) (integer n)) ≡ false
    by true = refl
    by false = whole n

units_whole : (units : List ℕ) → items_have_float (items_of (map (λ unit. integer (pos unit)) units)) ≡ false
units_whole [] = refl
units_whole (unit ∷ units) = units_whole units

put_by : (o : Ordering) (key : List ℕ) (value : Data) (k : List ℕ) (d : Data) (ms : Members) → has_float value ≡ false
    → members_have_float (member k d ms) ≡ false → members_have_float (put key value ms) ≡ false
    → members_have_float (match_ordering o (member key value (member k d ms)) (member k value ms)
    (member k d (put key value ms))) ≡ false
put_by Less key value k d ms v m later = or_from (has_float value) (members_have_float (member k d ms)) v m
put_by Equal key value k d ms v m later =
    or_from (has_float value) (members_have_float ms) v (or_parts (has_float d) (members_have_float ms) m).1
put_by Greater key value k d ms v m later =
    or_from (has_float d) (members_have_float (put key value ms)) (or_parts (has_float d) (members_have_float ms) m).0
    later

put_whole : (key : List ℕ) (value : Data) (members : Members) → has_float value ≡ false
    → members_have_float members ≡ false → members_have_float (put key value members) ≡ false
put_whole key value no_members v m = or_from (has_float value) false v refl
put_whole key value (member k d ms) v m =
    put_by (slice_cmp nat_cmp key k) key value k d ms v m
    (put_whole key value ms v (or_parts (has_float d) (members_have_float ms) m).1)

-- ---- trees, by induction

abbrev IsWholeTree : Tree → Type 0
IsWholeTree tree = (desc : List ℕ) → has_float (tree_value tree desc) ≡ false

abbrev part_value : Part → List ℕ × Data
part_value = fold-Part Typed (List ℕ × Data) level_value field_value

abbrev IsWholePart : Part → Type 0
IsWholePart part = has_float (part_value part).1 ≡ false

abbrev WholeTree : Type 0
WholeTree = (tree : Tree) × IsWholeTree tree

abbrev WholePart : Type 0
WholePart = (part : Part) × IsWholePart part

trees_whole : (trees : List WholeTree) (desc : List ℕ) →
    items_have_float (items_of (values_of (map (λ e. e.0) trees) desc)) ≡ false
trees_whole [] desc = refl
trees_whole (tree ∷ trees) desc =
    or_from (has_float (tree_value tree.0 desc)) (items_have_float (items_of (values_of (map (λ e. e.0) trees) desc)))
    (tree.1 desc) (trees_whole trees desc)

parts_whole : (parts : List WholePart) (done : Members) → members_have_float done ≡ false
    → members_have_float (put_all done (map part_value (map (λ e. e.0) parts))) ≡ false
parts_whole [] done m = m
parts_whole (part ∷ parts) done m =
    parts_whole parts (put (part_value part.0).0 (part_value part.0).1 done)
    (put_whole (part_value part.0).0 (part_value part.0).1 done part.1 m)

rolled : (level : Tree-F Tree Part) (desc : List ℕ) → has_float (tree_value (roll-Tree level) desc)
    ≡ has_float (level_value (map-Tree Tree Part Typed (List ℕ × Data) tree_value part_value level) desc)
rolled level desc =
    ap (λ (value : Typed). has_float (value desc)) (fold-roll-Tree Typed (List ℕ × Data) level_value field_value level)

only : (value : Data) → has_float value ≡ false → (has_float value || false) ≡ false
only value v = or_from (has_float value) false v refl

level_whole : (level : Tree-F WholeTree WholePart) →
    IsWholeTree (roll-Tree (map-Tree WholeTree WholePart Tree Part (λ e. e.0) (λ e. e.0) level))
level_whole (Tree-F.Int n) desc = rolled (Tree-F.Int n) desc ∙ int_whole n desc
level_whole (Tree-F.Long n) desc = rolled (Tree-F.Long n) desc ∙ whole n
level_whole Tree-F.Null desc = rolled Tree-F.Null desc
level_whole (Tree-F.Text units) desc =
    rolled (Tree-F.Text units) desc
    ∙ only (array (items_of (map (λ unit. integer (pos unit)) units))) (units_whole units)
level_whole (Tree-F.Array trees) desc =
    rolled (Tree-F.Array (map (λ e. e.0) trees)) desc
    ∙ only (array (items_of (values_of (map (λ e. e.0) trees) (element_type desc))))
    (trees_whole trees (element_type desc))
level_whole (Tree-F.Object parts) desc =
    rolled (Tree-F.Object (map (λ e. e.0) parts)) desc
    ∙ only (object (members_in_order (map part_value (map (λ e. e.0) parts)))) (parts_whole parts no_members refl)

part_whole : (part : Part-F WholeTree WholePart) →
    IsWholePart (roll-Part (map-Part WholeTree WholePart Tree Part (λ e. e.0) (λ e. e.0) part))
part_whole part =
    ap (λ (p : List ℕ × Data). has_float p.1)
    (fold-roll-Part Typed (List ℕ × Data) level_value field_value
    (map-Part WholeTree WholePart Tree Part (λ e. e.0) (λ e. e.0) part))
    ∙ part.value.1 part.field.desc

tree_whole : (tree : Tree) → IsWholeTree tree
tree_whole = ind-Tree IsWholeTree IsWholePart
    (λ x y is. subst (λ (z : Tree-F Tree Part). IsWholeTree (roll-Tree z)) is (level_whole y))
    (λ x y is. subst (λ (z : Part-F Tree Part). IsWholePart (roll-Part z)) is (part_whole y))

-- ---- an input

arguments_whole : (args : List Tree) (types : List (List ℕ)) → has_float (arguments_value args types) ≡ false
arguments_whole [] types = refl
arguments_whole (arg ∷ args) [] = refl
arguments_whole (arg ∷ args) (type ∷ types) =
    or_from (has_float (tree_value arg type)) (has_float (arguments_value args types)) (tree_whole arg type)
    (arguments_whole args types)

pub input_whole : (input : Input) (types : List (List ℕ)) → has_float (input_value input types) ≡ false
input_whole input types = only (arguments_value input.args types) (arguments_whole input.args types)
