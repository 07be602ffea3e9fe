-- The rules of the table of classes, computed over each class.
use Rattle.std.proofs.Common.{◌≡◌, ◌∙◌, ℕ, List, true, false, Option, Some, None, refl, sym, ap}
use Rattle.std.specs.Prelude.{IfSome}
use Rattle.std.specs.List.{list_all}
use Rattle.lib_rows.specs.declared.class.Builtin.{Builtin}
use Rattle.lib_rows.specs.declared.class.Builtin.TheVariants.{Object}
use Rattle.lib_rows.specs.Classes.{classes, class_name, superclass_of, superinterfaces_of, is_interface}
use Rattle.lib_rows.specs.Calls.{class_in}
use Rattle.lib_rows.specs.Laws.{above}

-- each class is the first of its name
first : (class : Builtin) → class_in classes (class_name class) ≡ Some class
first Object = refl
first other = refl

pub one_class : (a b : Builtin) → class_name a ≡ class_name b → a ≡ b
one_class a b e =
    let same : Some a ≡ Some b = sym (first a) ∙ ap (λ (n : List ℕ). class_in classes n) e ∙ first b in
    cc same

pub superclass_rule : (class : Builtin) → IfSome (superclass_of class) (λ above. is_interface above ≡ false)
superclass_rule Object = cc
superclass_rule other = refl

pub superinterface_rule : (class : Builtin) → list_all is_interface (superinterfaces_of class) ≡ true
superinterface_rule Object = refl
superinterface_rule other = refl

pub end_rule : (class : Builtin) → above 6 class ≡ None
end_rule Object = refl
end_rule other = refl
