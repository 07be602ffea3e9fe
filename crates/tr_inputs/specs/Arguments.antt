-- The types of the arguments of an entry method, as descriptors: of its receiver, where there is one argument more than the
-- method has parameters, and of the parameters (JVM Specification SE 8, 4.3.3).
use Rattle.std.specs.Prelude.{◌≡◌, ◌==◌, ◌+◌, ℕ, List, ◌∷◌, ◌++◌, length, map, codes, if◌then◌else◌}
use Rattle.jv_base.specs.declared.method.MethodId.{MethodId}
use Rattle.jv_base.specs.Descriptor.{MethodType, IsMethodType, class_text, field_text, method_text}

abbrev pub receiver_type : MethodId → List ℕ
receiver_type entry = codes "L" ++ class_text entry.class

abbrev pub argument_types : MethodId → MethodType → ℕ → List (List ℕ)
argument_types entry type count =
    let parameters = map field_text type.parameters in
    if count == length type.parameters + 1 then receiver_type entry ∷ parameters else parameters

-- the types of so many arguments, by what the entry's descriptor says
abbrev pub AreArgumentTypes : MethodId → ℕ → List (List ℕ) → Type 0
AreArgumentTypes entry count types =
    (type : MethodType) → IsMethodType type → entry.desc ≡ method_text type → types ≡ argument_types entry type count
