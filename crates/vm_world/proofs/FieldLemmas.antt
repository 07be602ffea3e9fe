-- Fields that are the same, and what a store into one changes.
use Rattle.std.proofs.Common.{◌≡◌, ◌≢◌, ℕ, List, true, false, ◌&&◌, Option, Some, None, refl, sym, ◌∙◌, ap}
use Rattle.std.specs.Prelude.{IsSome}
use Rattle.std.specs.Option.{option_map}
use Rattle.std.specs.Str.{bytes_eq}
use Rattle.std.proofs.lemmas.Bool.{and_parts, false_from_ne_true}
use Rattle.std.proofs.lemmas.Slice.Eq.{bytes_eq-Decides}
use Rattle.jv_base.specs.declared.method.FieldId.{FieldId}
use Rattle.jv_base.specs.declared.value.Value.{Value}
use Rattle.vm_world.specs.declared.fields.Slot.{Slot}
use Rattle.vm_world.specs.Fields.{is_field}

-- fields that pass the test are the same
pub same_field : (a b : FieldId) → is_field a b ≡ true → a ≡ b
same_field a b h =
    let both = and_parts (bytes_eq a.name b.name && bytes_eq a.class b.class) (bytes_eq a.desc b.desc) h in
    let first = and_parts (bytes_eq a.name b.name) (bytes_eq a.class b.class) both.0 in
    let name : a.name ≡ b.name = (bytes_eq-Decides a.name b.name).0 first.0 in
    let class : a.class ≡ b.class = (bytes_eq-Decides a.class b.class).0 first.1 in
    let desc : a.desc ≡ b.desc = (bytes_eq-Decides a.desc b.desc).0 both.1 in
    ap (λ (n : List ℕ). record a { name = n }) name
    ∙ ap (λ (k : List ℕ). record { class = k; name = b.name; desc = a.desc }) class
    ∙ ap (λ (d : List ℕ). record { class = b.class; name = b.name; desc = d }) desc

-- a field that is one is no other
pub other_field : (a field other : FieldId) → other ≢ field → is_field a field ≡ true → is_field a other ≡ false
other_field a field other ne is =
    false_from_ne_true (is_field a other) (λ h. ne (sym (same_field a other h) ∙ same_field a field is))

-- a slot that was given a value has it
pub given_value : (value : Value) (slot : Option Slot) → IsSome (option_map (λ (s : Slot). s.value) slot)
    → option_map (λ (s : Slot). s.value) (option_map (λ (s : Slot). record s { value = value }) slot) ≡ Some value
given_value value None some = cc
given_value value (Some slot) some = refl
