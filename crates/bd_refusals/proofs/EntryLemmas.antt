-- Whether runs can begin at an entry method, by what its class is.
use Rattle.std.proofs.Common.{◌≡◌, ◌↔◌, ℕ, List, Some, None, sym, ap, subst, ◌∙◌}
use Rattle.std.proofs.lemmas.Option.{none-some, same_Some}
use Rattle.jv_base.specs.declared.method.MethodId.{MethodId}
use Rattle.cf_class.specs.declared.class_file.ClassFile.{ClassFile}
use Rattle.cf_class.specs.declared.member.Member.{Member}
use Rattle.cf_class.specs.Members.{member_in, code_in}
use Rattle.lib_rows.specs.declared.class.Builtin.{Builtin}
use Rattle.lib_rows.specs.Classes.{class_name}
use Rattle.bd_scan.specs.Methods.{member_code}
use Rattle.hi_tree.specs.Classes.{file_of, read_in}
use Rattle.bd_core.specs.Given.{IsRead}
use Rattle.bd_refusals.specs.Refusals.{HasNoObject, LacksMethod, no_code, no_receiver, LacksEntry, built_in, of_file}

module _ (classes : List ClassFile) (entry : MethodId)
    (other : (b : Builtin) → entry.class ≡ class_name b → None ≡ Some b) where
  pub by_file : (c : ClassFile) → IsRead classes entry.class c → LacksEntry classes entry → LacksMethod c entry
  by_file c is_read (built_in b e) = absurd (none-some b (other b e))
  by_file c is_read (of_file d is_other lacks) =
      subst (λ (f : ClassFile). LacksMethod f entry)
      (same_Some d c (ap file_of (sym is_other ∙ is_read))) lacks

  pub no_file : read_in classes entry.class ≡ None → LacksEntry classes entry → ⊥
  no_file none (built_in b e) = none-some b (other b e)
  no_file none (of_file d is_read lacks) = none-some d (sym none ∙ ap file_of is_read)

-- a method with code is lacked where it wants a receiver
module _ (c : ClassFile) (entry : MethodId) (m : Member) (declared : member_in entry.name entry.desc c.methods ≡ Some m)
    (coded : code_in m.attributes ≡ None → ⊥) where
  pub wants_receiver : LacksMethod c entry → HasNoObject c m
  wants_receiver (no_code none) = absurd (coded (sym (ap member_code declared) ∙ none))
  wants_receiver (no_receiver n is h) = subst (HasNoObject c) (same_Some n m (sym is ∙ declared)) h
