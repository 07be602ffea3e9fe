-- Methods whose class was read and declares them, with code.
use Rattle.std.proofs.Common.{◌≡◌, Bool, true, List, Some, is_some, sym, ap, ◌∙◌}
use Rattle.std.proofs.lemmas.Option.{same_Some}
use Rattle.jv_base.specs.declared.method.MethodId.{MethodId}
use Rattle.cf_class.specs.declared.class_file.ClassFile.{ClassFile}
use Rattle.cf_class.specs.declared.member.Member.{Member}
use Rattle.cf_class.specs.Members.{member_in, code_in}
use Rattle.hi_tree.specs.Classes.{file_of}
use Rattle.bd_core.specs.Given.{IsRead}
use Rattle.bd_core.specs.Runs.{HasCode}

module _ (classes : List ClassFile) (m : MethodId) (class : ClassFile) (is_read : IsRead classes m.class class)
    (member : Member) (declared : member_in m.name m.desc class.methods ≡ Some member)
    (b : Bool) (is : b ≡ is_some (code_in member.attributes)) where
  same_class : (has : HasCode classes m) → has.class ≡ class
  same_class has = same_Some has.class class (ap file_of (sym has.is_read ∙ is_read))

  same_member : (has : HasCode classes m) → has.member ≡ member
  same_member has =
      same_Some has.member member
      (sym has.declared ∙ ap (λ (c : ClassFile). member_in m.name m.desc c.methods) (same_class has) ∙ declared)

  pub to_code : b ≡ true → HasCode classes m
  to_code e =
      record { class = class; is_read = is_read; member = member; declared = declared; code = sym is ∙ e }

  pub from_code : HasCode classes m → b ≡ true
  from_code has = is ∙ ap (λ (n : Member). is_some (code_in n.attributes)) (sym (same_member has)) ∙ has.code
