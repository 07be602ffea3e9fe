-- The parts of a class file that was read, without where they lie in memory.
use Rattle.std.specs.Prelude.{map}
use Rattle.cf_structure.specs.declared.code.SkippedPart.{SkippedPart}
use Rattle.cf_structure.specs.declared.code.CodePart.{CodePart}
use Rattle.cf_structure.specs.declared.attribute.BodyPart.{BodyPart}
use Rattle.cf_structure.specs.declared.attribute.BodyPart.TheVariants.{Constant, Code, Skipped}
use Rattle.cf_structure.specs.declared.attribute.AttributePart.{AttributePart}
use Rattle.cf_structure.specs.declared.member.MemberPart.{MemberPart}
use Rattle.cf_structure.specs.declared.class_file.ClassPart.{ClassPart}
use Rattle.cf_structure.specs.declared.class_file.Structure.{Structure}
use Rattle.cf_structure.specs.Raw.{RawSkipped, RawCode, RawBody, constant, code, skipped, RawAttribute, RawMember}
use Rattle.cf_structure.specs.Raw.{RawClass, RawFile}

abbrev pub skipped_of : SkippedPart → RawSkipped
skipped_of s = record { name = s.name; content = s.content.now }

abbrev pub code_of : CodePart → RawCode
code_of c = record {
  max_stack = c.max_stack;
  max_locals = c.max_locals;
  code = c.code.now;
  rows = c.rows;
  attributes = map skipped_of c.attributes;
}

abbrev pub body_of : BodyPart → RawBody
body_of (Constant index) = constant index
body_of (Code c) = code (code_of c)
body_of (Skipped content) = skipped content.now

abbrev pub attribute_of : AttributePart → RawAttribute
attribute_of a = record { name = a.name; body = body_of a.body }

abbrev pub member_of : MemberPart → RawMember
member_of m = record { flags = m.flags; name = m.name; desc = m.desc; attributes = map attribute_of m.attributes }

abbrev pub class_of : ClassPart → RawClass
class_of c =
    record {
      flags = c.flags;
      this_class = c.this_class;
      super_class = c.super_class;
      interfaces = c.interfaces;
      fields = map member_of c.fields;
      methods = map member_of c.methods;
      attributes = map attribute_of c.attributes;
    }

abbrev pub file_of : Structure → RawFile
file_of s = record { version = s.version; pool = s.pool.entries; class = class_of s.class }
