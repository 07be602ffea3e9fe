-- Rows to compare with the Specification: what is demanded of two classes, with the places.
use Rattle.std.proofs.Common.{◌≡◌, [], ◌∷◌, refl, codes}
use Rattle.jv_list.specs.Places.{each_at}
use Rattle.cf_pool.specs.declared.entry.PoolEntry.TheVariants as entries
use Rattle.cf_pool.specs.ModifiedUtf8.{encoded_unit}
use Rattle.cf_structure.specs.Raw.{constant, code, skipped, RawMember, RawClass, RawFile}
use Rattle.cf_judge.specs.declared.form.Form.TheVariants as forms
use Rattle.cf_judge.specs.declared.index.Wanted.TheVariants.{Formed, PlainClass, CatchType}
use Rattle.cf_judge.specs.Demands.{demand, finds, fits, is_new, has_codes, class_demands, demands}

-- The smallest class, T: its pool is the class T, "T", the class java/lang/Object and its name.
smallest : RawFile
smallest = record {
  version = record { minor = 0; major = 52 };
  pool = entries.Unusable ∷ entries.Class 2 ∷ entries.Utf8 (codes "T") ∷ entries.Class 4
      ∷ entries.Utf8 (codes "java/lang/Object") ∷ [];
  class = record {
    flags = 33;
    this_class = 1;
    super_class = 3;
    interfaces = [];
    fields = [];
    methods = [];
    attributes = [];
  };
}

-- 4.4.1: the names of the two classes, behind their tags at 10 and 17. 4.1: this_class and super_class, behind the
-- flags at 39.
of_smallest : demands smallest
    ≡ demand 11 (finds (Formed forms.ClassOrArray) 2) ∷ demand 18 (finds (Formed forms.ClassOrArray) 4)
    ∷ demand 41 (finds PlainClass 1) ∷ demand 43 (finds PlainClass 3) ∷ []
unfolding smallest each_at encoded_unit
of_smallest = refl

-- A field with the ConstantValue 10, and a method whose Code has one byte of code, one row and one attribute.
field : RawMember
field = record { flags = 8; name = 3; desc = 4; attributes = record { name = 7; body = constant 10 } ∷ [] }

method : RawMember
method = record {
  flags = 9;
  name = 3;
  desc = 5;
  attributes = record {
    name = 6;
    body = code (record {
      max_stack = 0;
      max_locals = 0;
      code = 177 ∷ [];
      rows = record { start = 0; end = 1; handler = 0; catch_type = 2 } ∷ [];
      attributes = record { name = 1; content = [] } ∷ [];
    });
  } ∷ [];
}

class : RawClass
class = record {
  flags = 33;
  this_class = 2;
  super_class = 2;
  interfaces = 2 ∷ [];
  fields = field ∷ [];
  methods = method ∷ [];
  attributes = record { name = 1; body = skipped [] } ∷ [];
}

-- The class stands at 100. Its field stands at 112, behind its count (4.5), and the content of the ConstantValue at 126
-- (4.7.2); its method at 130 (4.6), its Code at 138, with the content at 144 and the row at 155 (4.7.3).
of_class : class_demands 100 class
    ≡ demand 102 (finds PlainClass 2) ∷ demand 104 (finds PlainClass 2) ∷ demand 108 (finds PlainClass 2)
    ∷ demand 112 (is_new [] field) ∷ demand 114 (finds (Formed forms.Unqualified) 3)
    ∷ demand 116 (finds (Formed forms.FieldDescriptor) 4) ∷ demand 120 (finds (Formed forms.Attribute) 7)
    ∷ demand 126 (fits 4 10)
    ∷ demand 130 (is_new [] method) ∷ demand 130 (has_codes 9 1) ∷ demand 132 (finds (Formed forms.Method) 3)
    ∷ demand 134 (finds (Formed forms.MethodDescriptor) 5) ∷ demand 138 (finds (Formed forms.Attribute) 6)
    ∷ demand 161 (finds CatchType 2) ∷ demand 165 (finds (Formed forms.Attribute) 1)
    ∷ demand 173 (finds (Formed forms.Attribute) 1) ∷ []
unfolding field method class each_at
of_class = refl
