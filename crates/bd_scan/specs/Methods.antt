-- The facts of a method (JVM Specification SE 8, 4.6 and 4.7.3): first what its descriptor tells, then the facts of
-- its instructions in order, then the catch types of its exception table in order.
use Rattle.std.specs.Prelude.{List, [], ◌++◌, Option, Some, None}
use Rattle.std.specs.List.{flat_map}
use Rattle.jv_base.specs.declared.method.MethodId.{MethodId}
use Rattle.cf_pool.specs.declared.entry.PoolEntry.{PoolEntry}
use Rattle.cf_class.specs.declared.code.Code.{Code}
use Rattle.cf_class.specs.declared.member.Member.{Member}
use Rattle.cf_class.specs.declared.class_file.ClassFile.{ClassFile}
use Rattle.cf_class.specs.Members.{member_in, code_in}
use Rattle.bd_scan.specs.declared.fact.Fact.{Fact}
use Rattle.bd_scan.specs.Facts.{instr_facts, row_facts, refuses_float}

-- the facts of a Code (4.7.3)
abbrev pub code_facts : List PoolEntry → Option Code → List Fact
code_facts pool (Some code) = flat_map (instr_facts pool) code.code ++ flat_map (row_facts pool) code.rows
code_facts pool None = []

abbrev pub member_code : Option Member → Option Code
member_code (Some m) = code_in m.attributes
member_code None = None

-- the facts of a method of a class, which is known by its name and its descriptor; a method without code has those of
-- its descriptor
abbrev pub facts : ClassFile → MethodId → List Fact
facts class method =
    refuses_float 0 method.desc ++ code_facts class.pool.entries (member_code (member_in method.name method.desc class.methods))
