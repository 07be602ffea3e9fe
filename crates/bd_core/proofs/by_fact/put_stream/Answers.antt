-- The class is System.
use Rattle.std.proofs.Common.{◌≡◌, rules}
use Rattle.bd_core.specs.declared.member.Member.TheVariants.{Made}
use Rattle.lib_rows.specs.Classes.{class_name}
use Rattle.lib_rows.specs.declared.class.Builtin.TheVariants as builtins
use Rattle.bd_core.specs.Calls.Adds.{Is}
use Rattle.bd_core.proofs.AddsLemmas.{adds_where}
use Rattle.bd_core.proofs.by_fact.put_stream.Goals as goal

pub returns-in_ok-put_builtin : goal.returns-in_ok-put_builtin
returns-in_ok-put_builtin c =
    let is : c.args.declared.now.class ≡ class_name builtins.System = search rules in
    adds_where (c.args.declared.now.class ≡ class_name builtins.System) (Is (Made (class_name builtins.PrintStream)))
    _ _ is (search rules)
