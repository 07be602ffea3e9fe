-- The field has a constant.
use Rattle.std.proofs.Common.{rules}
use Rattle.bd_core.specs.declared.member.Member.TheVariants.{Made}
use Rattle.lib_rows.specs.Classes.{class_name}
use Rattle.lib_rows.specs.declared.class.Builtin.TheVariants as builtins
use Rattle.bd_core.specs.Given.{HasText}
use Rattle.bd_core.specs.Loads.{given}
use Rattle.bd_core.specs.Calls.Adds.{Is}
use Rattle.bd_core.proofs.AddsLemmas.{adds_where}
use Rattle.bd_core.proofs.by_fact.put_constant.Goals as goal

pub returns-in_ok-put_builtin : goal.returns-in_ok-put_builtin
returns-in_ok-put_builtin c =
    let has : HasText (given c.args.loaded.now).classes c.args.declared.now = search rules in
    adds_where (HasText (given c.args.loaded.now).classes c.args.declared.now) (Is (Made (class_name builtins.String)))
    _ _ has (search rules)
