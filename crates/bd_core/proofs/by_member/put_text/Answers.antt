-- It gives a String.
use Rattle.std.proofs.Common.{◌≡◌, rules}
use Rattle.bd_core.specs.declared.member.Member.TheVariants.{Made}
use Rattle.std.proofs.Common.{true}
use Rattle.lib_rows.specs.Classes.{class_name}
use Rattle.lib_rows.specs.declared.class.Builtin.TheVariants as builtins
use Rattle.bd_core.specs.Rows.{gives_text}
use Rattle.bd_core.specs.Calls.Adds.{Is}
use Rattle.bd_core.proofs.AddsLemmas.{adds_where}
use Rattle.bd_core.proofs.by_member.put_text.Goals as goal

pub returns-in_ok-put_builtin : goal.returns-in_ok-put_builtin
returns-in_ok-put_builtin c =
    let gives : gives_text c.args.row ≡ true = search rules in
    adds_where (gives_text c.args.row ≡ true) (Is (Made (class_name builtins.String))) _ _ gives (search rules)
