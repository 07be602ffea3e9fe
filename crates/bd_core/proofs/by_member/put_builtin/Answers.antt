-- The name is that of the class.
use Rattle.std.proofs.Common.{◌≡◌, ap, rules}
use Rattle.std.proofs.lemmas.Result.{on_ok_weaker}
use Rattle.bd_core.specs.declared.member.Member.TheVariants.{Made}
use Rattle.lib_rows.specs.Classes.{class_name}
use Rattle.bd_core.proofs.AddsLemmas.{adds_is}
use Rattle.bd_core.proofs.by_member.put_builtin.Goals as goal

pub returns : goal.returns
returns c =
    let same : c.in_ok-from_text.field-0 ≡ class_name c.args.class = search rules in
    on_ok_weaker c.put.result (adds_is (Made c.in_ok-from_text.field-0) (Made (class_name c.args.class)) _ _
    (ap Made same))
    c.put.ensures
