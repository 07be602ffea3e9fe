-- There is one.
use Rattle.std.proofs.Common.{◌≡◌, subst, rules}
use Rattle.std.proofs.Common.{[], ◌∷◌}
use Rattle.lib_rows.specs.declared.class.Builtin.TheVariants as builtins
use Rattle.bd_core.specs.Rows.{index_exceptions}
use Rattle.bd_core.specs.Calls.Adds.{Adds}
use Rattle.bd_core.specs.Calls.Gives.{Exceptions}
use Rattle.bd_core.proofs.GiftLemmas.{one_exception}
use Rattle.bd_core.proofs.by_member.put_index.Goals as goal

pub returns-in_ok-put_builtin : goal.returns-in_ok-put_builtin
returns-in_ok-put_builtin c =
    let row : builtins.StringIndexOutOfBoundsException ∷ [] ≡ index_exceptions c.args.row = search rules in
    subst (λ l. Adds (Exceptions l) c.args.out.now c.put_builtin.new.out) row
    (one_exception builtins.StringIndexOutOfBoundsException _ _ (search rules))
