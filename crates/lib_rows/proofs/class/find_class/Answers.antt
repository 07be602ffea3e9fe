-- A class that the search finds has the name.
use Rattle.std.proofs.Common.{◌≡◌, ℕ, List, Option, sym, subst}
use Rattle.std.specs.Prelude.{IfSome}
use Rattle.lib_rows.specs.declared.class.Builtin.{Builtin}
use Rattle.lib_rows.specs.Classes.{classes, class_name}
use Rattle.lib_rows.proofs.RowLemmas.{class_found}
use Rattle.lib_rows.proofs.class.find_class.Goals as goal

pub returns-clause-found : goal.returns-clause-found
returns-clause-found c =
    subst (λ (n : List ℕ). IfSome c.class_named.result (λ class. n ≡ class_name class)) c.as_str.ensures
    (subst (λ (o : Option Builtin). IfSome o (λ class. c.as_str.result.now ≡ class_name class)) (sym
    c.class_named.ensures)
    (class_found classes c.as_str.result.now))
