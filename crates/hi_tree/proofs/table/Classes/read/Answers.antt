use Rattle.std.proofs.Common.{ℕ, List, Some, None, sym, ap, ◌∙◌}
use Rattle.hi_tree.specs.Classes.{class_in}
use Rattle.hi_tree.proofs.KnownLemmas.{builtin_is, read_plain, read_builtin}
use Rattle.hi_tree.proofs.table.Classes.read.Goals as goal

pub returns-in-Some : goal.returns-in-Some
returns-in-Some c =
    let name : List ℕ = c.args.name.now in
    let e = builtin_is name (Some c.in-Some.field-0) c.in-Some.ensures.found c.in-Some.ensures.only in
    sym (read_builtin c.args.self.now name c.in-Some.field-0 e)

pub returns-in-None : goal.returns-in-None
returns-in-None c =
    let name : List ℕ = c.args.name.now in
    let e = builtin_is name None c.in-None.ensures.found c.in-None.ensures.only in
    c.read_class.ensures ∙ ap (λ (n : List ℕ). class_in c.args.self.now n) c.as_str.ensures
    ∙ sym (read_plain c.args.self.now name e)
