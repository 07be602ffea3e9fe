use Rattle.std.proofs.Common.{◌≡◌, ℕ, List, Some, None, sym, ap, ◌∙◌}
use Rattle.hi_tree.specs.Classes.{class_in}
use Rattle.hi_tree.proofs.KnownLemmas.{builtin_is, known_builtin, known_from, known_named}
use Rattle.hi_tree.proofs.table.Classes.known.Goals as goal

pub returns-in-Builtin : goal.returns-in-Builtin
returns-in-Builtin c = rw c.in-Builtin.is (sym (known_builtin c.args.self.now c.in-Builtin.class))

pub returns-in-Some : goal.returns-in-Some
returns-in-Some c =
    let e = builtin_is c.in-Named.name.now (Some c.in-Some.class) c.in-Some.ensures.found c.in-Some.ensures.only in
    rw c.in-Named.is (sym (known_named c.args.self.now c.in-Named.name.now c.in-Some.class e))

pub returns-in-Some-read_class : goal.returns-in-Some-read_class
returns-in-Some-read_class c =
    let name : List ℕ = c.in-Named.name.now in
    let e = builtin_is name None c.in-None.ensures.found c.in-None.ensures.only in
    let f : class_in c.args.self.now name ≡ Some c.in-Some-read_class.class.now =
    ap (λ (n : List ℕ). class_in c.args.self.now n) (sym c.as_str.ensures) ∙ sym c.in-Some-read_class.ensures in
    rw c.in-Named.is (sym (known_from c.args.self.now name None (Some c.in-Some-read_class.class.now) e f))

pub returns-in-None-read_class : goal.returns-in-None-read_class
returns-in-None-read_class c =
    let name : List ℕ = c.in-Named.name.now in
    let e = builtin_is name None c.in-None.ensures.found c.in-None.ensures.only in
    let f : class_in c.args.self.now name ≡ None =
    ap (λ (n : List ℕ). class_in c.args.self.now n) (sym c.as_str.ensures) ∙ sym c.in-None-read_class.ensures in
    rw c.in-Named.is (sym (known_from c.args.self.now name None None e f))
