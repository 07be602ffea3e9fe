-- A class that is not built in, a method with code.
use Rattle.std.proofs.Common.{◌≡◌, Some, None, sym, subst, ◌∙◌, rules}
use Rattle.std.proofs.lemmas.Option.{none-some}
use Rattle.lib_rows.specs.Classes.{class_name}
use Rattle.bd_core.specs.declared.item.Item.TheVariants as items
use Rattle.bd_core.specs.Loads.{given}
use Rattle.bd_core.specs.Runs.{HasCode}
use Rattle.bd_core.proofs.QueueLemmas.{AsksJust, built_in_asks, class_asks, method_asks}
use Rattle.bd_core.proofs.queue.item_of.Goals as goal

pub returns-in-Some : goal.returns-in-Some
returns-in-Some c =
    let g = given c.args.loaded.now in
    let e : c.in-Known.name ≡ class_name c.in-Some.field-0 = search rules in
    subst (λ m. AsksJust g m None) (sym c.in-Known.is) (built_in_asks g c.in-Known.name c.in-Some.field-0 e)

pub returns-in-Known : goal.returns-in-Known
returns-in-Known c =
    let g = given c.args.loaded.now in
    let none : c.find_class.result ≡ None = search rules in
    subst (λ m. AsksJust g m (Some (items.Class c.in-Known.name))) (sym c.in-Known.is)
    (class_asks g c.in-Known.name
    (λ b e. none-some b (sym none ∙ c.find_class.ensures.only b e)))

pub returns-then-has_code : goal.returns-then-has_code
returns-then-has_code c =
    let g = given c.args.loaded.now in
    let has : HasCode g.classes c.in-Method.method = search rules in
    subst (λ m. AsksJust g m (Some (items.Method c.in-Method.method))) (sym c.in-Method.is)
    (method_asks g c.in-Method.method has)
