-- The class file is there, or none is, or it is unsuited, or it is put in.
use Rattle.std.proofs.Common.{◌≡◌, None, Some, sym, rules}
use Rattle.hi_tree.specs.Classes.{class_in}
use Rattle.bd_refusals.specs.Suited.{IsSuited}
use Rattle.bd_refusals.proofs.TableLemmas.{puts_there, puts_one, absent_by_name}
use Rattle.bd_refusals.proofs.table.put_suited.Goals as goal

pub returns-in-Some : goal.returns-in-Some
returns-in-Some c =
    puts_there c.args.classes.now c.args.name.now c.args.table.now c.in-Some._there.now c.requires
    (sym c.in-Some.ensures)

pub put_copy-requires : goal.put_copy-requires
put_copy-requires c =
    let here : class_in c.args.classes.now c.args.name.now ≡ Some c.in-Some-find.class.now = search rules in
    let absent : class_in c.args.table.now c.args.name.now ≡ None = search rules in
    absent_by_name c.args.classes.now c.args.name.now c.args.table.now c.in-Some-find.class.now here absent

pub returns-in_ok-put_copy : goal.returns-in_ok-put_copy
returns-in_ok-put_copy c =
    let class = c.in-Some-find.class.now in
    let here : class_in c.args.classes.now c.args.name.now ≡ Some class = search rules in
    let absent : class_in c.args.table.now c.args.name.now ≡ None = search rules in
    let suited : IsSuited c.args.classes.now class = c.in_ok-is_suited.ensures.0 c.if-branch.true in
    puts_one c.args.classes.now c.args.name.now c.args.table.now class here c.put_copy.new.table suited absent
    c.in_ok-put_copy.ensures
