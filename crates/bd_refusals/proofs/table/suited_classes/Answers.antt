-- One name after the other, and then all.
use Rattle.std.proofs.Common.{◌≡◌, ℕ, List, slice_index_or, subst, rules}
use Rattle.bd_refusals.specs.Calls.Tables.{PutsSuited}
use Rattle.bd_refusals.proofs.TableLemmas.{suited_alone, suited_step, suited_end}
use Rattle.bd_refusals.proofs.table.suited_classes.Goals as goal

pub put_suited-requires : goal.put_suited-requires
put_suited-requires c = suited_alone c.args.classes.now _ c.names.table c.names.invariant

pub names-preserved : goal.names-preserved
names-preserved c =
    let at : c.name-item.result ≡ slice_index_or c.args.names.now c.names.name-index c.name-item.result =
    search rules in
    let puts = subst (λ (n : List ℕ). PutsSuited c.args.classes.now n c.names.table c.put_suited.new.table) at
    c.in_ok-put_suited.ensures in
    suited_step c.args.classes.now c.args.names.now c.names.name-index c.name-item.result c.names.table
    c.put_suited.new.table c.names-test.true c.names.invariant puts

pub returns : goal.returns
returns c =
    suited_end c.args.classes.now c.args.names.now c.names.name-index c.names.table (search rules) c.names.invariant
