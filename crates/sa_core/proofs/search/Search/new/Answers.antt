use Rattle.std.proofs.Common.{◌<◌, ℕ, List, Contains, sym, subst}
use Rattle.jv_list.proofs.MemberLemmas.{in_map}
use Rattle.cn_clauses.specs.declared.lit.Lit.{Lit}
use Rattle.cn_clauses.specs.Literals.{variable_of}
use Rattle.sa_core.specs.SpentLog.{entry_lits}
use Rattle.sa_core.proofs.search.Search.new.Goals as goal

pub store_clause-requires : goal.store_clause-requires
store_clause-requires c lit has =
    let entry = c.entry-item.result in
    let stands : Contains c.args.entries.now entry =
    (c.loop-entry.entry-index, c.loop-entry-test.true, sym c.entry-item.is) in
    subst (λ (n : ℕ). variable_of lit < n) (sym c.loop-entry.invariant.number)
    (c.requires (entry_lits entry) (in_map entry_lits c.args.entries.now entry stands) lit
    (subst (λ (l : List Lit). Contains l lit) c.lits.ensures has))
