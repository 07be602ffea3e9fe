use Rattle.std.proofs.Common.{sym, ◌∙◌}
use Rattle.cf_bodies.proofs.RowLemmas.{search_found, search_finds}
use Rattle.cf_bodies.proofs.row.is_start.Goals as goal

pub returns : goal.returns
returns c =
    let h = c.binary_search.ensures in
    let e = c.is_ok.ensures.value in (
      λ t. search_found c.args.starts.now c.args.pc c.binary_search.result h.bound h.ok (sym e ∙ t),
      λ member. e ∙ search_finds c.args.starts.now c.args.pc c.requires c.binary_search.result h.position member,
    )
