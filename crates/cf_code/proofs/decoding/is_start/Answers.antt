use Rattle.std.proofs.Common.{◌≡◌, ℕ, Bool, false, Option, List, get_or, sym, ap, ◌∙◌, arith, eqb-true}
use Rattle.std.specs.Prelude.{nat_eq}
use Rattle.std.specs.Cmp.{nat_eq_equiv}
use Rattle.std.specs.List.{list_any}
use Rattle.std.specs.Option.{unwrap_or}
use Rattle.std.proofs.lemmas.Map.Views.{Contains-from_any, list_any-from_Contains}
use Rattle.cf_code.proofs.decoding.is_start.Goals as goal

pub returns : goal.returns
returns c =
    let starts = c.args.starts.now in
    let at = c.args.target in
    let found = c.get.ensures.lookup.4 (omega arith) false in
    let marked : c.unwrap_or.result ≡ list_any (nat_eq at) starts.pcs.items =
    c.unwrap_or.ensures ∙ ap (λ (o : Option Bool). unwrap_or o false) c.copied.ensures ∙ found
    ∙ ap (λ (bs : List Bool). get_or bs c.from.result false) c.deref.ensures.value
    ∙ ap (λ (n : ℕ). get_or starts.marks.items n false) c.from.ensures ∙ starts.marked at in (
      λ t. Contains-from_any eqb-true at starts.pcs.items (sym marked ∙ t),
      λ contained. marked
          ∙ list_any-from_Contains nat_eq_equiv at starts.pcs.items contained,
    )
