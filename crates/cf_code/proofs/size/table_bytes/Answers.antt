use Rattle.std.proofs.Common.{◌≡◌, ℕ, List, Some, length, sym, ap, subst, arith}
use Rattle.cf_code.specs.Sizes.{HasKeys}
use Rattle.cf_code.proofs.size.table_bytes.Goals as goal

pub returns-in_err-count-clause-only : goal.returns-in_err-count-clause-only
returns-in_err-count-clause-only c n h =
    let cut = c.in_ok-padding.ensures.only h.padding h.body h.long h.parts in
    let keys : HasKeys c.in_ok-padding.body.now h.count = subst (λ (b : List ℕ). HasKeys b h.count) (sym cut.1) h.keys
    in
    let none = c.in_err-count.ensures.only h.count keys in
    absurd cc

pub returns-clause-only : goal.returns-clause-only
returns-clause-only c n h =
    let cut = c.in_ok-padding.ensures.only h.padding h.body h.long h.parts in
    let keys : HasKeys c.in_ok-padding.body.now h.count = subst (λ (b : List ℕ). HasKeys b h.count) (sym cut.1) h.keys
    in
    let counted = c.in_ok-count.ensures.only h.count keys in
    let same : c.in_ok-count.count ≡ h.count = cc in
    let long = ap length cut.0 in
    ap (λ (m : ℕ). Some m) (omega (arith, h.is, long, same))
