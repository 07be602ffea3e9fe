use Rattle.std.proofs.Common.{true≢false, sym, ◌∙◌}
use Rattle.std.specs.Prelude.{codes}
use Rattle.std.proofs.lemmas.Slice.Eq.{bytes_eq-Decides}
use Rattle.hi_tree.proofs.SpecialLemmas.{private_fixed, fixed_private}
use Rattle.hi_tree.proofs.table.Classes.is_fixed.Goals as goal

pub returns-else-eq : goal.returns-else-eq
returns-else-eq c = (
  private_fixed c.args.self.now c.args.method.now c.has_private.result c.has_private.ensures,
  fixed_private c.args.self.now c.args.method.now c.has_private.result c.has_private.ensures
      (λ same. true≢false (sym ((bytes_eq-Decides c.as_str.result.now (codes "<init>")).1 (c.as_str.ensures ∙ same))
      ∙ sym c.eq.ensures ∙ c.if-eq.false)),
)
