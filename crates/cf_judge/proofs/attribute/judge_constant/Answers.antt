use Rattle.std.proofs.Common.{refl, inl, sym, ap, arith, ◌∙◌}
use Rattle.std.proofs.lemmas.Bool.{false≢true}
use Rattle.jv_list.specs.Firsts.{FirstBreaks}
use Rattle.cf_judge.specs.Words.{rank}
use Rattle.cf_judge.specs.Calls.Tells.{AreKept, IsFirstBroken}
use Rattle.cf_judge.proofs.attribute.judge_constant.Goals as goal

pub returns-then-not-fits_field : goal.returns-then-not-fits_field
unfolding IsFirstBroken FirstBreaks
returns-then-not-fits_field c =
    rw c.fault_at.ensures
    (inl (record {
      place_is = refl;
      breaks = (refl, λ h. false≢true (sym c.if-not-fits_field.true ∙ c.fits_field.ensures.1 h));
      first = λ what h. omega (arith, ap rank h.0);
    }))

pub returns : goal.returns
unfolding AreKept
returns c = (refl, (λ what h. h.1 (c.fits_field.ensures.0 c.if-not-fits_field.false), tt))
