-- A text that is no word for a kind begins one so far.
use Rattle.jv_base.proofs.site.kind_of.Goals as goal

pub returns-in-None-clause-fault : goal.returns-in-None-clause-fault
returns-in-None-clause-fault c = λ at e. record {
  outside = λ h. c.in-None.ensures.none h.0 h.1;
  count = c.kind_front.result;
  sum = cc;
  front = c.kind_front.ensures.longest;
}
