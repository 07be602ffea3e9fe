-- A place by bytes is one by characters.
use Rattle.jv_base.proofs.SiteLemmas.{site_not, site_stops}
use Rattle.jv_base.proofs.site.read_site.Goals as goal

pub returns-clause-outside : goal.returns-clause-outside
returns-clause-outside c =
    λ place e. site_not c.args.text.now c.as_bytes.result.now place c.as_bytes.ensures.value
    (c.goal_of.ensures.fault place e)

pub returns-clause-fault : goal.returns-clause-fault
returns-clause-fault c =
    λ place e. site_stops c.args.text.now c.as_bytes.result.now place c.as_bytes.ensures.value
    (c.goal_of.ensures.fault place e)
