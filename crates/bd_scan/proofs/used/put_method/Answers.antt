-- The method is called, and its descriptor tells whether it is refused.
use Rattle.std.proofs.Common.{◌++◌, ◌∷◌, [], sym, ap, ◌∙◌}
use Rattle.bd_scan.specs.Facts.{call_fact}
use Rattle.bd_scan.specs.Pool.{method_at}
use Rattle.bd_scan.specs.Descriptors.{has_float}
use Rattle.bd_scan.proofs.FactLemmas.{put_called}
use Rattle.bd_scan.proofs.used.put_method.Goals as goal

pub returns : goal.returns
returns c =
    let m = c.in-Some.method in
    let old = c.args.facts.now in
    let fact = call_fact c.args.call c.args.pc in
    let found = method_at c.args.pool.now c.args.index in
    let at = sym c.in_ok-method.ensures ∙ c.in-Some.is in
    let one = c.in_ok-add.ensures.ok ∙ ap (λ f. old ++ f ∷ []) c.call_fact.ensures in
    let is = c.has_float-float.ensures ∙ ap has_float (c.as_bytes.ensures.value ∙ c.as_str.ensures) in
    put_called c.put_float.result old c.add.new.self c.put_float.new.facts c.args.pc c.has_float-float.result fact m
    c.in-Some.interface found at one is c.put_float.ensures
