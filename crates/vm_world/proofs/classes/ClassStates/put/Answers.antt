use Rattle.std.proofs.Common.{◌∙◌, ap}
use Rattle.std.specs.Str.{bytes_eq}
use Rattle.vm_world.specs.Classes.{place_of_class}
use Rattle.vm_world.proofs.ChangeLemmas.{at_first, at_none}
use Rattle.vm_world.proofs.classes.ClassStates.put.Goals as goal

pub returns-in-Some-clause-found : goal.returns-in-Some-clause-found
returns-in-Some-clause-found c =
    let place = c.in-Some.ensures ∙ ap (λ states. place_of_class states c.args.name.now) c.as_slice.ensures.value in
    rw (← c.self.view_is)
    (at_first (λ state. bytes_eq state.name c.args.name.now) (λ state. record state { stage = c.args.stage })
    (λ state. state.stage) c.self.inside.states.items c.in-Some.place
    c.index_mut.result.now place c.index_mut.ensures.value).0

pub returns-in-Some-clause-value : goal.returns-in-Some-clause-value
returns-in-Some-clause-value c =
    let place = c.in-Some.ensures ∙ ap (λ states. place_of_class states c.args.name.now) c.as_slice.ensures.value in
    rw (← c.self.view_is)
    (at_first (λ state. bytes_eq state.name c.args.name.now) (λ state. record state { stage = c.args.stage })
    (λ state. state.stage) c.self.inside.states.items c.in-Some.place
    c.index_mut.result.now place c.index_mut.ensures.value).1

pub returns-in-None-clause-found : goal.returns-in-None-clause-found
returns-in-None-clause-found c =
    let place = c.in-None.ensures ∙ ap (λ states. place_of_class states c.args.name.now) c.as_slice.ensures.value in
    rw (← c.self.view_is)
    (at_none (λ state. bytes_eq state.name c.args.name.now) (λ state. record state { stage = c.args.stage })
    (λ state. state.stage) c.self.inside.states.items place).0

pub returns-in-None-clause-value : goal.returns-in-None-clause-value
returns-in-None-clause-value c =
    let place = c.in-None.ensures ∙ ap (λ states. place_of_class states c.args.name.now) c.as_slice.ensures.value in
    rw (← c.self.view_is)
    (at_none (λ state. bytes_eq state.name c.args.name.now) (λ state. record state { stage = c.args.stage })
    (λ state. state.stage) c.self.inside.states.items place).1
