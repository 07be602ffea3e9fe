use Rattle.std.proofs.Common.{◌<◌, ◌+◌, ℕ, Bool, Some, take, get_or, sym, subst, ap, ◌∙◌}
use Rattle.std.proofs.lemmas.List.{take_more}
use Rattle.cn_clauses.specs.declared.lit.Lit.{Lit}
use Rattle.sa_core.specs.declared.analyze.Seen.{Seen}
use Rattle.sa_core.specs.TrailView.{lits_of}
use Rattle.sa_core.specs.Analysis.{IsSeen}
use Rattle.sa_core.specs.Calls.Analyze.{SeesMore}
use Rattle.sa_core.proofs.TrailLemmas.{no_place, its_place, one_place, place_within}
use Rattle.sa_core.proofs.AnalyzeLemmas.{sees_seen, sees_later, sees_lower}
use Rattle.sa_core.proofs.analyze.Seen.see.Goals as goal
use Rattle.sa_core.proofs.analyze.Seen.see.Goals.{in-Some+then-not-at+then-place-mark+in_ok-add-in-Some}
use Rattle.sa_core.proofs.analyze.Seen.see.Goals.{in-Some+then-not-at+else-place-mark, in-Some+else-not-at, in-None}

abbrev first_lit : Lit
first_lit = record { 0 = 0 }

pub at-requires : goal.at-requires
at-requires c =
    let own = c.args.trail.now in
    subst (λ (n : ℕ). c.in-Some.place < n) (sym (c.loop-lit.invariant.sees.same ∙ c.requires.length))
    (place_within own.steps own.places (get_or c.args.lits.now c.loop-lit.lit-index first_lit) c.opposite.result
    own.placed
    c.opposite.ensures c.in-Some.place c.in-Some.ensures)

pub set-requires : goal.set-requires
set-requires c =
    let own = c.args.trail.now in
    subst (λ (n : ℕ). c.in-Some.place < n) (sym (c.loop-lit.invariant.sees.same ∙ c.requires.length))
    (place_within own.steps own.places (get_or c.args.lits.now c.loop-lit.lit-index first_lit) c.opposite.result
    own.placed
    c.opposite.ensures c.in-Some.place c.in-Some.ensures)

pub loop-lit-preserved : goal.loop-lit-preserved
loop-lit-preserved c =
    let own = c.args.trail.now in
    let trail = lits_of own.steps in
    let mark = c.args.mark in
    let old = c.args.self.now in
    let mid = c.loop-lit.self in
    let new = c.match-place_of.self in
    let lits = c.args.lits.now in
    let i = c.loop-lit.lit-index in
    let lit = get_or lits i first_lit in
    let q = c.opposite.result in
    let twice = c.literal_laws.ensures.opposite_twice in
    let front = sym (take_more lits i first_lit c.loop-lit-test.true) in
    let same = sym (c.loop-lit.invariant.sees.same ∙ c.requires.length) in
    elim c.match-place_of.branch [
      | in-Some+then-not-at+then-place-mark+in_ok-add-in-Some w ↦
          let place = w.in-Some.place in
          subst (SeesMore trail mark old new) front
          (sees_lower trail mark old twice mid (take i lits) lit place c.loop-lit.invariant
          (its_place own.steps own.places lit q own.placed c.opposite.ensures place w.in-Some.ensures)
          (subst (λ (n : ℕ). place < n) same
          (place_within own.steps own.places lit q own.placed c.opposite.ensures place w.in-Some.ensures))
          (one_place own.steps own.places lit q own.placed c.opposite.ensures place w.in-Some.ensures) new
          (ap (λ (s : Seen). s.places) w.self-is ∙ w.set.ensures)
          (ap (λ (s : Seen). s.lower) w.self-is ∙ w.in_ok-add-in-Some.ensures.ok) w.if-place-mark.true)
      | in-Some+then-not-at+else-place-mark w ↦
          let place = w.in-Some.place in
          subst (SeesMore trail mark old new) front
          (sees_later trail mark old twice mid (take i lits) lit place c.loop-lit.invariant
          (its_place own.steps own.places lit q own.placed c.opposite.ensures place w.in-Some.ensures)
          (subst (λ (n : ℕ). place < n) same
          (place_within own.steps own.places lit q own.placed c.opposite.ensures place w.in-Some.ensures))
          (one_place own.steps own.places lit q own.placed c.opposite.ensures place w.in-Some.ensures) new
          (ap (λ (s : Seen). s.places) w.self-is ∙ w.set.ensures)
          (ap (λ (s : Seen). s.lower) w.self-is) w.if-place-mark.false)
      | in-Some+else-not-at w ↦
          let place = w.in-Some.place in
          let is : IsSeen mid.places place = w.at.ensures ∙ ap (λ (b : Bool). Some b) w.if-not-at.false in
          subst (λ (s : Seen). SeesMore trail mark old s (take (i + 1) lits)) (sym w.self-is)
          (subst (SeesMore trail mark old mid) front
          (sees_seen trail mark old mid (take i lits) lit c.loop-lit.invariant
          (λ at e.
          subst (IsSeen mid.places)
          (sym (one_place own.steps own.places lit q own.placed c.opposite.ensures place w.in-Some.ensures at e)) is)))
      | in-None w ↦
          subst (λ (s : Seen). SeesMore trail mark old s (take (i + 1) lits)) (sym w.self-is)
          (subst (SeesMore trail mark old mid) front
          (sees_seen trail mark old mid (take i lits) lit c.loop-lit.invariant
          (λ at e. absurd (no_place own.steps own.places lit q own.placed c.opposite.ensures w.in-None.ensures at e))))
    ]
