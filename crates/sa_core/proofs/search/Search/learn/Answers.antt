use Rattle.std.proofs.Common.{◌≡◌, ◌<◌, ◌+◌, ◌*◌, ◌∙◌, ℕ, List, [], ◌∷◌, ◌++◌, Contains, length, slice_index_or}
use Rattle.std.proofs.Common.{refl, sym, subst, ap, arith, length-append}
use Rattle.sa_core.specs.declared.pair.Pair.{Pair}
use Rattle.std.proofs.lemmas.Result.{IfOk-weaker}
use Rattle.jv_list.proofs.MemberLemmas.{first_member}
use Rattle.cn_clauses.specs.declared.lit.Lit.{Lit}
use Rattle.cn_clauses.specs.Literals.{variable_of}
use Rattle.sa_core.specs.declared.trail.Trail.{Trail}
use Rattle.sa_core.specs.TrailView.{code}
use Rattle.sa_core.specs.Watching.{IsStored, IsKept}
use Rattle.sa_core.specs.Calls.Propagate.{Propagates}
use Rattle.sa_core.specs.SearchView.{GoesOn}
use Rattle.sa_core.proofs.CodeLemmas.{code_grows}
use Rattle.sa_core.proofs.JumpLemmas.{learned_within, rest_within, rest_false, limit_fits, jump_open, jump_justified}
use Rattle.sa_core.proofs.JumpLemmas.{jump_were, jump_guarded, jump_rises, kept_but_last}
use Rattle.sa_core.proofs.StartLemmas.{stored_watch}
use Rattle.sa_core.proofs.LitLemmas.{below_size}
use Rattle.sa_core.proofs.search.Search.learn.Goals as goal

last_within : (clauses new : List (List Lit)) (pairs : List Pair) (lits : List Lit) (place : ℕ)
    → new ≡ clauses ++ lits ∷ [] → length pairs ≡ length new → place ≡ length clauses → place < length pairs
last_within clauses new pairs lits place e count end =
    let more : length new ≡ length clauses + 1 = ap length e ∙ length-append clauses (lits ∷ []) in
    omega (arith, more, count, end)

abbrev first_lit : Lit
first_lit = record { 0 = 0 }

first_has : (lits : List Lit) (lit : Lit) (lower : List Lit) → lits ≡ lit ∷ lower
    → Contains lits (slice_index_or lits 0 first_lit)
first_has lits lit lower e =
    subst (λ (l : List Lit). Contains l (slice_index_or l 0 first_lit)) (sym e) (first_member lit lower)

pub height-limit-requires-clause-within : goal.height-limit-requires-clause-within
height-limit-requires-clause-within c =
    let old = c.args.self.now in
    rest_within c.literal_laws.ensures.opposite_twice c.literal_laws.ensures.opposite_variable old.store old.trail.steps
    old.trail.places old.trail.variables c.args.mark c.args.lits.now old.trail.placed old.trail.size
    c.requires.ready.justified c.requires.mark c.requires.learned

pub height-limit-requires-clause-opposed : goal.height-limit-requires-clause-opposed
height-limit-requires-clause-opposed c =
    let old = c.args.self.now in
    rest_false c.literal_laws.ensures.opposite_twice c.literal_laws.ensures.opposite_variable old.store old.trail.steps
    old.trail.places old.trail.variables c.args.mark c.args.lits.now old.trail.placed old.trail.size
    c.requires.ready.justified c.requires.mark c.requires.learned

pub first_decision-from-requires-clause-from : goal.first_decision-from-requires-clause-from
first_decision-from-requires-clause-from c =
    let old = c.args.self.now in
    limit_fits c.literal_laws.ensures.opposite_twice c.literal_laws.ensures.opposite_variable old.store old.trail.steps
    old.trail.places old.trail.variables c.args.mark c.args.lits.now old.trail.placed old.trail.size
    c.requires.ready.justified c.requires.mark c.requires.learned c.height-limit.result c.height-limit.ensures

pub store_clause-requires : goal.store_clause-requires
store_clause-requires c lit has =
    let old = c.args.self.now in
    subst (λ (n : ℕ). variable_of lit < n) (sym c.cut.ensures.variables)
    (learned_within c.literal_laws.ensures.opposite_twice c.literal_laws.ensures.opposite_variable old.store
    old.trail.steps old.trail.places old.trail.variables c.args.mark c.args.lits.now old.trail.placed old.trail.size
    c.requires.ready.justified c.requires.mark c.requires.learned lit has)

pub push-requires-clause-within : goal.push-requires-clause-within
push-requires-clause-within c =
    let old = c.args.self.now in
    let kept : c.store_clause.new.self.trail.variables ≡ old.trail.variables =
    ap (λ (t : Trail). t.variables) c.in_ok-store_clause.ensures.trail ∙ c.cut.ensures.variables in
    subst (λ (n : ℕ). variable_of (slice_index_or c.args.lits.now 0 first_lit) < n) (sym kept)
    (learned_within c.literal_laws.ensures.opposite_twice c.literal_laws.ensures.opposite_variable old.store
    old.trail.steps old.trail.places old.trail.variables c.args.mark c.args.lits.now old.trail.placed old.trail.size
    c.requires.ready.justified c.requires.mark c.requires.learned (slice_index_or c.args.lits.now 0 first_lit)
    (first_has c.args.lits.now c.requires.learned.lit c.requires.learned.lower c.requires.learned.is))

pub push-requires-clause-open : goal.push-requires-clause-open
push-requires-clause-open c =
    let old = c.args.self.now in
    let mid = c.store_clause.new.self in
    jump_open c.literal_laws.ensures.opposite_twice c.literal_laws.ensures.opposite_variable old.store old.trail.steps
    old.trail.places old.trail.variables c.args.mark c.args.lits.now old.trail.placed old.trail.size
    c.requires.ready.justified c.requires.mark c.requires.learned c.height-limit.result c.height-limit.ensures
    c.first_decision-from.result c.first_decision-from.ensures mid.trail.steps
    (ap (λ (t : Trail). t.steps) c.in_ok-store_clause.ensures.trail ∙ c.cut.ensures.steps)

pub pair_of-pair-requires-clause-within : goal.pair_of-pair-requires-clause-within
pair_of-pair-requires-clause-within c =
    let old = c.args.self.now in
    learned_within c.literal_laws.ensures.opposite_twice c.literal_laws.ensures.opposite_variable old.store
    old.trail.steps old.trail.places old.trail.variables c.args.mark c.args.lits.now old.trail.placed old.trail.size
    c.requires.ready.justified c.requires.mark c.requires.learned

pub watch-requires-clause-place : goal.watch-requires-clause-place
watch-requires-clause-place c =
    let old = c.args.self.now in
    let mid = c.store_clause.new.self in
    let stored =
    c.in_ok-store_clause.ensures.stored
    (subst (λ (n : ℕ). IsStored n old.store old.watchers) (sym c.cut.ensures.variables) c.requires.ready.stored) in
    last_within old.store mid.store mid.watchers.pairs c.args.lits.now c.length-place.result
    c.in_ok-store_clause.ensures.clauses stored.count c.length-place.ensures

pub watch-requires-clause-first : goal.watch-requires-clause-first
watch-requires-clause-first c =
    let old = c.args.self.now in
    let mid = c.store_clause.new.self in
    let stored =
    c.in_ok-store_clause.ensures.stored
    (subst (λ (n : ℕ). IsStored n old.store old.watchers) (sym c.cut.ensures.variables) c.requires.ready.stored) in
    let kept : c.store_clause.new.self.trail.variables ≡ old.trail.variables =
    ap (λ (t : Trail). t.variables) c.in_ok-store_clause.ensures.trail ∙ c.cut.ensures.variables in
    let pair = c.pair_of-pair.result in
    below_size pair.first mid.trail.variables (length mid.watchers.lists.items)
    (subst (λ (n : ℕ). variable_of pair.first < n) (sym kept)
    (learned_within c.literal_laws.ensures.opposite_twice c.literal_laws.ensures.opposite_variable old.store
    old.trail.steps old.trail.places old.trail.variables c.args.mark c.args.lits.now old.trail.placed old.trail.size
    c.requires.ready.justified c.requires.mark c.requires.learned pair.first
    (subst (Contains c.args.lits.now) (sym c.pair_of-pair.ensures.first)
    (first_has c.args.lits.now c.requires.learned.lit c.requires.learned.lower c.requires.learned.is))))
    stored.size

pub watch-requires-clause-second : goal.watch-requires-clause-second
watch-requires-clause-second c =
    let old = c.args.self.now in
    let mid = c.store_clause.new.self in
    let stored =
    c.in_ok-store_clause.ensures.stored
    (subst (λ (n : ℕ). IsStored n old.store old.watchers) (sym c.cut.ensures.variables) c.requires.ready.stored) in
    let kept : c.store_clause.new.self.trail.variables ≡ old.trail.variables =
    ap (λ (t : Trail). t.variables) c.in_ok-store_clause.ensures.trail ∙ c.cut.ensures.variables in
    let pair = c.pair_of-pair.result in
    below_size pair.second mid.trail.variables (length mid.watchers.lists.items)
    (subst (λ (n : ℕ). variable_of pair.second < n) (sym kept)
    (learned_within c.literal_laws.ensures.opposite_twice c.literal_laws.ensures.opposite_variable old.store
    old.trail.steps old.trail.places old.trail.variables c.args.mark c.args.lits.now old.trail.placed old.trail.size
    c.requires.ready.justified c.requires.mark c.requires.learned pair.second
    c.pair_of-pair.ensures.second))
    stored.size

pub propagate-requires-clause-kept : goal.propagate-requires-clause-kept
propagate-requires-clause-kept c =
    let old = c.args.self.now in
    let mid = c.store_clause.new.self in
    let stored =
    c.in_ok-store_clause.ensures.stored
    (subst (λ (n : ℕ). IsStored n old.store old.watchers) (sym c.cut.ensures.variables) c.requires.ready.stored) in
    let within : c.length-place.result < length mid.watchers.pairs =
    last_within old.store mid.store mid.watchers.pairs c.args.lits.now c.length-place.result
    c.in_ok-store_clause.ensures.clauses stored.count c.length-place.ensures in
    let still =
    kept_but_last old.store old.watchers.pairs mid.watchers.pairs c.watch.new.self.pairs c.pair_of-pair.result
    c.length-place.result c.requires.ready.stored.count c.length-place.ensures
    c.in_ok-store_clause.ensures.pairs c.in_ok-watch.ensures.pairs within in
    subst (λ (n : ℕ). IsKept n mid.store c.watch.new.self c.push.new.self.steps) (sym c.in_ok-push.ensures.variables)
    (record {
      stored =
          stored_watch mid.trail.variables mid.store mid.watchers c.watch.new.self c.pair_of-pair.result
          c.length-place.result stored within c.in_ok-watch.ensures.lists c.in_ok-watch.ensures.pairs;
      justified = jump_justified c.literal_laws.ensures.opposite_twice c.literal_laws.ensures.opposite_variable
          old.store
          old.trail.steps old.trail.places old.trail.variables c.args.mark c.args.lits.now old.trail.placed
          old.trail.size
          c.requires.ready.justified c.requires.mark c.requires.learned c.height-limit.result c.height-limit.ensures
          c.first_decision-from.result c.first_decision-from.ensures mid.trail.steps
          (ap (λ (t : Trail). t.steps) c.in_ok-store_clause.ensures.trail ∙ c.cut.ensures.steps) mid.store
          c.in_ok-store_clause.ensures.clauses _ refl c.length-place.result refl c.length-place.ensures
          c.push.new.self.steps c.in_ok-push.ensures.ok;
      guarded = jump_were c.literal_laws.ensures.opposite_twice c.literal_laws.ensures.opposite_variable old.store
          old.trail.steps old.trail.places old.trail.variables c.args.mark c.args.lits.now old.trail.placed
          old.trail.size
          c.requires.ready.justified c.requires.mark c.requires.learned c.height-limit.result c.height-limit.ensures
          c.first_decision-from.result c.first_decision-from.ensures mid.trail.steps
          (ap (λ (t : Trail). t.steps) c.in_ok-store_clause.ensures.trail ∙ c.cut.ensures.steps) mid.store
          c.in_ok-store_clause.ensures.clauses _ refl c.length-place.result refl c.length-place.ensures
          c.push.new.self.steps c.in_ok-push.ensures.ok
          old.watchers.pairs c.watch.new.self.pairs c.pair_of-pair.result c.pair_of-pair.ensures
          c.requires.ready.guarded still;
    })

pub propagate-requires-clause-guarded : goal.propagate-requires-clause-guarded
propagate-requires-clause-guarded c =
    let old = c.args.self.now in
    let mid = c.store_clause.new.self in
    let stored =
    c.in_ok-store_clause.ensures.stored
    (subst (λ (n : ℕ). IsStored n old.store old.watchers) (sym c.cut.ensures.variables) c.requires.ready.stored) in
    let within : c.length-place.result < length mid.watchers.pairs =
    last_within old.store mid.store mid.watchers.pairs c.args.lits.now c.length-place.result
    c.in_ok-store_clause.ensures.clauses stored.count c.length-place.ensures in
    let still =
    kept_but_last old.store old.watchers.pairs mid.watchers.pairs c.watch.new.self.pairs c.pair_of-pair.result
    c.length-place.result c.requires.ready.stored.count c.length-place.ensures
    c.in_ok-store_clause.ensures.pairs c.in_ok-watch.ensures.pairs within in
    jump_guarded c.literal_laws.ensures.opposite_twice c.literal_laws.ensures.opposite_variable old.store
    old.trail.steps old.trail.places old.trail.variables c.args.mark c.args.lits.now old.trail.placed old.trail.size
    c.requires.ready.justified c.requires.mark c.requires.learned c.height-limit.result c.height-limit.ensures
    c.first_decision-from.result c.first_decision-from.ensures mid.trail.steps
    (ap (λ (t : Trail). t.steps) c.in_ok-store_clause.ensures.trail ∙ c.cut.ensures.steps) mid.store
    c.in_ok-store_clause.ensures.clauses _ refl c.length-place.result refl c.length-place.ensures
    c.push.new.self.steps c.in_ok-push.ensures.ok old.watchers.pairs
    c.watch.new.self.pairs c.pair_of-pair.result c.requires.ready.guarded still

pub returns-clause-goes : goal.returns-clause-goes
returns-clause-goes c =
    let old = c.args.self.now in
    let mid = c.store_clause.new.self in
    let new = c.propagate.new.trail in
    let watchers = c.propagate.new.watchers in
    let steps = c.push.new.self.steps in
    let size = 2 * old.trail.variables in
    let kept : c.store_clause.new.self.trail.variables ≡ old.trail.variables =
    ap (λ (t : Trail). t.variables) c.in_ok-store_clause.ensures.trail ∙ c.cut.ensures.variables in
    let moved : new.variables ≡ mid.trail.variables = c.propagate.ensures.variables ∙ c.in_ok-push.ensures.variables in
    let first =
    jump_rises c.literal_laws.ensures.opposite_twice c.literal_laws.ensures.opposite_variable old.store
    old.trail.steps old.trail.places old.trail.variables c.args.mark c.args.lits.now old.trail.placed old.trail.size
    c.requires.ready.justified c.requires.mark c.requires.learned c.height-limit.result c.height-limit.ensures
    c.first_decision-from.result c.first_decision-from.ensures mid.trail.steps
    (ap (λ (t : Trail). t.steps) c.in_ok-store_clause.ensures.trail ∙ c.cut.ensures.steps) mid.store
    c.in_ok-store_clause.ensures.clauses _ refl c.length-place.result refl c.length-place.ensures
    c.push.new.self.steps c.in_ok-push.ensures.ok in
    IfOk-weaker c.propagate.result (Propagates c.push.new.self.variables mid.store watchers steps new.steps)
    (GoesOn old (record { store = mid.store; watchers = watchers; trail = new }))
    (λ found p.
    let second = code_grows size steps new.steps p.grows in
    record {
      ready = subst (λ (n : ℕ). IsKept n mid.store watchers new.steps) (sym c.propagate.ensures.variables) p.kept;
      variables = moved ∙ kept;
      finds = p.finds;
      ended = p.ended;
      rises =
          subst (λ (n : ℕ). code size old.trail.steps < code (2 * n) new.steps) (sym (moved ∙ kept))
          (omega (arith, first, second));
    })
    c.propagate.ensures.propagates
