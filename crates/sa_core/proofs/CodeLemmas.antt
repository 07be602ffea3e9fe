-- The number of a trail: it does not fall as steps are pushed, and it rises where a decision gives way to a step with
-- a reason.
use Rattle.std.proofs.Common.{◌≡◌, ℕ, zero, suc, ◌+◌, ◌*◌, ◌^◌, ◌<◌, ◌≤◌, List, [], ◌∷◌, ◌++◌, length, take, Option}
use Rattle.std.proofs.Common.{Some, None, slice_get, refl, sym, ap, ◌∙◌, subst, arith, pow-suc}
use Rattle.std.proofs.lemmas.Option.{same_Some, none-some}
use Rattle.sa_core.specs.declared.step.Step.{Step}
use Rattle.sa_core.specs.TrailView.{Grows, digit, code}

digit_two : (o : Option ℕ) → digit o ≤ 2
digit_two None = omega arith
digit_two (Some reason) = omega arith

digit_one : (o : Option ℕ) → 1 ≤ digit o
digit_one None = omega arith
digit_one (Some reason) = omega arith

three_times : (size : ℕ) → 3 ^ suc size ≡ 3 * 3 ^ size
three_times size = let e = pow-suc 3 size in omega (arith, e)

pow_above : (size : ℕ) → 0 < 3 ^ size
pow_above zero = omega arith
pow_above (suc size) = let rest = pow_above size in let e = three_times size in omega (arith, rest, e)

at_most_two : (d p r q : ℕ) → d ≤ 2 → r < p → q ≡ 3 * p → d * p + r < q
at_most_two zero p r q le lt e = omega (arith, lt, e)
at_most_two (suc zero) p r q le lt e = omega (arith, lt, e)
at_most_two (suc (suc zero)) p r q le lt e = omega (arith, lt, e)
at_most_two (suc (suc (suc d))) p r q le lt e = absurd (omega (arith, le))

-- a number with so many digits in base 3
pub code_below : (size : ℕ) (steps : List Step) → code size steps < 3 ^ size
code_below zero [] = omega arith
code_below zero (s ∷ steps) = omega arith
code_below (suc size) [] = pow_above (suc size)
code_below (suc size) (s ∷ steps) =
    let rest = code_below size steps in
    let few = digit_two s.reason in
    at_most_two (digit s.reason) (3 ^ size) (code size steps) (3 ^ suc size) few rest (three_times size)

head_kept : (s t : Step) (old new : List Step) → Grows (s ∷ old) (t ∷ new) → s ≡ t
head_kept s t old new g = sym (same_Some t s (g.kept zero s refl))

tail_kept : (s t : Step) (old new : List Step) → Grows (s ∷ old) (t ∷ new) → Grows old new
tail_kept s t old new g =
    let longer : suc (length old) ≤ suc (length new) = g.longer in
    record { longer = omega (arith, longer); kept = λ place step e. g.kept (suc place) step e }

-- it does not fall
pub code_grows : (size : ℕ) (old new : List Step) → Grows old new → code size old ≤ code size new
code_grows size [] new g = omega arith
code_grows size (s ∷ old) [] g = absurd (none-some s (g.kept zero s refl))
code_grows zero (s ∷ old) (t ∷ new) g = omega arith
code_grows (suc size) (s ∷ old) (t ∷ new) g =
    let rest = code_grows size old new (tail_kept s t old new g) in
    let same : digit s.reason * 3 ^ size ≡ digit t.reason * 3 ^ size =
    ap (λ (u : Step). digit u.reason * 3 ^ size) (head_kept s t old new g) in
    omega (arith, rest, same)

one_more : (d p : ℕ) → 1 ≤ d → 0 < p → 0 < d * p + 0
one_more zero p le lt = absurd (omega (arith, le))
one_more (suc zero) p le lt = omega (arith, lt)
one_more (suc (suc d)) p le lt = grind (arith, lt)

pushed : (size : ℕ) (old : List Step) (step : Step) → length old < size → code size old < code size (old ++ step ∷ [])
pushed zero old step lt = absurd (omega (arith, lt))
pushed (suc size) [] step lt =
    one_more (digit step.reason) (3 ^ size) (digit_one step.reason) (pow_above size)
pushed (suc size) (s ∷ old) step lt = let rest = pushed size old step (omega (arith, lt)) in omega (arith, rest)

-- a step more
pub code_push : (size : ℕ) (old new : List Step) (step : Step) → new ≡ old ++ step ∷ [] → length old < size
    → code size old < code size new
code_push size old new step e lt = subst (λ (l : List Step). code size old < code size l) (sym e)
    (pushed size old step lt)

-- a decision that gives way to a step with a reason
turned : (size : ℕ) (old : List Step) (place : ℕ) (was step : Step) → length old ≤ size → slice_get old place ≡ Some was
    → was.reason ≡ None → (reason : ℕ) → step.reason ≡ Some reason
    → code size old < code size (take place old ++ step ∷ [])
turned size [] place was step le e none reason some = absurd (none-some was e)
turned zero (s ∷ old) place was step le e none reason some = absurd (omega (arith, le))
turned (suc size) (s ∷ old) zero was step le e none reason some =
    let one : digit s.reason * 3 ^ size ≡ 1 * 3 ^ size =
    ap (λ (o : Option ℕ). digit o * 3 ^ size) (ap (λ (t : Step). t.reason) (same_Some s was e) ∙ none) in
    let two : digit step.reason * 3 ^ size ≡ 2 * 3 ^ size = ap (λ (o : Option ℕ). digit o * 3 ^ size) some in
    let rest = code_below size old in
    omega (arith, one, two, rest)
turned (suc size) (s ∷ old) (suc place) was step le e none reason some =
    let rest = turned size old place was step (omega (arith, le)) e none reason some in
    omega (arith, rest)

pub code_turned : (size : ℕ) (old new : List Step) (place : ℕ) (was step : Step) → length old ≤ size
    → slice_get old place ≡ Some was → was.reason ≡ None → (reason : ℕ) → step.reason ≡ Some reason
    → new ≡ take place old ++ step ∷ [] → code size old < code size new
code_turned size old new place was step le e none reason some is =
    subst (λ (l : List Step). code size old < code size l) (sym is)
    (turned size old place was step le e none reason some)
