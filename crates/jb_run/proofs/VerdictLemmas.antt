-- The solver's answer for the bit of a goal is the verdict.
use Rattle.cf_thin.specs.Instr.{Places}
use Rattle.std.proofs.Common.{◌≡◌, ◌+◌, ℕ, ℤ, Bool, true, false, List, length, replicate, Some, refl, sym}
use Rattle.std.proofs.Common.{ap, ◌∙◌, subst, arith, length-append}
use Rattle.std.proofs.lemmas.List.{length-replicate}
use Rattle.jv_base.specs.declared.input.Input.{Input}
use Rattle.jv_base.specs.declared.method.Bounds.{Bounds}
use Rattle.jv_base.specs.declared.method.Kind.{Kind}
use Rattle.jv_base.specs.declared.method.MethodId.{MethodId}
use Rattle.cf_thin.specs.Thin.{int_descriptor, end_of}
use Rattle.jb_run.specs.declared.encoding.Encoding.{Encoding}
use Rattle.jb_run.specs.declared.report.Verdict.TheVariants.{Success, Failure}
use Rattle.jb_run.specs.declared.solver.Answer.TheVariants.{Unsat}
use Rattle.jb_run.specs.Verdicts.{IsEncodingOf}
use Rattle.jb_run.specs.Justified.{IsJustified}
use Rattle.jb_run.specs.Represents.{goal_bit}
use Rattle.jb_run.specs.Satisfies.{bit_value, Satisfies}
use Rattle.jb_run.specs.Shown.{ShowInts}
use Rattle.jb_run.specs.Solved.{value_at, IsRight}
use Rattle.jb_run.specs.Violates.{HasInts, HaveRoom, RunViolates, RunsGoOn}
use Rattle.jb_run.proofs.InputLemmas.{ints_fit, ints_number}
use Rattle.jb_run.proofs.ShownIntLemmas.{ints_once}
use Rattle.jv_list.proofs.ToldLemmas.{told_map}
use Rattle.std.proofs.lemmas.Option.{same_Some}

-- the ints of an input are determined
input_once : (input : Input) (first second : List ℤ) → HasInts input first → HasInts input second → first ≡ second
input_once input first second has also =
    told_map (λ (n : ℤ). Some n) (λ x y. same_Some x y) first second (sym has ∙ also)

end_long : (gives_int : Bool) → length (end_of gives_int) ≡ 2
end_long true = refl
end_long false = refl

descriptor_long : (params : ℕ) (gives_int : Bool) → length (int_descriptor params gives_int) ≡ params + 3
descriptor_long params gives_int =
    omega (
      arith,
      length-append (replicate params 73) (end_of gives_int),
      length-replicate {A = ℕ} params 73,
      end_long gives_int,
    )

-- how many parameters a descriptor of ints has
pub params_once : (first second : ℕ) (one other : Bool) → int_descriptor first one ≡ int_descriptor second other
    → first ≡ second
params_once first second one other same =
    omega (arith, descriptor_long first one, descriptor_long second other, ap (λ (d : List ℕ). length d) same)

pub params_is : (params : ℕ) (gives_int : Bool) (descriptor : List ℕ) → descriptor ≡ int_descriptor params gives_int
    → params + 3 ≡ length descriptor
params_is params gives_int descriptor is = sym (ap (λ (d : List ℕ). length d) is ∙ descriptor_long params gives_int)

-- no run of an input of the method that is encoded is stuck
pub goes_on : (encoding : Encoding) (code : Places) (method : MethodId) → IsEncodingOf code method encoding →
    RunsGoOn code method
goes_on encoding code method of input is =
    let number : length is.ints ≡ of.params =
    params_once (length is.ints) of.params is.gives_int of.gives_int (sym is.descriptor ∙ of.descriptor) in
    of.represents.goes_on is.ints number is.fit

-- no assignment makes the goal true, so no input violates it
pub unsat_justified : (encoding : Encoding) (code : Places) (method : MethodId) (bounds : Bounds) (pc : ℕ) (kind : Kind)
    → IsRight encoding.formula (goal_bit encoding.raised pc kind) Unsat → IsEncodingOf code method encoding
    → IsJustified bounds code method pc kind Success
unsat_justified encoding code method bounds pc kind right of input is_input violates =
    let represents = of.represents in
    let same : is_input.ints ≡ violates.ints = input_once input is_input.ints violates.ints is_input.args violates.args
    in
    let number : length is_input.ints ≡ of.params =
    params_once (length is_input.ints) of.params is_input.gives_int of.gives_int (sym is_input.descriptor
    ∙ of.descriptor) in
    let a = represents.has is_input.ints number is_input.fit in
    let run : RunViolates code is_input.ints pc kind =
    subst (λ (ints : List ℤ). RunViolates code ints pc kind) (sym same) violates.run in
    right represents.clauses (represents.goals pc kind) a.0 a.1 ((a.3 pc kind).1 run)

-- the assignment makes the goal true, so the input that it shows violates it
pub sat_justified : (encoding : Encoding) (code : Places) (method : MethodId) (bounds : Bounds) (pc : ℕ) (kind : Kind)
    (values : List Bool) (input : Input) (ints : List ℤ) → Satisfies (value_at values) encoding.formula
    → bit_value (value_at values) (goal_bit encoding.raised pc kind) ≡ true → HasInts input ints
    → ShowInts (value_at values) encoding.inputs ints → IsEncodingOf code method encoding
    → HaveRoom bounds → IsJustified bounds code method pc kind (Failure input)
sat_justified encoding code method bounds pc kind values input ints holds on has shows of room =
    let represents = of.represents in
    let a = value_at values in
    let run = represents.shows a holds in
    let same : run.0 ≡ ints = ints_once a encoding.inputs run.0 ints run.1 shows in
    let violates : RunViolates code ints pc kind =
    subst (λ (l : List ℤ). RunViolates code l pc kind) same ((run.2 pc kind).0 on) in
    let number : length ints ≡ of.params = ints_number a encoding.inputs ints shows ∙ represents.number in (
      record {
        ints = ints;
        args = has;
        fit = ints_fit a encoding.inputs ints shows;
        gives_int = of.gives_int;
        descriptor = of.descriptor ∙ ap (λ (n : ℕ). int_descriptor n of.gives_int) (sym number);
      },
      record { within = room; ints = ints; args = has; run = violates },
    )
