use Rattle.std.proofs.Common.{◌≡◌, ◌<◌, inl, inr, ◌+◌, ℕ, Bool, true, false, ◌||◌, List, [], length, take, set, get_or}
use Rattle.std.proofs.Common.{replicate, sym, ap, subst, ◌∙◌, arith, eq-eqb}
use Rattle.std.specs.Prelude.{nat_eq}
use Rattle.std.specs.List.{All, list_any}
use Rattle.std.proofs.lemmas.Bool.{cases_eq, cases_lt, ne_eqb}
use Rattle.std.proofs.lemmas.List.{get_or-set_other, get_or-replicate, get_or_past, length-replicate, take_all}
use Rattle.std.proofs.lemmas.Grind.{get_or-set_at}
use Rattle.std.proofs.lemmas.List.Folds.{list_any_more}
use Rattle.std.proofs.Math.Bool.{or-true, or-false}
use Rattle.cf_code.specs.Steps.Starts.{Marks}
use Rattle.cf_code.proofs.decoding.marks_of.Goals as goal

-- one more start is marked
marks_more : (marks : List Bool) (starts : List ℕ) (k pc : ℕ) → k < length starts → pc < length marks
    → pc ≡ get_or starts k 0 → Marks marks (take k starts) → Marks (set marks pc true) (take (k + 1) starts)
marks_more marks starts k pc l inside e h at =
    let more : list_any (nat_eq at) (take (k + 1) starts) ≡ (list_any (nat_eq at) (take k starts) || nat_eq at pc) =
    list_any_more (nat_eq at) starts k 0 l ∙ ap (λ (n : ℕ). list_any (nat_eq at) (take k starts) || nat_eq at n) (sym e)
    in
    elim (cases_eq at pc) [
      | inl same ↦
          get_or-set_at marks pc at true false same inside ∙ sym
          (more ∙ ap (λ (b : Bool). list_any (nat_eq at) (take k starts) || b) (eq-eqb at pc same) ∙ or-true _)
      | inr other ↦ get_or-set_other marks pc at true false other
          ∙ h at ∙ sym (more ∙ ap (λ (b : Bool). list_any (nat_eq at) (take k starts) || b) (ne_eqb at pc other)
          ∙ or-false _)
    ]

-- no byte is marked
marks_none : (marks : List Bool) (count : ℕ) → marks ≡ replicate count false → Marks marks []
marks_none marks count e at =
    ap (λ (bs : List Bool). get_or bs at false) e ∙ elim (cases_lt at count) [
      | inl inside ↦ get_or-replicate count at false false inside
      | inr past ↦ get_or_past (replicate count false) at false (omega (arith, past, length-replicate count false))
    ]

pub loop-pc-init : goal.loop-pc-init
loop-pc-init c = (
  c.in_ok-marks.ensures.len,
  marks_none c.in_ok-marks.marks.items c.args.count
      (c.in_ok-marks.ensures.items_if_clones_equal (λ y e. e)),
)

pub loop-pc-preserved : goal.loop-pc-preserved
loop-pc-preserved c =
    let marks = c.loop-pc.marks.items in
    let pcs = c.deref-pc-items.result.now in
    let k = c.loop-pc.pc-index in
    let inside =
    subst (λ (ps : List ℕ). All (λ (pc : ℕ). pc < c.args.count) ps)
    (sym c.deref-pc-items.ensures.value) c.requires k 0 c.loop-pc-test.true in (
      c.loop-pc.invariant.0,
      marks_more marks pcs k c.from.result c.loop-pc-test.true
          (omega (arith, inside, c.from.ensures, c.loop-pc.invariant.0, c.loop-pc.marks.ok)) c.from.ensures
          c.loop-pc.invariant.1,
    )

pub invariant_of-result : goal.invariant_of-result
invariant_of-result c =
    let pcs = c.deref-pc-items.result.now in
    let all = take_all c.loop-pc.pc-index pcs c.loop-pc-test.false ∙ c.deref-pc-items.ensures.value in
    record { marked = subst (λ (ps : List ℕ). Marks c.loop-pc.marks.items ps) all c.loop-pc.invariant.1 }
