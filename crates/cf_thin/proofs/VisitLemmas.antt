-- One visit keeps what is found sound, and below any shapes that meet the rules.
use Rattle.std.proofs.Common.{◌≡◌, ◌<◌, ◌+◌, ℕ, true, List, length, Option, Some, None, refl, sym, ap}
use Rattle.std.proofs.Common.{subst, ◌∙◌, arith, inl, inr}
use Rattle.std.proofs.lemmas.List.{length-set}
use Rattle.cf_thin.specs.declared.instr.ThinInstr.{ThinInstr}
use Rattle.cf_thin.specs.declared.shape.Shape.{Shape}
use Rattle.cf_thin.specs.declared.shape.Limits.{Limits}
use Rattle.cf_thin.specs.Instr.{target_of, Places, instr_at}
use Rattle.cf_thin.specs.ThinCode.{IsStart, Next, Shapes, IsLed, Steps, Flows, MeetsRules, HasInstrs, falls_through}
use Rattle.cf_thin.specs.Calls.Passes.{LeadsToAny, HaveLocals, Covers, IsSound, FlowsTo, CannotFlow, fall_of, shape_at}
use Rattle.cf_thin.proofs.KnownLemmas.{known_length, steps_length, steps_more, steps_weaker}
use Rattle.cf_thin.proofs.InstrLemmas.{instr_ends, found_parts, target_forward}
use Rattle.cf_thin.proofs.SweepLemmas.{start_within}
use Rattle.std.proofs.lemmas.Option.{cond_some}
use Rattle.cf_thin.specs.declared.shape.OperandType.{OperandType}
use Rattle.cf_thin.proofs.GrowthLemmas.{same_some, led_weaker, led_covers, IsBehind, flow_grows}
use Rattle.cf_thin.proofs.GrowthLemmas.{lead_any_covers, refuses_not}
use Rattle.jv_list.proofs.TestLemmas.{same_or_not}

leads_long : (old new : List (Option Shape)) (shape : Shape) (to : Option ℕ) → LeadsToAny old shape to new
    → length new ≡ length old
leads_long old new shape None leads = ap length leads
leads_long old new shape (Some t) leads = ap length leads.put ∙ length-set old t (Some leads.both)

fall_is : (instr : ThinInstr) (next : ℕ) → falls_through instr ≡ true → fall_of instr next ≡ Some next
fall_is instr next f = rw f refl

-- what one visit keeps, where there is no shape
pub visit_none : (code : Places) (limits : Limits) (found : List (Option Shape)) (pc : ℕ) → IsSound code limits found pc
    → shape_at found pc ≡ None → IsSound code limits found (pc + 1)
visit_none code limits found pc sound none = record {
  long = sound.long;
  entry = sound.entry;
  fits = sound.fits;
  flows = λ at s lt is. same_or_not at pc (λ same. let no : None ≡ Some s = sym none ∙ ap (shape_at found) (sym same)
      ∙ is in absurd cc) (λ ne. sound.flows at s (omega arith) is);
}

fall_behind : (instr : ThinInstr) (next t : ℕ) → fall_of instr next ≡ Some t → (falls_through instr ≡ true) × (next ≡ t)
fall_behind instr next t is = cond_some (falls_through instr) next t is

flows_more : (code : Places) (limits : Limits) (old new : List (Option Shape)) (pc : ℕ) (s : Shape)
    → Covers old (shape_at new) → Flows code limits (shape_at old) pc s → Flows code limits (shape_at new) pc s
flows_more code limits old new pc s covers flows = record {
  instr = flows.instr;
  next = flows.next;
  after = flows.after;
  is = flows.is;
  steps = flows.steps;
  falls = λ f. led_covers old (shape_at new) flows.after flows.next (flows.falls f) covers;
  jumps = λ t to. led_covers old (shape_at new) flows.after t (flows.jumps t to) covers;
}

-- the shape after a visited pc has the locals of the method
pub visit_locals : (code : Places) (limits : Limits) (found : List (Option Shape)) (pc : ℕ) (instr : ThinInstr)
    (shape after : Shape) → IsSound code limits found pc → shape_at found pc ≡ Some shape
    → Steps limits instr shape after → HaveLocals found (length after.locals)
visit_locals code limits found pc instr shape after sound is steps at s is' =
    (sound.fits at s is').locals ∙ sym ((sound.fits pc shape is).locals) ∙ sym
    (steps_length limits instr shape after steps)

-- a visit keeps what is found sound
pub visit_sound : (code : Places) (limits : Limits) (old new : List (Option Shape)) (pc next : ℕ) (instr : ThinInstr)
    (shape after : Shape) → HasInstrs code → IsSound code limits old pc → shape_at old pc ≡ Some shape
    → instr_at code pc ≡ Some (instr, next) → Steps limits instr shape after
    → FlowsTo old after (fall_of instr next) (target_of instr) new → IsSound code limits new (pc + 1)
visit_sound code limits old new pc next instr shape after instrs sound is found steps flows =
    let start : IsStart code pc = (sound.fits pc shape is).start in
    let have = visit_locals code limits old pc instr shape after sound is steps in
    let behind1 : (t : ℕ) → fall_of instr next ≡ Some t → IsBehind code pc t =
    λ t e. let f = fall_behind instr next t e in let ends = instr_ends code pc instr next found in (
      omega (arith, f.1, ends.0),
      λ lt. subst (λ (p : ℕ). IsStart code p) f.1
          (Next pc next instr start found (omega (arith, f.1, lt))),
    ) in
    let behind2 : (t : ℕ) → target_of instr ≡ Some t → IsBehind code pc t =
    λ t e. (target_forward code pc next t instr found e, λ lt. instrs.aimed pc next t instr start found e) in
    let g = flow_grows code pc (fall_of instr next)
    (target_of instr) old new after sound.long have behind1 behind2 flows in
    record {
      long = g.0.long ∙ sound.long;
      entry = (sound.entry.0, g.0.same 0 (omega arith) ∙ sound.entry.1, sound.entry.2, sound.entry.3);
      fits = λ at s put. elim (g.0.fresh at s put) [
        | inl was ↦ sound.fits at s was
        | inr fresh ↦ record {
          start = fresh.0;
          stack = let e = ap (λ (x : List OperandType). length x) fresh.1.stack in let room = steps.room in
              omega (arith, e, room);
          locals = known_length s.locals after.locals fresh.1.locals ∙ steps_length limits instr shape after steps
              ∙ (sound.fits pc shape is).locals;
        }
      ];
      flows = λ at s lt put.
          let was : shape_at old at ≡ Some s = sym (g.0.same at (omega arith)) ∙ put in
          same_or_not at pc
          (λ same.
          let s-is : shape ≡ s = same_some shape s (sym is ∙ ap (shape_at old) (sym same) ∙ was) in
          record {
            instr = instr;
            next = next;
            after = after;
            is = ap (instr_at code) same ∙ found;
            steps = subst (λ (x : Shape). Steps limits instr x after) s-is steps;
            falls = λ f. g.1 next (fall_is instr next f);
            jumps = g.2;
          })
          (λ ne. flows_more code limits old new at s g.0.keeps (sound.flows at s (omega arith) was));
    }

-- an assignment that meets the rules flows from what is found, since that is below it
pub visit_led : (code : Places) (limits : Limits) (all : Shapes) (found : List (Option Shape)) (pc next : ℕ)
    (instr : ThinInstr) (shape after : Shape) → MeetsRules code limits all → Covers found all
    → shape_at found pc ≡ Some shape → instr_at code pc ≡ Some (instr, next) → Steps limits instr shape after
    → ((t : ℕ) → fall_of instr next ≡ Some t → IsLed all after t) × ((t : ℕ) → target_of instr ≡ Some t
    → IsLed all after t)
visit_led code limits all found pc next instr shape after rules covers is at steps =
    let c = covers pc shape is in
    let flows = rules.flows pc c.0 c.1 in
    let same = found_parts flows.instr instr flows.next next (sym flows.is ∙ at) in
    let steps' : Steps limits instr c.0 flows.after =
    subst (λ (i : ThinInstr). Steps limits i c.0 flows.after) same.0 flows.steps in
    let more = steps_more limits instr c.0 shape flows.after c.2 steps' in
    let less = steps_weaker limits instr shape more.0 after flows.after more.1 steps more.2 in (
      λ t e. let f = fall_behind instr next t e in
          led_weaker all flows.after after t less
          (subst (λ (p : ℕ). IsLed all flows.after p) (same.1 ∙ f.1) (flows.falls (ap falls_through same.0 ∙ f.0))),
      λ t e. led_weaker all flows.after after t less (flows.jumps t (ap target_of same.0 ∙ e)),
    )

-- a shape that is found steps, if any assignment meets the rules
pub visit_steps : (code : Places) (limits : Limits) (all : Shapes) (found : List (Option Shape)) (pc next : ℕ)
    (instr : ThinInstr) (shape : Shape) → MeetsRules code limits all → Covers found all → shape_at found pc ≡ Some shape
    → instr_at code pc ≡ Some (instr, next) → (after : Shape) × Steps limits instr shape after
visit_steps code limits all found pc next instr shape rules covers is at =
    let c = covers pc shape is in
    let flows = rules.flows pc c.0 c.1 in
    let same = found_parts flows.instr instr flows.next next (sym flows.is ∙ at) in
    let steps' : Steps limits instr c.0 flows.after =
    subst (λ (i : ThinInstr). Steps limits i c.0 flows.after) same.0 flows.steps in
    let more = steps_more limits instr c.0 shape flows.after c.2 steps' in
    (more.0, more.1)

-- an instruction is at each shape that is found, if any assignment meets the rules
pub visit_instr : (code : Places) (limits : Limits) (all : Shapes) (found : List (Option Shape)) (pc : ℕ)
    (shape : Shape) → MeetsRules code limits all → Covers found all → shape_at found pc ≡ Some shape
    → instr_at code pc ≡ None → ⊥
visit_instr code limits all found pc shape rules covers is none =
    let c = covers pc shape is in
    let flows = rules.flows pc c.0 c.1 in
    let e = sym none ∙ flows.is in cc (e)

-- what grows stays below each assignment that meets the rules
pub visit_covers : (code : Places) (limits : Limits) (all : Shapes) (old new : List (Option Shape)) (pc next : ℕ)
    (instr : ThinInstr) (shape after : Shape) → MeetsRules code limits all → Covers old all
    → shape_at old pc ≡ Some shape → instr_at code pc ≡ Some (instr, next) → Steps limits instr shape after
    → FlowsTo old after (fall_of instr next) (target_of instr) new → Covers new all
visit_covers code limits all old new pc next instr shape after rules covers is at steps flows =
    let led = visit_led code limits all old pc next instr shape after rules covers is at steps in
    lead_any_covers all (target_of instr) flows.0 new after
    (lead_any_covers all (fall_of instr next) old flows.0 after covers led.0 flows.1) led.1 flows.2

-- nothing is refused, if any assignment meets the rules
pub visit_refuses : (code : Places) (limits : Limits) (all : Shapes) (old : List (Option Shape)) (pc next : ℕ)
    (instr : ThinInstr) (shape after : Shape) → 0 < length code → length old ≡ length code → MeetsRules code limits all
    → Covers old all → shape_at old pc ≡ Some shape → instr_at code pc ≡ Some (instr, next)
    → Steps limits instr shape after → CannotFlow old after (fall_of instr next) (target_of instr) → ⊥
visit_refuses code limits all old pc next instr shape after filled long rules covers is at steps cannot =
    let led = visit_led code limits all old pc next instr shape after rules covers is at steps in
    let within = λ (t : ℕ) (s : Shape) (e : all t ≡ Some s). start_within code filled t (rules.fits t s e).start in
    elim cannot [
      | inl refused ↦
          refuses_not all (fall_of instr next) old after covers
          (λ t s e. omega (arith, within t s e, long)) led.0 refused
      | inr later ↦
          refuses_not all (target_of instr) later.0 after
          (lead_any_covers all (fall_of instr next) old later.0 after covers led.0 later.1)
          (λ t s e. omega (arith, within t s e, long, leads_long old later.0 after (fall_of instr next) later.1)) led.1
          later.2
    ]
