use Rattle.std.proofs.Common.{◌≡◌, List, length, map, Some, ap, refl, sym, subst, ◌∙◌, arith}
use Rattle.jb_run.specs.declared.int_bits.IntBits.{IntBits}
use Rattle.jb_run.proofs.LoopLemmas.{LoopsOn, loop_begins, loop_goes, loop_ends}
use Rattle.jb_run.proofs.encoding.encode.Goals as goal

pub pcs-init : goal.pcs-init
pcs-init c =
    subst (λ (inputs : List IntBits). LoopsOn c.args.code.now c.args.params inputs c.arrive.new.self 0)
    (sym c.inputs.view_is)
    (loop_begins c.go_forward.ensures c.weaker_order.ensures c.args.code.now c.args.params c.inputs_of.new.formula
    c.in_ok-inputs.inputs c.in_ok-frame.frame c.in_ok-encoder.encoder c.arrive.new.self
    (c.in_ok-inputs.ensures
    (record { variables = c.new-formula.ensures.variables; clauses = c.new-formula.ensures.clauses }))
    (record {
      guard = c.in_ok-frame.ensures.guard;
      locals = c.in_ok-frame.ensures.locals
          ∙ ap (λ (words : List IntBits). map (λ (w : IntBits). Some w) words) c.as_slice.ensures;
      stack =
          c.in_ok-frame.ensures.stack;
    })
    (record {
      formula_is = c.in_ok-encoder.ensures.formula;
      pending = c.in_ok-encoder.ensures.pending;
      raised = c.in_ok-encoder.ensures.raised;
    })
    c.in_ok-arrive.ensures)

pub pcs-preserved : goal.pcs-preserved
pcs-preserved c =
    loop_goes c.args.code.now c.args.params c.inputs.inside.items.items c.pcs.encoder c.visit.new.encoder c.pcs.pc
    c.pcs.invariant c.in_ok-visit.ensures

pub returns : goal.returns
returns c gives_int max_stack max_locals thin =
    let end : c.pcs.pc ≡ length c.args.code.now = omega (arith, c.pcs-test.false) in
    loop_ends c.go_forward.ensures c.args.code.now c.args.params c.pcs.encoder
    (record { formula = c.pcs.encoder.formula; inputs = c.in_ok-inputs.inputs; raised = c.from_vec.result })
    c.pcs.pc
    (subst (λ (inputs : List IntBits). LoopsOn c.args.code.now c.args.params inputs c.pcs.encoder c.pcs.pc)
    c.inputs.view_is c.pcs.invariant)
    end refl c.from_vec.ensures _ refl thin
