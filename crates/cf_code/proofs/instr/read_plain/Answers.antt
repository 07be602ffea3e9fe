use Rattle.std.proofs.Common.{Some, inl, inr, ap, arith}
use Rattle.cf_code.specs.declared.instr.Instr.{Instr}
use Rattle.cf_code.proofs.InstrLemmas.{one_found, operands_or_opcode}
use Rattle.cf_code.proofs.instr.read_plain.Goals as goal

pub returns-in-Some-clause-only : goal.returns-in-Some-clause-only
returns-in-Some-clause-only c i is plain =
    let same = one_found c.args.pc c.args.bytes.now c.in-Some.instr i (omega arith) c.in-Some.ensures.found is in
    ap (λ (x : Instr). Some x) same

pub returns-clause-only : goal.returns-clause-only
returns-clause-only c i is plain =
    elim (operands_or_opcode c.args.pc c.args.bytes.now i plain is) [
      | inl operands ↦ let none = c.in_default.ensures.only i operands is in absurd cc
      | inr opcode ↦ c.read_alone.ensures.only i opcode
    ]
