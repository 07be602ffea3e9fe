-- Instructions end and jump forward.
use Rattle.cf_thin.proofs.InstrLemmas.{instr_ends, target_forward}
use Rattle.cf_thin.proofs.laws.go_forward.Goals as goal

pub returns : goal.returns
returns c = λ code pc instr next is.
    let within = instr_ends code pc instr next is in
    record {
      ends = within.0;
      within = within.1;
      jumps = λ target to. target_forward code pc next target instr is to;
    }
