-- An instruction is refused by the opcode of its bytes.
use Rattle.bd_scan.proofs.OpcodeLemmas.{refused}
use Rattle.bd_scan.proofs.laws.refused_opcodes.Goals as goal

pub returns : goal.returns
returns c = refused
