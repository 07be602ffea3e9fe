use Rattle.jb_run.proofs.ThinLemmas.{thin_answer}
use Rattle.jb_run.proofs.laws.thin_is_decided.Goals as goal

pub returns : goal.returns
returns c told words command bytes answer is asks cause =
    thin_answer told command bytes asks (c.one_class.ensures bytes asks.are_bytes) words is c.one_command.ensures answer
    cause
