-- The kind of a class that is known.
use Rattle.std.proofs.Common.{sym}
use Rattle.bd_refusals.proofs.KnownLemmas.{kind_builtin, kind_read, read_file}
use Rattle.bd_refusals.proofs.known.kind_of.Goals as goal

pub returns-in-Some : goal.returns-in-Some
returns-in-Some c =
    kind_builtin c.args.classes.now c.args.name.now c.in-Some.class c.is_interface.result c.in-Some.ensures.found
    c.in-Some.ensures.only c.is_interface.ensures

pub returns-in-Some-read : goal.returns-in-Some-read
returns-in-Some-read c =
    kind_read c.args.classes.now c.args.name.now c.in-Some-read.class.now c.has_flag.result
    (read_file c.args.classes.now c.args.name.now c.in-Some-read.class.now (sym c.in-Some-read.ensures))
    c.in_default.ensures.only c.has_flag.ensures
