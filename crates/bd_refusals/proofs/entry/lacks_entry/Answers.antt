-- The class is built in, or was read, or neither.
use Rattle.std.proofs.Common.{refl, sym}
use Rattle.bd_refusals.specs.Refusals.{built_in, of_file}
use Rattle.bd_refusals.proofs.KnownLemmas.{read_file}
use Rattle.bd_refusals.proofs.EntryLemmas.{by_file}
use Rattle.bd_refusals.proofs.entry.lacks_entry.Goals as goal

pub returns-in-Some : goal.returns-in-Some
returns-in-Some c = (λ yes. built_in c.in-Some._built_in c.in-Some.ensures.found, λ lacks. refl)

pub returns-in-Some-read : goal.returns-in-Some-read
returns-in-Some-read c =
    let classes = c.args.classes.now in
    let entry = c.args.entry.now in
    let class = c.in-Some-read.class.now in
    let is_read = read_file classes entry.class class (sym c.in-Some-read.ensures) in (
      λ yes. of_file class is_read (c.lacks_method.ensures.0 yes),
      λ lacks. c.lacks_method.ensures.1 (by_file classes entry c.in_default.ensures.only class is_read lacks),
    )
