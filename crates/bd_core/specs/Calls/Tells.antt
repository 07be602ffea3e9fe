-- What functions ensure that put in what is told.
use Rattle.bd_core.specs.declared.item.Facts.{Facts}
use Rattle.bd_core.specs.declared.item.Facts.TheVariants as facts
use Rattle.bd_core.specs.declared.item.Unread.{Unread}
use Rattle.bd_core.specs.declared.item.Unread.TheVariants.{Absent, TooLong, Malformed}

-- the facts that say why there is no class file
abbrev pub facts_of : Unread → Facts
facts_of Absent = facts.Absent
facts_of TooLong = facts.TooLong
facts_of (Malformed fault) = facts.Malformed fault
