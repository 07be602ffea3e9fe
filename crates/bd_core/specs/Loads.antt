-- What a table of classes and facts stands for.
use Rattle.jv_base.specs.contracts.method.MethodIdPartialEq.TheImpl as method_eq
use Rattle.jv_base.specs.contracts.name.NamePartialEq.TheImpl as name_eq
use Rattle.indexmap.specs.IndexMap.{get}
use Rattle.bd_core.specs.declared.loaded.Loaded.{Loaded}
use Rattle.bd_core.specs.Given.{Given}
use Rattle.bd_core.specs.Told.{Told}

-- the classes in the order in which they were put in, and the facts of a method by its key
abbrev pub given : Loaded → Given
given l = record { classes = l.classes; facts = get (method_eq.ghosts).eq l.facts }

-- with the names of which there is no class file
abbrev pub told : Loaded → Told
told l = record { given = given l; unread = get (name_eq.ghosts).eq l.unread }
