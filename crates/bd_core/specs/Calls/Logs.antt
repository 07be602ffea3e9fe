-- What holds of the log of a core.
use Rattle.std.specs.Prelude.{◌≡◌, ◌≤◌, ◌+◌}
use Rattle.std.specs.Vec.{vec_len, vec_capacity}
use Rattle.indexmap.specs.IndexMap.{get, index_map_len}
use Rattle.bd_core.specs.declared.item.Item.{Item}
use Rattle.bd_core.specs.contracts.item.ItemPartialEq.TheImpl as item_eq
use Rattle.bd_core.specs.declared.log.Log.{Log}
use Rattle.bd_core.specs.Runs.{holder}

-- who has an item is told by the events, and there is room for an event more for each
pub record IsLogged (l : Log) : Type 0 where
  pub held : (item : Item) → get (item_eq.ghosts).eq l.held item ≡ holder l.events.items item
  pub room : vec_len l.events + index_map_len l.held ≤ vec_capacity l.events
