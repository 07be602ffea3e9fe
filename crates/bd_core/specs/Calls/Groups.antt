-- What the maps of the groups stand for.
use Rattle.std.specs.Prelude.{[]}
use Rattle.std.specs.Option.{option_map_or}
use Rattle.std.specs.HashMap.{get_by_text}
use Rattle.bd_core.specs.declared.groups.Groups.{Groups}
use Rattle.bd_core.specs.Calls.Grouped.{Grouped}

abbrev pub grouped : Groups → Grouped
grouped g = record {
  under = λ q. option_map_or (λ v. v.items) (get_by_text g.under q) [];
  called = λ q. option_map_or (λ v. v.items) (get_by_text g.called q) [];
}
