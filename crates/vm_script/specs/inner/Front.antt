-- Filters before those that are read: a word of the reader's inner contracts, which no public
-- contract cites.
use Rattle.std.specs.Prelude.{List, ◌++◌, Option}
use Rattle.std.specs.Option.{option_map}
use Rattle.vm_labels.specs.declared.selector.Filter.{Filter}

-- what is read, with these filters before it
abbrev pub with_front : List Filter → Option (List Filter) → Option (List Filter)
with_front front read = option_map (λ items. front ++ items) read
