use Rattle.std.proofs.Common.{◌≡◌, ◌++◌}
use Rattle.std.specs.Vec.Iter.{into_iter_items}
use Rattle.conf.specs.Blocks.{start}
use Rattle.conf.specs.Reading.{Fit}
use Rattle.conf.proofs.reading.take_items.Given as goal

abbrev pub invariant-loop-item : goal.invariant-loop-item
invariant-loop-item l = record {
  all : l.yielded ++ into_iter_items l.item-iterator ≡ l.fn.items.items;
  fit : Fit start l.yielded l.nest;
}
