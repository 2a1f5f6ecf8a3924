use Rattle.std.proofs.Common.{◌≤◌, ◌+◌, length}
use Rattle.conf_text.specs.Items.{ItemsStand}
use Rattle.conf_text.proofs.items.items_of.Given as goal

abbrev pub invariant-loop-items : goal.invariant-loop-items
invariant-loop-items l = record {
  stand : ItemsStand l.text 1 l.items.items l.rest l.line;
  lines : l.line + length l.rest ≤ length l.text + 1;
}

abbrev pub decreases-loop-items : goal.decreases-loop-items
decreases-loop-items l = length l.rest
