use Rattle.std.proofs.Common.{◌≡◌, ℕ, ◌+◌, List, length, drop}
use Rattle.std.specs.List.{range_with_len}
use Rattle.lua_values.specs.Heap.{Heap}
use Rattle.lua_site.specs.Making.{for_each, closure_made}
use Rattle.lua_site.proofs.loading.make_blocks.Given as goal

-- what is left to be made, and the closures so far
pub record IsLeft (start now : Heap) (functions blocks : List ℕ) (n : ℕ) : Type 0 where
  pub made : for_each closure_made start functions ≡ for_each closure_made now (drop n functions)
  pub blocks_are : blocks ≡ range_with_len (length start.closures) n
  pub closures : length now.closures ≡ length start.closures + n

abbrev pub invariant-loop-function : goal.invariant-loop-function
invariant-loop-function l = IsLeft l.initial.store.heap l.store.heap l.functions l.blocks.items l.function-index
