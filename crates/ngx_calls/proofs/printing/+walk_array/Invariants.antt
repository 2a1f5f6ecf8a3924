use Rattle.std.proofs.Common.{◌≡◌, ◌-◌}
use Rattle.lua_values.specs.StoreCalls.{pairs_of}
use Rattle.ngx_calls.specs.Printing.{met_in, elements_from}
use Rattle.ngx_calls.specs.Walks.{seen, after_elements}
use Rattle.ngx_calls.proofs.printing.+walk_array.Given as goal

abbrev pub decreases-walk_array : goal.decreases-walk_array
decreases-walk_array l = l.levels

-- what is met in the elements that are left comes to what all come to
abbrev pub invariant-loop-index : goal.invariant-loop-index
invariant-loop-index l =
    after_elements (met_in (l.levels - 1) l.store.heap) l.number (elements_from (pairs_of l.store.heap l.t) l.index (l.index-end - l.index)) (seen l.walk)
    ≡ after_elements (met_in (l.levels - 1) l.store.heap) l.number (elements_from (pairs_of l.store.heap l.t) 0 l.index-end) (seen l.initial.walk)
