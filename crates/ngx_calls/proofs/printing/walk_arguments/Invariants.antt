use Rattle.std.proofs.Common.{◌≡◌, ◌+◌, ◌≤◌, drop}
use Rattle.ngx_calls.specs.Printing.{met_in, most_levels}
use Rattle.ngx_calls.specs.Walks.{seen, after_arguments}
use Rattle.ngx_calls.proofs.printing.walk_arguments.Given as goal

-- what is met in the arguments that are left comes to what all come to, and each argument is at least one value
abbrev pub invariant-loop-value : goal.invariant-loop-value
invariant-loop-value l = record {
  left : after_arguments (met_in most_levels l.store.heap) (l.number + 1) (drop l.value-index l.args) (seen l.walk) ≡ after_arguments (met_in most_levels l.store.heap) 1 l.fn.args (seen l.fn.walk);
  fewer : l.number + l.walk.left ≤ l.fn.walk.left;
}
