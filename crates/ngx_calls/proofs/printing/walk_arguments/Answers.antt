use Rattle.std.proofs.Common.{◌≡◌, ◌+◌, arith, Some}
use Rattle.ngx_calls.specs.Printing.{met_in, most_levels, taken_out}
use Rattle.ngx_calls.specs.Walks.{seen, after_met}
use Rattle.ngx_calls.proofs.Walking.{comes_some}
use Rattle.ngx_calls.proofs.Arguments.{argument_goes, argument_falls}
use Rattle.ngx_calls.proofs.printing.walk_arguments.Goals as goal

pub loop-value-preserved : goal.loop-value-preserved
loop-value-preserved c =
    let went : after_met taken_out (c.loop-value.number + 1) (met_in most_levels c.args.store.now.heap c.value-item.result) (seen c.loop-value.walk) ≡ Some (seen c.walk_argument.new.walk) =
    comes_some _ c.walk_argument.new.walk c.walk_argument.result c.in_ok-walk_argument.field-0 c.walk_argument.ensures c.in_ok-walk_argument.was in
    let falls = argument_falls taken_out most_levels (c.loop-value.number + 1) c.args.store.now.heap c.value-item.result (seen c.loop-value.walk) (seen c.walk_argument.new.walk) went in
    record {
      left = argument_goes (met_in most_levels c.args.store.now.heap) c.loop-value.number c.loop-value.value-index c.args.args.now c.value-item.result _ _ _ c.loop-value.invariant.left c.loop-value-test.true c.value-item.is went;
      fewer = omega (arith, falls, c.loop-value.invariant.fewer);
    }
