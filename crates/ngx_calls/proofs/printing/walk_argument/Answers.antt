use Rattle.ngx_calls.specs.Printing.{most_levels}
use Rattle.ngx_calls.specs.Walks.{seen}
use Rattle.ngx_calls.proofs.Arguments.{all_taken, meets_argument}
use Rattle.ngx_calls.proofs.printing.walk_argument.Goals as goal

pub returns-in-Table : goal.returns-in-Table
returns-in-Table c = rw (c.in-Table.is, all_taken most_levels c.in-Table.t c.args.number c.args.store.now.heap (seen c.args.walk.now)) c.walk_array.ensures

pub returns-in_default : goal.returns-in_default
returns-in_default c = meets_argument most_levels c.args.number c.args.store.now.heap c.args.value.now (seen c.args.walk.now) c.meet.new.walk c.meet.result c.in_default.not-Table c.meet.ensures
