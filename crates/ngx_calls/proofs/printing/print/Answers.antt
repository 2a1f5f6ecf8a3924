use Rattle.std.proofs.Common.{◌≡◌, sym}
use Rattle.ngx_calls.specs.Printing.{printing}
use Rattle.ngx_calls.specs.Walks.{seen, came_to, given_as}
use Rattle.ngx_calls.proofs.Arguments.{told_all, bad_request}
use Rattle.ngx_calls.proofs.printing.print.Goals as goal

pub returns-in-Ok : goal.returns-in-Ok
returns-in-Ok c =
    let told : came_to c.args.end.now (seen c.walk_arguments.new.walk) ≡ given_as c.args.end.now (printing c.args.store.now.heap c.args.args.now) =
    told_all c.args.store.now.heap c.args.args.now c.new.result.items c.args.end.now c.walk_arguments.new.walk c.in-Ok.field-0 c.new.ensures.items c.in-Ok.ensures in
    rw (sym told) c.walked.ensures

pub returns-in-Err-BadRequest : goal.returns-in-Err-BadRequest
returns-in-Err-BadRequest c =
    bad_request c.args.store.now.heap c.args.args.now c.new.result.items c.args.end.now c.walk_arguments.new.walk c.in-Err-BadRequest.field-0 c.new.ensures.items c.in-Err-BadRequest.field-0-is c.in-Err-BadRequest.ensures
