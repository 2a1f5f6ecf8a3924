use Rattle.std.specs.Prelude.{Some, None}
use Rattle.std.proofs.Common.{◌≡◌, ◌+◌, drop, ap, ◌∙◌, arith}
use Rattle.http_in.specs.Ends.{head_end}
use Rattle.http_in.proofs.Scans.{head_end-bound}
use Rattle.client_line.specs.declared.requests.LineOut.TheVariants as out
use Rattle.client_line.specs.Views.{all_of}
use Rattle.client_line.proofs.Cutting.{scan-found, waiting-so, overflow-so, none-left}
use Rattle.client_line.proofs.heads.fed_head.Goals as goal

pub overflow_add-scanned : goal.overflow_add-scanned
overflow_add-scanned c =
    let joined = c.push.new.self.rest.items in
    let whole : head_end joined ≡ Some (c.args.scanned + c.in-Some.more) =
    scan-found c.args.scan c.args.scanned (all_of c.args.held.now) c.args.piece.now c.bytes_after.result.now joined (Some c.in-Some.more) c.requires c.in_ok-push.ensures.rest
    (c.bytes_after.ensures ∙ ap (drop c.args.scanned) c.deref.ensures) c.in-Some.ensures.found in
    omega (arith, head_end-bound joined (c.args.scanned + c.in-Some.more) whole, c.len-total.ensures.value, c.len-total.ensures.bound)

pub cut_head-requires-clause-whole : goal.cut_head-requires-clause-whole
cut_head-requires-clause-whole c =
    scan-found c.args.scan c.args.scanned (all_of c.args.held.now) c.args.piece.now c.bytes_after.result.now c.push.new.self.rest.items (Some c.in-Some.more) c.requires
    c.in_ok-push.ensures.rest (c.bytes_after.ensures ∙ ap (drop c.args.scanned) c.deref.ensures) c.in-Some.ensures.found

pub returns-in-None-clause-led : goal.returns-in-None-clause-led
returns-in-None-clause-led c =
    let joined = c.push.new.self.rest.items in
    let none : head_end joined ≡ None =
    scan-found c.args.scan c.args.scanned (all_of c.args.held.now) c.args.piece.now c.bytes_after.result.now joined None c.requires c.in_ok-push.ensures.rest
    (c.bytes_after.ensures ∙ ap (drop c.args.scanned) c.deref.ensures) c.in-None.ensures.found in
    let both =
    waiting-so c.args.scan c.read.new.self c.args.scanned c.len-total.result (all_of c.args.held.now) c.args.piece.now c.push.new.self.front joined c.bytes_after.result.now
    c.requires c.in_ok-push.ensures.front c.in_ok-push.ensures.rest (c.bytes_after.ensures ∙ ap (drop c.args.scanned) c.deref.ensures) c.in-None.ensures.moved none
    c.len-total.ensures.value c.if-total-lt-HEAD_LIMIT.true in
    (both.0, both.1, λ e. let f : out.Waiting ≡ out.Memory = e in cc)

pub returns-in-None-2-clause-led : goal.returns-in-None-2-clause-led
returns-in-None-2-clause-led c =
    let joined = c.push.new.self.rest.items in
    let none : head_end joined ≡ None =
    scan-found c.args.scan c.args.scanned (all_of c.args.held.now) c.args.piece.now c.bytes_after.result.now joined None c.requires c.in_ok-push.ensures.rest
    (c.bytes_after.ensures ∙ ap (drop c.args.scanned) c.deref.ensures) c.in-None.ensures.found in (
      overflow-so (all_of c.args.held.now) c.args.piece.now c.new.result.front c.new.result.rest.items joined c.len-total.result c.in_ok-push.ensures.rest none
          c.len-total.ensures.value c.if-total-lt-HEAD_LIMIT.false c.new.ensures.front c.new.ensures.rest,
      none-left c.new.result.front c.new.result.rest.items c.new.ensures.front c.new.ensures.rest,
      λ e. let f : out.Refused 431 ≡ out.Memory = e in cc,
    )
