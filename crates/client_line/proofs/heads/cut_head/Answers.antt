use Rattle.std.proofs.Common.{◌≡◌, take, ◌∙◌}
use Rattle.http_in.proofs.Scans.{head_end-bound}
use Rattle.client_line.specs.declared.requests.LineOut.TheVariants as out
use Rattle.client_line.specs.Requests.{IsOf}
use Rattle.client_line.proofs.Cutting.{cuts, of-copy, copy-is-whole, asked-so, refused-so, none-left}
use Rattle.client_line.proofs.heads.cut_head.Goals as goal

pub freeze_to-requires : goal.freeze_to-requires
freeze_to-requires c = head_end-bound c.args.held.now.rest.items c.args.end c.requires.whole

pub request_in-requires : goal.request_in-requires
request_in-requires c =
    copy-is-whole c.args.held.now.rest.items c.in-Ok-clone.shared c.in-Ok.head c.args.end c.requires.whole c.in-Ok-clone.ensures.cases c.in-Ok.ensures.front

pub returns-in-Request-clause-led : goal.returns-in-Request-clause-led
returns-in-Request-clause-led c =
    let bytes = c.args.held.now.rest.items in
    let is : IsOf (take c.args.end bytes) (out.Request c.in-Request.head c.in-Request.target) =
    of-copy bytes c.in-Ok-clone.shared c.in-Ok.head c.args.end (out.Request c.in-Request.head c.in-Request.target) c.in-Ok-clone.ensures.cases c.in-Ok.ensures.front
    (c.in-Request.ensures (λ e. let f : out.Request c.in-Request.head c.in-Request.target ≡ out.Memory = e in cc)) in (
      asked-so bytes c.advance.new.bytes.items c.args.held.now.front c.args.end c.in-Request.head c.in-Request.target c.begun_skip.result c.requires.whole is c.requires.joined
          (c.advance.ensures ∙ c.in-Ok.ensures.rest.0) c.begun_skip.ensures,
      c.requires.joined,
      λ e. let f : out.Request c.in-Request.head c.in-Request.target ≡ out.Memory = e in cc,
    )

pub returns-in-Refused-clause-led : goal.returns-in-Refused-clause-led
returns-in-Refused-clause-led c =
    let bytes = c.args.held.now.rest.items in
    let is : IsOf (take c.args.end bytes) (out.Refused c.in-Refused.code) =
    of-copy bytes c.in-Ok-clone.shared c.in-Ok.head c.args.end (out.Refused c.in-Refused.code) c.in-Ok-clone.ensures.cases c.in-Ok.ensures.front
    (c.in-Refused.ensures (λ e. let f : out.Refused c.in-Refused.code ≡ out.Memory = e in cc)) in (
      refused-so bytes c.new.result.front c.new.result.rest.items c.in-Refused.code (cuts bytes c.args.end (out.Refused c.in-Refused.code) c.requires.whole is) c.new.ensures.front c.new.ensures.rest,
      none-left c.new.result.front c.new.result.rest.items c.new.ensures.front c.new.ensures.rest,
      λ e. let f : out.Refused c.in-Refused.code ≡ out.Memory = e in cc,
    )
