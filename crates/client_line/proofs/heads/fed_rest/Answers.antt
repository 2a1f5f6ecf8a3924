use Rattle.std.proofs.Common.{◌≡◌, subst}
use Rattle.std.specs.Prelude.{IfOk}
use Rattle.client_line.specs.declared.requests.LineOut.TheVariants as out
use Rattle.client_line.specs.Records.{Came}
use Rattle.client_line.specs.Views.{all_of, LeadsTo}
use Rattle.client_line.proofs.Dropping.{none-scanned, drops-whole, drops-on-fault, drops-on-more}
use Rattle.client_line.proofs.heads.fed_rest.Goals as goal

pub fed_head-requires : goal.fed_head-requires
fed_head-requires c = none-scanned c.new.result (all_of c.args.held.now) c.new.ensures

pub returns-in-Whole-clause-led : goal.returns-in-Whole-clause-led
returns-in-Whole-clause-led c =
    subst (λ (k : Came). IfOk c.fed_head.result (λ r. LeadsTo k r.0 r.1 c.fed_head.new.held))
    (drops-whole c.args.state c.skip-state.result.0 c.args.piece.now (all_of c.args.held.now) c.bytes_after.result.now c.skip-state.result.1 c.skip-state.ensures.moved c.in-Whole.is
    c.skip-state.ensures.counted c.requires c.bytes_after.ensures)
    c.fed_head.ensures.led

pub returns-in-Refused-clause-led : goal.returns-in-Refused-clause-led
returns-in-Refused-clause-led c = (
  drops-on-fault c.args.state c.skip-state.result.0 c.args.piece.now (all_of c.args.held.now) c.in-Refused.field-0 c.skip-state.ensures.moved c.in-Refused.is c.requires,
  c.requires,
  λ e. let f : out.Refused 400 ≡ out.Memory = e in cc,
)

pub returns-in_default-clause-led : goal.returns-in_default-clause-led
returns-in_default-clause-led c = (
  drops-on-more c.args.state c.skip-state.result.0 c.args.piece.now (all_of c.args.held.now) c.skip-state.ensures.moved c.in_default.not-Whole c.in_default.not-Refused c.requires,
  c.requires,
  λ e. let f : out.Waiting ≡ out.Memory = e in cc,
)
