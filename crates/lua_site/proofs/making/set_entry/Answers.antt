use Rattle.lua_values.specs.StoreCalls.{set_cause, with_pair}
use Rattle.lua_site.proofs.GivesLemmas.{unless_refused}
use Rattle.lua_site.proofs.making.set_entry.Goals as goal

pub returns-in_err-set : goal.returns-in_err-set
returns-in_err-set c =
    let heap = c.args.store.now.heap in
    unless_refused (set_cause heap c.args.t c.args.key c.args.value) c.in_err-set.field-0.0 (with_pair heap c.args.t c.args.key c.args.value) (λ a. c.set.new.self.heap) c.from_residual.result
    c.in_err-set.ensures.cause c.from_residual.ensures
