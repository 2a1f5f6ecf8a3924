use Rattle.std.proofs.Common.{[], ◌∷◌, ◌∙◌}
use Rattle.lua_meaning.specs.declared.resumes.Resumed.TheVariants.{Values}
use Rattle.lua_meaning.specs.Evaluator.{Resume}
use Rattle.lua_site.proofs.GivesLemmas.{call_made}
use Rattle.lua_site.proofs.calls.call.Goals as goal

pub returns : goal.returns
returns g c =
    let r : Resume = record { store = c.clear_steps.new.self; answer = Values c.of-2.result } in
    let finish = g.M.Machine.finish c.args.machine.now c.in_ok-thread.thread in
    call_made (g.M.Machine.life c.args.machine.now) c.args.function c.args.args.items c.of.result c.of-2.result c.args.store.now.heap c.clear_steps.new.self finish c.end_of.result c.resume.new.store
    c.in_ok-thread.ensures c.of.ensures c.clear_steps.ensures (c.of-2.ensures ∙ c.new.ensures.items)
    (c.end_of.ensures (g.M.Machine.finish c.args.machine.now) (finish (r ∷ [])) c.resume.new.store (c.resume.ensures.goes_on []))
