use Rattle.std.proofs.Common.{sym, ◌∙◌, refl}
use Rattle.lua_meaning.specs.Signs.{value}
use Rattle.lua_frames.specs.Frames.{here, slots_of}
use Rattle.lua_frames.specs.declared.items.Item.TheVariants as i
use Rattle.lua_frames.specs.Items.{until}
use Rattle.lua_vm_loops.proofs.RunForms.{value_by, body_ran}
use Rattle.lua_vm_loops.proofs.repeats.repeated.Goals as goal

pub returns-in_ok-next-in-Ran : goal.returns-in_ok-next-in-Ran
returns-in_ok-next-in-Ran g c =
    body_ran (g.H.Host.setting c.args.host.now) (λ p s. value c.args.test.value p s (until c.args.body.value.items c.args.test.value p)) c.args.frames.now c.value_under.new.frames c.args.store.now c.value_under.new.store c.value_under.result
    (sym c.end_of_run.ensures ∙ c.in-Ran.is)
    (value_by (g.H.Host.setting c.args.host.now) c.deref.result.now c.args.test.value (i.Until c.args.body c.args.test) (value c.args.test.value (here c.args.frames.now) (slots_of c.args.frames.now) (until c.args.body.value.items c.args.test.value (here c.args.frames.now)))
    c.args.frames.now c.value_under.new.frames c.args.store.now c.value_under.new.store c.value_under.result (c.deref.ensures ∙ c.in_ok-next-in-Ran.ensures) refl c.value_under.ensures)
