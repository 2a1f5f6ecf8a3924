use Rattle.lua_meaning.specs.Indexing.{index_work}
use Rattle.lua_frames.proofs.TakeForms.{takes_one}
use Rattle.lua_vm_tables.proofs.indexing.at.Goals as goal

pub returns-in-Some : goal.returns-in-Some
returns-in-Some g c =
    takes_one (g.H.Host.setting c.args.host.now) (λ p key s. index_work (g.H.Host.setting c.args.host.now) c.args.line c.args.value key p s) c.in-Some.key
    c.args.frames.now c.take_first.new.frames c.index.new.frames c.args.store.now c.index.new.store c.index.result
    (rw c.in-Some.is at c.take_first.ensures.value) c.take_first.ensures.below c.take_first.ensures.top c.index.ensures
