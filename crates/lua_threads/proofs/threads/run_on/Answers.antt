use Rattle.lua_frames.specs.Frames.{finish}
use Rattle.lua_threads.proofs.LeftLemmas.{stops}
use Rattle.lua_threads.proofs.threads.run_on.Goals as goal

pub slice_of-requires : goal.slice_of-requires
slice_of-requires g c =
    stops (g.H.Host.setting c.args.host.now) (λ resumes. finish (g.H.Host.setting c.args.host.now) c.args.frames (record { store = c.args.store.now; resumes = resumes })) c.run.new.store c.run.new.frames c.in_ok-flow.flow c.in_ok-flow.ensures.turns.follows c.in_ok-flow.ensures.stops

pub returns-clause-comes : goal.returns-clause-comes
returns-clause-comes g c = λ rs.
    c.slice_of.ensures.comes (g.H.Host.setting c.args.host.now) (λ resumes. finish (g.H.Host.setting c.args.host.now) c.args.frames (record { store = c.args.store.now; resumes = resumes })) c.run.new.store c.in_ok-flow.ensures.turns.follows rs

pub returns-clause-counts : goal.returns-clause-counts
returns-clause-counts g c = c.slice_of.ensures.counts c.args.store.now c.run.new.store c.in_ok-flow.ensures.counts
