use Rattle.std.proofs.Common.{◌≡◌, [], sym, ◌∙◌, subst}
use Rattle.run_threads.specs.Handlers.{Answered, handled}
use Rattle.run_threads.specs.Threads.{IsLeft}
use Rattle.run_threads.specs.Views.{answered_seen}
use Rattle.run_threads.proofs.Handling.{new_left, left_comes}
use Rattle.run_threads.proofs.handlers.run_handler.Goals as goal

pub returns : goal.returns
returns g c =
    let none : c.of.result ≡ [] = c.of.ensures ∙ c.new.ensures.items in
    let life = g.M.Machine.life c.args.machine.now c.args.function [] in
    let came = handled life c.args.store c.args.req in
    left_comes life (g.M.Machine.finish c.args.machine.now c.in_ok-thread.thread) (answered_seen c.begun.result) came c.go_on.result c.go_on.ensures
    (subst (λ (b : Answered). IsLeft life (g.M.Machine.finish c.args.machine.now c.in_ok-thread.thread) b came) (sym c.begun.ensures)
    (new_left (g.M.Machine.life c.args.machine.now c.args.function) (g.M.Machine.finish c.args.machine.now c.in_ok-thread.thread) c.of.result c.args.store c.args.req none c.in_ok-thread.ensures))
