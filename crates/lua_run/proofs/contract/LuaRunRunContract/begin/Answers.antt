use Rattle.std.proofs.Common.{◌∙◌, sym}
use Rattle.lua_run.specs.Views.{site_seen}
use Rattle.lua_run.proofs.RunTurns.{ok-three, of-ok, queued-took, replied-took, replied-left}
use Rattle.lua_run.proofs.contract.LuaRunRunContract.begin.Goals as goal

pub returns-then-has_handler-clause-turn : goal.returns-then-has_handler-clause-turn
returns-then-has_handler-clause-turn g c =
    ok-three c.beginning.result _ _ _ _ (λ r work client turn. λ b blank count.
    queued-took (site_seen g.M.Machine.life c.args.site.now) c.args.now.0 c.begin-req.result _ r.0.work r.0.has_client r.1 b
    c.begin-req.ensures (sym c.has_handler.ensures ∙ c.if-has_handler.true) work client
    (of-ok c.queueing.result r.1 _ turn c.queueing.ensures.does) (of-ok c.queueing.result r.1 _ turn c.queueing.ensures.asks) blank.no_thread)
    c.beginning.ensures.work c.beginning.ensures.client c.beginning.ensures.turn

pub returns-else-has_handler-clause-turn : goal.returns-else-has_handler-clause-turn
returns-else-has_handler-clause-turn g c =
    ok-three c.beginning-else-has_handler.result _ _ _ _ (λ r work client turn. λ b blank count.
    replied-took (site_seen g.M.Machine.life c.args.site.now) c.args.now.0 c.begin-req.result _ r.0.work r.0.has_client r.1 b
    c.begin-req.ensures (sym c.has_handler.ensures ∙ c.if-has_handler.false) work client
    (of-ok c.working-turn.result r.1 _ turn c.working-turn.ensures.does b) (of-ok c.working-turn.result r.1 _ turn c.working-turn.ensures.asks))
    c.beginning-else-has_handler.ensures.work c.beginning-else-has_handler.ensures.client c.beginning-else-has_handler.ensures.turn

pub returns-else-has_handler-clause-left : goal.returns-else-has_handler-clause-left
returns-else-has_handler-clause-left g c =
    ok-three c.beginning-else-has_handler.result _ _ _ _ (λ r work client turn.
    replied-left (site_seen g.M.Machine.life c.args.site.now) c.args.now.0 c.begin-req.result r.0.work r.0.has_client r.1 work
    (of-ok c.working-turn.result r.1 _ turn c.working-turn.ensures.does) (of-ok c.working-turn.result r.1 _ turn c.working-turn.ensures.asks))
    c.beginning-else-has_handler.ensures.work c.beginning-else-has_handler.ensures.client c.beginning-else-has_handler.ensures.turn
