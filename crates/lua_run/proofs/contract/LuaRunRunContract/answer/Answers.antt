use Rattle.std.proofs.Common.{◌∙◌, sym}
use Rattle.std.proofs.lemmas.Result.{IfOk-weaker}
use Rattle.strand_contract.specs.Actions.{Did}
use Rattle.strand_plans.specs.Ledgers.{entered}
use Rattle.lua_run.specs.Views.{site_seen}
use Rattle.lua_run.specs.RunLaws.{is-answered}
use Rattle.lua_run.proofs.RunTurns.{works-falls, works-took}
use Rattle.lua_run.proofs.contract.LuaRunRunContract.answer.Goals as goal

pub returns-clause-left : goal.returns-clause-left
returns-clause-left g c =
    let w = is-answered c.requires.0 c.requires.1 c.requires.2 c.args._answer c.requires.4 c.requires.5 in
    works-falls (site_seen g.M.Machine.life c.args.site.now) c.args.now.0 c.working.result _ c.replace-work.result c.args.self.now.work c.args.self.now.has_client (cc) (cc)
    (λ over. w.work (sym c.requires.3.0 ∙ over)) c.working.ensures.does c.working.ensures.asks

pub returns-clause-turn : goal.returns-clause-turn
returns-clause-turn g c =
    let took = works-took (site_seen g.M.Machine.life c.args.site.now) c.args.now.0 c.working.result _ c.replace-work.result c.args.self.now.work c.args.self.now.has_client (cc) (cc)
    c.working.ensures.does c.working.ensures.asks in
    IfOk-weaker c.working.result _ _ (λ turn h b r x stood holds is. h (entered (Did x) b) r stood) took
