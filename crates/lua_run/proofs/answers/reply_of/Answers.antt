use Rattle.std.proofs.Common.{Ok, Err}
use Rattle.reply_stages.specs.Views.{scope_seen}
use Rattle.lua_run.specs.Views.{site_seen}
use Rattle.lua_run.proofs.Answering.{reply-is}
use Rattle.lua_run.proofs.answers.reply_of.Goals as goal

pub returns-in-Ok : goal.returns-in-Ok
returns-in-Ok g c =
    reply-is c.replied_by.result (site_seen g.M.Machine.life c.args.site.now) c.args.req c.with_keepalive-req.result c.args.now.0 (scope_seen c.scope_of-scope.result)
    c.settings-settings.result.now (Ok c.in-Ok.number)
    c.scope_of-scope.ensures c.settings-settings.ensures c.in-Ok.ensures.ok c.with_keepalive-req.ensures c.replied_by.ensures

pub returns-in-Err : goal.returns-in-Err
returns-in-Err g c =
    reply-is c.replied_status.result (site_seen g.M.Machine.life c.args.site.now) c.args.req c.with_keepalive-req.result c.args.now.0 (scope_seen c.scope_of-scope.result)
    c.settings-settings.result.now (Err c.in-Err.status)
    c.scope_of-scope.ensures c.settings-settings.ensures c.in-Err.ensures.err c.with_keepalive-req.ensures c.replied_status.ensures
