use Rattle.lua_run.proofs.Replies.{each-own}
use Rattle.lua_run.proofs.laws.each_reply_is_its_own.Goals as goal

pub returns : goal.returns
returns g c site es x = each-own site es x
