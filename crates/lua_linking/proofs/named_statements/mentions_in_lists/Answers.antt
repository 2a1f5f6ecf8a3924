use Rattle.std.proofs.Common.{refl}
use Rattle.lua_linking.proofs.Noted.{two}
use Rattle.lua_linking.proofs.named_statements.mentions_in_lists.Goals as goal

pub returns : goal.returns
returns c =
    two c.mentions_in_list.result c.each_after.result _ _ _ c.each_after.ensures.before _ _ _ refl c.mentions_in_list.ensures c.each_after.ensures.notes
