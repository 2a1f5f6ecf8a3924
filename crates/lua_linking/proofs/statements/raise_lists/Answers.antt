use Rattle.lua_linking.proofs.After.{first}
use Rattle.lua_linking.proofs.statements.raise_lists.Goals as goal

pub returns-clause-targets : goal.returns-clause-targets
returns-clause-targets c = first _ c.raise_list.result c.raise_list_after.result c.raise_list_after.ensures.before c.raise_list.ensures
