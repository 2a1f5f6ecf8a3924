use Rattle.std.specs.Prelude.{vec_items}
use Rattle.std.proofs.Common.{length, ap}
use Rattle.lua_site.proofs.GivesLemmas.{as_many}
use Rattle.lua_site.proofs.loading.load.Goals as goal

pub returns-clause-count : goal.returns-clause-count
returns-clause-count g c = as_many c.make_blocks.result vec_items _ _ _ c.make_blocks.ensures.closures (ap length c.as_slice.ensures.value)
