use Rattle.std.proofs.Common.{◌≡◌, [], Option, None, sym, ◌∙◌, ap, unwrap_or}
use Rattle.lua_values.specs.Heap.{TableView}
use Rattle.lua_values.specs.Pairs.{value_at, link_key}
use Rattle.lua_values.specs.StoreCalls.{pairs_of}
use Rattle.lua_values.proofs.PairLemmas.{nil-absent}
use Rattle.lua_values.proofs.store.Store.get_link.Goals as goal

pub returns-in-None-get_link : goal.returns-in-None-get_link
returns-in-None-get_link c =
    let there : c.in-Some.table.now.pairs ≡ pairs_of c.args.self.now.heap c.args.t =
    rw (← c.self.view_is) (ap (λ (found : Option TableView). (unwrap_or found (record { pairs = []; meta = None })).pairs) c.in-Some.ensures) in
    c.self.invariant.0 ∙ nil-absent c.in-Some.table.now.pairs link_key (sym c.in-None-get_link.ensures.entry) ∙ ap (λ pairs. value_at pairs link_key) there
