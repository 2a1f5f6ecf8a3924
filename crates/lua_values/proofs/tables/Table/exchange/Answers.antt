use Rattle.std.proofs.Common.{◌≡◌, true, false, is_some, true≢false, sym, ap, ◌∙◌}
use Rattle.lua_values.specs.Heap.{TableView}
use Rattle.lua_values.specs.Pairs.{has_entry}
use Rattle.lua_values.proofs.EntryLemmas.{index-there}
use Rattle.lua_values.proofs.tables.Table.exchange.Goals as goal

pub unreachable-requires : goal.unreachable-requires
unreachable-requires c =
    let none : false ≡ has_entry c.self.inside.pairs c.key-key.result = ap is_some c.in-None.ensures.index ∙ index-there c.self.inside.pairs c.key-key.result in
    let there : has_entry c.args.self.now.pairs c.key-key.result ≡ true = ap (has_entry c.args.self.now.pairs) c.key-key.ensures ∙ c.requires.there in
    true≢false (sym (none ∙ ap (λ (t : TableView). has_entry t.pairs c.key-key.result) c.self.view_is ∙ there))
