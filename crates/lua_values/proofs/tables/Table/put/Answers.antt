use Rattle.std.proofs.Common.{◌≡◌, false, not, ◌||◌, is_some, true≢false, sym, ap, ◌∙◌}
use Rattle.lua_values.specs.Values.{is_nil}
use Rattle.lua_values.specs.Pairs.{has_entry}
use Rattle.lua_values.proofs.PairLemmas.{table-absent}
use Rattle.lua_values.proofs.EntryLemmas.{index-there}
use Rattle.lua_values.proofs.tables.Table.put.Goals as goal

pub append-requires-clause-absent : goal.append-requires-clause-absent
append-requires-clause-absent c =
    sym (ap (λ t. has_entry t.pairs c.args.key) c.self.view_is) ∙ sym (index-there c.self.inside.pairs c.args.key) ∙ sym (ap is_some c.in-None.ensures.index)

pub returns-then-is_nil-clause-done : goal.returns-then-is_nil-clause-done
returns-then-is_nil-clause-done c =
    let absent : has_entry c.args.self.now.pairs c.args.key ≡ false = sym (ap (λ t. has_entry t.pairs c.args.key) c.self.view_is) ∙ sym (index-there c.self.inside.pairs c.args.key) ∙ sym (ap is_some c.in-None.ensures.index) in
    table-absent c.args.self.now c.args.key c.args.value (sym c.is_nil.ensures ∙ c.if-is_nil.true) absent

pub returns-else-is_nil-clause-without_memory : goal.returns-else-is_nil-clause-without_memory
returns-else-is_nil-clause-without_memory c = λ h.
    let absent : has_entry c.args.self.now.pairs c.args.key ≡ false = sym (ap (λ t. has_entry t.pairs c.args.key) c.self.view_is) ∙ sym (index-there c.self.inside.pairs c.args.key) ∙ sym (ap is_some c.in-None.ensures.index) in
    let live : is_nil c.args.value ≡ false = sym c.is_nil.ensures ∙ c.if-is_nil.false in
    absurd (true≢false (sym (ap (λ b. not (b || has_entry c.args.self.now.pairs c.args.key)) live ∙ ap not absent) ∙ h))
