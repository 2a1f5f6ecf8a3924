use Rattle.std.proofs.Common.{◌≡◌, false, ap, ◌∙◌}
use Rattle.lua_values.specs.Pairs.{has_entry}
use Rattle.lua_values.proofs.OutlineLemmas.{on_ok, put-last}
use Rattle.lua_values.proofs.tables.Table.append.Goals as goal

pub returns-then-in_order-len-clause-done : goal.returns-then-in_order-len-clause-done
returns-then-in_order-len-clause-done c =
    let absent : has_entry c.self.inside.pairs c.args.key ≡ false = ap (λ t. has_entry t.pairs c.args.key) c.self.view_is ∙ c.requires.absent in
    rw (← c.self.view_is) (ap (λ ps. record { pairs = ps; meta = c.self.inside.meta }) (c.in_ok-push-in-Full.ensures.done ∙ put-last c.self.inside.pairs c.args.key c.args.value absent c.requires.live))

pub returns-else-in_order-len-clause-done : goal.returns-else-in_order-len-clause-done
returns-else-in_order-len-clause-done c =
    let absent : has_entry c.self.inside.pairs c.args.key ≡ false = ap (λ t. has_entry t.pairs c.args.key) c.self.view_is ∙ c.requires.absent in
    rw (← c.self.view_is) (ap (λ ps. record { pairs = ps; meta = c.self.inside.meta }) (c.in_ok-push-in-Full.ensures.done ∙ put-last c.self.inside.pairs c.args.key c.args.value absent c.requires.live))

pub returns-in-Walked-clause-done : goal.returns-in-Walked-clause-done
returns-in-Walked-clause-done c =
    let absent : has_entry c.self.inside.pairs c.args.key ≡ false = ap (λ t. has_entry t.pairs c.args.key) c.self.view_is ∙ c.requires.absent in
    rw (← c.self.view_is) (on_ok c.push-in-Walked.result (λ done. ap (λ ps. record { pairs = ps; meta = c.self.inside.meta }) (done ∙ put-last c.self.inside.pairs c.args.key c.args.value absent c.requires.live)) c.push-in-Walked.ensures.done)
