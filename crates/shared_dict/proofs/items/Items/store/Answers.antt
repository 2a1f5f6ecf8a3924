use Rattle.std.proofs.Common.{length, nat_lt, sym, ap, ◌∙◌, arith}
use Rattle.shared_rules.specs.Dictionary.{Outcome}
use Rattle.shared_dict.specs.Zones.{trimmed}
use Rattle.shared_dict.proofs.Evictions.{stored-done, stored-none}
use Rattle.shared_dict.proofs.items.Items.store.Goals as goal

pub returns-then-used-from-clause-answer : goal.returns-then-used-from-clause-answer
returns-then-used-from-clause-answer c =
    let after = c.trim.new.self in
    let put = c.in_ok-put.ensures.done in
    sym (ap (λ (o : Outcome). o.0) (stored-done c.args.size c.args.item c.args.self.now after (nat_lt c.len.result c.len-before.result) (c.trim.ensures ∙ ap (trimmed 30 c.args.size) put)
    (ap (λ n. nat_lt n c.len-before.result) c.len.ensures ∙ ap (nat_lt (length after)) (c.len-before.ensures ∙ ap length put)) (omega (arith, c.if-used-from.true, c.used.ensures, c.from.ensures))))

pub returns-then-used-from-clause-items : goal.returns-then-used-from-clause-items
returns-then-used-from-clause-items c =
    let after = c.trim.new.self in
    let put = c.in_ok-put.ensures.done in
    sym (ap (λ (o : Outcome). o.1) (stored-done c.args.size c.args.item c.args.self.now after (nat_lt c.len.result c.len-before.result) (c.trim.ensures ∙ ap (trimmed 30 c.args.size) put)
    (ap (λ n. nat_lt n c.len-before.result) c.len.ensures ∙ ap (nat_lt (length after)) (c.len-before.ensures ∙ ap length put)) (omega (arith, c.if-used-from.true, c.used.ensures, c.from.ensures))))

pub returns-clause-answer : goal.returns-clause-answer
returns-clause-answer c =
    let after = c.trim.new.self in
    let put = c.in_ok-put.ensures.done in
    sym (ap (λ (o : Outcome). o.0) (stored-none c.args.size c.args.item c.args.self.now after (nat_lt c.len.result c.len-before.result) (c.trim.ensures ∙ ap (trimmed 30 c.args.size) put)
    (ap (λ n. nat_lt n c.len-before.result) c.len.ensures ∙ ap (nat_lt (length after)) (c.len-before.ensures ∙ ap length put)) (omega (arith, c.if-used-from.false, c.used.ensures, c.from.ensures))))

pub returns-clause-items : goal.returns-clause-items
returns-clause-items c =
    let after = c.trim.new.self in
    let put = c.in_ok-put.ensures.done in
    c.pop_first.ensures ∙ sym (ap (λ (o : Outcome). o.1) (stored-none c.args.size c.args.item c.args.self.now after (nat_lt c.len.result c.len-before.result) (c.trim.ensures ∙ ap (trimmed 30 c.args.size) put)
    (ap (λ n. nat_lt n c.len-before.result) c.len.ensures ∙ ap (nat_lt (length after)) (c.len-before.ensures ∙ ap length put)) (omega (arith, c.if-used-from.false, c.used.ensures, c.from.ensures))))
