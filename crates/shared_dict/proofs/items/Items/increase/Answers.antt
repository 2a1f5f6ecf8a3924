use Rattle.std.proofs.Common.{◌≡◌, ℤ, false, to_z, of_z, w64, sym, ap, ◌∙◌, rules}
use Rattle.std.proofs.lemmas.Int.{to_z-of_z}
use Rattle.resty_base.specs.declared.dictionary.DictAnswer.{DictAnswer}
use Rattle.resty_base.specs.declared.dictionary.DictAnswer.TheVariants as answer
use Rattle.resty_base.specs.declared.dictionary.DictValue.TheVariants as value
use Rattle.shared_rules.specs.declared.items.Item.{Item}
use Rattle.shared_rules.specs.Items.{found, first}
use Rattle.shared_rules.specs.Dictionary.{Outcome, store, expiry_at, as_number}
use Rattle.shared_dict.proofs.Answering.{incr-refused, incr-raised, incr-begun, numbered-items}
use Rattle.shared_dict.proofs.items.Items.increase.Goals as goal

pub returns-in-Refused-clause-answer : goal.returns-in-Refused-clause-answer
returns-in-Refused-clause-answer c by init h =
    sym (ap (λ (o : Outcome). o.0) (incr-refused c.args.size c.args.now.0 c.args.key.now by init c.args.ttl (found c.args.now.0 c.args.key.now c.args.self.now) c.args.self.now c.in-Refused.answer (sym h ∙ c.in-Refused.is)))

pub returns-in-Refused-clause-items : goal.returns-in-Refused-clause-items
returns-in-Refused-clause-items c by init h =
    sym (ap (λ (o : Outcome). o.1) (incr-refused c.args.size c.args.now.0 c.args.key.now by init c.args.ttl (found c.args.now.0 c.args.key.now c.args.self.now) c.args.self.now c.in-Refused.answer (sym h ∙ c.in-Refused.is)))

pub returns-in-Raised-clause-answer : goal.returns-in-Raised-clause-answer
returns-in-Raised-clause-answer c by init h =
    let t : to_z w64 (of_z w64 c.in-Raised.n) ≡ c.in-Raised.n = to_z-of_z w64 c.in-Raised.n (search rules) in
    ap (λ (n : ℤ). answer.Number n false) t
    ∙ sym (ap (λ (o : Outcome). o.0) (incr-raised c.args.size c.args.now.0 c.args.key.now by init c.args.ttl c.in-Raised.n c.args.self.now (sym h ∙ c.in-Raised.is)).outcome)

pub returns-in-Raised-clause-items : goal.returns-in-Raised-clause-items
returns-in-Raised-clause-items c by init h =
    let t : to_z w64 (of_z w64 c.in-Raised.n) ≡ c.in-Raised.n = to_z-of_z w64 c.in-Raised.n (search rules) in
    let r = incr-raised c.args.size c.args.now.0 c.args.key.now by init c.args.ttl c.in-Raised.n c.args.self.now (sym h ∙ c.in-Raised.is) in
    c.set_value.ensures r.item r.there
    ∙ ap (λ (m : ℤ). first (record r.item { value = value.Number m }) c.args.self.now) t
    ∙ sym (ap (λ (o : Outcome). o.1) r.outcome)

pub returns-in_ok-answer-in-Begun-clause-answer : goal.returns-in_ok-answer-in-Begun-clause-answer
returns-in_ok-answer-in-Begun-clause-answer c by init h =
    let n = c.in-Begun.n in
    let t : to_z w64 (of_z w64 n) ≡ n = to_z-of_z w64 n (search rules) in
    let item : Item = record { key = c.args.key.now; value = value.Number n; flags = 0; expiry = expiry_at c.args.now.0 c.args.ttl } in
    let out : Outcome = store c.args.size item c.args.self.now in
    let e : c.in_ok-item-in-Begun.item ≡ item = c.in_ok-item-in-Begun.ensures ∙ ap (λ (m : ℤ). let i : Item = record { key = c.args.key.now; value = value.Number m; flags = 0; expiry = expiry_at c.args.now.0 c.args.ttl } in i) t in
    c.as_number.ensures out.1
    ∙ ap (λ (m : ℤ). (as_number m (c.in_ok-answer-in-Begun.answer, out.1)).0) t
    ∙ ap (λ (a : DictAnswer). (as_number n (a, out.1)).0) (c.in_ok-answer-in-Begun.ensures.answer ∙ ap (λ (i : Item). (store c.args.size i c.args.self.now).0) e)
    ∙ sym (ap (λ (o : Outcome). o.0) (incr-begun c.args.size c.args.now.0 c.args.key.now by init c.args.ttl n (found c.args.now.0 c.args.key.now c.args.self.now) c.args.self.now (sym h ∙ c.in-Begun.is)))

pub returns-in_ok-answer-in-Begun-clause-items : goal.returns-in_ok-answer-in-Begun-clause-items
returns-in_ok-answer-in-Begun-clause-items c by init h =
    let n = c.in-Begun.n in
    let t : to_z w64 (of_z w64 n) ≡ n = to_z-of_z w64 n (search rules) in
    let item : Item = record { key = c.args.key.now; value = value.Number n; flags = 0; expiry = expiry_at c.args.now.0 c.args.ttl } in
    let e : c.in_ok-item-in-Begun.item ≡ item = c.in_ok-item-in-Begun.ensures ∙ ap (λ (m : ℤ). let i : Item = record { key = c.args.key.now; value = value.Number m; flags = 0; expiry = expiry_at c.args.now.0 c.args.ttl } in i) t in
    c.in_ok-answer-in-Begun.ensures.items
    ∙ ap (λ (i : Item). (store c.args.size i c.args.self.now).1) e
    ∙ sym (numbered-items n (store c.args.size item c.args.self.now))
    ∙ sym (ap (λ (o : Outcome). o.1) (incr-begun c.args.size c.args.now.0 c.args.key.now by init c.args.ttl n (found c.args.now.0 c.args.key.now c.args.self.now) c.args.self.now (sym h ∙ c.in-Begun.is)))
