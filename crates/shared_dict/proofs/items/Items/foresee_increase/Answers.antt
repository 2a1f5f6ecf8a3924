use Rattle.std.proofs.Common.{◌≡◌, ℤ, false, to_z, of_z, w64, refl, sym, ap, ◌∙◌, rules}
use Rattle.std.proofs.lemmas.Int.{to_z-of_z}
use Rattle.resty_base.specs.declared.dictionary.DictAnswer.{DictAnswer}
use Rattle.resty_base.specs.declared.dictionary.DictAnswer.TheVariants as answer
use Rattle.resty_base.specs.declared.dictionary.DictValue.TheVariants as value
use Rattle.shared_rules.specs.declared.items.Item.{Item}
use Rattle.shared_rules.specs.Items.{found}
use Rattle.shared_rules.specs.Dictionary.{Outcome, store, expiry_at, as_number}
use Rattle.shared_dict.proofs.Answering.{incr-refused, incr-raised, incr-begun}
use Rattle.shared_dict.proofs.items.Items.foresee_increase.Goals as goal

pub returns-in-Refused : goal.returns-in-Refused
returns-in-Refused c now ttl by init h =
    sym (ap (λ (o : Outcome). o.0) (incr-refused c.args.size now c.args.key.now by init ttl (found now c.args.key.now c.args.self.now) c.args.self.now c.in-Refused.answer (sym h ∙ c.in-Refused.is)))

pub returns-in-Raised : goal.returns-in-Raised
returns-in-Raised c now ttl by init h =
    let t : to_z w64 (of_z w64 c.in-Raised.n) ≡ c.in-Raised.n = to_z-of_z w64 c.in-Raised.n (search rules) in
    ap (λ (n : ℤ). answer.Number n false) t
    ∙ sym (ap (λ (o : Outcome). o.0) (incr-raised c.args.size now c.args.key.now by init ttl c.in-Raised.n c.args.self.now (sym h ∙ c.in-Raised.is)).outcome)

pub returns-in-Begun : goal.returns-in-Begun
returns-in-Begun c now ttl by init h =
    let n = c.in-Begun.n in
    let t : to_z w64 (of_z w64 n) ≡ n = to_z-of_z w64 n (search rules) in
    let item : Item = record { key = c.args.key.now; value = value.Number n; flags = 0; expiry = expiry_at now ttl } in
    let out : Outcome = store c.args.size item c.args.self.now in
    c.as_number.ensures out.1
    ∙ ap (λ (m : ℤ). (as_number m (c.foresee_store.result, out.1)).0) t
    ∙ ap (λ (a : DictAnswer). (as_number n (a, out.1)).0) (c.foresee_store.ensures item refl (ap (λ (m : ℤ). value.Number m) (sym t)))
    ∙ sym (ap (λ (o : Outcome). o.0) (incr-begun c.args.size now c.args.key.now by init ttl n (found now c.args.key.now c.args.self.now) c.args.self.now (sym h ∙ c.in-Begun.is)))
