use Rattle.std.proofs.Common.{◌≡◌, ℕ, ◌-◌, length, refl, sym, ap, ◌∙◌, arith}
use Rattle.resty_base.specs.declared.dictionary.DictCall.{DictCall}
use Rattle.resty_base.specs.declared.dictionary.DictAnswer.TheVariants as answer
use Rattle.shared_rules.specs.declared.items.Item.{Item}
use Rattle.shared_rules.specs.Items.{found, swept}
use Rattle.shared_rules.specs.Dictionary.{Outcome, dict, expiry_at, limit}
use Rattle.shared_dict.specs.Zones.{doomed}
use Rattle.shared_dict.proofs.Answering.{set-stored}
use Rattle.shared_dict.proofs.Sweeps.{sweeps}
use Rattle.shared_dict.proofs.zone.foresee.Goals as goal

pub returns-in-None-clause-answer : goal.returns-in-None-clause-answer
returns-in-None-clause-answer c =
    let item : Item = record { key = c.in-Store.key; value = c.in-Store.value; flags = c.in-Store.flags; expiry = expiry_at c.args.now.0 c.in-Store.ttl } in
    c.foresee_store.ensures item refl refl
    ∙ sym (ap (λ (o : Outcome). o.0) (set-stored c.args.size c.in-Store.how (found c.args.now.0 c.in-Store.key c.args.items.now) item c.args.items.now (sym c.refusal.ensures ∙ c.in-None.is)))
    ∙ sym (ap (λ (k : DictCall). (dict c.args.size k c.args.now.0 c.args.items.now).0) c.in-Store.is)

pub returns-in-FlushExpired-clause-answer : goal.returns-in-FlushExpired-clause-answer
returns-in-FlushExpired-clause-answer c =
    let n = c.in-FlushExpired.n in
    let s = (sweeps c.args.now.0 (limit n) c.args.items.now c.requires.within.distinct).count in
    let e : length (doomed c.args.now.0 (limit n) c.args.items.now) ≡ length c.args.items.now - length (swept c.args.now.0 (limit n) c.args.items.now) = omega arith in
    ap (λ (k : ℕ). answer.Count k) (c.count_doomed.ensures ∙ ap (λ m. length (doomed c.args.now.0 m c.args.items.now)) c.limit.ensures ∙ e)
    ∙ sym (ap (λ (k : DictCall). (dict c.args.size k c.args.now.0 c.args.items.now).0) c.in-FlushExpired.is)
