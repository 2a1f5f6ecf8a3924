use Rattle.std.proofs.Common.{◌≡◌, ◌+◌, ℕ, List, length, sym, ap, ◌∙◌}
use Rattle.resty_base.specs.declared.dictionary.DictValue.{DictValue}
use Rattle.resty_base.specs.declared.dictionary.DictAnswer.TheVariants as answer
use Rattle.shared_rules.specs.Items.{value_size, size_of, used, without}
use Rattle.shared_dict.specs.Zones.{is_crowded}
use Rattle.shared_dict.proofs.Evictions.{answered, foreseen}
use Rattle.shared_dict.proofs.items.Items.foresee_store.Goals as goal

pub returns-then-fits : goal.returns-then-fits
returns-then-fits c item k v =
    let any = c.is_crowded-any.ensures ∙ ap (λ r. is_crowded c.args.size r c.size_of-more.result) c.bytes_without-rest.ensures.bytes in
    let e : c.size_of-more.result ≡ size_of item = c.size_of-more.ensures.size ∙ ap (λ (x : List ℕ). length x + value_size c.args.value.now + 64) (sym k) ∙ ap (λ (x : DictValue). length item.key + value_size x + 64) (sym v) in
    foreseen c.args.size c.size_of-more.result c.args.key.now item c.args.self.now (answer.Done c.is_crowded-any.result) (sym k) e
    (ap (λ b. answer.Done b) any ∙ ap (λ b. answered b (is_crowded c.args.size (used (without c.args.key.now c.args.self.now)) c.size_of-more.result)) (sym c.if-fits.true ∙ c.fits.ensures))

pub returns-else-fits : goal.returns-else-fits
returns-else-fits c item k v =
    let any = c.is_crowded-any.ensures ∙ ap (λ r. is_crowded c.args.size r c.size_of-more.result) c.bytes_without-rest.ensures.bytes in
    let e : c.size_of-more.result ≡ size_of item = c.size_of-more.ensures.size ∙ ap (λ (x : List ℕ). length x + value_size c.args.value.now + 64) (sym k) ∙ ap (λ (x : DictValue). length item.key + value_size x + 64) (sym v) in
    foreseen c.args.size c.size_of-more.result c.args.key.now item c.args.self.now (answer.NoMemory c.is_crowded-any.result) (sym k) e
    (ap (λ b. answer.NoMemory b) any ∙ ap (λ b. answered b (is_crowded c.args.size (used (without c.args.key.now c.args.self.now)) c.size_of-more.result)) (sym c.if-fits.false ∙ c.fits.ensures))
