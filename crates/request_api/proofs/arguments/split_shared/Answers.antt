use Rattle.std.proofs.Common.{◌≡◌, ℕ, ◌+◌, List, length, take, drop, Some, ap, ◌∙◌}
use Rattle.std.specs.Option.{option_map}
use Rattle.http_base.specs.Splitting.{before, after}
use Rattle.uri_args.proofs.Cutting.{take_before, drop_before}
use Rattle.request_api.proofs.arguments.split_shared.Goals as goal

-- so many bytes as stand before the separator are these
first_is : (s : ℕ) (text first parted : List ℕ) → first ≡ take (length parted) text → parted ≡ before s text → first ≡ before s text
first_is s text first parted taken is = taken ∙ ap (λ p. take (length p) text) is ∙ take_before s text

-- and one byte later begins what stands after it
rest_is : (s : ℕ) (text rest parted more : List ℕ) → rest ≡ drop (length parted + 1) text → parted ≡ before s text → Some more ≡ after s text → Some rest ≡ after s text
rest_is s text rest parted more dropped is there =
    ap Some (dropped ∙ ap (λ p. drop (length p + 1) text) is) ∙ ap (option_map (λ r. drop (length (before s text) + 1) text)) there ∙ drop_before s text

pub returns-in_ok-rest_shared-in-Some-clause-before : goal.returns-in_ok-rest_shared-in-Some-clause-before
returns-in_ok-rest_shared-in-Some-clause-before c =
    first_is c.args.separator c.args.text.now c.in_ok-first.first c.split_once.result.0.now c.in_ok-first.ensures (rw c.deref.ensures at c.split_once.ensures.before)

pub returns-in_ok-rest_shared-in-Some-clause-after : goal.returns-in_ok-rest_shared-in-Some-clause-after
returns-in_ok-rest_shared-in-Some-clause-after c =
    rest_is c.args.separator c.args.text.now c.in_ok-rest_shared-in-Some.field-0 c.split_once.result.0.now c.in-Some.field-0.now c.in_ok-rest_shared-in-Some.ensures (rw c.deref.ensures at c.split_once.ensures.before)
    (rw (c.in-Some.is, c.deref.ensures) at c.split_once.ensures.after)

pub returns-in-None-clause-before : goal.returns-in-None-clause-before
returns-in-None-clause-before c =
    first_is c.args.separator c.args.text.now c.in_ok-first.first c.split_once.result.0.now c.in_ok-first.ensures (rw c.deref.ensures at c.split_once.ensures.before)
