use Rattle.std.proofs.Common.{◌≡◌, ℕ, true, false, List, Option, None, Some, sym, ap, ◌∙◌}
use Rattle.std.specs.Option.{is_some, option_or}
use Rattle.std.proofs.lemmas.Bool.{true≢false}
use Rattle.http_base.specs.Splitting.{before, after, split, later_pieces}
use Rattle.http_base.proofs.Pieces.{left_after, split_first}
use Rattle.request_api.specs.Variables as spec
use Rattle.request_api.proofs.arguments.argument.Goals as goal

-- the first argument is tried, then the later ones
one_step : (text name : List ℕ) → spec.value_among (split 38 text) name ≡ option_or (spec.value_in (before 38 text) name) (spec.value_among (later_pieces 38 (after 38 text)) name)
one_step text name = ap (λ pieces. spec.value_among pieces name) (split_first 38 text)

stops : (text name : List ℕ) (value all : Option (List ℕ)) → value ≡ spec.value_in (before 38 text) name → is_some value ≡ true → spec.value_among (split 38 text) name ≡ all → value ≡ all
stops text name None all found some is = absurd (true≢false (sym some))
stops text name (Some v) all found some is =
    ap (λ w. option_or w (spec.value_among (later_pieces 38 (after 38 text)) name)) found ∙ sym (one_step text name) ∙ is

goes_on : (text name : List ℕ) (value all : Option (List ℕ)) → value ≡ spec.value_in (before 38 text) name → is_some value ≡ false → spec.value_among (split 38 text) name ≡ all → spec.value_among (later_pieces 38 (after 38 text)) name ≡ all
goes_on text name None all found none is =
    ap (λ w. option_or w (spec.value_among (later_pieces 38 (after 38 text)) name)) found ∙ sym (one_step text name) ∙ is
goes_on text name (Some v) all found none is = absurd (true≢false none)

pub loop-rest-smaller-else-is_some : goal.loop-rest-smaller-else-is_some
loop-rest-smaller-else-is_some c = rw (c.in_ok-piece.ensures.after, c.in-Some.is) (left_after 38 c.in-Some.text)

pub loop-rest-smaller : goal.loop-rest-smaller
loop-rest-smaller c = rw (c.in_ok-piece.ensures.after, c.in-Some.is) (left_after 38 c.in-Some.text)

pub loop-rest-preserved-else-is_some : goal.loop-rest-preserved-else-is_some
loop-rest-preserved-else-is_some c =
    rw c.in_ok-piece.ensures.after (goes_on c.in-Some.text c.args.name.now c.in_ok-value.value (spec.argument c.args.args.now c.args.name.now)
    (c.in_ok-value.ensures ∙ ap (λ p. spec.value_in p c.args.name.now) c.in_ok-piece.ensures.before) (sym c.is_some.ensures ∙ c.if-is_some.false) (rw c.in-Some.is at c.loop-rest.invariant))

pub loop-rest-preserved : goal.loop-rest-preserved
loop-rest-preserved c =
    rw c.in_ok-piece.ensures.after (goes_on c.in-Some.text c.args.name.now c.in_ok-value.value (spec.argument c.args.args.now c.args.name.now)
    (c.in_ok-value.ensures ∙ ap (λ p. spec.value_in p c.args.name.now) c.in_ok-piece.ensures.before) (sym c.is_some.ensures ∙ c.if-is_some.false) (rw c.in-Some.is at c.loop-rest.invariant))

pub returns-then-is_some : goal.returns-then-is_some
returns-then-is_some c =
    stops c.in-Some.text c.args.name.now c.in_ok-value.value (spec.argument c.args.args.now c.args.name.now)
    (c.in_ok-value.ensures ∙ ap (λ p. spec.value_in p c.args.name.now) c.in_ok-piece.ensures.before) (sym c.is_some.ensures ∙ c.if-is_some.true) (rw c.in-Some.is at c.loop-rest.invariant)
