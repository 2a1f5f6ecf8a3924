-- The first of the words, where there is one.
use Rattle.std.proofs.Common.{◌≡◌, ◌≤◌, ◌<◌, ℕ, false, List, [], ◌∷◌, length, get_or, codes, refl, ap, ◌∙◌, arith}
use Rattle.std.specs.List.{ends_with}
use Rattle.std.specs.Prelude.{◌==◌}
use Rattle.conf_text.specs.Items as spec
use Rattle.conf_text.proofs.items.begin_lua.Goals as goal

none_first : (words : List (List ℕ)) → length words < 1 → false ≡ spec.begin_lua words
none_first [] none = refl
none_first (word ∷ words) none = absurd (omega arith)

one_first : (words : List (List ℕ)) (name : List ℕ) → 1 ≤ length words → name ≡ get_or words 0 name
    → ends_with (λ a b. a == b) name (codes "_by_lua_block") ≡ spec.begin_lua words
one_first [] name some is = absurd (omega arith)
one_first (word ∷ words) name some is = ap (λ n. ends_with (λ a b. a == b) n (codes "_by_lua_block")) is

pub returns-in-empty : goal.returns-in-empty
returns-in-empty c = none_first c.args.words.now (omega arith)

pub returns-in-len1-up : goal.returns-in-len1-up
returns-in-len1-up c =
    let first = one_first c.args.words.now c.name-item.result (omega arith) c.name-item.is in
    let value = c.ends_with.ensures.value in
    let lent = c.deref.ensures in
    value ∙ ap (λ n. ends_with (λ a b. a == b) n (codes "_by_lua_block")) lent ∙ first
