use Rattle.std.proofs.Common.{◌≡◌, ◌≢◌, ℕ, true, false, ◌+◌, ◌<◌, ◌≤◌, ◌==◌, List, [], ◌∷◌, ◌++◌, length, take, map, filter, cond, sym, ap, ◌∙◌, append_assoc, arith, rules, length-append}
use Rattle.std.proofs.lemmas.Bool.{cond-false, ne_eqb}
use Rattle.std.proofs.lemmas.List.{take_all, take-append-le}
use Rattle.std.proofs.lemmas.List.Elements.{filter-append}
use Rattle.http_base.specs.Splitting.{before, after, split, later_pieces}
use Rattle.http_base.proofs.Pieces.{left_after, split_first}
use Rattle.uri_args.specs.Arguments as spec
use Rattle.uri_args.specs.declared.arguments.Pair.{Pair}
use Rattle.uri_args.proofs.arguments.args_of.Goals.{else-max-gt0-via-then-max-gt0+else-len-max, else-max-gt0-via-else-max-gt0}
use Rattle.uri_args.proofs.arguments.args_of.Goals as goal

abbrev named : List (List ℕ) → List Pair
named pieces = filter spec.is_named (map spec.pair_of pieces)

-- the first piece is read, and the later ones are left
one_more : (list : List Pair) (text : List ℕ) → (list ++ filter spec.is_named (spec.pair_of (before 38 text) ∷ [])) ++ named (later_pieces 38 (after 38 text)) ≡ list ++ named (split 38 text)
one_more list text =
    let first = spec.pair_of (before 38 text) in
    let later = map spec.pair_of (later_pieces 38 (after 38 text)) in
    append_assoc list (filter spec.is_named (first ∷ [])) (filter spec.is_named later)
    ∙ ap (λ r. list ++ r) (sym (filter-append spec.is_named (first ∷ []) later))
    ∙ ap (λ pieces. list ++ named pieces) (sym (split_first 38 text))

-- so many were read as there may be
enough : (max : ℕ) (list more all : List Pair) → list ++ more ≡ all → 0 < max → length list ≡ max → list ≡ cond (max == 0) all (take max all)
enough max list more all is some full =
    sym (cond-false _ _ _ (ne_eqb max 0 (λ none. omega arith)) ∙ ap (take max) (sym is) ∙ take-append-le max list more (omega arith) ∙ take_all max list (omega arith))

pub loop-rest-smaller-else-max-gt0 : goal.loop-rest-smaller-else-max-gt0
loop-rest-smaller-else-max-gt0 c = rw (c.in_ok-piece.ensures.after, c.in-Some.is) (left_after 38 c.in-Some.more)

pub loop-rest-smaller : goal.loop-rest-smaller
loop-rest-smaller c = rw (c.in_ok-piece.ensures.after, c.in-Some.is) (left_after 38 c.in-Some.more)

-- at most one is read of a piece
grown : (list : List Pair) (pair : Pair) → length (list ++ filter spec.is_named (pair ∷ [])) ≤ length list + 1
grown list pair = rw length-append (elim (spec.is_named pair) as (λ t. length list + length (cond t (pair ∷ []) []) ≤ length list + 1) [
  | true ↦ omega arith
  | false ↦ omega arith
])

-- what the list is after a piece
pushed_is : (list new : List Pair) (pair : Pair) (piece text : List ℕ) → new ≡ list ++ filter spec.is_named (pair ∷ []) → pair ≡ spec.pair_of piece → piece ≡ before 38 text → new ≡ list ++ filter spec.is_named (spec.pair_of (before 38 text) ∷ [])
pushed_is list new pair piece text pushed read first = pushed ∙ ap (λ p. list ++ filter spec.is_named (p ∷ [])) (read ∙ ap spec.pair_of first)

pub returns-then-len-max : goal.returns-then-len-max
returns-then-len-max c =
    let new = c.push_named.new.pairs.items in
    let list = c.loop-rest.pairs.items in
    let text = c.in-Some.more in
    let pushed = pushed_is list new c.in_ok-pair.pair c.in_ok-piece.piece text c.in_ok-push_named.ensures c.in_ok-pair.ensures c.in_ok-piece.ensures.before in
    let is : new ++ named (later_pieces 38 (after 38 text)) ≡ spec.named_args c.args.text.now = rw pushed (one_more list text ∙ (rw c.in-Some.is at c.loop-rest.invariant.found)) in
    enough c.args.max new (named (later_pieces 38 (after 38 text))) (spec.named_args c.args.text.now) is c.if-max-gt0.true (search rules)

pub loop-rest-preserved-else-max-gt0 : goal.loop-rest-preserved-else-max-gt0
loop-rest-preserved-else-max-gt0 c =
    let new = c.push_named.new.pairs.items in
    let list = c.loop-rest.pairs.items in
    let text = c.in-Some.more in
    let pushed = pushed_is list new c.in_ok-pair.pair c.in_ok-piece.piece text c.in_ok-push_named.ensures c.in_ok-pair.ensures c.in_ok-piece.ensures.before in
    record {
      found = rw (pushed, c.in_ok-piece.ensures.after) (one_more list text ∙ (rw c.in-Some.is at c.loop-rest.invariant.found));
      room = λ some. elim c.else-max-gt0.branch [
        | else-max-gt0-via-then-max-gt0+else-len-max w ↦
            let size : length new ≤ length list + 1 = rw c.in_ok-push_named.ensures (grown list c.in_ok-pair.pair) in
            let other : length new ≢ c.args.max = search (rules, w.len.ensures, w.if-len-max.false) in
            omega (arith, size, other, c.loop-rest.invariant.room some)
        | else-max-gt0-via-else-max-gt0 w ↦ absurd (omega (arith, some, w.if-max-gt0.false))
      ];
    }

pub loop-rest-preserved : goal.loop-rest-preserved
loop-rest-preserved c =
    let new = c.push_named.new.pairs.items in
    let list = c.loop-rest.pairs.items in
    let text = c.in-Some.more in
    let pushed = pushed_is list new c.in_ok-pair.pair c.in_ok-piece.piece text c.in_ok-push_named.ensures c.in_ok-pair.ensures c.in_ok-piece.ensures.before in
    record {
      found = rw (pushed, c.in_ok-piece.ensures.after) (one_more list text ∙ (rw c.in-Some.is at c.loop-rest.invariant.found));
      room = λ some. elim c.else-max-gt0.branch [
        | else-max-gt0-via-then-max-gt0+else-len-max w ↦
            let size : length new ≤ length list + 1 = rw c.in_ok-push_named.ensures (grown list c.in_ok-pair.pair) in
            let other : length new ≢ c.args.max = search (rules, w.len.ensures, w.if-len-max.false) in
            omega (arith, size, other, c.loop-rest.invariant.room some)
        | else-max-gt0-via-else-max-gt0 w ↦ absurd (omega (arith, some, w.if-max-gt0.false))
      ];
    }
