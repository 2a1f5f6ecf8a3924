use Rattle.std.proofs.Common.{◌≡◌, ℕ, List, [], ◌∷◌, ◌++◌, map, refl, ap, ◌∙◌, append_assoc, rules}
use Rattle.std.specs.Borrow.{Bor}
use Rattle.std.proofs.lemmas.List.{map-append}
use Rattle.resty_base.specs.Ascii.{comma}
use Rattle.http_base.specs.Elements as spec
use Rattle.http_base.specs.Lent.{texts}
use Rattle.http_base.specs.Splitting.{before, after, split, later_pieces}
use Rattle.http_base.proofs.Pieces.{left_after, split_first}
use Rattle.http_base.proofs.lists.elements.Goals as goal

-- one more element stands at the end
one_more : (list : List (Bor (List ℕ))) (element : Bor (List ℕ)) (text : List ℕ) → element.now ≡ spec.trimmed (before comma text) → texts (list ++ element ∷ []) ++ map spec.trimmed (later_pieces comma (after comma text)) ≡ texts list ++ map spec.trimmed (split comma text)
one_more list element text is = rw (map-append, append_assoc, is, split_first comma text) refl

pub loop-rest-smaller : goal.loop-rest-smaller
loop-rest-smaller c = rw (c.split_once.ensures.after, c.in-Some.is) (left_after _ c.in-Some.text.now)

pub loop-rest-preserved : goal.loop-rest-preserved
loop-rest-preserved c =
    let pushed : c.push.new.self.items ≡ c.loop-rest.list.items ++ c.trimmed.result ∷ [] = search rules in
    let more = one_more c.loop-rest.list.items c.trimmed.result c.in-Some.text.now (c.trimmed.ensures ∙ ap spec.trimmed c.split_once.ensures.before) in
    rw (pushed, c.split_once.ensures.after) (more ∙ (rw c.in-Some.is at c.loop-rest.invariant))
