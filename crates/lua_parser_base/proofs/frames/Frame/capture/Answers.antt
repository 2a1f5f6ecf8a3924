use Rattle.std.proofs.Common.{refl, rules, arith, sym, ap, length, take_all, map, get_or, ◌≡◌, ◌<◌, ◌∙◌, ◌+◌, ℕ, List}
use Rattle.lua_grammar.specs.Scopes.{last_index}
use Rattle.lua_parser_base.specs.declared.frames.Captured.{Captured}
use Rattle.lua_parser_base.proofs.Lookups.{searched, within, below, names_length, names_taken, name_at}
use Rattle.lua_parser_base.proofs.frames.Frame.capture.Goals.{then-eq, else-eq}
use Rattle.lua_parser_base.proofs.frames.Frame.capture.Goals as goal

pub loop-index-init : goal.loop-index-init
unfolding last_index
loop-index-init c = refl

pub loop-index-preserved : goal.loop-index-preserved
loop-index-preserved c =
    let items = c.args.self.now.captures.items in
    let xs = map (λ c. c.name) items in
    let i = c.loop-index.index in
    let same = c.deref-captured-items.ensures.value in
    let within_items : i < length items = rw same at c.loop-index-test.true in
    let inside : i < length xs = rw (names_length items) within_items in
    let here = rw same at c.captured-item.is in
    let name : Captured → List ℕ = λ c. c.name in
    let at : c.captured-item.result.name ≡ get_or xs i c.captured-item.result.name = ap name here ∙ sym (name_at items i c.captured-item.result) in
    let test = rw c.as_slice.ensures at c.eq.ensures in
    let before = rw (names_taken items i) at c.loop-index.invariant in
    elim c.if-eq.branch [
      | then-eq w ↦ rw (names_taken items (i + 1)) (searched _ xs _ c.captured-item.result.name _ _ _ c.eq.result inside at before test (rw (w.found-is, w.if-eq.true) refl))
      | else-eq w ↦ rw (names_taken items (i + 1)) (searched _ xs _ c.captured-item.result.name _ _ _ c.eq.result inside at before test (rw (w.found-is, w.if-eq.false) refl))
    ]

pub returns-clause-within : goal.returns-clause-within
returns-clause-within c =
    let items = c.args.self.now.captures.items in
    let all : c.loop-index.found ≡ last_index c.args.name.now (map (λ c. c.name) items) = search (rules, take_all) in
    rw all (below _ _ _ (names_length items ∙ grind arith) (within c.args.name.now (map (λ c. c.name) items)))
