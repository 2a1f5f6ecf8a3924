use Rattle.std.proofs.Common.{◌≡◌, ◌+◌, [], ◌∷◌, ◌++◌, length, refl, sym, ap, ◌∙◌, arith}
use Rattle.lua_site.specs.Making.{for_each, closure_made}
use Rattle.lua_site.proofs.GivesLemmas.{each_goes, one_more}
use Rattle.lua_site.proofs.loading.make_blocks.Goals as goal

pub loop-function-preserved : goal.loop-function-preserved
loop-function-preserved c =
    let start = c.args.store.now.heap in
    let functions = c.args.functions.now in
    let n = c.loop-function.function-index in
    let is = c.loop-function.invariant in
    let number : length start.closures + n ≡ c.in_ok-closure.closure = sym (c.in_ok-closure.ensures.number ∙ is.closures) in record {
      made = each_goes closure_made (for_each closure_made start functions) c.loop-function.store.heap c.make_closure.new.store.heap functions n _ 0 is.made (omega arith) refl c.in_ok-closure.ensures.made;
      blocks_are = c.in_ok-push.ensures.items ∙ ap (λ bs. bs ++ c.in_ok-closure.closure ∷ []) is.blocks_are ∙ sym (one_more (length start.closures) n c.in_ok-closure.closure number);
      closures = omega (arith, c.in_ok-closure.ensures.more, is.closures);
    }
