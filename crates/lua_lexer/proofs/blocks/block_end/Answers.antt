use Rattle.std.proofs.Common.{rules, sym, ◌∙◌}
use Rattle.lua_lexer.proofs.Braces.{block_past, search_begins, search_step, search_here, closing_here, closing_none, closing_open}
use Rattle.lua_lexer.proofs.blocks.block_end.Goals as goal

pub returns-then-from-text-clause-value : goal.returns-then-from-text-clause-value
returns-then-from-text-clause-value c = block_past _ _ (search rules)

pub loop-rest-init : goal.loop-rest-init
loop-rest-init c = search_begins _ _ _ (search rules) c.bytes_after-rest.ensures

pub returns-then-closes_block-clause-value : goal.returns-then-closes_block-clause-value
returns-then-closes_block-clause-value c =
    sym (closing_here _ _ _ (search rules) (sym c.closes_block.ensures ∙ c.if-closes_block.true)) ∙ c.loop-rest.invariant.same

pub returns-then-closes_block-clause-brace : goal.returns-then-closes_block-clause-brace
returns-then-closes_block-clause-brace c =
    search_here _ _ _ _ _ c.loop-rest.invariant (sym c.closes_block.ensures ∙ c.if-closes_block.true)

pub returns-in_err-size-clause-value : goal.returns-in_err-size-clause-value
returns-in_err-size-clause-value c =
    c.from_residual.ensures
    ∙ sym (closing_open _ _ _ (search rules) (sym c.closes_block.ensures ∙ c.if-closes_block.false) (sym c.in_err-size.ensures.value))
    ∙ c.loop-rest.invariant.same

pub loop-rest-preserved : goal.loop-rest-preserved
loop-rest-preserved c =
    search_step _ _ _ _ _ _ _ _ (search rules) (sym c.closes_block.ensures ∙ c.if-closes_block.false) c.loop-rest.invariant c.in_ok-size.ensures.value c.in_ok-size.ensures.within c.depth_after-depth.ensures c.bytes_after-rest-in-loop-rest.ensures

pub returns-clause-value : goal.returns-clause-value
returns-clause-value c = sym (closing_none _ _ _ (search rules)) ∙ c.loop-rest.invariant.same
