use Rattle.std.proofs.Common.{◌≡◌, ◌≤◌, Some, slice_get, refl, ap, arith}
use Rattle.std.proofs.lemmas.Option.{slice_get_read}
use Rattle.lua_parser_base.proofs.Next.{if_none, none_next, kind_next}
use Rattle.lua_grammar.specs.declared.operators.Operator.{Operator}
use Rattle.lua_grammar.specs.Operators.{kind_of, level, left_level}
use Rattle.lua_parser_base.specs.States.{state}
use Rattle.lua_parser_base.specs.Next.{IsNext}
use Rattle.lua_parser.proofs.expressions.skip_operator.Goals.{else-lowest-level-via-then-lowest-level+else-left_level-left, else-lowest-level-via-else-lowest-level}
use Rattle.lua_parser.proofs.expressions.skip_operator.Goals as goal

pub returns-in_err-token-clause-missing : goal.returns-in_err-token-clause-missing
returns-in_err-token-clause-missing c =
    let none : (op : Operator) → IsNext (kind_of op) (state c.args.tokens.now c.args.parser.now) → c.args.lowest ≤ level op → left_level op ≤ c.args.left → ⊥ =
    λ op is low fits. none_next c.args.tokens.now c.args.parser.now _ c.in_err-token.ensures.lookup.3 is
    in
    if_none _ none

pub returns-in_err-op-clause-missing : goal.returns-in_err-op-clause-missing
returns-in_err-op-clause-missing c =
    let next : slice_get c.args.tokens.now c.args.parser.now.index ≡ Some c.in_ok-token.token.now = slice_get_read _ _ _ _ refl c.in_ok-token.ensures.lookup.3.0 c.in_ok-token.ensures.lookup.1 in
    let none : (op : Operator) → IsNext (kind_of op) (state c.args.tokens.now c.args.parser.now) → c.args.lowest ≤ level op → left_level op ≤ c.args.left → ⊥ =
    λ op is low fits. let found = c.in_err-op.ensures.none op (kind_next c.args.tokens.now c.args.parser.now c.in_ok-token.token.now _ next is) in cc
    in
    if_none _ none

pub advance-requires : goal.advance-requires
advance-requires c = slice_get_read _ _ _ _ refl c.in_ok-token.ensures.lookup.3.0 c.in_ok-token.ensures.lookup.1

pub returns-clause-missing : goal.returns-clause-missing
returns-clause-missing c = λ op is low fits.
    let next : slice_get c.args.tokens.now c.args.parser.now.index ≡ Some c.in_ok-token.token.now = slice_get_read _ _ _ _ refl c.in_ok-token.ensures.lookup.3.0 c.in_ok-token.ensures.lookup.1 in
    let found = c.in_ok-op.ensures.none op (kind_next c.args.tokens.now c.args.parser.now c.in_ok-token.token.now _ next is) in
    let same : c.in_ok-op.op ≡ op = cc in
    let own : level c.in_ok-op.op ≡ level op = ap level same in
    let left : left_level c.in_ok-op.op ≡ left_level op = ap left_level same in
    let is_level = c.level.ensures in
    elim c.else-lowest-level.branch [
      | else-lowest-level-via-then-lowest-level+else-left_level-left w ↦
          let is_left = w.left_level.ensures in let above = w.if-left_level-left.false in omega (arith, left, is_left, above, fits)
      | else-lowest-level-via-else-lowest-level w ↦ let above = w.if-lowest-level.false in omega (arith, own, is_level, above, low)
    ]
