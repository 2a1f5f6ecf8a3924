use Rattle.std.proofs.Common.{IsTrue, rules}
use Rattle.lua_parser_base.proofs.Arguments.{opens_elsewhere}
use Rattle.lua_parser_base.proofs.Bodies.{line_at}
use Rattle.lua_parser_base.proofs.Calls.{opens_same, opens_not, not_both}
use Rattle.lua_parser_base.proofs.cursor.Parser.opening_line.Goals as goal

pub returns-then-token-self-clause-line : goal.returns-then-token-self-clause-line
returns-then-token-self-clause-line c = line_at c.args.tokens.now c.args.self.now c.args.token.now c.requires

pub returns-then-token-self-clause-same : goal.returns-then-token-self-clause-same
returns-then-token-self-clause-same c = opens_same c.args.tokens.now c.args.self.now c.args.token.now c.requires c.if-token-self.true

pub returns-clause-line : goal.returns-clause-line
returns-clause-line c = line_at c.args.tokens.now c.args.self.now c.args.token.now c.requires

pub returns-clause-same : goal.returns-clause-same
returns-clause-same c =
    opens_not c.args.tokens.now c.args.self.now c.args.token.now c.requires (λ opens. not_both _ c.if-is_open_parenthesis.false (c.is_open_parenthesis.ensures.1 opens))

pub returns-then-is_open_parenthesis-clause-closed : goal.returns-then-is_open_parenthesis-clause-closed
returns-then-is_open_parenthesis-clause-closed c =
    let opens : IsTrue c.is_open_parenthesis.result = search rules in
    opens_elsewhere c.args.tokens.now c.args.self.now c.args.token.now c.requires (c.is_open_parenthesis.ensures.0 opens) c.if-token-self.false
