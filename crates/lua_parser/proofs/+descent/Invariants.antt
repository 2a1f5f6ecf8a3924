use Rattle.lua_lexer.specs.declared.signs.Sign.TheVariants.{OpenBrace}
use Rattle.lua_lexer.specs.declared.tokens.TokenKind.TheVariants.{Sign as SignKind}
use Rattle.lua_parser_base.specs.Reads.{ReadsExp, ReadsPrefix, ReadsList, ReadsFields}
use Rattle.lua_parser_base.specs.ReadsStatements.{ReadsStats, ReadsArms, ReadsVars, ReadsMoreVars}
use Rattle.lua_parser_base.specs.States.{State, state, Takes, Advances, AdvancesOrStays}
use Rattle.std.proofs.Common.{ℕ, ◌+◌, ◌-◌, ◌*◌, ◌≤◌, [], ◌∷◌, min, length}
use Rattle.lua_parser.proofs.+descent.Given as goal

abbrev pub decreases-expressions::expression : goal.decreases-expressions::expression
decreases-expressions::expression l = (201 - l.at.depth) * 16 + 8

abbrev pub invariant-expressions::expression-loop-infix : goal.invariant-expressions::expression-loop-infix
invariant-expressions::expression-loop-infix l = record {
  forward : Advances l.tokens l.fn.parser l.parser;
  reads : ReadsExp l.at (state l.tokens l.fn.parser) l.left (state l.tokens l.parser);
  level : min l.lowest 7 ≤ l.left.level;
}

abbrev pub decreases-expressions::expression-loop-infix : goal.decreases-expressions::expression-loop-infix
decreases-expressions::expression-loop-infix l = length l.tokens - l.parser.index

abbrev pub decreases-expressions::right_operand : goal.decreases-expressions::right_operand
decreases-expressions::right_operand l = (201 - l.at.depth) * 16 + 7

abbrev pub decreases-expressions::operand : goal.decreases-expressions::operand
decreases-expressions::operand l = (201 - l.at.depth) * 16 + 7

abbrev pub decreases-expressions::unary_operand : goal.decreases-expressions::unary_operand
decreases-expressions::unary_operand l = (201 - l.at.depth) * 16 + 5

abbrev pub decreases-expressions::closure : goal.decreases-expressions::closure
decreases-expressions::closure l = (201 - l.at.depth) * 16 + 5

abbrev pub decreases-expressions::prefix_operand : goal.decreases-expressions::prefix_operand
decreases-expressions::prefix_operand l = (201 - l.at.depth) * 16 + 6

abbrev pub decreases-suffixes::prefix : goal.decreases-suffixes::prefix
decreases-suffixes::prefix l = (201 - l.at.depth) * 16 + 5

abbrev pub invariant-suffixes::prefix-loop-suffix : goal.invariant-suffixes::prefix-loop-suffix
invariant-suffixes::prefix-loop-suffix l = record {
  forward : Advances l.tokens l.fn.parser l.parser;
  reads : ReadsPrefix l.at (state l.tokens l.fn.parser) l.prefix (state l.tokens l.parser);
}

abbrev pub decreases-suffixes::prefix-loop-suffix : goal.decreases-suffixes::prefix-loop-suffix
decreases-suffixes::prefix-loop-suffix l = length l.tokens - l.parser.index

abbrev pub decreases-suffixes::primary : goal.decreases-suffixes::primary
decreases-suffixes::primary l = (201 - l.at.depth) * 16 + 3

abbrev pub decreases-suffixes::item : goal.decreases-suffixes::item
decreases-suffixes::item l = (201 - l.at.depth) * 16 + 4

abbrev pub decreases-suffixes::key : goal.decreases-suffixes::key
decreases-suffixes::key l = (201 - l.at.depth) * 16 + 3

abbrev pub decreases-suffixes::call : goal.decreases-suffixes::call
decreases-suffixes::call l = (201 - l.at.depth) * 16 + 4

abbrev pub decreases-suffixes::call_arguments : goal.decreases-suffixes::call_arguments
decreases-suffixes::call_arguments l = (201 - l.at.depth) * 16 + 3

abbrev pub decreases-suffixes::method : goal.decreases-suffixes::method
decreases-suffixes::method l = (201 - l.at.depth) * 16 + 4

abbrev pub decreases-suffixes::method_arguments : goal.decreases-suffixes::method_arguments
decreases-suffixes::method_arguments l = (201 - l.at.depth) * 16 + 3

abbrev pub decreases-suffixes::arguments : goal.decreases-suffixes::arguments
decreases-suffixes::arguments l = (201 - l.at.depth) * 16 + 2

abbrev pub decreases-suffixes::list_arguments : goal.decreases-suffixes::list_arguments
decreases-suffixes::list_arguments l = (201 - l.at.depth) * 16 + 1

abbrev pub decreases-suffixes::expressions : goal.decreases-suffixes::expressions
decreases-suffixes::expressions l = (201 - l.at.depth) * 16 + 9

abbrev pub invariant-suffixes::expressions-loop-alloc : goal.invariant-suffixes::expressions-loop-alloc
invariant-suffixes::expressions-loop-alloc l = record {
  forward : Advances l.tokens l.fn.parser l.parser;
  reads : ReadsList l.at (state l.tokens l.fn.parser) l.values (state l.tokens l.parser);
}

abbrev pub decreases-suffixes::expressions-loop-alloc : goal.decreases-suffixes::expressions-loop-alloc
decreases-suffixes::expressions-loop-alloc l = length l.tokens - l.parser.index

abbrev pub decreases-suffixes::table : goal.decreases-suffixes::table
decreases-suffixes::table l = (201 - l.at.depth) * 16 + 1

abbrev pub invariant-suffixes::table-loop-at : goal.invariant-suffixes::table-loop-at
invariant-suffixes::table-loop-at l = record {
  forward : Advances l.tokens l.fn.parser l.parser;
  reads : (inside : State) × Takes (SignKind OpenBrace) l.open (state l.tokens l.fn.parser) inside × ReadsFields l.at inside l.items (state l.tokens l.parser);
}

abbrev pub decreases-suffixes::table-loop-at : goal.decreases-suffixes::table-loop-at
decreases-suffixes::table-loop-at l = length l.tokens - l.parser.index

abbrev pub decreases-suffixes::push_field : goal.decreases-suffixes::push_field
decreases-suffixes::push_field l = (201 - l.at.depth) * 16 + 0

abbrev pub decreases-suffixes::field : goal.decreases-suffixes::field
decreases-suffixes::field l = (201 - l.at.depth) * 16 + 10

abbrev pub decreases-suffixes::keyed_field : goal.decreases-suffixes::keyed_field
decreases-suffixes::keyed_field l = (201 - l.at.depth) * 16 + 9

abbrev pub decreases-suffixes::named_field : goal.decreases-suffixes::named_field
decreases-suffixes::named_field l = (201 - l.at.depth) * 16 + 9

abbrev pub decreases-statements::arm : goal.decreases-statements::arm
decreases-statements::arm l = (201 - l.at.depth) * 16 + 9

abbrev pub decreases-statements::arms : goal.decreases-statements::arms
decreases-statements::arms l = (201 - l.at.depth) * 16 + 10

abbrev pub invariant-statements::arms-loop-alloc : goal.invariant-statements::arms-loop-alloc
invariant-statements::arms-loop-alloc l = record {
  forward : Advances l.tokens l.fn.parser l.parser;
  reads : (line : ℕ) → ReadsArms l.at line (state l.tokens l.fn.parser) l.arms.items (state l.tokens l.parser);
}

abbrev pub decreases-statements::arms-loop-alloc : goal.decreases-statements::arms-loop-alloc
decreases-statements::arms-loop-alloc l = length l.tokens - l.parser.index

abbrev pub decreases-statements::assignment : goal.decreases-statements::assignment
decreases-statements::assignment l = (201 - l.at.depth) * 16 + 11

abbrev pub decreases-statements::block : goal.decreases-statements::block
decreases-statements::block l = (201 - l.at.depth) * 16 + 14

abbrev pub invariant-statements::block-loop-statements : goal.invariant-statements::block-loop-statements
invariant-statements::block-loop-statements l = record {
  forward : AdvancesOrStays l.tokens l.fn.parser l.parser;
  reads : ReadsStats l.at (state l.tokens l.fn.parser) l.statements.items (state l.tokens l.parser);
}

abbrev pub decreases-statements::block-loop-statements : goal.decreases-statements::block-loop-statements
decreases-statements::block-loop-statements l = length l.tokens - l.parser.index

abbrev pub decreases-statements::body : goal.decreases-statements::body
decreases-statements::body l = (201 - l.at.depth) * 16 + 0

abbrev pub decreases-statements::do_block : goal.decreases-statements::do_block
decreases-statements::do_block l = (201 - l.at.depth) * 16 + 11

abbrev pub decreases-loops::for_loop : goal.decreases-loops::for_loop
decreases-loops::for_loop l = (201 - l.at.depth) * 16 + 12

abbrev pub decreases-statements::function_statement : goal.decreases-statements::function_statement
decreases-statements::function_statement l = (201 - l.at.depth) * 16 + 11

abbrev pub decreases-statements::if_statement : goal.decreases-statements::if_statement
decreases-statements::if_statement l = (201 - l.at.depth) * 16 + 11

abbrev pub decreases-statements::else_statement : goal.decreases-statements::else_statement
decreases-statements::else_statement l = (201 - l.at.depth) * 16 + 10

abbrev pub decreases-statements::initial : goal.decreases-statements::initial
decreases-statements::initial l = (201 - l.at.depth) * 16 + 9

abbrev pub decreases-statements::inner_block : goal.decreases-statements::inner_block
decreases-statements::inner_block l = (201 - l.at.depth) * 16 + 0

abbrev pub decreases-statements::last : goal.decreases-statements::last
decreases-statements::last l = (201 - l.at.depth) * 16 + 13

abbrev pub decreases-loops::list_loop : goal.decreases-loops::list_loop
decreases-loops::list_loop l = (201 - l.at.depth) * 16 + 10

abbrev pub decreases-statements::local_function : goal.decreases-statements::local_function
decreases-statements::local_function l = (201 - l.at.depth) * 16 + 10

abbrev pub decreases-statements::local_names : goal.decreases-statements::local_names
decreases-statements::local_names l = (201 - l.at.depth) * 16 + 10

abbrev pub decreases-statements::local_statement : goal.decreases-statements::local_statement
decreases-statements::local_statement l = (201 - l.at.depth) * 16 + 11

abbrev pub decreases-loops::loop_block : goal.decreases-loops::loop_block
decreases-loops::loop_block l = (201 - l.at.depth) * 16 + 9

abbrev pub decreases-statements::method_statement : goal.decreases-statements::method_statement
decreases-statements::method_statement l = (201 - l.at.depth) * 16 + 10

abbrev pub decreases-statements::prefix_statement : goal.decreases-statements::prefix_statement
decreases-statements::prefix_statement l = (201 - l.at.depth) * 16 + 12

abbrev pub decreases-loops::range_loop : goal.decreases-loops::range_loop
decreases-loops::range_loop l = (201 - l.at.depth) * 16 + 11

abbrev pub decreases-loops::range : goal.decreases-loops::range
decreases-loops::range l = (201 - l.at.depth) * 16 + 10

abbrev pub decreases-loops::repeat_loop : goal.decreases-loops::repeat_loop
decreases-loops::repeat_loop l = (201 - l.at.depth) * 16 + 11

abbrev pub decreases-statements::scoped : goal.decreases-statements::scoped
decreases-statements::scoped l = (201 - l.at.depth) * 16 + 8

abbrev pub decreases-statements::statement : goal.decreases-statements::statement
decreases-statements::statement l = (201 - l.at.depth) * 16 + 13

abbrev pub decreases-loops::step : goal.decreases-loops::step
decreases-loops::step l = (201 - l.at.depth) * 16 + 9

abbrev pub decreases-statements::target : goal.decreases-statements::target
decreases-statements::target l = (201 - l.at.depth) * 16 + 9

abbrev pub decreases-statements::targets : goal.decreases-statements::targets
decreases-statements::targets l = (201 - l.at.depth) * 16 + 10

abbrev pub invariant-statements::targets-loop-alloc : goal.invariant-statements::targets-loop-alloc
invariant-statements::targets-loop-alloc l = record {
  forward : AdvancesOrStays l.tokens l.fn.parser l.parser;
  reads : (line : ℕ) (s : State) (read : ReadsVars l.at line s (l.fn.first ∷ []) (state l.tokens l.fn.parser)) →
      ReadsMoreVars l.at line s read.tree l.targets.items (state l.tokens l.fn.parser) (state l.tokens l.parser);
}

abbrev pub decreases-statements::targets-loop-alloc : goal.decreases-statements::targets-loop-alloc
decreases-statements::targets-loop-alloc l = length l.tokens - l.parser.index

abbrev pub decreases-statements::value : goal.decreases-statements::value
decreases-statements::value l = (201 - l.at.depth) * 16 + 8

abbrev pub decreases-statements::values : goal.decreases-statements::values
decreases-statements::values l = (201 - l.at.depth) * 16 + 8

abbrev pub decreases-loops::while_loop : goal.decreases-loops::while_loop
decreases-loops::while_loop l = (201 - l.at.depth) * 16 + 11
