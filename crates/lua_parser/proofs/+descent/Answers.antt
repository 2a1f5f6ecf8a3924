use Rattle.lua_grammar.specs.Reading.{statement, last, after_field, field}
use Rattle.lua_grammar.specs.Resolution.{self_name}
use Rattle.lua_grammar.specs.Scopes.{in_scope}
use Rattle.lua_grammar.specs.Stopping.{EndsAt}
use Rattle.lua_grammar.specs.Waiting.{token, exp}
use Rattle.lua_lexer.specs.declared.signs.Sign.TheVariants.{Colon, OpenParenthesis, OpenBracket}
use Rattle.lua_lexer.specs.declared.tokens.TokenKind.TheVariants.{Word, Sign, Sign as SignKind}
use Rattle.lua_parser_base.proofs.Arguments.{call_cannot_open, call_refused, call_too_high, method_cannot_open, method_refused, args_no_part, args_open, args_refused, no_args, table_arg_refused}
use Rattle.lua_parser.proofs.ArmRefusals.{arm_block_refused, test_refused, then_refused, first_arm_refused, next_arm_refused, arms_refused, else_end_refused, else_refused, end_refused}
use Rattle.lua_parser_base.proofs.Assignments.{function_from, function_read, method_read, local_from, local_function_read, local_read, call_read, first_assigned, target_read, vars_one, assign_after}
use Rattle.lua_parser.proofs.Beside.{advances_stays, before_refused, binary_of, done_by, done_node, loop_named, memory_by, never_there, node_by, on_done, pushed_refused, read_by, refused_by, right_read}
use Rattle.lua_parser.proofs.Skipping.{skipped, skipped_on, stayed, not_there}
use Rattle.lua_parser_base.proofs.Names.{no_comma_ahead}
use Rattle.std.specs.Prelude.{not}
use Rattle.lua_parser.proofs.BlockKinds.{block_end, is_statement, nothing_returned, return_next, semicolon_next, values_next, do_kind, for_kind, function_kind, if_kind, local_kind, prefix_begins, repeat_kind, while_kind}
use Rattle.lua_parser_base.proofs.BlockRefusals.{last_refused, stat_refused, returned_refused}
use Rattle.lua_parser_base.proofs.Blocks.{arm_read, arms_more, arms_one, block_last, block_open, do_read, if_else_read, if_read, repeat_read, return_none_read, return_read, scoped_read, stats_more, stats_none, value_read, values_read, while_read}
use Rattle.lua_parser_base.proofs.Bodies.{body_read, ends_state}
use Rattle.lua_parser_base.proofs.Breaking.{args_ambiguous, ended_first, missing_first, call_breaks, call_ambiguous, counted_before, deep_breaks, function_breaks, method_breaks, operator_breaks, part_breaks, suffix_breaks}
use Rattle.lua_parser_base.proofs.Calls.{ok_extends, item_read, called_read, method_called_read, no_args_read, args_read, table_arg_read, text_arg_read}
use Rattle.lua_parser.proofs.Closures.{closure_refused}
use Rattle.lua_parser.proofs.Constructors.{part_refused, field_refused, separator_refused}
use Rattle.lua_parser.proofs.Declaring.{few_after, few_declared, few_in_list, few_in_loop, few_in_range, function_stands, local_there}
use Rattle.lua_parser.proofs.Fields.{plain_refused, key_refused, bracket_refused, equals_refused, keyed_value_refused, name_never_missed, equals_never_missed, named_value_refused}
use Rattle.lua_parser_base.proofs.ForLoops.{for_read, range_read, list_read, loop_read}
use Rattle.lua_parser.proofs.FunctionBodies.{begins_body, body_block_refused, body_too_deep, body_unended}
use Rattle.lua_parser_base.proofs.FunctionStatements.{function_word, function_name_refused, function_body_refused, method_statement_refused, method_unnamed, method_body_refused}
use Rattle.lua_parser_base.proofs.Handing.{handed_on}
use Rattle.lua_parser.proofs.Lists.{first_refused, next_refused}
use Rattle.lua_parser.proofs.LocalStatements.{local_refused, local_word, local_function_word, local_function_unnamed, local_function_crowded, local_body_refused, locals_state, inside, local_names_refused, local_values_refused, locals_declared, declared_state, initial_refused}
use Rattle.lua_parser.proofs.LoopRefusals.{while_block_refused, while_do_refused, while_end_refused, while_test_refused, repeat_test_refused, until_refused, do_end_refused, do_refused}
use Rattle.lua_parser_base.proofs.Next.{on_err, on_memory, on_want, untested}
use Rattle.lua_parser_base.proofs.OpenFunctions.{few_there}
use Rattle.lua_parser.proofs.OperandKinds.{unary_kind, closure_kind, table_kind, nil_kind, true_kind, false_kind, vararg_kind, number_next, text_next, next_of}
use Rattle.lua_parser.proofs.Operands.{exp_ends_there, right_refused, right_no_part, right_too_high, right_low, operand_refused, operand_no_part, prefix_refused, table_refused}
use Rattle.lua_parser_base.proofs.Prefixes.{suffix_refused, paren_no_part, paren_open, paren_refused, item_no_part, item_open, item_refused, item_too_high}
use Rattle.lua_parser_base.proofs.Productions.{advances_on, right_fits, operator_none, binary_read, unary_read, closure_read, prefix_exp, table_exp, unary_tight, table_tight, list_one, list_more, paren_read}
use Rattle.lua_parser.proofs.RefusedLoops.{for_names_refused, for_tail_refused, innermost, many_names, one_name, range_block_refused, range_from_refused, range_step_refused, range_to_refused, range_without_comma, step_refused, list_block_refused, list_refused, list_without_in, crowded_there, loop_crowded, loop_without_do, loop_without_end, unread}
use Rattle.lua_parser_base.proofs.Refusing.{never_missed, never_missed_ahead}
use Rattle.lua_parser_base.proofs.Scoping.{left_since, on_node, on_ok, slot_state, declared, slots_state, turned, none_found}
use Rattle.lua_parser_base.proofs.Tables.{no_fields_read, more_fields_read, separated_read, ending_read, keyed_read, named_read, plain_read}
use Rattle.lua_parser.proofs.Targets.{assignment_refused, first_target_refused, statement_is_none, assigned_refused, assignment_without_assign, more_vars_on, next_target_refused, no_more_vars, target_is_none, target_refused}
use Rattle.lua_parser.proofs.ValueRefusals.{value_refused, value_too_deep, values_refused, values_too_deep}
use Rattle.lua_parser.proofs.+descent.Goals.{statements::last-then-eq-via-then-eq, statements::last-then-eq-via-else-eq+then-at_sign, suffixes::prefix-in-Member, suffixes::prefix-in-Item, suffixes::prefix-in-Method, suffixes::prefix-in-Arguments}
use Rattle.lua_parser_base.specs.Kinds.{IsStatement, IsUnary, IsSuffix, begins_of}
use Rattle.lua_parser_base.specs.Next.{IsKind, IsMemory, IsTooDeep, Misses, OnAt, ahead, IsNext, OnLocals, MissesMember, IsName, HasNoPart, IsTooHigh, Begin}
use Rattle.lua_parser_base.specs.Reads.{ReadsExp, ReadsPrefix}
use Rattle.lua_parser_base.specs.Refusals.{RefusesFrom, RefusesList, RefusesBody, RefusesPrefix, RefusesExp, RefusesSuffix, RefusesArgs, RefusesField, RefusesTable}
use Rattle.lua_parser_base.specs.Standing.{FirstFault}
use Rattle.lua_parser_base.specs.StatementRefusals.{RefusesArm, RefusesBlock, RefusesArms, RefusesScoped, RefusesStat, RefusesValue, RefusesValues, RefusesNames, RefusesFor, RefusesLoop, RefusesFuncName, RefusesInitial, RefusesTarget, RefusesMethod}
use Rattle.lua_parser_base.specs.States.{state, scope_of, Advances, State}
use Rattle.lua_parser_base.specs.declared.nodes.Form.TheVariants.{Variable, Call, Paren}
use Rattle.std.proofs.Common.{◌≡◌, ◌≤◌, refl, sym, subst, rules, arith, [], length, ◌∷◌, IfErr, IfOk, OnOk, ◌∙◌, ◌<◌, ◌+◌, true, false, lit≤, IsTrue, Vec, inl, inr, ap}
use Rattle.std.proofs.lemmas.Result.{err_from_is_err_and}
use Rattle.lua_parser_base.specs.declared.beginnings.Begins.TheVariants as begins
use Rattle.lua_parser.proofs.+descent.Goals as goal
use Rattle.lua_lexer.specs.declared.signs.Sign.TheVariants as sign
use Rattle.lua_parser_base.specs.Standing as standing
use Rattle.lua_lexer.specs.declared.words.Word.TheVariants as word
use Rattle.lua_parser_base.specs.ReadsStatements.{ReadsValue, ReadsBlock, ReadsStat}
use Rattle.lua_parser_base.specs.Nodes.{IsCalled, IsIndexed, IsMethodCalled, IsParen, AddsItem}
use Rattle.lua_parser_base.specs.StatementNodes.{Defines, IsNumericFor, IsIf}
use Rattle.lua_parser.specs.Parts.{AfterArms, AfterItems, PushesField, ReadsInner, ReadsKey, RefusesElse, RefusesInner, RefusesItem}
use Rattle.lua_parser.proofs.InnerBlocks.{loop_inner, repeat_inner, scoped_inner}
use Rattle.std.specs.Global.{Global}
use Rattle.lua_ast.specs.declared.statements.Stmt.{Stmt}
use Rattle.lua_grammar.specs.Limits.{Few}

pub expressions::expression-loop-infix-init : goal.expressions::expression-loop-infix-init
expressions::expression-loop-infix-init t c = record {
  forward = c.in_ok-left.ensures.forward;
  reads = c.in_ok-left.ensures.reads;
  level = let h = c.in_ok-left.ensures.level in omega (arith, h);
}

pub expressions::expression-loop-infix-preserved : goal.expressions::expression-loop-infix-preserved
expressions::expression-loop-infix-preserved t c =
    let before = c.loop-infix.invariant in
    let found = c.in-Some.ensures.skips in
    let both = c.in_ok-before.ensures in
    let right = read_by _ _ _ both.1 c.right_operand-right.ensures.reads in
    let forward = done_by _ _ both.1 c.right_operand-right.ensures.forward in
    let whole = binary_of _ _ _ _ _ _ both.0 c.in_ok-left-2.ensures in
    record {
      forward = advances_on _ _ _ _ before.forward (advances_on _ _ _ _ c.in-Some.ensures.forward forward);
      reads = binary_read _ _ _ _ _ _ _ _ _ _ _ before.reads found.taken right.part right.reads right.ends found.left_fits (right_fits _ _ right.level) right.below whole;
      level = let own = whole.own in let high = found.high_enough in omega (arith, own, high);
    }

pub expressions::expression-returns-clause-reads : goal.expressions::expression-returns-clause-reads
expressions::expression-returns-clause-reads t c =
    let same = operator_none c.skip_operator.result c.loop-infix.left.level c.args.lowest _ _ c.skip_operator.ensures.skips c.in_default.not-Some in
    subst (ReadsExp c.args.at (state c.args.tokens.now c.args.parser.now) c.loop-infix.left) (sym same) c.loop-infix.invariant.reads

pub expressions::expression-returns-clause-level : goal.expressions::expression-returns-clause-level
expressions::expression-returns-clause-level t c = c.loop-infix.invariant.level

pub expressions::expression-returns-clause-ends : goal.expressions::expression-returns-clause-ends
expressions::expression-returns-clause-ends t c =
    let same = operator_none c.skip_operator.result c.loop-infix.left.level c.args.lowest _ _ c.skip_operator.ensures.skips c.in_default.not-Some in
    subst (λ z. EndsAt c.args.lowest (ahead z)) (sym same) (exp_ends_there c.args.at c.args.lowest _ _ c.loop-infix.left c.loop-infix.invariant.reads c.in_default.ensures.missing)

pub expressions::expression-returns-in_err-left-clause-refuses : goal.expressions::expression-returns-in_err-left-clause-refuses
expressions::expression-returns-in_err-left-clause-refuses t c = λ low.
    let h : IfErr c.from_residual.result (RefusesExp c.args.at (state c.args.tokens.now c.args.parser.now) (state c.args.tokens.now c.operand.new.parser)) = search rules in
    on_err c.from_residual.result h (λ fault refuses. refuses c.args.lowest)

pub expressions::expression-returns-in_err-before-clause-refuses : goal.expressions::expression-returns-in_err-before-clause-refuses
expressions::expression-returns-in_err-before-clause-refuses t c = λ low.
    let before = c.loop-infix.invariant in
    handed_on (RefusesFrom c.args.lowest c.args.at (state c.args.tokens.now c.args.parser.now) (state c.args.tokens.now c.right_operand-right.new.parser)) c.from_residual-in_err-before.result _ c.from_residual-in_err-before.ensures.1
    (refused_by _ _ _ c.in_err-before.ensures c.right_operand-right.ensures.refuses c.args.lowest _ _ low before.level before.reads c.in-Some.ensures.skips)

pub expressions::expression-returns-in_err-left-2-clause-refuses : goal.expressions::expression-returns-in_err-left-2-clause-refuses
expressions::expression-returns-in_err-left-2-clause-refuses t c = λ low.
    let h : IfErr c.from_residual-in_err-left-2.result IsMemory = search rules in
    on_want _ c.from_residual-in_err-left-2.result (λ k none. absurd none) h

pub expressions::expression-returns-in_err-left-clause-order : goal.expressions::expression-returns-in_err-left-clause-order
expressions::expression-returns-in_err-left-clause-order t c =
    handed_on _ c.from_residual.result _ c.from_residual.ensures.1
    (λ start stands. c.in_err-left.ensures.order c.args.lowest start (stands))

pub expressions::expression-returns-in_err-before-clause-order : goal.expressions::expression-returns-in_err-before-clause-order
expressions::expression-returns-in_err-before-clause-order t c =
    let before = c.loop-infix.invariant in
    handed_on _ c.from_residual-in_err-before.result _ c.from_residual-in_err-before.ensures.1
    (refused_by _ _ _ c.in_err-before.ensures c.right_operand-right.ensures.order c.args.lowest _ _ before.reads c.in-Some.ensures.skips)

pub expressions::right_operand-returns-clause-reads : goal.expressions::right_operand-returns-clause-reads
expressions::right_operand-returns-clause-reads t c =
    right_read c.args.at c.in_ok-inner.inner c.args.left.now c.args.found _ _ _ c.expression.result c.in_ok-inner.ensures c.in_ok-above.ensures c.right_level.ensures c.expression.ensures.reads c.expression.ensures.level c.expression.ensures.ends

pub expressions::right_operand-returns-in_err-above-clause-refuses : goal.expressions::right_operand-returns-in_err-above-clause-refuses
expressions::right_operand-returns-in_err-above-clause-refuses t c =
    let h : IfErr c.from_residual.result (IsTooHigh c.args.at c.args.left.now.height c.args.found.line) = search rules in
    on_err c.from_residual.result h (λ fault high lowest s a low level read found k suppose.
    right_too_high c.args.at lowest k _ _ fault _ _ _ c.args.left.now read (omega (arith, level, low)) found.taken found.high_enough suppose high)

pub expressions::right_operand-returns-in_err-inner-clause-refuses : goal.expressions::right_operand-returns-in_err-inner-clause-refuses
expressions::right_operand-returns-in_err-inner-clause-refuses t c =
    let h : IfErr c.from_residual-in_err-inner.result (HasNoPart c.args.at (state c.args.tokens.now c.args.parser.now)) = search rules in
    on_err c.from_residual-in_err-inner.result h (λ fault none lowest s a low level read found k suppose.
    right_no_part c.args.at lowest k _ _ fault _ _ _ c.args.left.now read (omega (arith, level, low)) found.taken found.high_enough suppose none)

pub expressions::right_operand-returns-clause-refuses : goal.expressions::right_operand-returns-clause-refuses
expressions::right_operand-returns-clause-refuses t c =
    let right = c.right_level.ensures in
    let few = right_low c.args.found.op in
    let small : c.right_level.result ≤ 7 = omega (arith, right, few) in
    on_err c.expression.result (c.expression.ensures.refuses small) (λ fault refuses lowest s a low level read found k suppose.
    right_refused c.args.at c.in_ok-inner.inner lowest k _ _ fault _ _ _ _ c.args.left.now read (omega (arith, level, low)) found.taken found.high_enough c.in_ok-inner.ensures suppose
    (subst (λ n. RefusesFrom n c.in_ok-inner.inner (state c.args.tokens.now c.args.parser.now) (state c.args.tokens.now c.expression.new.parser) fault) right refuses))

pub expressions::right_operand-returns-in_err-above-clause-order : goal.expressions::right_operand-returns-in_err-above-clause-order
expressions::right_operand-returns-in_err-above-clause-order t c =
    handed_on _ c.from_residual.result _ c.from_residual.ensures.1
    (λ lowest s a read found. operator_breaks c.args.at lowest c.args.left.now c.args.found s a _ (state c.args.tokens.now c.args.parser.now) _
    (subst (λ z. Few z.enclosing) found.taken.scope (few_there c.args.tokens.now c.args.parser.now)) read found c.in_err-above.ensures)

pub expressions::right_operand-returns-in_err-inner-clause-order : goal.expressions::right_operand-returns-in_err-inner-clause-order
expressions::right_operand-returns-in_err-inner-clause-order t c =
    handed_on _ c.from_residual-in_err-inner.result _ c.from_residual-in_err-inner.ensures.1
    (λ lowest s a read found start stands. part_breaks _ _ _ _ (few_there _ _) c.in_err-inner.ensures start (standing.right_operand stands read found c.in_ok-above.ensures))

pub expressions::right_operand-returns-clause-order : goal.expressions::right_operand-returns-clause-order
expressions::right_operand-returns-clause-order t c =
    on_err c.expression.result c.expression.ensures.order (λ fault breaks lowest s a read found start stands. breaks start
    (subst (λ n. standing.Stands start (standing.here (standing.exp n) c.in_ok-inner.inner) (state c.args.tokens.now c.args.parser.now)) (sym c.right_level.ensures)
    (standing.as_part (standing.right_operand stands read found c.in_ok-above.ensures) c.in_ok-inner.ensures)))

pub expressions::operand-returns-in-Table-clause-reads : goal.expressions::operand-returns-in-Table-clause-reads
expressions::operand-returns-in-Table-clause-reads t c = on_ok _ c.table.ensures.reads (λ b read. table_exp _ _ _ _ read)

pub expressions::operand-returns-in-Table-clause-level : goal.expressions::operand-returns-in-Table-clause-level
expressions::operand-returns-in-Table-clause-level t c = on_ok _ c.table.ensures.reads (λ b read. table_tight _ _ _ _ read)

pub expressions::operand-returns-in-Unary-clause-refuses : goal.expressions::operand-returns-in-Unary-clause-refuses
expressions::operand-returns-in-Unary-clause-refuses t c = c.unary_operand.ensures.refuses (unary_kind _ (sym c.operand_ahead.ensures ∙ c.in-Unary.is))

pub expressions::operand-returns-in-Closure-clause-refuses : goal.expressions::operand-returns-in-Closure-clause-refuses
expressions::operand-returns-in-Closure-clause-refuses t c = c.closure.ensures.refuses (closure_kind _ (sym c.operand_ahead.ensures ∙ c.in-Closure.is))

pub expressions::operand-returns-in-Table-clause-refuses : goal.expressions::operand-returns-in-Table-clause-refuses
expressions::operand-returns-in-Table-clause-refuses t c =
    on_err c.table.result (c.table.ensures.refuses (next_of (Sign sign.OpenBrace) _ (λ is. cc) (table_kind _ (sym c.operand_ahead.ensures ∙ c.in-Table.is)))) (λ fault refuses. table_refused c.args.at _ _ fault refuses)

pub expressions::operand-returns-in-Nil-clause-refuses : goal.expressions::operand-returns-in-Nil-clause-refuses
expressions::operand-returns-in-Nil-clause-refuses t c = on_want _ c.nil.result (λ m k none. absurd none) (c.nil.ensures.surely (next_of (Word word.Nil) _ (λ is. cc) (nil_kind _ (sym c.operand_ahead.ensures ∙ c.in-Nil.is))))

pub expressions::operand-returns-in-True-clause-refuses : goal.expressions::operand-returns-in-True-clause-refuses
expressions::operand-returns-in-True-clause-refuses t c = on_want _ c.truth.result (λ m k none. absurd none) (c.truth.ensures.surely (next_of (Word word.True) _ (λ is. cc) (true_kind _ (sym c.operand_ahead.ensures ∙ c.in-True.is))))

pub expressions::operand-returns-in-False-clause-refuses : goal.expressions::operand-returns-in-False-clause-refuses
expressions::operand-returns-in-False-clause-refuses t c = on_want _ c.falsity.result (λ m k none. absurd none) (c.falsity.ensures.surely (next_of (Word word.False) _ (λ is. cc) (false_kind _ (sym c.operand_ahead.ensures ∙ c.in-False.is))))

pub expressions::operand-returns-in-Number-clause-refuses : goal.expressions::operand-returns-in-Number-clause-refuses
expressions::operand-returns-in-Number-clause-refuses t c = on_want _ c.number.result (λ m k none. absurd none) (c.number.ensures.surely (number_next _ (sym c.operand_ahead.ensures ∙ c.in-Number.is)))

pub expressions::operand-returns-in-Text-clause-refuses : goal.expressions::operand-returns-in-Text-clause-refuses
expressions::operand-returns-in-Text-clause-refuses t c = on_want _ c.text.result (λ m k none. absurd none) (c.text.ensures.surely (text_next _ (sym c.operand_ahead.ensures ∙ c.in-Text.is)))

pub expressions::operand-returns-in-Vararg-clause-refuses : goal.expressions::operand-returns-in-Vararg-clause-refuses
expressions::operand-returns-in-Vararg-clause-refuses t c = c.vararg.ensures.refuses (next_of (Sign sign.Ellipsis) _ (λ is. cc) (vararg_kind _ (sym c.operand_ahead.ensures ∙ c.in-Vararg.is)))

pub expressions::operand-returns-in-Prefix-clause-refuses : goal.expressions::operand-returns-in-Prefix-clause-refuses
expressions::operand-returns-in-Prefix-clause-refuses t c = c.prefix_operand.ensures.refuses (sym c.operand_ahead.ensures ∙ c.in-Prefix.is)

pub expressions::operand-returns-in-Table-clause-order : goal.expressions::operand-returns-in-Table-clause-order
expressions::operand-returns-in-Table-clause-order t c =
    λ m. on_err c.table.result c.table.ensures.order (λ fault breaks start stands. breaks start (standing.of_table stands))

pub expressions::operand-returns-in-Nil-clause-order : goal.expressions::operand-returns-in-Nil-clause-order
expressions::operand-returns-in-Nil-clause-order t c =
    λ m. on_want _ c.nil.result (λ start stands. tt) (c.nil.ensures.surely (next_of (Word word.Nil) _ (λ is. cc) (nil_kind _ (sym c.operand_ahead.ensures ∙ c.in-Nil.is))))

pub expressions::operand-returns-in-True-clause-order : goal.expressions::operand-returns-in-True-clause-order
expressions::operand-returns-in-True-clause-order t c =
    λ m. on_want _ c.truth.result (λ start stands. tt) (c.truth.ensures.surely (next_of (Word word.True) _ (λ is. cc) (true_kind _ (sym c.operand_ahead.ensures ∙ c.in-True.is))))

pub expressions::operand-returns-in-False-clause-order : goal.expressions::operand-returns-in-False-clause-order
expressions::operand-returns-in-False-clause-order t c =
    λ m. on_want _ c.falsity.result (λ start stands. tt) (c.falsity.ensures.surely (next_of (Word word.False) _ (λ is. cc) (false_kind _ (sym c.operand_ahead.ensures ∙ c.in-False.is))))

pub expressions::operand-returns-in-Number-clause-order : goal.expressions::operand-returns-in-Number-clause-order
expressions::operand-returns-in-Number-clause-order t c =
    λ m. on_want _ c.number.result (λ start stands. tt) (c.number.ensures.surely (number_next _ (sym c.operand_ahead.ensures ∙ c.in-Number.is)))

pub expressions::operand-returns-in-Text-clause-order : goal.expressions::operand-returns-in-Text-clause-order
expressions::operand-returns-in-Text-clause-order t c =
    λ m. on_want _ c.text.result (λ start stands. tt) (c.text.ensures.surely (text_next _ (sym c.operand_ahead.ensures ∙ c.in-Text.is)))

pub expressions::unary_operand-returns-clause-reads : goal.expressions::unary_operand-returns-clause-reads
expressions::unary_operand-returns-clause-reads t c =
    on_node _ c.unary.ensures (λ b is.
    unary_read _ _ _ _ _ _ _ _ _ c.in_ok-prefixed.ensures.takes c.in_ok-inner.ensures c.in_ok-operand.ensures.reads c.in_ok-operand.ensures.ends c.in_ok-operand.ensures.level is)

pub expressions::unary_operand-returns-clause-level : goal.expressions::unary_operand-returns-clause-level
expressions::unary_operand-returns-clause-level t c = on_node _ c.unary.ensures (λ b is. unary_tight _ _ _ _ is)

pub expressions::unary_operand-returns-in_err-prefixed-clause-refuses : goal.expressions::unary_operand-returns-in_err-prefixed-clause-refuses
expressions::unary_operand-returns-in_err-prefixed-clause-refuses t c = λ next.
    let h : IfErr c.from_residual.result (OnAt (Misses IsUnary (state c.args.tokens.now c.args.parser.now) (state c.args.tokens.now c.take_unary.new.self))) = search rules in
    on_err c.from_residual.result h (λ fault missed m k suppose. never_missed_ahead fault _ (exp m k) IsUnary _ _ missed suppose (λ is. is) next)

pub expressions::unary_operand-returns-in_err-inner-clause-refuses : goal.expressions::unary_operand-returns-in_err-inner-clause-refuses
expressions::unary_operand-returns-in_err-inner-clause-refuses t c = λ next.
    let h : IfErr c.from_residual-in_err-inner.result (HasNoPart c.args.at (state c.args.tokens.now c.take_unary.new.self)) = search rules in
    on_err c.from_residual-in_err-inner.result h (λ fault none m k suppose. operand_no_part c.args.at m k _ _ fault _ _ c.in_ok-prefixed.ensures.takes suppose none)

pub expressions::unary_operand-returns-in_err-operand-clause-refuses : goal.expressions::unary_operand-returns-in_err-operand-clause-refuses
expressions::unary_operand-returns-in_err-operand-clause-refuses t c = λ next.
    let small : 7 ≤ 7 = lit≤ tt in
    let h : IfErr c.from_residual-in_err-operand.result (RefusesFrom 7 c.in_ok-inner.inner (state c.args.tokens.now c.take_unary.new.self) (state c.args.tokens.now c.expression.new.parser)) = search rules in
    on_err c.from_residual-in_err-operand.result h (λ fault refuses m k suppose. operand_refused c.args.at c.in_ok-inner.inner m k _ _ fault _ _ _ c.in_ok-prefixed.ensures.takes c.in_ok-inner.ensures suppose (λ low. refuses))

pub expressions::unary_operand-returns-clause-refuses : goal.expressions::unary_operand-returns-clause-refuses
expressions::unary_operand-returns-clause-refuses t c = λ next. on_memory _ _ c.unary.result (λ m k none. absurd none) c.unary.ensures

pub expressions::unary_operand-returns-in_err-inner-clause-order : goal.expressions::unary_operand-returns-in_err-inner-clause-order
expressions::unary_operand-returns-in_err-inner-clause-order t c =
    λ m. handed_on _ c.from_residual-in_err-inner.result _ c.from_residual-in_err-inner.ensures.1
    (λ start stands. part_breaks _ _ _ _ (few_there _ _) c.in_err-inner.ensures start (standing.operand c.in_ok-prefixed.prefixed.op stands c.in_ok-prefixed.ensures.takes))

pub expressions::unary_operand-returns-in_err-operand-clause-order : goal.expressions::unary_operand-returns-in_err-operand-clause-order
expressions::unary_operand-returns-in_err-operand-clause-order t c =
    λ m. handed_on _ c.from_residual-in_err-operand.result _ c.from_residual-in_err-operand.ensures.1
    (λ start stands. c.in_err-operand.ensures.order start (standing.as_part (standing.operand c.in_ok-prefixed.prefixed.op stands c.in_ok-prefixed.ensures.takes) c.in_ok-inner.ensures))

pub expressions::unary_operand-returns-in_err-prefixed-clause-order : goal.expressions::unary_operand-returns-in_err-prefixed-clause-order
expressions::unary_operand-returns-in_err-prefixed-clause-order t c =
    λ m. handed_on _ c.from_residual.result _ c.from_residual.ensures.1
    (λ start stands. missing_first _ _ _ _ c.in_err-prefixed.ensures.misses start (standing.before_it stands))

pub expressions::closure-returns-clause-reads : goal.expressions::closure-returns-clause-reads
expressions::closure-returns-clause-reads t c =
    closure_read _ _ _ _ _ _ _ _ c.in_ok-line.ensures.takes c.in_ok-number.ensures.reads (search rules) c.leaf.ensures

pub expressions::closure-returns-in_err-line-clause-refuses : goal.expressions::closure-returns-in_err-line-clause-refuses
expressions::closure-returns-in_err-line-clause-refuses t c = λ next.
    let h : IfErr c.from_residual.result (OnAt (Misses (IsKind (Word word.Function)) (state c.args.tokens.now c.args.parser.now) (state c.args.tokens.now c.take_word.new.self))) = search rules in
    on_err c.from_residual.result h (λ fault missed m k suppose. never_missed_ahead fault _ (exp m k) (IsKind (Word word.Function)) _ _ missed suppose (λ is. cc) next)

pub expressions::closure-returns-in_err-number-clause-refuses : goal.expressions::closure-returns-in_err-number-clause-refuses
expressions::closure-returns-in_err-number-clause-refuses t c = λ next.
    let h : IfErr c.from_residual-in_err-number.result (RefusesBody c.args.at c.in_ok-line.line c.new.result.items (state c.args.tokens.now c.take_word.new.self) (state c.args.tokens.now c.body.new.parser)) = search rules in
    on_err c.from_residual-in_err-number.result h (λ fault refuses. closure_refused c.args.at c.in_ok-line.line c.new.result.items fault _ _ _ c.in_ok-line.ensures.takes (search rules) refuses)

pub expressions::closure-returns-in_err-number-clause-order : goal.expressions::closure-returns-in_err-number-clause-order
expressions::closure-returns-in_err-number-clause-order t c =
    λ m. let none : c.new.result.items ≡ [] = search rules in
    handed_on _ c.from_residual-in_err-number.result _ c.from_residual-in_err-number.ensures.1
    (λ start stands. c.in_err-number.ensures.order start (subst (λ first. standing.Stands start (standing.body c.args.at first) (state c.args.tokens.now c.take_word.new.self)) (sym none) (standing.closure stands c.in_ok-line.ensures.takes)))

pub expressions::closure-returns-in_err-line-clause-order : goal.expressions::closure-returns-in_err-line-clause-order
expressions::closure-returns-in_err-line-clause-order t c =
    λ m. handed_on _ c.from_residual.result _ c.from_residual.ensures.1
    (λ start stands. missing_first _ _ _ _ c.in_err-line.ensures.misses start (standing.before_it stands))

pub expressions::prefix_operand-returns-clause-reads : goal.expressions::prefix_operand-returns-clause-reads
expressions::prefix_operand-returns-clause-reads t c = prefix_exp _ _ _ _ _ c.in_ok-prefix.ensures.reads c.in_ok-prefix.ensures.stops refl refl refl

pub expressions::prefix_operand-returns-in_err-prefix-clause-refuses : goal.expressions::prefix_operand-returns-in_err-prefix-clause-refuses
expressions::prefix_operand-returns-in_err-prefix-clause-refuses t c = λ next.
    let h : IfErr c.from_residual.result (RefusesPrefix c.args.at (state c.args.tokens.now c.args.parser.now) (state c.args.tokens.now c.prefix.new.parser)) = search rules in
    on_err c.from_residual.result h (λ fault refuses. prefix_refused c.args.at _ _ fault next refuses)

pub expressions::prefix_operand-returns-in_err-prefix-clause-order : goal.expressions::prefix_operand-returns-in_err-prefix-clause-order
expressions::prefix_operand-returns-in_err-prefix-clause-order t c =
    λ m. handed_on _ c.from_residual.result _ c.from_residual.ensures.1
    (λ start stands. c.in_err-prefix.ensures.order start (standing.of_prefix stands))

pub suffixes::prefix-loop-suffix-init : goal.suffixes::prefix-loop-suffix-init
suffixes::prefix-loop-suffix-init t c = record { forward = c.in_ok-prefix.ensures.forward; reads = c.in_ok-prefix.ensures.reads }

pub suffixes::prefix-loop-suffix-preserved : goal.suffixes::prefix-loop-suffix-preserved
suffixes::prefix-loop-suffix-preserved t c =
    let before = c.loop-suffix.invariant in
    let read : IfOk c.match-suffix.extended (λ longer. ReadsPrefix c.args.at (state c.args.tokens.now c.args.parser.now) longer (state c.args.tokens.now c.match-suffix.parser)) = elim c.match-suffix.branch [
      | suffixes::prefix-in-Member w ↦ rw (w.extended-is, w.parser-is) (on_ok w.member-extended.result w.member-extended.ensures.reads (λ longer extends. extends _ before.reads))
      | suffixes::prefix-in-Item w ↦ rw (w.extended-is, w.parser-is) (on_ok w.item-extended.result w.item-extended.ensures.reads (λ longer extends. extends _ before.reads))
      | suffixes::prefix-in-Method w ↦ rw (w.extended-is, w.parser-is) (on_ok w.method-extended.result w.method-extended.ensures.reads (λ longer extends. extends _ before.reads))
      | suffixes::prefix-in-Arguments w ↦ rw (w.extended-is, w.parser-is) (on_ok w.call-extended.result w.call-extended.ensures.reads (λ longer extends. extends _ before.reads))
    ] in
    let forward : OnOk c.match-suffix.extended (Advances c.args.tokens.now c.loop-suffix.parser c.match-suffix.parser) = elim c.match-suffix.branch [
      | suffixes::prefix-in-Member w ↦ rw (w.extended-is, w.parser-is) w.member-extended.ensures.forward
      | suffixes::prefix-in-Item w ↦ rw (w.extended-is, w.parser-is) w.item-extended.ensures.forward
      | suffixes::prefix-in-Method w ↦ rw (w.extended-is, w.parser-is) w.method-extended.ensures.forward
      | suffixes::prefix-in-Arguments w ↦ rw (w.extended-is, w.parser-is) w.call-extended.ensures.forward
    ] in
    record {
      forward = advances_on _ _ _ _ before.forward (done_by _ _ c.in_ok-prefix-2.was forward);
      reads = read_by _ _ _ c.in_ok-prefix-2.was read;
    }

pub suffixes::prefix-returns-clause-reads : goal.suffixes::prefix-returns-clause-reads
suffixes::prefix-returns-clause-reads t c = c.loop-suffix.invariant.reads

pub suffixes::prefix-returns-clause-stops : goal.suffixes::prefix-returns-clause-stops
suffixes::prefix-returns-clause-stops t c = none_found _ c.suffix_ahead.result c.suffix_ahead.ensures c.in_default.not-Some

pub suffixes::prefix-returns-in_err-prefix-2-clause-refuses : goal.suffixes::prefix-returns-in_err-prefix-2-clause-refuses
suffixes::prefix-returns-in_err-prefix-2-clause-refuses t c =
    let before = c.loop-suffix.invariant in
    let refuses : IfErr c.match-suffix.extended (RefusesPrefix c.args.at (state c.args.tokens.now c.args.parser.now) (state c.args.tokens.now c.match-suffix.parser)) = elim c.match-suffix.branch [
      | suffixes::prefix-in-Member w ↦ rw (w.extended-is, w.parser-is) (on_err w.member-extended.result (w.member-extended.ensures.refuses
          (subst (λ suffix. Begin (IsSuffix suffix) (state c.args.tokens.now c.loop-suffix.parser).left) w.in-Member.is c.in-Some.ensures))
          (λ fault refuses. suffix_refused c.args.at _ _ _ c.loop-suffix.prefix fault before.reads refuses))
      | suffixes::prefix-in-Item w ↦ rw (w.extended-is, w.parser-is) (on_err w.item-extended.result (w.item-extended.ensures.refuses
          (subst (λ suffix. Begin (IsSuffix suffix) (state c.args.tokens.now c.loop-suffix.parser).left) w.in-Item.is c.in-Some.ensures))
          (λ fault refuses. suffix_refused c.args.at _ _ _ c.loop-suffix.prefix fault before.reads refuses))
      | suffixes::prefix-in-Method w ↦ rw (w.extended-is, w.parser-is) (on_err w.method-extended.result (w.method-extended.ensures.refuses
          (subst (λ suffix. Begin (IsSuffix suffix) (state c.args.tokens.now c.loop-suffix.parser).left) w.in-Method.is c.in-Some.ensures))
          (λ fault refuses. suffix_refused c.args.at _ _ _ c.loop-suffix.prefix fault before.reads refuses))
      | suffixes::prefix-in-Arguments w ↦ rw (w.extended-is, w.parser-is) (on_err w.call-extended.result (w.call-extended.ensures.refuses
          (subst (λ suffix. Begin (IsSuffix suffix) (state c.args.tokens.now c.loop-suffix.parser).left) w.in-Arguments.is c.in-Some.ensures))
          (λ fault refuses. suffix_refused c.args.at _ _ _ c.loop-suffix.prefix fault before.reads refuses))
    ] in
    handed_on (RefusesPrefix c.args.at (state c.args.tokens.now c.args.parser.now) (state c.args.tokens.now c.match-suffix.parser)) c.from_residual-in_err-prefix-2.result _ c.from_residual-in_err-prefix-2.ensures.1 (refused_by _ _ _ c.in_err-prefix-2.was refuses)

pub suffixes::prefix-returns-in_err-prefix-clause-order : goal.suffixes::prefix-returns-in_err-prefix-clause-order
suffixes::prefix-returns-in_err-prefix-clause-order t c =
    handed_on _ c.from_residual.result _ c.from_residual.ensures.1
    (λ start stands. c.in_err-prefix.ensures.order start (stands))

pub suffixes::prefix-returns-in_err-prefix-2-clause-order : goal.suffixes::prefix-returns-in_err-prefix-2-clause-order
suffixes::prefix-returns-in_err-prefix-2-clause-order t c =
    let before = c.loop-suffix.invariant in
    let order : IfErr c.match-suffix.extended (FirstFault (standing.prefix c.args.at) (state c.args.tokens.now c.args.parser.now) (state c.args.tokens.now c.match-suffix.parser)) = elim c.match-suffix.branch [
      | suffixes::prefix-in-Member w ↦ rw (w.extended-is, w.parser-is) (on_err w.member-extended.result w.member-extended.ensures.order (λ fault first. first _ before.reads))
      | suffixes::prefix-in-Item w ↦ rw (w.extended-is, w.parser-is) (on_err w.item-extended.result w.item-extended.ensures.order (λ fault first. first _ before.reads))
      | suffixes::prefix-in-Method w ↦ rw (w.extended-is, w.parser-is) (on_err w.method-extended.result w.method-extended.ensures.order (λ fault first. first _ before.reads))
      | suffixes::prefix-in-Arguments w ↦ rw (w.extended-is, w.parser-is) (on_err w.call-extended.result (w.call-extended.ensures.order
          (subst (λ suffix. Begin (IsSuffix suffix) (state c.args.tokens.now c.loop-suffix.parser).left) w.in-Arguments.is c.in-Some.ensures)) (λ fault first. first _ before.reads))
    ] in
    handed_on (FirstFault (standing.prefix c.args.at) (state c.args.tokens.now c.args.parser.now) (state c.args.tokens.now c.match-suffix.parser)) c.from_residual-in_err-prefix-2.result _ c.from_residual-in_err-prefix-2.ensures.1 (refused_by _ _ _ c.in_err-prefix-2.was order)

pub suffixes::primary-returns-clause-reads : goal.suffixes::primary-returns-clause-reads
suffixes::primary-returns-clause-reads t c =
    let both = c.in_ok-built-2.ensures in
    on_node _ c.paren.ensures (λ p is.
    paren_read _ _ _ _ _ _ _ _ _ _ c.in_ok-open.ensures.takes c.in_ok-inner.ensures c.in_ok-built.ensures.reads (read_by _ _ _ both.1 c.take_sign-2.ensures.takes)
    (subst (λ inner. IsParen inner c.in_ok-open.open p) both.0 is))

pub suffixes::primary-returns-in_err-open-clause-refuses : goal.suffixes::primary-returns-in_err-open-clause-refuses
suffixes::primary-returns-in_err-open-clause-refuses t c =
    let h : IfErr c.from_residual.result (OnAt (Misses (IsKind (SignKind OpenParenthesis)) (state c.args.tokens.now c.args.parser.now) (state c.args.tokens.now c.take_sign.new.self))) = search rules in
    let is : IsTrue c.at_sign.result = search rules in
    on_err c.from_residual.result h (λ fault missing k suppose. never_missed fault _ _ (IsKind (SignKind OpenParenthesis)) _ _ missing suppose (c.at_sign.ensures.0 is))

pub suffixes::primary-returns-in_err-inner-clause-refuses : goal.suffixes::primary-returns-in_err-inner-clause-refuses
suffixes::primary-returns-in_err-inner-clause-refuses t c =
    let h : IfErr c.from_residual-in_err-inner.result (HasNoPart c.args.at (state c.args.tokens.now c.take_sign.new.self)) = search rules in
    on_err c.from_residual-in_err-inner.result h (λ fault none. paren_no_part c.args.at _ _ _ fault c.in_ok-open.ensures.takes none)

pub suffixes::primary-returns-in_err-built-clause-refuses : goal.suffixes::primary-returns-in_err-built-clause-refuses
suffixes::primary-returns-in_err-built-clause-refuses t c =
    let h : IfErr c.from_residual-in_err-built.result (RefusesFrom 1 c.in_ok-inner.inner (state c.args.tokens.now c.take_sign.new.self) (state c.args.tokens.now c.expression.new.parser)) = search rules in
    on_err c.from_residual-in_err-built.result h (λ fault refuses. paren_refused c.args.at c.in_ok-inner.inner _ _ _ _ fault c.in_ok-open.ensures.takes c.in_ok-inner.ensures refuses)

pub suffixes::primary-returns-in_err-built-2-clause-refuses : goal.suffixes::primary-returns-in_err-built-2-clause-refuses
suffixes::primary-returns-in_err-built-2-clause-refuses t c =
    let built = c.in_ok-built.ensures in
    let level = built.level in
    handed_on (RefusesPrefix c.args.at (state c.args.tokens.now c.args.parser.now) (state c.args.tokens.now c.take_sign-2.new.self)) c.from_residual-in_err-built-2.result _ c.from_residual-in_err-built-2.ensures.1
    (paren_open c.args.at c.in_ok-inner.inner _ _ _ _ _ c.in_ok-built.built _ c.in_ok-open.ensures.takes built.reads (omega (arith, level)) built.ends
    (refused_by _ _ _ c.in_err-built-2.ensures c.take_sign-2.ensures.misses))

pub suffixes::primary-returns-clause-refuses : goal.suffixes::primary-returns-clause-refuses
suffixes::primary-returns-clause-refuses t c = on_memory _ _ c.paren.result (λ k none. absurd none) c.paren.ensures

pub suffixes::primary-returns-clause-forward : goal.suffixes::primary-returns-clause-forward
suffixes::primary-returns-clause-forward t c = on_done c.paren.result (advances_on _ _ _ _ c.in_ok-open.ensures.forward (advances_on _ _ _ _ c.in_ok-built.ensures.forward (done_by _ _ c.in_ok-built-2.ensures.1 c.take_sign-2.ensures.forward)))

pub suffixes::primary-returns-in_err-inner-clause-order : goal.suffixes::primary-returns-in_err-inner-clause-order
suffixes::primary-returns-in_err-inner-clause-order t c =
    handed_on _ c.from_residual-in_err-inner.result _ c.from_residual-in_err-inner.ensures.1
    (λ start stands. part_breaks _ _ _ _ (few_there _ _) c.in_err-inner.ensures start (standing.in_parentheses stands c.in_ok-open.ensures.takes))

pub suffixes::primary-returns-in_err-built-clause-order : goal.suffixes::primary-returns-in_err-built-clause-order
suffixes::primary-returns-in_err-built-clause-order t c =
    handed_on _ c.from_residual-in_err-built.result _ c.from_residual-in_err-built.ensures.1
    (λ start stands. c.in_err-built.ensures.order start (standing.as_part (standing.in_parentheses stands c.in_ok-open.ensures.takes) c.in_ok-inner.ensures))

pub suffixes::primary-returns-in_err-open-clause-order : goal.suffixes::primary-returns-in_err-open-clause-order
suffixes::primary-returns-in_err-open-clause-order t c =
    handed_on _ c.from_residual.result _ c.from_residual.ensures.1
    (λ start stands. missing_first _ _ _ _ c.in_err-open.ensures.misses start (standing.before_it stands))

pub suffixes::primary-returns-in_err-built-2-clause-order : goal.suffixes::primary-returns-in_err-built-2-clause-order
suffixes::primary-returns-in_err-built-2-clause-order t c =
    handed_on _ c.from_residual-in_err-built-2.result _ c.from_residual-in_err-built-2.ensures.1
    (λ start stands. missing_first _ _ _ _ (refused_by _ _ _ c.in_err-built-2.ensures c.take_sign-2.ensures.misses) start
    (standing.after_exp (standing.as_part (standing.in_parentheses stands c.in_ok-open.ensures.takes) c.in_ok-inner.ensures) c.in_ok-built.ensures.reads))

pub suffixes::item-returns-clause-reads : goal.suffixes::item-returns-clause-reads
suffixes::item-returns-clause-reads t c =
    let both = c.in_ok-object.ensures in
    let key = read_by _ _ _ both.1 c.key-key.ensures.reads in
    ok_extends c.args.at c.args.object (state c.args.tokens.now c.args.parser.now) _ _ _ c.indexed.ensures (λ p s is read.
    item_read _ _ _ _ _ _ _ _ _ _ _ _ read key.opens key.part key.reads key.closes key.below (subst (λ object. IsIndexed object c.in_ok-object.open c.in_ok-object.key p) both.0 is))

pub suffixes::item-returns-in_err-object-clause-refuses : goal.suffixes::item-returns-in_err-object-clause-refuses
suffixes::item-returns-in_err-object-clause-refuses t c = λ next.
    handed_on (RefusesSuffix c.args.at c.args.object (state c.args.tokens.now c.args.parser.now) (state c.args.tokens.now c.key-key.new.parser)) c.from_residual.result _ c.from_residual.ensures.1 (refused_by _ _ _ c.in_err-object.ensures (c.key-key.ensures.refuses next))

pub suffixes::key-returns-in_err-open-clause-refuses : goal.suffixes::key-returns-in_err-open-clause-refuses
suffixes::key-returns-in_err-open-clause-refuses t c = λ next.
    let h : IfErr c.from_residual.result (OnAt (Misses (IsKind (SignKind OpenBracket)) (state c.args.tokens.now c.args.parser.now) (state c.args.tokens.now c.take_sign.new.self))) = search rules in
    on_err c.from_residual.result h (λ fault missing s read k suppose. never_missed fault _ _ (IsKind (SignKind OpenBracket)) _ _ missing suppose next)

pub suffixes::key-returns-in_err-above-clause-refuses : goal.suffixes::key-returns-in_err-above-clause-refuses
suffixes::key-returns-in_err-above-clause-refuses t c = λ next.
    let h : IfErr c.from_residual-in_err-above.result (IsTooHigh c.args.at c.args.object.now.height c.in_ok-open.open) = search rules in
    on_err c.from_residual-in_err-above.result h (λ fault high. item_too_high c.args.at _ _ c.args.object.now _ fault c.in_ok-open.ensures.takes high)

pub suffixes::key-returns-in_err-inner-clause-refuses : goal.suffixes::key-returns-in_err-inner-clause-refuses
suffixes::key-returns-in_err-inner-clause-refuses t c = λ next.
    let h : IfErr c.from_residual-in_err-inner.result (HasNoPart c.args.at (state c.args.tokens.now c.take_sign.new.self)) = search rules in
    on_err c.from_residual-in_err-inner.result h (λ fault none. item_no_part c.args.at _ _ c.args.object.now _ fault c.in_ok-open.ensures.takes none)

pub suffixes::key-returns-in_err-key-clause-refuses : goal.suffixes::key-returns-in_err-key-clause-refuses
suffixes::key-returns-in_err-key-clause-refuses t c = λ next.
    let h : IfErr c.from_residual-in_err-key.result (RefusesFrom 1 c.in_ok-inner.inner (state c.args.tokens.now c.take_sign.new.self) (state c.args.tokens.now c.expression.new.parser)) = search rules in
    on_err c.from_residual-in_err-key.result h (λ fault refuses. item_refused c.args.at c.in_ok-inner.inner _ _ _ c.args.object.now _ fault c.in_ok-open.ensures.takes c.in_ok-inner.ensures refuses)

pub suffixes::key-returns-in_err-key-2-clause-refuses : goal.suffixes::key-returns-in_err-key-2-clause-refuses
suffixes::key-returns-in_err-key-2-clause-refuses t c = λ next.
    let key = c.in_ok-key.ensures in
    let level = key.level in
    handed_on (RefusesSuffix c.args.at c.args.object.now (state c.args.tokens.now c.args.parser.now) (state c.args.tokens.now c.take_sign-2.new.self)) c.from_residual-in_err-key-2.result _ c.from_residual-in_err-key-2.ensures.1
    (item_open c.args.at c.in_ok-inner.inner _ _ _ _ c.args.object.now _ c.in_ok-key.key _ c.in_ok-open.ensures.takes key.reads (omega (arith, level)) key.ends
    (refused_by _ _ _ c.in_err-key-2.ensures c.take_sign-2.ensures.misses))

pub suffixes::item-returns-clause-refuses : goal.suffixes::item-returns-clause-refuses
suffixes::item-returns-clause-refuses t c = λ next. on_memory _ _ c.indexed.result (λ s read k none. absurd none) c.indexed.ensures

pub suffixes::item-returns-in_err-object-clause-order : goal.suffixes::item-returns-in_err-object-clause-order
suffixes::item-returns-in_err-object-clause-order t c =
    handed_on _ c.from_residual.result _ c.from_residual.ensures.1 (refused_by _ _ _ c.in_err-object.ensures c.key-key.ensures.order)

pub suffixes::item-returns-clause-forward : goal.suffixes::item-returns-clause-forward
suffixes::item-returns-clause-forward t c = on_done c.indexed.result (done_by _ _ c.in_ok-object.ensures.1 c.key-key.ensures.forward)

pub suffixes::key-returns-clause-reads : goal.suffixes::key-returns-clause-reads
suffixes::key-returns-clause-reads t c =
    let both = c.in_ok-key-2.ensures in
    subst (λ key. ReadsKey c.args.at c.args.object.now (state c.args.tokens.now c.args.parser.now) key c.in_ok-open.open (state c.args.tokens.now c.take_sign-2.new.self)) (sym both.0) (record {
      inner = c.in_ok-inner.inner;
      inside = (state c.args.tokens.now c.take_sign.new.self);
      after = (state c.args.tokens.now c.expression.new.parser);
      close_at = _;
      opens = c.in_ok-open.ensures.takes;
      part = c.in_ok-inner.ensures;
      reads = c.in_ok-key.ensures.reads;
      closes = read_by _ _ _ both.1 c.take_sign-2.ensures.takes;
      below = c.in_ok-above.ensures;
    })

pub suffixes::key-returns-clause-forward : goal.suffixes::key-returns-clause-forward
suffixes::key-returns-clause-forward t c = advances_on _ _ _ _ c.in_ok-open.ensures.forward (advances_on _ _ _ _ c.in_ok-key.ensures.forward (done_by _ _ c.in_ok-key-2.ensures.1 c.take_sign-2.ensures.forward))

pub suffixes::key-returns-in_err-above-clause-order : goal.suffixes::key-returns-in_err-above-clause-order
suffixes::key-returns-in_err-above-clause-order t c =
    handed_on _ c.from_residual-in_err-above.result _ c.from_residual-in_err-above.ensures.1
    (λ s read. suffix_breaks (SignKind OpenBracket) c.args.at _ c.args.object.now s _ _ (state c.args.tokens.now c.take_sign.new.self) _ (few_there _ _) tt c.in_ok-open.ensures.takes c.in_err-above.ensures read)

pub suffixes::key-returns-in_err-inner-clause-order : goal.suffixes::key-returns-in_err-inner-clause-order
suffixes::key-returns-in_err-inner-clause-order t c =
    handed_on _ c.from_residual-in_err-inner.result _ c.from_residual-in_err-inner.ensures.1
    (λ s read start stands. part_breaks _ _ _ _ (few_there _ _) c.in_err-inner.ensures start (standing.key stands read c.in_ok-open.ensures.takes c.in_ok-above.ensures))

pub suffixes::key-returns-in_err-key-clause-order : goal.suffixes::key-returns-in_err-key-clause-order
suffixes::key-returns-in_err-key-clause-order t c =
    handed_on _ c.from_residual-in_err-key.result _ c.from_residual-in_err-key.ensures.1
    (λ s read start stands. c.in_err-key.ensures.order start (standing.as_part (standing.key stands read c.in_ok-open.ensures.takes c.in_ok-above.ensures) c.in_ok-inner.ensures))

pub suffixes::key-returns-in_err-open-clause-order : goal.suffixes::key-returns-in_err-open-clause-order
suffixes::key-returns-in_err-open-clause-order t c =
    handed_on _ c.from_residual.result _ c.from_residual.ensures.1
    (λ s read start stands. missing_first _ _ _ _ c.in_err-open.ensures.misses start (standing.after_prefix stands read))

pub suffixes::key-returns-in_err-key-2-clause-order : goal.suffixes::key-returns-in_err-key-2-clause-order
suffixes::key-returns-in_err-key-2-clause-order t c =
    handed_on _ c.from_residual-in_err-key-2.result _ c.from_residual-in_err-key-2.ensures.1
    (λ s read start stands. missing_first _ _ _ _ (refused_by _ _ _ c.in_err-key-2.ensures c.take_sign-2.ensures.misses) start
    (standing.after_exp (standing.as_part (standing.key stands read c.in_ok-open.ensures.takes c.in_ok-above.ensures) c.in_ok-inner.ensures) c.in_ok-key.ensures.reads))

pub suffixes::call-returns-clause-reads : goal.suffixes::call-returns-clause-reads
suffixes::call-returns-clause-reads t c =
    let both = c.in_ok-callee.ensures in
    let given = read_by _ _ _ both.1 c.call_arguments-given.ensures.reads in
    ok_extends c.args.at c.args.callee (state c.args.tokens.now c.args.parser.now) _ _ _ c.called.ensures (λ p s is read.
    called_read _ _ _ _ _ _ _ _ read given.reads given.on_line given.begins given.below (subst (λ callee. IsCalled callee c.in_ok-callee.line c.in_ok-callee.values p) both.0 is))

pub suffixes::call-returns-in_err-callee-clause-refuses : goal.suffixes::call-returns-in_err-callee-clause-refuses
suffixes::call-returns-in_err-callee-clause-refuses t c = λ next.
    handed_on (RefusesSuffix c.args.at c.args.callee (state c.args.tokens.now c.args.parser.now) (state c.args.tokens.now c.call_arguments-given.new.parser)) c.from_residual.result _ c.from_residual.ensures.1 (refused_by _ _ _ c.in_err-callee.ensures (c.call_arguments-given.ensures.refuses next))

pub suffixes::call_arguments-returns-in_err-line-clause-refuses : goal.suffixes::call_arguments-returns-in_err-line-clause-refuses
suffixes::call_arguments-returns-in_err-line-clause-refuses t c = λ next.
    handed_on (RefusesSuffix c.args.at c.args.callee.now (state c.args.tokens.now c.args.parser.now) (state c.args.tokens.now c.args.parser.now)) c.from_residual.result _ c.from_residual.ensures.1
    (call_cannot_open c.args.at _ c.args.callee.now _ next c.in_err-line.ensures.closed)

pub suffixes::call_arguments-returns-in_err-above-clause-refuses : goal.suffixes::call_arguments-returns-in_err-above-clause-refuses
suffixes::call_arguments-returns-in_err-above-clause-refuses t c = λ next.
    handed_on (RefusesSuffix c.args.at c.args.callee.now (state c.args.tokens.now c.args.parser.now) (state c.args.tokens.now c.args.parser.now)) c.from_residual-in_err-above.result _
    c.from_residual-in_err-above.ensures.1 (call_too_high _ c.args.at _ c.args.callee.now _ next c.in_err-above.ensures)

pub suffixes::call_arguments-returns-in_err-values-clause-refuses : goal.suffixes::call_arguments-returns-in_err-values-clause-refuses
suffixes::call_arguments-returns-in_err-values-clause-refuses t c = λ next.
    handed_on (RefusesSuffix c.args.at c.args.callee.now (state c.args.tokens.now c.args.parser.now) (state c.args.tokens.now c.arguments.new.parser)) c.from_residual-in_err-values.result _
    c.from_residual-in_err-values.ensures.1 (call_refused c.args.at _ _ c.args.callee.now _ next c.in_err-values.ensures.refuses)

pub suffixes::call-returns-clause-refuses : goal.suffixes::call-returns-clause-refuses
suffixes::call-returns-clause-refuses t c = λ next. on_memory _ _ c.called.result (λ s read k none. absurd none) c.called.ensures

pub suffixes::call-returns-in_err-callee-clause-order : goal.suffixes::call-returns-in_err-callee-clause-order
suffixes::call-returns-in_err-callee-clause-order t c =
    λ next. handed_on _ c.from_residual.result _ c.from_residual.ensures.1 (refused_by _ _ _ c.in_err-callee.ensures (c.call_arguments-given.ensures.order next))

pub suffixes::call-returns-clause-forward : goal.suffixes::call-returns-clause-forward
suffixes::call-returns-clause-forward t c = on_done c.called.result (done_by _ _ c.in_ok-callee.ensures.1 c.call_arguments-given.ensures.forward)

pub suffixes::call_arguments-returns-clause-reads : goal.suffixes::call_arguments-returns-clause-reads
suffixes::call_arguments-returns-clause-reads t c =
    record { reads = c.in_ok-values.ensures.reads; on_line = c.in_ok-line.ensures.same; begins = c.in_ok-line.ensures.line; below = c.in_ok-above.ensures }

pub suffixes::call_arguments-returns-in_err-line-clause-order : goal.suffixes::call_arguments-returns-in_err-line-clause-order
suffixes::call_arguments-returns-in_err-line-clause-order t c =
    λ next. handed_on _ c.from_residual.result _ c.from_residual.ensures.1
    (λ s read. call_ambiguous c.args.at c.args.callee.now s _ _ (few_there _ _) c.in_err-line.ensures.closed read)

pub suffixes::call_arguments-returns-in_err-above-clause-order : goal.suffixes::call_arguments-returns-in_err-above-clause-order
suffixes::call_arguments-returns-in_err-above-clause-order t c =
    λ next. handed_on _ c.from_residual-in_err-above.result _ c.from_residual-in_err-above.ensures.1
    (λ s read. call_breaks c.args.at _ c.args.callee.now s _ (state c.args.tokens.now c.args.parser.now) _ (few_there _ _) next c.in_ok-line.ensures.line c.in_ok-line.ensures.same c.in_err-above.ensures read)

pub suffixes::call_arguments-returns-in_err-values-clause-order : goal.suffixes::call_arguments-returns-in_err-values-clause-order
suffixes::call_arguments-returns-in_err-values-clause-order t c =
    λ next. handed_on _ c.from_residual-in_err-values.result _ c.from_residual-in_err-values.ensures.1
    (λ s read start stands. c.in_err-values.ensures.order start (standing.call_args stands read c.in_ok-above.ensures))

pub suffixes::method-returns-clause-reads : goal.suffixes::method-returns-clause-reads
suffixes::method-returns-clause-reads t c =
    let both = c.in_ok-object.ensures in
    let given = read_by _ _ _ both.1 c.method_arguments-given.ensures.reads in
    ok_extends c.args.at c.args.object (state c.args.tokens.now c.args.parser.now) _ _ _ c.method_called.ensures (λ p s is read.
    method_called_read _ _ _ _ _ _ _ _ _ _ _ _ _ read given.colon given.named given.reads given.on_line given.begins given.below (subst (λ object. IsMethodCalled object c.in_ok-object.named.name c.in_ok-object.line c.in_ok-object.values p) both.0 is))

pub suffixes::method-returns-in_err-object-clause-refuses : goal.suffixes::method-returns-in_err-object-clause-refuses
suffixes::method-returns-in_err-object-clause-refuses t c = λ next.
    handed_on (RefusesSuffix c.args.at c.args.object (state c.args.tokens.now c.args.parser.now) (state c.args.tokens.now c.method_arguments-given.new.parser)) c.from_residual.result _ c.from_residual.ensures.1 (refused_by _ _ _ c.in_err-object.ensures (c.method_arguments-given.ensures.refuses next))

pub suffixes::method_arguments-returns-in_err-named-clause-refuses : goal.suffixes::method_arguments-returns-in_err-named-clause-refuses
suffixes::method_arguments-returns-in_err-named-clause-refuses t c = λ next.
    handed_on (RefusesSuffix c.args.at c.args.object.now (state c.args.tokens.now c.args.parser.now) (state c.args.tokens.now c.method_name.new.parser)) c.from_residual.result _ c.from_residual.ensures.1
    (c.in_err-named.ensures.refuses next)

pub suffixes::method_arguments-returns-in_err-line-clause-refuses : goal.suffixes::method_arguments-returns-in_err-line-clause-refuses
suffixes::method_arguments-returns-in_err-line-clause-refuses t c = λ next.
    let name = c.in_ok-named.ensures.reads in
    handed_on (RefusesSuffix c.args.at c.args.object.now (state c.args.tokens.now c.args.parser.now) (state c.args.tokens.now c.method_name.new.parser)) c.from_residual-in_err-line.result _
    c.from_residual-in_err-line.ensures.1 (method_cannot_open c.args.at _ _ _ c.args.object.now _ _ _ _ name.colon name.named c.in_err-line.ensures.closed)

pub suffixes::method_arguments-returns-in_err-values-clause-refuses : goal.suffixes::method_arguments-returns-in_err-values-clause-refuses
suffixes::method_arguments-returns-in_err-values-clause-refuses t c = λ next.
    let name = c.in_ok-named.ensures.reads in
    handed_on (RefusesSuffix c.args.at c.args.object.now (state c.args.tokens.now c.args.parser.now) (state c.args.tokens.now c.arguments.new.parser)) c.from_residual-in_err-values.result _
    c.from_residual-in_err-values.ensures.1 (method_refused c.args.at _ _ _ _ c.args.object.now _ _ _ _ name.colon name.named c.in_err-values.ensures.refuses)

pub suffixes::method-returns-clause-refuses : goal.suffixes::method-returns-clause-refuses
suffixes::method-returns-clause-refuses t c = λ next. on_memory _ _ c.method_called.result (λ s read k none. absurd none) c.method_called.ensures

pub suffixes::method-returns-in_err-object-clause-order : goal.suffixes::method-returns-in_err-object-clause-order
suffixes::method-returns-in_err-object-clause-order t c =
    handed_on _ c.from_residual.result _ c.from_residual.ensures.1 (refused_by _ _ _ c.in_err-object.ensures c.method_arguments-given.ensures.order)

pub suffixes::method-returns-clause-forward : goal.suffixes::method-returns-clause-forward
suffixes::method-returns-clause-forward t c = on_done c.method_called.result (done_by _ _ c.in_ok-object.ensures.1 c.method_arguments-given.ensures.forward)

pub suffixes::method_arguments-returns-clause-reads : goal.suffixes::method_arguments-returns-clause-reads
suffixes::method_arguments-returns-clause-reads t c =
    let name = c.in_ok-named.ensures.reads in
    record {
      inside = name.inside;
      after = (state c.args.tokens.now c.method_name.new.parser);
      colon_at = name.colon_at;
      colon = name.colon;
      named = name.named;
      reads = c.in_ok-values.ensures.reads;
      on_line = c.in_ok-line.ensures.same;
      begins = c.in_ok-line.ensures.line;
      below = name.below;
    }

pub suffixes::method_arguments-returns-in_err-line-clause-order : goal.suffixes::method_arguments-returns-in_err-line-clause-order
suffixes::method_arguments-returns-in_err-line-clause-order t c =
    let name = c.in_ok-named.ensures.reads in
    handed_on _ c.from_residual-in_err-line.result _ c.from_residual-in_err-line.ensures.1
    (λ s read start stands. args_ambiguous c.args.at _ _ (few_there _ _) c.in_err-line.ensures.closed start (standing.method_args stands read name.colon name.below name.named))

pub suffixes::method_arguments-returns-in_err-values-clause-order : goal.suffixes::method_arguments-returns-in_err-values-clause-order
suffixes::method_arguments-returns-in_err-values-clause-order t c =
    let name = c.in_ok-named.ensures.reads in
    handed_on _ c.from_residual-in_err-values.result _ c.from_residual-in_err-values.ensures.1
    (λ s read start stands. c.in_err-values.ensures.order start (standing.method_args stands read name.colon name.below name.named))

pub suffixes::method_arguments-returns-in_err-named-clause-order : goal.suffixes::method_arguments-returns-in_err-named-clause-order
suffixes::method_arguments-returns-in_err-named-clause-order t c =
    handed_on _ c.from_residual.result _ c.from_residual.ensures.1 c.in_err-named.ensures.order

pub suffixes::arguments-returns-then-at_sign-clause-reads : goal.suffixes::arguments-returns-then-at_sign-clause-reads
suffixes::arguments-returns-then-at_sign-clause-reads t c =
    on_node _ c.one.ensures (λ v is. table_arg_read _ _ _ _ _ _ c.narrower-inner.ensures c.in_ok-table.ensures.reads is)

pub suffixes::arguments-returns-then-at_text-clause-reads : goal.suffixes::arguments-returns-then-at_text-clause-reads
suffixes::arguments-returns-then-at_text-clause-reads t c =
    on_node _ c.text.ensures (λ v is. text_arg_read _ _ _ _ _ _ c.in_ok-text.ensures.takes is)

pub suffixes::list_arguments-returns-then-is_some-clause-reads : goal.suffixes::list_arguments-returns-then-is_some-clause-reads
suffixes::list_arguments-returns-then-is_some-clause-reads t c =
    no_args_read _ _ _ _ _ _ _ c.in_ok-take_sign.ensures.takes (skipped _ _ _ _ (sym c.is_some.ensures ∙ c.if-is_some.true) c.skip_sign.ensures.skips).1 c.none.ensures

pub suffixes::list_arguments-returns-then-is_some-clause-forward : goal.suffixes::list_arguments-returns-then-is_some-clause-forward
suffixes::list_arguments-returns-then-is_some-clause-forward t c =
    advances_on _ _ _ _ c.in_ok-take_sign.ensures.forward (skipped_on _ _ _ _ (sym c.is_some.ensures ∙ c.if-is_some.true) c.skip_sign.ensures.forward)

pub suffixes::list_arguments-returns-clause-reads : goal.suffixes::list_arguments-returns-clause-reads
suffixes::list_arguments-returns-clause-reads t c =
    let none = sym c.is_some.ensures ∙ c.if-is_some.false in
    let same = stayed _ _ _ _ none c.skip_sign.ensures.forward in
    let open_ = not_there _ none c.skip_sign.ensures.missing in
    args_read _ _ _ _ _ _ _ _ _ c.in_ok-take_sign.ensures.takes c.in_ok-inner.ensures (rw same at c.in_ok-values.ensures.reads) c.in_ok-take_sign-2.ensures.takes

pub suffixes::list_arguments-returns-clause-forward : goal.suffixes::list_arguments-returns-clause-forward
suffixes::list_arguments-returns-clause-forward t c =
    let none = sym c.is_some.ensures ∙ c.if-is_some.false in
    let same = stayed _ _ _ _ none c.skip_sign.ensures.forward in
    let open_ = not_there _ none c.skip_sign.ensures.missing in
    advances_on _ _ _ _ c.in_ok-take_sign.ensures.forward (advances_on _ _ _ _ (rw same at c.in_ok-values.ensures.forward) c.in_ok-take_sign-2.ensures.forward)

pub suffixes::arguments-returns-in_err-table-clause-refuses : goal.suffixes::arguments-returns-in_err-table-clause-refuses
suffixes::arguments-returns-in_err-table-clause-refuses t c =
    let is : IsTrue c.at_sign.result = search rules in
    handed_on (RefusesArgs c.args.at (state c.args.tokens.now c.args.parser.now) (state c.args.tokens.now c.table.new.parser)) c.from_residual.result _ c.from_residual.ensures.1
    (table_arg_refused c.args.at c.narrower-inner.result _ _ _ c.narrower-inner.ensures (c.in_err-table.ensures.refuses (c.at_sign.ensures.0 is)))

pub suffixes::arguments-returns-clause-refuses : goal.suffixes::arguments-returns-clause-refuses
suffixes::arguments-returns-clause-refuses t c =
    c.list_arguments.ensures.refuses (untested c.at_text.result _ c.if-at_text.false c.at_text.ensures) (untested c.at_sign.result _ c.if-at_sign.false c.at_sign.ensures)

pub suffixes::list_arguments-returns-in_err-take_sign-clause-refuses : goal.suffixes::list_arguments-returns-in_err-take_sign-clause-refuses
suffixes::list_arguments-returns-in_err-take_sign-clause-refuses t c = λ no_text no_table.
    handed_on (RefusesArgs c.args.at (state c.args.tokens.now c.args.parser.now) (state c.args.tokens.now c.take_sign.new.self)) c.from_residual.result _ c.from_residual.ensures.1 (no_args c.args.at _ _ _ no_table no_text c.in_err-take_sign.ensures.misses)

pub suffixes::list_arguments-returns-in_err-inner-clause-refuses : goal.suffixes::list_arguments-returns-in_err-inner-clause-refuses
suffixes::list_arguments-returns-in_err-inner-clause-refuses t c = λ no_text no_table.
    let none = sym c.is_some.ensures ∙ c.if-is_some.false in
    let same = stayed _ _ _ _ none c.skip_sign.ensures.forward in
    let open_ = not_there _ none c.skip_sign.ensures.missing in
    handed_on (RefusesArgs c.args.at (state c.args.tokens.now c.args.parser.now) (state c.args.tokens.now c.skip_sign.new.self)) c.from_residual-in_err-inner.result _ c.from_residual-in_err-inner.ensures.1
    (rw same (args_no_part c.args.at _ _ _ _ c.in_ok-take_sign.ensures.takes open_ (rw same at c.in_err-inner.ensures)))

pub suffixes::list_arguments-returns-in_err-values-clause-refuses : goal.suffixes::list_arguments-returns-in_err-values-clause-refuses
suffixes::list_arguments-returns-in_err-values-clause-refuses t c = λ no_text no_table.
    let none = sym c.is_some.ensures ∙ c.if-is_some.false in
    let same = stayed _ _ _ _ none c.skip_sign.ensures.forward in
    let open_ = not_there _ none c.skip_sign.ensures.missing in
    handed_on (RefusesArgs c.args.at (state c.args.tokens.now c.args.parser.now) (state c.args.tokens.now c.expressions.new.parser)) c.from_residual-in_err-values.result _ c.from_residual-in_err-values.ensures.1
    (args_refused c.args.at c.in_ok-inner.inner _ _ _ _ _ c.in_ok-take_sign.ensures.takes open_ c.in_ok-inner.ensures (rw same at c.in_err-values.ensures.refuses))

pub suffixes::list_arguments-returns-in_err-take_sign-2-clause-refuses : goal.suffixes::list_arguments-returns-in_err-take_sign-2-clause-refuses
suffixes::list_arguments-returns-in_err-take_sign-2-clause-refuses t c = λ no_text no_table.
    let none = sym c.is_some.ensures ∙ c.if-is_some.false in
    let same = stayed _ _ _ _ none c.skip_sign.ensures.forward in
    let open_ = not_there _ none c.skip_sign.ensures.missing in
    let values = c.in_ok-values.ensures in
    handed_on (RefusesArgs c.args.at (state c.args.tokens.now c.args.parser.now) (state c.args.tokens.now c.take_sign-2.new.self)) c.from_residual-in_err-take_sign-2.result _ c.from_residual-in_err-take_sign-2.ensures.1
    (args_open c.args.at c.in_ok-inner.inner _ _ _ _ _ c.in_ok-values.values _ c.in_ok-take_sign.ensures.takes open_ (rw same at values.reads) values.ends c.in_err-take_sign-2.ensures.misses)

pub suffixes::arguments-returns-in_err-table-clause-order : goal.suffixes::arguments-returns-in_err-table-clause-order
suffixes::arguments-returns-in_err-table-clause-order t c =
    handed_on _ c.from_residual.result _ c.from_residual.ensures.1
    (λ start stands. c.in_err-table.ensures.order start (standing.table_args stands c.narrower-inner.ensures))

pub suffixes::list_arguments-returns-in_err-inner-clause-order : goal.suffixes::list_arguments-returns-in_err-inner-clause-order
suffixes::list_arguments-returns-in_err-inner-clause-order t c =
    let none = sym c.is_some.ensures ∙ c.if-is_some.false in
    let same = stayed _ _ _ _ none c.skip_sign.ensures.forward in
    let open_ = not_there _ none c.skip_sign.ensures.missing in
    handed_on (FirstFault (standing.args c.args.at) (state c.args.tokens.now c.args.parser.now) (state c.args.tokens.now c.skip_sign.new.self)) c.from_residual-in_err-inner.result _ c.from_residual-in_err-inner.ensures.1
    (rw same (λ start stands. part_breaks _ _ _ _ (few_there _ _) (rw same at c.in_err-inner.ensures) start (standing.in_args stands c.in_ok-take_sign.ensures.takes open_)))

pub suffixes::list_arguments-returns-in_err-values-clause-order : goal.suffixes::list_arguments-returns-in_err-values-clause-order
suffixes::list_arguments-returns-in_err-values-clause-order t c =
    let none = sym c.is_some.ensures ∙ c.if-is_some.false in
    let same = stayed _ _ _ _ none c.skip_sign.ensures.forward in
    let open_ = not_there _ none c.skip_sign.ensures.missing in
    handed_on _ c.from_residual-in_err-values.result _ c.from_residual-in_err-values.ensures.1
    (λ start stands. c.in_err-values.ensures.order start (rw same (standing.as_part (standing.in_args stands c.in_ok-take_sign.ensures.takes open_) c.in_ok-inner.ensures)))

pub suffixes::arguments-returns-in_err-text-clause-order : goal.suffixes::arguments-returns-in_err-text-clause-order
suffixes::arguments-returns-in_err-text-clause-order t c =
    handed_on _ c.from_residual-in_err-text.result _ c.from_residual-in_err-text.ensures.1
    (λ start stands. missing_first _ _ _ _ c.in_err-text.ensures.misses start (standing.before_it stands))

pub suffixes::list_arguments-returns-in_err-take_sign-clause-order : goal.suffixes::list_arguments-returns-in_err-take_sign-clause-order
suffixes::list_arguments-returns-in_err-take_sign-clause-order t c =
    handed_on _ c.from_residual.result _ c.from_residual.ensures.1
    (λ start stands. missing_first _ _ _ _ c.in_err-take_sign.ensures.misses start (standing.before_it stands))

pub suffixes::list_arguments-returns-in_err-take_sign-2-clause-order : goal.suffixes::list_arguments-returns-in_err-take_sign-2-clause-order
suffixes::list_arguments-returns-in_err-take_sign-2-clause-order t c =
    let none = sym c.is_some.ensures ∙ c.if-is_some.false in
    let same = stayed _ _ _ _ none c.skip_sign.ensures.forward in
    let open_ = not_there _ none c.skip_sign.ensures.missing in
    handed_on _ c.from_residual-in_err-take_sign-2.result _ c.from_residual-in_err-take_sign-2.ensures.1
    (λ start stands. missing_first _ _ _ _ c.in_err-take_sign-2.ensures.misses start
    (standing.after_list (standing.as_part (standing.in_args stands c.in_ok-take_sign.ensures.takes open_) c.in_ok-inner.ensures) (rw same at c.in_ok-values.ensures.reads)))

pub suffixes::expressions-loop-alloc-init : goal.suffixes::expressions-loop-alloc-init
suffixes::expressions-loop-alloc-init t c = record {
  forward = c.in_ok-first.ensures.forward;
  reads = list_one _ _ _ _ _ c.in_ok-first.ensures.reads c.in_ok-first.ensures.ends c.in_ok-values.ensures;
}

pub suffixes::expressions-loop-alloc-preserved : goal.suffixes::expressions-loop-alloc-preserved
suffixes::expressions-loop-alloc-preserved t c =
    let before = c.loop-alloc.invariant in
    let is = sym c.is_some.ensures ∙ c.loop-alloc-test.true in
    record {
      forward = advances_on _ _ _ _ before.forward (advances_on _ _ _ _ (skipped_on _ _ _ _ is c.skip_sign.ensures.forward) c.in_ok-next.ensures.forward);
      reads = list_more _ _ _ _ _ _ _ _ _ before.reads (skipped _ _ _ _ is c.skip_sign.ensures.skips).1 c.in_ok-next.ensures.reads c.in_ok-next.ensures.ends c.in_ok-push.ensures;
    }

pub suffixes::expressions-returns-clause-reads : goal.suffixes::expressions-returns-clause-reads
suffixes::expressions-returns-clause-reads t c =
    let is = sym c.is_some.ensures ∙ c.loop-alloc-test.false in
    rw (stayed _ _ _ _ is c.skip_sign.ensures.forward) c.loop-alloc.invariant.reads

pub suffixes::expressions-returns-clause-ends : goal.suffixes::expressions-returns-clause-ends
suffixes::expressions-returns-clause-ends t c =
    let is = sym c.is_some.ensures ∙ c.loop-alloc-test.false in
    rw (stayed _ _ _ _ is c.skip_sign.ensures.forward) (no_comma_ahead (state c.args.tokens.now c.loop-alloc.parser) (not_there _ is c.skip_sign.ensures.missing))

pub suffixes::expressions-returns-clause-forward : goal.suffixes::expressions-returns-clause-forward
suffixes::expressions-returns-clause-forward t c =
    let is = sym c.is_some.ensures ∙ c.loop-alloc-test.false in
    rw (stayed _ _ _ _ is c.skip_sign.ensures.forward) c.loop-alloc.invariant.forward

pub suffixes::expressions-returns-in_err-first-clause-refuses : goal.suffixes::expressions-returns-in_err-first-clause-refuses
suffixes::expressions-returns-in_err-first-clause-refuses t c =
    let small : 1 ≤ 7 = lit≤ tt in
    let h : IfErr c.from_residual.result (RefusesFrom 1 c.args.at (state c.args.tokens.now c.args.parser.now) (state c.args.tokens.now c.expression.new.parser)) = search rules in
    on_err c.from_residual.result h (λ fault refuses. first_refused c.args.at _ _ fault refuses)

pub suffixes::expressions-returns-in_err-next-clause-refuses : goal.suffixes::expressions-returns-in_err-next-clause-refuses
suffixes::expressions-returns-in_err-next-clause-refuses t c =
    let is = sym c.is_some.ensures ∙ c.loop-alloc-test.true in
    handed_on (RefusesList c.args.at (state c.args.tokens.now c.args.parser.now) (state c.args.tokens.now c.expression-in-loop-alloc.new.parser)) c.from_residual-in_err-next.result _ c.from_residual-in_err-next.ensures.1
    (next_refused c.args.at _ _ _ _ _ _ _ c.loop-alloc.invariant.reads (skipped _ _ _ _ is c.skip_sign.ensures.skips).1 (c.in_err-next.ensures.refuses (lit≤ tt)))

pub suffixes::expressions-returns-in_err-first-clause-order : goal.suffixes::expressions-returns-in_err-first-clause-order
suffixes::expressions-returns-in_err-first-clause-order t c =
    handed_on _ c.from_residual.result _ c.from_residual.ensures.1
    (λ start stands. c.in_err-first.ensures.order start (standing.first_of stands))

pub suffixes::expressions-returns-in_err-next-clause-order : goal.suffixes::expressions-returns-in_err-next-clause-order
suffixes::expressions-returns-in_err-next-clause-order t c =
    let is = sym c.is_some.ensures ∙ c.loop-alloc-test.true in
    handed_on _ c.from_residual-in_err-next.result _ c.from_residual-in_err-next.ensures.1
    (λ start stands. c.in_err-next.ensures.order start (standing.next_of stands c.loop-alloc.invariant.reads (skipped _ _ _ _ is c.skip_sign.ensures.skips).1))

pub suffixes::table-loop-at-init : goal.suffixes::table-loop-at-init
suffixes::table-loop-at-init t c = record {
  forward = c.in_ok-open.ensures.forward;
  reads = (state c.args.tokens.now c.take_sign.new.self, c.in_ok-open.ensures.takes, no_fields_read _ _ _ c.none-items.ensures);
}

pub suffixes::table-loop-at-preserved : goal.suffixes::table-loop-at-preserved
suffixes::table-loop-at-preserved t c =
    let none = c.is_none.ensures ∙ ap not c.loop-at-test.true in
    let same = stayed _ _ _ _ none c.skip_sign.ensures.forward in
    let more = not_there _ none c.skip_sign.ensures.missing in
    let before = c.loop-at.invariant.reads in
    let pushed = rw same at c.in_ok-push_field.ensures.reads in
    let unclosed = sym c.is_some.ensures ∙ c.if-is_some.false in
    let after = stayed _ _ _ _ unclosed c.skip_sign-in-loop-at.ensures.forward in
    record {
      forward = advances_on _ _ _ _ c.loop-at.invariant.forward (advances_on _ _ _ _ (rw same at c.in_ok-push_field.ensures.forward) (rw after at c.in_ok-take_separator.ensures.forward));
      reads = (
        before.0,
        before.1,
        more_fields_read _ _ _ _ _ _ _ _ _ before.2 pushed.part pushed.reads (rw after at c.in_ok-take_separator.ensures.takes) pushed.adds,
      );
    }

pub suffixes::table-returns-then-is_some-clause-reads : goal.suffixes::table-returns-then-is_some-clause-reads
suffixes::table-returns-then-is_some-clause-reads t c =
    let none = c.is_none.ensures ∙ ap not c.loop-at-test.true in
    let same = stayed _ _ _ _ none c.skip_sign.ensures.forward in
    let more = not_there _ none c.skip_sign.ensures.missing in
    let before = c.loop-at.invariant.reads in
    let pushed = rw same at c.in_ok-push_field.ensures.reads in
    on_node _ c.into_table.ensures (λ b is.
    ending_read _ _ _ _ _ _ _ _ _ _ _ _ _ before.1 before.2 pushed.part pushed.reads pushed.adds (skipped _ _ _ _ (sym c.is_some.ensures ∙ c.if-is_some.true) c.skip_sign-in-loop-at.ensures.skips).1 is)

pub suffixes::table-returns-then-is_some-clause-forward : goal.suffixes::table-returns-then-is_some-clause-forward
suffixes::table-returns-then-is_some-clause-forward t c =
    let none = c.is_none.ensures ∙ ap not c.loop-at-test.true in
    let same = stayed _ _ _ _ none c.skip_sign.ensures.forward in
    let more = not_there _ none c.skip_sign.ensures.missing in
    on_done c.into_table.result (advances_on _ _ _ _ c.loop-at.invariant.forward (advances_on _ _ _ _ (rw same at c.in_ok-push_field.ensures.forward) (skipped_on _ _ _ _ (sym c.is_some.ensures ∙ c.if-is_some.true) c.skip_sign-in-loop-at.ensures.forward)))

pub suffixes::table-returns-clause-reads : goal.suffixes::table-returns-clause-reads
suffixes::table-returns-clause-reads t c =
    let before = c.loop-at.invariant.reads in
    on_node _ c.into_table-2.ensures (λ b is. separated_read _ _ _ _ _ _ _ _ _ before.1 before.2 (skipped _ _ _ _ (c.is_none.ensures ∙ ap not c.loop-at-test.false) c.skip_sign.ensures.skips).1 is)

pub suffixes::table-returns-clause-forward : goal.suffixes::table-returns-clause-forward
suffixes::table-returns-clause-forward t c =
    on_done c.into_table-2.result (advances_on _ _ _ _ c.loop-at.invariant.forward (skipped_on _ _ _ _ (c.is_none.ensures ∙ ap not c.loop-at-test.false) c.skip_sign.ensures.forward))

pub suffixes::table-returns-in_err-push_field-clause-refuses : goal.suffixes::table-returns-in_err-push_field-clause-refuses
suffixes::table-returns-in_err-push_field-clause-refuses t c = λ next.
    let none = c.is_none.ensures ∙ ap not c.loop-at-test.true in
    let same = stayed _ _ _ _ none c.skip_sign.ensures.forward in
    let more = not_there _ none c.skip_sign.ensures.missing in
    let before = c.loop-at.invariant.reads in
    let after : AfterItems c.args.at c.loop-at.items (state c.args.tokens.now c.args.parser.now) (state c.args.tokens.now c.loop-at.parser) =
    record { open_at = _; inside = before.0; opens = before.1; reads = before.2; more = more } in
    handed_on (RefusesTable c.args.at (state c.args.tokens.now c.args.parser.now) (state c.args.tokens.now c.push_field.new.parser)) c.from_residual-in_err-push_field.result _ c.from_residual-in_err-push_field.ensures.1
    (c.in_err-push_field.ensures.refuses _ (rw same after))

pub suffixes::table-returns-in_err-take_separator-clause-refuses : goal.suffixes::table-returns-in_err-take_separator-clause-refuses
suffixes::table-returns-in_err-take_separator-clause-refuses t c = λ next.
    let none = c.is_none.ensures ∙ ap not c.loop-at-test.true in
    let same = stayed _ _ _ _ none c.skip_sign.ensures.forward in
    let more = not_there _ none c.skip_sign.ensures.missing in
    let before = c.loop-at.invariant.reads in
    let pushed = rw same at c.in_ok-push_field.ensures.reads in
    let unclosed = sym c.is_some.ensures ∙ c.if-is_some.false in
    let after = stayed _ _ _ _ unclosed c.skip_sign-in-loop-at.ensures.forward in
    handed_on (RefusesTable c.args.at (state c.args.tokens.now c.args.parser.now) (state c.args.tokens.now c.take_separator.new.self)) c.from_residual-in_err-take_separator.result _ c.from_residual-in_err-take_separator.ensures.1
    (separator_refused c.args.at pushed.inner _ _ _ _ _ _ _ _ pushed.item before.2 before.1 pushed.reads (not_there _ unclosed c.skip_sign-in-loop-at.ensures.missing) (rw after at c.in_err-take_separator.ensures.misses))

pub suffixes::table-returns-in_err-push_field-clause-order : goal.suffixes::table-returns-in_err-push_field-clause-order
suffixes::table-returns-in_err-push_field-clause-order t c =
    let none = c.is_none.ensures ∙ ap not c.loop-at-test.true in
    let same = stayed _ _ _ _ none c.skip_sign.ensures.forward in
    let more = not_there _ none c.skip_sign.ensures.missing in
    let before = c.loop-at.invariant.reads in
    let after : AfterItems c.args.at c.loop-at.items (state c.args.tokens.now c.args.parser.now) (state c.args.tokens.now c.loop-at.parser) =
    record { open_at = _; inside = before.0; opens = before.1; reads = before.2; more = more } in
    handed_on _ c.from_residual-in_err-push_field.result _ c.from_residual-in_err-push_field.ensures.1
    (c.in_err-push_field.ensures.order _ (rw same after))

pub suffixes::table-returns-in_err-open-clause-order : goal.suffixes::table-returns-in_err-open-clause-order
suffixes::table-returns-in_err-open-clause-order t c =
    handed_on _ c.from_residual.result _ c.from_residual.ensures.1
    (λ start stands. missing_first _ _ _ _ c.in_err-open.ensures.misses start (standing.before_it stands))

pub suffixes::table-returns-in_err-take_separator-clause-order : goal.suffixes::table-returns-in_err-take_separator-clause-order
suffixes::table-returns-in_err-take_separator-clause-order t c =
    let none = c.is_none.ensures ∙ ap not c.loop-at-test.true in
    let same = stayed _ _ _ _ none c.skip_sign.ensures.forward in
    let more = not_there _ none c.skip_sign.ensures.missing in
    let before = c.loop-at.invariant.reads in
    let pushed = rw same at c.in_ok-push_field.ensures.reads in
    let unclosed = sym c.is_some.ensures ∙ c.if-is_some.false in
    let after = stayed _ _ _ _ unclosed c.skip_sign-in-loop-at.ensures.forward in
    handed_on _ c.from_residual-in_err-take_separator.result _ c.from_residual-in_err-take_separator.ensures.1
    (λ start stands. missing_first _ _ _ _ (rw after at c.in_err-take_separator.ensures.misses) start
    (standing.after_field (standing.as_part (standing.in_table stands before.1 before.2 more) pushed.part) pushed.reads))

pub suffixes::push_field-returns-clause-reads : goal.suffixes::push_field-returns-clause-reads
suffixes::push_field-returns-clause-reads t c =
    let pushed : AddsItem c.args.items.now c.in_ok-item.item c.push.new.self → PushesField c.args.at c.args.items.now (state c.args.tokens.now c.args.parser.now) c.push.new.self (state c.args.tokens.now c.field.new.parser) =
    λ adds. record { inner = c.in_ok-inner.inner; item = c.in_ok-item.item; part = c.in_ok-inner.ensures; reads = c.in_ok-item.ensures.reads; adds = adds } in
    done_node _ _ c.push.result c.push.ensures pushed

pub suffixes::push_field-returns-in_err-inner-clause-refuses : goal.suffixes::push_field-returns-in_err-inner-clause-refuses
suffixes::push_field-returns-in_err-inner-clause-refuses t c =
    handed_on (RefusesItem c.args.at c.args.items.now (state c.args.tokens.now c.args.parser.now) (state c.args.tokens.now c.args.parser.now)) c.from_residual.result _ c.from_residual.ensures.1
    (λ s after. part_refused c.args.at _ _ _ _ _ _ after.reads after.opens after.more c.in_err-inner.ensures)

pub suffixes::push_field-returns-in_err-item-clause-refuses : goal.suffixes::push_field-returns-in_err-item-clause-refuses
suffixes::push_field-returns-in_err-item-clause-refuses t c =
    handed_on (RefusesItem c.args.at c.args.items.now (state c.args.tokens.now c.args.parser.now) (state c.args.tokens.now c.field.new.parser)) c.from_residual-in_err-item.result _ c.from_residual-in_err-item.ensures.1
    (λ s after. field_refused c.args.at c.in_ok-inner.inner _ _ _ _ _ _ _ after.reads after.opens c.in_ok-inner.ensures after.more c.in_err-item.ensures.refuses)

pub suffixes::push_field-returns-clause-refuses : goal.suffixes::push_field-returns-clause-refuses
suffixes::push_field-returns-clause-refuses t c = on_memory _ _ c.push.result (λ s after r k begins none. absurd none) c.push.ensures

pub suffixes::push_field-returns-in_err-inner-clause-order : goal.suffixes::push_field-returns-in_err-inner-clause-order
suffixes::push_field-returns-in_err-inner-clause-order t c =
    handed_on _ c.from_residual.result _ c.from_residual.ensures.1
    (λ s after start stands. part_breaks _ _ _ _ (few_there _ _) c.in_err-inner.ensures start (standing.in_table stands after.opens after.reads after.more))

pub suffixes::push_field-returns-in_err-item-clause-order : goal.suffixes::push_field-returns-in_err-item-clause-order
suffixes::push_field-returns-in_err-item-clause-order t c =
    handed_on _ c.from_residual-in_err-item.result _ c.from_residual-in_err-item.ensures.1
    (λ s after start stands. c.in_err-item.ensures.order start (standing.as_part (standing.in_table stands after.opens after.reads after.more) c.in_ok-inner.ensures))

pub suffixes::push_field-returns-clause-order : goal.suffixes::push_field-returns-clause-order
suffixes::push_field-returns-clause-order t c = on_memory _ _ c.push.result (λ s after start stands. tt) c.push.ensures

pub suffixes::field-returns-clause-reads : goal.suffixes::field-returns-clause-reads
suffixes::field-returns-clause-reads t c =
    plain_read _ _ _ _ _ c.in_ok-value.ensures.reads c.in_ok-value.ensures.ends (untested c.at_named_field.result _ c.if-at_named_field.false c.at_named_field.ensures) c.value.ensures.item c.value.ensures.height

pub suffixes::field-returns-in_err-value-clause-refuses : goal.suffixes::field-returns-in_err-value-clause-refuses
suffixes::field-returns-in_err-value-clause-refuses t c =
    let small : 1 ≤ 7 = lit≤ tt in
    let h : IfErr c.from_residual.result (RefusesFrom 1 c.args.at (state c.args.tokens.now c.args.parser.now) (state c.args.tokens.now c.expression.new.parser)) = search rules in
    on_err c.from_residual.result h (λ fault refuses. plain_refused c.args.at fault _ _ (untested c.at_sign.result _ c.if-at_sign.false c.at_sign.ensures)
    (untested c.at_named_field.result _ c.if-at_named_field.false c.at_named_field.ensures) refuses)

pub suffixes::field-returns-in_err-value-clause-order : goal.suffixes::field-returns-in_err-value-clause-order
suffixes::field-returns-in_err-value-clause-order t c =
    handed_on _ c.from_residual.result _ c.from_residual.ensures.1
    (λ start stands. c.in_err-value.ensures.order start (standing.plain_field stands (untested c.at_named_field.result _ c.if-at_named_field.false c.at_named_field.ensures)))

pub suffixes::keyed_field-returns-in-Ok-clause-reads : goal.suffixes::keyed_field-returns-in-Ok-clause-reads
suffixes::keyed_field-returns-in-Ok-clause-reads t c =
    let same = c.in_ok-key-3.ensures.0 ∙ c.in_ok-key-2.ensures.0 in
    keyed_read _ _ _ _ _ _ _ _ _ _ _ _ _ c.in_ok-take_sign.ensures.takes (subst (λ key. ReadsExp c.args.at (state c.args.tokens.now c.take_sign.new.self) key (state c.args.tokens.now c.expression.new.parser)) (sym same) c.in_ok-key.ensures.reads)
    (read_by _ _ _ c.in_ok-key-2.ensures.1 c.take_sign-2.ensures.takes) (read_by _ _ _ c.in_ok-key-3.ensures.1 c.take_sign-3.ensures.takes) c.in-Ok.ensures.reads c.in-Ok.ensures.ends c.pair.ensures.item c.pair.ensures.height

pub suffixes::keyed_field-returns-in-Ok-clause-forward : goal.suffixes::keyed_field-returns-in-Ok-clause-forward
suffixes::keyed_field-returns-in-Ok-clause-forward t c =
    advances_on _ _ _ _ c.in_ok-take_sign.ensures.forward (advances_on _ _ _ _ c.in_ok-key.ensures.forward
    (advances_on _ _ _ _ (done_by _ _ c.in_ok-key-2.ensures.1 c.take_sign-2.ensures.forward)
    (advances_on _ _ _ _ (done_by _ _ c.in_ok-key-3.ensures.1 c.take_sign-3.ensures.forward) c.in-Ok.ensures.forward)))

pub suffixes::keyed_field-returns-in_err-take_sign-clause-refuses : goal.suffixes::keyed_field-returns-in_err-take_sign-clause-refuses
suffixes::keyed_field-returns-in_err-take_sign-clause-refuses t c = λ next.
    let h : IfErr c.from_residual.result (OnAt (Misses (IsKind (Sign sign.OpenBracket)) (state c.args.tokens.now c.args.parser.now) (state c.args.tokens.now c.take_sign.new.self))) = search rules in
    on_err c.from_residual.result h (λ fault missed o fs k suppose. never_missed fault _ (token (field (after_field o fs k))) (IsKind (Sign sign.OpenBracket)) _ _ missed suppose next)

pub suffixes::keyed_field-returns-in_err-key-clause-refuses : goal.suffixes::keyed_field-returns-in_err-key-clause-refuses
suffixes::keyed_field-returns-in_err-key-clause-refuses t c = λ next.
    let small : 1 ≤ 7 = lit≤ tt in
    let h : IfErr c.from_residual-in_err-key.result (RefusesFrom 1 c.args.at (state c.args.tokens.now c.take_sign.new.self) (state c.args.tokens.now c.expression.new.parser)) = search rules in
    on_err c.from_residual-in_err-key.result h (λ fault refuses. key_refused c.args.at _ fault _ _ _ c.in_ok-take_sign.ensures.takes refuses)

pub suffixes::keyed_field-returns-in_err-key-2-clause-refuses : goal.suffixes::keyed_field-returns-in_err-key-2-clause-refuses
suffixes::keyed_field-returns-in_err-key-2-clause-refuses t c = λ next.
    handed_on (RefusesField c.args.at (state c.args.tokens.now c.args.parser.now) (state c.args.tokens.now c.take_sign-2.new.self)) c.from_residual-in_err-key-2.result _ c.from_residual-in_err-key-2.ensures.1
    (bracket_refused c.args.at _ _ _ _ _ _ _ c.in_ok-take_sign.ensures.takes c.in_ok-key.ensures.reads c.in_ok-key.ensures.ends (refused_by _ _ _ c.in_err-key-2.ensures c.take_sign-2.ensures.misses))

pub suffixes::keyed_field-returns-in_err-key-3-clause-refuses : goal.suffixes::keyed_field-returns-in_err-key-3-clause-refuses
suffixes::keyed_field-returns-in_err-key-3-clause-refuses t c = λ next.
    handed_on (RefusesField c.args.at (state c.args.tokens.now c.args.parser.now) (state c.args.tokens.now c.take_sign-3.new.self)) c.from_residual-in_err-key-3.result _ c.from_residual-in_err-key-3.ensures.1
    (equals_refused c.args.at _ _ _ _ _ _ _ _ _ c.in_ok-take_sign.ensures.takes c.in_ok-key.ensures.reads c.in_ok-key.ensures.ends (read_by _ _ _ c.in_ok-key-2.ensures.1 c.take_sign-2.ensures.takes) (refused_by _ _ _ c.in_err-key-3.ensures c.take_sign-3.ensures.misses))

pub suffixes::keyed_field-returns-in-Err-clause-refuses : goal.suffixes::keyed_field-returns-in-Err-clause-refuses
suffixes::keyed_field-returns-in-Err-clause-refuses t c = λ next.
    keyed_value_refused c.args.at _ _ _ _ _ _ _ _ _ _ _ c.in_ok-take_sign.ensures.takes c.in_ok-key.ensures.reads c.in_ok-key.ensures.ends
    (read_by _ _ _ c.in_ok-key-2.ensures.1 c.take_sign-2.ensures.takes) (read_by _ _ _ c.in_ok-key-3.ensures.1 c.take_sign-3.ensures.takes) (c.in-Err.ensures.refuses (lit≤ tt))

pub suffixes::keyed_field-returns-in_err-key-clause-order : goal.suffixes::keyed_field-returns-in_err-key-clause-order
suffixes::keyed_field-returns-in_err-key-clause-order t c =
    handed_on _ c.from_residual-in_err-key.result _ c.from_residual-in_err-key.ensures.1
    (λ start stands. c.in_err-key.ensures.order start (standing.field_key stands c.in_ok-take_sign.ensures.takes))

pub suffixes::keyed_field-returns-in-Err-clause-order : goal.suffixes::keyed_field-returns-in-Err-clause-order
suffixes::keyed_field-returns-in-Err-clause-order t c = λ start stands.
    c.in-Err.ensures.order start
    (standing.keyed_value stands c.in_ok-take_sign.ensures.takes c.in_ok-key.ensures.reads (read_by _ _ _ c.in_ok-key-2.ensures.1 c.take_sign-2.ensures.takes) (read_by _ _ _ c.in_ok-key-3.ensures.1 c.take_sign-3.ensures.takes))

pub suffixes::keyed_field-returns-in_err-take_sign-clause-order : goal.suffixes::keyed_field-returns-in_err-take_sign-clause-order
suffixes::keyed_field-returns-in_err-take_sign-clause-order t c =
    handed_on _ c.from_residual.result _ c.from_residual.ensures.1
    (λ start stands. missing_first _ _ _ _ c.in_err-take_sign.ensures.misses start (standing.before_it stands))

pub suffixes::keyed_field-returns-in_err-key-2-clause-order : goal.suffixes::keyed_field-returns-in_err-key-2-clause-order
suffixes::keyed_field-returns-in_err-key-2-clause-order t c =
    handed_on _ c.from_residual-in_err-key-2.result _ c.from_residual-in_err-key-2.ensures.1
    (λ start stands. missing_first _ _ _ _ (refused_by _ _ _ c.in_err-key-2.ensures c.take_sign-2.ensures.misses) start (standing.after_exp (standing.field_key stands c.in_ok-take_sign.ensures.takes) c.in_ok-key.ensures.reads))

pub suffixes::keyed_field-returns-in_err-key-3-clause-order : goal.suffixes::keyed_field-returns-in_err-key-3-clause-order
suffixes::keyed_field-returns-in_err-key-3-clause-order t c =
    handed_on _ c.from_residual-in_err-key-3.result _ c.from_residual-in_err-key-3.ensures.1
    (λ start stands. missing_first _ _ _ _ (refused_by _ _ _ c.in_err-key-3.ensures c.take_sign-3.ensures.misses) start (standing.after_key stands c.in_ok-take_sign.ensures.takes c.in_ok-key.ensures.reads (read_by _ _ _ c.in_ok-key-2.ensures.1 c.take_sign-2.ensures.takes)))

pub suffixes::named_field-returns-clause-reads : goal.suffixes::named_field-returns-clause-reads
suffixes::named_field-returns-clause-reads t c =
    named_read _ _ _ _ _ _ _ _ _ _ _ c.in_ok-named.ensures.takes c.into_text.ensures c.in_ok-take_sign.ensures.takes c.in_ok-value.ensures.reads c.in_ok-value.ensures.ends c.pair.ensures.item c.pair.ensures.height

pub suffixes::named_field-returns-in_err-named-clause-refuses : goal.suffixes::named_field-returns-in_err-named-clause-refuses
suffixes::named_field-returns-in_err-named-clause-refuses t c = λ next.
    let h : IfErr c.from_residual.result (OnAt (Misses IsName (state c.args.tokens.now c.args.parser.now) (state c.args.tokens.now c.take_name.new.self))) = search rules in
    on_err c.from_residual.result h (λ fault missed. name_never_missed c.args.at fault _ _ next missed)

pub suffixes::named_field-returns-in_err-take_sign-clause-refuses : goal.suffixes::named_field-returns-in_err-take_sign-clause-refuses
suffixes::named_field-returns-in_err-take_sign-clause-refuses t c = λ next.
    let h : IfErr c.from_residual-in_err-take_sign.result (OnAt (Misses (IsKind (Sign sign.Assign)) (state c.args.tokens.now c.take_name.new.self) (state c.args.tokens.now c.take_sign.new.self))) = search rules in
    on_err c.from_residual-in_err-take_sign.result h (λ fault missed. equals_never_missed c.args.at _ _ fault _ _ _ next c.in_ok-named.ensures.takes missed)

pub suffixes::named_field-returns-in_err-value-clause-refuses : goal.suffixes::named_field-returns-in_err-value-clause-refuses
suffixes::named_field-returns-in_err-value-clause-refuses t c = λ next.
    let small : 1 ≤ 7 = lit≤ tt in
    let h : IfErr c.from_residual-in_err-value.result (RefusesFrom 1 c.args.at (state c.args.tokens.now c.take_sign.new.self) (state c.args.tokens.now c.expression.new.parser)) = search rules in
    on_err c.from_residual-in_err-value.result h (λ fault refuses. named_value_refused c.args.at _ _ _ fault _ _ _ _ c.in_ok-named.ensures.takes c.in_ok-take_sign.ensures.takes refuses)

pub suffixes::named_field-returns-in_err-value-clause-order : goal.suffixes::named_field-returns-in_err-value-clause-order
suffixes::named_field-returns-in_err-value-clause-order t c =
    λ named. handed_on _ c.from_residual-in_err-value.result _ c.from_residual-in_err-value.ensures.1
    (λ start stands. c.in_err-value.ensures.order start (standing.named_value stands c.in_ok-named.ensures.takes c.in_ok-take_sign.ensures.takes))

pub suffixes::named_field-returns-in_err-named-clause-order : goal.suffixes::named_field-returns-in_err-named-clause-order
suffixes::named_field-returns-in_err-named-clause-order t c =
    λ named. handed_on _ c.from_residual.result _ c.from_residual.ensures.1
    (λ start stands. missing_first _ _ _ _ c.in_err-named.ensures.misses start (standing.before_it stands))

pub statements::arm-returns-clause-reads : goal.statements::arm-returns-clause-reads
statements::arm-returns-clause-reads t c =
    let same = c.in_ok-test-3.ensures.0 ∙ c.in_ok-test-2.ensures.0 in
    on_node _ c.arm_node.ensures (λ arm is. arm_read _ _ _ _ _ _ _ _ _ (subst (λ test. ReadsValue c.args.at (state c.args.tokens.now c.args.parser.now) test (state c.args.tokens.now c.value.new.parser)) (sym same) c.in_ok-test.ensures.reads) (read_by _ _ _ c.in_ok-test-2.ensures.1 c.take_word.ensures.takes)
    (read_by _ _ _ c.in_ok-test-3.ensures.1 c.scoped.ensures.reads) is)

pub statements::arm-returns-in_err-test-clause-refuses : goal.statements::arm-returns-in_err-test-clause-refuses
statements::arm-returns-in_err-test-clause-refuses t c =
    let h : IfErr c.from_residual.result (RefusesValue c.args.at (state c.args.tokens.now c.args.parser.now) (state c.args.tokens.now c.value.new.parser)) = search rules in
    on_err c.from_residual.result h (λ fault refuses. test_refused c.args.at _ _ fault refuses)

pub statements::arm-returns-in_err-test-2-clause-refuses : goal.statements::arm-returns-in_err-test-2-clause-refuses
statements::arm-returns-in_err-test-2-clause-refuses t c =
    handed_on (RefusesArm c.args.at (state c.args.tokens.now c.args.parser.now) (state c.args.tokens.now c.take_word.new.self)) c.from_residual-in_err-test-2.result _ c.from_residual-in_err-test-2.ensures.1
    (then_refused c.args.at _ _ _ _ _ c.in_ok-test.ensures.reads (refused_by _ _ _ c.in_err-test-2.ensures c.take_word.ensures.misses))

pub statements::arm-returns-in_err-test-3-clause-refuses : goal.statements::arm-returns-in_err-test-3-clause-refuses
statements::arm-returns-in_err-test-3-clause-refuses t c =
    handed_on (RefusesArm c.args.at (state c.args.tokens.now c.args.parser.now) (state c.args.tokens.now c.scoped.new.parser)) c.from_residual-in_err-test-3.result _ c.from_residual-in_err-test-3.ensures.1
    (arm_block_refused c.args.at _ _ _ _ _ _ _ c.in_ok-test.ensures.reads (read_by _ _ _ c.in_ok-test-2.ensures.1 c.take_word.ensures.takes) (refused_by _ _ _ c.in_err-test-3.ensures c.scoped.ensures.refuses))

pub statements::arm-returns-clause-refuses : goal.statements::arm-returns-clause-refuses
statements::arm-returns-clause-refuses t c = on_memory _ _ c.arm_node.result (λ k not none. absurd none) c.arm_node.ensures

pub statements::arm-returns-clause-forward : goal.statements::arm-returns-clause-forward
statements::arm-returns-clause-forward t c = on_done c.arm_node.result
    (advances_stays _ _ _ _ (advances_on _ _ _ _ c.in_ok-test.ensures.forward (done_by _ _ c.in_ok-test-2.ensures.1 c.take_word.ensures.forward)) (done_by _ _ c.in_ok-test-3.ensures.1 c.scoped.ensures.forward))

pub statements::arm-returns-in_err-test-clause-order : goal.statements::arm-returns-in_err-test-clause-order
statements::arm-returns-in_err-test-clause-order t c =
    handed_on _ c.from_residual.result _ c.from_residual.ensures.1
    (λ start stands. c.in_err-test.ensures.order start (standing.arm_test stands))

pub statements::arm-returns-in_err-test-3-clause-order : goal.statements::arm-returns-in_err-test-3-clause-order
statements::arm-returns-in_err-test-3-clause-order t c =
    handed_on _ c.from_residual-in_err-test-3.result _ c.from_residual-in_err-test-3.ensures.1
    (λ start stands. refused_by _ _ _ c.in_err-test-3.ensures c.scoped.ensures.order start (standing.arm_block stands c.in_ok-test.ensures.reads (read_by _ _ _ c.in_ok-test-2.ensures.1 c.take_word.ensures.takes)))

pub statements::arm-returns-in_err-test-2-clause-order : goal.statements::arm-returns-in_err-test-2-clause-order
statements::arm-returns-in_err-test-2-clause-order t c =
    handed_on _ c.from_residual-in_err-test-2.result _ c.from_residual-in_err-test-2.ensures.1
    (λ start stands. missing_first _ _ _ _ (refused_by _ _ _ c.in_err-test-2.ensures c.take_word.ensures.misses) start (standing.after_value (standing.arm_test stands) c.in_ok-test.ensures.reads))

pub statements::arms-loop-alloc-init : goal.statements::arms-loop-alloc-init
statements::arms-loop-alloc-init t c =
    let pushed = c.in_ok-push_read.ensures in
    record {
      forward = done_by _ _ pushed.1 c.arm.ensures.forward;
      reads = λ line. arms_one _ _ _ _ _ _ (read_by _ _ _ pushed.1 c.arm.ensures.reads) (rw c.new-arms.ensures.items at pushed.2);
    }

pub statements::arms-loop-alloc-preserved : goal.statements::arms-loop-alloc-preserved
statements::arms-loop-alloc-preserved t c =
    let pushed = c.in_ok-push_read-2.ensures in
    record {
      forward = advances_on _ _ _ _ c.loop-alloc.invariant.forward (advances_on _ _ _ _ c.in_ok-take_word.ensures.forward (done_by _ _ pushed.1 c.arm-in-loop-alloc.ensures.forward));
      reads = λ line. arms_more _ _ _ _ _ _ _ _ _ _ (c.loop-alloc.invariant.reads line) c.in_ok-take_word.ensures.takes (read_by _ _ _ pushed.1 c.arm-in-loop-alloc.ensures.reads) pushed.2;
    }

pub statements::arms-returns-in_err-push_read-clause-refuses : goal.statements::arms-returns-in_err-push_read-clause-refuses
statements::arms-returns-in_err-push_read-clause-refuses t c =
    handed_on (RefusesArms c.args.at (state c.args.tokens.now c.args.parser.now) (state c.args.tokens.now c.arm.new.parser)) c.from_residual.result _ c.from_residual.ensures.1
    (pushed_refused (RefusesArms c.args.at (state c.args.tokens.now c.args.parser.now) (state c.args.tokens.now c.arm.new.parser)) c.arm.result _ c.in_err-push_read.ensures
    (on_err c.arm.result c.arm.ensures.refuses (λ fault refuses. first_arm_refused c.args.at _ _ fault refuses)) (λ i k never none. absurd none))

pub statements::arms-returns-in_err-push_read-2-clause-refuses : goal.statements::arms-returns-in_err-push_read-2-clause-refuses
statements::arms-returns-in_err-push_read-2-clause-refuses t c =
    handed_on (RefusesArms c.args.at (state c.args.tokens.now c.args.parser.now) (state c.args.tokens.now c.arm-in-loop-alloc.new.parser)) c.from_residual-in_err-push_read-2.result _ c.from_residual-in_err-push_read-2.ensures.1
    (pushed_refused (RefusesArms c.args.at (state c.args.tokens.now c.args.parser.now) (state c.args.tokens.now c.arm-in-loop-alloc.new.parser)) c.arm-in-loop-alloc.result _ c.in_err-push_read-2.ensures
    (on_err c.arm-in-loop-alloc.result c.arm-in-loop-alloc.ensures.refuses (λ fault refuses. next_arm_refused c.args.at _ _ _ _ _ _ fault c.loop-alloc.invariant.reads c.in_ok-take_word.ensures.takes refuses))
    (λ i k never none. absurd none))

pub statements::arms-returns-in_err-push_read-clause-order : goal.statements::arms-returns-in_err-push_read-clause-order
statements::arms-returns-in_err-push_read-clause-order t c =
    handed_on (FirstFault (standing.arms c.args.at) (state c.args.tokens.now c.args.parser.now) (state c.args.tokens.now c.arm.new.parser)) c.from_residual.result _ c.from_residual.ensures.1
    (pushed_refused (FirstFault (standing.arms c.args.at) (state c.args.tokens.now c.args.parser.now) (state c.args.tokens.now c.arm.new.parser)) c.arm.result _ c.in_err-push_read.ensures
    (on_err c.arm.result c.arm.ensures.order (λ fault first start stands. first start (standing.first_arm stands))) (λ start stands. tt))

pub statements::arms-returns-in_err-push_read-2-clause-order : goal.statements::arms-returns-in_err-push_read-2-clause-order
statements::arms-returns-in_err-push_read-2-clause-order t c =
    handed_on (FirstFault (standing.arms c.args.at) (state c.args.tokens.now c.args.parser.now) (state c.args.tokens.now c.arm-in-loop-alloc.new.parser)) c.from_residual-in_err-push_read-2.result _ c.from_residual-in_err-push_read-2.ensures.1
    (pushed_refused (FirstFault (standing.arms c.args.at) (state c.args.tokens.now c.args.parser.now) (state c.args.tokens.now c.arm-in-loop-alloc.new.parser)) c.arm-in-loop-alloc.result _ c.in_err-push_read-2.ensures
    (on_err c.arm-in-loop-alloc.result c.arm-in-loop-alloc.ensures.order (λ fault first start stands. first start (standing.next_arm stands c.loop-alloc.invariant.reads c.in_ok-take_word.ensures.takes)))
    (λ start stands. tt))

pub statements::arms-returns-in_err-take_word-clause-order : goal.statements::arms-returns-in_err-take_word-clause-order
statements::arms-returns-in_err-take_word-clause-order t c =
    handed_on _ c.from_residual-in_err-take_word.result _ c.from_residual-in_err-take_word.ensures.1
    (λ start stands. missing_first _ _ _ _ c.in_err-take_word.ensures.misses start (standing.after_arms stands (c.loop-alloc.invariant.reads 1)))

pub statements::assignment-returns-clause-reads : goal.statements::assignment-returns-clause-reads
statements::assignment-returns-clause-reads t c =
    on_node _ c.assign_node.ensures (assign_after _ _ _ _ _ _ _ _ _ _ c.in_ok-targets.ensures.reads c.in_ok-take_sign.ensures.takes c.in_ok-values.ensures.reads)

pub statements::assignment-returns-in_err-take_sign-clause-refuses : goal.statements::assignment-returns-in_err-take_sign-clause-refuses
statements::assignment-returns-in_err-take_sign-clause-refuses t c =
    let h : IfErr c.from_residual-in_err-take_sign.result (OnAt (Misses (IsKind (Sign sign.Assign)) (state c.args.tokens.now c.targets.new.parser) (state c.args.tokens.now c.take_sign.new.self))) = search rules in
    on_err c.from_residual-in_err-take_sign.result h (λ fault missing.
    assignment_without_assign c.args.at _ _ fault _ _ _ c.in_ok-targets.ensures.reads c.in_ok-targets.ensures.stops missing)

pub statements::assignment-returns-in_err-values-clause-refuses : goal.statements::assignment-returns-in_err-values-clause-refuses
statements::assignment-returns-in_err-values-clause-refuses t c =
    let h : IfErr c.from_residual-in_err-values.result (RefusesValues c.args.at (state c.args.tokens.now c.take_sign.new.self) (state c.args.tokens.now c.values.new.parser)) = search rules in
    on_err c.from_residual-in_err-values.result h (λ fault refuses.
    assigned_refused c.args.at _ _ _ fault _ _ _ _ c.in_ok-targets.ensures.reads c.in_ok-take_sign.ensures.takes refuses)

pub statements::assignment-returns-in_err-targets-clause-order : goal.statements::assignment-returns-in_err-targets-clause-order
statements::assignment-returns-in_err-targets-clause-order t c =
    handed_on _ c.from_residual.result _ c.from_residual.ensures.1
    (λ s read. c.in_err-targets.ensures.order c.args.line s read)

pub statements::assignment-returns-in_err-values-clause-order : goal.statements::assignment-returns-in_err-values-clause-order
statements::assignment-returns-in_err-values-clause-order t c =
    handed_on _ c.from_residual-in_err-values.result _ c.from_residual-in_err-values.ensures.1
    (λ s read start stands. c.in_err-values.ensures.order start (standing.assigned stands (c.in_ok-targets.ensures.reads c.args.line s read).whole c.in_ok-take_sign.ensures.takes))

pub statements::assignment-returns-in_err-take_sign-clause-order : goal.statements::assignment-returns-in_err-take_sign-clause-order
statements::assignment-returns-in_err-take_sign-clause-order t c =
    handed_on _ c.from_residual-in_err-take_sign.result _ c.from_residual-in_err-take_sign.ensures.1
    (λ s read start stands. missing_first _ _ _ _ c.in_err-take_sign.ensures.misses start (standing.after_targets stands (c.in_ok-targets.ensures.reads c.args.line s read).whole))

pub statements::block-loop-statements-init : goal.statements::block-loop-statements-init
statements::block-loop-statements-init t c =
    record {
      forward = search rules;
      reads = stats_none _ _ _ c.new-statements.ensures.items;
    }

pub statements::block-returns-in-Nothing-clause-reads : goal.statements::block-returns-in-Nothing-clause-reads
statements::block-returns-in-Nothing-clause-reads t c =
    block_open _ _ _ _ c.loop-statements.invariant.reads (block_end _ (sym c.begins.ensures ∙ c.in-Nothing.is))

pub statements::block-returns-in-Last-clause-reads : goal.statements::block-returns-in-Last-clause-reads
statements::block-returns-in-Last-clause-reads t c =
    let pushed = c.in_ok-push_read-in-Last.ensures in
    block_last _ _ _ _ _ _ _ _ _ c.loop-statements.invariant.reads (read_by _ _ _ pushed.1 c.last.ensures.reads) c.skip_sign.ensures.skips c.skip_sign.ensures.missing pushed.2

pub statements::block-loop-statements-preserved : goal.statements::block-loop-statements-preserved
statements::block-loop-statements-preserved t c =
    let pushed = c.in_ok-push_read-in_default.ensures in
    let forward = done_by _ _ pushed.1 c.statement.ensures.forward in
    record {
      forward = search rules;
      reads = stats_more _ _ _ _ _ _ _ _ _ c.loop-statements.invariant.reads (read_by _ _ _ pushed.1 c.statement.ensures.reads) c.skip_sign-in_default.ensures.skips c.skip_sign-in_default.ensures.missing pushed.2;
    }

pub statements::block-returns-in_err-push_read-in-Last-clause-refuses : goal.statements::block-returns-in_err-push_read-in-Last-clause-refuses
statements::block-returns-in_err-push_read-in-Last-clause-refuses t c =
    let next = sym c.begins.ensures ∙ c.in-Last.is in
    handed_on (RefusesBlock c.args.at (state c.args.tokens.now c.args.parser.now) (state c.args.tokens.now c.last.new.parser)) c.from_residual.result _ c.from_residual.ensures.1
    (pushed_refused (RefusesBlock c.args.at (state c.args.tokens.now c.args.parser.now) (state c.args.tokens.now c.last.new.parser)) c.last.result _ c.in_err-push_read-in-Last.ensures
    (on_err c.last.result (c.last.ensures.refuses next) (λ fault refuses. last_refused c.args.at _ _ _ _ fault c.loop-statements.invariant.reads next refuses)) (λ k none. absurd none))

pub statements::block-returns-in_err-push_read-in_default-clause-refuses : goal.statements::block-returns-in_err-push_read-in_default-clause-refuses
statements::block-returns-in_err-push_read-in_default-clause-refuses t c =
    let some : IsStatement c.begins.result = is_statement _ c.in_default.not-Last c.in_default.not-Nothing in
    handed_on (RefusesBlock c.args.at (state c.args.tokens.now c.args.parser.now) (state c.args.tokens.now c.statement.new.parser)) c.from_residual-in_err-push_read-in_default.result _ c.from_residual-in_err-push_read-in_default.ensures.1
    (pushed_refused (RefusesBlock c.args.at (state c.args.tokens.now c.args.parser.now) (state c.args.tokens.now c.statement.new.parser)) c.statement.result _ c.in_err-push_read-in_default.ensures
    (on_err c.statement.result (c.statement.ensures.refuses c.begins.ensures some) (λ fault refuses. stat_refused c.args.at _ _ _ _ fault c.loop-statements.invariant.reads (subst IsStatement c.begins.ensures some) refuses))
    (λ k none. absurd none))

pub statements::block-returns-in_err-push_read-in-Last-clause-order : goal.statements::block-returns-in_err-push_read-in-Last-clause-order
statements::block-returns-in_err-push_read-in-Last-clause-order t c =
    handed_on (FirstFault (standing.here standing.block c.args.at) (state c.args.tokens.now c.args.parser.now) (state c.args.tokens.now c.last.new.parser)) c.from_residual.result _ c.from_residual.ensures.1
    (pushed_refused (FirstFault (standing.here standing.block c.args.at) (state c.args.tokens.now c.args.parser.now) (state c.args.tokens.now c.last.new.parser)) c.last.result _ c.in_err-push_read-in-Last.ensures
    (on_err c.last.result c.last.ensures.order (λ fault first start stands. first start (standing.one_of stands c.loop-statements.invariant.reads))) (λ start stands. tt))

pub statements::block-returns-in_err-push_read-in_default-clause-order : goal.statements::block-returns-in_err-push_read-in_default-clause-order
statements::block-returns-in_err-push_read-in_default-clause-order t c =
    handed_on (FirstFault (standing.here standing.block c.args.at) (state c.args.tokens.now c.args.parser.now) (state c.args.tokens.now c.statement.new.parser)) c.from_residual-in_err-push_read-in_default.result _ c.from_residual-in_err-push_read-in_default.ensures.1
    (pushed_refused (FirstFault (standing.here standing.block c.args.at) (state c.args.tokens.now c.args.parser.now) (state c.args.tokens.now c.statement.new.parser)) c.statement.result _ c.in_err-push_read-in_default.ensures
    (on_err c.statement.result c.statement.ensures.order (λ fault first start stands. first start (standing.one_of stands c.loop-statements.invariant.reads))) (λ start stands. tt))

pub statements::body-returns-clause-reads : goal.statements::body-returns-clause-reads
statements::body-returns-clause-reads t c =
    let head = c.in_ok-begun.ensures.reads in
    let done = turned c.args.tokens.now c.take_word.new.self c.end.new.self _ c.end.ensures.index c.end.ensures.line refl in
    on_ok _ c.end.ensures.ends (λ number ends. body_read _ _ _ _ _ _ _ _ _ _ _ _ _ _ _ _ _ _ _ _ head.opens head.reads head.closes head.enters head.left
    c.in_ok-deeper.ensures c.of_function-inner.ensures c.in_ok-block.ensures.reads c.in_ok-take_word.ensures.takes (ends_state c.args.tokens.now c.take_word.new.self c.end.new.self _ _ _ ends) done.left)

pub statements::body-returns-in_err-begun-clause-refuses : goal.statements::body-returns-in_err-begun-clause-refuses
statements::body-returns-in_err-begun-clause-refuses t c =
    handed_on (RefusesBody c.args.at c.args.line c.args.first.items (state c.args.tokens.now c.args.parser.now) (state c.args.tokens.now c.begin.new.parser)) c.from_residual.result _ c.from_residual.ensures.1 (c.in_err-begun.ensures.refuses c.args.at)

pub statements::body-returns-in_err-deeper-clause-refuses : goal.statements::body-returns-in_err-deeper-clause-refuses
statements::body-returns-in_err-deeper-clause-refuses t c =
    let head = c.in_ok-begun.ensures.reads in
    handed_on (RefusesBody c.args.at c.args.line c.args.first.items (state c.args.tokens.now c.args.parser.now) (state c.args.tokens.now c.begin.new.parser)) c.from_residual-in_err-deeper.result _ c.from_residual-in_err-deeper.ensures.1
    (body_too_deep c.args.at c.args.line c.args.first.items _ _ _ _ (begins_body _ _ _ _ _ _ _ _ _ _ _ head.opens head.reads head.closes head.enters head.left) c.in_err-deeper.ensures)

pub statements::body-returns-in_err-block-clause-refuses : goal.statements::body-returns-in_err-block-clause-refuses
statements::body-returns-in_err-block-clause-refuses t c =
    let head = c.in_ok-begun.ensures.reads in
    handed_on (RefusesBody c.args.at c.args.line c.args.first.items (state c.args.tokens.now c.args.parser.now) (state c.args.tokens.now c.block.new.parser)) c.from_residual-in_err-block.result _ c.from_residual-in_err-block.ensures.1
    (body_block_refused c.args.at c.in_ok-deeper.field-0 c.of_function-inner.result c.args.line c.args.first.items _ _ _ _ _ (begins_body _ _ _ _ _ _ _ _ _ _ _ head.opens head.reads head.closes head.enters head.left) c.in_ok-deeper.ensures c.of_function-inner.ensures c.in_err-block.ensures.refuses)

pub statements::body-returns-in_err-take_word-clause-refuses : goal.statements::body-returns-in_err-take_word-clause-refuses
statements::body-returns-in_err-take_word-clause-refuses t c =
    let head = c.in_ok-begun.ensures.reads in
    handed_on (RefusesBody c.args.at c.args.line c.args.first.items (state c.args.tokens.now c.args.parser.now) (state c.args.tokens.now c.take_word.new.self)) c.from_residual-in_err-take_word.result _ c.from_residual-in_err-take_word.ensures.1
    (body_unended c.args.at c.of_function-inner.result c.args.line c.args.first.items _ _ _ _ _ _ _ (begins_body _ _ _ _ _ _ _ _ _ _ _ head.opens head.reads head.closes head.enters head.left) c.in_ok-block.ensures.reads c.in_err-take_word.ensures.misses)

pub statements::body-returns-clause-refuses : goal.statements::body-returns-clause-refuses
statements::body-returns-clause-refuses t c = on_want _ c.end.result (λ k never none. absurd none) (search rules)

pub statements::body-returns-in_err-begun-clause-order : goal.statements::body-returns-in_err-begun-clause-order
statements::body-returns-in_err-begun-clause-order t c =
    handed_on _ c.from_residual.result _ c.from_residual.ensures.1 (c.in_err-begun.ensures.order c.args.at)

pub statements::body-returns-in_err-deeper-clause-order : goal.statements::body-returns-in_err-deeper-clause-order
statements::body-returns-in_err-deeper-clause-order t c =
    let head = c.in_ok-begun.ensures.reads in
    handed_on _ c.from_residual-in_err-deeper.result _ c.from_residual-in_err-deeper.ensures.1
    (λ start stands. function_breaks _ _ _ _ (few_there _ _) c.in_err-deeper.ensures start (function_stands head.enters head.left stands head.opens head.reads head.closes))

pub statements::body-returns-in_err-block-clause-order : goal.statements::body-returns-in_err-block-clause-order
statements::body-returns-in_err-block-clause-order t c =
    let head = c.in_ok-begun.ensures.reads in
    handed_on _ c.from_residual-in_err-block.result _ c.from_residual-in_err-block.ensures.1
    (λ start stands. c.in_err-block.ensures.order start (standing.its_block (function_stands head.enters head.left stands head.opens head.reads head.closes) c.in_ok-deeper.ensures c.of_function-inner.ensures))

pub statements::body-returns-in_err-take_word-clause-order : goal.statements::body-returns-in_err-take_word-clause-order
statements::body-returns-in_err-take_word-clause-order t c =
    let head = c.in_ok-begun.ensures.reads in
    handed_on _ c.from_residual-in_err-take_word.result _ c.from_residual-in_err-take_word.ensures.1
    (λ start stands. missing_first _ _ _ _ c.in_err-take_word.ensures.misses start (standing.after_block (standing.its_block (function_stands head.enters head.left stands head.opens head.reads head.closes) c.in_ok-deeper.ensures c.of_function-inner.ensures) c.in_ok-block.ensures.reads))

pub statements::do_block-returns-clause-reads : goal.statements::do_block-returns-clause-reads
statements::do_block-returns-clause-reads t c =
    on_node _ c.do_node.ensures (λ out is. do_read _ _ _ _ _ _ _ _ _ c.in_ok-line.ensures.takes c.in_ok-body.ensures.reads c.in_ok-take_word.ensures.takes is)

pub statements::do_block-returns-in_err-line-clause-refuses : goal.statements::do_block-returns-in_err-line-clause-refuses
statements::do_block-returns-in_err-line-clause-refuses t c = λ next.
    let h : IfErr c.from_residual.result (OnAt (Misses (IsKind (Word word.Do)) (state c.args.tokens.now c.args.parser.now) (state c.args.tokens.now c.take_word.new.self))) = search rules in
    on_err c.from_residual.result h (λ fault missed k never suppose. never_missed_ahead fault _ (token (statement k)) (IsKind (Word word.Do)) _ _ missed suppose (λ is. cc) next)

pub statements::do_block-returns-in_err-body-clause-refuses : goal.statements::do_block-returns-in_err-body-clause-refuses
statements::do_block-returns-in_err-body-clause-refuses t c = λ next.
    let h : IfErr c.from_residual-in_err-body.result (RefusesScoped c.args.at (state c.args.tokens.now c.take_word.new.self) (state c.args.tokens.now c.scoped.new.parser)) = search rules in
    on_err c.from_residual-in_err-body.result h (λ fault refuses. do_refused c.args.at _ _ _ _ fault c.in_ok-line.ensures.takes refuses)

pub statements::do_block-returns-in_err-take_word-clause-refuses : goal.statements::do_block-returns-in_err-take_word-clause-refuses
statements::do_block-returns-in_err-take_word-clause-refuses t c = λ next.
    let h : IfErr c.from_residual-in_err-take_word.result (OnAt (Misses (IsKind (Word word.End)) (state c.args.tokens.now c.scoped.new.parser) (state c.args.tokens.now c.take_word-2.new.self))) = search rules in
    on_err c.from_residual-in_err-take_word.result h (λ fault missed. do_end_refused c.args.at _ _ _ _ _ _ fault c.in_ok-line.ensures.takes c.in_ok-body.ensures.reads missed)

pub statements::do_block-returns-clause-refuses : goal.statements::do_block-returns-clause-refuses
statements::do_block-returns-clause-refuses t c = λ next. on_memory _ _ c.do_node.result (λ k never none. absurd none) c.do_node.ensures

pub statements::do_block-returns-in_err-body-clause-order : goal.statements::do_block-returns-in_err-body-clause-order
statements::do_block-returns-in_err-body-clause-order t c =
    handed_on _ c.from_residual-in_err-body.result _ c.from_residual-in_err-body.ensures.1
    (λ start stands. c.in_err-body.ensures.order start (standing.do_block stands c.in_ok-line.ensures.takes))

pub statements::do_block-returns-in_err-line-clause-order : goal.statements::do_block-returns-in_err-line-clause-order
statements::do_block-returns-in_err-line-clause-order t c =
    handed_on _ c.from_residual.result _ c.from_residual.ensures.1
    (λ start stands. missing_first _ _ _ _ c.in_err-line.ensures.misses start (standing.before_it stands))

pub statements::do_block-returns-in_err-take_word-clause-order : goal.statements::do_block-returns-in_err-take_word-clause-order
statements::do_block-returns-in_err-take_word-clause-order t c =
    handed_on _ c.from_residual-in_err-take_word.result _ c.from_residual-in_err-take_word.ensures.1
    (λ start stands. missing_first _ _ _ _ c.in_err-take_word.ensures.misses start (standing.after_inner_block (standing.do_block stands c.in_ok-line.ensures.takes) c.in_ok-body.ensures.reads))

pub loops::for_loop-returns-clause-reads : goal.loops::for_loop-returns-clause-reads
loops::for_loop-returns-clause-reads t c =
    on_ok _ c.list_loop.ensures.reads (λ out reads. for_read _ _ _ _ _ _ _ _ c.in_ok-line.ensures.takes c.in_ok-names.ensures.reads reads)

pub loops::for_loop-returns-then-at_sign-clause-reads : goal.loops::for_loop-returns-then-at_sign-clause-reads
loops::for_loop-returns-then-at_sign-clause-reads t c =
    on_ok _ c.range_loop.ensures.reads (λ out reads. for_read _ _ _ _ _ _ _ _ c.in_ok-line.ensures.takes c.in_ok-names.ensures.reads reads)

pub loops::for_loop-returns-in_err-names-clause-refuses : goal.loops::for_loop-returns-in_err-names-clause-refuses
loops::for_loop-returns-in_err-names-clause-refuses t c = λ next.
    let h : IfErr c.from_residual-in_err-names.result (RefusesNames c.in_scope-count.result (state c.args.tokens.now c.take_word.new.self) (state c.args.tokens.now c.names.new.self)) = search rules in
    on_err c.from_residual-in_err-names.result h (λ fault refuses.
    for_names_refused c.args.at _ c.in_scope-count.result fault _ _ _ _ _ (innermost c.args.tokens.now c.args.parser.now) c.in_ok-line.ensures.takes
    (slot_state c.args.tokens.now c.take_word.new.self _ c.in_scope-count.ensures.value) refuses)

pub loops::for_loop-returns-then-at_sign-clause-refuses : goal.loops::for_loop-returns-then-at_sign-clause-refuses
loops::for_loop-returns-then-at_sign-clause-refuses t c = λ next.
    let assign : IsNext (Sign sign.Assign) (state c.args.tokens.now c.names.new.self) = search rules in
    on_err c.range_loop.result (c.range_loop.ensures.refuses assign) (λ fault refuses.
    for_tail_refused c.args.at _ _ fault _ _ _ _ c.in_ok-line.ensures.takes c.in_ok-names.ensures.reads c.in_ok-names.ensures.stops refuses)

pub loops::for_loop-returns-clause-refuses : goal.loops::for_loop-returns-clause-refuses
loops::for_loop-returns-clause-refuses t c = λ next.
    let other : IsNext (Sign sign.Assign) (state c.args.tokens.now c.names.new.self) → ⊥ = search rules in
    on_err c.list_loop.result (c.list_loop.ensures.refuses other) (λ fault refuses.
    for_tail_refused c.args.at _ _ fault _ _ _ _ c.in_ok-line.ensures.takes c.in_ok-names.ensures.reads c.in_ok-names.ensures.stops refuses)

pub loops::for_loop-returns-in_err-names-clause-order : goal.loops::for_loop-returns-in_err-names-clause-order
loops::for_loop-returns-in_err-names-clause-order t c =
    handed_on _ c.from_residual-in_err-names.result _ c.from_residual-in_err-names.ensures.1
    (λ start stands. c.in_err-names.ensures.order start (subst (λ n. standing.Stands start (standing.names n) (state c.args.tokens.now c.take_word.new.self)) (sym (slot_state c.args.tokens.now c.take_word.new.self _ c.in_scope-count.ensures.value)) (standing.for_names stands c.in_ok-line.ensures.takes)))

pub loops::for_loop-returns-then-at_sign-clause-order : goal.loops::for_loop-returns-then-at_sign-clause-order
loops::for_loop-returns-then-at_sign-clause-order t c =
    let many : c.in_scope-count.result + length c.in_ok-names.names.items ≤ 200 = search (rules, arith) in
    let few = few_after c.in_scope-count.result _ _ _ _ (slot_state c.args.tokens.now c.take_word.new.self _ c.in_scope-count.ensures.value) c.in_ok-names.ensures.reads many in
    on_err c.range_loop.result (c.range_loop.ensures.order few) (λ fault breaks start stands. breaks start (standing.after_names stands c.in_ok-line.ensures.takes c.in_ok-names.ensures.reads few))

pub loops::for_loop-returns-clause-order : goal.loops::for_loop-returns-clause-order
loops::for_loop-returns-clause-order t c =
    let many : c.in_scope-count.result + length c.in_ok-names.names.items ≤ 200 = search (rules, arith) in
    let few = few_after c.in_scope-count.result _ _ _ _ (slot_state c.args.tokens.now c.take_word.new.self _ c.in_scope-count.ensures.value) c.in_ok-names.ensures.reads many in
    on_err c.list_loop.result (c.list_loop.ensures.order few) (λ fault breaks start stands. breaks start (standing.after_names stands c.in_ok-line.ensures.takes c.in_ok-names.ensures.reads few))

pub loops::for_loop-returns-in_err-line-clause-order : goal.loops::for_loop-returns-in_err-line-clause-order
loops::for_loop-returns-in_err-line-clause-order t c =
    handed_on _ c.from_residual.result _ c.from_residual.ensures.1
    (λ start stands. missing_first _ _ _ _ c.in_err-line.ensures.misses start (standing.before_it stands))

pub statements::function_statement-returns-clause-reads : goal.statements::function_statement-returns-clause-reads
statements::function_statement-returns-clause-reads t c =
    let both = c.in_ok-name-2.ensures in
    let number = read_by _ _ _ both.1 c.body-number.ensures.reads in
    on_node _ c.define.ensures (λ out is. function_read _ _ _ _ _ _ _ _ _ c.in_ok-line.ensures.takes c.in_ok-name.ensures.reads (rw c.new.ensures.items at number)
    (subst (λ name. Defines c.in_ok-line.line name.target c.in_ok-name-2.number out) both.0 is))

pub statements::function_statement-returns-then-at_sign-clause-reads : goal.statements::function_statement-returns-then-at_sign-clause-reads
statements::function_statement-returns-then-at_sign-clause-reads t c =
    on_ok _ c.method_statement.ensures.reads (λ out reads. function_from _ _ _ _ _ _ c.in_ok-line.ensures.takes (reads _ c.in_ok-name.ensures.reads))

pub statements::function_statement-returns-in_err-line-clause-refuses : goal.statements::function_statement-returns-in_err-line-clause-refuses
statements::function_statement-returns-in_err-line-clause-refuses t c = λ next.
    let h : IfErr c.from_residual.result (OnAt (Misses (IsKind (Word word.Function)) (state c.args.tokens.now c.args.parser.now) (state c.args.tokens.now c.take_word.new.self))) = search rules in
    on_err c.from_residual.result h (λ fault missed. function_word c.args.at fault _ _ next missed)

pub statements::function_statement-returns-in_err-name-clause-refuses : goal.statements::function_statement-returns-in_err-name-clause-refuses
statements::function_statement-returns-in_err-name-clause-refuses t c = λ next.
    let h : IfErr c.from_residual-in_err-name.result (RefusesFuncName c.args.at (state c.args.tokens.now c.take_word.new.self) (state c.args.tokens.now c.function_name.new.self)) = search rules in
    on_err c.from_residual-in_err-name.result h (λ fault refuses. function_name_refused c.args.at fault _ _ _ _ c.in_ok-line.ensures.takes refuses)

pub statements::function_statement-returns-then-at_sign-clause-refuses : goal.statements::function_statement-returns-then-at_sign-clause-refuses
statements::function_statement-returns-then-at_sign-clause-refuses t c = λ next.
    on_err c.method_statement.result (c.method_statement.ensures.refuses (c.at_sign.ensures.0 c.if-at_sign.true)) (λ fault refuses.
    method_statement_refused c.args.at fault _ _ _ _ _ c.in_ok-name.name c.in_ok-line.ensures.takes c.in_ok-name.ensures.reads c.in_ok-name.ensures.stops refuses)

pub statements::function_statement-returns-in_err-name-2-clause-refuses : goal.statements::function_statement-returns-in_err-name-2-clause-refuses
statements::function_statement-returns-in_err-name-2-clause-refuses t c = λ next.
    handed_on (RefusesStat c.args.at (state c.args.tokens.now c.args.parser.now) (state c.args.tokens.now c.body-number.new.parser)) c.from_residual-in_err-name-2.result _ c.from_residual-in_err-name-2.ensures.1
    (function_body_refused c.args.at c.new.result.items _ _ _ _ _ _ c.in_ok-name.name c.in_ok-line.ensures.takes c.in_ok-name.ensures.reads c.in_ok-name.ensures.stops (untested _ _ c.if-at_sign.false c.at_sign.ensures) c.new.ensures.items (refused_by _ _ _ c.in_err-name-2.ensures c.body-number.ensures.refuses))

pub statements::function_statement-returns-clause-refuses : goal.statements::function_statement-returns-clause-refuses
statements::function_statement-returns-clause-refuses t c = λ next. on_memory _ _ c.define.result (λ k never none. absurd none) c.define.ensures

pub statements::function_statement-returns-clause-forward : goal.statements::function_statement-returns-clause-forward
statements::function_statement-returns-clause-forward t c = on_done c.define.result (advances_on _ _ _ _ c.in_ok-line.ensures.forward (advances_on _ _ _ _ c.in_ok-name.ensures.forward (done_by _ _ c.in_ok-name-2.ensures.1 c.body-number.ensures.forward)))

pub statements::function_statement-returns-in_err-name-clause-order : goal.statements::function_statement-returns-in_err-name-clause-order
statements::function_statement-returns-in_err-name-clause-order t c =
    handed_on _ c.from_residual-in_err-name.result _ c.from_residual-in_err-name.ensures.1
    (λ start stands. c.in_err-name.ensures.order start (standing.named stands c.in_ok-line.ensures.takes))

pub statements::function_statement-returns-then-at_sign-clause-order : goal.statements::function_statement-returns-then-at_sign-clause-order
statements::function_statement-returns-then-at_sign-clause-order t c =
    on_err c.method_statement.result c.method_statement.ensures.order (λ fault breaks start stands. breaks start (standing.after_name stands c.in_ok-line.ensures.takes c.in_ok-name.ensures.reads))

pub statements::function_statement-returns-in_err-name-2-clause-order : goal.statements::function_statement-returns-in_err-name-2-clause-order
statements::function_statement-returns-in_err-name-2-clause-order t c =
    handed_on _ c.from_residual-in_err-name-2.result _ c.from_residual-in_err-name-2.ensures.1
    (λ start stands. refused_by _ _ _ c.in_err-name-2.ensures c.body-number.ensures.order start (subst (λ first. standing.Stands start (standing.body c.args.at first) (state c.args.tokens.now c.function_name.new.self)) (sym c.new.ensures.items) (standing.named_body (standing.after_name stands c.in_ok-line.ensures.takes c.in_ok-name.ensures.reads))))

pub statements::function_statement-returns-in_err-line-clause-order : goal.statements::function_statement-returns-in_err-line-clause-order
statements::function_statement-returns-in_err-line-clause-order t c =
    handed_on _ c.from_residual.result _ c.from_residual.ensures.1
    (λ start stands. missing_first _ _ _ _ c.in_err-line.ensures.misses start (standing.before_it stands))

pub statements::if_statement-returns-clause-reads : goal.statements::if_statement-returns-clause-reads
statements::if_statement-returns-clause-reads t c =
    on_node _ c.if_node.ensures (λ out is. if_read _ _ _ _ _ _ _ _ _ _ c.in_ok-line.ensures.takes c.in_ok-arms.ensures.reads c.in_ok-take_word.ensures.takes c.new.ensures.items is)

pub statements::if_statement-returns-then-at_word-clause-reads : goal.statements::if_statement-returns-then-at_word-clause-reads
statements::if_statement-returns-then-at_word-clause-reads t c =
    let after : AfterArms c.args.at c.in_ok-line.line c.in_ok-arms.arms.items (state c.args.tokens.now c.args.parser.now) (state c.args.tokens.now c.arms.new.parser) =
    record { inside = (state c.args.tokens.now c.take_word.new.self); taken = c.in_ok-line.ensures.takes; reads = c.in_ok-arms.ensures.reads } in
    let on : (out : Stmt) → ((s : State) → AfterArms c.args.at c.in_ok-line.line c.in_ok-arms.arms.items s (state c.args.tokens.now c.arms.new.parser) → ReadsStat c.args.at s out (state c.args.tokens.now c.else_statement.new.parser)) →
    ReadsStat c.args.at (state c.args.tokens.now c.args.parser.now) out (state c.args.tokens.now c.else_statement.new.parser) = λ out reads. reads _ after in
    on_ok c.else_statement.result c.else_statement.ensures.reads on

pub statements::if_statement-returns-in_err-line-clause-refuses : goal.statements::if_statement-returns-in_err-line-clause-refuses
statements::if_statement-returns-in_err-line-clause-refuses t c = λ next.
    let h : IfErr c.from_residual.result (OnAt (Misses (IsKind (Word word.If)) (state c.args.tokens.now c.args.parser.now) (state c.args.tokens.now c.take_word.new.self))) = search rules in
    on_err c.from_residual.result h (λ fault missed k never suppose. never_missed_ahead fault _ (token (statement k)) (IsKind (Word word.If)) _ _ missed suppose (λ is. cc) next)

pub statements::if_statement-returns-in_err-arms-clause-refuses : goal.statements::if_statement-returns-in_err-arms-clause-refuses
statements::if_statement-returns-in_err-arms-clause-refuses t c = λ next.
    let h : IfErr c.from_residual-in_err-arms.result (RefusesArms c.args.at (state c.args.tokens.now c.take_word.new.self) (state c.args.tokens.now c.arms.new.parser)) = search rules in
    on_err c.from_residual-in_err-arms.result h (λ fault refuses. arms_refused c.args.at _ _ _ _ fault c.in_ok-line.ensures.takes refuses)

pub statements::if_statement-returns-in_err-take_word-clause-refuses : goal.statements::if_statement-returns-in_err-take_word-clause-refuses
statements::if_statement-returns-in_err-take_word-clause-refuses t c = λ next.
    let h : IfErr c.from_residual-in_err-take_word.result (OnAt (Misses (IsKind (Word word.End)) (state c.args.tokens.now c.arms.new.parser) (state c.args.tokens.now c.take_word-2.new.self))) = search rules in
    on_err c.from_residual-in_err-take_word.result h (λ fault missed. end_refused c.args.at _ _ _ _ _ _ fault c.in_ok-line.ensures.takes c.in_ok-arms.ensures.reads c.in_ok-arms.ensures.stops (untested _ _ c.if-at_word.false c.at_word.ensures) missed)

pub statements::if_statement-returns-clause-refuses : goal.statements::if_statement-returns-clause-refuses
statements::if_statement-returns-clause-refuses t c = λ next. on_memory _ _ c.if_node.result (λ k never none. absurd none) c.if_node.ensures

pub statements::if_statement-returns-then-at_word-clause-refuses : goal.statements::if_statement-returns-then-at_word-clause-refuses
statements::if_statement-returns-then-at_word-clause-refuses t c = λ next.
    let after : AfterArms c.args.at c.in_ok-line.line c.in_ok-arms.arms.items (state c.args.tokens.now c.args.parser.now) (state c.args.tokens.now c.arms.new.parser) =
    record { inside = (state c.args.tokens.now c.take_word.new.self); taken = c.in_ok-line.ensures.takes; reads = c.in_ok-arms.ensures.reads } in
    on_err c.else_statement.result (c.else_statement.ensures.refuses (c.at_word.ensures.0 c.if-at_word.true)) (λ fault refuses. refuses _ after)

pub statements::if_statement-returns-then-at_word-clause-order : goal.statements::if_statement-returns-then-at_word-clause-order
statements::if_statement-returns-then-at_word-clause-order t c =
    let after : AfterArms c.args.at c.in_ok-line.line c.in_ok-arms.arms.items (state c.args.tokens.now c.args.parser.now) (state c.args.tokens.now c.arms.new.parser) =
    record { inside = (state c.args.tokens.now c.take_word.new.self); taken = c.in_ok-line.ensures.takes; reads = c.in_ok-arms.ensures.reads } in
    on_err c.else_statement.result c.else_statement.ensures.order (λ fault breaks. breaks _ after)

pub statements::else_statement-returns-clause-reads : goal.statements::else_statement-returns-clause-reads
statements::else_statement-returns-clause-reads t c =
    let on : (out : Stmt) → IsIf c.args.line c.args.arms.items c.in_ok-otherwise.otherwise.items out → (s : State) → AfterArms c.args.at c.args.line c.args.arms.items s (state c.args.tokens.now c.args.parser.now) →
    ReadsStat c.args.at s out (state c.args.tokens.now c.take_word-2.new.self) =
    λ out is s after. if_else_read _ _ _ _ _ _ _ _ _ _ _ _ _ after.taken after.reads c.in_ok-take_word.ensures.takes c.in_ok-otherwise.ensures.reads c.in_ok-take_word-2.ensures.takes is in
    on_node c.if_node.result c.if_node.ensures on

pub statements::else_statement-returns-in_err-take_word-clause-refuses : goal.statements::else_statement-returns-in_err-take_word-clause-refuses
statements::else_statement-returns-in_err-take_word-clause-refuses t c = λ next.
    handed_on (RefusesElse c.args.at c.args.line c.args.arms.items (state c.args.tokens.now c.args.parser.now) (state c.args.tokens.now c.take_word.new.self)) c.from_residual.result _ c.from_residual.ensures.1
    (never_there (IsKind (Word word.Else)) (RefusesElse c.args.at c.args.line c.args.arms.items (state c.args.tokens.now c.args.parser.now) (state c.args.tokens.now c.take_word.new.self)) _ _ _ c.in_err-take_word.ensures.misses next (λ s after k never none. absurd none))

pub statements::else_statement-returns-in_err-otherwise-clause-refuses : goal.statements::else_statement-returns-in_err-otherwise-clause-refuses
statements::else_statement-returns-in_err-otherwise-clause-refuses t c = λ next.
    handed_on (RefusesElse c.args.at c.args.line c.args.arms.items (state c.args.tokens.now c.args.parser.now) (state c.args.tokens.now c.scoped.new.parser)) c.from_residual-in_err-otherwise.result _ c.from_residual-in_err-otherwise.ensures.1
    (λ s after. else_refused c.args.at _ _ _ _ _ _ _ _ _ after.taken after.reads c.in_ok-take_word.ensures.takes c.in_err-otherwise.ensures.refuses)

pub statements::else_statement-returns-in_err-take_word-2-clause-refuses : goal.statements::else_statement-returns-in_err-take_word-2-clause-refuses
statements::else_statement-returns-in_err-take_word-2-clause-refuses t c = λ next.
    handed_on (RefusesElse c.args.at c.args.line c.args.arms.items (state c.args.tokens.now c.args.parser.now) (state c.args.tokens.now c.take_word-2.new.self)) c.from_residual-in_err-take_word-2.result _ c.from_residual-in_err-take_word-2.ensures.1
    (λ s after. else_end_refused c.args.at _ _ _ _ _ _ _ _ _ _ _ after.taken after.reads c.in_ok-take_word.ensures.takes c.in_ok-otherwise.ensures.reads c.in_err-take_word-2.ensures.misses)

pub statements::else_statement-returns-clause-refuses : goal.statements::else_statement-returns-clause-refuses
statements::else_statement-returns-clause-refuses t c = λ next. on_memory _ _ c.if_node.result (λ s after k never none. absurd none) c.if_node.ensures

pub statements::else_statement-returns-in_err-take_word-clause-order : goal.statements::else_statement-returns-in_err-take_word-clause-order
statements::else_statement-returns-in_err-take_word-clause-order t c =
    handed_on _ c.from_residual.result _ c.from_residual.ensures.1
    (λ s after start stands. missing_first _ _ _ _ c.in_err-take_word.ensures.misses start (standing.after_arms (standing.if_arms stands after.taken) (after.reads 1)))

pub statements::else_statement-returns-in_err-otherwise-clause-order : goal.statements::else_statement-returns-in_err-otherwise-clause-order
statements::else_statement-returns-in_err-otherwise-clause-order t c =
    handed_on _ c.from_residual-in_err-otherwise.result _ c.from_residual-in_err-otherwise.ensures.1
    (λ s after start stands. c.in_err-otherwise.ensures.order start (standing.else_block stands after.taken after.reads c.in_ok-take_word.ensures.takes))

pub statements::else_statement-returns-in_err-take_word-2-clause-order : goal.statements::else_statement-returns-in_err-take_word-2-clause-order
statements::else_statement-returns-in_err-take_word-2-clause-order t c =
    handed_on _ c.from_residual-in_err-take_word-2.result _ c.from_residual-in_err-take_word-2.ensures.1
    (λ s after start stands. missing_first _ _ _ _ c.in_err-take_word-2.ensures.misses start
    (standing.after_inner_block (standing.else_block stands after.taken after.reads c.in_ok-take_word.ensures.takes) c.in_ok-otherwise.ensures.reads))

pub statements::else_statement-returns-clause-order : goal.statements::else_statement-returns-clause-order
statements::else_statement-returns-clause-order t c = on_memory _ _ c.if_node.result (λ s after start stands. tt) c.if_node.ensures

pub statements::if_statement-returns-in_err-arms-clause-order : goal.statements::if_statement-returns-in_err-arms-clause-order
statements::if_statement-returns-in_err-arms-clause-order t c =
    handed_on _ c.from_residual-in_err-arms.result _ c.from_residual-in_err-arms.ensures.1
    (λ start stands. c.in_err-arms.ensures.order start (standing.if_arms stands c.in_ok-line.ensures.takes))

pub statements::if_statement-returns-in_err-line-clause-order : goal.statements::if_statement-returns-in_err-line-clause-order
statements::if_statement-returns-in_err-line-clause-order t c =
    handed_on _ c.from_residual.result _ c.from_residual.ensures.1
    (λ start stands. missing_first _ _ _ _ c.in_err-line.ensures.misses start (standing.before_it stands))

pub statements::if_statement-returns-in_err-take_word-clause-order : goal.statements::if_statement-returns-in_err-take_word-clause-order
statements::if_statement-returns-in_err-take_word-clause-order t c =
    handed_on _ c.from_residual-in_err-take_word.result _ c.from_residual-in_err-take_word.ensures.1
    (λ start stands. missing_first _ _ _ _ c.in_err-take_word.ensures.misses start (standing.after_arms (standing.if_arms stands c.in_ok-line.ensures.takes) (c.in_ok-arms.ensures.reads 1)))

pub statements::initial-returns-clause-reads : goal.statements::initial-returns-clause-reads
statements::initial-returns-clause-reads t c =
    (c.in_ok-take_sign.field-0, state c.args.tokens.now c.take_sign.new.self, c.in_ok-take_sign.ensures.takes, c.in_ok-values.ensures.reads)

pub statements::initial-returns-in_err-values-clause-refuses : goal.statements::initial-returns-in_err-values-clause-refuses
statements::initial-returns-in_err-values-clause-refuses t c =
    let h : IfErr c.from_residual-in_err-values.result (RefusesValues c.args.at (state c.args.tokens.now c.take_sign.new.self) (state c.args.tokens.now c.values.new.parser)) = search rules in
    on_err c.from_residual-in_err-values.result h (λ fault refuses. initial_refused c.args.at fault _ _ _ _ c.in_ok-take_sign.ensures.takes refuses)

pub statements::initial-returns-in_err-values-clause-order : goal.statements::initial-returns-in_err-values-clause-order
statements::initial-returns-in_err-values-clause-order t c =
    handed_on _ c.from_residual-in_err-values.result _ c.from_residual-in_err-values.ensures.1
    (λ start stands. c.in_err-values.ensures.order start (standing.initial_values stands c.in_ok-take_sign.ensures.takes))

pub statements::initial-returns-in_err-take_sign-clause-order : goal.statements::initial-returns-in_err-take_sign-clause-order
statements::initial-returns-in_err-take_sign-clause-order t c =
    handed_on _ c.from_residual.result _ c.from_residual.ensures.1
    (λ start stands. missing_first _ _ _ _ c.in_err-take_sign.ensures.misses start (standing.before_it stands))

pub statements::last-returns-clause-reads : goal.statements::last-returns-clause-reads
statements::last-returns-clause-reads t c =
    on_node _ c.returned-2.ensures (λ out is. return_read _ _ _ _ _ _ _ c.in_ok-line.ensures.takes c.in_ok-values.ensures.reads is)

pub statements::last-returns-then-eq-clause-reads : goal.statements::last-returns-then-eq-clause-reads
statements::last-returns-then-eq-clause-reads t c =
    on_node _ c.returned.ensures (λ out is. return_none_read _ _ _ _ _ _ c.in_ok-line.ensures.takes c.new.ensures.items (elim c.then-eq.branch [
      | statements::last-then-eq-via-then-eq w ↦ nothing_returned _ (sym c.begins.ensures ∙ search (rules, w.if-eq.true))
      | statements::last-then-eq-via-else-eq+then-at_sign w ↦ semicolon_next _ (w.at_sign.ensures.0 w.if-at_sign.true)
    ]) is)

pub statements::last-returns-in_err-values-clause-refuses : goal.statements::last-returns-in_err-values-clause-refuses
statements::last-returns-in_err-values-clause-refuses t c = λ is.
    let next = values_next (state c.args.tokens.now c.take_word.new.self).left (λ none. let same : c.begins.result ≡ begins.Nothing = c.begins.ensures ∙ none in let e : false ≡ true = sym c.if-eq.false ∙ c.eq.ensures ∙ (rw same refl) in cc) (untested _ _ c.if-at_sign.false c.at_sign.ensures) in
    let h : IfErr c.from_residual-in_err-values.result (RefusesValues c.args.at (state c.args.tokens.now c.take_word.new.self) (state c.args.tokens.now c.values.new.parser)) = search rules in
    on_err c.from_residual-in_err-values.result h (λ fault refuses. returned_refused c.args.at _ _ _ _ fault c.in_ok-line.ensures.takes next refuses)

pub statements::last-returns-in_err-line-clause-refuses : goal.statements::last-returns-in_err-line-clause-refuses
statements::last-returns-in_err-line-clause-refuses t c = λ is.
    let next = return_next (state c.args.tokens.now c.args.parser.now).left is (untested _ _ c.if-at_word.false c.at_word.ensures) in
    let h : IfErr c.from_residual.result (OnAt (Misses (IsKind (Word word.Return)) (state c.args.tokens.now c.args.parser.now) (state c.args.tokens.now c.take_word.new.self))) = search rules in
    on_err c.from_residual.result h (λ fault missed k suppose. never_missed fault _ (token (last k)) (IsKind (Word word.Return)) _ _ missed suppose next)

pub statements::last-returns-then-at_word-clause-refuses : goal.statements::last-returns-then-at_word-clause-refuses
statements::last-returns-then-at_word-clause-refuses t c = λ is. c.break_statement.ensures.refuses (c.at_word.ensures.0 c.if-at_word.true)

pub statements::last-returns-then-eq-clause-refuses : goal.statements::last-returns-then-eq-clause-refuses
statements::last-returns-then-eq-clause-refuses t c = λ is. on_memory _ _ c.returned.result (λ k none. absurd none) c.returned.ensures

pub statements::last-returns-clause-refuses : goal.statements::last-returns-clause-refuses
statements::last-returns-clause-refuses t c = λ is. on_memory _ _ c.returned-2.result (λ k none. absurd none) c.returned-2.ensures

pub statements::last-returns-in_err-values-clause-order : goal.statements::last-returns-in_err-values-clause-order
statements::last-returns-in_err-values-clause-order t c =
    let no_end : begins_of (ahead (state c.args.tokens.now c.take_word.new.self)) ≡ begins.Nothing → ⊥ =
    λ none. let same : c.begins.result ≡ begins.Nothing = c.begins.ensures ∙ none in let e : false ≡ true = sym c.if-eq.false ∙ c.eq.ensures ∙ (rw same refl) in cc in
    handed_on _ c.from_residual-in_err-values.result _ c.from_residual-in_err-values.ensures.1
    (λ start stands. c.in_err-values.ensures.order start (standing.returned stands c.in_ok-line.ensures.takes (record { no_end = no_end; no_semicolon = untested _ _ c.if-at_sign.false c.at_sign.ensures })))

pub statements::last-returns-in_err-line-clause-order : goal.statements::last-returns-in_err-line-clause-order
statements::last-returns-in_err-line-clause-order t c =
    handed_on _ c.from_residual.result _ c.from_residual.ensures.1
    (λ start stands. missing_first _ _ _ _ c.in_err-line.ensures.misses start (standing.before_it stands))

pub loops::list_loop-returns-clause-reads : goal.loops::list_loop-returns-clause-reads
loops::list_loop-returns-clause-reads t c =
    on_node _ c.generic_for.ensures (list_read _ _ _ _ _ _ _ _ _ _ c.in_ok-take_word.ensures.takes c.in_ok-values.ensures.reads c.in_ok-block.ensures.reads)

pub loops::list_loop-returns-in_err-take_word-clause-refuses : goal.loops::list_loop-returns-in_err-take_word-clause-refuses
loops::list_loop-returns-in_err-take_word-clause-refuses t c = λ other.
    let h : IfErr c.from_residual.result (OnAt (Misses (IsKind (Word word.In)) (state c.args.tokens.now c.args.parser.now) (state c.args.tokens.now c.take_word.new.self))) = search rules in
    on_err c.from_residual.result h (λ fault refuses. list_without_in c.args.at c.args.names.items fault _ _ other refuses)

pub loops::list_loop-returns-in_err-values-clause-refuses : goal.loops::list_loop-returns-in_err-values-clause-refuses
loops::list_loop-returns-in_err-values-clause-refuses t c = λ other.
    let h : IfErr c.from_residual-in_err-values.result (RefusesValues c.args.at (state c.args.tokens.now c.take_word.new.self) (state c.args.tokens.now c.values.new.parser)) = search rules in
    on_err c.from_residual-in_err-values.result h (λ fault refuses. list_refused c.args.at c.args.names.items _ fault _ _ _ c.in_ok-take_word.ensures.takes refuses)

pub loops::list_loop-returns-in_err-block-clause-refuses : goal.loops::list_loop-returns-in_err-block-clause-refuses
loops::list_loop-returns-in_err-block-clause-refuses t c = λ other.
    let h : IfErr c.from_residual-in_err-block.result (RefusesLoop c.args.at c.args.names.items (state c.args.tokens.now c.values.new.parser) (state c.args.tokens.now c.loop_block.new.parser)) = search rules in
    on_err c.from_residual-in_err-block.result h (λ fault refuses. list_block_refused c.args.at c.args.names.items _ fault _ _ _ _ _ c.in_ok-take_word.ensures.takes c.in_ok-values.ensures.reads refuses)

pub loops::list_loop-returns-in_err-values-clause-order : goal.loops::list_loop-returns-in_err-values-clause-order
loops::list_loop-returns-in_err-values-clause-order t c =
    λ few. handed_on _ c.from_residual-in_err-values.result _ c.from_residual-in_err-values.ensures.1
    (λ start stands. c.in_err-values.ensures.order start (standing.for_values stands c.in_ok-take_word.ensures.takes))

pub loops::list_loop-returns-in_err-block-clause-order : goal.loops::list_loop-returns-in_err-block-clause-order
loops::list_loop-returns-in_err-block-clause-order t c =
    λ few. handed_on _ c.from_residual-in_err-block.result _ c.from_residual-in_err-block.ensures.1
    (λ start stands. c.in_err-block.ensures.order (few_in_list c.args.at _ _ _ _ _ _ _ few c.in_ok-take_word.ensures.takes c.in_ok-values.ensures.reads) start (standing.for_list stands c.in_ok-take_word.ensures.takes c.in_ok-values.ensures.reads))

pub loops::list_loop-returns-in_err-take_word-clause-order : goal.loops::list_loop-returns-in_err-take_word-clause-order
loops::list_loop-returns-in_err-take_word-clause-order t c =
    λ few. handed_on _ c.from_residual.result _ c.from_residual.ensures.1
    (λ start stands. missing_first _ _ _ _ c.in_err-take_word.ensures.misses start (standing.before_it stands))

pub statements::local_function-returns-clause-reads : goal.statements::local_function-returns-clause-reads
statements::local_function-returns-clause-reads t c =
    local_function_read _ _ _ _ _ _ _ _ _ _ _ _ _ c.in_ok-begins.ensures.takes c.in_ok-named.ensures.takes (declared c.args.tokens.now c.take_name.new.self c.local.new.self _ c.in_ok-slot.ensures.scope c.in_ok-slot.ensures.index c.in_ok-slot.ensures.line)
    (rw c.new.ensures.items at c.in_ok-number.ensures.reads) (slot_state c.args.tokens.now c.take_name.new.self _ c.in_ok-slot.ensures.slot) refl

pub statements::local_function-returns-in_err-begins-clause-refuses : goal.statements::local_function-returns-in_err-begins-clause-refuses
statements::local_function-returns-in_err-begins-clause-refuses t c = λ next.
    let h : IfErr c.from_residual.result (OnAt (Misses (IsKind (Word word.Function)) (state c.args.tokens.now c.args.parser.now) (state c.args.tokens.now c.take_word.new.self))) = search rules in
    on_err c.from_residual.result h (λ fault missed. local_function_word c.args.at fault _ _ next missed)

pub statements::local_function-returns-in_err-named-clause-refuses : goal.statements::local_function-returns-in_err-named-clause-refuses
statements::local_function-returns-in_err-named-clause-refuses t c = λ next.
    let h : IfErr c.from_residual-in_err-named.result (OnAt (Misses IsName (state c.args.tokens.now c.take_word.new.self) (state c.args.tokens.now c.take_name.new.self))) = search rules in
    on_err c.from_residual-in_err-named.result h (λ fault missed. local_function_unnamed c.args.at fault _ _ _ _ c.in_ok-begins.ensures.takes missed)

pub statements::local_function-returns-in_err-slot-clause-refuses : goal.statements::local_function-returns-in_err-slot-clause-refuses
statements::local_function-returns-in_err-slot-clause-refuses t c = λ next.
    let h : IfErr c.from_residual-in_err-slot.result (OnLocals (200 ≤ in_scope (scope_of c.take_name.new.self))) = search rules in
    let same = turned c.args.tokens.now c.take_name.new.self c.local.new.self _ c.local.ensures.index c.local.ensures.line refl in
    on_err c.from_residual-in_err-slot.result h (λ fault many.
    local_function_crowded c.args.at fault _ _ (state c.args.tokens.now c.take_name.new.self) _ _ _ c.in_ok-named.named.name c.in_ok-begins.ensures.takes c.in_ok-named.ensures.takes same.left (locals_state c.args.tokens.now c.take_name.new.self fault many))

pub statements::local_function-returns-in_err-number-clause-refuses : goal.statements::local_function-returns-in_err-number-clause-refuses
statements::local_function-returns-in_err-number-clause-refuses t c = λ next.
    let h : IfErr c.from_residual-in_err-number.result (RefusesBody c.args.at c.in_ok-begins.begins c.new.result.items (state c.args.tokens.now c.local.new.self) (state c.args.tokens.now c.body.new.parser)) = search rules in
    let turn = declared c.args.tokens.now c.take_name.new.self c.local.new.self _ c.in_ok-slot.ensures.scope c.in_ok-slot.ensures.index c.in_ok-slot.ensures.line in
    on_err c.from_residual-in_err-number.result h (λ fault refuses.
    local_body_refused c.args.at c.new.result.items fault _ _ _ _ _ _ _ c.in_ok-named.named.name c.in_ok-begins.ensures.takes c.in_ok-named.ensures.takes turn c.new.ensures.items refuses)

pub statements::local_function-returns-in_err-slot-clause-order : goal.statements::local_function-returns-in_err-slot-clause-order
statements::local_function-returns-in_err-slot-clause-order t c =
    handed_on _ c.from_residual-in_err-slot.result _ c.from_residual-in_err-slot.ensures.1
    (λ start stands. local_there c.args.tokens.now (state c.args.tokens.now c.local.new.self) c.take_word.new.self c.take_name.new.self _ _ _ (few_there _ _) c.in_err-slot.ensures.crowded c.in_err-slot.ensures.reported c.in_ok-named.ensures.takes start (standing.local_name stands c.in_ok-begins.ensures.takes))

pub statements::local_function-returns-in_err-number-clause-order : goal.statements::local_function-returns-in_err-number-clause-order
statements::local_function-returns-in_err-number-clause-order t c =
    let turn = declared c.args.tokens.now c.take_name.new.self c.local.new.self _ c.in_ok-slot.ensures.scope c.in_ok-slot.ensures.index c.in_ok-slot.ensures.line in
    handed_on _ c.from_residual-in_err-number.result _ c.from_residual-in_err-number.ensures.1
    (λ start stands. c.in_err-number.ensures.order start (subst (λ first. standing.Stands start (standing.body c.args.at first) (state c.args.tokens.now c.local.new.self)) (sym c.new.ensures.items) (standing.local_body stands c.in_ok-begins.ensures.takes c.in_ok-named.ensures.takes (record { left = turn.left; scope = turn.scope }))))

pub statements::local_function-returns-in_err-begins-clause-order : goal.statements::local_function-returns-in_err-begins-clause-order
statements::local_function-returns-in_err-begins-clause-order t c =
    handed_on _ c.from_residual.result _ c.from_residual.ensures.1
    (λ start stands. missing_first _ _ _ _ c.in_err-begins.ensures.misses start (standing.before_it stands))

pub statements::local_function-returns-in_err-named-clause-order : goal.statements::local_function-returns-in_err-named-clause-order
statements::local_function-returns-in_err-named-clause-order t c =
    handed_on _ c.from_residual-in_err-named.result _ c.from_residual-in_err-named.ensures.1
    (λ start stands. missing_first _ _ _ _ c.in_err-named.ensures.misses start (standing.before_it (standing.local_name stands c.in_ok-begins.ensures.takes)))

pub statements::local_names-returns-clause-reads : goal.statements::local_names-returns-clause-reads
statements::local_names-returns-clause-reads t c =
    on_node _ c.local_node.ensures (λ out is. local_read _ _ _ _ _ _ _ _ _ _ c.in_ok-names.ensures.reads c.in_ok-values.ensures.reads
    (declared c.args.tokens.now c.initial.new.parser c.declare.new.self _ c.in_ok-slots.ensures.scope c.in_ok-slots.ensures.index c.in_ok-slots.ensures.line) (slots_state c.args.tokens.now c.initial.new.parser _ _ c.in_ok-slots.ensures.slots) is
    c.in_ok-names.ensures.stops c.in_ok-values.ensures.missing)

pub statements::local_names-returns-in_err-names-clause-refuses : goal.statements::local_names-returns-in_err-names-clause-refuses
statements::local_names-returns-in_err-names-clause-refuses t c = λ plain.
    let h : IfErr c.from_residual.result (RefusesNames c.in_scope-count.result (state c.args.tokens.now c.args.parser.now) (state c.args.tokens.now c.names.new.self)) = search rules in
    on_err c.from_residual.result h (λ fault refuses.
    local_names_refused c.args.at c.in_scope-count.result fault _ _ (inside c.args.tokens.now c.args.parser.now) (slot_state c.args.tokens.now c.args.parser.now _ c.in_scope-count.ensures.value) plain refuses)

pub statements::local_names-returns-in_err-values-clause-refuses : goal.statements::local_names-returns-in_err-values-clause-refuses
statements::local_names-returns-in_err-values-clause-refuses t c = λ plain.
    let h : IfErr c.from_residual-in_err-values.result (RefusesInitial c.args.at (state c.args.tokens.now c.names.new.self) (state c.args.tokens.now c.initial.new.parser)) = search rules in
    on_err c.from_residual-in_err-values.result h (λ fault refuses.
    local_values_refused c.args.at fault _ _ _ _ c.in_ok-names.ensures.reads c.in_ok-names.ensures.stops refuses)

pub statements::local_names-returns-in_err-slots-clause-refuses : goal.statements::local_names-returns-in_err-slots-clause-refuses
statements::local_names-returns-in_err-slots-clause-refuses t c = λ plain.
    let h : IfErr c.from_residual-in_err-slots.result (OnLocals (200 < in_scope (scope_of c.initial.new.parser) + length c.in_ok-names.names.items)) = search rules in
    let few : c.in_scope-count.result + length c.in_ok-names.names.items ≤ 200 = search (rules, arith) in
    on_err c.from_residual-in_err-slots.result h (λ fault many.
    locals_declared c.args.at c.in_scope-count.result fault _ _ _ _ c.in_ok-names.names.items _ (slot_state c.args.tokens.now c.args.parser.now _ c.in_scope-count.ensures.value) c.in_ok-names.ensures.reads c.in_ok-values.ensures.reads few
    (declared_state c.args.tokens.now c.initial.new.parser c.in_ok-names.names.items fault many))

pub statements::local_names-returns-clause-refuses : goal.statements::local_names-returns-clause-refuses
statements::local_names-returns-clause-refuses t c = λ plain. on_memory _ _ c.local_node.result (λ l k never none. absurd none) c.local_node.ensures

pub statements::local_names-returns-in_err-names-clause-order : goal.statements::local_names-returns-in_err-names-clause-order
statements::local_names-returns-in_err-names-clause-order t c =
    handed_on _ c.from_residual.result _ c.from_residual.ensures.1
    (λ start stands. c.in_err-names.ensures.order start (subst (λ n. standing.Stands start (standing.names n) (state c.args.tokens.now c.args.parser.now)) (sym (slot_state c.args.tokens.now c.args.parser.now _ c.in_scope-count.ensures.value)) (standing.local_names stands)))

pub statements::local_names-returns-in_err-values-clause-order : goal.statements::local_names-returns-in_err-values-clause-order
statements::local_names-returns-in_err-values-clause-order t c =
    let many : c.in_scope-count.result + length c.in_ok-names.names.items ≤ 200 = search (rules, arith) in
    let few = few_after c.in_scope-count.result _ _ _ _ (slot_state c.args.tokens.now c.args.parser.now _ c.in_scope-count.ensures.value) c.in_ok-names.ensures.reads many in
    handed_on _ c.from_residual-in_err-values.result _ c.from_residual-in_err-values.ensures.1
    (λ start stands. c.in_err-values.ensures.order start (standing.local_values stands c.in_ok-names.ensures.reads few))

pub statements::local_names-returns-in_err-slots-clause-order : goal.statements::local_names-returns-in_err-slots-clause-order
statements::local_names-returns-in_err-slots-clause-order t c =
    let few : c.in_scope-count.result + length c.in_ok-names.names.items ≤ 200 = search (rules, arith) in
    handed_on _ c.from_residual-in_err-slots.result _ c.from_residual-in_err-slots.ensures.1
    (λ start stands. counted_before start (state c.args.tokens.now c.declare.new.self) _ _ c.in_err-slots.ensures.crowded (few_declared c.args.at c.in_scope-count.result c.args.tokens.now _ _ c.initial.new.parser c.in_ok-names.names.items _ (slot_state c.args.tokens.now c.args.parser.now _ c.in_scope-count.ensures.value) c.in_ok-names.ensures.reads c.in_ok-values.ensures.reads few))

pub statements::local_statement-returns-clause-reads : goal.statements::local_statement-returns-clause-reads
statements::local_statement-returns-clause-reads t c =
    on_ok _ c.local_names.ensures.reads (λ out reads. local_from _ _ _ _ _ _ c.in_ok-line.ensures.takes reads)

pub statements::local_statement-returns-then-at_word-clause-reads : goal.statements::local_statement-returns-then-at_word-clause-reads
statements::local_statement-returns-then-at_word-clause-reads t c =
    on_ok _ c.local_function.ensures.reads (λ out reads. local_from _ _ _ _ _ _ c.in_ok-line.ensures.takes reads)

pub statements::local_statement-returns-in_err-line-clause-refuses : goal.statements::local_statement-returns-in_err-line-clause-refuses
statements::local_statement-returns-in_err-line-clause-refuses t c = λ next.
    let h : IfErr c.from_residual.result (OnAt (Misses (IsKind (Word word.Local)) (state c.args.tokens.now c.args.parser.now) (state c.args.tokens.now c.take_word.new.self))) = search rules in
    on_err c.from_residual.result h (λ fault missed. local_word c.args.at fault _ _ next missed)

pub statements::local_statement-returns-then-at_word-clause-refuses : goal.statements::local_statement-returns-then-at_word-clause-refuses
statements::local_statement-returns-then-at_word-clause-refuses t c = λ next.
    on_err c.local_function.result (c.local_function.ensures.refuses (c.at_word.ensures.0 c.if-at_word.true)) (λ fault refuses.
    local_refused c.args.at fault _ _ _ _ c.in_ok-line.ensures.takes refuses)

pub statements::local_statement-returns-clause-refuses : goal.statements::local_statement-returns-clause-refuses
statements::local_statement-returns-clause-refuses t c = λ next.
    on_err c.local_names.result (c.local_names.ensures.refuses (untested _ _ c.if-at_word.false c.at_word.ensures)) (λ fault refuses.
    local_refused c.args.at fault _ _ _ _ c.in_ok-line.ensures.takes refuses)

pub statements::local_statement-returns-then-at_word-clause-order : goal.statements::local_statement-returns-then-at_word-clause-order
statements::local_statement-returns-then-at_word-clause-order t c =
    on_err c.local_function.result c.local_function.ensures.order (λ fault breaks start stands. breaks start (standing.after_local stands c.in_ok-line.ensures.takes))

pub statements::local_statement-returns-clause-order : goal.statements::local_statement-returns-clause-order
statements::local_statement-returns-clause-order t c =
    on_err c.local_names.result c.local_names.ensures.order (λ fault breaks start stands. breaks start (standing.after_local stands c.in_ok-line.ensures.takes))

pub statements::local_statement-returns-in_err-line-clause-order : goal.statements::local_statement-returns-in_err-line-clause-order
statements::local_statement-returns-in_err-line-clause-order t c =
    handed_on _ c.from_residual.result _ c.from_residual.ensures.1
    (λ start stands. missing_first _ _ _ _ c.in_err-line.ensures.misses start (standing.before_it stands))

pub loops::loop_block-returns-clause-reads : goal.loops::loop_block-returns-clause-reads
loops::loop_block-returns-clause-reads t c =
    loop_read _ _ _ _ _ _ _ _ _ _ _ _ _ c.in_ok-take_word.ensures.takes (declared c.args.tokens.now c.take_word.new.self c.declare.new.self _ c.in_ok-slots.ensures.scope c.in_ok-slots.ensures.index c.in_ok-slots.ensures.line)
    (slots_state c.args.tokens.now c.take_word.new.self _ _ c.in_ok-slots.ensures.slots) c.looped.ensures c.in_ok-body.ensures.reads.within c.in_ok-body.ensures.reads.reads
    (left_since c.args.tokens.now c.take_word.new.self c.inner_block.new.parser c.leave.new.self c.in_scope-count.result c.in_scope-count.ensures.value c.leave.ensures.scope c.leave.ensures.index c.leave.ensures.line) c.in_ok-take_word-2.ensures.takes

pub loops::loop_block-returns-in_err-take_word-clause-refuses : goal.loops::loop_block-returns-in_err-take_word-clause-refuses
loops::loop_block-returns-in_err-take_word-clause-refuses t c =
    let h : IfErr c.from_residual.result (OnAt (Misses (IsKind (Word word.Do)) (state c.args.tokens.now c.args.parser.now) (state c.args.tokens.now c.take_word.new.self))) = search rules in
    on_err c.from_residual.result h (λ fault missing. loop_without_do c.args.at c.args.names.items fault _ _ missing)

pub loops::loop_block-returns-in_err-slots-clause-refuses : goal.loops::loop_block-returns-in_err-slots-clause-refuses
loops::loop_block-returns-in_err-slots-clause-refuses t c =
    let h : IfErr c.from_residual-in_err-slots.result (OnLocals (200 < in_scope (scope_of c.take_word.new.self) + length c.args.names.items)) = search rules in
    on_err c.from_residual-in_err-slots.result h (λ fault crowded.
    loop_crowded c.args.at c.args.names.items _ fault _ _ _ _ _ (innermost c.args.tokens.now c.args.parser.now) c.in_ok-take_word.ensures.takes
    (unread c.args.tokens.now c.take_word.new.self c.declare.new.self c.in_err-slots.ensures.index) (crowded_there c.args.tokens.now c.take_word.new.self _ fault crowded))

pub loops::loop_block-returns-in_err-body-clause-refuses : goal.loops::loop_block-returns-in_err-body-clause-refuses
loops::loop_block-returns-in_err-body-clause-refuses t c =
    handed_on (RefusesLoop c.args.at c.args.names.items (state c.args.tokens.now c.args.parser.now) (state c.args.tokens.now c.inner_block.new.parser)) c.from_residual-in_err-body.result _ c.from_residual-in_err-body.ensures.1
    (loop_inner c.args.at c.looped.result c.args.names.items _ _ _ _ _ _ c.in_ok-take_word.ensures.takes (declared c.args.tokens.now c.take_word.new.self c.declare.new.self _ c.in_ok-slots.ensures.scope c.in_ok-slots.ensures.index c.in_ok-slots.ensures.line) c.looped.ensures c.in_err-body.ensures.refuses)

pub loops::loop_block-returns-in_err-take_word-2-clause-refuses : goal.loops::loop_block-returns-in_err-take_word-2-clause-refuses
loops::loop_block-returns-in_err-take_word-2-clause-refuses t c =
    let h : IfErr c.from_residual-in_err-take_word-2.result (OnAt (Misses (IsKind (Word word.End)) (state c.args.tokens.now c.leave.new.self) (state c.args.tokens.now c.take_word-2.new.self))) = search rules in
    on_err c.from_residual-in_err-take_word-2.result h (λ fault missing.
    loop_without_end c.args.at c.in_ok-body.ensures.reads.inner c.args.names.items _ fault _ _ _ _ _ _ _ c.in_ok-take_word.ensures.takes
    (unread c.args.tokens.now c.take_word.new.self c.declare.new.self c.in_ok-slots.ensures.index) c.in_ok-body.ensures.reads.reads
    (unread c.args.tokens.now c.inner_block.new.parser c.leave.new.self c.leave.ensures.index) missing)

pub loops::loop_block-returns-in_err-slots-clause-order : goal.loops::loop_block-returns-in_err-slots-clause-order
loops::loop_block-returns-in_err-slots-clause-order t c =
    λ few. handed_on _ c.from_residual-in_err-slots.result _ c.from_residual-in_err-slots.ensures.1
    (λ start stands. counted_before start (state c.args.tokens.now c.declare.new.self) _ _ c.in_err-slots.ensures.crowded (few_in_loop c.args.tokens.now c.args.parser.now c.take_word.new.self _ _ _ few c.in_ok-take_word.ensures.takes))

pub loops::loop_block-returns-in_err-body-clause-order : goal.loops::loop_block-returns-in_err-body-clause-order
loops::loop_block-returns-in_err-body-clause-order t c =
    λ few. let turn = declared c.args.tokens.now c.take_word.new.self c.declare.new.self _ c.in_ok-slots.ensures.scope c.in_ok-slots.ensures.index c.in_ok-slots.ensures.line in
    handed_on _ c.from_residual-in_err-body.result _ c.from_residual-in_err-body.ensures.1
    (λ start stands. c.in_err-body.ensures.order start (standing.loop_block stands c.in_ok-take_word.ensures.takes (record { left = turn.left; scope = turn.scope }) c.looped.ensures))

pub loops::loop_block-returns-in_err-take_word-clause-order : goal.loops::loop_block-returns-in_err-take_word-clause-order
loops::loop_block-returns-in_err-take_word-clause-order t c =
    λ few. handed_on _ c.from_residual.result _ c.from_residual.ensures.1
    (λ start stands. missing_first _ _ _ _ c.in_err-take_word.ensures.misses start (standing.before_it stands))

pub loops::loop_block-returns-in_err-take_word-2-clause-order : goal.loops::loop_block-returns-in_err-take_word-2-clause-order
loops::loop_block-returns-in_err-take_word-2-clause-order t c =
    λ few. let turn = declared c.args.tokens.now c.take_word.new.self c.declare.new.self _ c.in_ok-slots.ensures.scope c.in_ok-slots.ensures.index c.in_ok-slots.ensures.line in
    let left = left_since c.args.tokens.now c.take_word.new.self c.inner_block.new.parser c.leave.new.self c.in_scope-count.result c.in_scope-count.ensures.value c.leave.ensures.scope c.leave.ensures.index c.leave.ensures.line in
    handed_on _ c.from_residual-in_err-take_word-2.result _ c.from_residual-in_err-take_word-2.ensures.1
    (λ start stands. missing_first _ _ _ _ c.in_err-take_word-2.ensures.misses start
    (standing.after_loop (state c.args.tokens.now c.take_word.new.self).scope (standing.after_block (standing.inside (standing.loop_block stands c.in_ok-take_word.ensures.takes (record { left = turn.left; scope = turn.scope }) c.looped.ensures) c.in_ok-body.ensures.reads.within) c.in_ok-body.ensures.reads.reads) left.left left.scope))

pub statements::method_statement-returns-clause-reads : goal.statements::method_statement-returns-clause-reads
statements::method_statement-returns-clause-reads t c =
    let named = c.in_ok-name-2.ensures in
    let first : c.in_ok-name-2.first.items ≡ self_name ∷ [] = node_by _ _ _ _ named.1 c.self_alone.ensures in
    let both = c.in_ok-name-3.ensures in
    on_node _ c.define.ensures (λ out is. method_read _ _ _ _ _ _ _ _ _ c.in_ok-name.ensures.reads first (read_by _ _ _ both.1 c.body.ensures.reads) out
    (subst (λ name. Defines c.args.line name.target c.in_ok-name-3.number out) (both.0 ∙ named.0) is))

pub statements::method_statement-returns-in_err-name-clause-refuses : goal.statements::method_statement-returns-in_err-name-clause-refuses
statements::method_statement-returns-in_err-name-clause-refuses t c = λ next.
    let h : IfErr c.from_residual.result (MissesMember Colon c.args.object.height (state c.args.tokens.now c.args.parser.now) (state c.args.tokens.now c.name_member.new.self)) = search rules in
    on_err c.from_residual.result h (λ fault missed. method_unnamed c.args.at c.args.line fault _ _ c.args.object next missed)

pub statements::method_statement-returns-in_err-name-2-clause-refuses : goal.statements::method_statement-returns-in_err-name-2-clause-refuses
statements::method_statement-returns-in_err-name-2-clause-refuses t c = λ next.
    handed_on _ c.from_residual-in_err-name-2.result _ c.from_residual-in_err-name-2.ensures.1
    (subst (RefusesMethod c.args.at c.args.line c.args.object (state c.args.tokens.now c.args.parser.now) (state c.args.tokens.now c.name_member.new.self)) (sym (memory_by _ _ _ c.in_err-name-2.ensures c.self_alone.ensures)) (λ s read k never none. absurd none))

pub statements::method_statement-returns-in_err-name-3-clause-refuses : goal.statements::method_statement-returns-in_err-name-3-clause-refuses
statements::method_statement-returns-in_err-name-3-clause-refuses t c = λ next.
    let named = c.in_ok-name-2.ensures in
    let first : c.in_ok-name-2.first.items ≡ self_name ∷ [] = node_by _ _ _ _ named.1 c.self_alone.ensures in
    handed_on (RefusesMethod c.args.at c.args.line c.args.object (state c.args.tokens.now c.args.parser.now) (state c.args.tokens.now c.body.new.parser)) c.from_residual-in_err-name-3.result _ c.from_residual-in_err-name-3.ensures.1
    (method_body_refused c.args.at c.args.line c.in_ok-name-2.first.items _ _ _ _ c.args.object c.in_ok-name.name c.in_ok-name.ensures.reads first (refused_by _ _ _ c.in_err-name-3.ensures c.body.ensures.refuses))

pub statements::method_statement-returns-clause-refuses : goal.statements::method_statement-returns-clause-refuses
statements::method_statement-returns-clause-refuses t c = λ next. on_memory _ _ c.define.result (λ s read k never none. absurd none) c.define.ensures

pub statements::method_statement-returns-clause-forward : goal.statements::method_statement-returns-clause-forward
statements::method_statement-returns-clause-forward t c = on_done c.define.result (advances_on _ _ _ _ c.in_ok-name.ensures.forward (done_by _ _ c.in_ok-name-3.ensures.1 c.body.ensures.forward))

pub statements::method_statement-returns-in_err-name-clause-order : goal.statements::method_statement-returns-in_err-name-clause-order
statements::method_statement-returns-in_err-name-clause-order t c =
    handed_on _ c.from_residual.result _ c.from_residual.ensures.1
    (method_breaks c.args.at c.args.object _ _ _ (few_there _ _) c.in_err-name.ensures.misses)

pub statements::method_statement-returns-in_err-name-2-clause-order : goal.statements::method_statement-returns-in_err-name-2-clause-order
statements::method_statement-returns-in_err-name-2-clause-order t c =
    handed_on _ c.from_residual-in_err-name-2.result _ c.from_residual-in_err-name-2.ensures.1
    (subst (FirstFault (standing.function_tail c.args.at c.args.object) (state c.args.tokens.now c.args.parser.now) (state c.args.tokens.now c.name_member.new.self)) (sym (memory_by _ _ _ c.in_err-name-2.ensures c.self_alone.ensures)) (λ start stands. tt))

pub statements::method_statement-returns-in_err-name-3-clause-order : goal.statements::method_statement-returns-in_err-name-3-clause-order
statements::method_statement-returns-in_err-name-3-clause-order t c =
    let named = c.in_ok-name-2.ensures in
    let first : c.in_ok-name-2.first.items ≡ self_name ∷ [] = node_by _ _ _ _ named.1 c.self_alone.ensures in
    handed_on _ c.from_residual-in_err-name-3.result _ c.from_residual-in_err-name-3.ensures.1
    (λ start stands. refused_by _ _ _ c.in_err-name-3.ensures c.body.ensures.order start (subst (λ first. standing.Stands start (standing.body c.args.at first) (state c.args.tokens.now c.name_member.new.self)) (sym first) (standing.method_body stands c.in_ok-name.ensures.reads)))

pub statements::prefix_statement-returns-in-Call-clause-reads : goal.statements::prefix_statement-returns-in-Call-clause-reads
statements::prefix_statement-returns-in-Call-clause-reads t c =
    let form : c.in_ok-expr.field-0.form ≡ Call = cc in
    call_read _ _ _ _ _ _ _ c.fresh.ensures c.in_ok-expr.ensures.reads c.in_ok-expr.ensures.stops form c.in_ok-line.ensures.line refl

pub statements::prefix_statement-returns-in-Variable-clause-reads : goal.statements::prefix_statement-returns-in-Variable-clause-reads
statements::prefix_statement-returns-in-Variable-clause-reads t c =
    let form : c.in_ok-expr.field-0.form ≡ Variable = cc in
    let target = target_read c.args.at _ _ _ _ _ c.fresh.ensures c.in_ok-expr.ensures.reads c.in_ok-expr.ensures.stops form refl in
    on_ok _ c.assignment.ensures.reads (first_assigned _ _ _ _ _ _ (vars_one _ _ _ _ _ _ target c.in_ok-line.ensures.line refl))

pub statements::prefix_statement-returns-in_err-expr-clause-refuses : goal.statements::prefix_statement-returns-in_err-expr-clause-refuses
statements::prefix_statement-returns-in_err-expr-clause-refuses t c = λ begins.
    let h : IfErr c.from_residual-in_err-expr.result (RefusesPrefix c.fresh.result (state c.args.tokens.now c.args.parser.now) (state c.args.tokens.now c.prefix.new.parser)) = search rules in
    on_err c.from_residual-in_err-expr.result h (λ fault refuses. first_target_refused c.args.at c.fresh.result fault _ _ begins c.fresh.ensures refuses)

pub statements::prefix_statement-returns-in-Variable-clause-refuses : goal.statements::prefix_statement-returns-in-Variable-clause-refuses
statements::prefix_statement-returns-in-Variable-clause-refuses t c = λ begins.
    let form : c.in_ok-expr.field-0.form ≡ Variable = cc in
    on_err c.assignment.result c.assignment.ensures.refuses (λ fault refuses.
    assignment_refused c.args.at c.fresh.result fault _ _ _ c.in_ok-expr.field-0 begins c.fresh.ensures c.in_ok-expr.ensures.reads c.in_ok-expr.ensures.stops form refuses)

pub statements::prefix_statement-returns-in-Paren-clause-refuses : goal.statements::prefix_statement-returns-in-Paren-clause-refuses
statements::prefix_statement-returns-in-Paren-clause-refuses t c = λ begins.
    let form : c.in_ok-expr.field-0.form ≡ Paren = cc in
    subst (RefusesStat c.args.at (state c.args.tokens.now c.args.parser.now) (state c.args.tokens.now c.prefix.new.parser)) (sym c.unfit.ensures)
    (statement_is_none c.args.at c.fresh.result c.args.tokens.now _ c.prefix.new.parser _ begins c.in_ok-expr.ensures.reads c.in_ok-expr.ensures.stops form)

pub statements::prefix_statement-returns-in_err-expr-clause-order : goal.statements::prefix_statement-returns-in_err-expr-clause-order
statements::prefix_statement-returns-in_err-expr-clause-order t c =
    handed_on _ c.from_residual-in_err-expr.result _ c.from_residual-in_err-expr.ensures.1
    (λ start stands. c.in_err-expr.ensures.order start (standing.first_prefix stands c.fresh.ensures))

pub statements::prefix_statement-returns-in-Variable-clause-order : goal.statements::prefix_statement-returns-in-Variable-clause-order
statements::prefix_statement-returns-in-Variable-clause-order t c =
    let form : c.in_ok-expr.field-0.form ≡ Variable = cc in
    let target = target_read c.args.at _ _ _ _ _ c.fresh.ensures c.in_ok-expr.ensures.reads c.in_ok-expr.ensures.stops form refl in
    on_err c.assignment.result c.assignment.ensures.order (λ fault breaks. breaks _ (vars_one _ _ _ _ _ _ target c.in_ok-line.ensures.line refl))

pub statements::prefix_statement-returns-in_err-line-clause-order : goal.statements::prefix_statement-returns-in_err-line-clause-order
statements::prefix_statement-returns-in_err-line-clause-order t c =
    handed_on _ c.from_residual.result _ c.from_residual.ensures.1
    (λ start stands. ended_first _ _ c.in_err-line.ensures.ended start (standing.before_it stands))

pub statements::prefix_statement-returns-in-Paren-clause-order : goal.statements::prefix_statement-returns-in-Paren-clause-order
statements::prefix_statement-returns-in-Paren-clause-order t c =
    subst (FirstFault (standing.statement c.args.at) (state c.args.tokens.now c.args.parser.now) (state c.args.tokens.now c.prefix.new.parser)) (sym c.unfit.ensures) (λ start stands. standing.after_prefix (standing.first_prefix stands c.fresh.ensures) c.in_ok-expr.ensures.reads)

pub loops::range_loop-returns-clause-reads : goal.loops::range_loop-returns-clause-reads
loops::range_loop-returns-clause-reads t c =
    let one : length c.args.names.items ≡ 1 = search rules in
    let range = c.in_ok-range.ensures.reads in
    let both = c.in_ok-range-2.ensures in
    on_node _ c.numeric_for.ensures (λ out is. range_read _ _ _ _ _ _ _ _ _ _ _ _ _ _ _ _ one range.equals range.from range.comma range.to range.step (read_by _ _ _ both.1 c.loop_block-block.ensures.reads) out
    (subst (λ range. IsNumericFor c.args.line range c.in_ok-range-2.block out) both.0 is))

pub loops::range_loop-returns-clause-forward : goal.loops::range_loop-returns-clause-forward
loops::range_loop-returns-clause-forward t c = on_done c.numeric_for.result (advances_on _ _ _ _ c.in_ok-range.ensures.forward (done_by _ _ c.in_ok-range-2.ensures.1 c.loop_block-block.ensures.forward))

pub loops::range_loop-returns-then-len-ne1-clause-refuses : goal.loops::range_loop-returns-then-len-ne1-clause-refuses
loops::range_loop-returns-then-len-ne1-clause-refuses t c = λ next.
    let many : length c.args.names.items ≡ 1 → ⊥ = search rules in
    subst (RefusesFor c.args.at c.args.names.items (state c.args.tokens.now c.args.parser.now) (state c.args.tokens.now c.args.parser.now)) (sym c.unfit.ensures)
    (many_names c.args.at c.args.names.items c.args.tokens.now c.args.parser.now many next)

pub loops::range_loop-returns-in_err-range-clause-refuses : goal.loops::range_loop-returns-in_err-range-clause-refuses
loops::range_loop-returns-in_err-range-clause-refuses t c = λ next.
    let one : length c.args.names.items ≡ 1 = search rules in
    handed_on (RefusesFor c.args.at c.args.names.items (state c.args.tokens.now c.args.parser.now) (state c.args.tokens.now c.range.new.parser)) c.from_residual.result _ c.from_residual.ensures.1 (c.in_err-range.ensures.refuses c.args.names.items one next)

pub loops::range-returns-in_err-from-clause-refuses : goal.loops::range-returns-in_err-from-clause-refuses
loops::range-returns-in_err-from-clause-refuses t c = λ names one next.
    let h : IfErr c.from_residual-in_err-from.result (RefusesValue c.args.at (state c.args.tokens.now c.take_sign.new.self) (state c.args.tokens.now c.value.new.parser)) = search rules in
    on_err c.from_residual-in_err-from.result h (λ fault refuses. one_name c.args.at names _ _ fault one (λ f l n is.
    range_from_refused c.args.at f l n _ fault _ _ _ c.in_ok-take_sign.ensures.takes refuses))

pub loops::range-returns-in_err-from-2-clause-refuses : goal.loops::range-returns-in_err-from-2-clause-refuses
loops::range-returns-in_err-from-2-clause-refuses t c = λ names one next.
    handed_on (RefusesFor c.args.at names (state c.args.tokens.now c.args.parser.now) (state c.args.tokens.now c.take_sign-2.new.self)) c.from_residual-in_err-from-2.result _ c.from_residual-in_err-from-2.ensures.1
    (one_name c.args.at names _ _ _ one (λ f l n is.
    range_without_comma c.args.at f l n _ _ _ _ _ _ _ c.in_ok-take_sign.ensures.takes c.in_ok-from.ensures.reads (refused_by _ _ _ c.in_err-from-2.ensures c.take_sign-2.ensures.misses)))

pub loops::range-returns-in_err-from-3-clause-refuses : goal.loops::range-returns-in_err-from-3-clause-refuses
loops::range-returns-in_err-from-3-clause-refuses t c = λ names one next.
    handed_on (RefusesFor c.args.at names (state c.args.tokens.now c.args.parser.now) (state c.args.tokens.now c.value-2.new.parser)) c.from_residual-in_err-from-3.result _ c.from_residual-in_err-from-3.ensures.1
    (one_name c.args.at names _ _ _ one (λ f l n is.
    range_to_refused c.args.at f l n _ _ _ _ _ _ _ _ _ c.in_ok-take_sign.ensures.takes c.in_ok-from.ensures.reads (read_by _ _ _ c.in_ok-from-2.ensures.1 c.take_sign-2.ensures.takes) (refused_by _ _ _ c.in_err-from-3.ensures c.value-2.ensures.refuses)))

pub loops::range-returns-in-Err-clause-refuses : goal.loops::range-returns-in-Err-clause-refuses
loops::range-returns-in-Err-clause-refuses t c = λ names one next.
    one_name c.args.at names _ _ _ one (λ f l n is.
    range_step_refused c.args.at f l n _ _ _ _ _ _ _ _ _ _ _ c.in_ok-take_sign.ensures.takes c.in_ok-from.ensures.reads (read_by _ _ _ c.in_ok-from-2.ensures.1 c.take_sign-2.ensures.takes)
    (read_by _ _ _ c.in_ok-from-3.ensures.1 c.value-2.ensures.reads) c.in-Err.ensures.refuses)

pub loops::range_loop-returns-in_err-range-2-clause-refuses : goal.loops::range_loop-returns-in_err-range-2-clause-refuses
loops::range_loop-returns-in_err-range-2-clause-refuses t c = λ next.
    let one : length c.args.names.items ≡ 1 = search rules in
    let range = c.in_ok-range.ensures.reads in
    let refuses = refused_by _ _ _ c.in_err-range-2.ensures c.loop_block-block.ensures.refuses in
    handed_on (RefusesFor c.args.at c.args.names.items (state c.args.tokens.now c.args.parser.now) (state c.args.tokens.now c.loop_block-block.new.parser)) c.from_residual-in_err-range-2.result _ c.from_residual-in_err-range-2.ensures.1
    (one_name c.args.at c.args.names.items _ _ _ one (λ f l n is.
    range_block_refused c.args.at f l n _ _ _ _ _ c.in_ok-range.range.step _ _ _ _ _ _ _ range.equals range.from range.comma range.to range.step range.stops
    (loop_named c.args.at c.args.names.items _ (state c.args.tokens.now c.range.new.parser) (state c.args.tokens.now c.loop_block-block.new.parser) _ is refuses)))

pub loops::range_loop-returns-in_err-range-clause-order : goal.loops::range_loop-returns-in_err-range-clause-order
loops::range_loop-returns-in_err-range-clause-order t c =
    λ few. let one : length c.args.names.items ≡ 1 = search rules in
    handed_on _ c.from_residual.result _ c.from_residual.ensures.1 (c.in_err-range.ensures.order c.args.names.items one)

pub loops::range-returns-in_err-from-clause-order : goal.loops::range-returns-in_err-from-clause-order
loops::range-returns-in_err-from-clause-order t c = λ names one.
    handed_on _ c.from_residual-in_err-from.result _ c.from_residual-in_err-from.ensures.1
    (λ start stands. c.in_err-from.ensures.order start (standing.for_first stands one c.in_ok-take_sign.ensures.takes))

pub loops::range-returns-in_err-from-3-clause-order : goal.loops::range-returns-in_err-from-3-clause-order
loops::range-returns-in_err-from-3-clause-order t c = λ names one.
    handed_on _ c.from_residual-in_err-from-3.result _ c.from_residual-in_err-from-3.ensures.1
    (λ start stands. refused_by _ _ _ c.in_err-from-3.ensures c.value-2.ensures.order start (standing.for_limit stands one c.in_ok-take_sign.ensures.takes c.in_ok-from.ensures.reads (read_by _ _ _ c.in_ok-from-2.ensures.1 c.take_sign-2.ensures.takes)))

pub loops::range-returns-in-Err-clause-order : goal.loops::range-returns-in-Err-clause-order
loops::range-returns-in-Err-clause-order t c = λ names one start stands.
    c.in-Err.ensures.order start (standing.for_step stands one c.in_ok-take_sign.ensures.takes c.in_ok-from.ensures.reads (read_by _ _ _ c.in_ok-from-2.ensures.1 c.take_sign-2.ensures.takes)
    (read_by _ _ _ c.in_ok-from-3.ensures.1 c.value-2.ensures.reads))

pub loops::range_loop-returns-in_err-range-2-clause-order : goal.loops::range_loop-returns-in_err-range-2-clause-order
loops::range_loop-returns-in_err-range-2-clause-order t c =
    λ few. let one : length c.args.names.items ≡ 1 = search rules in
    let range = c.in_ok-range.ensures.reads in
    handed_on _ c.from_residual-in_err-range-2.result _ c.from_residual-in_err-range-2.ensures.1
    (λ start stands. refused_by _ _ _ c.in_err-range-2.ensures (c.loop_block-block.ensures.order (few_in_range c.args.at _ _ _ _ _ _ _ _ _ _ _ _ _ c.in_ok-range.range.step few range.equals range.from range.comma range.to range.step)) start
    (standing.for_range c.in_ok-range.range.step stands one range.equals range.from range.comma range.to range.step))

pub loops::range-returns-in-Ok-clause-reads : goal.loops::range-returns-in-Ok-clause-reads
loops::range-returns-in-Ok-clause-reads t c =
    let same = c.in_ok-from-3.ensures.0 ∙ c.in_ok-from-2.ensures.0 in
    record {
      equals_at = _;
      comma_at = _;
      first = (state c.args.tokens.now c.take_sign.new.self);
      second = (state c.args.tokens.now c.value.new.parser);
      third = (state c.args.tokens.now c.take_sign-2.new.self);
      last = (state c.args.tokens.now c.value-2.new.parser);
      equals = c.in_ok-take_sign.ensures.takes;
      from = subst (λ e. ReadsValue c.args.at (state c.args.tokens.now c.take_sign.new.self) e (state c.args.tokens.now c.value.new.parser)) (sym same) c.in_ok-from.ensures.reads;
      comma = read_by _ _ _ c.in_ok-from-2.ensures.1 c.take_sign-2.ensures.takes;
      to = read_by _ _ _ c.in_ok-from-3.ensures.1 c.value-2.ensures.reads;
      step = c.in-Ok.ensures.reads;
      stops = c.in-Ok.ensures.stops;
    }

pub loops::range-returns-in-Ok-clause-forward : goal.loops::range-returns-in-Ok-clause-forward
loops::range-returns-in-Ok-clause-forward t c =
    advances_stays _ _ _ _ (advances_on _ _ _ _ c.in_ok-take_sign.ensures.forward (advances_on _ _ _ _ c.in_ok-from.ensures.forward
    (advances_on _ _ _ _ (done_by _ _ c.in_ok-from-2.ensures.1 c.take_sign-2.ensures.forward) (done_by _ _ c.in_ok-from-3.ensures.1 c.value-2.ensures.forward)))) c.in-Ok.ensures.forward

pub loops::range-returns-in_err-take_sign-clause-order : goal.loops::range-returns-in_err-take_sign-clause-order
loops::range-returns-in_err-take_sign-clause-order t c = λ names one.
    handed_on _ c.from_residual.result _ c.from_residual.ensures.1
    (λ start stands. missing_first _ _ _ _ c.in_err-take_sign.ensures.misses start (standing.before_it stands))

pub loops::range-returns-in_err-from-2-clause-order : goal.loops::range-returns-in_err-from-2-clause-order
loops::range-returns-in_err-from-2-clause-order t c = λ names one.
    handed_on _ c.from_residual-in_err-from-2.result _ c.from_residual-in_err-from-2.ensures.1
    (λ start stands. missing_first _ _ _ _ (refused_by _ _ _ c.in_err-from-2.ensures c.take_sign-2.ensures.misses) start (standing.after_value (standing.for_first stands one c.in_ok-take_sign.ensures.takes) c.in_ok-from.ensures.reads))

pub loops::range_loop-returns-then-len-ne1-clause-order : goal.loops::range_loop-returns-then-len-ne1-clause-order
loops::range_loop-returns-then-len-ne1-clause-order t c =
    λ few. subst (FirstFault (standing.for_tail c.args.at c.args.names.items) (state c.args.tokens.now c.args.parser.now) (state c.args.tokens.now c.args.parser.now)) (sym c.unfit.ensures) (λ start stands. standing.before_it stands)

pub loops::repeat_loop-returns-clause-reads : goal.loops::repeat_loop-returns-clause-reads
loops::repeat_loop-returns-clause-reads t c =
    on_node _ c.repeat_node.ensures (λ out is. repeat_read _ _ _ _ _ _ _ _ _ _ _ _ _ _ c.in_ok-line.ensures.takes c.looped.ensures c.in_ok-body.ensures.reads.within c.in_ok-body.ensures.reads.reads c.in_ok-take_word.ensures.takes c.in_ok-test.ensures.reads
    (left_since c.args.tokens.now c.take_word.new.self c.value.new.parser c.leave.new.self c.in_scope-count.result c.in_scope-count.ensures.value c.leave.ensures.scope c.leave.ensures.index c.leave.ensures.line) is)

pub loops::repeat_loop-returns-in_err-line-clause-refuses : goal.loops::repeat_loop-returns-in_err-line-clause-refuses
loops::repeat_loop-returns-in_err-line-clause-refuses t c = λ next.
    let h : IfErr c.from_residual.result (OnAt (Misses (IsKind (Word word.Repeat)) (state c.args.tokens.now c.args.parser.now) (state c.args.tokens.now c.take_word.new.self))) = search rules in
    on_err c.from_residual.result h (λ fault missed k never suppose. never_missed_ahead fault _ (token (statement k)) (IsKind (Word word.Repeat)) _ _ missed suppose (λ is. cc) next)

pub loops::repeat_loop-returns-in_err-body-clause-refuses : goal.loops::repeat_loop-returns-in_err-body-clause-refuses
loops::repeat_loop-returns-in_err-body-clause-refuses t c = λ next.
    handed_on (RefusesStat c.args.at (state c.args.tokens.now c.args.parser.now) (state c.args.tokens.now c.inner_block.new.parser)) c.from_residual-in_err-body.result _ c.from_residual-in_err-body.ensures.1
    (repeat_inner c.args.at c.looped.result _ _ _ _ _ c.in_ok-line.ensures.takes c.looped.ensures c.in_err-body.ensures.refuses)

pub loops::repeat_loop-returns-in_err-take_word-clause-refuses : goal.loops::repeat_loop-returns-in_err-take_word-clause-refuses
loops::repeat_loop-returns-in_err-take_word-clause-refuses t c = λ next.
    let h : IfErr c.from_residual-in_err-take_word.result (OnAt (Misses (IsKind (Word word.Until)) (state c.args.tokens.now c.inner_block.new.parser) (state c.args.tokens.now c.take_word-2.new.self))) = search rules in
    on_err c.from_residual-in_err-take_word.result h (λ fault missed. until_refused c.args.at c.in_ok-body.ensures.reads.inner _ _ _ _ _ _ fault c.in_ok-line.ensures.takes c.in_ok-body.ensures.reads.reads missed)

pub loops::repeat_loop-returns-in_err-test-clause-refuses : goal.loops::repeat_loop-returns-in_err-test-clause-refuses
loops::repeat_loop-returns-in_err-test-clause-refuses t c = λ next.
    let h : IfErr c.from_residual-in_err-test.result (RefusesValue c.args.at (state c.args.tokens.now c.take_word-2.new.self) (state c.args.tokens.now c.value.new.parser)) = search rules in
    on_err c.from_residual-in_err-test.result h (λ fault refuses. repeat_test_refused c.args.at c.in_ok-body.ensures.reads.inner _ _ _ _ _ _ _ _ fault c.in_ok-line.ensures.takes c.in_ok-body.ensures.reads.reads c.in_ok-take_word.ensures.takes refuses)

pub loops::repeat_loop-returns-clause-refuses : goal.loops::repeat_loop-returns-clause-refuses
loops::repeat_loop-returns-clause-refuses t c = λ next. on_memory _ _ c.repeat_node.result (λ k never none. absurd none) c.repeat_node.ensures

pub loops::repeat_loop-returns-in_err-body-clause-order : goal.loops::repeat_loop-returns-in_err-body-clause-order
loops::repeat_loop-returns-in_err-body-clause-order t c =
    handed_on _ c.from_residual-in_err-body.result _ c.from_residual-in_err-body.ensures.1
    (λ start stands. c.in_err-body.ensures.order start (standing.repeat_block stands c.in_ok-line.ensures.takes c.looped.ensures))

pub loops::repeat_loop-returns-in_err-test-clause-order : goal.loops::repeat_loop-returns-in_err-test-clause-order
loops::repeat_loop-returns-in_err-test-clause-order t c =
    handed_on _ c.from_residual-in_err-test.result _ c.from_residual-in_err-test.ensures.1
    (λ start stands. c.in_err-test.ensures.order start (standing.repeat_test stands c.in_ok-line.ensures.takes c.looped.ensures c.in_ok-body.ensures.reads.within c.in_ok-body.ensures.reads.reads c.in_ok-take_word.ensures.takes))

pub loops::repeat_loop-returns-in_err-line-clause-order : goal.loops::repeat_loop-returns-in_err-line-clause-order
loops::repeat_loop-returns-in_err-line-clause-order t c =
    handed_on _ c.from_residual.result _ c.from_residual.ensures.1
    (λ start stands. missing_first _ _ _ _ c.in_err-line.ensures.misses start (standing.before_it stands))

pub loops::repeat_loop-returns-in_err-take_word-clause-order : goal.loops::repeat_loop-returns-in_err-take_word-clause-order
loops::repeat_loop-returns-in_err-take_word-clause-order t c =
    handed_on _ c.from_residual-in_err-take_word.result _ c.from_residual-in_err-take_word.ensures.1
    (λ start stands. missing_first _ _ _ _ c.in_err-take_word.ensures.misses start (standing.after_block (standing.inside (standing.repeat_block stands c.in_ok-line.ensures.takes c.looped.ensures) c.in_ok-body.ensures.reads.within) c.in_ok-body.ensures.reads.reads))

pub statements::scoped-returns-clause-reads : goal.statements::scoped-returns-clause-reads
statements::scoped-returns-clause-reads t c =
    let block = c.in_ok-block.ensures.reads in
    scoped_read _ _ _ _ _ _ block.within block.reads
    (left_since c.args.tokens.now c.args.parser.now c.inner_block.new.parser c.leave.new.self c.in_scope-count.result c.in_scope-count.ensures.value c.leave.ensures.scope c.leave.ensures.index c.leave.ensures.line)

pub statements::inner_block-returns-in_err-inner-clause-refuses : goal.statements::inner_block-returns-in_err-inner-clause-refuses
statements::inner_block-returns-in_err-inner-clause-refuses t c =
    handed_on (RefusesInner c.args.at (state c.args.tokens.now c.args.parser.now) (state c.args.tokens.now c.args.parser.now)) c.from_residual.result _ c.from_residual.ensures.1 (inl (c.in_err-inner.ensures, refl))

pub statements::inner_block-returns-clause-refuses : goal.statements::inner_block-returns-clause-refuses
statements::inner_block-returns-clause-refuses t c =
    on_err c.block.result c.block.ensures.refuses (λ fault refuses. inr (c.in_ok-inner.inner, c.in_ok-inner.ensures, refuses))

pub statements::inner_block-returns-clause-reads : goal.statements::inner_block-returns-clause-reads
statements::inner_block-returns-clause-reads t c =
    let read : (out : Vec Stmt Global) → ReadsBlock c.in_ok-inner.inner (state c.args.tokens.now c.args.parser.now) out.items (state c.args.tokens.now c.block.new.parser) → ReadsInner c.args.at (state c.args.tokens.now c.args.parser.now) out.items (state c.args.tokens.now c.block.new.parser) =
    λ out reads. record { inner = c.in_ok-inner.inner; within = c.in_ok-inner.ensures; reads = reads } in
    on_ok c.block.result c.block.ensures.reads read

pub statements::scoped-returns-in_err-block-clause-refuses : goal.statements::scoped-returns-in_err-block-clause-refuses
statements::scoped-returns-in_err-block-clause-refuses t c =
    handed_on (RefusesScoped c.args.at (state c.args.tokens.now c.args.parser.now) (state c.args.tokens.now c.inner_block.new.parser)) c.from_residual.result _ c.from_residual.ensures.1 (scoped_inner c.args.at _ _ _ c.in_err-block.ensures.refuses)

pub statements::inner_block-returns-in_err-inner-clause-order : goal.statements::inner_block-returns-in_err-inner-clause-order
statements::inner_block-returns-in_err-inner-clause-order t c =
    handed_on _ c.from_residual.result _ c.from_residual.ensures.1
    (λ start stands. deep_breaks _ _ _ _ (few_there _ _) c.in_err-inner.ensures start (stands))

pub statements::inner_block-returns-clause-order : goal.statements::inner_block-returns-clause-order
statements::inner_block-returns-clause-order t c =
    on_err c.block.result c.block.ensures.order (λ fault breaks start stands. breaks start (standing.inside stands c.in_ok-inner.ensures))

pub statements::scoped-returns-in_err-block-clause-order : goal.statements::scoped-returns-in_err-block-clause-order
statements::scoped-returns-in_err-block-clause-order t c =
    handed_on _ c.from_residual.result _ c.from_residual.ensures.1 c.in_err-block.ensures.order

pub statements::statement-returns-in-If-clause-refuses : goal.statements::statement-returns-in-If-clause-refuses
statements::statement-returns-in-If-clause-refuses t c = λ same is. c.if_statement.ensures.refuses (if_kind _ (sym same ∙ c.in-If.is))

pub statements::statement-returns-in-While-clause-refuses : goal.statements::statement-returns-in-While-clause-refuses
statements::statement-returns-in-While-clause-refuses t c = λ same is. c.while_loop.ensures.refuses (while_kind _ (sym same ∙ c.in-While.is))

pub statements::statement-returns-in-Do-clause-refuses : goal.statements::statement-returns-in-Do-clause-refuses
statements::statement-returns-in-Do-clause-refuses t c = λ same is. c.do_block.ensures.refuses (do_kind _ (sym same ∙ c.in-Do.is))

pub statements::statement-returns-in-For-clause-refuses : goal.statements::statement-returns-in-For-clause-refuses
statements::statement-returns-in-For-clause-refuses t c = λ same is. c.for_loop.ensures.refuses (for_kind _ (sym same ∙ c.in-For.is))

pub statements::statement-returns-in-Repeat-clause-refuses : goal.statements::statement-returns-in-Repeat-clause-refuses
statements::statement-returns-in-Repeat-clause-refuses t c = λ same is. c.repeat_loop.ensures.refuses (repeat_kind _ (sym same ∙ c.in-Repeat.is))

pub statements::statement-returns-in-Function-clause-refuses : goal.statements::statement-returns-in-Function-clause-refuses
statements::statement-returns-in-Function-clause-refuses t c = λ same is. c.function_statement.ensures.refuses (function_kind _ (sym same ∙ c.in-Function.is))

pub statements::statement-returns-in-Local-clause-refuses : goal.statements::statement-returns-in-Local-clause-refuses
statements::statement-returns-in-Local-clause-refuses t c = λ same is. c.local_statement.ensures.refuses (local_kind _ (sym same ∙ c.in-Local.is))

pub statements::statement-returns-in_default-clause-refuses : goal.statements::statement-returns-in_default-clause-refuses
statements::statement-returns-in_default-clause-refuses t c = λ same is.
    c.prefix_statement.ensures.refuses (sym same ∙ prefix_begins c.args.begins is c.in_default.not-If c.in_default.not-While c.in_default.not-Do c.in_default.not-For c.in_default.not-Repeat c.in_default.not-Function c.in_default.not-Local)

pub loops::step-returns-in_err-step-clause-refuses : goal.loops::step-returns-in_err-step-clause-refuses
loops::step-returns-in_err-step-clause-refuses t c =
    let h : IfErr c.from_residual-in_err-step.result (RefusesValue c.args.at (state c.args.tokens.now c.take_sign.new.self) (state c.args.tokens.now c.value.new.parser)) = search rules in
    on_err c.from_residual-in_err-step.result h (λ fault refuses. step_refused c.args.at _ fault _ _ _ c.in_ok-take_sign.ensures.takes refuses)

pub loops::step-returns-in_err-step-clause-order : goal.loops::step-returns-in_err-step-clause-order
loops::step-returns-in_err-step-clause-order t c =
    handed_on _ c.from_residual-in_err-step.result _ c.from_residual-in_err-step.ensures.1
    (λ start stands. c.in_err-step.ensures.order start (standing.step_value stands c.in_ok-take_sign.ensures.takes))

pub loops::step-returns-in_err-take_sign-clause-order : goal.loops::step-returns-in_err-take_sign-clause-order
loops::step-returns-in_err-take_sign-clause-order t c =
    handed_on _ c.from_residual.result _ c.from_residual.ensures.1
    (λ start stands. missing_first _ _ _ _ c.in_err-take_sign.ensures.misses start (standing.before_it stands))

pub statements::target-returns-in_err-expr-clause-refuses : goal.statements::target-returns-in_err-expr-clause-refuses
statements::target-returns-in_err-expr-clause-refuses t c =
    let h : IfErr c.from_residual.result (RefusesPrefix c.fresh.result (state c.args.tokens.now c.args.parser.now) (state c.args.tokens.now c.prefix.new.parser)) = search rules in
    on_err c.from_residual.result h (λ fault refuses. target_refused c.args.at c.fresh.result fault _ _ c.fresh.ensures refuses)

pub statements::target-returns-in-Call : goal.statements::target-returns-in-Call
statements::target-returns-in-Call t c =
    let other : c.in_ok-expr.field-0.form ≡ Variable → ⊥ = search rules in
    record {
      reads = tt;
      refuses = subst (RefusesTarget c.args.at (state c.args.tokens.now c.args.parser.now) (state c.args.tokens.now c.prefix.new.parser)) (sym c.unfit.ensures)
          (target_is_none c.args.at c.fresh.result c.args.tokens.now _ c.prefix.new.parser _ c.in_ok-expr.ensures.reads c.in_ok-expr.ensures.stops other);
      order = subst (FirstFault (standing.target c.args.at) (state c.args.tokens.now c.args.parser.now) (state c.args.tokens.now c.prefix.new.parser)) (sym c.unfit.ensures)
          (λ start stands. standing.after_prefix (standing.of_target stands c.fresh.ensures) c.in_ok-expr.ensures.reads);
      forward = tt;
    }

pub statements::target-returns-in_err-expr-clause-order : goal.statements::target-returns-in_err-expr-clause-order
statements::target-returns-in_err-expr-clause-order t c =
    handed_on _ c.from_residual.result _ c.from_residual.ensures.1
    (λ start stands. c.in_err-expr.ensures.order start (standing.of_target stands c.fresh.ensures))

pub statements::targets-loop-alloc-init : goal.statements::targets-loop-alloc-init
statements::targets-loop-alloc-init t c =
    record {
      forward = search rules;
      reads = no_more_vars c.args.at (state c.args.tokens.now c.args.parser.now) _ _ c.in_ok-targets.ensures.items;
    }

pub statements::targets-loop-alloc-preserved : goal.statements::targets-loop-alloc-preserved
statements::targets-loop-alloc-preserved t c =
    record {
      forward = search rules;
      reads = λ line s vars. more_vars_on _ _ _ _ _ _ _ _ _ _ _ _ (c.loop-alloc.invariant.reads line s vars) c.in_ok-take_sign.ensures.takes c.in_ok-next.ensures.reads c.in_ok-push.ensures.items;
    }

pub statements::targets-returns-in_err-next-clause-refuses : goal.statements::targets-returns-in_err-next-clause-refuses
statements::targets-returns-in_err-next-clause-refuses t c =
    let p = err_from_is_err_and c.from_residual-in_err-next.result c.from_residual-in_err-next.ensures.1 in
    let h : IfErr c.from_residual-in_err-next.result (RefusesTarget c.args.at (state c.args.tokens.now c.take_sign.new.self) (state c.args.tokens.now c.target.new.parser)) = rw (p.1, p.2) (c.in_err-next.ensures.refuses) in
    on_err c.from_residual-in_err-next.result h (λ fault refuses.
    next_target_refused c.args.at c.args.first _ _ fault _ _ _ _ c.loop-alloc.invariant.reads c.in_ok-take_sign.ensures.takes refuses)

pub statements::targets-returns-in_err-next-clause-order : goal.statements::targets-returns-in_err-next-clause-order
statements::targets-returns-in_err-next-clause-order t c =
    handed_on _ c.from_residual-in_err-next.result _ c.from_residual-in_err-next.ensures.1
    (λ line s read start stands. c.in_err-next.ensures.order start (standing.next_target stands (c.loop-alloc.invariant.reads line s read).whole c.in_ok-take_sign.ensures.takes))

pub statements::targets-returns-in_err-take_sign-clause-order : goal.statements::targets-returns-in_err-take_sign-clause-order
statements::targets-returns-in_err-take_sign-clause-order t c =
    handed_on _ c.from_residual-in_err-take_sign.result _ c.from_residual-in_err-take_sign.ensures.1
    (λ line s read start stands. missing_first _ _ _ _ c.in_err-take_sign.ensures.misses start (standing.after_targets stands (c.loop-alloc.invariant.reads line s read).whole))

pub statements::value-returns-clause-reads : goal.statements::value-returns-clause-reads
statements::value-returns-clause-reads t c =
    value_read _ _ _ _ _ _ _ c.fresh.ensures c.in_ok-inner.ensures c.in_ok-built.ensures.reads c.in_ok-built.ensures.ends c.into_expr.ensures

pub statements::value-returns-in_err-inner-clause-refuses : goal.statements::value-returns-in_err-inner-clause-refuses
statements::value-returns-in_err-inner-clause-refuses t c =
    let h : IfErr c.from_residual.result (IsTooDeep c.fresh.result (state c.args.tokens.now c.args.parser.now)) = search rules in
    on_err c.from_residual.result h (λ fault none. value_too_deep c.args.at c.fresh.result _ fault c.fresh.ensures none)

pub statements::value-returns-in_err-built-clause-refuses : goal.statements::value-returns-in_err-built-clause-refuses
statements::value-returns-in_err-built-clause-refuses t c =
    let small : 1 ≤ 7 = lit≤ tt in
    let h : IfErr c.from_residual-in_err-built.result (RefusesFrom 1 c.in_ok-inner.inner (state c.args.tokens.now c.args.parser.now) (state c.args.tokens.now c.expression.new.parser)) = search rules in
    on_err c.from_residual-in_err-built.result h (λ fault refuses. value_refused c.args.at c.fresh.result c.in_ok-inner.inner _ _ fault c.fresh.ensures c.in_ok-inner.ensures refuses)

pub statements::value-returns-in_err-inner-clause-order : goal.statements::value-returns-in_err-inner-clause-order
statements::value-returns-in_err-inner-clause-order t c =
    handed_on _ c.from_residual.result _ c.from_residual.ensures.1
    (λ start stands. deep_breaks _ _ _ _ (few_there _ _) c.in_err-inner.ensures start (standing.of_value stands c.fresh.ensures))

pub statements::value-returns-in_err-built-clause-order : goal.statements::value-returns-in_err-built-clause-order
statements::value-returns-in_err-built-clause-order t c =
    handed_on _ c.from_residual-in_err-built.result _ c.from_residual-in_err-built.ensures.1
    (λ start stands. c.in_err-built.ensures.order start (standing.inside (standing.of_value stands c.fresh.ensures) c.in_ok-inner.ensures))

pub statements::values-returns-clause-reads : goal.statements::values-returns-clause-reads
statements::values-returns-clause-reads t c =
    values_read _ _ _ _ _ _ _ c.fresh.ensures c.in_ok-inner.ensures c.in_ok-values.ensures.reads c.in_ok-values.ensures.ends (rw c.into_exprs.ensures refl)

pub statements::values-returns-in_err-inner-clause-refuses : goal.statements::values-returns-in_err-inner-clause-refuses
statements::values-returns-in_err-inner-clause-refuses t c =
    let h : IfErr c.from_residual.result (IsTooDeep c.fresh.result (state c.args.tokens.now c.args.parser.now)) = search rules in
    on_err c.from_residual.result h (λ fault none. values_too_deep c.args.at c.fresh.result _ fault c.fresh.ensures none)

pub statements::values-returns-in_err-values-clause-refuses : goal.statements::values-returns-in_err-values-clause-refuses
statements::values-returns-in_err-values-clause-refuses t c =
    let h : IfErr c.from_residual-in_err-values.result (RefusesList c.in_ok-inner.inner (state c.args.tokens.now c.args.parser.now) (state c.args.tokens.now c.expressions.new.parser)) = search rules in
    on_err c.from_residual-in_err-values.result h (λ fault refuses. values_refused c.args.at c.fresh.result c.in_ok-inner.inner _ _ fault c.fresh.ensures c.in_ok-inner.ensures refuses)

pub statements::values-returns-in_err-inner-clause-order : goal.statements::values-returns-in_err-inner-clause-order
statements::values-returns-in_err-inner-clause-order t c =
    handed_on _ c.from_residual.result _ c.from_residual.ensures.1
    (λ start stands. deep_breaks _ _ _ _ (few_there _ _) c.in_err-inner.ensures start (standing.of_values stands c.fresh.ensures))

pub statements::values-returns-in_err-values-clause-order : goal.statements::values-returns-in_err-values-clause-order
statements::values-returns-in_err-values-clause-order t c =
    handed_on _ c.from_residual-in_err-values.result _ c.from_residual-in_err-values.ensures.1
    (λ start stands. c.in_err-values.ensures.order start (standing.inside (standing.of_values stands c.fresh.ensures) c.in_ok-inner.ensures))

pub loops::while_loop-returns-clause-reads : goal.loops::while_loop-returns-clause-reads
loops::while_loop-returns-clause-reads t c =
    let same = c.in_ok-test-3.ensures.0 ∙ c.in_ok-test-2.ensures.0 in
    let body = read_by _ _ _ c.in_ok-test-3.ensures.1 c.before_word.ensures.reads in
    let end_ = done_by _ _ c.in_ok-test-3.ensures.1 c.before_word.ensures.takes in
    on_node _ c.while_node.ensures (λ out is. while_read _ _ _ _ _ _ _ _ _ _ _ _ _ _ c.in_ok-line.ensures.takes (subst (λ test. ReadsValue c.args.at (state c.args.tokens.now c.take_word.new.self) test (state c.args.tokens.now c.value.new.parser)) (sym same) c.in_ok-test.ensures.reads)
    (read_by _ _ _ c.in_ok-test-2.ensures.1 c.take_word-2.ensures.takes) c.looped.ensures (read_by _ _ _ body c.scoped-body.ensures.reads) end_.1 is)

pub loops::while_loop-returns-in_err-line-clause-refuses : goal.loops::while_loop-returns-in_err-line-clause-refuses
loops::while_loop-returns-in_err-line-clause-refuses t c = λ next.
    let h : IfErr c.from_residual.result (OnAt (Misses (IsKind (Word word.While)) (state c.args.tokens.now c.args.parser.now) (state c.args.tokens.now c.take_word.new.self))) = search rules in
    on_err c.from_residual.result h (λ fault missed k never suppose. never_missed_ahead fault _ (token (statement k)) (IsKind (Word word.While)) _ _ missed suppose (λ is. cc) next)

pub loops::while_loop-returns-in_err-test-clause-refuses : goal.loops::while_loop-returns-in_err-test-clause-refuses
loops::while_loop-returns-in_err-test-clause-refuses t c = λ next.
    let h : IfErr c.from_residual-in_err-test.result (RefusesValue c.args.at (state c.args.tokens.now c.take_word.new.self) (state c.args.tokens.now c.value.new.parser)) = search rules in
    on_err c.from_residual-in_err-test.result h (λ fault refuses. while_test_refused c.args.at _ _ _ _ fault c.in_ok-line.ensures.takes refuses)

pub loops::while_loop-returns-in_err-test-2-clause-refuses : goal.loops::while_loop-returns-in_err-test-2-clause-refuses
loops::while_loop-returns-in_err-test-2-clause-refuses t c = λ next.
    handed_on (RefusesStat c.args.at (state c.args.tokens.now c.args.parser.now) (state c.args.tokens.now c.take_word-2.new.self)) c.from_residual-in_err-test-2.result _ c.from_residual-in_err-test-2.ensures.1
    (while_do_refused c.args.at _ _ _ _ _ _ _ c.in_ok-line.ensures.takes c.in_ok-test.ensures.reads (refused_by _ _ _ c.in_err-test-2.ensures c.take_word-2.ensures.misses))

pub loops::while_loop-returns-in_err-test-3-clause-refuses : goal.loops::while_loop-returns-in_err-test-3-clause-refuses
loops::while_loop-returns-in_err-test-3-clause-refuses t c = λ next.
    handed_on (RefusesStat c.args.at (state c.args.tokens.now c.args.parser.now) (state c.args.tokens.now c.before_word.new.parser)) c.from_residual-in_err-test-3.result _ c.from_residual-in_err-test-3.ensures.1
    (before_refused (OnAt (Misses (IsKind (Word word.End)) (state c.args.tokens.now c.scoped-body.new.parser) (state c.args.tokens.now c.before_word.new.parser))) (RefusesStat c.args.at (state c.args.tokens.now c.args.parser.now)) c.args.tokens.now _ _ c.scoped-body.result _ (refused_by _ _ _ c.in_err-test-3.ensures c.before_word.ensures.refuses)
    (on_err c.scoped-body.result c.scoped-body.ensures.refuses (λ fault refuses.
    while_block_refused c.args.at c.looped.result _ _ _ _ _ _ _ _ _ c.in_ok-line.ensures.takes c.in_ok-test.ensures.reads (read_by _ _ _ c.in_ok-test-2.ensures.1 c.take_word-2.ensures.takes) c.looped.ensures refuses))
    (λ body is missed.
    while_end_refused c.args.at c.looped.result _ _ _ _ _ _ _ _ _ _ _ c.in_ok-line.ensures.takes c.in_ok-test.ensures.reads (read_by _ _ _ c.in_ok-test-2.ensures.1 c.take_word-2.ensures.takes) (read_by _ _ _ is c.scoped-body.ensures.reads) missed))

pub loops::while_loop-returns-clause-refuses : goal.loops::while_loop-returns-clause-refuses
loops::while_loop-returns-clause-refuses t c = λ next. on_memory _ _ c.while_node.result (λ k never none. absurd none) c.while_node.ensures

pub loops::while_loop-returns-clause-forward : goal.loops::while_loop-returns-clause-forward
loops::while_loop-returns-clause-forward t c = on_done c.while_node.result
    (advances_on _ _ _ _ (advances_stays _ _ _ _ (advances_on _ _ _ _ c.in_ok-line.ensures.forward (advances_on _ _ _ _ c.in_ok-test.ensures.forward (done_by _ _ c.in_ok-test-2.ensures.1 c.take_word-2.ensures.forward)))
    (done_by _ _ (read_by _ _ _ c.in_ok-test-3.ensures.1 c.before_word.ensures.reads) c.scoped-body.ensures.forward)) (done_by _ _ c.in_ok-test-3.ensures.1 c.before_word.ensures.forward))

pub loops::while_loop-returns-in_err-test-clause-order : goal.loops::while_loop-returns-in_err-test-clause-order
loops::while_loop-returns-in_err-test-clause-order t c =
    handed_on _ c.from_residual-in_err-test.result _ c.from_residual-in_err-test.ensures.1
    (λ start stands. c.in_err-test.ensures.order start (standing.while_test stands c.in_ok-line.ensures.takes))

pub loops::while_loop-returns-in_err-test-3-clause-order : goal.loops::while_loop-returns-in_err-test-3-clause-order
loops::while_loop-returns-in_err-test-3-clause-order t c =
    handed_on (FirstFault (standing.statement c.args.at) (state c.args.tokens.now c.args.parser.now) (state c.args.tokens.now c.before_word.new.parser)) c.from_residual-in_err-test-3.result _ c.from_residual-in_err-test-3.ensures.1
    (before_refused (OnAt (Misses (IsKind (Word word.End)) (state c.args.tokens.now c.scoped-body.new.parser) (state c.args.tokens.now c.before_word.new.parser))) (FirstFault (standing.statement c.args.at) (state c.args.tokens.now c.args.parser.now)) c.args.tokens.now _ _ c.scoped-body.result _ (refused_by _ _ _ c.in_err-test-3.ensures c.before_word.ensures.refuses)
    (on_err c.scoped-body.result c.scoped-body.ensures.order (λ fault first start stands. first start (standing.while_block stands c.in_ok-line.ensures.takes c.in_ok-test.ensures.reads (read_by _ _ _ c.in_ok-test-2.ensures.1 c.take_word-2.ensures.takes) c.looped.ensures)))
    (λ body is missed start stands. missing_first _ _ _ _ missed start (standing.after_inner_block (standing.while_block stands c.in_ok-line.ensures.takes c.in_ok-test.ensures.reads (read_by _ _ _ c.in_ok-test-2.ensures.1 c.take_word-2.ensures.takes) c.looped.ensures) (read_by _ _ _ is c.scoped-body.ensures.reads))))

pub loops::while_loop-returns-in_err-line-clause-order : goal.loops::while_loop-returns-in_err-line-clause-order
loops::while_loop-returns-in_err-line-clause-order t c =
    handed_on _ c.from_residual.result _ c.from_residual.ensures.1
    (λ start stands. missing_first _ _ _ _ c.in_err-line.ensures.misses start (standing.before_it stands))

pub loops::while_loop-returns-in_err-test-2-clause-order : goal.loops::while_loop-returns-in_err-test-2-clause-order
loops::while_loop-returns-in_err-test-2-clause-order t c =
    handed_on _ c.from_residual-in_err-test-2.result _ c.from_residual-in_err-test-2.ensures.1
    (λ start stands. missing_first _ _ _ _ (refused_by _ _ _ c.in_err-test-2.ensures c.take_word-2.ensures.misses) start (standing.after_value (standing.while_test stands c.in_ok-line.ensures.takes) c.in_ok-test.ensures.reads))
