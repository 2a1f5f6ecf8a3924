-- From a dead state no tokens lead to a chunk.
use Rattle.std.proofs.Common.{◌≡◌, List, [], ◌∷◌, Some, None}
use Rattle.lua_lexer.specs.declared.tokens.TokenKind.{TokenKind}
use Rattle.lua_lexer.specs.declared.tokens.TokenKind.TheVariants.{Text, Word, Sign}
use Rattle.lua_lexer.specs.declared.signs.Sign.TheVariants as sign
use Rattle.lua_lexer.specs.declared.words.Word.TheVariants as word
use Rattle.lua_grammar.specs.Tree.{Line, PrefixExp, Block}
use Rattle.lua_grammar.specs.Tree as tree
use Rattle.lua_grammar.specs.Printing.{Lexeme}
use Rattle.lua_grammar.specs.Operators.{right_level}
use Rattle.lua_grammar.specs.Waiting.{Reader, failed, chunk, token, exp, more_exp, more_prefix, more_list, more_fields, more_names, more_funcname, more_vars, more_arms, more_stats, unless_assign, after_statement, after_local, after_return, operator_of, above}
use Rattle.lua_grammar.specs.Reading.{begin_args, next_statement, last_statement, next_target, feed, run}
use Rattle.lua_grammar.specs.Grammar.{IsChunk}
use Rattle.lua_grammar.specs.Dead.{ExpFrom, PrefixFrom, ListFrom, NamesFrom, FuncNameFrom, VarsFrom, ArmsFrom, StatsFrom, IsDead}
use Rattle.lua_grammar.proofs.DeadParts.{exp_from_on, prefix_from_on, list_from_on, funcname_from_on, arms_from_on, dead_name, dead_close_bracket, dead_list, dead_to_end, dead_begin_prefix, dead_begin_exp, dead_begin_list, dead_begin_args, dead_fields}
use Rattle.lua_grammar.proofs.DeadStatements.{dead_next_name, dead_arm, dead_next_statement, dead_last_statement, dead_next_target, dead_statement, dead_last}

-- after a prefix, arguments
dead_call : (p : PrefixExp) (k : PrefixExp → Reader) → IsDead (more_prefix p k)
    → (kind : TokenKind) (l : Line) → IsDead (begin_args (λ a. more_prefix (tree.call p a) k) kind l)
dead_call p k dead kind l =
    dead_begin_args (λ a. more_prefix (tree.call p a) k) (λ a whole from. dead whole (prefix_from_on (PrefixFrom.call p a PrefixFrom.alone) from)) kind l

pub dead_feed : (r : Reader) → IsDead r → (kind : TokenKind) (l : Line) → IsDead (feed r kind l)
dead_feed failed dead kind l = tt
dead_feed (chunk b) dead kind l = tt
dead_feed (token k) dead kind l = dead kind l
dead_feed (exp m k) dead kind l = dead_begin_exp m k dead kind l
dead_feed (more_exp m e k) dead kind l = elim (above m (operator_of kind))
    as (λ found. IsDead (elim found [
      | Some op ↦ exp (right_level op) (λ b. more_exp m (tree.binary e op l b) k)
      | None ↦ feed (k e) kind l
    ])) [
      | Some op ↦ λ b whole from. dead whole (exp_from_on (ExpFrom.operator e op l b ExpFrom.alone) from)
      | None ↦ dead_feed (k e) (dead e ExpFrom.alone) kind l
    ]
dead_feed (more_prefix p k) dead (Sign sign.Dot) d = dead_name _ (λ l n whole from. dead whole (prefix_from_on (PrefixFrom.member p d l n PrefixFrom.alone) from))
dead_feed (more_prefix p k) dead (Sign sign.OpenBracket) o =
    λ e. dead_close_bracket _ (λ c whole from. dead whole (prefix_from_on (PrefixFrom.item p o e c PrefixFrom.alone) from))
dead_feed (more_prefix p k) dead (Sign sign.Colon) c =
    dead_name _ (λ l n. dead_begin_args (λ a. more_prefix (tree.method p c l n a) k)
    (λ a whole from. dead whole (prefix_from_on (PrefixFrom.method p c l n a PrefixFrom.alone) from)))
dead_feed (more_prefix p k) dead (Sign sign.OpenParenthesis) l = dead_call p k dead (Sign sign.OpenParenthesis) l
dead_feed (more_prefix p k) dead (Sign sign.OpenBrace) l = dead_call p k dead (Sign sign.OpenBrace) l
dead_feed (more_prefix p k) dead (Text bytes) l = dead_call p k dead (Text bytes) l
dead_feed (more_prefix p k) dead kind l = dead_feed (k p) (dead p PrefixFrom.alone) kind l
dead_feed (more_list es k) dead (Sign sign.Comma) c = λ e whole from. dead whole (list_from_on (ListFrom.more es c e ListFrom.alone) from)
dead_feed (more_list es k) dead kind l = dead_feed (k es) (dead es ListFrom.alone) kind l
dead_feed (more_fields o fs k) dead kind l = dead_fields o fs k dead kind l
dead_feed (more_names ns k rest) dead (Sign sign.Comma) c = dead_next_name ns c k rest dead
dead_feed (more_names ns k rest) dead kind l = dead_feed (k ns) (dead ns NamesFrom.alone).0 kind l
dead_feed (more_funcname f k) dead (Sign sign.Dot) d = dead_name _ (λ l n whole from. dead whole (funcname_from_on (FuncNameFrom.more f d l n FuncNameFrom.alone) from))
dead_feed (more_funcname f k) dead kind l = dead_feed (k f) (dead f FuncNameFrom.alone) kind l
dead_feed (more_vars vs k) dead (Sign sign.Comma) c = dead_begin_prefix (next_target vs c k) (dead_next_target vs c k dead)
dead_feed (more_vars vs k) dead (Sign sign.Assign) q = dead_list (λ es. k (tree.assign vs q es)) (dead vs VarsFrom.alone q)
dead_feed (more_vars vs k) dead kind l = tt
dead_feed (more_arms arms k) dead (Word word.ElseIf) i = dead_arm (λ t h b. more_arms (tree.elseif_arm arms i t h b) k)
    (λ t h b those from. dead those (arms_from_on (ArmsFrom.more arms i t h b ArmsFrom.alone) from))
dead_feed (more_arms arms k) dead (Word word.Else) l = dead_to_end (λ b e. k (tree.if_else arms l b e)) ((dead arms ArmsFrom.alone).1 l)
dead_feed (more_arms arms k) dead (Word word.End) e = (dead arms ArmsFrom.alone).0 e
dead_feed (more_arms arms k) dead kind l = tt
dead_feed (more_stats ss k) dead (Word word.End) l = dead_feed (k (tree.statements ss)) (dead ss StatsFrom.alone).0 (Word word.End) l
dead_feed (more_stats ss k) dead (Word word.Else) l = dead_feed (k (tree.statements ss)) (dead ss StatsFrom.alone).0 (Word word.Else) l
dead_feed (more_stats ss k) dead (Word word.ElseIf) l = dead_feed (k (tree.statements ss)) (dead ss StatsFrom.alone).0 (Word word.ElseIf) l
dead_feed (more_stats ss k) dead (Word word.Until) l = dead_feed (k (tree.statements ss)) (dead ss StatsFrom.alone).0 (Word word.Until) l
dead_feed (more_stats ss k) dead (Word word.Return) l = dead_last (last_statement ss k) (dead_last_statement ss k dead) (Word word.Return) l
dead_feed (more_stats ss k) dead (Word word.Break) l = dead_last (last_statement ss k) (dead_last_statement ss k dead) (Word word.Break) l
dead_feed (more_stats ss k) dead kind l = dead_statement (next_statement ss k) (dead_next_statement ss k dead) kind l
dead_feed (unless_assign r k) dead (Sign sign.Assign) q = dead.1 q
dead_feed (unless_assign r k) dead kind l = dead_feed r dead.0 kind l
dead_feed (after_statement k) dead (Sign sign.Semicolon) l = dead (tree.closed l)
dead_feed (after_statement k) dead kind l = dead_feed (k tree.bare) (dead tree.bare) kind l
dead_feed (after_local l ns k) dead (Sign sign.Assign) q = dead_list (λ es. k (tree.local_values l ns q es)) (dead.1 q)
dead_feed (after_local l ns k) dead kind m = dead_feed (k (tree.local l ns)) dead.0 kind m
dead_feed (after_return r k) dead (Sign sign.Semicolon) l = dead_feed (k (tree.return_none r)) dead.0 (Sign sign.Semicolon) l
dead_feed (after_return r k) dead (Word word.End) l = dead_feed (k (tree.return_none r)) dead.0 (Word word.End) l
dead_feed (after_return r k) dead (Word word.Else) l = dead_feed (k (tree.return_none r)) dead.0 (Word word.Else) l
dead_feed (after_return r k) dead (Word word.ElseIf) l = dead_feed (k (tree.return_none r)) dead.0 (Word word.ElseIf) l
dead_feed (after_return r k) dead (Word word.Until) l = dead_feed (k (tree.return_none r)) dead.0 (Word word.Until) l
dead_feed (after_return r k) dead kind l = dead_begin_list (λ es. k (tree.return_values r es)) dead.1 kind l

pub dead_run : (r : Reader) → IsDead r → (xs : List Lexeme) → IsDead (run r xs)
dead_run r dead [] = dead
dead_run r dead (first ∷ after) = dead_run (feed r first.kind first.line) (dead_feed r dead first.kind first.line) after

dead_is_no_chunk : (r : Reader) (b : Block) → IsDead r → r ≡ chunk b → IsChunk b → ⊥
dead_is_no_chunk r b dead is = rw is at dead

pub dead_reads_no_chunk : (r : Reader) (after : List Lexeme) (b : Block) → IsDead r → run r after ≡ chunk b → IsChunk b → ⊥
dead_reads_no_chunk r after b dead is = dead_is_no_chunk (run r after) b (dead_run r dead after) is
