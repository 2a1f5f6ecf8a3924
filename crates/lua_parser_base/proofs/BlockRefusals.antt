-- Where a block is refused.
use Rattle.std.proofs.Common.{◌≡◌, List, true, refl, sym, subst, arith}
use Rattle.lua_ast.specs.declared.statements.Stmt.{Stmt}
use Rattle.lua_lexer.specs.declared.tokens.TokenKind.{TokenKind}
use Rattle.lua_lexer.specs.declared.tokens.TokenKind.TheVariants.{Word, Sign}
use Rattle.lua_lexer.specs.declared.signs.Sign.TheVariants as sign
use Rattle.lua_lexer.specs.declared.words.Word.TheVariants as word
use Rattle.lua_grammar.specs.Tree.{Line, Exp, Block, Stats, Stat, LastStat}
use Rattle.lua_grammar.specs.Tree as tree
use Rattle.lua_grammar.specs.Waiting.{Reader, chunk, token, more_stats, after_return}
use Rattle.lua_grammar.specs.Reading.{block, list, next_statement, last_statement, statement, last, feed}
use Rattle.lua_grammar.specs.Stopping.{IsReturnEnd}
use Rattle.lua_grammar.proofs.DeadParts.{dead_block}
use Rattle.lua_parser_base.specs.declared.faults.ParseFault.{ParseFault}
use Rattle.lua_parser_base.specs.declared.faults.ParseFault.TheVariants.{BreakOutside}
use Rattle.lua_parser_base.specs.declared.nesting.Nesting.{Nesting}
use Rattle.lua_parser_base.specs.declared.beginnings.Begins.TheVariants as begins
use Rattle.lua_parser_base.specs.States.{State, Takes}
use Rattle.lua_parser_base.specs.Next.{IsTooDeep, ahead}
use Rattle.lua_parser_base.specs.Kinds.{IsStatement, begins_of}
use Rattle.lua_parser_base.specs.Nesting.{IsWithin}
use Rattle.lua_parser_base.specs.ReadsStatements.{ReadsStats}
use Rattle.lua_parser_base.specs.Fits.{FitsBlock, FitsLast, FitsScoped, FitsStat, FitsStats, FitsValues}
use Rattle.lua_parser_base.specs.Readers.{Moves}
use Rattle.lua_parser_base.specs.Refusals.{Unless}
use Rattle.lua_parser_base.specs.StatementRefusals.{RefusesBlock, RefusesLast, RefusesScoped, RefusesStat, RefusesValues}
use Rattle.lua_parser_base.proofs.FittingBlocks.{block_deep, break_inside, first_stats_fit, last_fits, returned_fit, scoped_fits, stat_fits, stats_before_last_fit, stats_fit}
use Rattle.lua_parser_base.proofs.Moving.{by_token, dead_stuck, refused_on, stays, supposes_on}
use Rattle.lua_parser_base.proofs.PrintedBlocks.{stats_moves}
use Rattle.lua_parser_base.proofs.Refusing.{too_deep}

-- ---- a block within one

pub scoped_too_deep : (at : Nesting) (s : State) (fault : ParseFault) → IsTooDeep at s fault → RefusesScoped at s s fault
scoped_too_deep at s fault none = λ k not suppose.
    too_deep fault _ at (block k) s none suppose (λ l b is. not (tree.statements tree.no_stats) l b is) (λ full those.
    dead_block k (λ b. those b (λ f. let d = f.deep in let n = block_deep b in omega (arith, d, n, full)))) tt

pub scoped_refused : (at inner : Nesting) (s t : State) (fault : ParseFault) → IsWithin at inner → RefusesBlock inner s t fault → RefusesScoped at s t fault
scoped_refused at inner s t fault part refuses = λ k not suppose.
    refuses k (supposes_on fault {P = Unless (FitsScoped at s.scope.enclosing) k} {Q = Unless (FitsBlock inner s.scope.enclosing) k}
    (λ those b unfit. those b (λ f. unfit (scoped_fits at inner s.scope.enclosing b part f))) suppose)

-- ---- statements of a block

over_stats : (at : Nesting) (k : Block → Reader) (s m : State) (out : List Stmt) (r : ReadsStats at s out m) → Moves (block k) s (more_stats r.tree k) m
over_stats at k s m out r = stats_moves r.tree at.vararg at.in_loop k s m r.printed r.valid r.ends

begins_last : (ss : Stats) (k : Block → Reader) (kind : TokenKind) (l : Line) → begins_of kind ≡ begins.Last →
    feed (more_stats ss k) kind l ≡ last (last_statement ss k) kind l
begins_last ss k (Word word.Return) l is = refl
begins_last ss k (Word word.Break) l is = refl
begins_last ss k (Word word.If) l is = cc
begins_last ss k kind l is = cc

last_supposes : (at : Nesting) (k : Block → Reader) (s m : State) (out : List Stmt) (r : ReadsStats at s out m) → Unless (FitsBlock at s.scope.enclosing) k →
    Unless (FitsLast at m.scope.enclosing) (last_statement r.tree k)
last_supposes at k s m out r those = λ l unfit x.
    those (tree.with_last r.tree l x) (λ f. unfit (last_fits at s.scope.enclosing r.tree l x s.scope m.scope out f refl r.resolved))

pub last_refused : (at : Nesting) (s m t : State) (out : List Stmt) (fault : ParseFault) → ReadsStats at s out m → begins_of (ahead m) ≡ begins.Last → RefusesLast at m t fault →
    RefusesBlock at s t fault
last_refused at s m t out fault r next refuses = λ k suppose.
    refused_on (over_stats at k s m out r)
    (refused_on (stays (more_stats r.tree k) (token (last (last_statement r.tree k))) m (λ l. begins_last r.tree k (ahead m) l next) tt)
    (refuses (last_statement r.tree k) (supposes_on fault (last_supposes at k s m out r) suppose)))

begins_stat : (ss : Stats) (k : Block → Reader) (kind : TokenKind) (l : Line) → IsStatement (begins_of kind) →
    feed (more_stats ss k) kind l ≡ statement (next_statement ss k) kind l
begins_stat ss k (Word word.Return) l is = absurd is
begins_stat ss k (Word word.Break) l is = absurd is
begins_stat ss k (Word word.End) l is = absurd is
begins_stat ss k (Word word.Else) l is = absurd is
begins_stat ss k (Word word.ElseIf) l is = absurd is
begins_stat ss k (Word word.Until) l is = absurd is
begins_stat ss k kind l is = refl

stat_supposes : (at : Nesting) (k : Block → Reader) (s m : State) (out : List Stmt) (r : ReadsStats at s out m) → Unless (FitsBlock at s.scope.enclosing) k →
    Unless (FitsStat at m.scope.enclosing) (next_statement r.tree k)
stat_supposes at k s m out r those = λ st unfit x whole from.
    let not : FitsStats at s.scope.enclosing whole → ⊥ =
    λ f. unfit (stat_fits at s.scope.enclosing r.tree st x s.scope m.scope out (first_stats_fit at s.scope.enclosing _ whole from f) refl r.resolved) in (
      those (tree.statements whole) (λ f. not (stats_fit at s.scope.enclosing whole f)),
      λ l y. those (tree.with_last whole l y) (λ f. not (stats_before_last_fit at s.scope.enclosing whole l y f)),
    )

waits : (ss : Stats) (k : Block → Reader) (st : Stat) (b : Block) → next_statement ss k st ≡ chunk b → ⊥
waits ss k st b is = cc

pub stat_refused : (at : Nesting) (s m t : State) (out : List Stmt) (fault : ParseFault) → ReadsStats at s out m → IsStatement (begins_of (ahead m)) → RefusesStat at m t fault →
    RefusesBlock at s t fault
stat_refused at s m t out fault r next refuses = λ k suppose.
    refused_on (over_stats at k s m out r)
    (refused_on (stays (more_stats r.tree k) (token (statement (next_statement r.tree k))) m (λ l. begins_stat r.tree k (ahead m) l next) tt)
    (refuses (next_statement r.tree k) (waits r.tree k) (supposes_on fault (stat_supposes at k s m out r) suppose)))

-- ---- the last statement

begins_values : (r : Line) (k : LastStat → Reader) (kind : TokenKind) (l : Line) → (IsReturnEnd kind → ⊥) →
    feed (after_return r k) kind l ≡ feed (list (λ es. k (tree.return_values r es))) kind l
begins_values r k (Sign sign.Semicolon) l h = absurd (h tt)
begins_values r k (Word word.End) l h = absurd (h tt)
begins_values r k (Word word.Else) l h = absurd (h tt)
begins_values r k (Word word.ElseIf) l h = absurd (h tt)
begins_values r k (Word word.Until) l h = absurd (h tt)
begins_values r k kind l h = refl

returned_supposes : (at : Nesting) (k : LastStat → Reader) (line : Line) (s m : State) → Takes (Word word.Return) line s m → Unless (FitsLast at s.scope.enclosing) k →
    Unless (FitsValues at m.scope.enclosing) (λ es. k (tree.return_values line es))
returned_supposes at k line s m taken those = λ es unfit.
    those (tree.return_values line es) (λ f. unfit (subst (λ z. FitsValues at z.enclosing es) (sym taken.scope) (returned_fit at s.scope.enclosing line es f)))

pub returned_refused : (at : Nesting) (line : Line) (s m t : State) (fault : ParseFault) → Takes (Word word.Return) line s m → (IsReturnEnd (ahead m) → ⊥) → RefusesValues at m t fault →
    RefusesLast at s t fault
returned_refused at line s m t fault taken next refuses = λ k suppose.
    refused_on (by_token (token (last k)) (Word word.Return) line s m taken)
    (refused_on (stays (after_return line k) (list (λ es. k (tree.return_values line es))) m (λ l. begins_values line k (ahead m) l next) tt)
    (refuses (λ es. k (tree.return_values line es)) (supposes_on fault (returned_supposes at k line s m taken) suppose)))

-- a `break` outside any loop
pub break_refused : (at : Nesting) (line reported : Line) (s m : State) → Takes (Word word.Break) line s m → (at.in_loop ≡ true → ⊥) → RefusesLast at s m (BreakOutside reported)
break_refused at line reported s m taken outside = λ k suppose.
    refused_on (by_token (token (last k)) (Word word.Break) line s m taken) (record {
      sticks = dead_stuck (BreakOutside reported) (k (tree.break_ line)) m (λ b c. c) (suppose (tree.break_ line) (λ f. outside (break_inside at s.scope.enclosing line f))) tt;
      reports = tt;
    })
