-- The tokens of a tree in the order of the text, each as its kind and its line, before those that come after it.
use Rattle.std.specs.Prelude.{List, ◌∷◌, map}
use Rattle.lua_lexer.specs.declared.tokens.Token.{Token}
use Rattle.lua_lexer.specs.declared.tokens.TokenKind.{TokenKind}
use Rattle.lua_lexer.specs.declared.tokens.TokenKind.TheVariants.{Name, Text, Number, Word as WordKind, Sign as SignKind}
use Rattle.lua_lexer.specs.declared.signs.Sign.{Sign}
use Rattle.lua_lexer.specs.declared.signs.Sign.TheVariants.{Assign, OpenParenthesis, CloseParenthesis, OpenBrace, CloseBrace, OpenBracket, CloseBracket}
use Rattle.lua_lexer.specs.declared.signs.Sign.TheVariants.{Semicolon, Colon, Comma, Dot, Ellipsis}
use Rattle.lua_lexer.specs.declared.words.Word.{Word}
use Rattle.lua_lexer.specs.declared.words.Word.TheVariants.{Break, Do, Else, ElseIf, End as EndWord, False, For, Function, If, In, Local, Nil, Repeat, Return}
use Rattle.lua_lexer.specs.declared.words.Word.TheVariants.{Then, True, Until, While}
use Rattle.lua_grammar.specs.Operators.{kind_of, kind_of_unary}
use Rattle.lua_grammar.specs.Tree.{Line, Bytes, NameList, Params, FuncName, Separator, End, Exp, PrefixExp, Args, ExpList, Table, Fields, Field, FuncBody}
use Rattle.lua_grammar.specs.Tree.{Block, Stats, Stat, Arms, LastStat, VarList}
use Rattle.lua_grammar.specs.Tree as tree

-- a token as the grammar sees it, without its position in the text
pub record Lexeme : Type 0 where
  pub kind : TokenKind
  pub line : Line

abbrev pub lexeme : Token → Lexeme
lexeme token = record { kind = token.kind; line = token.line }

abbrev pub lexemes : List Token → List Lexeme
lexemes tokens = map lexeme tokens

-- one token before those that come after it
abbrev pub a_kind : TokenKind → Line → List Lexeme → List Lexeme
a_kind kind line after = record { kind = kind; line = line } ∷ after

abbrev pub a_word : Word → Line → List Lexeme → List Lexeme
a_word word line after = a_kind (WordKind word) line after

abbrev pub a_sign : Sign → Line → List Lexeme → List Lexeme
a_sign sign line after = a_kind (SignKind sign) line after

abbrev pub a_name : Line → Bytes → List Lexeme → List Lexeme
a_name line name after = a_kind (Name name) line after

abbrev pub print_names : NameList → List Lexeme → List Lexeme
print_names (tree.first_name l n) after = a_name l n after
print_names (tree.next_name names c l n) after = print_names names (a_sign Comma c (a_name l n after))

abbrev pub print_params : Params → List Lexeme → List Lexeme
print_params tree.no_params after = after
print_params (tree.names names) after = print_names names after
print_params (tree.names_and_vararg names c l) after = print_names names (a_sign Comma c (a_sign Ellipsis l after))
print_params (tree.only_vararg l) after = a_sign Ellipsis l after

abbrev pub print_funcname : FuncName → List Lexeme → List Lexeme
print_funcname (tree.root_name l n) after = a_name l n after
print_funcname (tree.name_member f d l n) after = print_funcname f (a_sign Dot d (a_name l n after))

abbrev pub print_separator : Separator → List Lexeme → List Lexeme
print_separator (tree.comma l) after = a_sign Comma l after
print_separator (tree.semicolon l) after = a_sign Semicolon l after

abbrev pub print_end : End → List Lexeme → List Lexeme
print_end tree.bare after = after
print_end (tree.closed l) after = a_sign Semicolon l after

unfoldable mutual
  pub print_exp : Exp → List Lexeme → List Lexeme
  print_exp (tree.nil l) after = a_word Nil l after
  print_exp (tree.false_ l) after = a_word False l after
  print_exp (tree.true_ l) after = a_word True l after
  print_exp (tree.number l n) after = a_kind (Number n) l after
  print_exp (tree.string l bytes) after = a_kind (Text bytes) l after
  print_exp (tree.dots l) after = a_sign Ellipsis l after
  print_exp (tree.function l body) after = a_word Function l (print_funcbody body after)
  print_exp (tree.prefix p) after = print_prefixexp p after
  print_exp (tree.table t) after = print_table t after
  print_exp (tree.binary a op l b) after = print_exp a (a_kind (kind_of op) l (print_exp b after))
  print_exp (tree.unary op l e) after = a_kind (kind_of_unary op) l (print_exp e after)

  pub print_prefixexp : PrefixExp → List Lexeme → List Lexeme
  print_prefixexp (tree.variable l n) after = a_name l n after
  print_prefixexp (tree.paren o e c) after = a_sign OpenParenthesis o (print_exp e (a_sign CloseParenthesis c after))
  print_prefixexp (tree.item p o e c) after = print_prefixexp p (a_sign OpenBracket o (print_exp e (a_sign CloseBracket c after)))
  print_prefixexp (tree.member p d l n) after = print_prefixexp p (a_sign Dot d (a_name l n after))
  print_prefixexp (tree.call p a) after = print_prefixexp p (print_args a after)
  print_prefixexp (tree.method p c l n a) after = print_prefixexp p (a_sign Colon c (a_name l n (print_args a after)))

  pub print_args : Args → List Lexeme → List Lexeme
  print_args (tree.no_args o c) after = a_sign OpenParenthesis o (a_sign CloseParenthesis c after)
  print_args (tree.args o es c) after = a_sign OpenParenthesis o (print_explist es (a_sign CloseParenthesis c after))
  print_args (tree.table_arg t) after = print_table t after
  print_args (tree.string_arg l bytes) after = a_kind (Text bytes) l after

  pub print_explist : ExpList → List Lexeme → List Lexeme
  print_explist (tree.one e) after = print_exp e after
  print_explist (tree.more es c e) after = print_explist es (a_sign Comma c (print_exp e after))

  pub print_table : Table → List Lexeme → List Lexeme
  print_table (tree.separated o fs c) after = a_sign OpenBrace o (print_fields fs (a_sign CloseBrace c after))
  print_table (tree.ending o fs f c) after = a_sign OpenBrace o (print_fields fs (print_field f (a_sign CloseBrace c after)))

  pub print_fields : Fields → List Lexeme → List Lexeme
  print_fields tree.no_fields after = after
  print_fields (tree.more_fields fs f s) after = print_fields fs (print_field f (print_separator s after))

  pub print_field : Field → List Lexeme → List Lexeme
  print_field (tree.keyed o k c q e) after =
      a_sign OpenBracket o (print_exp k (a_sign CloseBracket c (a_sign Assign q (print_exp e after))))
  print_field (tree.named l n q e) after = a_name l n (a_sign Assign q (print_exp e after))
  print_field (tree.plain e) after = print_exp e after

  pub print_funcbody : FuncBody → List Lexeme → List Lexeme
  print_funcbody (tree.function_body o ps c b e) after =
      a_sign OpenParenthesis o (print_params ps (a_sign CloseParenthesis c (print_block b (a_word EndWord e after))))

  pub print_block : Block → List Lexeme → List Lexeme
  print_block (tree.statements ss) after = print_stats ss after
  print_block (tree.with_last ss s e) after = print_stats ss (print_laststat s (print_end e after))

  pub print_stats : Stats → List Lexeme → List Lexeme
  print_stats tree.no_stats after = after
  print_stats (tree.more_stats ss s e) after = print_stats ss (print_stat s (print_end e after))

  pub print_stat : Stat → List Lexeme → List Lexeme
  print_stat (tree.assign vs q es) after = print_varlist vs (a_sign Assign q (print_explist es after))
  print_stat (tree.call_statement p) after = print_prefixexp p after
  print_stat (tree.do_block d b e) after = a_word Do d (print_block b (a_word EndWord e after))
  print_stat (tree.while_loop w t d b e) after = a_word While w (print_exp t (a_word Do d (print_block b (a_word EndWord e after))))
  print_stat (tree.repeat_loop r b u t) after = a_word Repeat r (print_block b (a_word Until u (print_exp t after)))
  print_stat (tree.if_then list e) after = print_arms list (a_word EndWord e after)
  print_stat (tree.if_else list l b e) after = print_arms list (a_word Else l (print_block b (a_word EndWord e after)))
  print_stat (tree.for_range f l n q from c to d b e) after =
      a_word For f (a_name l n (a_sign Assign q (print_exp from (a_sign Comma c (print_exp to (a_word Do d (print_block b (a_word EndWord e after))))))))
  print_stat (tree.for_steps f l n q from c to k step d b e) after =
      a_word For f (a_name l n (a_sign Assign q (print_exp from (a_sign Comma c (print_exp to (a_sign Comma k (print_exp step
      (a_word Do d (print_block b (a_word EndWord e after))))))))))
  print_stat (tree.for_in f ns i es d b e) after =
      a_word For f (print_names ns (a_word In i (print_explist es (a_word Do d (print_block b (a_word EndWord e after))))))
  print_stat (tree.function_statement f n b) after = a_word Function f (print_funcname n (print_funcbody b after))
  print_stat (tree.method_statement f n c l m b) after = a_word Function f (print_funcname n (a_sign Colon c (a_name l m (print_funcbody b after))))
  print_stat (tree.local_function l f m n b) after = a_word Local l (a_word Function f (a_name m n (print_funcbody b after)))
  print_stat (tree.local l ns) after = a_word Local l (print_names ns after)
  print_stat (tree.local_values l ns q es) after = a_word Local l (print_names ns (a_sign Assign q (print_explist es after)))

  pub print_arms : Arms → List Lexeme → List Lexeme
  print_arms (tree.if_arm i t h b) after = a_word If i (print_exp t (a_word Then h (print_block b after)))
  print_arms (tree.elseif_arm list i t h b) after = print_arms list (a_word ElseIf i (print_exp t (a_word Then h (print_block b after))))

  pub print_laststat : LastStat → List Lexeme → List Lexeme
  print_laststat (tree.return_none r) after = a_word Return r after
  print_laststat (tree.return_values r es) after = a_word Return r (print_explist es after)
  print_laststat (tree.break_ b) after = a_word Break b after

  pub print_varlist : VarList → List Lexeme → List Lexeme
  print_varlist (tree.one_var p) after = print_prefixexp p after
  print_varlist (tree.more_vars vs c p) after = print_varlist vs (a_sign Comma c (print_prefixexp p after))
