-- The tokens of a tree stand before the rest, whatever it is.
use Rattle.std.proofs.Common.{List, refl}
use Rattle.lua_lexer.specs.declared.tokens.TokenKind.{TokenKind}
use Rattle.lua_lexer.specs.declared.tokens.TokenKind.TheVariants.{Name, Text, Number, Word as WordKind, Sign as SignKind}
use Rattle.lua_lexer.specs.declared.signs.Sign.{Sign}
use Rattle.lua_lexer.specs.declared.signs.Sign.TheVariants.{Assign, OpenParenthesis, CloseParenthesis, OpenBrace, CloseBrace, OpenBracket, CloseBracket, Semicolon, Colon, Comma, Dot, Ellipsis}
use Rattle.lua_lexer.specs.declared.words.Word.{Word}
use Rattle.lua_lexer.specs.declared.words.Word.TheVariants.{Break, Do, Else, ElseIf, End as EndWord, False, For, Function, If, In, Local, Nil, Repeat, Return, Then, True, Until, While}
use Rattle.lua_grammar.specs.Operators.{kind_of, kind_of_unary}
use Rattle.lua_grammar.specs.Tree.{Line, NameList, Params, FuncName, Separator, End, Exp, PrefixExp, Args, ExpList, Table, Fields, Field, FuncBody, Block, Stats, Stat, Arms, LastStat, VarList}
use Rattle.lua_grammar.specs.Tree as tree
use Rattle.lua_grammar.specs.Printing.{Lexeme, a_kind, a_word, a_sign, print_names, print_params, print_funcname, print_separator, print_end, print_exp, print_prefixexp, print_args, print_explist, print_table, print_fields, print_field, print_funcbody, print_block, print_stats, print_stat, print_arms, print_laststat, print_varlist}
use Rattle.lua_grammar.specs.Laws.{IsBefore}

follows : {f g : List Lexeme → List Lexeme} → IsBefore f → IsBefore g → IsBefore (λ after. f (g after))
follows {g = g} p q = record { splits = λ xs ys. rw (q.splits xs ys) (p.splits (g xs) ys) }

token : (kind : TokenKind) (line : Line) → IsBefore (a_kind kind line)
token kind line = record { splits = λ xs ys. refl }

word : (w : Word) (line : Line) → IsBefore (a_word w line)
word w = token (WordKind w)

sign : (s : Sign) (line : Line) → IsBefore (a_sign s line)
sign s = token (SignKind s)

nothing : IsBefore (λ after. after)
nothing = record { splits = λ xs ys. refl }

pub names_before : (t : NameList) → IsBefore (print_names t)
names_before (tree.first_name l n) = token (Name n) l
names_before (tree.next_name ns c l n) = follows (names_before ns) (follows (sign Comma c) (token (Name n) l))

pub params_before : (t : Params) → IsBefore (print_params t)
params_before tree.no_params = nothing
params_before (tree.names ns) = names_before ns
params_before (tree.names_and_vararg ns c l) = follows (names_before ns) (follows (sign Comma c) (sign Ellipsis l))
params_before (tree.only_vararg l) = sign Ellipsis l

pub funcname_before : (t : FuncName) → IsBefore (print_funcname t)
funcname_before (tree.root_name l n) = token (Name n) l
funcname_before (tree.name_member f d l n) = follows (funcname_before f) (follows (sign Dot d) (token (Name n) l))

separator_before : (t : Separator) → IsBefore (print_separator t)
separator_before (tree.comma l) = sign Comma l
separator_before (tree.semicolon l) = sign Semicolon l

end_before : (t : End) → IsBefore (print_end t)
end_before tree.bare = nothing
end_before (tree.closed l) = sign Semicolon l

mutual
  unfolding print_exp

  pub exp_before : (t : Exp) → IsBefore (print_exp t)
  exp_before (tree.nil l) = word Nil l
  exp_before (tree.false_ l) = word False l
  exp_before (tree.true_ l) = word True l
  exp_before (tree.number l n) = token (Number n) l
  exp_before (tree.string l bytes) = token (Text bytes) l
  exp_before (tree.dots l) = sign Ellipsis l
  exp_before (tree.function l body) = follows (word Function l) (body_before body)
  exp_before (tree.prefix p) = prefix_before p
  exp_before (tree.table x) = table_before x
  exp_before (tree.binary a op l b) = follows (exp_before a) (follows (token (kind_of op) l) (exp_before b))
  exp_before (tree.unary op l e) = follows (token (kind_of_unary op) l) (exp_before e)

  pub prefix_before : (t : PrefixExp) → IsBefore (print_prefixexp t)
  prefix_before (tree.variable l n) = token (Name n) l
  prefix_before (tree.paren o e c) = follows (sign OpenParenthesis o) (follows (exp_before e) (sign CloseParenthesis c))
  prefix_before (tree.item p o e c) = follows (prefix_before p) (follows (sign OpenBracket o) (follows (exp_before e) (sign CloseBracket c)))
  prefix_before (tree.member p d l n) = follows (prefix_before p) (follows (sign Dot d) (token (Name n) l))
  prefix_before (tree.call p a) = follows (prefix_before p) (args_before a)
  prefix_before (tree.method p c l n a) = follows (prefix_before p) (follows (sign Colon c) (follows (token (Name n) l) (args_before a)))

  pub args_before : (t : Args) → IsBefore (print_args t)
  args_before (tree.no_args o c) = follows (sign OpenParenthesis o) (sign CloseParenthesis c)
  args_before (tree.args o es c) = follows (sign OpenParenthesis o) (follows (list_before es) (sign CloseParenthesis c))
  args_before (tree.table_arg x) = table_before x
  args_before (tree.string_arg l bytes) = token (Text bytes) l

  pub list_before : (t : ExpList) → IsBefore (print_explist t)
  list_before (tree.one e) = exp_before e
  list_before (tree.more es c e) = follows (list_before es) (follows (sign Comma c) (exp_before e))

  pub table_before : (t : Table) → IsBefore (print_table t)
  table_before (tree.separated o fs c) = follows (sign OpenBrace o) (follows (fields_before fs) (sign CloseBrace c))
  table_before (tree.ending o fs f c) = follows (sign OpenBrace o) (follows (fields_before fs) (follows (field_before f) (sign CloseBrace c)))

  pub fields_before : (t : Fields) → IsBefore (print_fields t)
  fields_before tree.no_fields = nothing
  fields_before (tree.more_fields fs f s) = follows (fields_before fs) (follows (field_before f) (separator_before s))

  pub field_before : (t : Field) → IsBefore (print_field t)
  field_before (tree.keyed o k c q e) = follows (sign OpenBracket o) (follows (exp_before k) (follows (sign CloseBracket c) (follows (sign Assign q) (exp_before e))))
  field_before (tree.named l n q e) = follows (token (Name n) l) (follows (sign Assign q) (exp_before e))
  field_before (tree.plain e) = exp_before e

  pub body_before : (t : FuncBody) → IsBefore (print_funcbody t)
  body_before (tree.function_body o ps c b e) = follows (sign OpenParenthesis o) (follows (params_before ps) (follows (sign CloseParenthesis c) (follows (block_before b) (word EndWord e))))

  pub block_before : (t : Block) → IsBefore (print_block t)
  block_before (tree.statements ss) = stats_before ss
  block_before (tree.with_last ss s x) = follows (stats_before ss) (follows (last_before s) (end_before x))

  pub stats_before : (t : Stats) → IsBefore (print_stats t)
  stats_before tree.no_stats = nothing
  stats_before (tree.more_stats ss s x) = follows (stats_before ss) (follows (stat_before s) (end_before x))

  pub stat_before : (t : Stat) → IsBefore (print_stat t)
  stat_before (tree.assign vs q es) = follows (vars_before vs) (follows (sign Assign q) (list_before es))
  stat_before (tree.call_statement p) = prefix_before p
  stat_before (tree.do_block d b x) = follows (word Do d) (follows (block_before b) (word EndWord x))
  stat_before (tree.while_loop w t d b x) = follows (word While w) (follows (exp_before t) (follows (word Do d) (follows (block_before b) (word EndWord x))))
  stat_before (tree.repeat_loop r b u t) = follows (word Repeat r) (follows (block_before b) (follows (word Until u) (exp_before t)))
  stat_before (tree.if_then list x) = follows (arms_before list) (word EndWord x)
  stat_before (tree.if_else list l b x) = follows (arms_before list) (follows (word Else l) (follows (block_before b) (word EndWord x)))
  stat_before (tree.for_range f l n q from c to d b x) = follows (word For f) (follows (token (Name n) l) (follows (sign Assign q) (follows (exp_before from) (follows (sign Comma c) (follows (exp_before to) (follows (word Do d) (follows (block_before b) (word EndWord x))))))))
  stat_before (tree.for_steps f l n q from c to k step d b x) = follows (word For f) (follows (token (Name n) l) (follows (sign Assign q) (follows (exp_before from) (follows (sign Comma c) (follows (exp_before to) (follows (sign Comma k) (follows (exp_before step) (follows (word Do d) (follows (block_before b) (word EndWord x))))))))))
  stat_before (tree.for_in f ns i es d b x) = follows (word For f) (follows (names_before ns) (follows (word In i) (follows (list_before es) (follows (word Do d) (follows (block_before b) (word EndWord x))))))
  stat_before (tree.function_statement f n b) = follows (word Function f) (follows (funcname_before n) (body_before b))
  stat_before (tree.method_statement f n c l m b) = follows (word Function f) (follows (funcname_before n) (follows (sign Colon c) (follows (token (Name m) l) (body_before b))))
  stat_before (tree.local_function l f m n b) = follows (word Local l) (follows (word Function f) (follows (token (Name n) m) (body_before b)))
  stat_before (tree.local l ns) = follows (word Local l) (names_before ns)
  stat_before (tree.local_values l ns q es) = follows (word Local l) (follows (names_before ns) (follows (sign Assign q) (list_before es)))

  pub arms_before : (t : Arms) → IsBefore (print_arms t)
  arms_before (tree.if_arm i t h b) = follows (word If i) (follows (exp_before t) (follows (word Then h) (block_before b)))
  arms_before (tree.elseif_arm list i t h b) = follows (arms_before list) (follows (word ElseIf i) (follows (exp_before t) (follows (word Then h) (block_before b))))

  pub last_before : (t : LastStat) → IsBefore (print_laststat t)
  last_before (tree.return_none r) = word Return r
  last_before (tree.return_values r es) = follows (word Return r) (list_before es)
  last_before (tree.break_ b) = word Break b

  pub vars_before : (t : VarList) → IsBefore (print_varlist t)
  vars_before (tree.one_var p) = prefix_before p
  vars_before (tree.more_vars vs c p) = follows (vars_before vs) (follows (sign Comma c) (prefix_before p))
