-- The reader reads each tree from its tokens.
use Rattle.std.proofs.Common.{◌≡◌, ℕ, ◌≤◌, Bool, true, false, List, refl, ap, sym, ◌∙◌, true≢false, arith}
use Rattle.lua_ast.specs.declared.expressions.UnOp.{UnOp}
use Rattle.lua_ast.specs.declared.expressions.UnOp.TheVariants as unary
use Rattle.lua_lexer.specs.declared.tokens.TokenKind.{TokenKind}
use Rattle.lua_lexer.specs.declared.tokens.TokenKind.TheVariants.{Name, Text, Word, Sign}
use Rattle.lua_lexer.specs.declared.signs.Sign.TheVariants as sign
use Rattle.lua_lexer.specs.declared.words.Word.TheVariants as word
use Rattle.lua_grammar.specs.Operators.{kind_of, kind_of_unary, right_level}
use Rattle.lua_grammar.specs.Tree.{Line, Bytes, NameList, Params, FuncName, End, Exp, PrefixExp, Args, ExpList, Table, Fields, Field, FuncBody, Block, Stats, Stat, Arms, LastStat, VarList}
use Rattle.lua_grammar.specs.Tree as tree
use Rattle.lua_grammar.specs.Printing.{Lexeme, a_kind, a_word, a_sign, print_names, print_params, print_funcname, print_end, print_exp, print_prefixexp, print_args, print_explist, print_table, print_fields, print_field, print_funcbody, print_block, print_stats, print_stat, print_arms, print_laststat, print_varlist}
use Rattle.lua_grammar.specs.Validity.{takes_vararg, IsValid, IsValidPrefix, IsValidArgs, AreValid, IsValidTable, AreValidFields, IsValidField, IsValidBody, IsValidBlock, AreValidStats, IsValidStat, AreValidArms, IsValidLast, AreValidVars, exp_level}
use Rattle.lua_grammar.proofs.Grouping.{levels_of, within_left}
use Rattle.lua_grammar.specs.Waiting.{Reader, token, exp, more_exp, more_prefix, more_list, more_fields, more_names, more_funcname, more_vars, more_arms, more_stats, after_return, close_parenthesis}
use Rattle.lua_grammar.specs.Reading.{block, list, params, body_after, args, begin_args, after_field, no_rest, next_statement, last_statement, assigns_or_calls, next_target, feed, run}
use Rattle.lua_grammar.specs.Stopping.{ComesNext, IsNoAssign, FieldStops, IsApart, Stops, LastStops, EndStops, StatStops, StatsStop, LastStatStops, BlockStops, ArmsStop}
use Rattle.lua_grammar.proofs.Stopping.{stops, last_stops, names_end, stops_at, at_least_one, exp_goes_on, exp_ends, prefix_ends, list_ends, local_ends, calls, assigns, assigns_next, block_ends, statement_ends, return_ends}
use Rattle.lua_grammar.proofs.Starts.{Alike, begins, list_alike, stat_follows, last_follows, stats_stop, block_stops, arms_stop}
use Rattle.lua_grammar.proofs.FieldNames.{AlikeButNamed, exp_alike_but_named, field_stops}

-- ---- names

pub names_read : (ns : NameList) (r : Reader) (k : NameList → Reader) (rest : NameList → Line → Line → Reader) (after : List Lexeme)
    → ((n : Bytes) (l : Line) → feed r (Name n) l ≡ more_names (tree.first_name l n) k rest) → run r (print_names ns after) ≡ run (more_names ns k rest) after
names_read (tree.first_name l n) r k rest after h = ap (λ r. run r after) (h n l)
names_read (tree.next_name ns c l n) r k rest after h = names_read ns r k rest _ h

pub params_read : (ps : Params) (o : Line) (k : FuncBody → Reader) (c : Line) (after : List Lexeme)
    → run (token (params o k)) (print_params ps (a_sign sign.CloseParenthesis c after)) ≡ run (body_after o k ps c) after
params_read tree.no_params o k c after = refl
params_read (tree.names ns) o k c after = names_read ns _ _ _ _ (λ n l. refl)
params_read (tree.names_and_vararg ns d l) o k c after = names_read ns _ _ _ _ (λ n l. refl)
params_read (tree.only_vararg d) o k c after = refl

pub funcname_read : (f : FuncName) (r : Reader) (k : FuncName → Reader) (after : List Lexeme)
    → ((n : Bytes) (l : Line) → feed r (Name n) l ≡ more_funcname (tree.root_name l n) k) → run r (print_funcname f after) ≡ run (more_funcname f k) after
funcname_read (tree.root_name l n) r k after h = ap (λ r. run r after) (h n l)
funcname_read (tree.name_member f d l n) r k after h = funcname_read f r k _ h

-- ---- what begins as a production does

pub record BeginsPrefix (r : Reader) (k : PrefixExp → Reader) : Type 0 where
  pub name : (n : Bytes) (l : Line) → feed r (Name n) l ≡ more_prefix (tree.variable l n) k
  pub paren : (o : Line) → feed r (Sign sign.OpenParenthesis) o ≡ exp 1 (λ e. token (close_parenthesis (λ c. more_prefix (tree.paren o e c) k)))

pub record BeginsArgs (r : Reader) (k : Args → Reader) : Type 0 where
  pub open_ : (o : Line) → feed r (Sign sign.OpenParenthesis) o ≡ token (args o k)
  pub brace : (o : Line) → feed r (Sign sign.OpenBrace) o ≡ more_fields o tree.no_fields (λ t. k (tree.table_arg t))
  pub text : (bytes : Bytes) (l : Line) → feed r (Text bytes) l ≡ k (tree.string_arg l bytes)

pub unary_begins : (op : UnOp) (m : ℕ) (l : Line) (k : Exp → Reader) → feed (exp m k) (kind_of_unary op) l ≡ exp 7 (λ e. more_exp m (tree.unary op l e) k)
unary_begins unary.Not m l k = refl
unary_begins unary.Length m l k = refl
unary_begins unary.Minus m l k = refl

args_alike : (o : Line) (k : Args → Reader) → Alike (token (args o k)) (list (λ es. token (close_parenthesis (λ c. k (tree.args o es c)))))
args_alike o k (Sign sign.CloseParenthesis) l h = absurd (true≢false (sym h))
args_alike o k kind l h = refl

pub return_alike : (r : Line) (k : LastStat → Reader) → Alike (after_return r k) (list (λ es. k (tree.return_values r es)))
return_alike r k (Sign sign.Semicolon) l h = absurd (true≢false (sym h))
return_alike r k (Word word.End) l h = absurd (true≢false (sym h))
return_alike r k (Word word.Else) l h = absurd (true≢false (sym h))
return_alike r k (Word word.ElseIf) l h = absurd (true≢false (sym h))
return_alike r k (Word word.Until) l h = absurd (true≢false (sym h))
return_alike r k kind l h = refl

pub fields_alike : (o : Line) (fs : Fields) (k : Table → Reader) → AlikeButNamed (more_fields o fs k) (exp 1 (λ e. token (after_field o fs k (tree.plain e))))
fields_alike o fs k = record { others = others; name = name }
  where
    others : (kind : TokenKind) (l : Line) → begins kind ≡ true → ((n : Bytes) → kind ≡ Name n → ⊥) →
        feed (more_fields o fs k) kind l ≡ feed (exp 1 (λ e. token (after_field o fs k (tree.plain e)))) kind l
    others (Sign sign.CloseBrace) l h not = absurd (true≢false (sym h))
    others (Sign sign.OpenBracket) l h not = absurd (true≢false (sym h))
    others (Name n) l h not = absurd (not n refl)
    others kind l h not = refl

    name : (n : Bytes) (l : Line) (next : TokenKind) (m : Line) → IsNoAssign next →
        feed (feed (more_fields o fs k) (Name n) l) next m ≡ feed (feed (exp 1 (λ e. token (after_field o fs k (tree.plain e)))) (Name n) l) next m
    name n l (Sign sign.Assign) m h = absurd h
    name n l next m h = refl

-- ---- all productions

mutual
  unfolding print_exp IsValid

  pub exp_read : (e : Exp) (rest : Bool) (m : ℕ) (k : Exp → Reader) (after : List Lexeme) → IsValid rest e → m ≤ exp_level e → Stops e after
      → run (exp m k) (print_exp e after) ≡ run (more_exp m e k) after
  exp_read (tree.nil l) rest m k after v h s = refl
  exp_read (tree.false_ l) rest m k after v h s = refl
  exp_read (tree.true_ l) rest m k after v h s = refl
  exp_read (tree.number l n) rest m k after v h s = refl
  exp_read (tree.string l bytes) rest m k after v h s = refl
  exp_read (tree.dots l) rest m k after v h s = refl
  exp_read (tree.function l b) rest m k after v h s = body_read b _ (λ b. more_exp m (tree.function l b) k) after (λ o. refl) v
  exp_read (tree.prefix p) rest m k after v h s =
      prefix_read p rest (exp m k) (λ p. more_exp m (tree.prefix p) k) after (record { name = λ n l. refl; paren = λ o. refl }) v ∙ prefix_ends p _ after s
  exp_read (tree.table t) rest m k after v h s = table_read t rest (exp m k) (λ t. more_exp m (tree.table t) k) after (λ o. refl) v
  exp_read (tree.binary a op l b) rest m k after v h s =
      let left = within_left _ _ _ (levels_of op) in
      let operand = v.2 in
      exp_read a rest m k (a_kind (kind_of op) l (print_exp b after)) v.0 (omega (arith, h, left, operand)) (stops_at rest a op l (print_exp b after) v.0 v.2)
      ∙ ap (λ r. run r (print_exp b after)) (exp_goes_on m a op l k h)
      ∙ exp_read b rest (right_level op) (λ b. more_exp m (tree.binary a op l b) k) after v.1 v.3 s.1
      ∙ exp_ends (right_level op) b _ after s.0
  exp_read (tree.unary op l e) rest m k after v h s =
      ap (λ r. run r (print_exp e after)) (unary_begins op m l k)
      ∙ exp_read e rest 7 (λ e. more_exp m (tree.unary op l e) k) after v.0 v.1 s.1
      ∙ exp_ends 7 e _ after s.0

  pub prefix_read : (p : PrefixExp) (rest : Bool) (r : Reader) (k : PrefixExp → Reader) (after : List Lexeme) → BeginsPrefix r k → IsValidPrefix rest p
      → run r (print_prefixexp p after) ≡ run (more_prefix p k) after
  prefix_read (tree.variable l n) rest r k after b v = ap (λ r. run r after) (b.name n l)
  prefix_read (tree.paren o e c) rest r k after b v =
      ap (λ r. run r (print_exp e (a_sign sign.CloseParenthesis c after))) (b.paren o)
      ∙ exp_read e rest 1 _ _ v.0 (at_least_one e) (stops e _ (λ m. refl) (λ h. tt))
  prefix_read (tree.item p o e c) rest r k after b v =
      prefix_read p rest r k _ b v.0 ∙ exp_read e rest 1 _ _ v.1 (at_least_one e) (stops e _ (λ m. refl) (λ h. tt))
  prefix_read (tree.member p d l n) rest r k after b v = prefix_read p rest r k _ b v.0
  prefix_read (tree.call p a) rest r k after b v =
      prefix_read p rest r k (print_args a after) b v.0
      ∙ args_read a rest (more_prefix p k) (λ a. more_prefix (tree.call p a) k) after (record { open_ = λ o. refl; brace = λ o. refl; text = λ bytes l. refl }) v.1
  prefix_read (tree.method p c l n a) rest r k after b v =
      prefix_read p rest r k _ b v.0
      ∙ args_read a rest (token (begin_args (λ a. more_prefix (tree.method p c l n a) k))) (λ a. more_prefix (tree.method p c l n a) k) after (record { open_ = λ o. refl; brace = λ o. refl; text = λ bytes l. refl }) v.1

  pub args_read : (a : Args) (rest : Bool) (r : Reader) (k : Args → Reader) (after : List Lexeme) → BeginsArgs r k → IsValidArgs rest a
      → run r (print_args a after) ≡ run (k a) after
  args_read (tree.no_args o c) rest r k after b v = ap (λ r. run r (a_sign sign.CloseParenthesis c after)) (b.open_ o)
  args_read (tree.args o es c) rest r k after b v =
      ap (λ r. run r (print_explist es (a_sign sign.CloseParenthesis c after))) (b.open_ o)
      ∙ list_alike es _ _ _ (args_alike o k)
      ∙ list_read es rest _ _ v (last_stops es _ (λ m. refl) (λ h. tt))
  args_read (tree.table_arg t) rest r k after b v = table_read t rest r (λ t. k (tree.table_arg t)) after b.brace v
  args_read (tree.string_arg l bytes) rest r k after b v = ap (λ r. run r after) (b.text bytes l)

  pub list_read : (es : ExpList) (rest : Bool) (k : ExpList → Reader) (after : List Lexeme) → AreValid rest es → LastStops es after
      → run (list k) (print_explist es after) ≡ run (more_list es k) after
  list_read (tree.one e) rest k after v h =
      exp_read e rest 1 _ after v (at_least_one e) h.0 ∙ exp_ends 1 e _ after h.1
  list_read (tree.more es c e) rest k after v h =
      list_read es rest k _ v.0 (last_stops es _ (λ m. refl) (λ h. tt))
      ∙ exp_read e rest 1 (λ e. more_list (tree.more es c e) k) after v.1 (at_least_one e) h.0
      ∙ exp_ends 1 e _ after h.1

  pub table_read : (t : Table) (rest : Bool) (r : Reader) (k : Table → Reader) (after : List Lexeme)
      → ((o : Line) → feed r (Sign sign.OpenBrace) o ≡ more_fields o tree.no_fields k) → IsValidTable rest t → run r (print_table t after) ≡ run (k t) after
  table_read (tree.separated o fs c) rest r k after b v =
      ap (λ r. run r (print_fields fs (a_sign sign.CloseBrace c after))) (b o) ∙ fields_read fs rest o k _ v.0
  table_read (tree.ending o fs f c) rest r k after b v =
      ap (λ r. run r (print_fields fs (print_field f (a_sign sign.CloseBrace c after)))) (b o)
      ∙ fields_read fs rest o k _ v.0
      ∙ field_read f rest o fs k (a_sign sign.CloseBrace c after) (field_stops f (a_sign sign.CloseBrace c after) (λ m. refl) tt tt) v.1

  pub fields_read : (fs : Fields) (rest : Bool) (o : Line) (k : Table → Reader) (after : List Lexeme) → AreValidFields rest fs
      → run (more_fields o tree.no_fields k) (print_fields fs after) ≡ run (more_fields o fs k) after
  fields_read tree.no_fields rest o k after v = refl
  fields_read (tree.more_fields fs f (tree.comma l)) rest o k after v =
      fields_read fs rest o k _ v.0
      ∙ field_read f rest o fs k (a_sign sign.Comma l after) (field_stops f (a_sign sign.Comma l after) (λ m. refl) tt tt) v.1
  fields_read (tree.more_fields fs f (tree.semicolon l)) rest o k after v =
      fields_read fs rest o k _ v.0
      ∙ field_read f rest o fs k (a_sign sign.Semicolon l after) (field_stops f (a_sign sign.Semicolon l after) (λ m. refl) tt tt) v.1

  pub field_read : (f : Field) (rest : Bool) (o : Line) (fs : Fields) (k : Table → Reader) (after : List Lexeme) → FieldStops f after
      → IsValidField rest f → run (more_fields o fs k) (print_field f after) ≡ run (token (after_field o fs k f)) after
  field_read (tree.keyed b key c q e) rest o fs k after x v =
      let next : Exp → Reader = λ e. token (after_field o fs k (tree.keyed b key c q e)) in
      exp_read key rest 1 _ _ v.0 (at_least_one key) (stops key _ (λ m. refl) (λ h. tt))
      ∙ exp_read e rest 1 next after v.1 (at_least_one e) x.0
      ∙ exp_ends 1 e next after x.1
  field_read (tree.named at n q e) rest o fs k after x v =
      let next : Exp → Reader = λ e. token (after_field o fs k (tree.named at n q e)) in
      exp_read e rest 1 next after v (at_least_one e) x.0 ∙ exp_ends 1 e next after x.1
  field_read (tree.plain e) rest o fs k after x v =
      let next : Exp → Reader = λ e. token (after_field o fs k (tree.plain e)) in
      exp_alike_but_named e (more_fields o fs k) (exp 1 next) after (fields_alike o fs k) x.2
      ∙ exp_read e rest 1 next after v (at_least_one e) x.0
      ∙ exp_ends 1 e next after x.1

  pub body_read : (b : FuncBody) (r : Reader) (k : FuncBody → Reader) (after : List Lexeme)
      → ((o : Line) → feed r (Sign sign.OpenParenthesis) o ≡ token (params o k)) → IsValidBody b → run r (print_funcbody b after) ≡ run (k b) after
  body_read (tree.function_body o ps c b x) r k after h v =
      ap (λ r. run r (print_params ps (a_sign sign.CloseParenthesis c (print_block b (a_word word.End x after))))) (h o)
      ∙ params_read ps o k c _
      ∙ block_read b (takes_vararg ps) false _ (a_word word.End x after) v (block_stops b _ tt)

  pub block_read : (b : Block) (rest : Bool) (loop : Bool) (k : Block → Reader) (after : List Lexeme) → IsValidBlock rest loop b → BlockStops b after
      → run (block k) (print_block b after) ≡ run (k b) after
  block_read (tree.statements ss) rest loop k after v h = stats_read ss rest loop k after v h.0 ∙ block_ends ss k after h.1
  block_read (tree.with_last ss s x) rest loop k after v h =
      stats_read ss rest loop k _ v.0 (stats_stop ss _ (last_follows ss s (print_end x after))) ∙ last_read s rest loop ss k x after v.1 h.0 h.1

  pub stats_read : (ss : Stats) (rest : Bool) (loop : Bool) (k : Block → Reader) (after : List Lexeme) → AreValidStats rest loop ss → StatsStop ss after
      → run (block k) (print_stats ss after) ≡ run (more_stats ss k) after
  stats_read tree.no_stats rest loop k after v f = refl
  stats_read (tree.more_stats ss s x) rest loop k after v f =
      stats_read ss rest loop k _ v.0 (stats_stop ss _ (stat_follows ss s (print_end x after) v.2))
      ∙ stat_read s rest loop ss k (print_end x after) v.1 f.0
      ∙ statement_ends x _ after f.1

  pub last_read : (s : LastStat) (rest : Bool) (loop : Bool) (ss : Stats) (k : Block → Reader) (x : End) (after : List Lexeme) → IsValidLast rest loop s
      → LastStatStops s (print_end x after) → EndStops x after → run (more_stats ss k) (print_laststat s (print_end x after)) ≡ run (k (tree.with_last ss s x)) after
  last_read (tree.return_none r) rest loop ss k x after v h end = return_ends r (last_statement ss k) (print_end x after) h ∙ statement_ends x _ after end
  last_read (tree.return_values r es) rest loop ss k x after v h end =
      list_alike es (after_return r (last_statement ss k)) _ (print_end x after) (return_alike r (last_statement ss k))
      ∙ list_read es rest _ (print_end x after) v h.0
      ∙ list_ends es _ (print_end x after) h.1
      ∙ statement_ends x _ after end
  last_read (tree.break_ b) rest loop ss k x after v h end = statement_ends x _ after end

  pub stat_read : (s : Stat) (rest : Bool) (loop : Bool) (ss : Stats) (k : Block → Reader) (after : List Lexeme) → IsValidStat rest loop s
      → StatStops s after → run (more_stats ss k) (print_stat s after) ≡ run (next_statement ss k s) after
  stat_read (tree.assign vs q es) rest loop ss k after v b =
      vars_read vs rest (more_stats ss k) (next_statement ss k) _ (record { name = λ n l. refl; paren = λ o. refl }) v.0 tt
      ∙ list_read es rest _ after v.1 b.0
      ∙ list_ends es _ after b.1
  stat_read (tree.call_statement p) rest loop ss k after v b =
      prefix_read p rest (more_stats ss k) (assigns_or_calls (next_statement ss k)) after (record { name = λ n l. refl; paren = λ o. refl }) v.0
      ∙ prefix_ends p _ after b
      ∙ ap (λ r. run r after) (calls p (next_statement ss k) v.1)
  stat_read (tree.do_block d c x) rest loop ss k after v b = block_read c rest loop _ _ v (block_stops c _ tt)
  stat_read (tree.while_loop w t d c x) rest loop ss k after v b =
      exp_read t rest 1 _ _ v.0 (at_least_one t) (stops t _ (λ m. refl) (λ h. tt)) ∙ block_read c rest true _ _ v.1 (block_stops c _ tt)
  stat_read (tree.repeat_loop r c u t) rest loop ss k after v b =
      block_read c rest true _ _ v.0 (block_stops c _ tt)
      ∙ exp_read t rest 1 _ after v.1 (at_least_one t) b.0
      ∙ exp_ends 1 t _ after b.1
  stat_read (tree.if_then arms x) rest loop ss k after v b = arms_read arms rest loop ss k _ v (arms_stop arms _ tt)
  stat_read (tree.if_else arms l c x) rest loop ss k after v b = arms_read arms rest loop ss k _ v.0 (arms_stop arms _ tt) ∙ block_read c rest loop _ _ v.1 (block_stops c _ tt)
  stat_read (tree.for_range f l n q from c to d inner x) rest loop ss k after v b =
      exp_read from rest 1 _ _ v.0 (at_least_one from) (stops from _ (λ m. refl) (λ h. tt))
      ∙ exp_read to rest 1 _ _ v.1 (at_least_one to) (stops to _ (λ m. refl) (λ h. tt))
      ∙ block_read inner rest true _ _ v.2 (block_stops inner _ tt)
  stat_read (tree.for_steps f l n q from c to m step d inner x) rest loop ss k after v b =
      exp_read from rest 1 _ _ v.0 (at_least_one from) (stops from _ (λ m. refl) (λ h. tt))
      ∙ exp_read to rest 1 _ _ v.1 (at_least_one to) (stops to _ (λ m. refl) (λ h. tt))
      ∙ exp_read step rest 1 _ _ v.2 (at_least_one step) (stops step _ (λ m. refl) (λ h. tt))
      ∙ block_read inner rest true _ _ v.3 (block_stops inner _ tt)
  stat_read (tree.for_in f ns i es d inner x) rest loop ss k after v b =
      names_read ns _ _ no_rest _ (λ n l. refl)
      ∙ list_read es rest _ _ v.0 (last_stops es _ (λ m. refl) (λ h. tt))
      ∙ block_read inner rest true _ _ v.1 (block_stops inner _ tt)
  stat_read (tree.function_statement f n inner) rest loop ss k after v b =
      funcname_read n _ _ _ (λ n l. refl) ∙ body_read inner _ (λ b. next_statement ss k (tree.function_statement f n b)) after (λ o. refl) v.0
  stat_read (tree.method_statement f n c l m inner) rest loop ss k after v b =
      funcname_read n _ _ _ (λ n l. refl) ∙ body_read inner _ (λ b. next_statement ss k (tree.method_statement f n c l m b)) after (λ o. refl) v.0
  stat_read (tree.local_function l f m n inner) rest loop ss k after v b = body_read inner _ (λ b. next_statement ss k (tree.local_function l f m n b)) after (λ o. refl) v
  stat_read (tree.local l ns) rest loop ss k after v b =
      names_read ns _ _ no_rest after (λ n l. refl) ∙ names_end ns _ no_rest after b.0 ∙ local_ends l ns (next_statement ss k) after b.1
  stat_read (tree.local_values l ns q es) rest loop ss k after v b =
      names_read ns _ _ no_rest _ (λ n l. refl)
      ∙ list_read es rest _ after v b.0
      ∙ list_ends es _ after b.1

  pub arms_read : (arms : Arms) (rest : Bool) (loop : Bool) (ss : Stats) (k : Block → Reader) (after : List Lexeme) → AreValidArms rest loop arms
      → ArmsStop arms after → run (more_stats ss k) (print_arms arms after) ≡ run (more_arms arms (next_statement ss k)) after
  arms_read (tree.if_arm i t h b) rest loop ss k after v x =
      exp_read t rest 1 _ _ v.0 (at_least_one t) (stops t _ (λ m. refl) (λ h. tt)) ∙ block_read b rest loop _ after v.1 x
  arms_read (tree.elseif_arm arms i t h b) rest loop ss k after v x =
      arms_read arms rest loop ss k _ v.0 (arms_stop arms _ tt)
      ∙ exp_read t rest 1 _ _ v.1 (at_least_one t) (stops t _ (λ m. refl) (λ h. tt))
      ∙ block_read b rest loop _ after v.2 x

  pub vars_read : (vs : VarList) (rest : Bool) (r : Reader) (k : Stat → Reader) (after : List Lexeme) → BeginsPrefix r (assigns_or_calls k)
      → AreValidVars rest vs → ComesNext IsApart after → run r (print_varlist vs after) ≡ run (more_vars vs k) after
  vars_read (tree.one_var p) rest r k after b v a =
      prefix_read p rest r _ after b v.0 ∙ prefix_ends p _ after a ∙ ap (λ r. run r after) (assigns p k v.1)
  vars_read (tree.more_vars vs c p) rest r k after b v a =
      vars_read vs rest r k _ b v.0 tt
      ∙ prefix_read p rest _ (next_target vs c k) after (record { name = λ n l. refl; paren = λ o. refl }) v.1
      ∙ prefix_ends p _ after a
      ∙ ap (λ r. run r after) (assigns_next p vs c k v.2)
