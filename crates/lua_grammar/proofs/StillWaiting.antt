-- ComesNext the tokens of a valid tree, whatever comes next, a reader of the tree waits for a token.
use Rattle.std.proofs.Common.{◌≡◌, ℕ, ◌≤◌, Bool, true, [], refl, ap, sym, subst, ◌∙◌, arith}
use Rattle.lua_lexer.specs.declared.signs.Sign.TheVariants as sign
use Rattle.lua_lexer.specs.declared.words.Word.TheVariants as word
use Rattle.lua_grammar.specs.Operators.{kind_of, right_level}
use Rattle.lua_grammar.specs.Tree.{Line, Exp, PrefixExp, ExpList, Block, Stats, Stat, VarList, Arms, LastStat, Field, Fields, Table}
use Rattle.lua_grammar.specs.Tree as tree
use Rattle.lua_grammar.specs.Printing.{a_kind, a_word, a_sign, print_exp, print_prefixexp, print_explist, print_field, print_stats, print_stat, print_laststat, print_varlist, print_block}
use Rattle.lua_grammar.specs.Validity.{IsValid, IsValidField, IsValidBlock, IsValidPrefix, AreValid, AreValidStats, IsValidStat, IsValidLast, AreValidVars, exp_level}
use Rattle.lua_grammar.specs.Waiting.{Reader, IsWaiting, token, exp, more_exp, more_prefix, more_list, more_fields, more_names, more_stats, after_local, after_return}
use Rattle.lua_grammar.specs.Reading.{block, after_field, list, local_, no_rest, next_statement, last_statement, next_target, assigns_or_calls, begin_prefix, run}
use Rattle.lua_grammar.specs.Stopping.{LastStatStops}
use Rattle.lua_grammar.proofs.Grouping.{levels_of, within_left}
use Rattle.lua_grammar.proofs.Stopping.{last_stops, stops, stops_at, at_least_one, exp_goes_on}
use Rattle.lua_grammar.proofs.Starts.{list_alike, block_stops, stats_stop, stat_stops, stat_follows, last_follows}
use Rattle.lua_grammar.proofs.FieldNames.{exp_alike_but_named}
use Rattle.lua_grammar.proofs.ReadingTrees.{BeginsPrefix, fields_alike, return_alike, unary_begins, names_read, exp_read, prefix_read, list_read, table_read, body_read, block_read, stats_read, stat_read, last_read, vars_read}

pub waits_as : (r q : Reader) → r ≡ q → IsWaiting q → IsWaiting r
waits_as r q is h = subst IsWaiting (sym is) h

pub exp_waits : (e : Exp) (rest : Bool) (m : ℕ) (k : Exp → Reader) → IsValid rest e → m ≤ exp_level e → IsWaiting (run (exp m k) (print_exp e []))
unfolding print_exp IsValid
exp_waits (tree.nil l) rest m k v h = tt
exp_waits (tree.false_ l) rest m k v h = tt
exp_waits (tree.true_ l) rest m k v h = tt
exp_waits (tree.number l n) rest m k v h = tt
exp_waits (tree.string l bytes) rest m k v h = tt
exp_waits (tree.dots l) rest m k v h = tt
exp_waits (tree.function l b) rest m k v h = waits_as _ (more_exp m (tree.function l b) k) (body_read b _ (λ b. more_exp m (tree.function l b) k) [] (λ o. refl) v) tt
exp_waits (tree.prefix p) rest m k v h =
    waits_as _ (more_prefix p (λ p. more_exp m (tree.prefix p) k))
    (prefix_read p rest (exp m k) (λ p. more_exp m (tree.prefix p) k) [] (record { name = λ n l. refl; paren = λ o. refl }) v) tt
exp_waits (tree.table t) rest m k v h =
    waits_as _ (more_exp m (tree.table t) k) (table_read t rest (exp m k) (λ t. more_exp m (tree.table t) k) [] (λ o. refl) v) tt
exp_waits (tree.binary a op l b) rest m k v h =
    let left = within_left _ _ _ (levels_of op) in
    let operand = v.2 in
    waits_as _ (run (exp (right_level op) (λ b. more_exp m (tree.binary a op l b) k)) (print_exp b []))
    (exp_read a rest m k (a_kind (kind_of op) l (print_exp b [])) v.0 (omega (arith, h, left, operand)) (stops_at rest a op l (print_exp b []) v.0 v.2)
    ∙ ap (λ r. run r (print_exp b [])) (exp_goes_on m a op l k h))
    (exp_waits b rest (right_level op) (λ b. more_exp m (tree.binary a op l b) k) v.1 v.3)
exp_waits (tree.unary op l e) rest m k v h =
    waits_as _ (run (exp 7 (λ e. more_exp m (tree.unary op l e) k)) (print_exp e []))
    (ap (λ r. run r (print_exp e [])) (unary_begins op m l k))
    (exp_waits e rest 7 (λ e. more_exp m (tree.unary op l e) k) v.0 v.1)

pub prefix_waits : (p : PrefixExp) (rest : Bool) (k : PrefixExp → Reader) → IsValidPrefix rest p → IsWaiting (run (token (begin_prefix k)) (print_prefixexp p []))
prefix_waits p rest k v = waits_as _ (more_prefix p k) (prefix_read p rest (token (begin_prefix k)) k [] (record { name = λ n l. refl; paren = λ o. refl }) v) tt

-- fields of a table: after a name alone the reader waits for `=` or for what goes on with the name
plain_waits : (e : Exp) (rest : Bool) (o : Line) (fs : Fields) (k : Table → Reader) → IsValid rest e → IsWaiting (run (more_fields o fs k) (print_exp e []))
unfolding print_exp IsValid
plain_waits (tree.prefix (tree.variable l n)) rest o fs k v = tt
plain_waits e rest o fs k v =
    let next : Exp → Reader = λ e. token (after_field o fs k (tree.plain e)) in
    waits_as _ (run (exp 1 next) (print_exp e []))
    (exp_alike_but_named e (more_fields o fs k) (exp 1 next) [] (fields_alike o fs k) (λ lone. absurd lone))
    (exp_waits e rest 1 next v (at_least_one e))

pub field_waits : (f : Field) (rest : Bool) (o : Line) (fs : Fields) (k : Table → Reader) → IsValidField rest f → IsWaiting (run (more_fields o fs k) (print_field f []))
unfolding print_exp IsValid
field_waits (tree.keyed b key c q e) rest o fs k v =
    let next : Exp → Reader = λ e. token (after_field o fs k (tree.keyed b key c q e)) in
    waits_as _ (run (exp 1 next) (print_exp e []))
    (exp_read key rest 1 _ _ v.0 (at_least_one key) (stops key _ (λ m. refl) (λ h. tt)))
    (exp_waits e rest 1 next v.1 (at_least_one e))
field_waits (tree.named at n q e) rest o fs k v = exp_waits e rest 1 (λ e. token (after_field o fs k (tree.named at n q e))) v (at_least_one e)
field_waits (tree.plain e) rest o fs k v = plain_waits e rest o fs k v

pub list_waits : (es : ExpList) (rest : Bool) (k : ExpList → Reader) → AreValid rest es → IsWaiting (run (list k) (print_explist es []))
unfolding print_exp IsValid
list_waits (tree.one e) rest k v = exp_waits e rest 1 _ v (at_least_one e)
list_waits (tree.more es c e) rest k v =
    waits_as _ (run (exp 1 (λ e. more_list (tree.more es c e) k)) (print_exp e []))
    (list_read es rest k (a_sign sign.Comma c (print_exp e [])) v.0 (last_stops es _ (λ m. refl) (λ h. tt)))
    (exp_waits e rest 1 (λ e. more_list (tree.more es c e) k) v.1 (at_least_one e))

-- ---- statements

pub vars_wait : (vs : VarList) (rest : Bool) (r : Reader) (k : Stat → Reader) → BeginsPrefix r (assigns_or_calls k) → AreValidVars rest vs → IsWaiting (run r (print_varlist vs []))
unfolding print_exp IsValid
vars_wait (tree.one_var p) rest r k b v = waits_as _ (more_prefix p (assigns_or_calls k)) (prefix_read p rest r _ [] b v.0) tt
vars_wait (tree.more_vars vs c p) rest r k b v =
    waits_as _ (more_prefix p (next_target vs c k))
    (vars_read vs rest r k (a_sign sign.Comma c (print_prefixexp p [])) b v.0 tt
    ∙ prefix_read p rest (token (begin_prefix (next_target vs c k))) (next_target vs c k) [] (record { name = λ n l. refl; paren = λ o. refl }) v.1)
    tt

pub stat_waits : (s : Stat) (rest : Bool) (loop : Bool) (ss : Stats) (k : Block → Reader) → IsValidStat rest loop s → IsWaiting (run (more_stats ss k) (print_stat s []))
unfolding print_exp IsValid
stat_waits (tree.assign vs q es) rest loop ss k v =
    waits_as _ (run (list (λ es. next_statement ss k (tree.assign vs q es))) (print_explist es []))
    (vars_read vs rest (more_stats ss k) (next_statement ss k) (a_sign sign.Assign q (print_explist es [])) (record { name = λ n l. refl; paren = λ o. refl }) v.0 tt)
    (list_waits es rest (λ es. next_statement ss k (tree.assign vs q es)) v.1)
stat_waits (tree.call_statement p) rest loop ss k v =
    waits_as _ (more_prefix p (assigns_or_calls (next_statement ss k)))
    (prefix_read p rest (more_stats ss k) (assigns_or_calls (next_statement ss k)) [] (record { name = λ n l. refl; paren = λ o. refl }) v.0) tt
stat_waits (tree.repeat_loop r c u t) rest loop ss k v =
    waits_as _ (run (exp 1 (λ t. next_statement ss k (tree.repeat_loop r c u t))) (print_exp t []))
    (block_read c rest true _ (a_word word.Until u (print_exp t [])) v.0 (block_stops c _ tt))
    (exp_waits t rest 1 (λ t. next_statement ss k (tree.repeat_loop r c u t)) v.1 (at_least_one t))
stat_waits (tree.local l ns) rest loop ss k v =
    waits_as _ (more_names ns (λ ns. after_local l ns (next_statement ss k)) no_rest) (names_read ns (token (local_ l (next_statement ss k))) (λ ns. after_local l ns (next_statement ss k)) no_rest [] (λ n l. refl)) tt
stat_waits (tree.local_values l ns q es) rest loop ss k v =
    waits_as _ (run (list (λ es. next_statement ss k (tree.local_values l ns q es))) (print_explist es []))
    (names_read ns (token (local_ l (next_statement ss k))) (λ ns. after_local l ns (next_statement ss k)) no_rest (a_sign sign.Assign q (print_explist es [])) (λ n l. refl))
    (list_waits es rest (λ es. next_statement ss k (tree.local_values l ns q es)) v)
stat_waits s rest loop ss k v = waits_as _ (next_statement ss k s) (stat_read s rest loop ss k [] v tt) tt

pub stats_wait : (ss : Stats) (rest : Bool) (loop : Bool) (k : Block → Reader) → AreValidStats rest loop ss → IsWaiting (run (block k) (print_stats ss []))
unfolding print_exp IsValid
stats_wait tree.no_stats rest loop k v = tt
stats_wait (tree.more_stats ss s tree.bare) rest loop k v =
    waits_as _ (run (more_stats ss k) (print_stat s []))
    (stats_read ss rest loop k (print_stat s []) v.0 (stats_stop ss _ (stat_follows ss s [] v.2)))
    (stat_waits s rest loop ss k v.1)
stats_wait (tree.more_stats ss s (tree.closed l)) rest loop k v =
    waits_as _ (more_stats (tree.more_stats ss s (tree.closed l)) k)
    (stats_read ss rest loop k (print_stat s (a_sign sign.Semicolon l [])) v.0 (stats_stop ss _ (stat_follows ss s (a_sign sign.Semicolon l []) v.2))
    ∙ stat_read s rest loop ss k (a_sign sign.Semicolon l []) v.1 (stat_stops s _ (record { next = tt; apart = λ ends. tt })))
    tt

-- after the last statement of a block a `;`
last_closed : (s : LastStat) (l : Line) → LastStatStops s (a_sign sign.Semicolon l [])
last_closed (tree.return_none r) l = tt
last_closed (tree.return_values r es) l = (last_stops es _ (λ m. refl) (λ ends. tt), tt)
last_closed (tree.break_ b) l = tt

last_waits : (s : LastStat) (rest : Bool) (loop : Bool) (ss : Stats) (k : Block → Reader) → IsValidLast rest loop s → IsWaiting (run (more_stats ss k) (print_laststat s []))
unfolding print_exp IsValid
last_waits (tree.return_none r) rest loop ss k v = tt
last_waits (tree.return_values r es) rest loop ss k v =
    waits_as _ (run (list (λ es. last_statement ss k (tree.return_values r es))) (print_explist es []))
    (list_alike es (after_return r (last_statement ss k)) (list (λ es. last_statement ss k (tree.return_values r es))) [] (return_alike r (last_statement ss k)))
    (list_waits es rest (λ es. last_statement ss k (tree.return_values r es)) v)
last_waits (tree.break_ b) rest loop ss k v = tt

pub block_waits : (b : Block) (rest : Bool) (loop : Bool) (k : Block → Reader) → IsValidBlock rest loop b → IsWaiting (k b) → IsWaiting (run (block k) (print_block b []))
unfolding print_exp IsValid
block_waits (tree.statements ss) rest loop k v waits = stats_wait ss rest loop k v
block_waits (tree.with_last ss s tree.bare) rest loop k v waits =
    waits_as _ (run (more_stats ss k) (print_laststat s [])) (stats_read ss rest loop k _ v.0 (stats_stop ss _ (last_follows ss s []))) (last_waits s rest loop ss k v.1)
block_waits (tree.with_last ss s (tree.closed l)) rest loop k v waits =
    let end = a_sign sign.Semicolon l [] in
    waits_as _ (k (tree.with_last ss s (tree.closed l)))
    (stats_read ss rest loop k _ v.0 (stats_stop ss _ (last_follows ss s end)) ∙ last_read s rest loop ss k (tree.closed l) [] v.1 (last_closed s l) tt)
    waits
