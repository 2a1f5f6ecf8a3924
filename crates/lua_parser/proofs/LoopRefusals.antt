-- Where `do`, `while` and `repeat` are refused.
use Rattle.std.proofs.Common.{List, refl, sym, ap, subst, arith}
use Rattle.lua_ast.specs.declared.expressions.Expr.{Expr}
use Rattle.lua_ast.specs.declared.statements.Stmt.{Stmt}
use Rattle.lua_lexer.specs.declared.tokens.TokenKind.TheVariants.{Word as WordKind}
use Rattle.lua_lexer.specs.declared.words.Word.TheVariants.{Do, End, Repeat, Until, While}
use Rattle.lua_grammar.specs.Tree.{Line, Exp, Block, Stat}
use Rattle.lua_grammar.specs.Tree as tree
use Rattle.lua_grammar.specs.Waiting.{Reader, token, exp, do_, end_, until_}
use Rattle.lua_grammar.specs.Reading.{block, loop_body, statement}
use Rattle.lua_grammar.proofs.DeadParts.{dead_block, dead_end, dead_until}
use Rattle.lua_grammar.proofs.DeadStatements.{dead_loop_body}
use Rattle.lua_grammar.proofs.Stopping.{at_least_one}
use Rattle.lua_parser_base.specs.declared.faults.ParseFault.{ParseFault}
use Rattle.lua_parser_base.specs.declared.nesting.Nesting.{Nesting}
use Rattle.lua_parser_base.specs.States.{State, Takes}
use Rattle.lua_parser_base.specs.Next.{IsKind, IsTooDeep, Misses, OnAt}
use Rattle.lua_parser_base.specs.Nesting.{IsLooped, IsWithin}
use Rattle.lua_parser_base.specs.ReadsStatements.{ReadsBlock, ReadsScoped, ReadsValue}
use Rattle.lua_parser_base.specs.Fits.{FitsBlock, FitsScoped, FitsStat, FitsValue}
use Rattle.lua_parser_base.specs.Readers.{Moves}
use Rattle.lua_parser_base.specs.Refusals.{Unless}
use Rattle.lua_parser_base.specs.StatementRefusals.{RefusesBlock, RefusesScoped, RefusesStat, RefusesValue}
use Rattle.lua_parser_base.proofs.FittingBlocks.{deep_repeat, do_fits, repeat_block_fits, repeat_test_fits, while_block_fits, while_test_fits}
use Rattle.lua_parser_base.proofs.Moving.{by_token, on, refused_on, supposes_on}
use Rattle.lua_parser_base.proofs.Printed.{exp_ended}
use Rattle.lua_parser_base.proofs.PrintedBlocks.{block_ended}
use Rattle.lua_parser_base.proofs.Refusing.{ends_failed, no_do, no_end, no_until, too_deep}

-- ---- `do`

over_do : (k : Stat → Reader) (line : Line) (s a : State) → Takes (WordKind Do) line s a →
    Moves (token (statement k)) s (block (λ x. token (end_ (λ e. k (tree.do_block line x e))))) a
over_do k line s a taken = by_token (token (statement k)) (WordKind Do) line s a taken

do_supposes : (at : Nesting) (k : Stat → Reader) (line : Line) (s a : State) → Takes (WordKind Do) line s a → Unless (FitsStat at s.scope.enclosing) k →
    Unless (FitsScoped at a.scope.enclosing) (λ x. token (end_ (λ e. k (tree.do_block line x e))))
do_supposes at k line s a taken those = λ x unfit.
    dead_end (λ e. k (tree.do_block line x e)) (λ e. those (tree.do_block line x e) (λ f.
    unfit (subst (λ z. FitsScoped at z.enclosing x) (sym taken.scope) (do_fits at s.scope.enclosing line x e f))))

pub do_refused : (at : Nesting) (line : Line) (s a t : State) (fault : ParseFault) → Takes (WordKind Do) line s a → RefusesScoped at a t fault → RefusesStat at s t fault
do_refused at line s a t fault taken refuses = λ k never suppose.
    refused_on (over_do k line s a taken)
    (refuses (λ x. token (end_ (λ e. k (tree.do_block line x e)))) (λ x l b is. never (tree.do_block line x l) b is)
    (supposes_on fault (do_supposes at k line s a taken) suppose))

pub do_end_refused : (at : Nesting) (line : Line) (s a b t : State) (out : List Stmt) (fault : ParseFault) → Takes (WordKind Do) line s a → ReadsScoped at a out b →
    OnAt (Misses (IsKind (WordKind End)) b t) fault → RefusesStat at s t fault
do_end_refused at line s a b t out fault taken inner missed = λ k never suppose.
    refused_on (on (over_do k line s a taken)
    (block_ended inner.tree at.vararg at.in_loop (λ x. token (end_ (λ e. k (tree.do_block line x e)))) a b inner.printed inner.valid inner.ends))
    (no_end fault _ (λ e. k (tree.do_block line inner.tree e)) b t missed suppose (λ l b is. never (tree.do_block line inner.tree l) b is))

-- ---- `while`

over_while : (k : Stat → Reader) (line : Line) (s a : State) → Takes (WordKind While) line s a →
    Moves (token (statement k)) s (exp 1 (λ t. token (loop_body (λ d x e. k (tree.while_loop line t d x e))))) a
over_while k line s a taken = by_token (token (statement k)) (WordKind While) line s a taken

while_test_supposes : (at : Nesting) (k : Stat → Reader) (line : Line) (s a : State) → Takes (WordKind While) line s a → Unless (FitsStat at s.scope.enclosing) k →
    Unless (FitsValue at a.scope.enclosing) (λ t. token (loop_body (λ d x e. k (tree.while_loop line t d x e))))
while_test_supposes at k line s a taken those = λ t unfit.
    dead_loop_body (λ d x e. k (tree.while_loop line t d x e)) (λ d x e. those (tree.while_loop line t d x e) (λ f.
    unfit (subst (λ z. FitsValue at z.enclosing t) (sym taken.scope) (while_test_fits at s.scope.enclosing line t d x e f))))

pub while_test_refused : (at : Nesting) (line : Line) (s a t : State) (fault : ParseFault) → Takes (WordKind While) line s a → RefusesValue at a t fault → RefusesStat at s t fault
while_test_refused at line s a t fault taken refuses = λ k never suppose.
    refused_on (over_while k line s a taken)
    (refuses (λ t. token (loop_body (λ d x e. k (tree.while_loop line t d x e)))) (supposes_on fault (while_test_supposes at k line s a taken) suppose))

over_while_test : (at : Nesting) (k : Stat → Reader) (line : Line) (s a b : State) (e : Expr) → Takes (WordKind While) line s a → (r : ReadsValue at a e b) →
    Moves (token (statement k)) s (token (do_ (λ d. block (λ x. token (end_ (λ e. k (tree.while_loop line r.tree d x e))))))) b
over_while_test at k line s a b e taken r =
    on (over_while k line s a taken)
    (exp_ended r.tree at.vararg 1 (λ t. token (loop_body (λ d x e. k (tree.while_loop line t d x e)))) a b r.printed r.valid (at_least_one r.tree) r.ends r.last)

pub while_do_refused : (at : Nesting) (line : Line) (s a b t : State) (e : Expr) (fault : ParseFault) → Takes (WordKind While) line s a → ReadsValue at a e b →
    OnAt (Misses (IsKind (WordKind Do)) b t) fault → RefusesStat at s t fault
while_do_refused at line s a b t e fault taken r missed = λ k never suppose.
    refused_on (over_while_test at k line s a b e taken r) (no_do fault _ (λ d. block (λ x. token (end_ (λ e. k (tree.while_loop line r.tree d x e))))) b t missed suppose)

over_while_do : (at : Nesting) (k : Stat → Reader) (line word : Line) (s a b c : State) (e : Expr) → Takes (WordKind While) line s a → (r : ReadsValue at a e b) →
    Takes (WordKind Do) word b c → Moves (token (statement k)) s (block (λ x. token (end_ (λ e. k (tree.while_loop line r.tree word x e))))) c
over_while_do at k line word s a b c e taken r between =
    on (over_while_test at k line s a b e taken r)
    (by_token (token (do_ (λ d. block (λ x. token (end_ (λ e. k (tree.while_loop line r.tree d x e))))))) (WordKind Do) word b c between)

while_block_supposes : (at loop : Nesting) (k : Stat → Reader) (line word : Line) (s a b c : State) (e : Expr) → Takes (WordKind While) line s a → (r : ReadsValue at a e b) →
    Takes (WordKind Do) word b c → IsLooped at loop → Unless (FitsStat at s.scope.enclosing) k →
    Unless (FitsScoped loop c.scope.enclosing) (λ x. token (end_ (λ e. k (tree.while_loop line r.tree word x e))))
while_block_supposes at loop k line word s a b c e taken r between looped those = λ x unfit.
    dead_end (λ e. k (tree.while_loop line r.tree word x e)) (λ z. those (tree.while_loop line r.tree word x z) (λ f.
    unfit (subst (λ z. FitsScoped loop z.enclosing x) (sym between.scope)
    (while_block_fits at loop s.scope.enclosing line r.tree word x z a.scope b.scope e looped f (ap (λ z. z.enclosing) taken.scope) r.resolved))))

pub while_block_refused : (at loop : Nesting) (line word : Line) (s a b c t : State) (e : Expr) (fault : ParseFault) → Takes (WordKind While) line s a → ReadsValue at a e b →
    Takes (WordKind Do) word b c → IsLooped at loop → RefusesScoped loop c t fault → RefusesStat at s t fault
while_block_refused at loop line word s a b c t e fault taken r between looped refuses = λ k never suppose.
    refused_on (over_while_do at k line word s a b c e taken r between)
    (refuses (λ x. token (end_ (λ e. k (tree.while_loop line r.tree word x e)))) (λ x l b is. never (tree.while_loop line r.tree word x l) b is)
    (supposes_on fault (while_block_supposes at loop k line word s a b c e taken r between looped) suppose))

pub while_end_refused : (at loop : Nesting) (line word : Line) (s a b c d t : State) (e : Expr) (out : List Stmt) (fault : ParseFault) → Takes (WordKind While) line s a →
    ReadsValue at a e b → Takes (WordKind Do) word b c → ReadsScoped loop c out d → OnAt (Misses (IsKind (WordKind End)) d t) fault → RefusesStat at s t fault
while_end_refused at loop line word s a b c d t e out fault taken r between inner missed = λ k never suppose.
    refused_on (on (over_while_do at k line word s a b c e taken r between)
    (block_ended inner.tree loop.vararg loop.in_loop (λ x. token (end_ (λ e. k (tree.while_loop line r.tree word x e)))) c d inner.printed inner.valid inner.ends))
    (no_end fault _ (λ e. k (tree.while_loop line r.tree word inner.tree e)) d t missed suppose (λ l b is. never (tree.while_loop line r.tree word inner.tree l) b is))

-- ---- `repeat`

over_repeat : (k : Stat → Reader) (line : Line) (s a : State) → Takes (WordKind Repeat) line s a →
    Moves (token (statement k)) s (block (λ x. token (until_ (λ u. exp 1 (λ t. k (tree.repeat_loop line x u t)))))) a
over_repeat k line s a taken = by_token (token (statement k)) (WordKind Repeat) line s a taken

pub repeat_too_deep : (at loop : Nesting) (line : Line) (s a : State) (fault : ParseFault) → Takes (WordKind Repeat) line s a → IsLooped at loop → IsTooDeep loop a fault →
    RefusesStat at s a fault
repeat_too_deep at loop line s a fault taken looped none = λ k never suppose.
    let r = block (λ x. token (until_ (λ u. exp 1 (λ t. k (tree.repeat_loop line x u t))))) in
    refused_on (over_repeat k line s a taken)
    (too_deep fault _ loop r a none suppose (ends_failed r (λ l. refl)) (λ full those.
    dead_block (λ x. token (until_ (λ u. exp 1 (λ t. k (tree.repeat_loop line x u t))))) (λ x.
    dead_until (λ u. exp 1 (λ t. k (tree.repeat_loop line x u t))) (λ u t. those (tree.repeat_loop line x u t) (λ f.
    deep_repeat at s.scope.enclosing line x u t (let y = looped.depth in omega (arith, full, y)) f)))) tt)

repeat_block_supposes : (at loop inner : Nesting) (k : Stat → Reader) (line : Line) (s a : State) → Takes (WordKind Repeat) line s a → IsLooped at loop → IsWithin loop inner →
    Unless (FitsStat at s.scope.enclosing) k → Unless (FitsBlock inner a.scope.enclosing) (λ x. token (until_ (λ u. exp 1 (λ t. k (tree.repeat_loop line x u t)))))
repeat_block_supposes at loop inner k line s a taken looped part those = λ x unfit.
    dead_until (λ u. exp 1 (λ t. k (tree.repeat_loop line x u t))) (λ u t. those (tree.repeat_loop line x u t) (λ f.
    unfit (subst (λ z. FitsBlock inner z.enclosing x) (sym taken.scope) (repeat_block_fits at loop inner s.scope.enclosing line x u t looped part f))))

pub repeat_block_refused : (at loop inner : Nesting) (line : Line) (s a t : State) (fault : ParseFault) → Takes (WordKind Repeat) line s a → IsLooped at loop → IsWithin loop inner →
    RefusesBlock inner a t fault → RefusesStat at s t fault
repeat_block_refused at loop inner line s a t fault taken looped part refuses = λ k never suppose.
    refused_on (over_repeat k line s a taken)
    (refuses (λ x. token (until_ (λ u. exp 1 (λ t. k (tree.repeat_loop line x u t))))) (supposes_on fault (repeat_block_supposes at loop inner k line s a taken looped part) suppose))

over_repeat_block : (inner : Nesting) (k : Stat → Reader) (line : Line) (s a b : State) (out : List Stmt) → Takes (WordKind Repeat) line s a → (r : ReadsBlock inner a out b) →
    Moves (token (statement k)) s (token (until_ (λ u. exp 1 (λ t. k (tree.repeat_loop line r.tree u t))))) b
over_repeat_block inner k line s a b out taken r =
    on (over_repeat k line s a taken)
    (block_ended r.tree inner.vararg inner.in_loop (λ x. token (until_ (λ u. exp 1 (λ t. k (tree.repeat_loop line x u t))))) a b r.printed r.valid r.ends)

pub until_refused : (at inner : Nesting) (line : Line) (s a b t : State) (out : List Stmt) (fault : ParseFault) → Takes (WordKind Repeat) line s a → ReadsBlock inner a out b →
    OnAt (Misses (IsKind (WordKind Until)) b t) fault → RefusesStat at s t fault
until_refused at inner line s a b t out fault taken r missed = λ k never suppose.
    refused_on (over_repeat_block inner k line s a b out taken r) (no_until fault _ (λ u. exp 1 (λ t. k (tree.repeat_loop line r.tree u t))) b t missed suppose)

repeat_test_supposes : (at inner : Nesting) (k : Stat → Reader) (line word : Line) (s a b c : State) (out : List Stmt) → Takes (WordKind Repeat) line s a →
    (r : ReadsBlock inner a out b) → Takes (WordKind Until) word b c → Unless (FitsStat at s.scope.enclosing) k →
    Unless (FitsValue at c.scope.enclosing) (λ t. k (tree.repeat_loop line r.tree word t))
repeat_test_supposes at inner k line word s a b c out taken r between those = λ t unfit.
    those (tree.repeat_loop line r.tree word t) (λ f.
    unfit (subst (λ z. FitsValue at z.enclosing t) (sym between.scope)
    (repeat_test_fits at s.scope.enclosing line r.tree word t a.scope b.scope out f (ap (λ z. z.enclosing) taken.scope) r.resolved)))

pub repeat_test_refused : (at inner : Nesting) (line word : Line) (s a b c t : State) (out : List Stmt) (fault : ParseFault) → Takes (WordKind Repeat) line s a → ReadsBlock inner a out b →
    Takes (WordKind Until) word b c → RefusesValue at c t fault → RefusesStat at s t fault
repeat_test_refused at inner line word s a b c t out fault taken r between refuses = λ k never suppose.
    refused_on (on (over_repeat_block inner k line s a b out taken r) (by_token (token (until_ (λ u. exp 1 (λ t. k (tree.repeat_loop line r.tree u t))))) (WordKind Until) word b c between))
    (refuses (λ t. k (tree.repeat_loop line r.tree word t)) (supposes_on fault (repeat_test_supposes at inner k line word s a b c out taken r between) suppose))
