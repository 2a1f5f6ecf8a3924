-- Where an expression is refused.
use Rattle.std.proofs.Common.{◌≡◌, ℕ, ◌≤◌, List, [], ◌∷◌, Some, ap, refl, sym, subst, ◌∙◌, arith, lit≤}
use Rattle.lua_grammar.specs.declared.operators.Operator.{Operator}
use Rattle.lua_grammar.specs.Operators.{kind_of, level, left_level, right_level}
use Rattle.lua_grammar.specs.Tree.{Exp}
use Rattle.lua_grammar.specs.Tree as tree
use Rattle.lua_grammar.specs.Waiting.{Reader, token, exp, more_exp}
use Rattle.lua_ast.specs.declared.expressions.UnOp.{UnOp}
use Rattle.lua_lexer.specs.declared.tokens.TokenKind.{TokenKind}
use Rattle.lua_grammar.specs.Operators.{kind_of_unary}
use Rattle.lua_grammar.proofs.ReadingTrees.{unary_begins}
use Rattle.lua_parser_base.specs.Kinds.{operand_of}
use Rattle.lua_grammar.proofs.Grouping.{levels_of, highest_right}
use Rattle.lua_grammar.specs.Stopping.{EndsAt}
use Rattle.lua_grammar.proofs.Stopping.{exp_goes_on, ends_there, is_operator}
use Rattle.lua_grammar.specs.Printing.{Lexeme}
use Rattle.lua_grammar.specs.Waiting.{operator_of}
use Rattle.lua_lexer.specs.declared.tokens.TokenKind.TheVariants.{Name, Text, Number, Word, Sign}
use Rattle.lua_lexer.specs.declared.signs.Sign.TheVariants as sign
use Rattle.lua_lexer.specs.declared.words.Word.TheVariants as word
use Rattle.lua_parser_base.specs.declared.operators.Operand.TheVariants as operand
use Rattle.lua_grammar.specs.Reading.{begin_exp, begin_prefix}
use Rattle.lua_lexer.specs.declared.words.Word.TheVariants.{End}
use Rattle.lua_parser_base.specs.declared.nesting.Nesting.{Nesting}
use Rattle.lua_parser_base.specs.declared.nodes.Built.{Built}
use Rattle.lua_parser_base.specs.States.{State, Takes}
use Rattle.lua_parser_base.specs.Next.{Begin, HasNoPart, IsKind, IsNext, IsTooHigh, ahead, first_kind}
use Rattle.lua_parser_base.specs.Reads.{ReadsExp}
use Rattle.lua_parser_base.specs.Readers.{Moves, Refuses, Supposes}
use Rattle.lua_parser_base.specs.Refusals.{RefusesExp, RefusesFrom, RefusesPrefix, RefusesTable, Unless}
use Rattle.lua_parser_base.specs.Fits.{FitsExp, FitsPrefix, FitsTable}
use Rattle.lua_parser_base.specs.Nesting.{IsPart}
use Rattle.lua_parser_base.specs.declared.faults.ParseFault.{ParseFault}
use Rattle.lua_grammar.specs.Scopes.{Frame}
use Rattle.lua_parser_base.proofs.Fitting.{right_operand_fits, operand_fits, first_exp_fits, deep_operand, high_operand, deep_unary, prefix_alone_fits, table_alone_fits}
use Rattle.lua_parser_base.proofs.Moving.{by_token, on, refused_on, stays, supposes_on}
use Rattle.lua_parser_base.proofs.Printed.{exp_moves}
use Rattle.lua_parser_base.proofs.Refusing.{ends_failed, no_part, too_high}

-- over an expression and the operator after it
pub over_operator : (at : Nesting) (m : ℕ) (k : Exp → Reader) (op : Operator) (line : ℕ) (s a b : State) (left : Built) (r : ReadsExp at s left a) → m ≤ left.level →
    Takes (kind_of op) line a b → m ≤ level op → Moves (exp m k) s (exp (right_level op) (λ e. more_exp m (tree.binary r.tree op line e) k)) b
over_operator at m k op line s a b left r high taken low =
    let own = r.precedes in
    on (exp_moves r.tree at.vararg m k s a r.printed r.valid (omega (arith, own, high)) r.ends)
    (subst (λ q. Moves (more_exp m r.tree k) a q b) (exp_goes_on m r.tree op line k low) (by_token (more_exp m r.tree k) (kind_of op) line a b taken))

-- what a whole supposes, its right operand may suppose
right_supposes : (at inner : Nesting) (m : ℕ) (k : Exp → Reader) (op : Operator) (line : ℕ) (s a b : State) (left : Built) (r : ReadsExp at s left a) →
    Takes (kind_of op) line a b → IsPart at inner → Unless (FitsExp at s.scope.enclosing) k → Unless (FitsExp inner b.scope.enclosing) (λ e. more_exp m (tree.binary r.tree op line e) k)
right_supposes at inner m k op line s a b left r taken part suppose = λ e not whole from.
    suppose whole (λ f.
    not (subst (λ z. FitsExp inner z.enclosing e) (sym taken.scope)
    (right_operand_fits at inner s.scope.enclosing r.tree e op line s.scope a.scope left.expr (first_exp_fits at s.scope.enclosing _ whole from f) refl r.resolved part)))

-- refused in the right operand, where it can't begin, and where what stands before it is too high
pub right_refused : (at inner : Nesting) (m : ℕ) (k : Exp → Reader) (op : Operator) (line : ℕ) (fault : ParseFault) (s a b t : State) (left : Built) → ReadsExp at s left a → m ≤ left.level →
    Takes (kind_of op) line a b → m ≤ level op → IsPart at inner → Supposes fault (Unless (FitsExp at s.scope.enclosing) k) → RefusesFrom (right_level op) inner b t fault → Refuses fault (exp m k) s t
right_refused at inner m k op line fault s a b t left r high taken low part h refuses =
    refused_on (over_operator at m k op line s a b left r high taken low) (refuses _ (supposes_on fault (right_supposes at inner m k op line s a b left r taken part) h))

pub right_no_part : (at : Nesting) (m : ℕ) (k : Exp → Reader) (op : Operator) (line : ℕ) (fault : ParseFault) (s a b : State) (left : Built) → ReadsExp at s left a → m ≤ left.level →
    Takes (kind_of op) line a b → m ≤ level op → Supposes fault (Unless (FitsExp at s.scope.enclosing) k) → HasNoPart at b fault → Refuses fault (exp m k) s b
right_no_part at m k op line fault s a b left r high taken low h none =
    refused_on (over_operator at m k op line s a b left r high taken low)
    (no_part fault _ at (exp (right_level op) (λ e. more_exp m (tree.binary r.tree op line e) k)) b none h
    (ends_failed (exp (right_level op) (λ e. more_exp m (tree.binary r.tree op line e) k)) (λ l. refl)) (λ full suppose e whole from.
    suppose whole (λ f. deep_operand at s.scope.enclosing r.tree e op line full (first_exp_fits at s.scope.enclosing _ whole from f))) tt)

pub right_too_high : (at : Nesting) (m : ℕ) (k : Exp → Reader) (op : Operator) (line : ℕ) (fault : ParseFault) (s a b : State) (left : Built) → ReadsExp at s left a → m ≤ left.level →
    Takes (kind_of op) line a b → m ≤ level op → Supposes fault (Unless (FitsExp at s.scope.enclosing) k) → IsTooHigh at left.height line fault → Refuses fault (exp m k) s b
right_too_high at m k op line fault s a b left r high taken low h none =
    refused_on (over_operator at m k op line s a b left r high taken low)
    (too_high _ fault _ at left.height (exp (right_level op) (λ e. more_exp m (tree.binary r.tree op line e) k)) b none h (λ full suppose e whole from.
    suppose whole (λ f. high_operand at s.scope.enclosing r.tree e op line left.height r.high full (first_exp_fits at s.scope.enclosing _ whole from f))))

pub right_low : (op : Operator) → right_level op ≤ 7
right_low op = highest_right _ _ _ (levels_of op)

-- `end` is no operator
end_is_none : (op : Operator) → Word End ≡ kind_of op → ⊥
end_is_none op same = let e : operator_of (Word End) ≡ Some op = ap operator_of same ∙ is_operator op in cc

-- after the whole
pub exp_ends_there : (at : Nesting) (m : ℕ) (s t : State) (left : Built) (r : ReadsExp at s left t) →
    ((op : Operator) → IsNext (kind_of op) t → m ≤ level op → left_level op ≤ left.level → ⊥) → EndsAt m (ahead t)
exp_ends_there at m s t left r missing =
    let own = r.precedes in
    ends_there r.tree m (ahead t) r.ends (λ op same low fits. next_is t.left op same (λ is. missing op is low (omega (arith, own, fits))))
  where
    next_is : (xs : List Lexeme) (op : Operator) → first_kind xs ≡ kind_of op → (Begin (IsKind (kind_of op)) xs → ⊥) → ⊥
    next_is [] op same not = absurd (end_is_none op same)
    next_is (first ∷ after) op same not = not same

-- over a unary operator
pub over_unary : (m : ℕ) (k : Exp → Reader) (op : UnOp) (line : ℕ) (s a : State) → Takes (kind_of_unary op) line s a →
    Moves (exp m k) s (exp 7 (λ e. more_exp m (tree.unary op line e) k)) a
over_unary m k op line s a taken = subst (λ q. Moves (exp m k) s q a) (unary_begins op m line k) (by_token (exp m k) (kind_of_unary op) line s a taken)

operand_supposes : (at inner : Nesting) (m : ℕ) (k : Exp → Reader) (op : UnOp) (line : ℕ) (s a : State) → Takes (kind_of_unary op) line s a → IsPart at inner →
    Unless (FitsExp at s.scope.enclosing) k → Unless (FitsExp inner a.scope.enclosing) (λ e. more_exp m (tree.unary op line e) k)
operand_supposes at inner m k op line s a taken part suppose = λ e not whole from.
    suppose whole (λ f.
    not (subst (λ z. FitsExp inner z.enclosing e) (sym taken.scope) (operand_fits at inner s.scope.enclosing op line e (first_exp_fits at s.scope.enclosing _ whole from f) part)))

pub operand_refused : (at inner : Nesting) (m : ℕ) (k : Exp → Reader) (op : UnOp) (line : ℕ) (fault : ParseFault) (s a t : State) → Takes (kind_of_unary op) line s a → IsPart at inner →
    Supposes fault (Unless (FitsExp at s.scope.enclosing) k) → (7 ≤ 7 → RefusesFrom 7 inner a t fault) → Refuses fault (exp m k) s t
operand_refused at inner m k op line fault s a t taken part h refuses =
    refused_on (over_unary m k op line s a taken) (refuses (lit≤ tt) _ (supposes_on fault (operand_supposes at inner m k op line s a taken part) h))

pub operand_no_part : (at : Nesting) (m : ℕ) (k : Exp → Reader) (op : UnOp) (line : ℕ) (fault : ParseFault) (s a : State) → Takes (kind_of_unary op) line s a →
    Supposes fault (Unless (FitsExp at s.scope.enclosing) k) → HasNoPart at a fault → Refuses fault (exp m k) s a
operand_no_part at m k op line fault s a taken h none =
    refused_on (over_unary m k op line s a taken)
    (no_part fault _ at (exp 7 (λ e. more_exp m (tree.unary op line e) k)) a none h (ends_failed (exp 7 (λ e. more_exp m (tree.unary op line e) k)) (λ l. refl)) (λ full suppose e whole from.
    suppose whole (λ f. deep_unary at s.scope.enclosing op line e full (first_exp_fits at s.scope.enclosing _ whole from f))) tt)

-- what begins no other operand begins a prefix, or nothing
prefix_begins : (m : ℕ) (k : Exp → Reader) (kind : TokenKind) (l : ℕ) → operand_of kind ≡ operand.Prefix →
    begin_exp m k kind l ≡ begin_prefix (λ p. more_exp m (tree.prefix p) k) kind l
prefix_begins m k (Name n) l is = refl
prefix_begins m k (Text bytes) l is = cc
prefix_begins m k (Number n) l is = cc
prefix_begins m k (Word word.Not) l is = cc
prefix_begins m k (Word word.Function) l is = cc
prefix_begins m k (Word word.Nil) l is = cc
prefix_begins m k (Word word.True) l is = cc
prefix_begins m k (Word word.False) l is = cc
prefix_begins m k (Sign sign.Hash) l is = cc
prefix_begins m k (Sign sign.Minus) l is = cc
prefix_begins m k (Sign sign.OpenBrace) l is = cc
prefix_begins m k (Sign sign.Ellipsis) l is = cc
prefix_begins m k kind l is = refl

-- a prefix alone
prefix_supposes : (at : Nesting) (enclosing : List Frame) (m : ℕ) (k : Exp → Reader) → Unless (FitsExp at enclosing) k → Unless (FitsPrefix at enclosing) (λ p. more_exp m (tree.prefix p) k)
prefix_supposes at enclosing m k suppose = λ p not whole from. suppose whole (λ f. not (prefix_alone_fits at enclosing p (first_exp_fits at enclosing _ whole from f)))

pub prefix_refused : (at : Nesting) (s t : State) (fault : ParseFault) → operand_of (ahead s) ≡ operand.Prefix → RefusesPrefix at s t fault → RefusesExp at s t fault
prefix_refused at s t fault next refuses = λ m k h.
    refused_on (stays (exp m k) (token (begin_prefix (λ p. more_exp m (tree.prefix p) k))) s (λ l. prefix_begins m k (ahead s) l next) tt)
    (refuses (λ p. more_exp m (tree.prefix p) k) (supposes_on fault (prefix_supposes at s.scope.enclosing m k) h))

-- a table constructor alone
table_supposes : (at : Nesting) (enclosing : List Frame) (m : ℕ) (k : Exp → Reader) → Unless (FitsExp at enclosing) k → Unless (FitsTable at enclosing) (λ t. more_exp m (tree.table t) k)
table_supposes at enclosing m k suppose = λ t not whole from. suppose whole (λ f. not (table_alone_fits at enclosing t (first_exp_fits at enclosing _ whole from f)))

pub table_refused : (at : Nesting) (s t : State) (fault : ParseFault) → RefusesTable at s t fault → RefusesExp at s t fault
table_refused at s t fault refuses = λ m k h. refuses (exp m k) (λ t. more_exp m (tree.table t) k) (λ o. refl) (supposes_on fault (table_supposes at s.scope.enclosing m k) h)
