-- Where an `if` statement is refused.
use Rattle.std.proofs.Common.{◌≡◌, ℕ, List, [], ◌∷◌, refl, sym, ap, subst}
use Rattle.lua_ast.specs.declared.expressions.Expr.{Expr}
use Rattle.lua_ast.specs.declared.statements.Stmt.{Stmt}
use Rattle.lua_ast.specs.declared.statements.Arm.{Arm}
use Rattle.lua_lexer.specs.declared.tokens.TokenKind.{TokenKind}
use Rattle.lua_lexer.specs.declared.tokens.TokenKind.TheVariants.{Word as WordKind}
use Rattle.lua_lexer.specs.declared.words.Word.TheVariants.{Else, ElseIf, End, If, Then}
use Rattle.lua_grammar.specs.Tree.{Line, Exp, Block, Stat, Arms}
use Rattle.lua_grammar.specs.Tree as tree
use Rattle.lua_grammar.specs.Printing.{Lexeme}
use Rattle.lua_grammar.specs.Waiting.{Reader, failed, token, more_arms, end_, then_}
use Rattle.lua_grammar.specs.Reading.{arm, block, statement, feed}
use Rattle.lua_grammar.specs.Dead.{IsDead}
use Rattle.lua_grammar.proofs.DeadParts.{dead_block, dead_end, dead_then}
use Rattle.lua_grammar.proofs.Stopping.{at_least_one}
use Rattle.lua_parser_base.specs.declared.faults.ParseFault.{ParseFault}
use Rattle.lua_parser_base.specs.declared.faults.ParseFault.TheVariants.{At, Memory}
use Rattle.lua_parser_base.specs.declared.nesting.Nesting.{Nesting}
use Rattle.lua_parser_base.specs.States.{State, Takes}
use Rattle.lua_parser_base.specs.Next.{Begin, IsKind, IsNext, Misses, OnAt, line_or}
use Rattle.lua_parser_base.specs.ReadsStatements.{ReadsArms, ReadsScoped, ReadsValue}
use Rattle.lua_parser_base.specs.Fits.{FitsArms, FitsScoped, FitsStat, FitsValue}
use Rattle.lua_parser_base.specs.Readers.{Moves, NeverChunk, Refuses, Supposes}
use Rattle.lua_parser_base.specs.Refusals.{Unless}
use Rattle.lua_parser_base.specs.StatementRefusals.{RefusesArm, RefusesArms, RefusesScoped, RefusesStat, RefusesValue}
use Rattle.lua_parser_base.proofs.FittingBlocks.{arm_block_fits, arm_fits, arms_before_else_fit, arms_fit, else_fits, first_arms_fit, next_arm_fits, test_fits}
use Rattle.lua_parser_base.proofs.Moving.{by_token, ends_stuck, fails, on, refused_on, supposes_on}
use Rattle.lua_parser_base.proofs.Printed.{exp_ended}
use Rattle.lua_parser_base.proofs.PrintedBlocks.{arms_moves, block_ended}
use Rattle.lua_parser_base.proofs.Refusing.{no_end, no_then}

-- ---- a test, `then` and a block

-- each arm that doesn't fit leads to a dead state
abbrev UnlessArm : Nesting → State → (Exp → Line → Block → Reader) → Type 0
UnlessArm at s k = (e : Exp) (h : Line) (x : Block) → (FitsArms at s.scope.enclosing (tree.if_arm h e h x) → ⊥) → IsDead (k e h x)

test_supposes : (at : Nesting) (k : Exp → Line → Block → Reader) (s : State) → UnlessArm at s k →
    Unless (FitsValue at s.scope.enclosing) (λ e. token (then_ (λ h. block (λ x. k e h x))))
test_supposes at k s those = λ e unfit.
    dead_then (λ h. block (λ x. k e h x)) (λ h. dead_block (λ x. k e h x) (λ x. those e h x (λ f. unfit (test_fits at s.scope.enclosing h e h x f))))

pub test_refused : (at : Nesting) (s t : State) (fault : ParseFault) → RefusesValue at s t fault → RefusesArm at s t fault
test_refused at s t fault refuses = λ k not suppose.
    refuses (λ e. token (then_ (λ h. block (λ x. k e h x)))) (supposes_on fault (test_supposes at k s) suppose)

over_test : (at : Nesting) (k : Exp → Line → Block → Reader) (s m : State) (e : Expr) (r : ReadsValue at s e m) →
    Moves (arm k) s (token (then_ (λ h. block (λ x. k r.tree h x)))) m
over_test at k s m e r =
    exp_ended r.tree at.vararg 1 (λ e. token (then_ (λ h. block (λ x. k e h x)))) s m r.printed r.valid (at_least_one r.tree) r.ends r.last

pub then_refused : (at : Nesting) (s m t : State) (e : Expr) (fault : ParseFault) → ReadsValue at s e m → OnAt (Misses (IsKind (WordKind Then)) m t) fault → RefusesArm at s t fault
then_refused at s m t e fault r missed = λ k not suppose.
    refused_on (over_test at k s m e r) (no_then fault _ (λ h. block (λ x. k r.tree h x)) m t missed suppose)

arm_block_supposes : (at : Nesting) (k : Exp → Line → Block → Reader) (line : Line) (s m n : State) (e : Expr) (r : ReadsValue at s e m) → Takes (WordKind Then) line m n →
    UnlessArm at s k → Unless (FitsScoped at n.scope.enclosing) (λ x. k r.tree line x)
arm_block_supposes at k line s m n e r taken those = λ x unfit.
    those r.tree line x (λ f. unfit (subst (λ z. FitsScoped at z.enclosing x) (sym taken.scope)
    (arm_block_fits at s.scope.enclosing line r.tree line x s.scope m.scope e f refl r.resolved)))

pub arm_block_refused : (at : Nesting) (line : Line) (s m n t : State) (e : Expr) (fault : ParseFault) → ReadsValue at s e m → Takes (WordKind Then) line m n → RefusesScoped at n t fault →
    RefusesArm at s t fault
arm_block_refused at line s m n t e fault r taken refuses = λ k not suppose.
    refused_on (on (over_test at k s m e r) (by_token (token (then_ (λ h. block (λ x. k r.tree h x)))) (WordKind Then) line m n taken))
    (refuses (λ x. k r.tree line x) (λ x l b. not r.tree line l x b) (supposes_on fault (arm_block_supposes at k line s m n e r taken) suppose))

-- ---- arms

-- arms that don't fit lead to a dead state
dead_arms : (at : Nesting) (k : Stat → Reader) (s : State) (first : Arms) → Unless (FitsStat at s.scope.enclosing) k → (FitsArms at s.scope.enclosing first → ⊥) → IsDead (more_arms first k)
dead_arms at k s first those unfit = λ whole from.
    let not : FitsArms at s.scope.enclosing whole → ⊥ = λ f. unfit (first_arms_fit at s.scope.enclosing first whole from f) in (
      λ e. those (tree.if_then whole e) (λ f. not (arms_fit at s.scope.enclosing whole e f)),
      λ l b e. those (tree.if_else whole l b e) (λ f. not (arms_before_else_fit at s.scope.enclosing whole l b e f)),
    )

first_supposes : (at : Nesting) (i : Line) (k : Stat → Reader) (s : State) → Unless (FitsStat at s.scope.enclosing) k → UnlessArm at s (λ e h b. more_arms (tree.if_arm i e h b) k)
first_supposes at i k s those = λ e h x unfit. dead_arms at k s (tree.if_arm i e h x) those (λ f. unfit (arm_fits at s.scope.enclosing i h e h x f))

pub first_arm_refused : (at : Nesting) (s t : State) (fault : ParseFault) → RefusesArm at s t fault → RefusesArms at s t fault
first_arm_refused at s t fault refuses = λ i k never suppose.
    refuses (λ e h b. more_arms (tree.if_arm i e h b) k) (λ e h l x b is. never (tree.if_then (tree.if_arm i e h x) l) b is)
    (supposes_on fault (first_supposes at i k s) suppose)

over_arms : (at : Nesting) (i : Line) (k : Stat → Reader) (s m : State) (out : List Arm) (r : ReadsArms at i s out m) →
    Moves (arm (λ e h b. more_arms (tree.if_arm i e h b) k)) s (more_arms r.tree k) m
over_arms at i k s m out r = arms_moves r.tree at.vararg at.in_loop i k s m r.printed r.begins r.valid r.ends

next_supposes : (at : Nesting) (i line : Line) (k : Stat → Reader) (s m n : State) (out : List Arm) (r : ReadsArms at i s out m) → Takes (WordKind ElseIf) line m n →
    Unless (FitsStat at s.scope.enclosing) k → UnlessArm at n (λ e h b. more_arms (tree.elseif_arm r.tree line e h b) k)
next_supposes at i line k s m n out r taken those = λ e h x unfit.
    dead_arms at k s (tree.elseif_arm r.tree line e h x) those (λ f. unfit (subst (λ z. FitsArms at z.enclosing (tree.if_arm h e h x)) (sym taken.scope)
    (next_arm_fits at s.scope.enclosing r.tree line h e h x s.scope m.scope out f refl r.resolved)))

pub next_arm_refused : (at : Nesting) (line : Line) (s m n t : State) (out : List Arm) (fault : ParseFault) → ((i : ℕ) → ReadsArms at i s out m) → Takes (WordKind ElseIf) line m n →
    RefusesArm at n t fault → RefusesArms at s t fault
next_arm_refused at line s m n t out fault reads taken refuses = λ i k never suppose.
    let r = reads i in
    refused_on (on (over_arms at i k s m out r) (by_token (more_arms r.tree k) (WordKind ElseIf) line m n taken))
    (refuses (λ e h b. more_arms (tree.elseif_arm r.tree line e h b) k) (λ e h l x b is. never (tree.if_then (tree.elseif_arm r.tree line e h x) l) b is)
    (supposes_on fault (next_supposes at i line k s m n out r taken) suppose))

-- ---- the statement

over_if : (k : Stat → Reader) (line : Line) (s a : State) → Takes (WordKind If) line s a →
    Moves (token (statement k)) s (arm (λ e h b. more_arms (tree.if_arm line e h b) k)) a
over_if k line s a taken = by_token (token (statement k)) (WordKind If) line s a taken

pub arms_refused : (at : Nesting) (line : Line) (s a t : State) (fault : ParseFault) → Takes (WordKind If) line s a → RefusesArms at a t fault → RefusesStat at s t fault
arms_refused at line s a t fault taken refuses = λ k never suppose.
    refused_on (over_if k line s a taken) (refuses line k never (subst (λ z. Supposes fault (Unless (FitsStat at z.enclosing) k)) (sym taken.scope) suppose))

over_else : (at : Nesting) (k : Stat → Reader) (line word : Line) (s a b c : State) (arms : List Arm) → Takes (WordKind If) line s a → (r : ReadsArms at line a arms b) →
    Takes (WordKind Else) word b c → Moves (token (statement k)) s (block (λ x. token (end_ (λ e. k (tree.if_else r.tree word x e))))) c
over_else at k line word s a b c arms taken r between =
    on (over_if k line s a taken) (on (over_arms at line k a b arms r) (by_token (more_arms r.tree k) (WordKind Else) word b c between))

else_supposes : (at : Nesting) (k : Stat → Reader) (line word : Line) (s a b c : State) (arms : List Arm) → Takes (WordKind If) line s a → (r : ReadsArms at line a arms b) →
    Takes (WordKind Else) word b c → Unless (FitsStat at s.scope.enclosing) k → Unless (FitsScoped at c.scope.enclosing) (λ x. token (end_ (λ e. k (tree.if_else r.tree word x e))))
else_supposes at k line word s a b c arms taken r between those = λ x unfit.
    dead_end (λ e. k (tree.if_else r.tree word x e)) (λ e. those (tree.if_else r.tree word x e) (λ f.
    unfit (subst (λ z. FitsScoped at z.enclosing x) (sym between.scope)
    (else_fits at s.scope.enclosing r.tree word x e a.scope b.scope arms f (ap (λ z. z.enclosing) taken.scope) r.resolved))))

pub else_refused : (at : Nesting) (line word : Line) (s a b c t : State) (arms : List Arm) (fault : ParseFault) → Takes (WordKind If) line s a →
    ((l : ℕ) → ReadsArms at l a arms b) → Takes (WordKind Else) word b c → RefusesScoped at c t fault → RefusesStat at s t fault
else_refused at line word s a b c t arms fault taken reads between refuses = λ k never suppose.
    let r = reads line in
    refused_on (over_else at k line word s a b c arms taken r between)
    (refuses (λ x. token (end_ (λ e. k (tree.if_else r.tree word x e)))) (λ x l b is. never (tree.if_else r.tree word x l) b is)
    (supposes_on fault (else_supposes at k line word s a b c arms taken r between) suppose))

pub else_end_refused : (at : Nesting) (line word : Line) (s a b c d t : State) (arms : List Arm) (out : List Stmt) (fault : ParseFault) → Takes (WordKind If) line s a →
    ((l : ℕ) → ReadsArms at l a arms b) → Takes (WordKind Else) word b c → ReadsScoped at c out d → OnAt (Misses (IsKind (WordKind End)) d t) fault → RefusesStat at s t fault
else_end_refused at line word s a b c d t arms out fault taken reads between inner missed = λ k never suppose.
    let r = reads line in
    refused_on (on (over_else at k line word s a b c arms taken r between)
    (block_ended inner.tree at.vararg at.in_loop (λ x. token (end_ (λ e. k (tree.if_else r.tree word x e)))) c d inner.printed inner.valid inner.ends))
    (no_end fault _ (λ e. k (tree.if_else r.tree word inner.tree e)) d t missed suppose (λ l b is. never (tree.if_else r.tree word inner.tree l) b is))

-- after arms stands `elseif`, `else` or `end`
arms_fail : (arms : Arms) (k : Stat → Reader) (kind : TokenKind) (l : Line) → (IsKind (WordKind ElseIf) kind → ⊥) → (IsKind (WordKind Else) kind → ⊥) →
    (IsKind (WordKind End) kind → ⊥) → feed (more_arms arms k) kind l ≡ failed
arms_fail arms k (WordKind ElseIf) l x y z = absurd (x refl)
arms_fail arms k (WordKind Else) l x y z = absurd (y refl)
arms_fail arms k (WordKind End) l x y z = absurd (z refl)
arms_fail arms k kind l x y z = refl

arms_missing : (arms : Arms) (k : Stat → Reader) (s : State) (left : List Lexeme) (line : ℕ) → s.left ≡ left → NeverChunk k → (Begin (IsKind (WordKind ElseIf)) left → ⊥) →
    (Begin (IsKind (WordKind Else)) left → ⊥) → (Begin (IsKind (WordKind End)) left → ⊥) → line ≡ line_or s.final s.left → Refuses (At line) (more_arms arms k) s s
arms_missing arms k s [] line is never x y z reported = record {
  sticks = ends_stuck (At line) (more_arms arms k) s is (λ l b same. never (tree.if_then arms l) b same) tt;
  reports = reported;
}
arms_missing arms k s (first ∷ left) line is never x y z reported = record {
  sticks = fails (At line) (more_arms arms k) s (λ l. rw is (arms_fail arms k first.kind l x y z)) tt;
  reports = reported;
}

no_end_of_arms : (fault : ParseFault) (X : Type 0) (arms : Arms) (k : Stat → Reader) (s t : State) → OnAt (Misses (IsKind (WordKind End)) s t) fault → Supposes fault X →
    NeverChunk k → (IsNext (WordKind ElseIf) s → ⊥) → (IsNext (WordKind Else) s → ⊥) → Refuses fault (more_arms arms k) s t
no_end_of_arms (At line) X arms k s t m h never x y =
    subst (λ z. Refuses (At line) (more_arms arms k) s z) (sym m.same) (arms_missing arms k s s.left line refl never x y m.missing m.reported)
no_end_of_arms Memory X arms k s t m h never x y = absurd h
no_end_of_arms other X arms k s t m h never x y = absurd m

pub end_refused : (at : Nesting) (line : Line) (s a b t : State) (arms : List Arm) (fault : ParseFault) → Takes (WordKind If) line s a → ((l : ℕ) → ReadsArms at l a arms b) →
    (IsNext (WordKind ElseIf) b → ⊥) → (IsNext (WordKind Else) b → ⊥) → OnAt (Misses (IsKind (WordKind End)) b t) fault → RefusesStat at s t fault
end_refused at line s a b t arms fault taken reads x y missed = λ k never suppose.
    let r = reads line in
    refused_on (on (over_if k line s a taken) (over_arms at line k a b arms r)) (no_end_of_arms fault _ r.tree k b t missed suppose never x y)
