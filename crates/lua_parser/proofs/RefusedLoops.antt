-- Where a loop with variables is refused.
use Rattle.std.proofs.Common.{◌≡◌, ◌<◌, ◌+◌, ℕ, Option, Some, None, IfNone, List, [], ◌∷◌, drop, length, refl, sym, ap, subst, ◌∙◌}
use Rattle.lua_ast.specs.declared.expressions.Expr.{Expr}
use Rattle.lua_ast.specs.declared.statements.Stmt.{Stmt}
use Rattle.lua_lexer.specs.declared.tokens.Token.{Token}
use Rattle.lua_lexer.specs.declared.tokens.TokenKind.{TokenKind}
use Rattle.lua_lexer.specs.declared.tokens.TokenKind.TheVariants.{Name, Word, Sign}
use Rattle.lua_lexer.specs.declared.signs.Sign.TheVariants as sign
use Rattle.lua_lexer.specs.declared.words.Word.TheVariants as word
use Rattle.lua_grammar.specs.Tree.{Line, Bytes, NameList, Exp, ExpList, Block, Stat}
use Rattle.lua_grammar.specs.Tree as tree
use Rattle.lua_grammar.specs.Waiting.{Reader, failed, token, exp, comma, end_, IsWaiting}
use Rattle.lua_grammar.specs.Reading.{block, list, loop_body, for_, for_limit, for_tail, no_rest, statement, feed}
use Rattle.lua_grammar.specs.Dead.{IsDead}
use Rattle.lua_grammar.specs.Printing.{Lexeme, lexemes}
use Rattle.lua_grammar.specs.Scopes.{Frame, declare, in_scope}
use Rattle.lua_grammar.specs.Resolution.{Resolves, ResolvesList, names_of}
use Rattle.lua_grammar.proofs.DeadParts.{dead_comma, dead_end, dead_to_end}
use Rattle.lua_grammar.proofs.DeadStatements.{dead_loop_body}
use Rattle.lua_parser_base.specs.declared.faults.ParseFault.{ParseFault}
use Rattle.lua_parser_base.specs.declared.faults.ParseFault.TheVariants.{At, Locals, Memory}
use Rattle.lua_parser_base.specs.declared.nesting.Nesting.{Nesting}
use Rattle.lua_parser_base.specs.declared.cursor.Parser.{Parser}
use Rattle.lua_parser_base.specs.Frames.{frame_of, frames_of}
use Rattle.lua_parser_base.specs.States.{State, Takes, last_line, scope_of, state}
use Rattle.lua_parser_base.specs.Next.{Begin, IsKind, IsName, IsNext, IsTooDeep, Misses, OnAt, OnLocals, ahead, first_kind, line_or}
use Rattle.lua_parser_base.specs.Nesting.{IsLooped, IsWithin}
use Rattle.lua_parser_base.specs.Fits.{FitsBlock, FitsValue, FitsValues, FitsLoop, FitsStat}
use Rattle.lua_parser_base.specs.Readers.{Moves, NeverChunk, Refuses, Supposes}
use Rattle.lua_parser_base.specs.Refusals.{Unless}
use Rattle.lua_parser_base.specs.ReadsStatements.{ReadsBlock, ReadsStep, ReadsValue, ReadsValues}
use Rattle.lua_parser_base.specs.ReadsNames.{ReadsNames}
use Rattle.lua_parser_base.specs.StatementRefusals.{RefusesBlock, RefusesFor, RefusesLoop, RefusesNames, RefusesStat, RefusesStep, RefusesValue, RefusesValues, UnlessStat}
use Rattle.lua_parser.proofs.FittingLoops.{IsLoopOf, loop_block_fits, deep_loop, crowded_block, crowded_loop, list_block, list_values, range_block, range_from, range_to, steps_block, steps_from, steps_step, steps_to}
use Rattle.lua_parser_base.proofs.Moving.{by_token, dead_stuck, fails, moved, not_first, on, refused_on, stays, supposes_on}
use Rattle.lua_parser.proofs.PrintedStatements.{block_ended, value_ended, values_ended}
use Rattle.lua_parser_base.proofs.Printed.{names_ended}
use Rattle.lua_parser_base.proofs.ForLoops.{two_names}
use Rattle.lua_parser_base.proofs.Names.{no_comma_ahead}
use Rattle.lua_parser_base.proofs.Refusing.{no_comma, no_do, no_end, too_deep}
use Rattle.lua_parser_base.proofs.Scoping.{Turns}

-- ---- a step

pub step_refused : (at : Nesting) (line : ℕ) (fault : ParseFault) (s a t : State) → Takes (Sign sign.Comma) line s a → RefusesValue at a t fault → RefusesStep at s t fault
step_refused at line fault s a t taken refuses = λ f l n q from c to k suppose.
    refused_on (by_token (token (for_limit f l n q from c to k)) (Sign sign.Comma) line s a taken)
    (refuses (λ step. token (loop_body (λ d b e. k (tree.for_steps f l n q from c to line step d b e)))) (supposes_on fault (λ dead e not.
    dead line e (λ fits. not (subst (λ z. FitsValue at z.enclosing e) (sym taken.scope) fits))) suppose))

-- ---- the block of a loop

-- there are too many locals
pub too_many_locals : (fault : ParseFault) (P X : Type 0) (r : Reader) (s : State) → OnLocals P fault → Supposes fault X → (P → X → IsDead r) → Refuses fault r s s
too_many_locals (Locals line) P X r s full h dead = record { sticks = dead_stuck (Locals line) r s (λ b c. c) (dead full h) tt; reports = tt }
too_many_locals Memory P X r s full h dead = absurd h
too_many_locals other P X r s full h dead = absurd full

-- what is after `do`
over_do : (k : Line → Block → Line → Reader) (line : ℕ) (s a b : State) → Takes (Word word.Do) line s a → b.left ≡ a.left →
    Moves (token (loop_body k)) s (block (λ x. token (end_ (λ e. k line x e)))) b
over_do k line s a b taken left = moved left (by_token (token (loop_body k)) (Word word.Do) line s a taken)

-- a loop's block that doesn't fit, where that is supposed
abbrev UnlessLoop : Nesting → List Bytes → List Frame → (Line → Block → Line → Reader) → Type 0
UnlessLoop at names enclosing k = (d e : Line) (x : Block) → (FitsLoop at names enclosing x → ⊥) → IsDead (k d x e)

pub loop_without_do : (at : Nesting) (names : List Bytes) (fault : ParseFault) (s t : State) → OnAt (Misses (IsKind (Word word.Do)) s t) fault → RefusesLoop at names s t fault
loop_without_do at names fault s t missing = λ k never suppose.
    no_do fault (UnlessLoop at names s.scope.enclosing k) (λ d. block (λ b. token (end_ (λ e. k d b e)))) s t missing suppose

pub loop_crowded : (at : Nesting) (names : List Bytes) (line : ℕ) (fault : ParseFault) (f : Frame) (others : List Frame) (s a b : State) → s.scope.enclosing ≡ f ∷ others →
    Takes (Word word.Do) line s a → b.left ≡ a.left → OnLocals (200 < in_scope a.scope + length names) fault → RefusesLoop at names s b fault
loop_crowded at names line fault f others s a b is taken left full = λ k never suppose.
    refused_on (over_do k line s a b taken left)
    (too_many_locals fault _ (UnlessLoop at names s.scope.enclosing k) (block (λ x. token (end_ (λ e. k line x e)))) b full suppose (λ crowded dead.
    dead_to_end (k line) (λ x e. dead line e x (λ fits.
    crowded_block at names s.scope.enclosing f others x is (subst (λ z. 200 < in_scope z + length names) taken.scope crowded) fits))))

pub loop_too_deep : (at loop : Nesting) (names : List Bytes) (line : ℕ) (fault : ParseFault) (s a b : State) → Takes (Word word.Do) line s a → b.left ≡ a.left → IsLooped at loop →
    IsTooDeep loop b fault → RefusesLoop at names s b fault
loop_too_deep at loop names line fault s a b taken left looped deep = λ k never suppose.
    refused_on (over_do k line s a b taken left)
    (too_deep fault (UnlessLoop at names s.scope.enclosing k) loop (block (λ x. token (end_ (λ e. k line x e)))) b deep suppose
    (λ l x is. never line l (tree.statements tree.no_stats) x is) (λ full dead.
    dead_to_end (k line) (λ x e. dead line e x (λ fits. deep_loop at loop names s.scope.enclosing x looped full fits))) tt)

pub loop_refused : (at loop inner : Nesting) (names : List Bytes) (line : ℕ) (fault : ParseFault) (s a b t : State) → Takes (Word word.Do) line s a → Turns (declare names a.scope) a b →
    IsLooped at loop → IsWithin loop inner → RefusesBlock inner b t fault → RefusesLoop at names s t fault
loop_refused at loop inner names line fault s a b t taken turn looped part refuses = λ k never suppose.
    let same : b.scope ≡ declare names s.scope = turn.scope ∙ ap (declare names) taken.scope in
    refused_on (over_do k line s a b taken turn.left)
    (refuses (λ x. token (end_ (λ e. k line x e))) (supposes_on fault (λ dead x not.
    dead_end (k line x) (λ e. dead line e x (λ fits.
    not (subst (λ z. FitsBlock inner z.enclosing x) (sym same) (loop_block_fits at loop inner names s.scope.enclosing x looped part fits))))) suppose))

pub loop_without_end : (at inner : Nesting) (names : List Bytes) (line : ℕ) (fault : ParseFault) (out : List Stmt) (s a b c d t : State) → Takes (Word word.Do) line s a → b.left ≡ a.left →
    ReadsBlock inner b out c → d.left ≡ c.left → OnAt (Misses (IsKind (Word word.End)) d t) fault → RefusesLoop at names s t fault
loop_without_end at inner names line fault out s a b c d t taken left r same missing = λ k never suppose.
    refused_on (on (over_do k line s a b taken left) (moved same (block_ended inner b c out r (λ x. token (end_ (λ e. k line x e))))))
    (no_end fault (UnlessLoop at names s.scope.enclosing k) (k line r.tree) d t missing suppose (λ l x is. never line l r.tree x is))

-- ---- what a parser says of its state

-- nothing was read
pub unread : (tokens : List Token) (p q : Parser) → q.index ≡ p.index → (state tokens q).left ≡ (state tokens p).left
unfolding state
unread tokens p q index = ap (λ n. lexemes (drop n tokens)) index

pub innermost : (tokens : List Token) (p : Parser) → (state tokens p).scope.enclosing ≡ frame_of p.frame ∷ frames_of p.enclosing
unfolding state
innermost tokens p = refl

pub crowded_there : (tokens : List Token) (p : Parser) (n : ℕ) (fault : ParseFault) → OnLocals (200 < in_scope (scope_of p) + n) fault → OnLocals (200 < in_scope (state tokens p).scope + n) fault
unfolding state
crowded_there tokens p n fault h = h

-- where the next token fits nothing
pub unfit_refused : (tokens : List Token) (p : Parser) (r : Reader) → ((line : ℕ) → feed r (ahead (state tokens p)) line ≡ failed) → IsWaiting r →
    Refuses (At (line_or (last_line (lexemes tokens)) (state tokens p).left)) r (state tokens p) (state tokens p)
unfolding state
unfit_refused tokens p r none waits = record { sticks = fails (At (line_or (last_line (lexemes tokens)) (state tokens p).left)) r (state tokens p) none waits; reports = refl }

-- the kind of the next token, where it is known
kind_next : (kind : TokenKind) (left : List Lexeme) → Begin (IsKind kind) left → first_kind left ≡ kind
kind_next kind [] next = absurd next
kind_next kind (first ∷ after) next = next

-- ---- a loop over numbers

-- a limit of its values, or what is after
pub dead_limit : (f l : Line) (n : Bytes) (q : Line) (from : Exp) (c : Line) (to : Exp) (k : Stat → Reader) → ((d : Line) (b : Block) (e : Line) → IsDead (k (tree.for_range f l n q from c to d b e)))
    → ((m : Line) (step : Exp) (d : Line) (b : Block) (e : Line) → IsDead (k (tree.for_steps f l n q from c to m step d b e)))
    → (kind : TokenKind) (m : Line) → IsDead (for_limit f l n q from c to k kind m)
dead_limit f l n q from c to k range steps (Sign sign.Comma) m = λ step. dead_loop_body _ (λ d b e. steps m step d b e)
dead_limit f l n q from c to k range steps kind m = dead_loop_body (λ d b e. k (tree.for_range f l n q from c to d b e)) range kind m

-- after `=`, the first value, the comma and the second value
over_assign : (f l : Line) (n : Bytes) (k : Stat → Reader) (q : ℕ) (s a : State) → Takes (Sign sign.Assign) q s a →
    Moves (token (for_tail f k (tree.first_name l n))) s (exp 1 (λ from. token (comma (λ c. exp 1 (λ to. token (for_limit f l n q from c to k)))))) a
over_assign f l n k q s a taken = by_token (token (for_tail f k (tree.first_name l n))) (Sign sign.Assign) q s a taken

over_from : (at : Nesting) (f l : Line) (n : Bytes) (k : Stat → Reader) (q : ℕ) (from : Expr) (s a b : State) → Takes (Sign sign.Assign) q s a → (r : ReadsValue at a from b) →
    Moves (token (for_tail f k (tree.first_name l n))) s (token (comma (λ c. exp 1 (λ to. token (for_limit f l n q r.tree c to k))))) b
over_from at f l n k q from s a b taken r =
    on (over_assign f l n k q s a taken) (value_ended at a b from r (λ from. token (comma (λ c. exp 1 (λ to. token (for_limit f l n q from c to k))))))

over_comma : (at : Nesting) (f l : Line) (n : Bytes) (k : Stat → Reader) (q c : ℕ) (from : Expr) (s a b d : State) → Takes (Sign sign.Assign) q s a → (r : ReadsValue at a from b) →
    Takes (Sign sign.Comma) c b d → Moves (token (for_tail f k (tree.first_name l n))) s (exp 1 (λ to. token (for_limit f l n q r.tree c to k))) d
over_comma at f l n k q c from s a b d taken r between =
    on (over_from at f l n k q from s a b taken r) (by_token (token (comma (λ c. exp 1 (λ to. token (for_limit f l n q r.tree c to k))))) (Sign sign.Comma) c b d between)

over_to : (at : Nesting) (f l : Line) (n : Bytes) (k : Stat → Reader) (q c : ℕ) (from to : Expr) (s a b d g : State) → Takes (Sign sign.Assign) q s a → (r : ReadsValue at a from b) →
    Takes (Sign sign.Comma) c b d → (v : ReadsValue at d to g) → Moves (token (for_tail f k (tree.first_name l n))) s (token (for_limit f l n q r.tree c v.tree k)) g
over_to at f l n k q c from to s a b d g taken r between v =
    on (over_comma at f l n k q c from s a b d taken r between) (value_ended at d g to v (λ to. token (for_limit f l n q r.tree c to k)))

-- there is one name
abbrev pub RefusesRange : Nesting → Line → Line → Bytes → State → State → ParseFault → Type 0
RefusesRange at f l n s t fault = (k : Stat → Reader) → NeverChunk k → UnlessStat at s fault k → Refuses fault (token (for_tail f k (tree.first_name l n))) s t

pub one_name : (at : Nesting) (names : List Bytes) (s t : State) (fault : ParseFault) → length names ≡ 1 → ((f l : Line) (n : Bytes) → names ≡ n ∷ [] → RefusesRange at f l n s t fault) →
    RefusesFor at names s t fault
one_name at names s t fault one refuses f (tree.first_name l n) are k never suppose = refuses f l n are k never suppose
one_name at names s t fault one refuses f (tree.next_name ns c l n) are k never suppose = absurd (two_names ns n (ap length (sym are) ∙ one))

many_fail : (f : Line) (k : Stat → Reader) (ns : NameList) (m : Line) → (length (names_of ns) ≡ 1 → ⊥) → for_tail f k ns (Sign sign.Assign) m ≡ failed
many_fail f k (tree.first_name l n) m many = absurd (many refl)
many_fail f k (tree.next_name ns c l n) m many = refl

pub many_names : (at : Nesting) (names : List Bytes) (tokens : List Token) (p : Parser) → (length names ≡ 1 → ⊥) → IsNext (Sign sign.Assign) (state tokens p) →
    RefusesFor at names (state tokens p) (state tokens p) (At (line_or (last_line (lexemes tokens)) (state tokens p).left))
many_names at names tokens p many next = λ f ns are k never suppose.
    unfit_refused tokens p (token (for_tail f k ns)) (λ line.
    rw (kind_next (Sign sign.Assign) (state tokens p).left next) (many_fail f k ns line (λ one. many (ap length are ∙ one)))) tt

-- in a value
pub range_from_refused : (at : Nesting) (f l : Line) (n : Bytes) (q : ℕ) (fault : ParseFault) (s a t : State) → Takes (Sign sign.Assign) q s a → RefusesValue at a t fault → RefusesRange at f l n s t fault
range_from_refused at f l n q fault s a t taken refuses k never suppose =
    refused_on (over_assign f l n k q s a taken)
    (refuses (λ from. token (comma (λ c. exp 1 (λ to. token (for_limit f l n q from c to k))))) (supposes_on fault (λ dead from not.
    let none : FitsValue at s.scope.enclosing from → ⊥ = λ fits. not (subst (λ z. FitsValue at z.enclosing from) (sym taken.scope) fits) in
    dead_comma (λ c. exp 1 (λ to. token (for_limit f l n q from c to k))) (λ c to.
    dead_limit f l n q from c to k
    (λ d b e. dead (tree.for_range f l n q from c to d b e) (λ w. none (range_from at s.scope.enclosing f l n q from c to d b e w)))
    (λ m step d b e. dead (tree.for_steps f l n q from c to m step d b e) (λ w. none (steps_from at s.scope.enclosing f l n q from c to m step d b e w))))) suppose))

pub range_without_comma : (at : Nesting) (f l : Line) (n : Bytes) (q : ℕ) (fault : ParseFault) (from : Expr) (s a b t : State) → Takes (Sign sign.Assign) q s a → ReadsValue at a from b →
    OnAt (Misses (IsKind (Sign sign.Comma)) b t) fault → RefusesRange at f l n s t fault
range_without_comma at f l n q fault from s a b t taken r missing k never suppose =
    refused_on (over_from at f l n k q from s a b taken r)
    (no_comma fault (Unless (FitsStat at s.scope.enclosing) k) (λ c. exp 1 (λ to. token (for_limit f l n q r.tree c to k))) b t missing suppose)

pub range_to_refused : (at : Nesting) (f l : Line) (n : Bytes) (q c : ℕ) (fault : ParseFault) (from : Expr) (s a b d t : State) → Takes (Sign sign.Assign) q s a → ReadsValue at a from b →
    Takes (Sign sign.Comma) c b d → RefusesValue at d t fault → RefusesRange at f l n s t fault
range_to_refused at f l n q c fault from s a b d t taken r between refuses k never suppose =
    let first : Resolves r.tree s.scope from b.scope = subst (λ z. Resolves r.tree z from b.scope) taken.scope r.resolved in
    refused_on (over_comma at f l n k q c from s a b d taken r between)
    (refuses (λ to. token (for_limit f l n q r.tree c to k)) (supposes_on fault (λ dead to not.
    let none : FitsValue at b.scope.enclosing to → ⊥ = λ fits. not (subst (λ z. FitsValue at z.enclosing to) (sym between.scope) fits) in
    dead_limit f l n q r.tree c to k
    (λ x y e. dead (tree.for_range f l n q r.tree c to x y e) (λ w. none (range_to at s.scope.enclosing f l n q r.tree c to x y e s.scope b.scope from refl first w)))
    (λ m step x y e. dead (tree.for_steps f l n q r.tree c to m step x y e) (λ w. none (steps_to at s.scope.enclosing f l n q r.tree c to m step x y e s.scope b.scope from refl first w)))) suppose))

pub range_step_refused : (at : Nesting) (f l : Line) (n : Bytes) (q c : ℕ) (fault : ParseFault) (from to : Expr) (s a b d g t : State) → Takes (Sign sign.Assign) q s a → ReadsValue at a from b →
    Takes (Sign sign.Comma) c b d → ReadsValue at d to g → RefusesStep at g t fault → RefusesRange at f l n s t fault
range_step_refused at f l n q c fault from to s a b d g t taken r between v refuses k never suppose =
    let first : Resolves r.tree s.scope from b.scope = subst (λ z. Resolves r.tree z from b.scope) taken.scope r.resolved in
    let second : Resolves v.tree b.scope to g.scope = subst (λ z. Resolves v.tree z to g.scope) between.scope v.resolved in
    refused_on (over_to at f l n k q c from to s a b d g taken r between v)
    (refuses f l n q r.tree c v.tree k (supposes_on fault (λ dead m step not.
    dead_loop_body (λ x y e. k (tree.for_steps f l n q r.tree c v.tree m step x y e)) (λ x y e.
    dead (tree.for_steps f l n q r.tree c v.tree m step x y e) (λ w.
    not (steps_step at s.scope.enclosing f l n q r.tree c v.tree m step x y e s.scope b.scope g.scope from to refl first second w)))) suppose))

-- after the values: another one, or none
limit_ends : (f l : Line) (n : Bytes) (q : Line) (from : Exp) (c : Line) (to : Exp) (k : Stat → Reader) (kind : TokenKind) (m : Line) → (IsKind (Sign sign.Comma) kind → ⊥) →
    for_limit f l n q from c to k kind m ≡ loop_body (λ d b e. k (tree.for_range f l n q from c to d b e)) kind m
limit_ends f l n q from c to k (Sign sign.Comma) m other = absurd (other refl)
limit_ends f l n q from c to k kind m other = refl

pub range_block_refused : (at : Nesting) (f l : Line) (n : Bytes) (q c : ℕ) (fault : ParseFault) (from to : Expr) (step : Option Expr) (s a b d g h t : State) → Takes (Sign sign.Assign) q s a →
    ReadsValue at a from b → Takes (Sign sign.Comma) c b d → ReadsValue at d to g → ReadsStep at g step h → IfNone step (IsNext (Sign sign.Comma) g → ⊥) →
    RefusesLoop at (n ∷ []) h t fault → RefusesRange at f l n s t fault
range_block_refused at f l n q c fault from to (Some e) s a b d g h t taken r between v (m, u, comma_taken, w) ends refuses k never suppose =
    let first : Resolves r.tree s.scope from b.scope = subst (λ z. Resolves r.tree z from b.scope) taken.scope r.resolved in
    let second : Resolves v.tree b.scope to g.scope = subst (λ z. Resolves v.tree z to g.scope) between.scope v.resolved in
    let third : Resolves w.tree g.scope e h.scope = subst (λ z. Resolves w.tree z e h.scope) comma_taken.scope w.resolved in
    refused_on (on (on (over_to at f l n k q c from to s a b d g taken r between v) (by_token (token (for_limit f l n q r.tree c v.tree k)) (Sign sign.Comma) m g u comma_taken))
    (value_ended at u h e w (λ step. token (loop_body (λ x y z. k (tree.for_steps f l n q r.tree c v.tree m step x y z))))))
    (refuses (λ x y z. k (tree.for_steps f l n q r.tree c v.tree m w.tree x y z)) (λ x z y o is. never (tree.for_steps f l n q r.tree c v.tree m w.tree x y z) o is) (supposes_on fault (λ dead x z y not.
    dead (tree.for_steps f l n q r.tree c v.tree m w.tree x y z) (λ fits.
    not (steps_block at s.scope.enclosing f l n q r.tree c v.tree m w.tree x y z s.scope b.scope g.scope h.scope from to e refl first second third fits))) suppose))
range_block_refused at f l n q c fault from to None s a b d g h t taken r between v same ends refuses k never suppose =
    let first : Resolves r.tree s.scope from b.scope = subst (λ z. Resolves r.tree z from b.scope) taken.scope r.resolved in
    let second : Resolves v.tree b.scope to g.scope = subst (λ z. Resolves v.tree z to g.scope) between.scope v.resolved in
    refused_on (on (over_to at f l n k q c from to s a b d g taken r between v)
    (stays (token (for_limit f l n q r.tree c v.tree k)) (token (loop_body (λ x y z. k (tree.for_range f l n q r.tree c v.tree x y z)))) g (λ line.
    limit_ends f l n q r.tree c v.tree k (ahead g) line (not_first (Sign sign.Comma) g.left (λ is. cc) ends)) tt))
    (subst (λ z. RefusesLoop at (n ∷ []) z t fault) same refuses (λ x y z. k (tree.for_range f l n q r.tree c v.tree x y z)) (λ x z y o is. never (tree.for_range f l n q r.tree c v.tree x y z) o is)
    (supposes_on fault (λ dead x z y not.
    dead (tree.for_range f l n q r.tree c v.tree x y z) (λ fits.
    not (range_block at s.scope.enclosing f l n q r.tree c v.tree x y z s.scope b.scope g.scope from to refl first second fits))) suppose))

-- ---- a loop over the values of a function

tail_fails : (f : Line) (k : Stat → Reader) (ns : NameList) (kind : TokenKind) (l : Line) → (kind ≡ Sign sign.Assign → ⊥) → (IsKind (Word word.In) kind → ⊥) → for_tail f k ns kind l ≡ failed
tail_fails f k ns (Word word.In) l assign in_ = absurd (in_ refl)
tail_fails f k (tree.first_name m n) (Sign sign.Assign) l assign in_ = absurd (assign refl)
tail_fails f k ns kind l assign in_ = refl

pub list_without_in : (at : Nesting) (names : List Bytes) (fault : ParseFault) (s t : State) → (IsNext (Sign sign.Assign) s → ⊥) → OnAt (Misses (IsKind (Word word.In)) s t) fault →
    RefusesFor at names s t fault
list_without_in at names (At line) s t other m f ns are k never suppose =
    subst (λ z. Refuses (At line) (token (for_tail f k ns)) s z) (sym m.same)
    (record {
      sticks = fails (At line) (token (for_tail f k ns)) s (λ l.
          tail_fails f k ns (ahead s) l (not_first (Sign sign.Assign) s.left (λ is. cc) other) (not_first (Word word.In) s.left (λ is. cc) m.missing)) tt;
      reports = m.reported;
    })
list_without_in at names Memory s t other m f ns are k never suppose = absurd suppose
list_without_in at names fault s t other m f ns are k never suppose = absurd m

over_in : (f : Line) (k : Stat → Reader) (ns : NameList) (i : ℕ) (s a : State) → Takes (Word word.In) i s a →
    Moves (token (for_tail f k ns)) s (list (λ es. token (loop_body (λ d b e. k (tree.for_in f ns i es d b e))))) a
over_in f k ns i s a taken = by_token (token (for_tail f k ns)) (Word word.In) i s a taken

pub list_refused : (at : Nesting) (names : List Bytes) (word_at : ℕ) (fault : ParseFault) (s a t : State) → Takes (Word word.In) word_at s a → RefusesValues at a t fault → RefusesFor at names s t fault
list_refused at names i fault s a t taken refuses f ns are k never suppose =
    refused_on (over_in f k ns i s a taken)
    (refuses (λ es. token (loop_body (λ d b e. k (tree.for_in f ns i es d b e)))) (supposes_on fault (λ dead es not.
    dead_loop_body (λ d b e. k (tree.for_in f ns i es d b e)) (λ d b e. dead (tree.for_in f ns i es d b e) (λ w.
    not (subst (λ z. FitsValues at z.enclosing es) (sym taken.scope) (list_values at s.scope.enclosing f ns i es d b e w))))) suppose))

pub list_block_refused : (at : Nesting) (names : List Bytes) (word_at : ℕ) (fault : ParseFault) (xs : List Expr) (s a b t : State) → Takes (Word word.In) word_at s a → ReadsValues at a xs b →
    RefusesLoop at names b t fault → RefusesFor at names s t fault
list_block_refused at names i fault xs s a b t taken r refuses f ns are k never suppose =
    let first : ResolvesList r.tree s.scope xs b.scope = subst (λ z. ResolvesList r.tree z xs b.scope) taken.scope r.resolved in
    refused_on (on (over_in f k ns i s a taken) (values_ended at a b xs r (λ es. token (loop_body (λ d x e. k (tree.for_in f ns i es d x e))))))
    (refuses (λ d x e. k (tree.for_in f ns i r.tree d x e)) (λ d e x o is. never (tree.for_in f ns i r.tree d x e) o is) (supposes_on fault (λ dead d e x not.
    dead (tree.for_in f ns i r.tree d x e) (λ w.
    not (subst (λ z. FitsLoop at z b.scope.enclosing x) (sym are) (list_block at s.scope.enclosing f ns i r.tree d x e s.scope b.scope xs refl first w)))) suppose))

-- ---- either loop

-- a loop with those variables, of which no tree fits
dead_tail : (f : Line) (k : Stat → Reader) (ns : NameList) → ((s : Stat) → IsLoopOf ns s → IsDead (k s)) → (kind : TokenKind) (l : Line) → IsDead (for_tail f k ns kind l)
dead_tail f k ns dead (Word word.In) i = λ e es from. dead_loop_body _ (λ d b x. dead (tree.for_in f ns i es d b x) refl)
dead_tail f k (tree.first_name l n) dead (Sign sign.Assign) q = λ from. dead_comma _ (λ c to.
    dead_limit f l n q from c to k (λ d b e. dead (tree.for_range f l n q from c to d b e) refl) (λ m step d b e. dead (tree.for_steps f l n q from c to m step d b e) refl))
dead_tail f k ns dead other i = tt

over_for : (k : Stat → Reader) (f : ℕ) (s a : State) → Takes (Word word.For) f s a → Moves (token (statement k)) s (token (for_ f k)) a
over_for k f s a taken = by_token (token (statement k)) (Word word.For) f s a taken

for_fails : (f : Line) (k : Stat → Reader) (kind : TokenKind) (l : Line) → (IsName kind → ⊥) → for_ f k kind l ≡ failed
for_fails f k (Name n) l other = absurd (other tt)
for_fails f k kind l other = refl

pub for_names_refused : (at : Nesting) (line taken_slots : ℕ) (fault : ParseFault) (first : Frame) (others : List Frame) (s a t : State) → s.scope.enclosing ≡ first ∷ others →
    Takes (Word word.For) line s a → taken_slots ≡ in_scope a.scope → RefusesNames taken_slots a t fault → RefusesStat at s t fault
for_names_refused at f count fault first others s a t is taken counted refuses = λ k never suppose.
    refused_on (over_for k f s a taken)
    (refuses (token (for_ f k)) (λ ns. token (for_tail f k ns)) (λ n l. refl) (λ l other. for_fails f k (ahead a) l other) (supposes_on fault (λ dead ns crowded.
    dead_tail f k ns (λ x of. dead x (λ fits.
    crowded_loop at ns s.scope.enclosing first others x of is (subst (λ z. 200 < z + length (names_of ns)) (counted ∙ ap in_scope taken.scope) crowded) fits))) suppose))

pub for_tail_refused : (at : Nesting) (line : ℕ) (names : List Bytes) (fault : ParseFault) (s a b t : State) → Takes (Word word.For) line s a → ReadsNames [] a names b →
    (IsNext (Sign sign.Comma) b → ⊥) → RefusesFor at names b t fault → RefusesStat at s t fault
for_tail_refused at f names fault s a b t taken r ends refuses = λ k never suppose.
    let same : b.scope ≡ s.scope = r.scope ∙ taken.scope in
    refused_on (on (over_for k f s a taken)
    (names_ended r.tree (token (for_ f k)) (λ ns. token (for_tail f k ns)) no_rest a b r.printed (λ n l. refl) (no_comma_ahead b ends)))
    (refuses f r.tree r.listed k never (subst (λ z. Supposes fault (Unless (FitsStat at z.enclosing) k)) (sym same) suppose))
