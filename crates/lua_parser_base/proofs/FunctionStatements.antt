-- Where the statement of a function or a method is refused.
use Rattle.std.proofs.Common.{◌≡◌, ◌≤◌, ◌+◌, inl, inr, ℕ, List, [], ◌∷◌, refl, sym, ap, subst, arith, ◌∙◌}
use Rattle.lua_lexer.specs.declared.tokens.TokenKind.{TokenKind}
use Rattle.lua_lexer.specs.declared.tokens.TokenKind.TheVariants.{Name as NameKind, Word as WordKind, Sign as SignKind}
use Rattle.lua_lexer.specs.declared.signs.Sign.TheVariants.{Colon, Dot}
use Rattle.lua_lexer.specs.declared.words.Word.TheVariants.{Function}
use Rattle.lua_ast.specs.declared.expressions.Expr.{Expr}
use Rattle.lua_grammar.specs.Tree.{Line, Bytes, FuncName, FuncBody, Stat}
use Rattle.lua_grammar.specs.Tree as tree
use Rattle.lua_grammar.specs.Levels.{levels, funcname_height}
use Rattle.lua_grammar.specs.Validity.{IsValid}
use Rattle.lua_grammar.specs.Waiting.{Reader, failed, token, more_funcname, name}
use Rattle.lua_grammar.specs.Reading.{body, function_tail, function_, statement, feed}
use Rattle.lua_grammar.specs.Scopes.{Frame, Scope, look}
use Rattle.lua_grammar.specs.Limits.{Few}
use Rattle.lua_grammar.specs.Resolution.{Resolves, ResolvesFuncName, self_name}
use Rattle.lua_grammar.specs.Dead.{IsDead, FuncNameFrom}
use Rattle.lua_grammar.proofs.DeadParts.{dead_body, dead_name}
use Rattle.lua_grammar.proofs.Few.{few_before_it}
use Rattle.lua_grammar.proofs.Growing.{body_keeps}
use Rattle.lua_grammar.proofs.SameFrames.{funcname_alike}
use Rattle.lua_parser_base.specs.declared.faults.ParseFault.{ParseFault}
use Rattle.lua_parser_base.specs.declared.faults.ParseFault.TheVariants.{At, Depth, Upvalues, Memory}
use Rattle.lua_parser_base.specs.declared.nesting.Nesting.{Nesting}
use Rattle.lua_parser_base.specs.declared.statement_nodes.FunctionName.{FunctionName}
use Rattle.lua_lexer.specs.declared.tokens.Token.{Token}
use Rattle.lua_parser_base.specs.declared.cursor.Parser.{Parser}
use Rattle.lua_parser_base.specs.States.{State, Takes, scope_of, state}
use Rattle.lua_parser_base.specs.Next.{IsKind, IsName, IsNext, Misses, MissesMember, OnAt, OnUpvalues, ahead}
use Rattle.lua_parser_base.specs.ReadsStatements.{ReadsFuncName, ReadsMember}
use Rattle.lua_parser_base.specs.Fits.{FitsBody, FitsStat, IsResolvable}
use Rattle.lua_parser_base.specs.Readers.{Moves, Refuses}
use Rattle.lua_parser_base.specs.Refusals.{RefusesBody}
use Rattle.lua_parser_base.specs.StatementRefusals.{RefusesFuncName, RefusesMethod, RefusesStat, UnlessStat}
use Rattle.lua_parser_base.proofs.Moving.{by_token, dead_stuck, moved, not_first, on, refused_on, stays, supposes_on}
use Rattle.lua_parser_base.proofs.Printed.{funcname_moves}
use Rattle.lua_parser_base.proofs.Refusing.{limited, missed, never_missed_ahead, no_name}

-- ---- what a statement that fits says of its parts

function_name_fits : (at : Nesting) (enclosing : List Frame) (f : Line) (g : FuncName) (b : FuncBody) → FitsStat at enclosing (tree.function_statement f g b) →
    IsResolvable ResolvesFuncName enclosing g
unfolding Resolves
function_name_fits at enclosing f g b fits =
    let (xs, values, e, n, m, p, q, j, v, i) = fits.resolvable.resolved in
    let r = fits.resolvable in
    record { before = r.before; out = e; after = m; same = r.same; resolved = p; few = few_before_it (body_keeps [] f b m n r.after q) r.few }

method_name_fits : (at : Nesting) (enclosing : List Frame) (f : Line) (g : FuncName) (c l : Line) (n : Bytes) (b : FuncBody) →
    FitsStat at enclosing (tree.method_statement f g c l n b) → IsResolvable ResolvesFuncName enclosing g
unfolding Resolves
method_name_fits at enclosing f g c l n b fits =
    let (xs, values, object, e, number, m, p, o, q, j, v, i) = fits.resolvable.resolved in
    let r = fits.resolvable in
    record { before = r.before; out = object.value; after = m; same = r.same; resolved = p; few = few_before_it (body_keeps (self_name ∷ []) f b m number r.after q) r.few }

function_body_fits : (at : Nesting) (enclosing : List Frame) (f : Line) (g : FuncName) (b : FuncBody) (s t : Scope) (e : Expr) →
    FitsStat at enclosing (tree.function_statement f g b) → s.enclosing ≡ enclosing → ResolvesFuncName g s e t → FitsBody at f [] t.enclosing b
unfolding levels IsValid Resolves
function_body_fits at enclosing f g b s t e fits here named =
    let (xs, values, target, n, m, p, q, j, v, i) = fits.resolvable.resolved in
    let r = fits.resolvable in
    record {
      valid = fits.valid.0;
      deep = fits.deep;
      resolvable = record {
        before = m;
        out = n;
        after = r.after;
        same = (funcname_alike g r.before s target e m t p named (record { enclosing = r.same ∙ sym here })).enclosing;
        resolved = q;
        few = r.few;
      };
    }

method_body_fits : (at : Nesting) (enclosing : List Frame) (f : Line) (g : FuncName) (c l : Line) (name : Bytes) (b : FuncBody) (s t : Scope) (e : Expr) →
    FitsStat at enclosing (tree.method_statement f g c l name b) → s.enclosing ≡ enclosing → ResolvesFuncName g s e t → FitsBody at f (self_name ∷ []) t.enclosing b
unfolding levels IsValid Resolves
method_body_fits at enclosing f g c l name b s t e fits here named =
    let (xs, values, object, target, n, m, p, o, q, j, v, i) = fits.resolvable.resolved in
    let r = fits.resolvable in
    record {
      valid = fits.valid.0;
      deep = fits.deep;
      resolvable = record {
        before = m;
        out = n;
        after = r.after;
        same = (funcname_alike g r.before s object.value e m t p named (record { enclosing = r.same ∙ sym here })).enclosing;
        resolved = q;
        few = r.few;
      };
    }

function_name_low : (at : Nesting) (enclosing : List Frame) (f : Line) (g : FuncName) (b : FuncBody) → FitsStat at enclosing (tree.function_statement f g b) → funcname_height g ≤ 4_000
unfolding IsValid
function_name_low at enclosing f g b fits = fits.valid.1

method_name_low : (at : Nesting) (enclosing : List Frame) (f : Line) (g : FuncName) (c l : Line) (n : Bytes) (b : FuncBody) →
    FitsStat at enclosing (tree.method_statement f g c l n b) → funcname_height g + 1 ≤ 4_000
unfolding IsValid
method_name_low at enclosing f g c l n b fits = fits.valid.1

-- ---- names that go on

first_name_resolves : (first whole : FuncName) → FuncNameFrom first whole → (s : Scope) (e : Expr) (t : Scope) → ResolvesFuncName whole s e t →
    (d : Expr) × ResolvesFuncName first s d t
first_name_resolves first whole FuncNameFrom.alone s e t r = (e, r)
first_name_resolves first whole (FuncNameFrom.more f d l n from) s e t (object, r, i) = first_name_resolves first f from s object.value t r

higher_name : (first whole : FuncName) → FuncNameFrom first whole → funcname_height first ≤ funcname_height whole
higher_name first whole FuncNameFrom.alone = omega arith
higher_name first whole (FuncNameFrom.more f d l n from) = let h = higher_name first f from in omega (arith, h)

crowded_name : (l : Line) (n : Bytes) (whole : FuncName) (enclosing : List Frame) → FuncNameFrom (tree.root_name l n) whole → (Few (look n enclosing).1 → ⊥) →
    IsResolvable ResolvesFuncName enclosing whole → ⊥
crowded_name l n whole enclosing from not r =
    let (d, named) = first_name_resolves (tree.root_name l n) whole from r.before r.out r.after r.resolved in
    not (subst Few (ap (λ z. z.enclosing) named.scope ∙ ap (λ fs. (look n fs).1) r.same) r.few)

dead_tail : (f : Line) (k : Stat → Reader) (g : FuncName) → ((b : FuncBody) → IsDead (k (tree.function_statement f g b))) →
    ((c l : Line) (n : Bytes) (b : FuncBody) → IsDead (k (tree.method_statement f g c l n b))) → (kind : TokenKind) (l : Line) → IsDead (function_tail f k g kind l)
dead_tail f k g plain method (SignKind Colon) c = dead_name _ (λ l m. dead_body _ (λ b. method c l m b))
dead_tail f k g plain method kind l = dead_body (λ b. k (tree.function_statement f g b)) plain kind l

-- ---- the name of a function

abbrev after_name : Line → (Stat → Reader) → FuncName → Reader
after_name f k g = token (function_tail f k g)

too_many_captures : (line : ℕ) (r : Reader) (s : State) → IsDead r → Refuses (Upvalues line) r s s
too_many_captures line r s dead = record { sticks = dead_stuck (Upvalues line) r s (λ b c. c) dead tt; reports = tt }

function_fails : (f : Line) (k : Stat → Reader) (kind : TokenKind) (l : Line) → (IsName kind → ⊥) → function_ f k kind l ≡ failed
function_fails f k (NameKind n) l h = absurd (h tt)
function_fails f k kind l h = refl

pub function_unnamed : (at : Nesting) (fault : ParseFault) (s t : State) → OnAt (Misses IsName s t) fault → RefusesFuncName at s t fault
function_unnamed at fault s t m = λ f k suppose. missed fault _ (token (function_ f k)) IsName s t m suppose (λ is. is) (function_fails f k) tt

pub function_name_crowded : (at : Nesting) (fault : ParseFault) (s m t : State) (l : ℕ) (n : Bytes) → Takes (NameKind n) l s m → t.left ≡ m.left →
    OnUpvalues l (Few (look n m.scope.enclosing).1 → ⊥) fault → RefusesFuncName at s t fault
function_name_crowded at (Upvalues line) s m t l n taken same not = λ f k suppose.
    refused_on (moved same (by_token (token (function_ f k)) (NameKind n) l s m taken))
    (too_many_captures line (more_funcname (tree.root_name l n) (after_name f k)) t (λ whole from.
    let crowded = crowded_name l n whole s.scope.enclosing from (subst (λ z. Few (look n z.enclosing).1 → ⊥) taken.scope not.0) in
    dead_tail f k whole
    (λ b. suppose (tree.function_statement f whole b) (λ fits. crowded (function_name_fits at s.scope.enclosing f whole b fits)))
    (λ c d e b. suppose (tree.method_statement f whole c d e b) (λ fits. crowded (method_name_fits at s.scope.enclosing f whole c d e b fits)))))
function_name_crowded at Memory s m t l n taken same not = λ f k suppose. absurd suppose
function_name_crowded at other s m t l n taken same not = absurd not

pub function_member_missed : (at : Nesting) (fault : ParseFault) (s m t : State) (object : FunctionName) → ReadsFuncName s object m → IsNext (SignKind Dot) m →
    MissesMember Dot object.height m t fault → RefusesFuncName at s t fault
function_member_missed at (At l) s m t object read next (inl miss) = absurd (miss.missing next)
function_member_missed at (At l) s m t object read next (inr (mid, d, taken, miss, low)) = λ f k suppose.
    refused_on (on (funcname_moves read.tree (token (function_ f k)) (after_name f k) s m read.printed (λ n l. refl)) (by_token (more_funcname read.tree (after_name f k)) (SignKind Dot) d m mid taken))
    (no_name (At l) (Unit {0}) (λ l n. more_funcname (tree.name_member read.tree d l n) (after_name f k)) mid t miss suppose)
function_member_missed at (Depth d) s m t object read next (taken, high) = λ f k suppose.
    refused_on (on (funcname_moves read.tree (token (function_ f k)) (after_name f k) s m read.printed (λ n l. refl)) (by_token (more_funcname read.tree (after_name f k)) (SignKind Dot) d m t taken))
    (limited d (token (name (λ l n. more_funcname (tree.name_member read.tree d l n) (after_name f k)))) t (dead_name (λ l n. more_funcname (tree.name_member read.tree d l n) (after_name f k)) (λ l n whole from.
    let more = higher_name (tree.name_member read.tree d l n) whole from in
    let own = read.high in
    dead_tail f k whole
    (λ b. suppose (tree.function_statement f whole b) (λ fits. let low = function_name_low at s.scope.enclosing f whole b fits in omega (arith, more, own, low, high)))
    (λ c d e b. suppose (tree.method_statement f whole c d e b) (λ fits. let low = method_name_low at s.scope.enclosing f whole c d e b fits in omega (arith, more, own, low, high))))))
function_member_missed at Memory s m t object read next miss = λ f k suppose. absurd suppose
function_member_missed at other s m t object read next miss = absurd miss

-- ---- a method

pub method_unnamed : (at : Nesting) (line : Line) (fault : ParseFault) (m t : State) (object : FunctionName) → IsNext (SignKind Colon) m →
    MissesMember Colon object.height m t fault → RefusesMethod at line object m t fault
method_unnamed at line (At l) m t object next (inl miss) = absurd (miss.missing next)
method_unnamed at line (At l) m t object next (inr (mid, c, taken, miss, low)) = λ s read k never suppose.
    refused_on (by_token (after_name line k read.tree) (SignKind Colon) c m mid taken)
    (no_name (At l) (Unit {0}) (λ l n. token (body (λ b. k (tree.method_statement line read.tree c l n b)))) mid t miss suppose)
method_unnamed at line (Depth c) m t object next (taken, high) = λ s read k never suppose.
    refused_on (by_token (after_name line k read.tree) (SignKind Colon) c m t taken)
    (limited c (token (name (λ l n. token (body (λ b. k (tree.method_statement line read.tree c l n b)))))) t (dead_name (λ l n. token (body (λ b. k (tree.method_statement line read.tree c l n b)))) (λ l n.
    dead_body (λ b. k (tree.method_statement line read.tree c l n b)) (λ b.
    suppose (tree.method_statement line read.tree c l n b) (λ fits.
    let low = method_name_low at s.scope.enclosing line read.tree c l n b fits in
    let own = read.high in
    omega (arith, own, low, high))))))
method_unnamed at line Memory m t object next miss = λ s read k never suppose. absurd suppose
method_unnamed at line other m t object next miss = absurd miss

pub method_body_refused : (at : Nesting) (line : Line) (first : List Bytes) (fault : ParseFault) (m b t : State) (object whole : FunctionName) → ReadsMember Colon object m whole b →
    first ≡ self_name ∷ [] → RefusesBody at line first b t fault → RefusesMethod at line object m t fault
method_body_refused at line first fault m b t object whole step own refuses = λ s read k never suppose.
    let scope : b.scope ≡ m.scope = step.named.scope ∙ step.taken.scope in
    refused_on (on (by_token (after_name line k read.tree) (SignKind Colon) step.line m step.middle step.taken)
    (by_token (token (name (λ l n. token (body (λ x. k (tree.method_statement line read.tree step.line l n x)))))) (NameKind step.name) step.name_at step.middle b step.named))
    (refuses (λ x. k (tree.method_statement line read.tree step.line step.name_at step.name x)) (λ x z is. never _ z is) (supposes_on fault (λ suppose x not.
    suppose (tree.method_statement line read.tree step.line step.name_at step.name x) (λ fits.
    not (subst (λ z. FitsBody at line first z.enclosing x) (sym scope) (subst (λ names. FitsBody at line names m.scope.enclosing x) (sym own)
    (method_body_fits at s.scope.enclosing line read.tree step.line step.name_at step.name x s.scope m.scope object.target fits refl read.resolved))))) suppose))

-- ---- the statement

pub function_word : (at : Nesting) (fault : ParseFault) (s t : State) → ahead s ≡ WordKind Function → OnAt (Misses (IsKind (WordKind Function)) s t) fault → RefusesStat at s t fault
function_word at fault s t next m = λ k never suppose. never_missed_ahead fault _ (token (statement k)) (IsKind (WordKind Function)) s t m suppose (λ is. cc) next

pub statement_after : (at : Nesting) (fault : ParseFault) (k : Stat → Reader) (s a : State) → a.scope ≡ s.scope → UnlessStat at s fault k → UnlessStat at a fault k
statement_after at fault k s a scope suppose = supposes_on fault (λ h x not. h x (λ fits. not (subst (λ z. FitsStat at z.enclosing x) (sym scope) fits))) suppose

pub function_name_refused : (at : Nesting) (fault : ParseFault) (s a t : State) (line : ℕ) → Takes (WordKind Function) line s a → RefusesFuncName at a t fault → RefusesStat at s t fault
function_name_refused at fault s a t line taken refuses = λ k never suppose.
    refused_on (by_token (token (statement k)) (WordKind Function) line s a taken) (refuses line k (statement_after at fault k s a taken.scope suppose))

-- over `function` and its name
ends_name : (g : FuncName) (k : FuncName → Reader) (kind : TokenKind) (l : Line) → (kind ≡ SignKind Dot → ⊥) → feed (more_funcname g k) kind l ≡ feed (k g) kind l
ends_name g k (SignKind Dot) l not = absurd (not refl)
ends_name g k kind l not = refl

over_name : (s a b : State) (line : ℕ) (object : FunctionName) (k : Stat → Reader) → Takes (WordKind Function) line s a → (read : ReadsFuncName a object b) →
    (IsNext (SignKind Dot) b → ⊥) → Moves (token (statement k)) s (after_name line k read.tree) b
over_name s a b line object k taken read last =
    on (by_token (token (statement k)) (WordKind Function) line s a taken)
    (on (funcname_moves read.tree (token (function_ line k)) (after_name line k) a b read.printed (λ n l. refl))
    (stays (more_funcname read.tree (after_name line k)) (after_name line k read.tree) b (λ l. ends_name read.tree (after_name line k) (ahead b) l (not_first (SignKind Dot) b.left (λ is. cc) last)) tt))

pub method_statement_refused : (at : Nesting) (fault : ParseFault) (s a b t : State) (line : ℕ) (object : FunctionName) → Takes (WordKind Function) line s a → ReadsFuncName a object b →
    (IsNext (SignKind Dot) b → ⊥) → RefusesMethod at line object b t fault → RefusesStat at s t fault
method_statement_refused at fault s a b t line object taken read last refuses = λ k never suppose.
    refused_on (over_name s a b line object k taken read last) (refuses a read k never (statement_after at fault k s a taken.scope suppose))

no_method : (f : Line) (k : Stat → Reader) (g : FuncName) (kind : TokenKind) (l : Line) → (kind ≡ SignKind Colon → ⊥) →
    function_tail f k g kind l ≡ body (λ b. k (tree.function_statement f g b)) kind l
no_method f k g (SignKind Colon) l not = absurd (not refl)
no_method f k g kind l not = refl

pub function_body_refused : (at : Nesting) (first : List Bytes) (fault : ParseFault) (s a b t : State) (line : ℕ) (object : FunctionName) → Takes (WordKind Function) line s a →
    ReadsFuncName a object b → (IsNext (SignKind Dot) b → ⊥) → (IsNext (SignKind Colon) b → ⊥) → first ≡ [] → RefusesBody at line first b t fault → RefusesStat at s t fault
function_body_refused at first fault s a b t line object taken read last plain own refuses = λ k never suppose.
    refused_on (on (over_name s a b line object k taken read last)
    (stays (after_name line k read.tree) (token (body (λ x. k (tree.function_statement line read.tree x)))) b (λ l. no_method line k read.tree (ahead b) l (not_first (SignKind Colon) b.left (λ is. cc) plain)) tt))
    (refuses (λ x. k (tree.function_statement line read.tree x)) (λ x z is. never _ z is) (supposes_on fault (λ suppose x not.
    suppose (tree.function_statement line read.tree x) (λ fits.
    not (subst (λ names. FitsBody at line names b.scope.enclosing x) (sym own)
    (function_body_fits at s.scope.enclosing line read.tree x a.scope b.scope object.target fits (ap (λ z. z.enclosing) taken.scope) read.resolved)))) suppose))

pub crowded_state : (line : ℕ) (tokens : List Token) (p : Parser) (n : Bytes) (fault : ParseFault) → OnUpvalues line (Few (look n (scope_of p).enclosing).1 → ⊥) fault →
    OnUpvalues line (Few (look n (state tokens p).scope.enclosing).1 → ⊥) fault
unfolding state
crowded_state line tokens p n fault h = h
