-- Where the statement of a local function or of locals is refused.
use Rattle.std.proofs.Common.{◌≡◌, ◌≤◌, ◌<◌, ◌+◌, ℕ, List, [], ◌∷◌, length, Option, Some, None, Vec, refl, sym, ap, subst, arith, ◌∙◌}
use Rattle.std.specs.Global.{Global}
use Rattle.std.specs.List.{AllZip}
use Rattle.lua_lexer.specs.declared.tokens.Token.{Token}
use Rattle.lua_lexer.specs.declared.tokens.TokenKind.{TokenKind}
use Rattle.lua_lexer.specs.declared.tokens.TokenKind.TheVariants.{Name as NameKind, Word as WordKind, Sign as SignKind}
use Rattle.lua_lexer.specs.declared.signs.Sign.TheVariants.{Assign, Comma}
use Rattle.lua_lexer.specs.declared.words.Word.TheVariants.{Function, Local}
use Rattle.lua_ast.specs.declared.expressions.Expr.{Expr}
use Rattle.lua_grammar.specs.Tree.{Line, Bytes, NameList, ExpList, FuncBody, Stat}
use Rattle.lua_grammar.specs.Tree as tree
use Rattle.lua_grammar.specs.Levels.{levels}
use Rattle.lua_grammar.specs.Validity.{IsValid}
use Rattle.lua_grammar.specs.Waiting.{Reader, failed, token, name, after_local}
use Rattle.lua_grammar.specs.Reading.{body, local_, no_rest, statement}
use Rattle.lua_grammar.specs.Scopes.{Frame, Scope, count_in, declare, declare_in, in_scope}
use Rattle.lua_grammar.specs.Limits.{Few}
use Rattle.lua_grammar.specs.Resolution.{Resolves, names_of}
use Rattle.lua_grammar.proofs.DeadParts.{dead_body}
use Rattle.lua_grammar.proofs.Few.{few_before, few_before_it}
use Rattle.lua_grammar.proofs.Frames.{Keeps, Steady, declare_goes}
use Rattle.lua_grammar.proofs.Growing.{body_keeps, list_keeps}
use Rattle.lua_parser_base.specs.declared.cursor.Parser.{Parser}
use Rattle.lua_parser_base.specs.declared.faults.ParseFault.{ParseFault}
use Rattle.lua_parser_base.specs.declared.faults.ParseFault.TheVariants.{Locals, Memory}
use Rattle.lua_parser_base.specs.declared.nesting.Nesting.{Nesting}
use Rattle.lua_parser_base.specs.States.{State, Takes, scope_of, state}
use Rattle.lua_parser_base.specs.Next.{IsKind, IsName, IsNext, Misses, OnAt, OnLocals, ahead}
use Rattle.lua_parser_base.specs.ReadsNames.{ReadsNames}
use Rattle.lua_parser_base.specs.ReadsStatements.{ReadsInitial}
use Rattle.lua_parser_base.specs.Fits.{FitsBody, FitsStat, FitsValues}
use Rattle.lua_parser_base.specs.Refusals.{RefusesBody}
use Rattle.lua_parser_base.specs.StatementRefusals.{RefusesInitial, RefusesLocal, RefusesNames, RefusesStat, RefusesValues}
use Rattle.lua_parser_base.proofs.FunctionStatements.{statement_after}
use Rattle.lua_parser_base.proofs.Moving.{by_token, moved, not_first, on, refused_on, supposes_on}
use Rattle.lua_parser_base.proofs.NameLists.{too_many}
use Rattle.lua_parser_base.proofs.Names.{no_comma_ahead}
use Rattle.lua_parser_base.proofs.Printed.{names_ended}
use Rattle.lua_parser_base.proofs.Refusing.{never_missed, never_missed_ahead, no_name}
use Rattle.lua_parser_base.proofs.Scoping.{Turns}

-- ---- so many locals as are in scope

few_declared : (names : List Bytes) (f : Frame) (fs : List Frame) → Few (declare_in names (f ∷ fs)) → length f.locals + length names ≤ 200
unfolding Few
few_declared names f fs few = let h = few.0.locals in omega (arith, h)

crowded_local : (n : Bytes) (fs : List Frame) → 200 ≤ count_in fs → Few (declare_in (n ∷ []) fs) → ⊥
crowded_local n [] many few = omega (arith, many)
crowded_local n (f ∷ fs) many few = let h = few_declared (n ∷ []) f fs few in omega (arith, many, h)

count_kept : (fs gs : List Frame) → AllZip Steady fs gs → count_in gs ≡ count_in fs
count_kept [] [] h = refl
count_kept (f ∷ fs) (g ∷ gs) h = ap length h.0.locals
count_kept [] (g ∷ gs) h = absurd h
count_kept (f ∷ fs) [] h = absurd h

pub in_scope_kept : (s t : Scope) → Keeps s t → in_scope t ≡ in_scope s
in_scope_kept s t k = count_kept s.enclosing t.enclosing k.frames

-- in a function
pub record IsInside (s : State) : Type 0 where
  pub frame : Frame
  pub others : List Frame
  pub enclosing : s.scope.enclosing ≡ frame ∷ others

pub inside : (tokens : List Token) (p : Parser) → IsInside (state tokens p)
unfolding state
inside tokens p = record { frame = _; others = _; enclosing = refl }

-- ---- what a statement that fits says of its parts

local_body_fits : (at : Nesting) (enclosing those : List Frame) (l w m : Line) (n : Bytes) (b : FuncBody) → FitsStat at enclosing (tree.local_function l w m n b) →
    those ≡ declare_in (n ∷ []) enclosing → FitsBody at w [] those b
unfolding levels IsValid Resolves
local_body_fits at enclosing those l w m n b fits same =
    let (k, p, i) = fits.resolvable.resolved in
    let r = fits.resolvable in
    record {
      valid = fits.valid;
      deep = fits.deep;
      resolvable = record { before = declare (n ∷ []) r.before; out = k; after = r.after; same = ap (declare_in (n ∷ [])) r.same ∙ sym same; resolved = p; few = r.few };
    }

local_function_few : (at : Nesting) (enclosing : List Frame) (l w m : Line) (n : Bytes) (b : FuncBody) → FitsStat at enclosing (tree.local_function l w m n b) → Few (declare_in (n ∷ []) enclosing)
unfolding Resolves
local_function_few at enclosing l w m n b fits =
    let (k, p, i) = fits.resolvable.resolved in
    let r = fits.resolvable in
    subst (λ fs. Few (declare_in (n ∷ []) fs)) r.same (few_before_it (body_keeps [] w b (declare (n ∷ []) r.before) k r.after p) r.few)

locals_few : (at : Nesting) (enclosing : List Frame) (l : Line) (ns : NameList) → FitsStat at enclosing (tree.local l ns) → Few (declare_in (names_of ns) enclosing)
unfolding Resolves
locals_few at enclosing l ns fits =
    let (slots, values, j, v, u, i) = fits.resolvable.resolved in
    let r = fits.resolvable in
    subst (λ fs. Few (declare_in (names_of ns) fs)) r.same (subst (λ z. Few z.enclosing) u r.few)

initial_fits : (at : Nesting) (enclosing : List Frame) (l : Line) (ns : NameList) (q : Line) (es : ExpList) → FitsStat at enclosing (tree.local_values l ns q es) → FitsValues at enclosing es
unfolding levels IsValid Resolves
initial_fits at enclosing l ns q es fits =
    let (slots, values, m, p, j, u, i) = fits.resolvable.resolved in
    let r = fits.resolvable in
    record {
      valid = fits.valid;
      deep = fits.deep;
      resolvable = record {
        before = r.before;
        out = values.value.items;
        after = m;
        same = r.same;
        resolved = p;
        few = few_before (declare_goes (names_of ns) m) (subst (λ z. Few z.enclosing) u r.few);
      };
    }

-- so few locals as there are after the values, there are before them
few_on : (names : List Bytes) (fs gs : List Frame) (f : Frame) (others : List Frame) → fs ≡ f ∷ others → AllZip Steady fs gs → Few (declare_in names gs) →
    length f.locals + length names ≤ 200
few_on names fs [] f others is kept few = absurd (subst (λ z. AllZip Steady z []) is kept)
few_on names fs (g ∷ gs) f others is kept few =
    let h = few_declared names g gs few in
    let k : AllZip Steady (f ∷ others) (g ∷ gs) = subst (λ z. AllZip Steady z (g ∷ gs)) is kept in
    let e : length g.locals ≡ length f.locals = ap length k.0.locals in
    omega (arith, h, e)

values_few : (at : Nesting) (l : Line) (ns : NameList) (q : Line) (es : ExpList) (s : State) (inner : IsInside s) → FitsStat at s.scope.enclosing (tree.local_values l ns q es) →
    length inner.frame.locals + length (names_of ns) ≤ 200
unfolding Resolves
values_few at l ns q es s inner fits =
    let (slots, values, m, p, j, u, i) = fits.resolvable.resolved in
    let r = fits.resolvable in
    few_on (names_of ns) r.before.enclosing m.enclosing inner.frame inner.others (r.same ∙ inner.enclosing) (list_keeps es r.before values.value.items m p).frames (subst (λ z. Few z.enclosing) u r.few)

-- ---- a local function

pub local_function_word : (at : Nesting) (fault : ParseFault) (s t : State) → IsNext (WordKind Function) s → OnAt (Misses (IsKind (WordKind Function)) s t) fault → RefusesLocal at s t fault
local_function_word at fault s t next m = λ l k never suppose. never_missed fault _ (token (local_ l k)) (IsKind (WordKind Function)) s t m suppose next

abbrev after_word : Line → Line → (Stat → Reader) → Reader
after_word l w k = token (name (λ m n. token (body (λ b. k (tree.local_function l w m n b)))))

abbrev after_local_name : Line → Line → Line → Bytes → (Stat → Reader) → Reader
after_local_name l w m n k = token (body (λ b. k (tree.local_function l w m n b)))

pub local_function_unnamed : (at : Nesting) (fault : ParseFault) (s a t : State) (w : ℕ) → Takes (WordKind Function) w s a → OnAt (Misses IsName a t) fault → RefusesLocal at s t fault
local_function_unnamed at fault s a t w taken m = λ l k never suppose.
    refused_on (by_token (token (local_ l k)) (WordKind Function) w s a taken) (no_name fault _ (λ m n. after_local_name l w m n k) a t m suppose)

pub local_function_crowded : (at : Nesting) (fault : ParseFault) (s a b t : State) (w m : ℕ) (n : Bytes) → Takes (WordKind Function) w s a → Takes (NameKind n) m a b → t.left ≡ b.left →
    OnLocals (200 ≤ in_scope b.scope) fault → RefusesLocal at s t fault
local_function_crowded at (Locals line) s a b t w m n taken named same many = λ l k never suppose.
    refused_on (moved same (on (by_token (token (local_ l k)) (WordKind Function) w s a taken) (by_token (after_word l w k) (NameKind n) m a b named)))
    (too_many line (after_local_name l w m n k) t (dead_body (λ x. k (tree.local_function l w m n x)) (λ x.
    suppose (tree.local_function l w m n x) (λ fits.
    crowded_local n s.scope.enclosing (subst (λ z. 200 ≤ in_scope z) (named.scope ∙ taken.scope) many) (local_function_few at s.scope.enclosing l w m n x fits)))))
local_function_crowded at Memory s a b t w m n taken named same many = λ l k never suppose. absurd suppose
local_function_crowded at other s a b t w m n taken named same many = absurd many

pub local_body_refused : (at : Nesting) (first : List Bytes) (fault : ParseFault) (s a b d t : State) (w m : ℕ) (n : Bytes) → Takes (WordKind Function) w s a → Takes (NameKind n) m a b →
    Turns (declare (n ∷ []) b.scope) b d → first ≡ [] → RefusesBody at w first d t fault → RefusesLocal at s t fault
local_body_refused at first fault s a b d t w m n taken named turn own refuses = λ l k never suppose.
    let enclosing : d.scope.enclosing ≡ declare_in (n ∷ []) s.scope.enclosing = ap (λ z. z.enclosing) turn.scope ∙ ap (λ z. declare_in (n ∷ []) z.enclosing) (named.scope ∙ taken.scope) in
    refused_on (moved turn.left (on (by_token (token (local_ l k)) (WordKind Function) w s a taken) (by_token (after_word l w k) (NameKind n) m a b named)))
    (refuses (λ x. k (tree.local_function l w m n x)) (λ x z is. never _ z is) (supposes_on fault (λ suppose x not.
    suppose (tree.local_function l w m n x) (λ fits.
    not (subst (λ names. FitsBody at w names d.scope.enclosing x) (sym own) (local_body_fits at s.scope.enclosing d.scope.enclosing l w m n x fits enclosing)))) suppose))

-- ---- locals

local_fails : (l : Line) (k : Stat → Reader) (kind : TokenKind) (m : Line) → (kind ≡ WordKind Function → ⊥) → (IsName kind → ⊥) → local_ l k kind m ≡ failed
local_fails l k (WordKind Function) m word name = absurd (word refl)
local_fails l k (NameKind n) m word name = absurd (name tt)
local_fails l k kind m word name = refl

pub local_names_refused : (at : Nesting) (taken : ℕ) (fault : ParseFault) (s t : State) → IsInside s → taken ≡ in_scope s.scope → (IsNext (WordKind Function) s → ⊥) →
    RefusesNames taken s t fault → RefusesLocal at s t fault
local_names_refused at taken fault s t inner count plain refuses = λ l k never suppose.
    let all : taken ≡ length inner.frame.locals = count ∙ ap count_in inner.enclosing in
    refuses (token (local_ l k)) (λ ns. after_local l ns k) (λ n m. refl)
    (λ m none. local_fails l k (ahead s) m (not_first (WordKind Function) s.left (λ is. cc) plain) none)
    (supposes_on fault (λ suppose ns many. (
      suppose (tree.local l ns) (λ fits.
          let few = few_declared (names_of ns) inner.frame inner.others (subst (λ fs. Few (declare_in (names_of ns) fs)) inner.enclosing (locals_few at s.scope.enclosing l ns fits)) in
          omega (arith, few, many, all)),
      λ q es. suppose (tree.local_values l ns q es) (λ fits. let few = values_few at l ns q es s inner fits in omega (arith, few, many, all)),
    )) suppose)

pub local_values_refused : (at : Nesting) (fault : ParseFault) (s m t : State) (names : List Bytes) → ReadsNames [] s names m → (IsNext (SignKind Comma) m → ⊥) →
    RefusesInitial at m t fault → RefusesLocal at s t fault
local_values_refused at fault s m t names read last refuses = λ l k never suppose.
    refused_on (names_ended read.tree (token (local_ l k)) (λ ns. after_local l ns k) no_rest s m read.printed (λ n m. refl) (no_comma_ahead m last))
    (refuses l read.tree k (supposes_on fault (λ suppose q es not.
    suppose (tree.local_values l read.tree q es) (λ fits.
    not (subst (λ z. FitsValues at z.enclosing es) (sym read.scope) (initial_fits at s.scope.enclosing l read.tree q es fits)))) suppose))

-- values declare no locals
pub initial_keeps : (at : Nesting) (m b : State) (values : Option (Vec Expr Global)) → ReadsInitial at m values b → in_scope b.scope ≡ in_scope m.scope
initial_keeps at m b (Some es) (q, a, taken, read) = in_scope_kept a.scope b.scope (list_keeps read.tree a.scope es.items b.scope read.resolved) ∙ ap in_scope taken.scope
initial_keeps at m b None same = ap (λ z. in_scope z.scope) same

-- each of the locals has a slot
pub locals_declared : (at : Nesting) (taken : ℕ) (fault : ParseFault) (s m b t : State) (names : List Bytes) (values : Option (Vec Expr Global)) → taken ≡ in_scope s.scope →
    ReadsNames [] s names m → ReadsInitial at m values b → taken + length names ≤ 200 → OnLocals (200 < in_scope b.scope + length names) fault → RefusesLocal at s t fault
locals_declared at taken (Locals line) s m b t names values count read given few many = λ l k never suppose.
    let kept : in_scope b.scope ≡ in_scope s.scope = initial_keeps at m b values given ∙ ap in_scope read.scope in
    absurd (omega (arith, kept, count, few, many))
locals_declared at taken Memory s m b t names values count read given few many = λ l k never suppose. absurd suppose
locals_declared at taken other s m b t names values count read given few many = absurd many

-- ---- the values of locals

pub initial_refused : (at : Nesting) (fault : ParseFault) (s a t : State) (q : ℕ) → Takes (SignKind Assign) q s a → RefusesValues at a t fault → RefusesInitial at s t fault
initial_refused at fault s a t q taken refuses = λ l ns k suppose.
    refused_on (by_token (after_local l ns k) (SignKind Assign) q s a taken)
    (refuses (λ es. k (tree.local_values l ns q es)) (supposes_on fault (λ suppose es not.
    suppose q es (λ fits. not (subst (λ z. FitsValues at z.enclosing es) (sym taken.scope) fits))) suppose))

-- ---- the statement

pub local_word : (at : Nesting) (fault : ParseFault) (s t : State) → ahead s ≡ WordKind Local → OnAt (Misses (IsKind (WordKind Local)) s t) fault → RefusesStat at s t fault
local_word at fault s t next m = λ k never suppose. never_missed_ahead fault _ (token (statement k)) (IsKind (WordKind Local)) s t m suppose (λ is. cc) next

pub local_refused : (at : Nesting) (fault : ParseFault) (s a t : State) (line : ℕ) → Takes (WordKind Local) line s a → RefusesLocal at a t fault → RefusesStat at s t fault
local_refused at fault s a t line taken refuses = λ k never suppose.
    refused_on (by_token (token (statement k)) (WordKind Local) line s a taken) (refuses line k never (statement_after at fault k s a taken.scope suppose))

-- ---- of the parser

pub locals_state : (tokens : List Token) (p : Parser) (fault : ParseFault) → OnLocals (200 ≤ in_scope (scope_of p)) fault → OnLocals (200 ≤ in_scope (state tokens p).scope) fault
unfolding state
locals_state tokens p fault h = h

pub declared_state : (tokens : List Token) (p : Parser) (names : List Bytes) (fault : ParseFault) → OnLocals (200 < in_scope (scope_of p) + length names) fault →
    OnLocals (200 < in_scope (state tokens p).scope + length names) fault
unfolding state
declared_state tokens p names fault h = h
