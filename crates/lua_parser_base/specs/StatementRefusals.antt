-- What a fault says of a production of statements: however the reader goes on after it, it is refused.
use Rattle.std.specs.Prelude.{◌≡◌, ◌+◌, ◌<◌, ℕ, List, [], ◌∷◌, ◌++◌, length}
use Rattle.lua_ast.specs.declared.expressions.Expr.{Expr}
use Rattle.lua_lexer.specs.declared.tokens.TokenKind.TheVariants.{Name as NameKind, Word as WordKind}
use Rattle.lua_lexer.specs.declared.words.Word.TheVariants.{End}
use Rattle.lua_grammar.specs.Tree.{Line, Bytes, NameList, Params, Exp, PrefixExp, ExpList, FuncBody, Block, Stat, LastStat, VarList}
use Rattle.lua_grammar.specs.Tree as tree
use Rattle.lua_grammar.specs.Waiting.{Reader, failed, chunk, token, exp, more_names, more_vars, more_arms, after_local}
use Rattle.lua_grammar.specs.Reading.{block, list, params, loop_body, for_limit, for_tail, function_tail, function_, local_, no_rest, arm, begin_prefix}
use Rattle.lua_grammar.specs.Reading.{next_target, statement, last, feed}
use Rattle.lua_grammar.specs.Resolution.{names_of, names_of_params}
use Rattle.lua_grammar.specs.Dead.{IsDead}
use Rattle.lua_parser_base.specs.declared.faults.ParseFault.{ParseFault}
use Rattle.lua_parser_base.specs.declared.nesting.Nesting.{Nesting}
use Rattle.lua_parser_base.specs.declared.statement_nodes.FunctionName.{FunctionName}
use Rattle.lua_parser_base.specs.States.{State}
use Rattle.lua_parser_base.specs.Next.{IsName, ahead}
use Rattle.lua_parser_base.specs.ReadsStatements.{ReadsFuncName, ReadsVars}
use Rattle.lua_parser_base.specs.Fits.{FitsValue, FitsValues, FitsBlock, FitsScoped, FitsLoop, FitsStat, FitsLast, FitsArms, FitsTarget}
use Rattle.lua_parser_base.specs.Readers.{NeverChunk, Refuses, Supposes}
use Rattle.lua_parser_base.specs.Refusals.{Unless}

-- each statement that doesn't fit leads to a dead state
abbrev pub UnlessStat : Nesting → State → ParseFault → (Stat → Reader) → Type 0
UnlessStat at s fault k = Supposes fault (Unless (FitsStat at s.scope.enclosing) k)

abbrev pub RefusesValue : Nesting → State → State → ParseFault → Type 0
RefusesValue at s t fault = (k : Exp → Reader) → Supposes fault (Unless (FitsValue at s.scope.enclosing) k) → Refuses fault (exp 1 k) s t

abbrev pub RefusesValues : Nesting → State → State → ParseFault → Type 0
RefusesValues at s t fault = (k : ExpList → Reader) → Supposes fault (Unless (FitsValues at s.scope.enclosing) k) → Refuses fault (list k) s t

abbrev pub RefusesBlock : Nesting → State → State → ParseFault → Type 0
RefusesBlock at s t fault = (k : Block → Reader) → Supposes fault (Unless (FitsBlock at s.scope.enclosing) k) → Refuses fault (block k) s t

-- of a reader that gets to no chunk by the block and an `end`
abbrev pub RefusesScoped : Nesting → State → State → ParseFault → Type 0
RefusesScoped at s t fault =
    (k : Block → Reader) → ((x : Block) (l : Line) (b : Block) → feed (k x) (WordKind End) l ≡ chunk b → ⊥)
    → Supposes fault (Unless (FitsScoped at s.scope.enclosing) k) → Refuses fault (block k) s t

abbrev pub RefusesLast : Nesting → State → State → ParseFault → Type 0
RefusesLast at s t fault = (k : LastStat → Reader) → Supposes fault (Unless (FitsLast at s.scope.enclosing) k) → Refuses fault (token (last k)) s t

abbrev pub RefusesStat : Nesting → State → State → ParseFault → Type 0
RefusesStat at s t fault = (k : Stat → Reader) → NeverChunk k → UnlessStat at s fault k → Refuses fault (token (statement k)) s t

-- of a test, `then` and a block, in the arms of an `if`
abbrev pub RefusesArm : Nesting → State → State → ParseFault → Type 0
RefusesArm at s t fault =
    (k : Exp → Line → Block → Reader) → ((e : Exp) (h l : Line) (x b : Block) → feed (k e h x) (WordKind End) l ≡ chunk b → ⊥)
    → Supposes fault ((e : Exp) (h : Line) (x : Block) → (FitsArms at s.scope.enclosing (tree.if_arm h e h x) → ⊥) → IsDead (k e h x))
    → Refuses fault (arm k) s t

-- of the arms of an `if` after its word
abbrev pub RefusesArms : Nesting → State → State → ParseFault → Type 0
RefusesArms at s t fault =
    (i : Line) (k : Stat → Reader) → NeverChunk k → UnlessStat at s fault k → Refuses fault (arm (λ e h b. more_arms (tree.if_arm i e h b) k)) s t

-- of the name of a function in a statement
abbrev pub RefusesFuncName : Nesting → State → State → ParseFault → Type 0
RefusesFuncName at s t fault = (f : Line) (k : Stat → Reader) → UnlessStat at s fault k → Refuses fault (token (function_ f k)) s t

-- of the rest of a method's statement, whose word `function` is on that line, after the name that was read up to there
abbrev pub RefusesMethod : Nesting → Line → FunctionName → State → State → ParseFault → Type 0
RefusesMethod at line object m t fault =
    (s : State) (read : ReadsFuncName s object m) (k : Stat → Reader) → NeverChunk k → UnlessStat at s fault k
    → Refuses fault (token (function_tail line k read.tree)) m t

-- of what stands after `local`
abbrev pub RefusesLocal : Nesting → State → State → ParseFault → Type 0
RefusesLocal at s t fault = (l : Line) (k : Stat → Reader) → NeverChunk k → UnlessStat at s fault k → Refuses fault (token (local_ l k)) s t

-- of the values of locals
abbrev pub RefusesInitial : Nesting → State → State → ParseFault → Type 0
RefusesInitial at s t fault =
    (l : Line) (ns : NameList) (k : Stat → Reader)
    → Supposes fault ((q : Line) (es : ExpList) → (FitsValues at s.scope.enclosing es → ⊥) → IsDead (k (tree.local_values l ns q es)))
    → Refuses fault (after_local l ns k) s t

-- of names, of which there may be 200 with those; the reader waits for a name
abbrev pub RefusesNames : ℕ → State → State → ParseFault → Type 0
RefusesNames taken s t fault =
    (r : Reader) (k : NameList → Reader) → ((n : Bytes) (l : Line) → feed r (NameKind n) l ≡ more_names (tree.first_name l n) k no_rest)
    → ((l : Line) → (IsName (ahead s) → ⊥) → feed r (ahead s) l ≡ failed)
    → Supposes fault ((ns : NameList) → 200 < taken + length (names_of ns) → IsDead (k ns)) → Refuses fault r s t

-- of parameters, with those before the named ones
abbrev pub RefusesParameters : List Bytes → State → State → ParseFault → Type 0
RefusesParameters first s t fault =
    (o : Line) (k : FuncBody → Reader)
    → Supposes fault ((ps : Params) (c : Line) (b : Block) (e : Line) → 200 < length (first ++ names_of_params ps) → IsDead (k (tree.function_body o ps c b e)))
    → Refuses fault (token (params o k)) s t

-- of a loop after its names
abbrev pub RefusesFor : Nesting → List Bytes → State → State → ParseFault → Type 0
RefusesFor at names s t fault =
    (f : Line) (ns : NameList) → names ≡ names_of ns → (k : Stat → Reader) → NeverChunk k → UnlessStat at s fault k
    → Refuses fault (token (for_tail f k ns)) s t

-- of the step of a loop over numbers
abbrev pub RefusesStep : Nesting → State → State → ParseFault → Type 0
RefusesStep at s t fault =
    (f l : Line) (n : Bytes) (q : Line) (from : Exp) (c : Line) (to : Exp) (k : Stat → Reader)
    → Supposes fault ((m : Line) (step : Exp) → (FitsValue at s.scope.enclosing step → ⊥)
    → IsDead (token (loop_body (λ d b e. k (tree.for_steps f l n q from c to m step d b e)))))
    → Refuses fault (token (for_limit f l n q from c to k)) s t

-- of `do`, the block of a loop that declares those names, and `end`
abbrev pub RefusesLoop : Nesting → List Bytes → State → State → ParseFault → Type 0
RefusesLoop at names s t fault =
    (k : Line → Block → Line → Reader) → ((d e : Line) (x b : Block) → k d x e ≡ chunk b → ⊥)
    → Supposes fault ((d e : Line) (x : Block) → (FitsLoop at names s.scope.enclosing x → ⊥) → IsDead (k d x e)) → Refuses fault (token (loop_body k)) s t

-- of an assignment after its first target, which was read up to there
abbrev pub RefusesAssignment : Nesting → Expr → State → State → ParseFault → Type 0
RefusesAssignment at first m t fault =
    (line : ℕ) (s : State) (read : ReadsVars at line s (first ∷ []) m) (k : Stat → Reader) → UnlessStat at s fault k → Refuses fault (more_vars read.tree k) m t

-- of one more target
abbrev pub RefusesTarget : Nesting → State → State → ParseFault → Type 0
RefusesTarget at s t fault =
    (vs : VarList) (c : Line) (k : Stat → Reader) → Supposes fault (Unless (FitsTarget at s.scope.enclosing) (λ p. more_vars (tree.more_vars vs c p) k))
    → Refuses fault (token (begin_prefix (next_target vs c k))) s t
