-- What a fault says of a production: however the reader goes on after it, it is refused. A limit's fault says so where each
-- tree that doesn't fit leads to a dead state.
use Rattle.std.specs.Prelude.{◌≡◌, ℕ, List}
use Rattle.lua_lexer.specs.declared.tokens.TokenKind.TheVariants.{Sign as SignKind}
use Rattle.lua_lexer.specs.declared.signs.Sign.TheVariants.{OpenBrace}
use Rattle.lua_grammar.specs.Tree.{Line, Bytes, Exp, PrefixExp, Args, ExpList, Table, Fields, Field, FuncBody}
use Rattle.lua_grammar.specs.Tree as tree
use Rattle.lua_grammar.specs.Waiting.{Reader, token, exp, more_prefix, more_fields}
use Rattle.lua_grammar.specs.Reading.{body, list, begin_prefix, begin_args, field, after_field, feed}
use Rattle.lua_grammar.specs.Dead.{IsDead}
use Rattle.lua_parser_base.specs.declared.faults.ParseFault.{ParseFault}
use Rattle.lua_parser_base.specs.declared.nodes.Prefix.{Prefix}
use Rattle.lua_parser_base.specs.declared.nesting.Nesting.{Nesting}
use Rattle.lua_parser_base.specs.States.{State}
use Rattle.lua_parser_base.specs.Reads.{ReadsPrefix}
use Rattle.lua_parser_base.specs.Fits.{FitsExp, FitsPrefix, FitsArgs, FitsList, FitsTable, FitsField, FitsBody}
use Rattle.lua_parser_base.specs.Readers.{NeverChunk, Refuses, Supposes}

-- each tree that doesn't fit leads to a dead state
abbrev pub Unless : {A : Type 0} → (A → Type 0) → (A → Reader) → Type 0
Unless {A} Fitting k = (x : A) → (Fitting x → ⊥) → IsDead (k x)

-- at that level of precedence
abbrev pub RefusesFrom : ℕ → Nesting → State → State → ParseFault → Type 0
RefusesFrom m at s t fault = (k : Exp → Reader) → Supposes fault (Unless (FitsExp at s.scope.enclosing) k) → Refuses fault (exp m k) s t

-- at each
abbrev pub RefusesExp : Nesting → State → State → ParseFault → Type 0
RefusesExp at s t fault = (m : ℕ) → RefusesFrom m at s t fault

abbrev pub RefusesPrefix : Nesting → State → State → ParseFault → Type 0
RefusesPrefix at s t fault = (k : PrefixExp → Reader) → Supposes fault (Unless (FitsPrefix at s.scope.enclosing) k) → Refuses fault (token (begin_prefix k)) s t

-- after a prefix that was read up to there
abbrev pub RefusesSuffix : Nesting → Prefix → State → State → ParseFault → Type 0
RefusesSuffix at object m t fault =
    (s : State) (read : ReadsPrefix at s object m) (k : PrefixExp → Reader) → Supposes fault (Unless (FitsPrefix at s.scope.enclosing) k)
    → Refuses fault (more_prefix read.tree k) m t

abbrev pub RefusesArgs : Nesting → State → State → ParseFault → Type 0
RefusesArgs at s t fault = (k : Args → Reader) → Supposes fault (Unless (FitsArgs at s.scope.enclosing) k) → Refuses fault (token (begin_args k)) s t

abbrev pub RefusesList : Nesting → State → State → ParseFault → Type 0
RefusesList at s t fault = (k : ExpList → Reader) → Supposes fault (Unless (FitsList at s.scope.enclosing) k) → Refuses fault (list k) s t

-- of a reader that begins a table constructor at `{`
abbrev pub RefusesTable : Nesting → State → State → ParseFault → Type 0
RefusesTable at s t fault =
    (r : Reader) (k : Table → Reader) → ((o : Line) → feed r (SignKind OpenBrace) o ≡ more_fields o tree.no_fields k)
    → Supposes fault (Unless (FitsTable at s.scope.enclosing) k) → Refuses fault r s t

abbrev pub RefusesField : Nesting → State → State → ParseFault → Type 0
RefusesField at s t fault =
    (o : Line) (fs : Fields) (k : Table → Reader) → Supposes fault (Unless (FitsField at s.scope.enclosing) (λ f. token (after_field o fs k f)))
    → Refuses fault (token (field (after_field o fs k))) s t

-- of a function whose word `function` is on that line, with those parameters before the named ones
abbrev pub RefusesBody : Nesting → Line → List Bytes → State → State → ParseFault → Type 0
RefusesBody at line first s t fault =
    (k : FuncBody → Reader) → NeverChunk k → Supposes fault (Unless (FitsBody at line first s.scope.enclosing) k) → Refuses fault (token (body k)) s t
