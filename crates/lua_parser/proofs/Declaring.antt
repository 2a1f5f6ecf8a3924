-- Where names are declared, and how many locals are in scope there.
use Rattle.std.proofs.Common.{◌≡◌, ◌≤◌, ◌+◌, ℕ, List, [], length, Option, Some, None, Vec, sym, ap, subst, arith, ◌∙◌}
use Rattle.std.specs.Global.{Global}
use Rattle.lua_ast.specs.declared.expressions.Expr.{Expr}
use Rattle.lua_lexer.specs.declared.tokens.Token.{Token}
use Rattle.lua_lexer.specs.declared.tokens.TokenKind.{TokenKind}
use Rattle.lua_lexer.specs.declared.tokens.TokenKind.TheVariants.{Name as NameKind, Sign as SignKind}
use Rattle.lua_lexer.specs.declared.signs.Sign.TheVariants.{CloseParenthesis, OpenParenthesis}
use Rattle.lua_grammar.specs.Tree.{Bytes}
use Rattle.lua_grammar.specs.Limits.{Few}
use Rattle.lua_grammar.specs.Scopes.{in_scope}
use Rattle.lua_grammar.proofs.Growing.{exp_keeps, list_keeps}
use Rattle.lua_parser_base.specs.declared.cursor.Parser.{Parser}
use Rattle.lua_parser_base.specs.declared.faults.ParseFault.{ParseFault}
use Rattle.lua_parser_base.specs.declared.functions.Begun.{Begun}
use Rattle.lua_parser_base.specs.declared.functions.Parameters.{Parameters}
use Rattle.lua_parser_base.specs.declared.nesting.Nesting.{Nesting}
use Rattle.lua_parser_base.specs.Functions.{Enters}
use Rattle.lua_parser_base.specs.Next.{IsLocals, OnLocals}
use Rattle.lua_parser_base.specs.ReadsNames.{ReadsNames, ReadsParameters}
use Rattle.lua_parser_base.specs.ReadsStatements.{ReadsInitial, ReadsStep, ReadsValue, ReadsValues}
use Rattle.lua_parser_base.specs.States.{State, Takes, scope_of, state}
use Rattle.lua_parser_base.specs.Standing.{Stands, FirstFault}
use Rattle.lua_parser_base.specs.Standing as standing
use Rattle.lua_parser_base.proofs.Breaking.{local_breaks}
use Rattle.lua_parser.proofs.LocalStatements.{in_scope_kept, initial_keeps}

-- the locals of the innermost function
few_in_frame : (p : Parser) → in_scope (scope_of p) ≤ 200
few_in_frame p = let few = p.frame.few_locals in omega (arith, few)

pub local_there : (tokens : List Token) (z : State) (p q : Parser) (line : ℕ) (n : Bytes) (fault : ParseFault) → Few (state tokens p).scope.enclosing → OnLocals (200 ≤ in_scope (scope_of q)) fault → IsLocals line fault →
    Takes (NameKind n) line (state tokens p) (state tokens q) → FirstFault (standing.name (in_scope (state tokens p).scope)) (state tokens p) z fault
unfolding state
local_there tokens z p q line n fault few full same taken =
    local_breaks (in_scope (state tokens p).scope) line n (state tokens p) (state tokens q) z fault few (subst (λ y. in_scope y ≤ 200) taken.scope (few_in_frame q))
    (subst (λ z. OnLocals (200 ≤ in_scope z) fault) taken.scope full) same taken

-- values declare no locals
pub value_keeps : (at : Nesting) (s t : State) (e : Expr) → ReadsValue at s e t → in_scope t.scope ≡ in_scope s.scope
value_keeps at s t e read = in_scope_kept s.scope t.scope (exp_keeps read.tree s.scope e t.scope read.resolved)

pub values_keep : (at : Nesting) (s t : State) (es : List Expr) → ReadsValues at s es t → in_scope t.scope ≡ in_scope s.scope
values_keep at s t es read = in_scope_kept s.scope t.scope (list_keeps read.tree s.scope es t.scope read.resolved)

pub step_keeps : (at : Nesting) (s t : State) (by : Option Expr) → ReadsStep at s by t → in_scope t.scope ≡ in_scope s.scope
step_keeps at s t (Some e) (c, m, taken, read) = value_keeps at m t e read ∙ ap in_scope taken.scope
step_keeps at s t None same = ap (λ z. in_scope z.scope) same

few_at : (tokens : List Token) (p : Parser) (n : ℕ) → in_scope (state tokens p).scope + n ≤ 200 → in_scope (scope_of p) + n ≤ 200
unfolding state
few_at tokens p n few = few

-- each name that is declared with values has a slot
pub few_declared : (at : Nesting) (count : ℕ) (tokens : List Token) (s m : State) (p : Parser) (names : List Bytes) (values : Option (Vec Expr Global)) → count ≡ in_scope s.scope →
    ReadsNames [] s names m → ReadsInitial at m values (state tokens p) → count + length names ≤ 200 → in_scope (scope_of p) + length names ≤ 200
few_declared at count tokens s m p names values is read given few =
    few_at tokens p (length names)
    (let kept : in_scope (state tokens p).scope ≡ in_scope s.scope = initial_keeps at m (state tokens p) values given ∙ ap in_scope read.scope in omega (arith, kept, is, few))

-- for the variables of a loop over numbers, and over other values
pub few_in_range : (at : Nesting) (n : ℕ) (equals_kind comma_kind : TokenKind) (s a b c d t : State) (q x : ℕ) (from to : Expr) (by : Option Expr) → in_scope s.scope + n ≤ 200 → Takes equals_kind q s a → ReadsValue at a from b →
    Takes comma_kind x b c → ReadsValue at c to d → ReadsStep at d by t → in_scope t.scope + n ≤ 200
few_in_range at n equals_kind comma_kind s a b c d t q x from to by few equals first comma second step =
    let kept : in_scope t.scope ≡ in_scope s.scope = step_keeps at d t by step ∙ value_keeps at c d to second ∙ ap in_scope comma.scope ∙ value_keeps at a b from first ∙ ap in_scope equals.scope in
    omega (arith, kept, few)

pub few_in_list : (at : Nesting) (n : ℕ) (kind : TokenKind) (s a t : State) (i : ℕ) (es : List Expr) → in_scope s.scope + n ≤ 200 → Takes kind i s a → ReadsValues at a es t → in_scope t.scope + n ≤ 200
few_in_list at n kind s a t i es few taken read =
    let kept : in_scope t.scope ≡ in_scope s.scope = values_keep at a t es read ∙ ap in_scope taken.scope in
    omega (arith, kept, few)

-- after `do`
pub few_in_loop : (tokens : List Token) (p q : Parser) (kind : TokenKind) (n d : ℕ) → in_scope (state tokens p).scope + n ≤ 200 → Takes kind d (state tokens p) (state tokens q) → in_scope (scope_of q) + n ≤ 200
few_in_loop tokens p q kind n d few taken = few_at tokens q n (subst (λ z. in_scope z + n ≤ 200) (sym taken.scope) few)

-- after the names of a loop
pub few_after : (count n : ℕ) (s t : State) (names : List Bytes) → count ≡ in_scope s.scope → ReadsNames [] s names t → count + n ≤ 200 → in_scope t.scope + n ≤ 200
few_after count n s t names is read few =
    let kept : in_scope t.scope ≡ in_scope s.scope = ap in_scope read.scope in
    omega (arith, kept, is, few)

-- after the parameters of a function its block stands
pub function_stands : {start : State} {at : Nesting} {first : List Bytes} {p : Parameters} {begun : Begun} {line o e : ℕ} {s a b c d : State} → Enters p line begun c.scope d.scope → d.left ≡ c.left →
    Stands start (standing.body at first) s → Takes (SignKind OpenParenthesis) o s a → ReadsParameters first a p b → Takes (SignKind CloseParenthesis) e b c →
    Stands start (standing.function_block at begun.vararg) d
function_stands {start = start} {at = at} {d = d} enters left stands opens read closes =
    subst (λ vararg. Stands start (standing.function_block at vararg) d) (sym enters.vararg)
    (standing.of_function enters.kept stands opens read closes (record { left = left; scope = enters.scope }))
