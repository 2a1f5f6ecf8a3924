-- What is read of the parts is read of an assignment, a call, a local or a named function.
use Rattle.std.proofs.Common.{◌≡◌, ℕ, List, [], ◌∷◌, Option, Some, None, IfNone, Vec, refl, sym, ap, subst, arith, ◌∙◌}
use Rattle.std.specs.Global.{Global}
use Rattle.lua_ast.specs.declared.expressions.Expr.{Expr}
use Rattle.lua_ast.specs.declared.statements.Stmt.{Stmt}
use Rattle.lua_ast.specs.declared.statements.StmtKind as stmt
use Rattle.lua_lexer.specs.declared.tokens.TokenKind.{TokenKind}
use Rattle.lua_lexer.specs.declared.tokens.TokenKind.TheVariants.{Name as NameKind, Word as WordKind, Sign as SignKind}
use Rattle.lua_lexer.specs.declared.signs.Sign.TheVariants.{Assign, Colon, Comma, Dot}
use Rattle.lua_lexer.specs.declared.words.Word.TheVariants.{Function, Local}
use Rattle.lua_grammar.specs.Tree.{Bytes, PrefixExp}
use Rattle.lua_grammar.specs.Tree as tree
use Rattle.lua_grammar.specs.Printing.{Lexeme, a_kind, a_word, a_sign, a_name, print_exp, print_prefixexp, print_explist, print_varlist, print_names, print_funcname}
use Rattle.lua_grammar.specs.Levels.{levels}
use Rattle.lua_grammar.specs.Validity.{IsValid, IsValidPrefix, IsVariable, IsCall}
use Rattle.lua_grammar.specs.Scopes.{declare, in_scope, slots_from}
use Rattle.lua_grammar.specs.Resolution.{Resolves, ResolvesPrefix, ResolvesName, ResolvesFuncName, ResolvesList, ResolvesVars, ResolvesBody, statement, prefix_line, names_of, self_name}
use Rattle.lua_grammar.specs.Grammar.{first_line}
use Rattle.lua_parser_base.specs.declared.nesting.Nesting.{Nesting}
use Rattle.lua_parser_base.specs.declared.nodes.Prefix.{Prefix}
use Rattle.lua_parser_base.specs.declared.nodes.Form.TheVariants.{Variable, Call}
use Rattle.lua_parser_base.specs.declared.statement_nodes.FunctionName.{FunctionName}
use Rattle.lua_grammar.specs.Stopping.{IsNoAssign, IsNoComma, LastStops}
use Rattle.lua_parser_base.specs.States.{State, Takes, Stops}
use Rattle.lua_parser_base.specs.Next.{IsKind, IsNext, ahead, first_kind}
use Rattle.lua_parser_base.specs.Nesting.{IsFresh}
use Rattle.lua_parser_base.specs.Reads.{ReadsPrefix, ReadsBody, form_of}
use Rattle.lua_parser_base.specs.ReadsNames.{ReadsNames}
use Rattle.lua_parser_base.specs.ReadsStatements.{ReadsStat, ReadsValues, ReadsTarget, ReadsVars, ReadsMoreVars, ReadsFuncName, ReadsMember, ReadsInitial, before_function, before_local}
use Rattle.lua_parser_base.specs.StatementNodes.{IsAssign, IsLocal, Defines}
use Rattle.lua_parser_base.proofs.Productions.{apart_there}
use Rattle.lua_parser_base.proofs.Scoping.{Turns, stops_still}
use Rattle.lua_parser_base.proofs.ForLoops.{stat_from}
use Rattle.lua_parser_base.proofs.Moving.{not_first}
use Rattle.lua_parser_base.proofs.Names.{no_comma_ahead}

-- a prefix begins with its first token
first_of : (p : PrefixExp) (after : List Lexeme) → first_line (print_prefixexp p after) ≡ prefix_line p
unfolding print_exp
first_of (tree.variable l n) after = refl
first_of (tree.paren o e c) after = refl
first_of (tree.item p o e c) after = first_of p _
first_of (tree.member p d l n) after = first_of p _
first_of (tree.call p a) after = first_of p _
first_of (tree.method p c l n a) after = first_of p _

is_call : (p : PrefixExp) → form_of p ≡ Call → IsCall p
is_call (tree.variable l n) is = cc
is_call (tree.paren o e c) is = cc
is_call (tree.item p o e c) is = cc
is_call (tree.member p d l n) is = cc
is_call (tree.call p a) is = tt
is_call (tree.method p c l n a) is = tt

is_variable : (p : PrefixExp) → form_of p ≡ Variable → IsVariable p
is_variable (tree.variable l n) is = tt
is_variable (tree.paren o e c) is = cc
is_variable (tree.item p o e c) is = tt
is_variable (tree.member p d l n) is = tt
is_variable (tree.call p a) is = cc
is_variable (tree.method p c l n a) is = cc

pub call_read : (at free : Nesting) (s t : State) (p : Prefix) (line : ℕ) (out : Stmt) → IsFresh at free → ReadsPrefix free s p t → Stops t → p.form ≡ Call →
    line ≡ first_line s.left → out ≡ statement line (stmt.Call p.expr) → ReadsStat at s out t
unfolding print_exp levels IsValid Resolves
call_read at free s t p line out fresh r stops form first is =
    let begins : line ≡ prefix_line r.tree = first ∙ (ap first_line r.printed ∙ first_of r.tree t.left) in
    record {
      tree = tree.call_statement r.tree;
      printed = r.printed;
      valid = (subst (λ vararg. IsValidPrefix vararg r.tree) fresh.vararg r.valid, is_call r.tree (r.form ∙ form));
      deep = let d = r.deep in let e = fresh.depth in omega (arith, d, e);
      resolved = (p.expr, r.resolved, is ∙ ap (λ l. statement l (stmt.Call p.expr)) begins);
      stops = λ _. stops;
      ends = apart_there t stops;
    }

pub target_read : (at free : Nesting) (s t : State) (p : Prefix) (e : Expr) → IsFresh at free → ReadsPrefix free s p t → Stops t → p.form ≡ Variable → e ≡ p.expr →
    ReadsTarget at s e t
target_read at free s t p e fresh r stops form is = record {
  tree = r.tree;
  printed = r.printed;
  valid = subst (λ vararg. IsValidPrefix vararg r.tree) fresh.vararg r.valid;
  variable = is_variable r.tree (r.form ∙ form);
  deep = let d = r.deep in let e = fresh.depth in omega (arith, d, e);
  resolved = subst (λ x. ResolvesPrefix r.tree s.scope x t.scope) (sym is) r.resolved;
  ends = apart_there t stops;
}

pub vars_one : (at : Nesting) (line : ℕ) (s t : State) (e : Expr) (out : List Expr) → ReadsTarget at s e t → line ≡ first_line s.left → out ≡ e ∷ [] →
    ReadsVars at line s out t
unfolding print_exp levels IsValid Resolves
vars_one at line s t e out r first is = record {
  tree = tree.one_var r.tree;
  printed = r.printed;
  valid = (r.valid, r.variable);
  deep = r.deep;
  resolved = (e, r.resolved, is);
  begins = sym (first ∙ (ap first_line r.printed ∙ first_of r.tree t.left));
  ends = r.ends;
}

pub assign_read : (at : Nesting) (line : ℕ) (s m n t : State) (targets es : List Expr) (equals : ℕ) (out : Stmt) → ReadsVars at line s targets m →
    Takes (SignKind Assign) equals m n → ReadsValues at n es t → IsAssign line targets es out → ReadsStat at s out t
unfolding print_exp levels IsValid Resolves
assign_read at line s m n t targets es equals out rs taken r is =
    let values : ResolvesList r.tree n.scope is.given.value.items t.scope = subst (λ l. ResolvesList r.tree n.scope l t.scope) (sym is.same_given) r.resolved in
    record {
      tree = tree.assign rs.tree equals r.tree;
      printed = rs.printed ∙ ap (print_varlist rs.tree) (taken.printed ∙ ap (a_sign Assign equals) r.printed);
      valid = (rs.valid, r.valid);
      deep = let d = rs.deep in let e = r.deep in omega (arith, d, e);
      resolved = (is.list, is.given, m.scope, subst (λ l. ResolvesVars rs.tree s.scope l m.scope) (sym is.same_list) rs.resolved, subst (λ z. ResolvesList r.tree z is.given.value.items t.scope) taken.scope values, is.built ∙ ap (λ l. statement l (stmt.Assign is.list is.given)) (sym rs.begins));
      stops = r.stops;
      ends = (r.ends, r.last);
    }

-- the rest of an assignment after its first target
pub assign_after : (at : Nesting) (line : ℕ) (a m n t : State) (first targets es : List Expr) (equals : ℕ) →
    ((l : ℕ) (s : State) (r : ReadsVars at l s first a) → ReadsMoreVars at l s r.tree targets a m) → Takes (SignKind Assign) equals m n → ReadsValues at n es t →
    (out : Stmt) → IsAssign line targets es out → (s : State) → ReadsVars at line s first a → ReadsStat at s out t
assign_after at line a m n t first targets es equals more taken r out is s rs =
    assign_read at line s m n t targets es equals out (more line s rs).whole taken r is

pub first_assigned : (at : Nesting) (line : ℕ) (s m t : State) (first : List Expr) → ReadsVars at line s first m → (out : Stmt) →
    ((z : State) → ReadsVars at line z first m → ReadsStat at z out t) → ReadsStat at s out t
first_assigned at line s m t first r out reads = reads s r

no_assign : (kind : TokenKind) → (IsKind (SignKind Assign) kind → ⊥) → IsNoAssign kind
no_assign (SignKind Assign) not = not refl
no_assign other not = tt

-- where no `=` is next
no_assign_ahead : (s : State) → (IsNext (SignKind Assign) s → ⊥) → IsNoAssign (ahead s)
no_assign_ahead s not = no_assign (ahead s) (not_first (SignKind Assign) s.left (λ is. cc) not)

pub name_root : (s m t : State) (line : ℕ) (bytes : Bytes) (name : FunctionName) → Takes (NameKind bytes) line s m → t.left ≡ m.left →
    ResolvesName line bytes m.scope name.target t.scope → name.height ≡ 1 → ReadsFuncName s name t
name_root s m t line bytes name taken left named high = record {
  tree = tree.root_name line bytes;
  printed = taken.printed ∙ ap (a_name line bytes) (sym left);
  resolved = subst (λ z. ResolvesName line bytes z name.target t.scope) taken.scope named;
  high = sym high;
  low = omega (arith, high);
}

pub name_member : (s m t : State) (object whole : FunctionName) → ReadsFuncName s object m → ReadsMember Dot object m whole t → ReadsFuncName s whole t
name_member s m t object whole r step =
    let inner : ResolvesFuncName r.tree s.scope step.built.object.value m.scope = subst (λ e. ResolvesFuncName r.tree s.scope e m.scope) (sym step.built.same) r.resolved in
    record {
      tree = tree.name_member r.tree step.line step.name_at step.name;
      printed = r.printed ∙ ap (print_funcname r.tree) (step.taken.printed ∙ ap (a_sign Dot step.line) step.named.printed);
      resolved = (step.built.object, subst (λ z. ResolvesFuncName r.tree s.scope step.built.object.value z) (sym (step.named.scope ∙ step.taken.scope)) inner, step.built.built);
      high = let h = r.high in let w = step.high in omega (arith, h, w);
      low = step.low;
    }

pub function_read : (at : Nesting) (s a b t : State) (line number : ℕ) (name : FunctionName) (out : Stmt) → Takes (WordKind Function) line s a →
    ReadsFuncName a name b → ReadsBody at line [] b number t → Defines line name.target number out → ReadsStat at s out t
unfolding print_exp levels IsValid Resolves
function_read at s a b t line number name out taken r body is = record {
  tree = tree.function_statement line r.tree body.tree;
  printed = taken.printed ∙ ap (a_word Function line) (r.printed ∙ ap (print_funcname r.tree) body.printed);
  valid = (body.valid, let h = r.high in let l = r.low in omega (arith, h, l));
  deep = body.deep;
  resolved = (is.list, is.given, name.target, number, b.scope, subst (λ z. ResolvesFuncName r.tree z name.target b.scope) taken.scope r.resolved, body.resolved, is.same_list, is.same_given, is.built);
  stops = λ ends. absurd ends;
  ends = tt;
}

pub method_read : (at : Nesting) (a b t : State) (line number : ℕ) (first : List Bytes) (object whole : FunctionName) → ReadsMember Colon object a whole b →
    first ≡ self_name ∷ [] → ReadsBody at line first b number t → (out : Stmt) → Defines line whole.target number out → (s : State) → ReadsFuncName s object a →
    ReadsStat at (before_function line s) out t
unfolding print_exp levels IsValid Resolves
method_read at a b t line number first object whole step own body out is s r =
    let inner : ResolvesFuncName r.tree s.scope step.built.object.value a.scope = subst (λ e. ResolvesFuncName r.tree s.scope e a.scope) (sym step.built.same) r.resolved in
    record {
      tree = tree.method_statement line r.tree step.line step.name_at step.name body.tree;
      printed = ap (a_word Function line) (r.printed ∙ ap (print_funcname r.tree) (step.taken.printed ∙ ap (a_sign Colon step.line) (step.named.printed ∙ ap (a_name step.name_at step.name) body.printed)));
      valid = (body.valid, let h = r.high in let w = step.high in let l = step.low in omega (arith, h, w, l));
      deep = body.deep;
      resolved = (
        is.list,
        is.given,
        step.built.object,
        whole.target,
        number,
        b.scope,
        subst (λ z. ResolvesFuncName r.tree s.scope step.built.object.value z) (sym (step.named.scope ∙ step.taken.scope)) inner,
        step.built.built,
        subst (λ names. ResolvesBody names line body.tree b.scope number t.scope) own body.resolved,
        is.same_list,
        is.same_given,
        is.built,
      );
      stops = λ ends. absurd ends;
      ends = tt;
    }

pub function_from : (at : Nesting) (s m t : State) (line : ℕ) (out : Stmt) → Takes (WordKind Function) line s m → ReadsStat at (before_function line m) out t → ReadsStat at s out t
function_from at s m t line out taken r = stat_from at s (before_function line m) t out taken.printed taken.scope r

pub local_from : (at : Nesting) (s m t : State) (line : ℕ) (out : Stmt) → Takes (WordKind Local) line s m → ReadsStat at (before_local line m) out t → ReadsStat at s out t
local_from at s m t line out taken r = stat_from at s (before_local line m) t out taken.printed taken.scope r

pub local_function_read : (at : Nesting) (s a b c t : State) (line word name_at slot number : ℕ) (name : Bytes) (out : Stmt) → Takes (WordKind Function) word s a →
    Takes (NameKind name) name_at a b → Turns (declare (name ∷ []) b.scope) b c → ReadsBody at word [] c number t → slot ≡ in_scope b.scope →
    out ≡ statement line (stmt.LocalFunction slot number) → ReadsStat at (before_local line s) out t
unfolding print_exp levels IsValid Resolves
local_function_read at s a b c t line word name_at slot number name out taken named turn body index is =
    let same : b.scope ≡ s.scope = named.scope ∙ taken.scope in
    record {
      tree = tree.local_function line word name_at name body.tree;
      printed = ap (a_word Local line) (taken.printed ∙ ap (a_word Function word) (named.printed ∙ ap (a_name name_at name) (sym turn.left ∙ body.printed)));
      valid = body.valid;
      deep = body.deep;
      resolved = (
        number,
        subst (λ z. ResolvesBody [] word body.tree z number t.scope) (turn.scope ∙ ap (declare (name ∷ [])) same) body.resolved,
        is ∙ ap (λ k. statement line (stmt.LocalFunction k number)) (index ∙ ap in_scope same),
      );
      stops = λ ends. absurd ends;
      ends = tt;
    }

pub local_read : (at : Nesting) (s a b t : State) (line : ℕ) (names : List Bytes) (values : Option (Vec Expr Global)) (slots : List ℕ) (out : Stmt) → ReadsNames [] s names a →
    ReadsInitial at a values b → Turns (declare names b.scope) b t → slots ≡ slots_from (in_scope b.scope) names → IsLocal line slots values out →
    (IsNext (SignKind Comma) a → ⊥) → IfNone values (IsNext (SignKind Assign) a → ⊥) → ReadsStat at (before_local line s) out t
unfolding print_exp levels IsValid Resolves
local_read at s a b t line names (Some es) slots out r (equals, m, taken, rv) turn numbered is last none =
    let first : ResolvesList rv.tree m.scope is.given.value.items b.scope = subst (λ x. ResolvesList rv.tree m.scope x b.scope) (sym is.same_given) rv.resolved in
    let from : ResolvesList rv.tree s.scope is.given.value.items b.scope = subst (λ z. ResolvesList rv.tree z is.given.value.items b.scope) (taken.scope ∙ r.scope) first in
    record {
      tree = tree.local_values line r.tree equals rv.tree;
      printed = ap (a_word Local line) (r.printed ∙ ap (print_names r.tree) (taken.printed ∙ ap (a_sign Assign equals) (rv.printed ∙ ap (print_explist rv.tree) (sym turn.left))));
      valid = rv.valid;
      deep = rv.deep;
      resolved = (is.list, is.given, b.scope, from, is.same_slots ∙ (numbered ∙ ap (slots_from (in_scope b.scope)) r.listed), turn.scope ∙ ap (λ ns. declare ns b.scope) r.listed, is.built);
      stops = λ ends. stops_still b t turn.left (rv.stops ends);
      ends = subst (λ left. LastStops rv.tree (a_kind (first_kind left) 1 []) × IsNoComma (first_kind left)) (sym turn.left) (rv.ends, rv.last);
    }
local_read at s a b t line names None slots out r same turn numbered is last none =
    let before : b.scope ≡ s.scope = ap (λ z. z.scope) same ∙ r.scope in
    record {
      tree = tree.local line r.tree;
      printed = ap (a_word Local line) (r.printed ∙ ap (print_names r.tree) (ap (λ z. z.left) (sym same) ∙ sym turn.left));
      valid = tt;
      deep = let d = at.deep in omega (arith, d);
      resolved = (is.list, is.given, is.same_slots ∙ (numbered ∙ (ap (slots_from (in_scope b.scope)) r.listed ∙ ap (λ z. slots_from (in_scope z) (names_of r.tree)) before)), is.same_given, turn.scope ∙ (ap (λ ns. declare ns b.scope) r.listed ∙ ap (declare (names_of r.tree)) before), is.built);
      stops = λ ends. absurd ends;
      ends = subst (λ left. IsNoComma (first_kind left) × IsNoAssign (first_kind left)) (sym (turn.left ∙ ap (λ z. z.left) same)) (no_comma_ahead a last, no_assign_ahead a none);
    }
