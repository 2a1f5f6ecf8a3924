-- Steps that read no token and change the scope.
use Rattle.std.proofs.Common.{◌≡◌, ℕ, List, drop, Option, Some, None, MatchOption, MatchResult, Result, Ok, Err, IfOk, refl, sym, ap, ◌∙◌}
use Rattle.lua_lexer.specs.declared.tokens.Token.{Token}
use Rattle.lua_grammar.specs.Tree.{Bytes}
use Rattle.lua_grammar.specs.Printing.{lexemes}
use Rattle.lua_grammar.specs.Scopes.{Scope, declare, in_scope, leave, slots_from}
use Rattle.lua_ast.specs.declared.expressions.Expr.{Expr}
use Rattle.lua_grammar.specs.Resolution.{ResolvesName}
use Rattle.lua_parser_base.specs.declared.cursor.Parser.{Parser}
use Rattle.lua_parser_base.specs.States.{State, Stops, state, scope_of}
use Rattle.lua_parser_base.specs.declared.faults.ParseFault.{ParseFault}
use Rattle.lua_parser_base.specs.Next.{IsMemory}

-- nothing is read, and the scope is that
pub record Turns (z : Scope) (s t : State) : Type 0 where
  pub left : t.left ≡ s.left
  pub last : t.last ≡ s.last
  pub scope : t.scope ≡ z

-- a prefix doesn't go on where the same tokens are left
pub stops_still : (s t : State) → t.left ≡ s.left → Stops s → Stops t
stops_still s t left stops = λ next after is. stops next after (sym left ∙ is)

pub turned : (tokens : List Token) (p q : Parser) (z : Scope) → q.index ≡ p.index → q.line ≡ p.line → scope_of q ≡ z →
    Turns z (state tokens p) (state tokens q)
unfolding state
turned tokens p q z index line scope = record { left = ap (λ n. lexemes (drop n tokens)) index; last = line; scope = scope }

pub scope_is : (tokens : List Token) (p : Parser) → (state tokens p).scope ≡ scope_of p
unfolding state
scope_is tokens p = refl

-- the locals are left that were declared since `o`
pub left_since : (tokens : List Token) (o p q : Parser) (count : ℕ) → count ≡ in_scope (scope_of o) →
    ((before : Scope) → in_scope before ≡ count → scope_of q ≡ leave before (scope_of p)) → q.index ≡ p.index → q.line ≡ p.line →
    Turns (leave (state tokens o).scope (state tokens p).scope) (state tokens p) (state tokens q)
unfolding state
left_since tokens o p q count is leaves index line = record {
  left = ap (λ n. lexemes (drop n tokens)) index;
  last = line;
  scope = leaves (scope_of o) (sym is);
}

pub declared : (tokens : List Token) (p q : Parser) (names : List Bytes) → scope_of q ≡ declare names (scope_of p) → q.index ≡ p.index → q.line ≡ p.line →
    Turns (declare names (state tokens p).scope) (state tokens p) (state tokens q)
unfolding state
declared tokens p q names scope index line = record { left = ap (λ n. lexemes (drop n tokens)) index; last = line; scope = scope }

pub slot_state : (tokens : List Token) (p : Parser) (n : ℕ) → n ≡ in_scope (scope_of p) → n ≡ in_scope (state tokens p).scope
unfolding state
slot_state tokens p n is = is

pub slots_state : (tokens : List Token) (p : Parser) (slots : List ℕ) (names : List Bytes) → slots ≡ slots_from (in_scope (scope_of p)) names →
    slots ≡ slots_from (in_scope (state tokens p).scope) names
unfolding state
slots_state tokens p slots names is = is

pub name_state : (tokens : List Token) (p q : Parser) (line : ℕ) (name : Bytes) (e : Expr) → ResolvesName line name (scope_of p) e (scope_of q) →
    ResolvesName line name (state tokens p).scope e (state tokens q).scope
unfolding state
name_state tokens p q line name e is = is

-- what follows of a value that a call answered
pub on_ok : {A E : Type 0} {P Q : A → Type 0} (r : Result A E) → IfOk r P → ((x : A) → P x → Q x) → IfOk r Q
on_ok (Ok x) h f = f x h
on_ok (Err e) h f = tt

-- the same of what fails as memory ran out alone
pub on_node : {A : Type 0} {P Q : A → Type 0} (r : Result A ParseFault) → MatchResult r P IsMemory → ((x : A) → P x → Q x) → IfOk r Q
on_node (Ok x) h f = f x h
on_node (Err fault) h f = tt

-- what is said of nothing, where nothing was found
pub none_found : {A : Type 0} {P : Type 0} (S : A → Type 0) (o : Option A) → MatchOption o P S → ((x : A) → o ≡ Some x → ⊥) → P
none_found S None h none = h
none_found S (Some x) h none = absurd (none x refl)
