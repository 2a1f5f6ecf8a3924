-- A field that begins with a name: the token after that says whether it is the field's.
use Rattle.std.proofs.Common.{◌≡◌, true, List, [], ◌∷◌, refl, ap}
use Rattle.lua_ast.specs.declared.expressions.UnOp.TheVariants as unary
use Rattle.lua_ast.specs.declared.expressions.BinOp.TheVariants.{Add, Sub, Mul, Div, Mod, Pow, Concat, Eq, Ne, Lt, Le, Gt, Ge}
use Rattle.lua_lexer.specs.declared.tokens.TokenKind.{TokenKind}
use Rattle.lua_lexer.specs.declared.tokens.TokenKind.TheVariants.{Name, Text, Number, Word, Sign}
use Rattle.lua_lexer.specs.declared.signs.Sign.TheVariants as sign
use Rattle.lua_lexer.specs.declared.words.Word.TheVariants as word
use Rattle.lua_grammar.specs.declared.operators.Operator.{Operator}
use Rattle.lua_grammar.specs.declared.operators.Operator.TheVariants.{Or, And, Plain}
use Rattle.lua_grammar.specs.Operators.{kind_of}
use Rattle.lua_grammar.specs.Tree.{Line, Bytes, Exp, PrefixExp, Args, Field}
use Rattle.lua_grammar.specs.Tree as tree
use Rattle.lua_grammar.specs.Printing.{Lexeme, a_kind, a_sign, a_name, print_exp, print_prefixexp, print_args, print_fields, print_field, print_funcbody}
use Rattle.lua_grammar.specs.Stopping.{ComesNext, IsNoOperator, IsApart, IsNoAssign, IsLone, FieldStops}
use Rattle.lua_grammar.specs.Waiting.{Reader}
use Rattle.lua_grammar.specs.Reading.{feed, run}
use Rattle.lua_grammar.proofs.Stopping.{stops, ends_in}
use Rattle.lua_grammar.proofs.Starts.{begins}

-- two readers do the same with a token that begins an expression, but with a name only where `=` isn't after it
pub record AlikeButNamed (r other : Reader) : Type 0 where
  pub others : (kind : TokenKind) (l : Line) → begins kind ≡ true → ((n : Bytes) → kind ≡ Name n → ⊥) → feed r kind l ≡ feed other kind l
  pub name : (n : Bytes) (l : Line) (next : TokenKind) (m : Line) → IsNoAssign next → feed (feed r (Name n) l) next m ≡ feed (feed other (Name n) l) next m

token_alike : (r other : Reader) (kind : TokenKind) (l : Line) (after : List Lexeme) → AlikeButNamed r other → begins kind ≡ true → ((n : Bytes) → kind ≡ Name n → ⊥) →
    run (feed r kind l) after ≡ run (feed other kind l) after
token_alike r other kind l after h k not = ap (λ r. run r after) (h.others kind l k not)

name_alike : (r other : Reader) (n : Bytes) (l : Line) (after : List Lexeme) → AlikeButNamed r other → ComesNext IsNoAssign after →
    run (feed r (Name n) l) after ≡ run (feed other (Name n) l) after
name_alike r other n l [] h x = absurd x
name_alike r other n l (next ∷ after) h x = ap (λ r. run r after) (h.name n l next.kind next.line x)

operator_is_no_assign : (op : Operator) → IsNoAssign (kind_of op)
operator_is_no_assign Or = tt
operator_is_no_assign And = tt
operator_is_no_assign (Plain Add) = tt
operator_is_no_assign (Plain Sub) = tt
operator_is_no_assign (Plain Mul) = tt
operator_is_no_assign (Plain Div) = tt
operator_is_no_assign (Plain Mod) = tt
operator_is_no_assign (Plain Pow) = tt
operator_is_no_assign (Plain Concat) = tt
operator_is_no_assign (Plain Eq) = tt
operator_is_no_assign (Plain Ne) = tt
operator_is_no_assign (Plain Lt) = tt
operator_is_no_assign (Plain Le) = tt
operator_is_no_assign (Plain Gt) = tt
operator_is_no_assign (Plain Ge) = tt

args_begin : (a : Args) (after : List Lexeme) → ComesNext IsNoAssign (print_args a after)
unfolding print_args
args_begin (tree.no_args o c) after = tt
args_begin (tree.args o es c) after = tt
args_begin (tree.table_arg (tree.separated o fs c)) after = tt
args_begin (tree.table_arg (tree.ending o fs f c)) after = tt
args_begin (tree.string_arg l bytes) after = tt

prefix_alike : (p : PrefixExp) (r other : Reader) (after : List Lexeme) → AlikeButNamed r other → (IsLone (tree.prefix p) → ComesNext IsNoAssign after) →
    run r (print_prefixexp p after) ≡ run other (print_prefixexp p after)
unfolding print_prefixexp
prefix_alike (tree.variable l n) r other after h x = name_alike r other n l after h (x tt)
prefix_alike (tree.paren o e c) r other after h x = token_alike r other (Sign sign.OpenParenthesis) o (print_exp e (a_sign sign.CloseParenthesis c after)) h refl (λ n is. cc)
prefix_alike (tree.item p o e c) r other after h x = prefix_alike p r other (a_sign sign.OpenBracket o (print_exp e (a_sign sign.CloseBracket c after))) h (λ lone. tt)
prefix_alike (tree.member p d l n) r other after h x = prefix_alike p r other (a_sign sign.Dot d (a_name l n after)) h (λ lone. tt)
prefix_alike (tree.call p a) r other after h x = prefix_alike p r other (print_args a after) h (λ lone. args_begin a after)
prefix_alike (tree.method p c l n a) r other after h x = prefix_alike p r other (a_sign sign.Colon c (a_name l n (print_args a after))) h (λ lone. tt)

pub exp_alike_but_named : (e : Exp) (r other : Reader) (after : List Lexeme) → AlikeButNamed r other → (IsLone e → ComesNext IsNoAssign after) →
    run r (print_exp e after) ≡ run other (print_exp e after)
unfolding print_exp
exp_alike_but_named (tree.nil l) r other after h x = token_alike r other (Word word.Nil) l after h refl (λ n is. cc)
exp_alike_but_named (tree.false_ l) r other after h x = token_alike r other (Word word.False) l after h refl (λ n is. cc)
exp_alike_but_named (tree.true_ l) r other after h x = token_alike r other (Word word.True) l after h refl (λ n is. cc)
exp_alike_but_named (tree.number l n) r other after h x = token_alike r other (Number n) l after h refl (λ n is. cc)
exp_alike_but_named (tree.string l bytes) r other after h x = token_alike r other (Text bytes) l after h refl (λ n is. cc)
exp_alike_but_named (tree.dots l) r other after h x = token_alike r other (Sign sign.Ellipsis) l after h refl (λ n is. cc)
exp_alike_but_named (tree.function l body) r other after h x = token_alike r other (Word word.Function) l (print_funcbody body after) h refl (λ n is. cc)
exp_alike_but_named (tree.prefix p) r other after h x = prefix_alike p r other after h x
exp_alike_but_named (tree.table (tree.separated o fs c)) r other after h x = token_alike r other (Sign sign.OpenBrace) o (print_fields fs (a_sign sign.CloseBrace c after)) h refl (λ n is. cc)
exp_alike_but_named (tree.table (tree.ending o fs f c)) r other after h x =
    token_alike r other (Sign sign.OpenBrace) o (print_fields fs (print_field f (a_sign sign.CloseBrace c after))) h refl (λ n is. cc)
exp_alike_but_named (tree.binary a op l b) r other after h x = exp_alike_but_named a r other (a_kind (kind_of op) l (print_exp b after)) h (λ lone. operator_is_no_assign op)
exp_alike_but_named (tree.unary unary.Not l e) r other after h x = token_alike r other (Word word.Not) l (print_exp e after) h refl (λ n is. cc)
exp_alike_but_named (tree.unary unary.Length l e) r other after h x = token_alike r other (Sign sign.Hash) l (print_exp e after) h refl (λ n is. cc)
exp_alike_but_named (tree.unary unary.Minus l e) r other after h x = token_alike r other (Sign sign.Minus) l (print_exp e after) h refl (λ n is. cc)

-- no operator comes next, nothing that continues a prefix, and no `=`
pub field_stops : (f : Field) (after : List Lexeme) → ComesNext IsNoOperator after → ComesNext IsApart after → ComesNext IsNoAssign after → FieldStops f after
field_stops (tree.keyed o key c q e) after none apart assign = (stops e after none (λ h. apart), ends_in 1 after none)
field_stops (tree.named l n q e) after none apart assign = (stops e after none (λ h. apart), ends_in 1 after none)
field_stops (tree.plain e) after none apart assign = (stops e after none (λ h. apart), ends_in 1 after none, λ lone. assign)
