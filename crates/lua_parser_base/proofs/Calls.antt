-- What is read after a prefix, and the arguments of calls.
use Rattle.std.proofs.lemmas.Bool.{false≢true}
use Rattle.std.proofs.Common.{◌≡◌, ℕ, Bool, true, false, Result, Ok, Err, IfOk, ◌+◌, ◌<◌, ◌≤◌, max, List, [], ◌∷◌, Option, Some, None, MatchOption, MatchResult, length, drop, slice_get, zero, suc, refl, sym, ap, subst, arith, ◌∙◌}
use Rattle.lua_ast.specs.declared.expressions.ExprKind as kind
use Rattle.lua_lexer.specs.declared.tokens.TokenKind.TheVariants.{Name as NameKind, Text as TextKind, Sign as SignKind}
use Rattle.lua_lexer.specs.declared.signs.Sign.TheVariants.{OpenParenthesis, CloseParenthesis, OpenBracket, CloseBracket, Colon, Dot}
use Rattle.lua_grammar.specs.Tree.{Line, Bytes, Exp, PrefixExp, Args}
use Rattle.lua_grammar.specs.Tree as tree
use Rattle.lua_lexer.specs.declared.tokens.Token.{Token}
use Rattle.lua_grammar.specs.Printing.{Lexeme, lexeme, lexemes, a_kind, a_sign, print_exp, print_prefixexp, print_explist, print_args, print_table}
use Rattle.lua_grammar.specs.Levels.{levels, height, prefix_height}
use Rattle.lua_grammar.specs.Validity.{IsValid, BeginOn, AreValid, IsValidTable}
use Rattle.lua_grammar.specs.Resolution.{Resolves, ResolvesPrefix, ResolvesArgs, ResolvesList, args_line, table_line, node}
use Rattle.lua_grammar.specs.Grammar.{first_line}
use Rattle.lua_parser_base.specs.declared.nesting.Nesting.{Nesting}
use Rattle.lua_parser_base.specs.declared.nodes.Built.{Built}
use Rattle.lua_parser_base.specs.declared.nodes.Prefix.{Prefix}
use Rattle.lua_parser_base.specs.declared.nodes.Values.{Values}
use Rattle.lua_parser_base.specs.declared.nodes.Form.TheVariants.{Variable}
use Rattle.lua_parser_base.proofs.Heights.{prefix_tall}
use Rattle.lua_parser_base.specs.declared.faults.ParseFault.{ParseFault}
use Rattle.lua_parser_base.specs.declared.cursor.Parser.{Parser}
use Rattle.lua_parser_base.specs.declared.suffixes.Suffix.{Suffix}
use Rattle.lua_parser_base.specs.States.{State, state, Takes, OpensOnLine, GoesOn, Stops}
use Rattle.lua_parser_base.specs.Nesting.{IsPart, IsNarrower}
use Rattle.lua_parser_base.specs.Next.{Begin, IsMemory}
use Rattle.lua_parser_base.specs.Kinds.{IsSuffix}
use Rattle.lua_parser_base.proofs.Next.{next_left}
use Rattle.lua_parser_base.specs.Nodes.{leaf, IsIndexed, IsMember, IsCalled, IsMethodCalled, IsAlone, IsNone}
use Rattle.lua_parser_base.specs.Reads.{ReadsExp, ReadsPrefix, Extends, ReadsArgs, ReadsList, ReadsTable}

table_begins : (t : tree.Table) (after : List Lexeme) → first_line (print_table t after) ≡ table_line t
unfolding print_exp
table_begins (tree.separated o fs c) after = refl
table_begins (tree.ending o fs f c) after = refl

args_begin : (a : Args) (after : List Lexeme) → first_line (print_args a after) ≡ args_line a
unfolding print_exp
args_begin (tree.no_args o c) after = refl
args_begin (tree.args o es c) after = refl
args_begin (tree.table_arg t) after = table_begins t after
args_begin (tree.string_arg l bytes) after = refl

begin_on : (a : Args) (s t : State) → s.left ≡ print_args a t.left → OpensOnLine s → BeginOn s.last a
unfolding print_exp
begin_on (tree.no_args o c) s t printed opens = opens o _ printed
begin_on (tree.args o es c) s t printed opens = opens o _ printed
begin_on (tree.table_arg x) s t printed opens = tt
begin_on (tree.string_arg l bytes) s t printed opens = tt

-- the next token
ahead : (tokens : List Token) (index : ℕ) (token : Token) → slice_get tokens index ≡ Some token →
    (after : List Token) × (drop index tokens ≡ token ∷ after)
ahead [] index token is = absurd (grind arith)
ahead (x ∷ xs) zero token is = (xs, grind arith)
ahead (x ∷ xs) (suc n) token is = ahead xs n token (grind arith)

nothing_ahead : (tokens : List Token) (index : ℕ) (next : Lexeme) (after : List Lexeme) → length tokens ≤ index →
    lexemes (drop index tokens) ≡ next ∷ after → ⊥
nothing_ahead [] zero next after all left = cc
nothing_ahead [] (suc n) next after all left = cc
nothing_ahead (x ∷ xs) zero next after all left = absurd (grind arith)
nothing_ahead (x ∷ xs) (suc n) next after all left = nothing_ahead xs n next after (grind arith) left

opens_next : (tokens : List Token) (p : Parser) (token : Token) (line : ℕ) (after : List Lexeme) → slice_get tokens p.index ≡ Some token →
    (state tokens p).left ≡ a_sign OpenParenthesis line after → (token.kind ≡ SignKind OpenParenthesis) × (token.line ≡ line)
unfolding state
opens_next tokens p token line after is left =
    let a = ahead tokens p.index token is in
    let same : lexeme token ∷ lexemes a.0 ≡ a_sign OpenParenthesis line after = rw a.1 at left in
    let first : lexeme token ≡ record { kind = SignKind OpenParenthesis; line = line } = cc in
    (ap (λ l. l.kind) first, ap (λ l. l.line) first)

pub opens_same : (tokens : List Token) (p : Parser) (token : Token) → slice_get tokens p.index ≡ Some token → token.line ≡ p.line →
    OpensOnLine (state tokens p)
unfolding state
opens_same tokens p token is same = λ line after left. sym (opens_next tokens p token line after is left).1 ∙ same

-- a prefix stops at the end of the tokens, and at a token with which none goes on
pub stops_at_end : (tokens : List Token) (p : Parser) → length tokens ≤ p.index → Stops (state tokens p)
unfolding state
stops_at_end tokens p all = λ next after left goes. nothing_ahead tokens p.index next after all left

stops_at : (tokens : List Token) (p : Parser) (token : Token) → slice_get tokens p.index ≡ Some token → (GoesOn token.kind → ⊥) →
    Stops (state tokens p)
unfolding state
stops_at tokens p token is not = λ next after left goes.
    let a = ahead tokens p.index token is in
    let same : lexeme token ∷ lexemes a.0 ≡ next ∷ after = rw a.1 at left in
    let first : lexeme token ≡ next = cc in
    not (subst (λ l. GoesOn l.kind) (sym first) goes)

pub stops_after : (tokens : List Token) (p : Parser) (token : Token) (found : Option Suffix) → slice_get tokens p.index ≡ Some token →
    MatchOption found (GoesOn token.kind → ⊥) (λ suffix. IsSuffix suffix token.kind) →
    MatchOption found (Stops (state tokens p)) (λ suffix. Begin (IsSuffix suffix) (state tokens p).left)
stops_after tokens p token None is not = stops_at tokens p token is not
stops_after tokens p token (Some suffix) is goes = rw (next_left tokens p token is) goes

pub not_both : (b : Bool) → b ≡ false → b ≡ true → ⊥
not_both b first then = false≢true (sym first ∙ then)

pub opens_not : (tokens : List Token) (p : Parser) (token : Token) → slice_get tokens p.index ≡ Some token →
    (token.kind ≡ SignKind OpenParenthesis → ⊥) → OpensOnLine (state tokens p)
opens_not tokens p token is not = λ line after left. absurd (not (opens_next tokens p token line after is left).0)

-- what is built of a prefix is a longer one
pub ok_extends : (at : Nesting) (object : Prefix) (m t : State) (r : Result Prefix ParseFault) (P : Prefix → Type 0) → MatchResult r P IsMemory →
    ((p : Prefix) (s : State) → P p → ReadsPrefix at s object m → ReadsPrefix at s p t) → IfOk r (λ p. Extends at object m p t)
ok_extends at object m t (Ok p) P holds longer = λ s read. longer p s holds read
ok_extends at object m t (Err e) P holds longer = tt

pub item_read : (at inner : Nesting) (s m n k t : State) (p r : Prefix) (b : Built) (opens closes : ℕ) →
    ReadsPrefix at s p m → Takes (SignKind OpenBracket) opens m n → IsPart at inner → ReadsExp inner n b k → Takes (SignKind CloseBracket) closes k t →
    p.height < at.room → IsIndexed p opens b r → ReadsPrefix at s r t
unfolding print_exp levels height IsValid Resolves
item_read at inner s m n k t p r b opens closes rp taken part rb close below is =
    let whole = tree.item rp.tree opens rb.tree closes in
    let room = part.room in
    let inside = rb.low in
    let few : max p.height b.height < 4_000 = let most = at.low in omega (arith, room, inside, most, below) in
    let high = is.higher few in
    let tall : prefix_height whole ≡ r.height = rw (rp.high, rb.high) (sym high) in
    let low : r.height ≤ at.room = omega (arith, high, room, inside, below) in
    let limit : r.height ≤ 4_000 = let most = at.low in omega (arith, low, most) in
    let within : IsValid at.vararg rb.tree = subst (λ vararg. IsValid vararg rb.tree) part.vararg rb.valid in
    let object : ResolvesPrefix rp.tree s.scope is.object.value m.scope = subst (λ e. ResolvesPrefix rp.tree s.scope e m.scope) (sym is.same_object) rp.resolved in
    let first : Resolves rb.tree n.scope is.key.value k.scope = subst (λ e. Resolves rb.tree n.scope e k.scope) (sym is.same_key) rb.resolved in
    let from : Resolves rb.tree m.scope is.key.value k.scope = subst (λ z. Resolves rb.tree z is.key.value k.scope) taken.scope first in
    let after : Resolves rb.tree m.scope is.key.value t.scope = subst (λ z. Resolves rb.tree m.scope is.key.value z) (sym close.scope) from in
    record {
      tree = whole;
      printed = rp.printed ∙ ap (print_prefixexp rp.tree) (taken.printed ∙ ap (a_kind (SignKind OpenBracket) opens) (rb.printed ∙ ap (print_exp rb.tree) close.printed));
      valid = (rp.valid, within, rw tall limit);
      deep = let d = rp.deep in let e = rb.deep in let f = part.depth in omega (arith, d, e, f);
      resolved = (is.object, is.key, m.scope, object, after, is.built);
      high = tall;
      low = low;
      form = sym is.form;
      ends = sym close.last;
    }

pub member_read : (at : Nesting) (s m n t : State) (p r : Prefix) (dot line : ℕ) (name : Bytes) →
    ReadsPrefix at s p m → Takes (SignKind Dot) dot m n → Takes (NameKind name) line n t → p.height < at.room → r.height ≡ p.height + 1 →
    r.form ≡ Variable → IsMember p.expr dot line name r.expr → ReadsPrefix at s r t
unfolding print_exp levels height IsValid Resolves
member_read at s m n t p r dot line name rp taken named below high form is =
    let whole = tree.member rp.tree dot line name in
    let tall : prefix_height whole ≡ r.height = rw rp.high (sym high) in
    let low : r.height ≤ at.room = omega (arith, high, below) in
    let limit : r.height ≤ 4_000 = let most = at.low in omega (arith, low, most) in
    let object : ResolvesPrefix rp.tree s.scope is.object.value m.scope = subst (λ e. ResolvesPrefix rp.tree s.scope e m.scope) (sym is.same) rp.resolved in
    let after : ResolvesPrefix rp.tree s.scope is.object.value t.scope =
    subst (λ z. ResolvesPrefix rp.tree s.scope is.object.value z) (sym (named.scope ∙ taken.scope)) object in
    record {
      tree = whole;
      printed = rp.printed ∙ ap (print_prefixexp rp.tree) (taken.printed ∙ ap (a_kind (SignKind Dot) dot) named.printed);
      valid = (rp.valid, rw tall limit);
      deep = rp.deep;
      resolved = (is.object, after, is.built);
      high = tall;
      low = low;
      form = sym form;
      ends = sym named.last;
    }

pub called_read : (at : Nesting) (s m t : State) (p r : Prefix) (v : Values) (line : ℕ) →
    ReadsPrefix at s p m → ReadsArgs at m v t → OpensOnLine m → line ≡ first_line m.left → p.height < at.room → IsCalled p line v r →
    ReadsPrefix at s r t
unfolding print_exp levels height IsValid Resolves
called_read at s m t p r v line rp ra opens starts below is =
    let whole = tree.call rp.tree ra.tree in
    let least : 1 ≤ p.height = rw rp.high at (prefix_tall rp.tree) in
    let inside = ra.low in
    let few : max p.height v.height < 4_000 = let most = at.low in omega (arith, inside, most, below, least) in
    let high = is.higher few in
    let tall : prefix_height whole ≡ r.height = rw (rp.high, ra.high) (sym high) in
    let low : r.height ≤ at.room = omega (arith, high, inside, below, least) in
    let limit : r.height ≤ 4_000 = let most = at.low in omega (arith, low, most) in
    let object : ResolvesPrefix rp.tree s.scope is.callee.value m.scope = subst (λ e. ResolvesPrefix rp.tree s.scope e m.scope) (sym is.same_callee) rp.resolved in
    let given : ResolvesArgs ra.tree m.scope is.values.value.items t.scope = subst (λ es. ResolvesArgs ra.tree m.scope es t.scope) (sym is.same_values) ra.resolved in
    let begins : line ≡ args_line ra.tree = starts ∙ (ap first_line ra.printed ∙ args_begin ra.tree t.left) in
    let on_line : BeginOn m.last ra.tree = begin_on ra.tree m t ra.printed opens in
    record {
      tree = whole;
      printed = rp.printed ∙ ap (print_prefixexp rp.tree) ra.printed;
      valid = (rp.valid, ra.valid, subst (λ l. BeginOn l ra.tree) (sym rp.ends) on_line, rw tall limit);
      deep = let d = rp.deep in let e = ra.deep in omega (arith, d, e);
      resolved = (is.callee, is.values, m.scope, object, given, is.built ∙ ap (λ l. node l (kind.Call is.callee is.values)) begins);
      high = tall;
      low = low;
      form = sym is.form;
      ends = ra.ends;
    }

pub method_called_read : (at : Nesting) (s m n k t : State) (p r : Prefix) (v : Values) (colon at_name line : ℕ) (name : Bytes) →
    ReadsPrefix at s p m → Takes (SignKind Colon) colon m n → Takes (NameKind name) at_name n k → ReadsArgs at k v t → OpensOnLine k →
    line ≡ first_line k.left → p.height < at.room → IsMethodCalled p name line v r → ReadsPrefix at s r t
unfolding print_exp levels height IsValid Resolves
method_called_read at s m n k t p r v colon at_name line name rp taken named ra opens starts below is =
    let whole = tree.method rp.tree colon at_name name ra.tree in
    let least : 1 ≤ p.height = rw rp.high at (prefix_tall rp.tree) in
    let inside = ra.low in
    let few : max p.height v.height < 4_000 = let most = at.low in omega (arith, inside, most, below, least) in
    let high = is.higher few in
    let tall : prefix_height whole ≡ r.height = rw (rp.high, ra.high) (sym high) in
    let low : r.height ≤ at.room = omega (arith, high, inside, below, least) in
    let limit : r.height ≤ 4_000 = let most = at.low in omega (arith, low, most) in
    let object : ResolvesPrefix rp.tree s.scope is.object.value m.scope = subst (λ e. ResolvesPrefix rp.tree s.scope e m.scope) (sym is.same_object) rp.resolved in
    let given : ResolvesArgs ra.tree k.scope is.values.value.items t.scope = subst (λ es. ResolvesArgs ra.tree k.scope es t.scope) (sym is.same_values) ra.resolved in
    let from : ResolvesArgs ra.tree m.scope is.values.value.items t.scope =
    subst (λ z. ResolvesArgs ra.tree z is.values.value.items t.scope) (named.scope ∙ taken.scope) given in
    let begins : line ≡ args_line ra.tree = starts ∙ (ap first_line ra.printed ∙ args_begin ra.tree t.left) in
    let on_line : BeginOn k.last ra.tree = begin_on ra.tree k t ra.printed opens in
    record {
      tree = whole;
      printed = rp.printed ∙ ap (print_prefixexp rp.tree) (taken.printed ∙ ap (a_kind (SignKind Colon) colon) (named.printed ∙ ap (a_kind (NameKind name) at_name) ra.printed));
      valid = (rp.valid, ra.valid, subst (λ l. BeginOn l ra.tree) named.last on_line, rw tall limit);
      deep = let d = rp.deep in let e = ra.deep in omega (arith, d, e);
      resolved = (is.object, is.values, m.scope, object, from, is.built ∙ ap (λ l. node l (kind.Method is.object name is.values)) begins);
      high = tall;
      low = low;
      form = sym is.form;
      ends = ra.ends;
    }

pub no_args_read : (at : Nesting) (s m t : State) (v : Values) (opens closes : ℕ) → Takes (SignKind OpenParenthesis) opens s m →
    Takes (SignKind CloseParenthesis) closes m t → IsNone v → ReadsArgs at s v t
unfolding print_exp levels height IsValid Resolves
no_args_read at s m t v opens closes taken close is = record {
  tree = tree.no_args opens closes;
  printed = taken.printed ∙ ap (a_kind (SignKind OpenParenthesis) opens) close.printed;
  valid = tt;
  deep = let d = at.deep in omega (arith, d);
  resolved = (is.exprs, close.scope ∙ taken.scope);
  high = sym is.height;
  low = let h = is.height in omega (arith, h);
  ends = sym close.last;
}

pub args_read : (at inner : Nesting) (s m n t : State) (v : Values) (opens closes : ℕ) → Takes (SignKind OpenParenthesis) opens s m →
    IsPart at inner → ReadsList inner m v n → Takes (SignKind CloseParenthesis) closes n t → ReadsArgs at s v t
unfolding print_exp levels height IsValid Resolves
args_read at inner s m n t v opens closes taken part rv close =
    let from : ResolvesList rv.tree s.scope v.exprs.items n.scope = subst (λ z. ResolvesList rv.tree z v.exprs.items n.scope) taken.scope rv.resolved in
    record {
      tree = tree.args opens rv.tree closes;
      printed = taken.printed ∙ ap (a_kind (SignKind OpenParenthesis) opens) (rv.printed ∙ ap (print_explist rv.tree) close.printed);
      valid = subst (λ vararg. AreValid vararg rv.tree) part.vararg rv.valid;
      deep = let d = rv.deep in let e = part.depth in omega (arith, d, e);
      resolved = subst (λ z. ResolvesList rv.tree s.scope v.exprs.items z) (sym close.scope) from;
      high = rv.high;
      low = let d = rv.low in let e = part.room in omega (arith, d, e);
      ends = sym close.last;
    }

pub table_arg_read : (at inner : Nesting) (s t : State) (b : Built) (v : Values) → IsNarrower at inner → ReadsTable inner s b t → IsAlone b v →
    ReadsArgs at s v t
unfolding print_exp levels height IsValid Resolves
table_arg_read at inner s t b v part rt is = record {
  tree = tree.table_arg rt.tree;
  printed = rt.printed;
  valid = subst (λ vararg. IsValidTable vararg rt.tree) part.vararg rt.valid;
  deep = let d = rt.deep in let e = part.depth in omega (arith, d, e);
  resolved = (b.expr, rt.resolved, is.exprs);
  high = rt.high ∙ sym is.height;
  low = let d = rt.low in let e = part.room in let h = is.height in omega (arith, d, e, h);
  ends = rt.ends;
}

pub text_arg_read : (at : Nesting) (s t : State) (v : Values) (line : ℕ) (bytes : Bytes) → Takes (TextKind bytes) line s t →
    IsAlone (leaf line (kind.Text bytes)) v → ReadsArgs at s v t
unfolding print_exp levels height IsValid Resolves
text_arg_read at s t v line bytes taken is = record {
  tree = tree.string_arg line bytes;
  printed = taken.printed;
  valid = tt;
  deep = let d = at.deep in omega (arith, d);
  resolved = (is.exprs, taken.scope);
  high = sym is.height;
  low = let h = is.height in omega (arith, h);
  ends = sym taken.last;
}
