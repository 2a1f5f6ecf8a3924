-- Where a list of expressions is refused.
use Rattle.std.proofs.Common.{◌≡◌, ℕ, List, refl, sym, subst, arith, ◌∙◌}
use Rattle.lua_ast.specs.declared.expressions.Expr.{Expr}
use Rattle.lua_grammar.specs.Tree.{Line, Exp, ExpList}
use Rattle.lua_grammar.specs.Tree as tree
use Rattle.lua_grammar.specs.Levels.{levels, height}
use Rattle.lua_grammar.specs.Validity.{IsValid}
use Rattle.lua_grammar.specs.Scopes.{Frame, Scope}
use Rattle.lua_grammar.specs.Resolution.{Resolves, ResolvesList}
use Rattle.lua_grammar.specs.Dead.{ListFrom}
use Rattle.lua_grammar.specs.Waiting.{Reader, exp, more_list}
use Rattle.lua_grammar.specs.Reading.{list}
use Rattle.lua_grammar.proofs.Few.{few_before_it}
use Rattle.lua_grammar.proofs.Growing.{exp_keeps}
use Rattle.lua_grammar.proofs.SameFrames.{list_alike}
use Rattle.lua_lexer.specs.declared.tokens.TokenKind.TheVariants.{Sign}
use Rattle.lua_lexer.specs.declared.signs.Sign.TheVariants as sign
use Rattle.lua_parser_base.specs.declared.faults.ParseFault.{ParseFault}
use Rattle.lua_parser_base.specs.declared.nesting.Nesting.{Nesting}
use Rattle.lua_parser_base.specs.declared.nodes.Values.{Values}
use Rattle.lua_parser_base.specs.States.{State, Takes}
use Rattle.lua_parser_base.specs.Fits.{FitsExp, FitsList}
use Rattle.lua_parser_base.specs.Reads.{ReadsList}
use Rattle.lua_parser_base.specs.Readers.{Moves}
use Rattle.lua_parser_base.specs.Refusals.{RefusesFrom, RefusesList, Unless}
use Rattle.lua_parser_base.proofs.Moving.{by_token, on, refused_on, supposes_on}
use Rattle.lua_parser_base.proofs.Printed.{list_moves}

-- ---- what fits

pub one_fits : (at : Nesting) (enclosing : List Frame) (e : Exp) → FitsList at enclosing (tree.one e) → FitsExp at enclosing e
unfolding levels height IsValid Resolves
one_fits at enclosing e f =
    let (x, r, is) = f.resolvable.resolved in
    record {
      valid = f.valid;
      deep = f.deep;
      low = f.low;
      resolvable = record { before = f.resolvable.before; out = x; after = f.resolvable.after; same = f.resolvable.same; resolved = r; few = f.resolvable.few };
    }

shorter_list_fits : (at : Nesting) (enclosing : List Frame) (es : ExpList) (c : Line) (e : Exp) → FitsList at enclosing (tree.more es c e) → FitsList at enclosing es
unfolding levels height IsValid Resolves
shorter_list_fits at enclosing es c e f =
    let (before, x, m, p, q, is) = f.resolvable.resolved in
    record {
      valid = f.valid.0;
      deep = let d = f.deep in omega (arith, d);
      low = let h = f.low in omega (arith, h);
      resolvable = record { before = f.resolvable.before; out = before; after = m; same = f.resolvable.same; resolved = p; few = few_before_it (exp_keeps e m x f.resolvable.after q) f.resolvable.few };
    }

pub first_list_fits : (at : Nesting) (enclosing : List Frame) (first whole : ExpList) → ListFrom first whole → FitsList at enclosing whole → FitsList at enclosing first
first_list_fits at enclosing first whole ListFrom.alone f = f
first_list_fits at enclosing first whole (ListFrom.more es c e from) f = first_list_fits at enclosing first es from (shorter_list_fits at enclosing es c e f)

-- in the functions as they are after the expressions before it
last_fits : (at : Nesting) (enclosing : List Frame) (es : ExpList) (c : Line) (e : Exp) (s m : Scope) (out : List Expr) → FitsList at enclosing (tree.more es c e) →
    s.enclosing ≡ enclosing → ResolvesList es s out m → FitsExp at m.enclosing e
unfolding levels height IsValid Resolves
last_fits at enclosing es c e s m out f here r =
    let (before, x, k, p, q, is) = f.resolvable.resolved in
    let same : k.enclosing ≡ m.enclosing = (list_alike es f.resolvable.before s before out k m p r (record { enclosing = f.resolvable.same ∙ sym here })).enclosing in
    record {
      valid = f.valid.1;
      deep = let d = f.deep in omega (arith, d);
      low = let h = f.low in omega (arith, h);
      resolvable = record { before = k; out = x; after = f.resolvable.after; same = same; resolved = q; few = f.resolvable.few };
    }

-- ---- where it is refused

first_supposes : (at : Nesting) (enclosing : List Frame) (k : ExpList → Reader) → Unless (FitsList at enclosing) k → Unless (FitsExp at enclosing) (λ e. more_list (tree.one e) k)
first_supposes at enclosing k suppose = λ e not whole from.
    suppose whole (λ f. not (one_fits at enclosing e (first_list_fits at enclosing (tree.one e) whole from f)))

pub first_refused : (at : Nesting) (s t : State) (fault : ParseFault) → RefusesFrom 1 at s t fault → RefusesList at s t fault
first_refused at s t fault refuses = λ k h. refuses (λ e. more_list (tree.one e) k) (supposes_on fault (first_supposes at s.scope.enclosing k) h)

-- over a list and the comma after it
over_comma : (at : Nesting) (k : ExpList → Reader) (line : ℕ) (s a b : State) (v : Values) (r : ReadsList at s v a) → Takes (Sign sign.Comma) line a b →
    Moves (list k) s (exp 1 (λ e. more_list (tree.more r.tree line e) k)) b
over_comma at k line s a b v r taken = on (list_moves r.tree at.vararg k s a r.printed r.valid r.ends) (by_token (more_list r.tree k) (Sign sign.Comma) line a b taken)

next_supposes : (at : Nesting) (k : ExpList → Reader) (line : ℕ) (s a b : State) (v : Values) (r : ReadsList at s v a) → Takes (Sign sign.Comma) line a b →
    Unless (FitsList at s.scope.enclosing) k → Unless (FitsExp at b.scope.enclosing) (λ e. more_list (tree.more r.tree line e) k)
next_supposes at k line s a b v r taken suppose = λ e not whole from.
    suppose whole (λ f.
    not (subst (λ z. FitsExp at z.enclosing e) (sym taken.scope)
    (last_fits at s.scope.enclosing r.tree line e s.scope a.scope v.exprs.items (first_list_fits at s.scope.enclosing (tree.more r.tree line e) whole from f) refl r.resolved)))

pub next_refused : (at : Nesting) (line : ℕ) (fault : ParseFault) (s a b t : State) (v : Values) → ReadsList at s v a → Takes (Sign sign.Comma) line a b →
    RefusesFrom 1 at b t fault → RefusesList at s t fault
next_refused at line fault s a b t v r taken refuses = λ k h.
    refused_on (over_comma at k line s a b v r taken) (refuses (λ e. more_list (tree.more r.tree line e) k) (supposes_on fault (next_supposes at k line s a b v r taken) h))
