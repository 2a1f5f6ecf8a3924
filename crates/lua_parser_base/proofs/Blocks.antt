-- What is read of the parts is read of a block or a statement.
use Rattle.std.proofs.Common.{◌≡◌, ℕ, true, List, [], ◌∷◌, ◌++◌, Option, Some, None, IfNone, refl, sym, ap, subst, arith, ◌∙◌}
use Rattle.lua_ast.specs.declared.expressions.Expr.{Expr}
use Rattle.lua_ast.specs.declared.statements.Stmt.{Stmt}
use Rattle.lua_ast.specs.declared.statements.StmtKind as stmt
use Rattle.lua_ast.specs.declared.statements.Arm.{Arm, out-Arm}
use Rattle.lua_lexer.specs.declared.tokens.TokenKind.TheVariants.{Word as WordKind, Sign as SignKind}
use Rattle.lua_lexer.specs.declared.signs.Sign.TheVariants.{OpenParenthesis, Semicolon}
use Rattle.lua_lexer.specs.declared.words.Word.TheVariants.{Break, Do, Else, ElseIf, End as EndWord, If, Repeat, Return, Then, Until, While}
use Rattle.lua_grammar.specs.Tree.{PrefixExp, Stats, Stat, VarList}
use Rattle.lua_grammar.specs.Tree as tree
use Rattle.lua_grammar.specs.Printing.{Lexeme, a_kind, a_word, a_sign, print_exp, print_prefixexp, print_block, print_stats, print_stat, print_laststat, print_arms, print_varlist}
use Rattle.lua_grammar.specs.Levels.{levels}
use Rattle.lua_grammar.specs.Validity.{IsValid, AreValid, IsValidBlock, BeginsWithParen, VarsBeginWithParen, StatBeginsWithParen, MayFollow}
use Rattle.lua_grammar.specs.Scopes.{leave}
use Rattle.lua_grammar.specs.Resolution.{Resolves, ResolvesList, Opens, ResolvesStat, ResolvesLast, ResolvesArms, statement}
use Rattle.lua_parser_base.specs.declared.nesting.Nesting.{Nesting}
use Rattle.lua_parser_base.specs.declared.nodes.Built.{Built}
use Rattle.lua_parser_base.specs.declared.nodes.Values.{Values}
use Rattle.lua_grammar.specs.Stopping.{EndsAt, IsBlockEnd, IsReturnEnd, IsNoComma, IsNoSemicolon, Stops as EndsBefore, StatStops, LastStatStops, BlockStops}
use Rattle.lua_parser_base.specs.States.{State, Takes, Skips, Stops}
use Rattle.lua_parser_base.specs.Next.{IsNext, ahead, first_kind}
use Rattle.lua_parser_base.specs.Nesting.{IsFresh, IsWithin, IsLooped}
use Rattle.lua_parser_base.specs.Reads.{ReadsExp, ReadsList}
use Rattle.lua_parser_base.specs.ReadsStatements.{ReadsBlock, ReadsScoped, ReadsStats, ReadsStat, ReadsLast, ReadsValue, ReadsValues, ReadsArm, ReadsArms, EndOpenly}
use Rattle.lua_parser_base.specs.StatementNodes.{IsArm, IsIf, IsWhile, IsDo, IsRepeat, IsReturn}
use Rattle.lua_parser_base.proofs.Scoping.{Turns, stops_still}
use Rattle.lua_parser_base.proofs.BlockEnds.{stat_on, last_stat_on, no_semicolon}

pub value_read : (at free inner : Nesting) (s t : State) (b : Built) (e : Expr) → IsFresh at free → IsWithin free inner → ReadsExp inner s b t → EndsAt 1 (ahead t) → e ≡ b.expr →
    ReadsValue at s e t
value_read at free inner s t b e fresh part r last is = record {
  tree = r.tree;
  printed = r.printed;
  valid = subst (λ vararg. IsValid vararg r.tree) (part.vararg ∙ fresh.vararg) r.valid;
  deep = let d = r.deep in let x = part.depth in let y = fresh.depth in omega (arith, d, x, y);
  resolved = subst (λ x. Resolves r.tree s.scope x t.scope) (sym is) r.resolved;
  stops = r.stops;
  ends = r.ends;
  last = last;
}

pub values_read : (at free inner : Nesting) (s t : State) (v : Values) (es : List Expr) → IsFresh at free → IsWithin free inner → ReadsList inner s v t →
    IsNoComma (ahead t) → es ≡ v.exprs.items → ReadsValues at s es t
values_read at free inner s t v es fresh part r last is = record {
  tree = r.tree;
  printed = r.printed;
  valid = subst (λ vararg. AreValid vararg r.tree) (part.vararg ∙ fresh.vararg) r.valid;
  deep = let d = r.deep in let x = part.depth in let y = fresh.depth in omega (arith, d, x, y);
  resolved = subst (λ x. ResolvesList r.tree s.scope x t.scope) (sym is) r.resolved;
  stops = r.stops;
  ends = r.ends;
  last = last;
}

pub stats_none : (at : Nesting) (s : State) (out : List Stmt) → out ≡ [] → ReadsStats at s out s
unfolding print_exp levels IsValid Resolves
stats_none at s out is = record {
  tree = tree.no_stats;
  printed = refl;
  valid = tt;
  deep = let d = at.deep in omega (arith, d);
  resolved = (is, refl);
  stops = λ ends. absurd ends;
  ends = tt;
}

-- a prefix that begins with `(`, and a statement that does
paren_first : (p : PrefixExp) (after : List Lexeme) → BeginsWithParen p →
    (line : ℕ) × (more : List Lexeme) × (print_prefixexp p after ≡ a_sign OpenParenthesis line more)
unfolding print_exp
paren_first (tree.variable l n) after begins = absurd begins
paren_first (tree.paren o e c) after begins = (o, _, refl)
paren_first (tree.item p o e c) after begins = paren_first p _ begins
paren_first (tree.member p d l n) after begins = paren_first p _ begins
paren_first (tree.call p a) after begins = paren_first p _ begins
paren_first (tree.method p c l n a) after begins = paren_first p _ begins

vars_first : (vs : VarList) (after : List Lexeme) → VarsBeginWithParen vs →
    (line : ℕ) × (more : List Lexeme) × (print_varlist vs after ≡ a_sign OpenParenthesis line more)
unfolding print_exp
vars_first (tree.one_var p) after begins = paren_first p _ begins
vars_first (tree.more_vars vs c p) after begins = vars_first vs _ begins

stat_first : (x : Stat) (after : List Lexeme) → StatBeginsWithParen x →
    (line : ℕ) × (more : List Lexeme) × (print_stat x after ≡ a_sign OpenParenthesis line more)
unfolding print_exp
stat_first (tree.assign vs q es) after begins = vars_first vs _ begins
stat_first (tree.call_statement p) after begins = paren_first p _ begins
stat_first other after begins = absurd begins

-- after a prefix that was read as far as it goes no statement begins with `(`
may_follow : (ss : Stats) (x : Stat) (m : State) (after : List Lexeme) → m.left ≡ print_stat x after → (EndOpenly ss → Stops m) → MayFollow ss x
may_follow tree.no_stats x m after printed stops = tt
may_follow (tree.more_stats ss before (tree.closed l)) x m after printed stops = tt
may_follow (tree.more_stats ss before tree.bare) x m after printed stops = λ ends begins.
    let first = stat_first x after begins in
    stops ends _ first.1 (printed ∙ first.2) tt

pub stats_more : (at : Nesting) (s m n t : State) (before longer : List Stmt) (x : Stmt) (found : Option ℕ) → ReadsStats at s before m → ReadsStat at m x n →
    Skips (SignKind Semicolon) found n t → IfNone found (IsNext (SignKind Semicolon) n → ⊥) → longer ≡ before ++ x ∷ [] → ReadsStats at s longer t
unfolding print_exp levels IsValid Resolves
stats_more at s m n t before longer x (Some line) rs rx semi missing is = record {
  tree = tree.more_stats rs.tree rx.tree (tree.closed line);
  printed = rs.printed ∙ ap (print_stats rs.tree) (rx.printed ∙ ap (print_stat rx.tree) semi.printed);
  valid = (rs.valid, rx.valid, may_follow rs.tree rx.tree m _ rx.printed rs.stops);
  deep = let d = rs.deep in let e = rx.deep in omega (arith, d, e);
  resolved = (before, x, m.scope, rs.resolved, subst (λ z. ResolvesStat rx.tree m.scope x z) (sym semi.scope) rx.resolved, is);
  stops = λ ends. absurd ends;
  ends = (stat_on rx.tree (a_sign Semicolon line (a_kind (ahead t) 1 [])) (a_sign Semicolon line (a_kind (ahead t) 1 [])) (a_kind (ahead t) 1 [], refl) (subst (λ left. StatStops rx.tree (a_kind (first_kind left) 1 [])) semi.printed rx.ends), tt);
}
stats_more at s m n t before longer x None rs rx same missing is = record {
  tree = tree.more_stats rs.tree rx.tree tree.bare;
  printed = rs.printed ∙ ap (print_stats rs.tree) (rx.printed ∙ ap (λ z. print_stat rx.tree z.left) (sym same));
  valid = (rs.valid, rx.valid, may_follow rs.tree rx.tree m _ rx.printed rs.stops);
  deep = let d = rs.deep in let e = rx.deep in omega (arith, d, e);
  resolved = (before, x, m.scope, rs.resolved, subst (λ z. ResolvesStat rx.tree m.scope x z.scope) (sym same) rx.resolved, is);
  stops = λ ends. subst Stops (sym same) (rx.stops ends);
  ends = subst (λ z. StatStops rx.tree (a_kind (ahead z) 1 []) × IsNoSemicolon (ahead z)) (sym same) (rx.ends, no_semicolon n.left missing);
}

pub block_open : (at : Nesting) (s t : State) (out : List Stmt) → ReadsStats at s out t → IsBlockEnd (ahead t) → ReadsBlock at s out t
unfolding print_exp levels IsValid Resolves
block_open at s t out r end = record {
  tree = tree.statements r.tree;
  printed = r.printed;
  valid = r.valid;
  deep = let d = r.deep in omega (arith, d);
  resolved = r.resolved;
  ends = (r.ends, end);
}

pub block_last : (at : Nesting) (s m n t : State) (before longer : List Stmt) (x : Stmt) (found : Option ℕ) → ReadsStats at s before m → ReadsLast at m x n →
    Skips (SignKind Semicolon) found n t → IfNone found (IsNext (SignKind Semicolon) n → ⊥) → longer ≡ before ++ x ∷ [] → ReadsBlock at s longer t
unfolding print_exp levels IsValid Resolves
block_last at s m n t before longer x (Some line) rs rx semi missing is = record {
  tree = tree.with_last rs.tree rx.tree (tree.closed line);
  printed = rs.printed ∙ ap (print_stats rs.tree) (rx.printed ∙ ap (print_laststat rx.tree) semi.printed);
  valid = (rs.valid, rx.valid);
  deep = let d = rs.deep in let e = rx.deep in omega (arith, d, e);
  resolved = (before, x, m.scope, rs.resolved, subst (λ z. ResolvesLast rx.tree m.scope x z) (sym semi.scope) rx.resolved, is);
  ends = (last_stat_on rx.tree (a_sign Semicolon line (a_kind (ahead t) 1 [])) (a_sign Semicolon line (a_kind (ahead t) 1 [])) (a_kind (ahead t) 1 [], refl) (subst (λ left. LastStatStops rx.tree (a_kind (first_kind left) 1 [])) semi.printed rx.ends), tt);
}
block_last at s m n t before longer x None rs rx same missing is = record {
  tree = tree.with_last rs.tree rx.tree tree.bare;
  printed = rs.printed ∙ ap (print_stats rs.tree) (rx.printed ∙ ap (λ z. print_laststat rx.tree z.left) (sym same));
  valid = (rs.valid, rx.valid);
  deep = let d = rs.deep in let e = rx.deep in omega (arith, d, e);
  resolved = (before, x, m.scope, rs.resolved, subst (λ z. ResolvesLast rx.tree m.scope x z.scope) (sym same) rx.resolved, is);
  ends = subst (λ z. LastStatStops rx.tree (a_kind (ahead z) 1 []) × IsNoSemicolon (ahead z)) (sym same) (rx.ends, no_semicolon n.left missing);
}

pub scoped_read : (at inner : Nesting) (s m t : State) (out : List Stmt) → IsWithin at inner → ReadsBlock inner s out m →
    Turns (leave s.scope m.scope) m t → ReadsScoped at s out t
scoped_read at inner s m t out part r turn = record {
  tree = r.tree;
  after = m.scope;
  printed = r.printed ∙ ap (print_block r.tree) (sym turn.left);
  valid = subst (λ l. IsValidBlock at.vararg l r.tree) part.in_loop (subst (λ vararg. IsValidBlock vararg inner.in_loop r.tree) part.vararg r.valid);
  deep = let d = r.deep in let x = part.depth in omega (arith, d, x);
  opened = r.resolved;
  scope = turn.scope;
  ends = subst (λ left. BlockStops r.tree (a_kind (first_kind left) 1 [])) (sym turn.left) r.ends;
}

pub break_read : (at : Nesting) (s t : State) (line : ℕ) (out : Stmt) → Takes (WordKind Break) line s t → at.in_loop ≡ true → out ≡ statement line stmt.Break →
    ReadsLast at s out t
unfolding print_exp levels IsValid Resolves
break_read at s t line out taken inside is = record {
  tree = tree.break_ line;
  printed = taken.printed;
  valid = inside;
  deep = let d = at.deep in omega (arith, d);
  resolved = (is, taken.scope);
  ends = tt;
}

pub return_none_read : (at : Nesting) (s t : State) (line : ℕ) (es : List Expr) (out : Stmt) → Takes (WordKind Return) line s t → es ≡ [] →
    IsReturnEnd (ahead t) → IsReturn line es out → ReadsLast at s out t
unfolding print_exp levels IsValid Resolves
return_none_read at s t line es out taken none end is = record {
  tree = tree.return_none line;
  printed = taken.printed;
  valid = tt;
  deep = let d = at.deep in omega (arith, d);
  resolved = (is.given, is.same_given ∙ none, is.built, taken.scope);
  ends = end;
}

pub return_read : (at : Nesting) (s m t : State) (line : ℕ) (es : List Expr) (out : Stmt) → Takes (WordKind Return) line s m → ReadsValues at m es t →
    IsReturn line es out → ReadsLast at s out t
unfolding print_exp levels IsValid Resolves
return_read at s m t line es out taken r is =
    let from : ResolvesList r.tree s.scope es t.scope = subst (λ z. ResolvesList r.tree z es t.scope) taken.scope r.resolved in
    record {
      tree = tree.return_values line r.tree;
      printed = taken.printed ∙ ap (a_word Return line) r.printed;
      valid = r.valid;
      deep = r.deep;
      resolved = (is.given, subst (λ l. ResolvesList r.tree s.scope l t.scope) (sym is.same_given) from, is.built);
      ends = (r.ends, r.last);
    }

pub arm_read : (at : Nesting) (s m n t : State) (e : Expr) (line : ℕ) (out : List Stmt) (arm : Arm) → ReadsValue at s e m → Takes (WordKind Then) line m n →
    ReadsScoped at n out t → IsArm e out arm → ReadsArm at s arm t
arm_read at s m n t e line out arm rv taken rb is =
    let test : Resolves rv.tree s.scope (out-Arm arm).test m.scope = subst (λ x. Resolves rv.tree s.scope x m.scope) (sym is.test) rv.resolved in
    record {
      test = rv.tree;
      then_at = line;
      block = rb.tree;
      middle = n.scope;
      after = rb.after;
      printed = rv.printed ∙ ap (print_exp rv.tree) (taken.printed ∙ ap (a_word Then line) rb.printed);
      valid_test = rv.valid;
      valid = rb.valid;
      deep_test = rv.deep;
      deep = rb.deep;
      tested = subst (λ z. Resolves rv.tree s.scope (out-Arm arm).test z) (sym taken.scope) test;
      opened = subst (λ l. Opens rb.tree n.scope l rb.after) (sym is.body) rb.opened;
      scope = rb.scope;
      ends = rb.ends;
    }

pub arms_one : (at : Nesting) (line : ℕ) (s t : State) (arm : Arm) (out : List Arm) → ReadsArm at s arm t → out ≡ arm ∷ [] → ReadsArms at line s out t
unfolding print_exp levels IsValid Resolves
arms_one at line s t arm out r is = record {
  tree = tree.if_arm line r.test r.then_at r.block;
  printed = ap (a_word If line) r.printed;
  valid = (r.valid_test, r.valid);
  deep = let d = r.deep_test in let e = r.deep in omega (arith, d, e);
  resolved = (arm, r.middle, r.after, r.tested, r.opened, r.scope, is);
  begins = refl;
  ends = r.ends;
}

pub arms_more : (at : Nesting) (line : ℕ) (s m n t : State) (before longer : List Arm) (arm : Arm) (word : ℕ) → ReadsArms at line s before m →
    Takes (WordKind ElseIf) word m n → ReadsArm at n arm t → longer ≡ before ++ arm ∷ [] → ReadsArms at line s longer t
unfolding print_exp levels IsValid Resolves
arms_more at line s m n t before longer arm word rs taken r is =
    let test : Resolves r.test m.scope (out-Arm arm).test r.middle = subst (λ z. Resolves r.test z (out-Arm arm).test r.middle) taken.scope r.tested in
    record {
      tree = tree.elseif_arm rs.tree word r.test r.then_at r.block;
      printed = rs.printed ∙ ap (print_arms rs.tree) (taken.printed ∙ ap (a_word ElseIf word) r.printed);
      valid = (rs.valid, r.valid_test, r.valid);
      deep = let d = rs.deep in let e = r.deep_test in let f = r.deep in omega (arith, d, e, f);
      resolved = (before, arm, m.scope, r.middle, r.after, rs.resolved, test, r.opened, r.scope, is);
      begins = rs.begins;
      ends = r.ends;
    }

pub if_read : (at : Nesting) (s a b t : State) (line ends : ℕ) (arms : List Arm) (otherwise : List Stmt) (out : Stmt) → Takes (WordKind If) line s a →
    ((l : ℕ) → ReadsArms at l a arms b) → Takes (WordKind EndWord) ends b t → otherwise ≡ [] → IsIf line arms otherwise out → ReadsStat at s out t
unfolding print_exp levels IsValid Resolves
if_read at s a b t line ends arms otherwise out taken reads close none is =
    let r = reads line in
    let given : ResolvesArms r.tree a.scope is.list.value.items b.scope = subst (λ l. ResolvesArms r.tree a.scope l b.scope) (sym is.same_list) r.resolved in
    let from : ResolvesArms r.tree s.scope is.list.value.items b.scope = subst (λ z. ResolvesArms r.tree z is.list.value.items b.scope) taken.scope given in
    record {
      tree = tree.if_then r.tree ends;
      printed = taken.printed ∙ (r.printed ∙ ap (print_arms r.tree) close.printed);
      valid = r.valid;
      deep = r.deep;
      resolved = (is.list, is.block, subst (λ z. ResolvesArms r.tree s.scope is.list.value.items z) (sym close.scope) from, is.same_block ∙ none, is.built ∙ ap (λ l. statement l (stmt.If is.list is.block)) (sym r.begins));
      stops = λ ends. absurd ends;
      ends = tt;
    }

pub if_else_read : (at : Nesting) (s a b c d t : State) (line word ends : ℕ) (arms : List Arm) (otherwise : List Stmt) (out : Stmt) →
    Takes (WordKind If) line s a → ((l : ℕ) → ReadsArms at l a arms b) → Takes (WordKind Else) word b c → ReadsScoped at c otherwise d →
    Takes (WordKind EndWord) ends d t → IsIf line arms otherwise out → ReadsStat at s out t
unfolding print_exp levels IsValid Resolves
if_else_read at s a b c d t line word ends arms otherwise out taken reads between rb close is =
    let r = reads line in
    let given : ResolvesArms r.tree a.scope is.list.value.items b.scope = subst (λ l. ResolvesArms r.tree a.scope l b.scope) (sym is.same_list) r.resolved in
    let from : ResolvesArms r.tree s.scope is.list.value.items b.scope = subst (λ z. ResolvesArms r.tree z is.list.value.items b.scope) taken.scope given in
    let to : ResolvesArms r.tree s.scope is.list.value.items c.scope = subst (λ z. ResolvesArms r.tree s.scope is.list.value.items z) (sym between.scope) from in
    record {
      tree = tree.if_else r.tree word rb.tree ends;
      printed = taken.printed ∙ (r.printed ∙ ap (print_arms r.tree) (between.printed ∙ ap (a_word Else word) (rb.printed ∙ ap (print_block rb.tree) close.printed)));
      valid = (r.valid, rb.valid);
      deep = let d = r.deep in let e = rb.deep in omega (arith, d, e);
      resolved = (is.list, is.block, c.scope, rb.after, to, subst (λ l. Opens rb.tree c.scope l rb.after) (sym is.same_block) rb.opened, close.scope ∙ rb.scope, is.built ∙ ap (λ l. statement l (stmt.If is.list is.block)) (sym r.begins));
      stops = λ ends. absurd ends;
      ends = tt;
    }

pub do_read : (at : Nesting) (s a b t : State) (line ends : ℕ) (body : List Stmt) (out : Stmt) → Takes (WordKind Do) line s a → ReadsScoped at a body b →
    Takes (WordKind EndWord) ends b t → IsDo line body out → ReadsStat at s out t
unfolding print_exp levels IsValid Resolves
do_read at s a b t line ends body out taken rb close is =
    let given : Opens rb.tree a.scope is.run.value.items rb.after = subst (λ l. Opens rb.tree a.scope l rb.after) (sym is.same_run) rb.opened in
    record {
      tree = tree.do_block line rb.tree ends;
      printed = taken.printed ∙ ap (a_word Do line) (rb.printed ∙ ap (print_block rb.tree) close.printed);
      valid = rb.valid;
      deep = rb.deep;
      resolved = (is.run, rb.after, subst (λ z. Opens rb.tree z is.run.value.items rb.after) taken.scope given, close.scope ∙ (rb.scope ∙ ap (λ z. leave z rb.after) taken.scope), is.built);
      stops = λ ends. absurd ends;
      ends = tt;
    }

pub while_read : (at inner : Nesting) (s a b c d t : State) (line word ends : ℕ) (e : Expr) (body : List Stmt) (out : Stmt) → Takes (WordKind While) line s a →
    ReadsValue at a e b → Takes (WordKind Do) word b c → IsLooped at inner → ReadsScoped inner c body d → Takes (WordKind EndWord) ends d t →
    IsWhile line e body out → ReadsStat at s out t
unfolding print_exp levels IsValid Resolves
while_read at inner s a b c d t line word ends e body out taken rv between loop rb close is =
    let test : Resolves rv.tree a.scope is.test_node.value b.scope = subst (λ x. Resolves rv.tree a.scope x b.scope) (sym is.same_test) rv.resolved in
    let from : Resolves rv.tree s.scope is.test_node.value b.scope = subst (λ z. Resolves rv.tree z is.test_node.value b.scope) taken.scope test in
    let inside = subst (λ l. IsValidBlock at.vararg l rb.tree) loop.in_loop (subst (λ vararg. IsValidBlock vararg inner.in_loop rb.tree) loop.vararg rb.valid) in
    record {
      tree = tree.while_loop line rv.tree word rb.tree ends;
      printed = taken.printed ∙ ap (a_word While line) (rv.printed ∙ ap (print_exp rv.tree) (between.printed ∙ ap (a_word Do word) (rb.printed ∙ ap (print_block rb.tree) close.printed)));
      valid = (rv.valid, inside);
      deep = let d = rv.deep in let e = rb.deep in let f = loop.depth in omega (arith, d, e, f);
      resolved = (is.test_node, is.run, c.scope, rb.after, subst (λ z. Resolves rv.tree s.scope is.test_node.value z) (sym between.scope) from, subst (λ l. Opens rb.tree c.scope l rb.after) (sym is.same_run) rb.opened, close.scope ∙ rb.scope, is.built);
      stops = λ ends. absurd ends;
      ends = tt;
    }

pub repeat_read : (at loop inner : Nesting) (s a b c d t : State) (line word : ℕ) (body : List Stmt) (e : Expr) (out : Stmt) → Takes (WordKind Repeat) line s a →
    IsLooped at loop → IsWithin loop inner → ReadsBlock inner a body b → Takes (WordKind Until) word b c → ReadsValue at c e d →
    Turns (leave a.scope d.scope) d t → IsRepeat line body e out → ReadsStat at s out t
unfolding print_exp levels IsValid Resolves
repeat_read at loop inner s a b c d t line word body e out taken looped part rb until rv turn is =
    let first : Opens rb.tree a.scope is.run.value.items b.scope = subst (λ l. Opens rb.tree a.scope l b.scope) (sym is.same_run) rb.resolved in
    let opened : Opens rb.tree s.scope is.run.value.items b.scope = subst (λ z. Opens rb.tree z is.run.value.items b.scope) taken.scope first in
    let test : Resolves rv.tree c.scope is.test_node.value d.scope = subst (λ x. Resolves rv.tree c.scope x d.scope) (sym is.same_test) rv.resolved in
    let from : Resolves rv.tree b.scope is.test_node.value d.scope = subst (λ z. Resolves rv.tree z is.test_node.value d.scope) until.scope test in
    let inside = subst (λ l. IsValidBlock at.vararg l rb.tree) (part.in_loop ∙ looped.in_loop) (subst (λ vararg. IsValidBlock vararg inner.in_loop rb.tree) (part.vararg ∙ looped.vararg) rb.valid) in
    record {
      tree = tree.repeat_loop line rb.tree word rv.tree;
      printed = taken.printed ∙ ap (a_word Repeat line) (rb.printed ∙ ap (print_block rb.tree) (until.printed ∙ ap (a_word Until word) (rv.printed ∙ ap (print_exp rv.tree) (sym turn.left))));
      valid = (inside, rv.valid);
      deep = let d = rv.deep in let e = rb.deep in let f = part.depth in let g = looped.depth in omega (arith, d, e, f, g);
      resolved = (is.test_node, is.run, b.scope, d.scope, opened, from, turn.scope ∙ ap (λ z. leave z d.scope) taken.scope, is.built);
      stops = λ ends. stops_still d t turn.left (rv.stops ends);
      ends = subst (λ left. EndsBefore rv.tree (a_kind (first_kind left) 1 []) × EndsAt 1 (first_kind left)) (sym turn.left) (rv.ends, rv.last);
    }
