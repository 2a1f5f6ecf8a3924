-- What is read of the parts is read of a loop with variables.
use Rattle.std.proofs.Common.{◌≡◌, ℕ, ◌+◌, List, [], ◌∷◌, ◌++◌, length, slice_get, Option, Some, None, option_map, refl, sym, ap, subst, arith, ◌∙◌, length-append}
use Rattle.lua_ast.specs.declared.expressions.Expr.{Expr}
use Rattle.lua_ast.specs.declared.statements.Stmt.{Stmt}
use Rattle.lua_ast.specs.declared.statements.StmtKind as stmt
use Rattle.lua_lexer.specs.declared.tokens.TokenKind.TheVariants.{Word as WordKind, Sign as SignKind}
use Rattle.lua_lexer.specs.declared.signs.Sign.TheVariants.{Assign, Comma}
use Rattle.lua_lexer.specs.declared.words.Word.TheVariants.{Do, End as EndWord, For, In}
use Rattle.lua_grammar.specs.Tree.{Bytes, NameList}
use Rattle.lua_grammar.specs.Tree as tree
use Rattle.lua_grammar.specs.Printing.{a_word, a_sign, a_name, print_exp, print_explist, print_block, print_names}
use Rattle.lua_grammar.specs.Levels.{levels}
use Rattle.lua_grammar.specs.Validity.{IsValid, IsValidBlock}
use Rattle.lua_grammar.specs.Scopes.{declare, in_scope, leave, slots_from}
use Rattle.lua_grammar.specs.Resolution.{Resolves, ResolvesList, Opens, ResolvesStat, Shared, statement, names_of}
use Rattle.lua_parser_base.specs.declared.nesting.Nesting.{Nesting}
use Rattle.lua_parser_base.specs.declared.statement_nodes.LoopBlock.{LoopBlock}
use Rattle.lua_parser_base.specs.States.{State, Takes}
use Rattle.lua_parser_base.specs.Nesting.{IsWithin, IsLooped}
use Rattle.lua_parser_base.specs.ReadsNames.{ReadsNames}
use Rattle.lua_parser_base.specs.ReadsStatements.{ReadsBlock, ReadsStat, ReadsValue, ReadsValues, ReadsLoop, ReadsStep, before_for}
use Rattle.lua_parser_base.specs.StatementNodes.{IsNumericFor, IsGenericFor, Begins}
use Rattle.lua_parser_base.proofs.Scoping.{Turns}

-- a statement that was read from a state with the same tokens and the same scope
pub stat_from : (at : Nesting) (s m t : State) (out : Stmt) → s.left ≡ m.left → m.scope ≡ s.scope → ReadsStat at m out t → ReadsStat at s out t
stat_from at s m t out left scope r = record {
  tree = r.tree;
  printed = left ∙ r.printed;
  valid = r.valid;
  deep = r.deep;
  resolved = subst (λ z. ResolvesStat r.tree z out t.scope) scope r.resolved;
  stops = r.stops;
  ends = r.ends;
}

pub loop_read : (at loop inner : Nesting) (s a b c d t : State) (line ends : ℕ) (names : List Bytes) (block : LoopBlock) → Takes (WordKind Do) line s a →
    Turns (declare names a.scope) a b → block.slots.items ≡ slots_from (in_scope a.scope) names → IsLooped at loop → IsWithin loop inner →
    ReadsBlock inner b block.body.items c → Turns (leave a.scope c.scope) c d → Takes (WordKind EndWord) ends d t → ReadsLoop at names s block t
loop_read at loop inner s a b c d t line ends names block taken declares slots looped part r turn close =
    let begun : b.scope ≡ declare names s.scope = declares.scope ∙ ap (declare names) taken.scope in
    record {
      do_at = line;
      tree = r.tree;
      end_at = ends;
      after = c.scope;
      printed = taken.printed ∙ ap (a_word Do line) (sym declares.left ∙ (r.printed ∙ ap (print_block r.tree) (sym turn.left ∙ close.printed)));
      valid = subst (λ l. IsValidBlock at.vararg l r.tree) (part.in_loop ∙ looped.in_loop) (subst (λ vararg. IsValidBlock vararg inner.in_loop r.tree) (part.vararg ∙ looped.vararg) r.valid);
      deep = let d = r.deep in let e = part.depth in let f = looped.depth in omega (arith, d, e, f);
      opened = subst (λ z. Opens r.tree z block.body.items c.scope) begun r.resolved;
      scope = close.scope ∙ (turn.scope ∙ ap (λ z. leave z c.scope) taken.scope);
      slots = slots ∙ ap (λ z. slots_from (in_scope z) names) taken.scope;
    }

pub begins_first : (xs : List ℕ) (n : ℕ) → slice_get xs 0 ≡ Some n → Begins n xs
begins_first [] n is = tt
begins_first (x ∷ xs) n is = cc

pub begins_none : (xs : List ℕ) (n : ℕ) → slice_get xs 0 ≡ None → Begins n xs
begins_none [] n is = tt
begins_none (x ∷ xs) n is = absurd (grind arith)

some_shared : (o : Option Shared) (e : Expr) → option_map (λ r. r.value) o ≡ Some e → (r : Shared) × (o ≡ Some r) × (r.value ≡ e)
some_shared (Some r) e is = (r, refl, cc)
some_shared None e is = cc

no_shared : (o : Option Shared) → option_map (λ r. r.value) o ≡ None → o ≡ None
no_shared (Some r) is = cc
no_shared None is = refl

pub two_names : (names : NameList) (n : Bytes) → length (names_of names ++ n ∷ []) ≡ 1 → ⊥
two_names (tree.first_name l x) n is = cc
two_names (tree.next_name names c l x) n is =
    let one : length ((names_of names ++ x ∷ []) ++ n ∷ []) ≡ length (names_of names ++ x ∷ []) + 1 = length-append (names_of names ++ x ∷ []) (n ∷ []) in
    let two : length (names_of names ++ x ∷ []) ≡ length (names_of names) + 1 = length-append (names_of names) (x ∷ []) in
    let three : length ((names_of names ++ x ∷ []) ++ n ∷ []) ≡ 1 = is in
    omega (arith, one, two, three)

range_one : (at : Nesting) (s a b c d f t : State) (line name_at equals comma : ℕ) (name : Bytes) (from to : Expr) (step : Option Expr) (block : LoopBlock) (out : Stmt) →
    Takes (SignKind Assign) equals s a → ReadsValue at a from b → Takes (SignKind Comma) comma b c → ReadsValue at c to d → ReadsStep at d step f →
    ReadsLoop at (name ∷ []) f block t → IsNumericFor line (record { from = from; to = to; step = step }) block out →
    ReadsStat at (before_for line (tree.first_name name_at name) s) out t
unfolding print_exp levels IsValid Resolves slots_from
range_one at s a b c d f t line name_at equals comma name from to (Some e) block out assign rf between rt (second, m, taken, re) rl is =
    let slot : is.slot ≡ in_scope f.scope = subst (Begins is.slot) rl.slots is.first in
    let step = some_shared is.step e is.same_step in
    let first : Resolves rf.tree a.scope is.from.value b.scope = subst (λ x. Resolves rf.tree a.scope x b.scope) (sym is.same_from) rf.resolved in
    let one : Resolves rf.tree s.scope is.from.value b.scope = subst (λ z. Resolves rf.tree z is.from.value b.scope) assign.scope first in
    let last : Resolves rt.tree c.scope is.to.value d.scope = subst (λ x. Resolves rt.tree c.scope x d.scope) (sym is.same_to) rt.resolved in
    let two : Resolves rt.tree b.scope is.to.value d.scope = subst (λ z. Resolves rt.tree z is.to.value d.scope) between.scope last in
    let more : Resolves re.tree m.scope step.0.value f.scope = subst (λ x. Resolves re.tree m.scope x f.scope) (sym step.2) re.resolved in
    let three : Resolves re.tree d.scope step.0.value f.scope = subst (λ z. Resolves re.tree z step.0.value f.scope) taken.scope more in
    let run : Opens rl.tree (declare (name ∷ []) f.scope) is.run.value.items rl.after = subst (λ l. Opens rl.tree (declare (name ∷ []) f.scope) l rl.after) (sym is.same_run) rl.opened in
    record {
      tree = tree.for_steps line name_at name equals rf.tree comma rt.tree second re.tree rl.do_at rl.tree rl.end_at;
      printed = ap (λ left. a_word For line (a_name name_at name left)) (assign.printed ∙ ap (a_sign Assign equals) (rf.printed ∙ ap (print_exp rf.tree) (between.printed ∙ ap (a_sign Comma comma)
          (rt.printed ∙ ap (print_exp rt.tree) (taken.printed ∙ ap (a_sign Comma second) (re.printed ∙ ap (print_exp re.tree) rl.printed))))));
      valid = (rf.valid, rt.valid, re.valid, rl.valid);
      deep = let x = rf.deep in let y = rt.deep in let z = re.deep in let w = rl.deep in omega (arith, x, y, z, w);
      resolved = (
        is.from,
        is.to,
        step.0,
        is.run,
        b.scope,
        d.scope,
        f.scope,
        rl.after,
        one,
        two,
        three,
        run,
        rl.scope,
        is.built ∙ (ap (λ k. statement line (stmt.NumericFor k is.from is.to is.step is.run)) slot ∙ ap (λ o. statement line (stmt.NumericFor (in_scope f.scope) is.from is.to o is.run)) step.1),
      );
      stops = λ ends. absurd ends;
      ends = tt;
    }
range_one at s a b c d f t line name_at equals comma name from to None block out assign rf between rt same rl is =
    let slot : is.slot ≡ in_scope f.scope = subst (Begins is.slot) rl.slots is.first in
    let step = no_shared is.step is.same_step in
    let first : Resolves rf.tree a.scope is.from.value b.scope = subst (λ x. Resolves rf.tree a.scope x b.scope) (sym is.same_from) rf.resolved in
    let one : Resolves rf.tree s.scope is.from.value b.scope = subst (λ z. Resolves rf.tree z is.from.value b.scope) assign.scope first in
    let last : Resolves rt.tree c.scope is.to.value d.scope = subst (λ x. Resolves rt.tree c.scope x d.scope) (sym is.same_to) rt.resolved in
    let near : Resolves rt.tree b.scope is.to.value d.scope = subst (λ z. Resolves rt.tree z is.to.value d.scope) between.scope last in
    let two : Resolves rt.tree b.scope is.to.value f.scope = subst (λ z. Resolves rt.tree b.scope is.to.value z.scope) (sym same) near in
    let run : Opens rl.tree (declare (name ∷ []) f.scope) is.run.value.items rl.after = subst (λ l. Opens rl.tree (declare (name ∷ []) f.scope) l rl.after) (sym is.same_run) rl.opened in
    record {
      tree = tree.for_range line name_at name equals rf.tree comma rt.tree rl.do_at rl.tree rl.end_at;
      printed = ap (λ left. a_word For line (a_name name_at name left)) (assign.printed ∙ ap (a_sign Assign equals) (rf.printed ∙ ap (print_exp rf.tree) (between.printed ∙ ap (a_sign Comma comma)
          (rt.printed ∙ ap (print_exp rt.tree) (ap (λ z. z.left) (sym same) ∙ rl.printed)))));
      valid = (rf.valid, rt.valid, rl.valid);
      deep = let x = rf.deep in let y = rt.deep in let w = rl.deep in omega (arith, x, y, w);
      resolved = (
        is.from,
        is.to,
        is.run,
        b.scope,
        f.scope,
        rl.after,
        one,
        two,
        run,
        rl.scope,
        is.built ∙ (ap (λ k. statement line (stmt.NumericFor k is.from is.to is.step is.run)) slot ∙ ap (λ o. statement line (stmt.NumericFor (in_scope f.scope) is.from is.to o is.run)) step),
      );
      stops = λ ends. absurd ends;
      ends = tt;
    }

pub range_read : (at : Nesting) (s a b c d f t : State) (line equals comma : ℕ) (names : List Bytes) (from to : Expr) (step : Option Expr) (block : LoopBlock) →
    length names ≡ 1 → Takes (SignKind Assign) equals s a → ReadsValue at a from b → Takes (SignKind Comma) comma b c → ReadsValue at c to d →
    ReadsStep at d step f → ReadsLoop at names f block t → (out : Stmt) → IsNumericFor line (record { from = from; to = to; step = step }) block out →
    (list : NameList) → names ≡ names_of list → ReadsStat at (before_for line list s) out t
range_read at s a b c d f t line equals comma names from to step block one assign rf between rt rs rl out is (tree.first_name l n) are =
    range_one at s a b c d f t line l equals comma n from to step block out assign rf between rt rs (subst (λ ns. ReadsLoop at ns f block t) are rl) is
range_read at s a b c d f t line equals comma names from to step block one assign rf between rt rs rl out is (tree.next_name others c' l n) are =
    absurd (two_names others n (ap length (sym are) ∙ one))

pub list_read : (at : Nesting) (s a b t : State) (line word : ℕ) (names : List Bytes) (es : List Expr) (block : LoopBlock) → Takes (WordKind In) word s a →
    ReadsValues at a es b → ReadsLoop at names b block t → (out : Stmt) → IsGenericFor line es block out → (list : NameList) → names ≡ names_of list →
    ReadsStat at (before_for line list s) out t
unfolding print_exp levels IsValid Resolves
list_read at s a b t line word names es block taken rv rl out is list are =
    let first : ResolvesList rv.tree a.scope is.given.value.items b.scope = subst (λ x. ResolvesList rv.tree a.scope x b.scope) (sym is.same_given) rv.resolved in
    let one : ResolvesList rv.tree s.scope is.given.value.items b.scope = subst (λ z. ResolvesList rv.tree z is.given.value.items b.scope) taken.scope first in
    let body : Opens rl.tree (declare names b.scope) is.run.value.items rl.after = subst (λ l. Opens rl.tree (declare names b.scope) l rl.after) (sym is.same_run) rl.opened in
    record {
      tree = tree.for_in line list word rv.tree rl.do_at rl.tree rl.end_at;
      printed = ap (λ left. a_word For line (print_names list left)) (taken.printed ∙ ap (a_word In word) (rv.printed ∙ ap (print_explist rv.tree) rl.printed));
      valid = (rv.valid, rl.valid);
      deep = let x = rv.deep in let w = rl.deep in omega (arith, x, w);
      resolved = (
        is.slots,
        is.given,
        is.run,
        b.scope,
        rl.after,
        one,
        is.same_slots ∙ (rl.slots ∙ ap (slots_from (in_scope b.scope)) are),
        subst (λ ns. Opens rl.tree (declare ns b.scope) is.run.value.items rl.after) are body,
        rl.scope,
        is.built,
      );
      stops = λ ends. absurd ends;
      ends = tt;
    }

pub for_read : (at : Nesting) (s a b t : State) (line : ℕ) (names : List Bytes) (out : Stmt) → Takes (WordKind For) line s a → ReadsNames [] a names b →
    ((list : NameList) → names ≡ names_of list → ReadsStat at (before_for line list b) out t) → ReadsStat at s out t
for_read at s a b t line names out taken r reads =
    stat_from at s (before_for line r.tree b) t out (taken.printed ∙ ap (a_word For line) r.printed) (r.scope ∙ taken.scope) (reads r.tree r.listed)
