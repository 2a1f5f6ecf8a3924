-- Programs that are the same mention the same, so their functions require the same names.
use Rattle.std.proofs.Common.{◌≡◌, ℕ, suc, List, [], ◌∷◌, ◌++◌, Option, Some, None, flat_map, slice_get, unwrap_or, refl, sym, ap, ap₂, ◌∙◌}
use Rattle.std.specs.List.{AllZip}
use Rattle.std.specs.Global.{Global}
use Rattle.std.specs.declared.rc.Rc.{Rc}
use Rattle.lua_ast.specs.declared.expressions.Expr.{Expr}
use Rattle.lua_ast.specs.declared.expressions.ExprKind.{ExprKind}
use Rattle.lua_ast.specs.declared.expressions.ExprKind as kind
use Rattle.lua_ast.specs.declared.expressions.TableItem.{TableItem}
use Rattle.lua_ast.specs.declared.expressions.TableItem as item
use Rattle.lua_ast.specs.declared.statements.Stmt.{Stmt}
use Rattle.lua_ast.specs.declared.statements.StmtKind.{StmtKind}
use Rattle.lua_ast.specs.declared.statements.StmtKind as stmt
use Rattle.lua_ast.specs.declared.statements.Arm.{Arm}
use Rattle.lua_ast.specs.declared.statements.Arm as arm
use Rattle.lua_ast.specs.declared.programs.Function.{Function}
use Rattle.lua_ast.specs.declared.programs.Program.{Program}
use Rattle.lua_ast.specs.SameProgram.{SameKind, SameRow, SameItems, SameItem, SameExpr, SameStep, SameStmtKind, SameBlock, SameArms, SameArm, SameStmt, SameFunction, SameProgram}
use Rattle.lua_linking.specs.Mentions.{module_of, row_head, kind_mentions, row_mentions, items_mentions, mentions_in_item, mentions_in, mentions_in_step, stmt_mentions, block_mentions, arms_mentions, mentions_in_arm, mentions_in_stmt}
use Rattle.lua_linking.specs.Names.{Names, named_by, with_names, names_in_each}
use Rattle.site_same_laws.specs.Programs.{HaveSameNames}

-- ---- what a call names by its function and its first argument

-- the text of a literal, and the name of a global
text_of : ExprKind → Option (List ℕ)
text_of (kind.Text text) = Some text
text_of k = None

global_of : ExprKind → Option (List ℕ)
global_of (kind.Global name) = Some name
global_of k = None

text_same : (k j : ExprKind) → SameKind k j → text_of k ≡ text_of j
unfolding SameKind text_of
text_same (kind.Index' p l k q m j) (kind.Index' p' l' k' q' m' j') h = refl
text_same (kind.Call' p l k q shape row) (kind.Call' p' l' k' q' shape' row') h = refl
text_same (kind.Method' p l k name q shape row) (kind.Method' p' l' k' name' q' shape' row') h = refl
text_same (kind.Unary' op p l k) (kind.Unary' op' p' l' k') h = refl
text_same (kind.Binary' op p l k q m j) (kind.Binary' op' p' l' k' q' m' j') h = refl
text_same (kind.And' p l k q m j) (kind.And' p' l' k' q' m' j') h = refl
text_same (kind.Or' p l k q m j) (kind.Or' p' l' k' q' m' j') h = refl
text_same (kind.Paren' p l k) (kind.Paren' p' l' k') h = refl
text_same (kind.Table' q shape row) (kind.Table' q' shape' row') h = refl
text_same k j h = ap text_of h

global_same : (k j : ExprKind) → SameKind k j → global_of k ≡ global_of j
unfolding SameKind global_of
global_same (kind.Index' p l k q m j) (kind.Index' p' l' k' q' m' j') h = refl
global_same (kind.Call' p l k q shape row) (kind.Call' p' l' k' q' shape' row') h = refl
global_same (kind.Method' p l k name q shape row) (kind.Method' p' l' k' name' q' shape' row') h = refl
global_same (kind.Unary' op p l k) (kind.Unary' op' p' l' k') h = refl
global_same (kind.Binary' op p l k q m j) (kind.Binary' op' p' l' k' q' m' j') h = refl
global_same (kind.And' p l k q m j) (kind.And' p' l' k' q' m' j') h = refl
global_same (kind.Or' p l k q m j) (kind.Or' p' l' k' q' m' j') h = refl
global_same (kind.Paren' p l k) (kind.Paren' p' l' k') h = refl
global_same (kind.Table' q shape row) (kind.Table' q' shape' row') h = refl
global_same k j h = ap global_of h

head_text : Option ExprKind → Option (List ℕ)
head_text None = None
head_text (Some k) = text_of k

-- an expression that names as much, and an argument
global_again : Option (List ℕ) → ExprKind
global_again None = kind.Nil
global_again (Some name) = kind.Global name

text_again : Option (List ℕ) → Option ExprKind
text_again None = None
text_again (Some text) = Some (kind.Text text)

by_head : (name : List ℕ) (v : Option ExprKind) → module_of (kind.Global name) v ≡ module_of (kind.Global name) (text_again (head_text v))
unfolding text_of head_text text_again
by_head name None = refl
by_head name (Some (kind.Text text)) = refl
by_head name (Some k) = refl

by_texts : (k : ExprKind) (v : Option ExprKind) → module_of k v ≡ module_of (global_again (global_of k)) (text_again (head_text v))
unfolding global_of global_again
by_texts (kind.Global name) v = by_head name v
by_texts k v = refl

module_same : {n m : _} (k j : ExprKind) (row : kind.Row_of-Expr n) (row' : kind.Row_of-Expr m) → SameKind k j → SameRow row row' → module_of k (row_head row) ≡ module_of j (row_head row')
unfolding SameKind head_text
module_same k j kind.end_of-Expr kind.end_of-Expr h g = by_texts k None ∙ ap (λ o. module_of (global_again o) (text_again (head_text None))) (global_same k j h) ∙ sym (by_texts j None)
module_same k j kind.end_of-Expr (kind.more_of-Expr l' i' row') h g = absurd g
module_same k j (kind.more_of-Expr l i row) kind.end_of-Expr h g = absurd g
module_same k j (kind.more_of-Expr l i row) (kind.more_of-Expr l' i' row') h g =
    by_texts k (Some i) ∙ ap₂ (λ o w. module_of (global_again o) (text_again w)) (global_same k j h) (text_same i i' g.1) ∙ sym (by_texts j (Some i'))

-- ---- what expressions mention

mutual
  unfolding SameKind

  kind_same : (k j : ExprKind) → SameKind k j → kind_mentions k ≡ kind_mentions j
  kind_same (kind.Index' p l k q m j) (kind.Index' p' l' k' q' m' j') h = ap₂ (λ xs ys. xs ++ ys) (kind_same k k' h.1) (kind_same j j' h.3)
  kind_same (kind.Call' p l k q shape row) (kind.Call' p' l' k' q' shape' row') h =
      ap₂ (λ xs ys. xs ++ ys) (module_same k k' row row' h.1 h.2) (ap₂ (λ xs ys. xs ++ ys) (kind_same k k' h.1) (row_same row row' h.2))
  kind_same (kind.Method' p l k name q shape row) (kind.Method' p' l' k' name' q' shape' row') h = ap₂ (λ xs ys. xs ++ ys) (kind_same k k' h.1) (row_same row row' h.3)
  kind_same (kind.Unary' op p l k) (kind.Unary' op' p' l' k') h = kind_same k k' h.2
  kind_same (kind.Binary' op p l k q m j) (kind.Binary' op' p' l' k' q' m' j') h = ap₂ (λ xs ys. xs ++ ys) (kind_same k k' h.2) (kind_same j j' h.4)
  kind_same (kind.And' p l k q m j) (kind.And' p' l' k' q' m' j') h = ap₂ (λ xs ys. xs ++ ys) (kind_same k k' h.1) (kind_same j j' h.3)
  kind_same (kind.Or' p l k q m j) (kind.Or' p' l' k' q' m' j') h = ap₂ (λ xs ys. xs ++ ys) (kind_same k k' h.1) (kind_same j j' h.3)
  kind_same (kind.Paren' p l k) (kind.Paren' p' l' k') h = kind_same k k' h.1
  kind_same (kind.Table' q shape row) (kind.Table' q' shape' row') h = items_same row row' h
  kind_same k j h = ap kind_mentions h

  row_same : {n m : _} (row : kind.Row_of-Expr n) (row' : kind.Row_of-Expr m) → SameRow row row' → row_mentions row ≡ row_mentions row'
  row_same kind.end_of-Expr kind.end_of-Expr h = refl
  row_same kind.end_of-Expr (kind.more_of-Expr l' k' row') h = absurd h
  row_same (kind.more_of-Expr l k row) kind.end_of-Expr h = absurd h
  row_same (kind.more_of-Expr l k row) (kind.more_of-Expr l' k' row') h = ap₂ (λ xs ys. xs ++ ys) (kind_same k k' h.1) (row_same row row' h.2)

  items_same : {n m : _} (row : kind.Row_of-TableItem n) (row' : kind.Row_of-TableItem m) → SameItems row row' → items_mentions row ≡ items_mentions row'
  items_same kind.end_of-TableItem kind.end_of-TableItem h = refl
  items_same kind.end_of-TableItem (kind.more_of-TableItem i' row') h = absurd h
  items_same (kind.more_of-TableItem i row) kind.end_of-TableItem h = absurd h
  items_same (kind.more_of-TableItem i row) (kind.more_of-TableItem i' row') h = ap₂ (λ xs ys. xs ++ ys) (item_same i i' h.0) (items_same row row' h.1)

  item_same : (i j : TableItem) → SameItem i j → mentions_in_item i ≡ mentions_in_item j
  item_same (item.Item' l k) (item.Item' l' k') h = kind_same k k' h.1
  item_same (item.Item' l k) (item.Pair' l' k' m' j') h = absurd h
  item_same (item.Pair' l k m j) (item.Item' l' k') h = absurd h
  item_same (item.Pair' l k m j) (item.Pair' l' k' m' j') h = ap₂ (λ xs ys. xs ++ ys) (kind_same k k' h.1) (kind_same j j' h.3)

-- what the same things mention one by one is the same
mentions_zip : {X M : Type 0} (S : X → X → Type 0) (f : X → List M) → ((x y : X) → S x y → f x ≡ f y) → (xs ys : List X) → AllZip S xs ys → flat_map f xs ≡ flat_map f ys
mentions_zip S f each [] [] h = refl
mentions_zip S f each [] (y ∷ ys) h = absurd h
mentions_zip S f each (x ∷ xs) [] h = absurd h
mentions_zip S f each (x ∷ xs) (y ∷ ys) h = ap₂ (λ us vs. us ++ vs) (each x y h.0) (mentions_zip S f each xs ys h.1)

expr_same : (x y : Expr) → SameExpr x y → mentions_in x ≡ mentions_in y
expr_same x y h = kind_same x.kind y.kind h.1

exprs_same : (xs ys : List Expr) → AllZip SameExpr xs ys → flat_map mentions_in xs ≡ flat_map mentions_in ys
exprs_same = mentions_zip SameExpr mentions_in expr_same

step_same : (o o' : Option (Rc Expr Global)) → SameStep o o' → mentions_in_step o ≡ mentions_in_step o'
step_same None None h = refl
step_same None (Some y) h = absurd h
step_same (Some x) None h = absurd h
step_same (Some x) (Some y) h = expr_same x.value y.value h

-- ---- what statements mention

mutual
  unfolding SameStmtKind

  stmt_same : (k j : StmtKind) → SameStmtKind k j → stmt_mentions k ≡ stmt_mentions j
  stmt_same (stmt.Local slots values) (stmt.Local slots' values') h = exprs_same values.value.items values'.value.items h.1
  stmt_same (stmt.LocalFunction i n) (stmt.LocalFunction i' n') h = ap (λ z. stmt_mentions (stmt.LocalFunction i z)) h.1
  stmt_same (stmt.Assign targets values) (stmt.Assign targets' values') h =
      ap₂ (λ xs ys. xs ++ ys) (exprs_same targets.value.items targets'.value.items h.0) (exprs_same values.value.items values'.value.items h.1)
  stmt_same (stmt.Call x) (stmt.Call y) h = expr_same x y h
  stmt_same (stmt.Do' p shape row) (stmt.Do' p' shape' row') h = block_same row row' h
  stmt_same (stmt.While' test p shape row) (stmt.While' test' p' shape' row') h = ap₂ (λ xs ys. xs ++ ys) (expr_same test.value test'.value h.0) (block_same row row' h.1)
  stmt_same (stmt.Repeat' p shape row test) (stmt.Repeat' p' shape' row' test') h = ap₂ (λ xs ys. xs ++ ys) (block_same row row' h.0) (expr_same test.value test'.value h.1)
  stmt_same (stmt.If' p shape arms q form row) (stmt.If' p' shape' arms' q' form' row') h = ap₂ (λ xs ys. xs ++ ys) (arms_same arms arms' h.0) (block_same row row' h.1)
  stmt_same (stmt.NumericFor' i from to step p shape row) (stmt.NumericFor' i' from' to' step' p' shape' row') h =
      ap₂ (λ xs ys. xs ++ ys) (ap₂ (λ xs ys. xs ++ ys) (expr_same from.value from'.value h.1) (ap₂ (λ xs ys. xs ++ ys) (expr_same to.value to'.value h.2) (step_same step step' h.3)))
      (block_same row row' h.4)
  stmt_same (stmt.GenericFor' slots values p shape row) (stmt.GenericFor' slots' values' p' shape' row') h =
      ap₂ (λ xs ys. xs ++ ys) (exprs_same values.value.items values'.value.items h.1) (block_same row row' h.2)
  stmt_same (stmt.Return values) (stmt.Return values') h = exprs_same values.value.items values'.value.items h
  stmt_same stmt.Break stmt.Break h = refl
  stmt_same k j h = absurd h

  block_same : {n m : _} (row : stmt.Row_of-Stmt n) (row' : stmt.Row_of-Stmt m) → SameBlock row row' → block_mentions row ≡ block_mentions row'
  block_same stmt.end_of-Stmt stmt.end_of-Stmt h = refl
  block_same stmt.end_of-Stmt (stmt.more_of-Stmt l' k' row') h = absurd h
  block_same (stmt.more_of-Stmt l k row) stmt.end_of-Stmt h = absurd h
  block_same (stmt.more_of-Stmt l k row) (stmt.more_of-Stmt l' k' row') h = ap₂ (λ xs ys. xs ++ ys) (stmt_same k k' h.1) (block_same row row' h.2)

  arms_same : {n m : _} (row : stmt.Row_of-Arm n) (row' : stmt.Row_of-Arm m) → SameArms row row' → arms_mentions row ≡ arms_mentions row'
  arms_same stmt.end_of-Arm stmt.end_of-Arm h = refl
  arms_same stmt.end_of-Arm (stmt.more_of-Arm a' row') h = absurd h
  arms_same (stmt.more_of-Arm a row) stmt.end_of-Arm h = absurd h
  arms_same (stmt.more_of-Arm a row) (stmt.more_of-Arm a' row') h = ap₂ (λ xs ys. xs ++ ys) (arm_same a a' h.0) (arms_same row row' h.1)

  arm_same : (a b : Arm) → SameArm a b → mentions_in_arm a ≡ mentions_in_arm b
  arm_same (arm.Arm' test p shape row) (arm.Arm' test' p' shape' row') h = ap₂ (λ xs ys. xs ++ ys) (expr_same test test' h.0) (block_same row row' h.1)

-- ---- the names in functions

body_same : (ss rs : List Stmt) → AllZip SameStmt ss rs → flat_map mentions_in_stmt ss ≡ flat_map mentions_in_stmt rs
body_same = mentions_zip SameStmt mentions_in_stmt (λ s r h. stmt_same s.kind r.kind h.1)

each_same : (fs gs : List Function) (n : ℕ) → AllZip SameFunction fs gs → names_in_each n fs ≡ names_in_each n gs
each_same [] [] n h = refl
each_same [] (g ∷ gs) n h = absurd h
each_same (f ∷ fs) [] n h = absurd h
each_same (f ∷ fs) (g ∷ gs) n h =
    ap (with_names n f) (each_same fs gs (suc n) h.1)
    ∙ ap (λ mentions. flat_map (named_by (suc n) (names_in_each (suc n) gs)) mentions ∷ names_in_each (suc n) gs) (body_same f.body.value.items g.body.value.items h.0.body)

pub same_names : (p q : Program) → SameProgram p q → HaveSameNames p q
same_names p q same n = ap (λ (known : List Names). unwrap_or (slice_get known n) []) (each_same p.functions.items q.functions.items 0 same.functions)
