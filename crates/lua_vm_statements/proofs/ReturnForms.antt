-- `return` by what it returns.
use Rattle.std.specs.Prelude.{◌≡◌, ℕ, ◌+◌, min, nat_lt, Bool, true, false, List, [], ◌∷◌, length, drop, MatchOption, Option, Some, None, Result, Ok, refl}
use Rattle.std.proofs.Common.{rules, sym, ◌∙◌, ap, arith, Vec, Global}
use Rattle.std.specs.Borrow.{Bor}
use Rattle.std.specs.declared.rc.Rc.{Rc}
use Rattle.lua_ast.specs.declared.expressions.Expr.{Expr}
use Rattle.lua_ast.specs.declared.expressions.ExprKind.{ExprKind, out-ExprKind}
use Rattle.lua_ast.specs.declared.expressions.ExprKind as kind
use Rattle.lua_ast.specs.declared.expressions.ExprKind.TheOpen.{ExprKind-F}
use Rattle.lua_ast.specs.declared.expressions.ExprKind.TheOpen as e
use Rattle.lua_ast.specs.declared.expressions.TableItem.{TableItem}
use Rattle.lua_ast.specs.declared.expressions.ExprKind.TheViews.{outs-Call, outs-Method}
use Rattle.lua_ast.specs.declared.expressions.ExprKind.TheVariants as v
use Rattle.lua_values.specs.Heap.{StoreView, step_limit}
use Rattle.lua_meaning.specs.Works.{Places, Slots, AValue, Eval, Count, and_then}
use Rattle.lua_meaning.specs.Setting.{Setting}
use Rattle.lua_meaning.specs.Signs.{value, values_of}
use Rattle.lua_meaning.specs.Statements.{tail_work, return_one, return_work}
use Rattle.lua_frames.specs.declared.flow.Flow.{Flow}
use Rattle.lua_frames.specs.declared.flow.Flow.TheVariants as flow
use Rattle.lua_frames.specs.declared.threads.Frames.{Frames}
use Rattle.lua_frames.specs.Frames.{here, slots_of}
use Rattle.lua_frames.specs.Follows.{Works}
use Rattle.lua_frames.proofs.FollowLemmas.{works_as, works_by, spends, count_goes, count_spent}
use Rattle.lua_frames.specs.declared.items.Item.TheVariants as i
use Rattle.lua_frames.specs.Items.{resume_item}
use Rattle.lua_vm_statements.specs.Returns.{tail_begins, tail_method_begins}

-- a call alone
pub tail_form : (S : Setting) (xs : List Expr) (x : Expr) (f : Rc Expr Global) (args : Rc (Vec Expr Global) Global) (p : Places) (s : Slots) → xs ≡ x ∷ [] → x.kind ≡ v.Call f args
    → return_work S xs p s ≡ tail_begins x.line f.value args.value.items p s
tail_form S xs x f args p s one is = ap (λ (ys : List Expr). return_work S ys p s) one ∙ rw (is, outs-Call f args) refl

-- a kind is what it is opened to, closed again
closed : (k : ExprKind) → kind.roll-ExprKind (out-ExprKind k) ≡ k
closed k = search (rules, kind.the_lemmas)

-- any other expression alone
plain_open : (S : Setting) (x : Expr) (o : ExprKind-F ExprKind TableItem Expr) (p : Places) (s : Slots)
    → ((f : Rc Expr Global) (args : Rc (Vec Expr Global) Global) → o ≡ e.Call f args → ⊥) → ((a : Rc Expr Global) (name : List ℕ) (args : Rc (Vec Expr Global) Global) → o ≡ e.Method a name args → ⊥)
    → return_one S x o p s ≡ and_then (values_of (x ∷ []) p s) (resume_item S i.Return p)
plain_open S x e.Nil p s h g = refl
plain_open S x e.True p s h g = refl
plain_open S x e.False p s h g = refl
plain_open S x (e.Number n) p s h g = refl
plain_open S x (e.Text t) p s h g = refl
plain_open S x e.Vararg p s h g = refl
plain_open S x (e.Function n) p s h g = refl
plain_open S x (e.Slot n) p s h g = refl
plain_open S x (e.Captured n) p s h g = refl
plain_open S x (e.Global name) p s h g = refl
plain_open S x (e.Index a b) p s h g = refl
plain_open S x (e.Call f args) p s h g = absurd (h f args refl)
plain_open S x (e.Method a name args) p s h g = absurd (g a name args refl)
plain_open S x (e.Unary o a) p s h g = refl
plain_open S x (e.Binary o a b) p s h g = refl
plain_open S x (e.And a b) p s h g = refl
plain_open S x (e.Or a b) p s h g = refl
plain_open S x (e.Paren a) p s h g = refl
plain_open S x (e.Table items) p s h g = refl

plain_one : (S : Setting) (x : Expr) (k : ExprKind) (p : Places) (s : Slots)
    → ((f : Rc Expr Global) (args : Rc (Vec Expr Global) Global) → k ≡ v.Call f args → ⊥) → ((a : Rc Expr Global) (name : List ℕ) (args : Rc (Vec Expr Global) Global) → k ≡ v.Method a name args → ⊥)
    → return_one S x (out-ExprKind k) p s ≡ and_then (values_of (x ∷ []) p s) (resume_item S i.Return p)
plain_one S x k p s h g =
    plain_open S x (out-ExprKind k) p s (λ f args q. h f args (sym (closed k) ∙ ap kind.roll-ExprKind q ∙ v.rolls-Call f args))
    (λ a name args q. g a name args (sym (closed k) ∙ ap kind.roll-ExprKind q ∙ v.rolls-Method a name args))

pub plain_form : (S : Setting) (xs : List Expr) (x : Expr) (p : Places) (s : Slots) → xs ≡ x ∷ [] → ((f : Rc Expr Global) (args : Rc (Vec Expr Global) Global) → x.kind ≡ v.Call f args → ⊥) → ((a : Rc Expr Global) (name : List ℕ) (args : Rc (Vec Expr Global) Global) → x.kind ≡ v.Method a name args → ⊥)
    → return_work S xs p s ≡ and_then (values_of xs p s) (resume_item S i.Return p)
plain_form S xs x p s one h g =
    ap (λ (ys : List Expr). return_work S ys p s) one ∙ plain_one S x x.kind p s h g ∙ ap (λ (ys : List Expr). and_then (values_of ys p s) (resume_item S i.Return p)) (sym one)

-- none, or more than one
pub many_form : (S : Setting) (xs : List Expr) (p : Places) (s : Slots) → (length xs ≡ 1 → ⊥) → return_work S xs p s ≡ and_then (values_of xs p s) (resume_item S i.Return p)
many_form S [] p s h = refl
many_form S (x ∷ []) p s h = absurd (h refl)
many_form S (x ∷ y ∷ xs) p s h = refl

-- the first of a list of one is all of it
pub only_found : (xs : List Expr) (r : Option (Bor Expr)) → length xs ≡ 1 → MatchOption r (drop 0 xs ≡ []) (λ x. drop 0 xs ≡ x.now ∷ drop (0 + 1) xs)
    → MatchOption r (length xs ≡ 1 → ⊥) (λ x. xs ≡ x.now ∷ [])
only_found [] r one h = absurd (omega (arith, one))
only_found (y ∷ []) None one h = absurd (cc)
only_found (y ∷ []) (Some x) one h = h
only_found (y ∷ z ∷ xs) r one h = absurd (omega (arith, one))

-- a tail call counts its step, and its function is evaluated
tail_counts : (S : Setting) (line : ℕ) (f : Expr) (args copy : Rc (Vec Expr Global) Global) (p : Places) (s : Slots) → copy.value ≡ args.value
    → tail_begins line f args.value.items p s ≡ Count 1 (Eval (AValue f) p s (resume_item S (i.TailCallee line copy) p))
tail_counts S line f args copy p s h = rw h refl

pub tail_goes : {E : Type 0} (S : Setting) (line : ℕ) (f : Expr) (args copy : Rc (Vec Expr Global) Global) (old new : Frames) (before counted store : StoreView) (below : Bool) (r : Result Flow E)
    → copy.value ≡ args.value → counted ≡ record { heap = before.heap; steps = min step_limit (before.steps + 1) } → below ≡ nat_lt (before.steps + 1) step_limit → below ≡ true
    → Works S (Eval (AValue f) (here old) (slots_of old) (resume_item S (i.TailCallee line copy) (here old))) old counted new store r
    → Works S (tail_begins line f args.value.items (here old) (slots_of old)) old before new store r
tail_goes S line f args copy old new before counted store below r h is steps holds w =
    works_as S (tail_begins line f args.value.items (here old) (slots_of old)) (Count 1 (Eval (AValue f) (here old) (slots_of old) (resume_item S (i.TailCallee line copy) (here old)))) old new before store r
    (works_by S (Count 1 (Eval (AValue f) (here old) (slots_of old) (resume_item S (i.TailCallee line copy) (here old)))) (Eval (AValue f) (here old) (slots_of old) (resume_item S (i.TailCallee line copy) (here old))) old new before counted store r
    (count_goes S 1 (Eval (AValue f) (here old) (slots_of old) (resume_item S (i.TailCallee line copy) (here old))) before counted below is steps holds) w)
    (tail_counts S line f args copy (here old) (slots_of old) h)

pub tail_spent : {E : Type 0} (S : Setting) (line : ℕ) (f : Expr) (args : List Expr) (old new : Frames) (before store : StoreView) (below : Bool)
    → below ≡ nat_lt (before.steps + 1) step_limit → below ≡ false → Works {E = E} S (tail_begins line f args (here old) (slots_of old)) old before new store (Ok flow.Spent)
tail_spent S line f args old new before store below steps fails =
    spends S (tail_begins line f args (here old) (slots_of old)) old new before store (count_spent S 1 (value f (here old) (slots_of old) (λ v s'. tail_work line v [] args (here old) s')) before below steps fails)

-- a call of a method alone
pub tail_method_form : (S : Setting) (xs : List Expr) (x : Expr) (a : Rc Expr Global) (name : List ℕ) (args : Rc (Vec Expr Global) Global) (p : Places) (s : Slots) → xs ≡ x ∷ [] → x.kind ≡ v.Method a name args
    → return_work S xs p s ≡ tail_method_begins S x.line a.value name args.value.items p s
tail_method_form S xs x a name args p s one is = ap (λ (ys : List Expr). return_work S ys p s) one ∙ rw (is, outs-Method a name args) refl

-- it counts its step, and its object is evaluated
method_counts : (S : Setting) (line : ℕ) (object : Expr) (name other : List ℕ) (args copy : Rc (Vec Expr Global) Global) (p : Places) (s : Slots) → other ≡ name → copy.value ≡ args.value
    → tail_method_begins S line object name args.value.items p s ≡ Count 1 (Eval (AValue object) p s (resume_item S (i.TailMethod line other copy) p))
method_counts S line object name other args copy p s e h = rw (e, h) refl

pub tail_method_goes : {E : Type 0} (S : Setting) (line : ℕ) (object x : Expr) (name other : List ℕ) (args copy : Rc (Vec Expr Global) Global) (old new : Frames) (before counted store : StoreView) (below : Bool) (r : Result Flow E)
    → x ≡ object → other ≡ name → copy.value ≡ args.value → counted ≡ record { heap = before.heap; steps = min step_limit (before.steps + 1) } → below ≡ nat_lt (before.steps + 1) step_limit → below ≡ true
    → Works S (Eval (AValue x) (here old) (slots_of old) (resume_item S (i.TailMethod line other copy) (here old))) old counted new store r
    → Works S (tail_method_begins S line object name args.value.items (here old) (slots_of old)) old before new store r
tail_method_goes S line object x name other args copy old new before counted store below r same e h is steps holds w =
    works_as S (tail_method_begins S line object name args.value.items (here old) (slots_of old)) (Count 1 (Eval (AValue x) (here old) (slots_of old) (resume_item S (i.TailMethod line other copy) (here old)))) old new before store r
    (works_by S (Count 1 (Eval (AValue x) (here old) (slots_of old) (resume_item S (i.TailMethod line other copy) (here old)))) (Eval (AValue x) (here old) (slots_of old) (resume_item S (i.TailMethod line other copy) (here old))) old new before counted store r
    (count_goes S 1 (Eval (AValue x) (here old) (slots_of old) (resume_item S (i.TailMethod line other copy) (here old))) before counted below is steps holds) w)
    (method_counts S line object name other args copy (here old) (slots_of old) e h
    ∙ ap (λ (y : Expr). Count 1 (Eval (AValue y) (here old) (slots_of old) (resume_item S (i.TailMethod line other copy) (here old)))) (sym same))

pub tail_method_spent : {E : Type 0} (S : Setting) (line : ℕ) (object : Expr) (name : List ℕ) (args : Rc (Vec Expr Global) Global) (old new : Frames) (before store : StoreView) (below : Bool)
    → below ≡ nat_lt (before.steps + 1) step_limit → below ≡ false → Works {E = E} S (tail_method_begins S line object name args.value.items (here old) (slots_of old)) old before new store (Ok flow.Spent)
tail_method_spent S line object name args old new before store below steps fails =
    spends S (tail_method_begins S line object name args.value.items (here old) (slots_of old)) old new before store
    (count_spent S 1 (Eval (AValue object) (here old) (slots_of old) (resume_item S (i.TailMethod line name args) (here old))) before below steps fails)
