-- The work of indexes, assignments at keys and table constructors that goes on asks nothing of the outside before it evaluates a node.
use Rattle.std.specs.Prelude.{ℕ, ◌+◌, List, [], ◌∷◌, ◌++◌, drop, map}
use Rattle.lua_ast.specs.declared.expressions.Expr.{Expr}
use Rattle.lua_ast.specs.declared.expressions.ExprKind.{ExprKind, out-ExprKind}
use Rattle.lua_ast.specs.declared.expressions.ExprKind.TheOpen.{ExprKind-F}
use Rattle.lua_ast.specs.declared.expressions.ExprKind.TheOpen as e
use Rattle.lua_ast.specs.declared.expressions.TableItem.{TableItem}
use Rattle.lua_ast.specs.declared.expressions.TableItem as item
use Rattle.lua_values.specs.declared.values.Value.{Value}
use Rattle.lua_values.specs.declared.values.Value.TheVariants.{Text, Table}
use Rattle.lua_values.specs.Values.{number}
use Rattle.lua_values.specs.StoreCalls.{set_cause, with_pair}
use Rattle.lua_meaning.specs.Works.{Caller, Places, Slots, Sign, Work, Write, and_then}
use Rattle.lua_meaning.specs.Setting.{Setting}
use Rattle.lua_meaning.specs.Positions.{callers_at}
use Rattle.lua_meaning.specs.Signs.{first, give_one, on_values, values_of}
use Rattle.lua_meaning.specs.Variables.{table_fault}
use Rattle.lua_meaning.specs.Indexing.{index_work, set_work}
use Rattle.lua_meaning.specs.Calls.{call}
use Rattle.lua_meaning.specs.Expressions.{method_work}
use Rattle.lua_meaning.specs.Statements.{tail_work}
use Rattle.lua_meaning.specs.Tables.{fill, items_work}
use Rattle.lua_meaning.specs.Assignments.{Target, InSlot, InCapture, AtKey, Nowhere, target_of, targets_of}
use Rattle.lua_frames.specs.declared.targets.Assignment.{Assignment}
use Rattle.lua_frames.specs.declared.targets.Constructor.{Constructor}
use Rattle.lua_frames.specs.Items.{on_value, assign_values, with_targets, targets_left, found_at, items_left, value_at_key}
use Rattle.lua_frames.specs.Items as items
use Rattle.lua_threads.proofs.StepsRise.{IsQuiet}
use Rattle.lua_threads.proofs.QuietWorks.{then-quiet, on-quiet, refused-quiet, index-quiet, assigned-quiet, values-quiet, tail-quiet}

method-quiet : (line : ℕ) (f object : Value) (args : List Expr) (p : Places) (s : Slots) → IsQuiet (method_work line f object args p s)
method-quiet line f object args p s =
    then-quiet (values_of args p s) (on_values (λ vs s'. call (callers_at p line) f (object ∷ vs) s')) (values-quiet args p s)
    (λ sign s'. on-quiet (λ vs s''. call (callers_at p line) f (object ∷ vs) s'') sign s' (λ vs s''. tt))

-- a method of an object, and then what is called with it
looked-quiet : (S : Setting) (line : ℕ) (object : Value) (name : List ℕ) (p : Places) (s : Slots) (go : Value → Slots → Work) → ((f : Value) (s' : Slots) → IsQuiet (go f s')) → IsQuiet (and_then (index_work S line object (Text name) p s) (on_value go))
looked-quiet S line object name p s go u =
    then-quiet (index_work S line object (Text name) p s) (on_value go) (index-quiet S line object (Text name) p s) (λ sign s'. on-quiet (λ vs s''. go (first vs) s'') sign s' (λ vs s''. u (first vs) s''))

pub named-quiet : (S : Setting) (line : ℕ) (object : Value) (name : List ℕ) (args : List Expr) (p : Places) (s : Slots) → IsQuiet (and_then (index_work S line object (Text name) p s) (on_value (λ f s'. method_work line f object args p s')))
named-quiet S line object name args p s = looked-quiet S line object name p s (λ f s'. method_work line f object args p s') (λ f s'. method-quiet line f object args p s')

pub callee-quiet : (line : ℕ) (object : Value) (args : List Expr) (p : Places) (sign : Sign) (s : Slots) → IsQuiet (on_value (λ f s'. method_work line f object args p s') sign s)
callee-quiet line object args p sign s = on-quiet (λ vs s'. method_work line (first vs) object args p s') sign s (λ vs s'. method-quiet line (first vs) object args p s')

pub tail-named-quiet : (S : Setting) (line : ℕ) (object : Value) (name : List ℕ) (args : List Expr) (p : Places) (s : Slots) → IsQuiet (and_then (index_work S line object (Text name) p s) (on_value (λ f s'. tail_work line f (object ∷ []) args p s')))
tail-named-quiet S line object name args p s = looked-quiet S line object name p s (λ f s'. tail_work line f (object ∷ []) args p s') (λ f s'. tail-quiet line f (object ∷ []) args p s')

target-quiet : (line : ℕ) (k : ExprKind-F ExprKind TableItem Expr) (p : Places) (s : Slots) (go : Target → Slots → Work) → ((t : Target) (s' : Slots) → IsQuiet (go t s')) → IsQuiet (target_of line k p s go)
target-quiet line (e.Slot i) p s go u = u (InSlot line i) s
target-quiet line (e.Captured i) p s go u = u (InCapture line i) s
target-quiet line (e.Global name) p s go u = λ h. u (AtKey line (Table h.globals) (Text name)) s
target-quiet line (e.Index a b) p s go u = tt
target-quiet line e.Nil p s go u = u Nowhere s
target-quiet line e.True p s go u = u Nowhere s
target-quiet line e.False p s go u = u Nowhere s
target-quiet line (e.Number n) p s go u = u Nowhere s
target-quiet line (e.Text t) p s go u = u Nowhere s
target-quiet line e.Vararg p s go u = u Nowhere s
target-quiet line (e.Function n) p s go u = u Nowhere s
target-quiet line (e.Call f args) p s go u = u Nowhere s
target-quiet line (e.Method a name args) p s go u = u Nowhere s
target-quiet line (e.Unary o a) p s go u = u Nowhere s
target-quiet line (e.Binary o a b) p s go u = u Nowhere s
target-quiet line (e.And a b) p s go u = u Nowhere s
target-quiet line (e.Or a b) p s go u = u Nowhere s
target-quiet line (e.Paren a) p s go u = u Nowhere s
target-quiet line (e.Table items) p s go u = u Nowhere s

targets-quiet : (xs : List Expr) (p : Places) (done : List Target) (s : Slots) (go : List Target → Slots → Work) → ((ts : List Target) (s' : Slots) → IsQuiet (go ts s')) → IsQuiet (targets_of xs p done s go)
targets-quiet [] p done s go u = u done s
targets-quiet (x ∷ xs) p done s go u =
    target-quiet x.line (out-ExprKind x.kind) p s (λ target s'. targets_of xs p (done ++ target ∷ []) s' go) (λ target s'. targets-quiet xs p (done ++ target ∷ []) s' go u)

with-quiet : (S : Setting) (xs : List Expr) (p : Places) (ts : List Target) (s : Slots) → IsQuiet (with_targets S xs p ts s)
with-quiet S xs p ts s =
    then-quiet (values_of xs p s) (on_values (λ vs s'. assign_values S ts vs p s')) (values-quiet xs p s) (λ sign s'. on-quiet (λ vs s''. assign_values S ts vs p s'') sign s' (λ vs s''. assigned-quiet S ts vs p s''))

pub found-quiet : (S : Setting) (line : ℕ) (v key : Value) (a : Assignment) (p : Places) (s : Slots) → IsQuiet (found_at S line v key a p s)
found-quiet S line v key a p s =
    targets-quiet (drop a.next a.targets.value.items) p (map items.target_of a.found.items ++ AtKey line v key ∷ []) s (with_targets S a.values.value.items p) (λ ts s'. with-quiet S a.values.value.items p ts s')

set-quiet : (S : Setting) (callers : List Caller) (t : ℕ) (key x : Value) (s : Slots) (go : Work) → IsQuiet go → IsQuiet (set_work S callers t key x s go)
set-quiet S callers t key x s go u = λ h. refused-quiet S callers table_fault (set_cause h t key x) s (Write (with_pair h t key x) go) u

pub items-quiet : (S : Setting) (line t n : ℕ) (xs : List TableItem) (p : Places) (s : Slots) → IsQuiet (items_work S line t n xs p s)
items-quiet S line t n [] p s = tt
items-quiet S line t n (item.Pair' l k m j ∷ xs) p s = tt
items-quiet S line t n (item.Item' l k ∷ []) p s = tt
items-quiet S line t n (item.Item' l k ∷ x ∷ xs) p s = tt

pub value-quiet : (S : Setting) (c : Constructor) (xs : List TableItem) (key : Value) (p : Places) (s : Slots) → IsQuiet (value_at_key S c xs key p s)
value-quiet S c [] key p s = tt
value-quiet S c (item.Pair' l k m j ∷ xs) key p s = tt
value-quiet S c (item.Item' l k ∷ xs) key p s = tt

-- a value is set, and then further items come
pub set-items-quiet : (S : Setting) (n : ℕ) (c : Constructor) (key x : Value) (p : Places) (s : Slots) → IsQuiet (set_work S (callers_at p c.line) c.table key x s (items_left S n c p s))
set-items-quiet S n c key x p s =
    set-quiet S (callers_at p c.line) c.table key x s (items_left S n c p s) (items-quiet S c.line c.table n (drop c.next c.items.value.items) p s)

pub fill-quiet : (S : Setting) (callers : List Caller) (t n : ℕ) (vs : List Value) (s : Slots) → IsQuiet (fill S callers t n vs s (give_one (Table t) s))
fill-quiet S callers t n [] s = tt
fill-quiet S callers t n (v ∷ vs) s =
    set-quiet S callers t (number n) v s (fill S callers t (n + 1) vs s (give_one (Table t) s)) (fill-quiet S callers t (n + 1) vs s)
