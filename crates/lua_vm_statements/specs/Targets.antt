-- The targets of assignments, as the machine evaluates them.
use Rattle.std.specs.Prelude.{◌≡◌}
use Rattle.lua_ast.specs.declared.expressions.Expr.{Expr}
use Rattle.lua_ast.specs.declared.expressions.ExprKind.{out-ExprKind}
use Rattle.lua_values.specs.Heap.{StoreView}
use Rattle.lua_meaning.specs.Works.{Places, Slots, Work}
use Rattle.lua_meaning.specs.Setting.{Setting}
use Rattle.lua_meaning.specs.Signs.{value}
use Rattle.lua_meaning.specs.Assignments as assignment
use Rattle.lua_frames.specs.declared.targets.Target.{Target}
use Rattle.lua_frames.specs.Items.{target_of}
use Rattle.lua_frames.specs.Follows.{ComesTo}
use Rattle.lua_vm_statements.specs.declared.targets.Begun.{Begun}
use Rattle.lua_vm_statements.specs.declared.targets.Begun.TheVariants as begun

-- an expression is this target, whose evaluation asks for nothing but what a store has
abbrev pub IsTarget : Expr → StoreView → Target → Type 0
IsTarget x store target =
    (S : Setting) (p : Places) (s : Slots) (go : assignment.Target → Slots → Work)
    → ComesTo S (assignment.target_of x.line (out-ExprKind x.kind) p s go) store (go (target_of target) s) store

-- or it begins so
abbrev pub Begins : Expr → StoreView → Begun → Type 0
Begins x store (begun.Found target) = IsTarget x store target
Begins x store (begun.Index line object key) =
    (p : Places) (s : Slots) (go : assignment.Target → Slots → Work)
    → assignment.target_of x.line (out-ExprKind x.kind) p s go
    ≡ value object.value p s (λ v s'. value key.value p s' (λ k s''. go (assignment.AtKey line v k) s''))
