-- Statements: their works, by the item that waits or the work that is left.
use Rattle.std.specs.Prelude.{◌≡◌, ℕ, ◌+◌, List, [], ◌∷◌, drop, Option, Some, None, refl}
use Rattle.std.proofs.Common.{sym, ◌∙◌, ap, Vec, Global}
use Rattle.std.specs.declared.rc.Rc.{Rc}
use Rattle.lua_ast.specs.declared.expressions.Expr.{Expr}
use Rattle.lua_ast.specs.declared.statements.Arm.{Arm, out-Arm}
use Rattle.lua_ast.specs.declared.statements.Stmt.{Stmt}
use Rattle.lua_ast.specs.declared.statements.StmtKind.{StmtKind, out-StmtKind}
use Rattle.lua_ast.specs.declared.statements.StmtKind.TheViews.{outs-Local, outs-LocalFunction, outs-Assign, outs-Call, outs-Do, outs-While, outs-Repeat, outs-If, outs-NumericFor, outs-GenericFor, outs-Return, outs-Break}
use Rattle.lua_ast.specs.declared.statements.StmtKind.TheVariants as v
use Rattle.lua_values.specs.declared.values.Value.{Value}
use Rattle.lua_meaning.specs.Works.{Places, Slots, AValue, AnExpr, ARepeat, Break, Work, End, Eval, and_then}
use Rattle.lua_meaning.specs.Setting.{Setting}
use Rattle.lua_meaning.specs.Signs.{first, on_values, value, values_of}
use Rattle.lua_meaning.specs.Blocks.{block}
use Rattle.lua_meaning.specs.Assignments.{assignment_work}
use Rattle.lua_meaning.specs.Loops.{again, for_work}
use Rattle.lua_meaning.specs.Statements.{stmt_work, if_work, local_function, return_work, step_of}
use Rattle.lua_frames.specs.declared.items.Item.TheVariants as i
use Rattle.lua_frames.specs.declared.loops.Bounds.{Bounds}
use Rattle.lua_frames.specs.Items.{resume_item, arm_work}
use Rattle.lua_vm_loops.specs.Bounds.{AreBounds, step_expr}

pub local_form : (S : Setting) (line : ℕ) (k : StmtKind) (slots copy : Rc (Vec ℕ Global) Global) (xs : Rc (Vec Expr Global) Global) (p : Places) (s : Slots) → k ≡ v.Local slots xs → copy.value ≡ slots.value
    → stmt_work S line (out-StmtKind k) p s ≡ and_then (values_of xs.value.items p s) (resume_item S (i.Locals copy) p)
local_form S line k slots copy xs p s e h = rw (e, outs-Local slots xs, h) refl

pub local_function_form : (S : Setting) (line : ℕ) (k : StmtKind) (slot function : ℕ) (p : Places) (s : Slots) → k ≡ v.LocalFunction slot function
    → stmt_work S line (out-StmtKind k) p s ≡ local_function S line slot function p s
local_function_form S line k slot function p s e = rw (e, outs-LocalFunction slot function) refl

pub assign_form : (S : Setting) (line : ℕ) (k : StmtKind) (targets xs : Rc (Vec Expr Global) Global) (ts : List Expr) (p : Places) (s : Slots) → k ≡ v.Assign targets xs → ts ≡ targets.value.items
    → stmt_work S line (out-StmtKind k) p s ≡ assignment_work S ts xs.value.items p s
assign_form S line k targets xs ts p s e h = rw (e, outs-Assign targets xs) (ap (λ (ys : List Expr). assignment_work S ys xs.value.items p s) (sym h))

pub call_form : (S : Setting) (line : ℕ) (k : StmtKind) (x : Expr) (p : Places) (s : Slots) → k ≡ v.Call x
    → stmt_work S line (out-StmtKind k) p s ≡ Eval (AnExpr x) p s (resume_item S i.Discard p)
call_form S line k x p s e = rw (e, outs-Call x) refl

pub do_form : (S : Setting) (line : ℕ) (k : StmtKind) (body : Rc (Vec Stmt Global) Global) (p : Places) (s : Slots) → k ≡ v.Do body
    → stmt_work S line (out-StmtKind k) p s ≡ block body.value.items p s
do_form S line k body p s e = rw (e, outs-Do body) refl

pub while_form : (S : Setting) (line : ℕ) (k : StmtKind) (test test' : Rc Expr Global) (body body' : Rc (Vec Stmt Global) Global) (p : Places) (s : Slots) → k ≡ v.While test body → test'.value ≡ test.value → body'.value ≡ body.value
    → stmt_work S line (out-StmtKind k) p s ≡ Eval (AValue test.value) p s (resume_item S (i.While test' body') p)
while_form S line k test test' body body' p s e h g = rw (e, outs-While test body, h, g) refl

pub repeat_form : (S : Setting) (line : ℕ) (k : StmtKind) (body body' : Rc (Vec Stmt Global) Global) (test test' : Rc Expr Global) (p : Places) (s : Slots) → k ≡ v.Repeat body test → body'.value ≡ body.value → test'.value ≡ test.value
    → stmt_work S line (out-StmtKind k) p s ≡ again (ARepeat body'.value.items test'.value) p s
repeat_form S line k body body' test test' p s e h g = rw (e, outs-Repeat body test, h, g) refl

-- steps that have the same expression
same_step : (a b : Option (Rc Expr Global)) → step_expr a ≡ step_expr b → step_of a ≡ step_of b
same_step None None e = refl
same_step None (Some y) e = absurd (cc)
same_step (Some x) None e = absurd (cc)
same_step (Some x) (Some y) e =
    let h : x.value ≡ y.value = cc in
    let steps : Expr → Places → Slots → (Value → Slots → Work) → Work = λ z p s go. value z p s go in
    ap steps h

-- a `for` from its first bound on, by what evaluates its step
abbrev for_begins : Setting → ℕ → ℕ → Expr → Expr → (Places → Slots → (Value → Slots → Work) → Work) → List Stmt → Places → Slots → Work
for_begins S line slot from to step body p s = value from p s (λ a s1. value to p s1 (λ b s2. step p s2 (λ c s3. for_work S line slot a b c body p s3)))

bounds_alike : (S : Setting) (line slot : ℕ) (from to : Rc Expr Global) (step : Option (Rc Expr Global)) (body : Rc (Vec Stmt Global) Global) (b : Bounds) (p : Places) (s : Slots) → AreBounds line slot to step body b
    → for_begins S line slot from.value to.value (step_of step) body.value.items p s ≡ for_begins S b.line b.slot from.value b.to.value (step_of b.step) b.body.value.items p s
bounds_alike S line slot from to step body b p s h =
    sym (ap (λ (n : ℕ). for_begins S n b.slot from.value b.to.value (step_of b.step) b.body.value.items p s) h.at
    ∙ ap (λ (n : ℕ). for_begins S line n from.value b.to.value (step_of b.step) b.body.value.items p s) h.variable
    ∙ ap (λ (x : Expr). for_begins S line slot from.value x (step_of b.step) b.body.value.items p s) h.limit
    ∙ ap (λ (f : Places → Slots → (Value → Slots → Work) → Work). for_begins S line slot from.value to.value f b.body.value.items p s) (same_step b.step step h.by)
    ∙ ap (λ (v : Vec Stmt Global). for_begins S line slot from.value to.value (step_of step) v.items p s) h.runs)

pub numeric_for_form : (S : Setting) (line : ℕ) (k : StmtKind) (slot : ℕ) (from to : Rc Expr Global) (step : Option (Rc Expr Global)) (body : Rc (Vec Stmt Global) Global) (b : Bounds) (p : Places) (s : Slots)
    → k ≡ v.NumericFor slot from to step body → AreBounds line slot to step body b → stmt_work S line (out-StmtKind k) p s ≡ Eval (AValue from.value) p s (resume_item S (i.ForFrom b) p)
numeric_for_form S line k slot from to step body b p s e h = rw (e, outs-NumericFor slot from to step body) (bounds_alike S line slot from to step body b p s h)

pub generic_for_form : (S : Setting) (line : ℕ) (k : StmtKind) (slots slots' : Rc (Vec ℕ Global) Global) (xs : Rc (Vec Expr Global) Global) (body body' : Rc (Vec Stmt Global) Global) (p : Places) (s : Slots)
    → k ≡ v.GenericFor slots xs body → slots'.value ≡ slots.value → body'.value ≡ body.value
    → stmt_work S line (out-StmtKind k) p s ≡ and_then (values_of xs.value.items p s) (resume_item S (i.Iterate line slots' body') p)
generic_for_form S line k slots slots' xs body body' p s e h g = rw (e, outs-GenericFor slots xs body, h, g) refl

pub if_form : (S : Setting) (line : ℕ) (k : StmtKind) (arms : Rc (Vec Arm Global) Global) (last : Rc (Vec Stmt Global) Global) (p : Places) (s : Slots) → k ≡ v.If arms last
    → stmt_work S line (out-StmtKind k) p s ≡ if_work (drop 0 arms.value.items) last.value.items p s
if_form S line k arms last p s e = rw (e, outs-If arms last) refl

pub return_form : (S : Setting) (line : ℕ) (k : StmtKind) (xs : Rc (Vec Expr Global) Global) (p : Places) (s : Slots) → k ≡ v.Return xs
    → stmt_work S line (out-StmtKind k) p s ≡ return_work S xs.value.items p s
return_form S line k xs p s e = rw (e, outs-Return xs) refl

pub break_form : (S : Setting) (line : ℕ) (k : StmtKind) (p : Places) (s : Slots) → k ≡ v.Break → stmt_work S line (out-StmtKind k) p s ≡ End Break s
break_form S line k p s e = rw (e, outs-Break) refl

-- the arm at an index
pub arm_form : (S : Setting) (arms copy : Rc (Vec Arm Global) Global) (last last' : Rc (Vec Stmt Global) Global) (a : Arm) (next : ℕ) (p : Places) (s : Slots)
    → drop next arms.value.items ≡ a ∷ drop (next + 1) arms.value.items → copy.value ≡ arms.value → last'.value ≡ last.value
    → if_work (drop next arms.value.items) last.value.items p s ≡ Eval (AValue (out-Arm a).test) p s (resume_item S (i.Arm copy next last') p)
arm_form S arms copy last last' a next p s e h g =
    ap (λ (t : List Arm). if_work t last.value.items p s) e
    ∙ ap (λ (t : List Arm). Eval (AValue (out-Arm a).test) p s (on_values (λ vs s'. arm_work t last.value.items p (first vs) s'))) (sym e)
    ∙ ap (λ (t : Vec Arm Global). Eval (AValue (out-Arm a).test) p s (on_values (λ vs s'. arm_work (drop next t.items) last.value.items p (first vs) s'))) (sym h)
    ∙ ap (λ (t : Vec Stmt Global). Eval (AValue (out-Arm a).test) p s (on_values (λ vs s'. arm_work (drop next copy.value.items) t.items p (first vs) s'))) (sym g)

-- and after the last of them
pub no_arm_form : (arms : List Arm) (last : List Stmt) (p : Places) (s : Slots) → arms ≡ [] → if_work arms last p s ≡ block last p s
no_arm_form arms last p s e = rw e refl
