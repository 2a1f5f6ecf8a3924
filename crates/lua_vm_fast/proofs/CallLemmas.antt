-- Calls that are done at once.
use Rattle.std.specs.Prelude.{◌≡◌, ℕ, suc, zero, ◌+◌, ◌-◌, ◌≤◌, ◌<◌, nat_lt, Bool, true, false, if◌then◌else◌, List, [], ◌∷◌, ◌++◌, length, drop, map, replicate, slice_get, slice_set, Option, Some, None, IfSome, ℤ, refl}
use Rattle.std.specs.declared.rc.Rc.{Rc}
use Rattle.std.specs.declared.vec.Vec.{Vec}
use Rattle.std.specs.declared.alloc.Global.{Global}
use Rattle.std.proofs.Common.{sym, ◌∙◌, ap, subst, arith, rules}
use Rattle.std.proofs.lemmas.Bool.{lt-ltb}
use Rattle.std.proofs.lemmas.List.{map-append, append_assoc, length-append, length-replicate}
use borrow.Author.Tests.{ltb-true}
use Rattle.lua_ast.specs.declared.expressions.BinOp.{BinOp}
use Rattle.lua_ast.specs.declared.expressions.Expr.{Expr}
use Rattle.lua_ast.specs.declared.expressions.ExprKind.{ExprKind, out-ExprKind}
use Rattle.lua_ast.specs.declared.expressions.ExprKind as kind
use Rattle.lua_ast.specs.declared.expressions.ExprKind.TheOpen.{ExprKind-F}
use Rattle.lua_ast.specs.declared.expressions.ExprKind.TheOpen as e
use Rattle.lua_ast.specs.declared.expressions.ExprKind.TheViews.{outs-Binary, outs-Call, outs-Captured}
use Rattle.lua_ast.specs.declared.expressions.ExprKind.TheVariants as v
use Rattle.lua_ast.specs.declared.expressions.TableItem.{TableItem}
use Rattle.lua_ast.specs.declared.programs.Function.{Function}
use Rattle.lua_ast.specs.declared.programs.Program.{Program}
use Rattle.lua_ast.specs.declared.statements.Stmt.{Stmt}
use Rattle.lua_ast.specs.declared.statements.StmtKind.TheOpen as sk
use Rattle.lua_ast.specs.declared.statements.StmtKind.TheViews.{outs-Call as outs-CallStmt, outs-Return}
use Rattle.lua_ast.specs.declared.statements.StmtKind.TheVariants as sv
use Rattle.lua_values.specs.declared.values.Value.{Value}
use Rattle.lua_values.specs.declared.values.Value.TheVariants.{Nil, Number, Closure}
use Rattle.lua_values.specs.Heap.{ClosureView, Heap, StoreView, step_limit}
use Rattle.lua_operators.specs.declared.faults.Fault.TheVariants.{StackOverflow}
use Rattle.lua_meaning.specs.declared.slots.Slot.TheVariants.{Plain}
use Rattle.lua_meaning.specs.Works.{Caller, Places, Slots, AnExpr, ACall, Sign, Values, Return, Work, End, Eval, and_then}
use Rattle.lua_meaning.specs.Evaluator.{State, Ending, Ended, after, do_work}
use Rattle.lua_meaning.specs.Setting.{Setting}
use Rattle.lua_meaning.specs.Positions.{callers_at, raise_fault}
use Rattle.lua_meaning.specs.Signs.{first, give, give_one, listed, more, on_values, or_nil, value, values_of}
use Rattle.lua_meaning.specs.Variables.{in_cell}
use Rattle.lua_meaning.specs.Statements.{return_one, return_work, with_values}
use Rattle.lua_meaning.specs.Blocks.{block}
use Rattle.lua_meaning.specs.Calls.{argument, call, call_closure, call_end, calling, function_end, inside, most_callers, run, slots_from}
use Rattle.lua_meaning.specs.Operators.{binary_work}
use Rattle.lua_meaning.specs.Expressions.{call_work}
use Rattle.lua_meaning.specs.Nodes.{eval}
use Rattle.lua_meaning.proofs.EvaluatorLemmas.{work-then}
use Rattle.lua_meaning.proofs.Running.{Does, node, stmt, val, exp, seq, look, end}
use Rattle.lua_vm_fast.specs.declared.calls.Site.{Site}
use Rattle.lua_vm_fast.specs.declared.places.Seen.{Seen}
use Rattle.lua_vm_fast.specs.declared.places.Valued.{Valued}
use Rattle.lua_vm_fast.specs.Gives.{counting, later, Gives, Operates}
use Rattle.lua_vm_fast.specs.Runs.{state, RunsIf, SetsIf}
use Rattle.lua_vm_fast.specs.Calls.{Allows, GivesAt, GivesList, GivesCall, CallGives, BinaryGives, Returns, CallReturns, RunsAt, IsCall, IsReturn}
use Rattle.lua_vm_fast.specs.Bodies.{StmtEnds, BlockEnds}
use Rattle.lua_vm_fast.proofs.RunLemmas.{dropped_all}

-- fewer levels
pub less : (site : Site) (m n : ℕ) (S : Setting) (p : Places) → m ≤ n → Allows site n S p → Allows site m S p
less site m n S p h a = record {
  program = a.program;
  cells = a.cells;
  room = λ some. omega (arith, a.room (omega (arith, some, h)), h);
}

-- steps that are counted one after another
sums : (vs : List Value) (s : Slots) (w : State) (j k : ℕ) → w.store.steps + j ≡ k → Ended (Values vs) s (later j w) ≡ Ended (Values vs) s (record w { store = record { heap = w.store.heap; steps = k } })
sums vs s w j k same = ap (λ (n : ℕ). Ended (Values vs) s (record w { store = record { heap = w.store.heap; steps = n } })) same

-- what an expression gives anywhere
pub as_seen : (site : Site) (levels : ℕ) (x : Expr) (s : Slots) (h : Heap) (u : Value) (n : ℕ) → Gives x s h u n → GivesAt site levels x s h u n
as_seen site levels x s h u n g = record { one = λ S p w a same few. g.one S p w same few; all = λ S p w a same few. g.all S p w same few }

-- captured variables
captured_read : (S : Setting) (s : Slots) (cells cells' : List ℕ) (i : ℕ) (h : Heap) (w : State) → w.store.heap ≡ h → cells ≡ cells'
    → Does S (give_one (in_cell (slice_get cells i) w.store.heap) s) w (Ended (Values (in_cell (slice_get cells' i) h ∷ [])) s w)
captured_read S s cells cells' i h w same e = record {
  is = ap (λ (g : Heap). Ended (Values (in_cell (slice_get cells i) g ∷ [])) s w) same ∙ ap (λ (cs : List ℕ). Ended (Values (in_cell (slice_get cs i) h ∷ [])) s w) e;
}

pub captured_gives : (site : Site) (levels : ℕ) (x : Expr) (s : Slots) (h : Heap) (i : ℕ) → x.kind ≡ v.Captured i → GivesAt site levels x s h (in_cell (slice_get site.cells.now i) h) 1
captured_gives site levels x s h i is = record {
  one = λ S p w a same few. (val {S = S} {x = x} {k = e.Captured i} {p = p} {s = s} {w = w} (rw (is, outs-Captured i) refl) (lt-ltb _ _ few) (look (captured_read S s p.cells site.cells.now i h (later 1 w) same a.cells))).is;
  all = λ S p w a same few. (exp {S = S} {x = x} {k = e.Captured i} {p = p} {s = s} {w = w} (rw (is, outs-Captured i) refl) (lt-ltb _ _ few) (look (captured_read S s p.cells site.cells.now i h (later 1 w) same a.cells))).is;
}

pub captured_seen : (site : Site) (x : Expr) (s : Slots) (h : Heap) (i : ℕ) (r : Option Seen) → x.kind ≡ v.Captured i → IfSome r (λ c. c.value.now ≡ in_cell (slice_get site.cells.now i) h) → IfSome r (λ c. c.steps ≡ 1)
    → IfSome r (λ c. (levels : ℕ) → GivesAt site levels x s h c.value.now c.steps)
captured_seen site x s h i (Some c) is there steps = λ levels.
    subst (λ (k : ℕ). GivesAt site levels x s h c.value.now k) (sym steps) (subst (λ (t : Value). GivesAt site levels x s h t 1) (sym there) (captured_gives site levels x s h i is))
captured_seen site x s h i None is there steps = tt

pub all_seen : (site : Site) (x : Expr) (s : Slots) (h : Heap) (r : Option Seen) → IfSome r (λ c. Gives x s h c.value.now c.steps) → IfSome r (λ c. (levels : ℕ) → GivesAt site levels x s h c.value.now c.steps)
all_seen site x s h (Some c) g = λ levels. as_seen site levels x s h c.value.now c.steps g
all_seen site x s h None g = tt

-- a call that gives one value is an expression
pub call_gives : (site : Site) (levels : ℕ) (f : Expr) (xs : List Expr) (s : Slots) (h : Heap) (u : Value) (n : ℕ) → GivesCall site levels f xs s h (u ∷ []) n → CallGives site levels f xs s h u (n + 1)
call_gives site levels f xs s h u n g x left args is callee listed = record {
  one = λ S p w a same few. (val {S = S} {x = x} {k = e.Call left args} {p = p} {s = s} {w = w} is (lt-ltb _ _ (omega (arith, few))) (does S p w a same few)).is;
  all = λ S p w a same few. (exp {S = S} {x = x} {k = e.Call left args} {p = p} {s = s} {w = w} is (lt-ltb _ _ (omega (arith, few))) (does S p w a same few)).is;
}
  where
    does : (S : Setting) (p : Places) (w : State) → Allows site levels S p → w.store.heap ≡ h → w.store.steps + (n + 1) < step_limit
        → Does S (value left.value p s (λ t s'. call_work x.line t args.value.items p s')) (later 1 w) (Ended (Values (u ∷ [])) s (later (n + 1) w))
    does S p w a same few = record {
      is =
          ap (λ (y : Expr). do_work (eval S) (value y p s (λ t s'. call_work x.line t args.value.items p s')) (later 1 w)) callee
          ∙ ap (λ (ys : List Expr). do_work (eval S) (value f p s (λ t s'. call_work x.line t ys p s')) (later 1 w)) listed
          ∙ g.is S x.line p (later 1 w) a same (omega (arith, few)) ∙ sums (u ∷ []) s (later 1 w) n (w.store.steps + (n + 1)) (omega arith);
    }

pub call_valued : (site : Site) (levels : ℕ) (x : Expr) (f : Rc Expr Global) (args : Rc (Vec Expr Global) Global) (y : Expr) (s : Slots) (h : Heap) (r : Option Valued) → x.kind ≡ v.Call f args → y ≡ f.value
    → IfSome r (λ c. CallGives site levels y args.value.items s h c.value c.steps) → IfSome r (λ c. GivesAt site levels x s h c.value c.steps)
call_valued site levels x f args y s h (Some c) is same g = g x f args (rw (is, outs-Call f args) refl) (sym same) refl
call_valued site levels x f args y s h None is same g = tt

pub all_valued : (site : Site) (levels : ℕ) (x : Expr) (s : Slots) (h : Heap) (r : Option Valued) → IfSome r (λ c. Gives x s h c.value c.steps) → IfSome r (λ c. GivesAt site levels x s h c.value c.steps)
all_valued site levels x s h (Some c) g = as_seen site levels x s h c.value c.steps g
all_valued site levels x s h None g = tt

-- operators
pub binary_gives : (site : Site) (levels m : ℕ) (o : BinOp) (a b : Expr) (s : Slots) (h : Heap) (i j r : ℤ) (k l n : ℕ) → GivesAt site m a s h (Number i) k → GivesAt site m b s h (Number j) l → Operates o i j (Number r) → levels ≡ m + 1 → n ≡ k + l + 1
    → BinaryGives site levels o a b s h (Number r) n
binary_gives site levels m o a b s h i j r k l n ga gb op level sum x left right is a_is b_is = record {
  one = λ S p w al same few. (val {S = S} {x = x} {k = e.Binary o left right} {p = p} {s = s} {w = w} is (lt-ltb _ _ (omega (arith, few, sum))) (does S p w al same few)).is;
  all = λ S p w al same few. (exp {S = S} {x = x} {k = e.Binary o left right} {p = p} {s = s} {w = w} is (lt-ltb _ _ (omega (arith, few, sum))) (does S p w al same few)).is;
}
  where
    added : (t : ℕ) → t + 1 + k + l ≡ t + n
    added t = omega (arith, sum)

    does : (S : Setting) (p : Places) (w : State) → Allows site levels S p → w.store.heap ≡ h → w.store.steps + n < step_limit
        → Does S (value left.value p s (λ u s'. value right.value p s' (λ t s''. binary_work S (callers_at p x.line) o u t s''))) (later 1 w) (Ended (Values (Number r ∷ [])) s (later n w))
    does S p w al same few =
        rw (a_is, b_is) (seq (record { is = ga.one S p (later 1 w) (less site m levels S p (omega (arith, level)) al) same (omega (arith, few, sum)) }) (seq (record { is = gb.one S p (later k (later 1 w)) (less site m levels S p (omega (arith, level)) al) same (omega (arith, few, sum)) })
        (record { is = ap (λ (q : Work). do_work (eval S) q (later l (later k (later 1 w)))) (op S (callers_at p x.line) s) ∙ ap (λ (t : ℕ). Ended (Values (Number r ∷ [])) s (record w { store = record { heap = w.store.heap; steps = t } })) (added w.store.steps) })))

pub binary_valued : (site : Site) (levels : ℕ) (x : Expr) (o : BinOp) (a b : Rc Expr Global) (y z : Expr) (s : Slots) (h : Heap) (r : Option Valued) → x.kind ≡ v.Binary o a b → y ≡ a.value → z ≡ b.value
    → IfSome r (λ c. BinaryGives site levels o y z s h c.value c.steps) → IfSome r (λ c. GivesAt site levels x s h c.value c.steps)
binary_valued site levels x o a b y z s h (Some c) is same_a same_b g = g x a b (rw (is, outs-Binary o a b) refl) (sym same_a) (sym same_b)
binary_valued site levels x o a b y z s h None is same_a same_b g = tt

pub as_number : (site : Site) (levels : ℕ) (x : Expr) (s : Slots) (h : Heap) (u : Value) (i : ℤ) (n : ℕ) → u ≡ Number i → GivesAt site levels x s h u n → GivesAt site levels x s h (Number i) n
as_number site levels x s h u i n is g = subst (λ (t : Value). GivesAt site levels x s h t n) is g

-- what is left of a list of expressions of which some gave values
abbrev left_of : List Expr → Places → List Value → Slots → Work
left_of [] p done s = give done s
left_of (x ∷ xs) p done s = Eval (listed x xs) p s (on_values (more xs p done))

begins : (xs : List Expr) (p : Places) (s : Slots) → values_of xs p s ≡ left_of xs p [] s
begins [] p s = refl
begins (x ∷ xs) p s = refl

goes_on : (xs : List Expr) (p : Places) (done : List Value) (u : Value) (s : Slots) → more xs p done (u ∷ []) s ≡ left_of xs p (done ++ u ∷ []) s
goes_on [] p done u s = refl
goes_on (x ∷ xs) p done u s = refl

pub record GivesSome (site : Site) (levels : ℕ) (xs : List Expr) (i : ℕ) (s : Slots) (h : Heap) (us : Slots) (n : ℕ) : Type 0 where
  pub values : List Value
  pub plain : us ≡ map Plain values
  pub is : (S : Setting) (p : Places) (w : State) → Allows site levels S p → w.store.heap ≡ h → w.store.steps + n < step_limit
      → do_work (eval S) (values_of xs p s) w ≡ do_work (eval S) (left_of (drop i xs) p values s) (later n w)

pub none_given : (site : Site) (levels : ℕ) (xs : List Expr) (s : Slots) (h : Heap) (us : Slots) → us ≡ [] → GivesSome site levels xs 0 s h us 0
none_given site levels xs s h us empty = record {
  values = [];
  plain = empty;
  is = λ S p w a same few.
      ap (λ (q : Work). do_work (eval S) q w) (begins xs p s)
      ∙ ap (λ (k : ℕ). do_work (eval S) (left_of xs p [] s) (record w { store = record { heap = w.store.heap; steps = k } })) (zero_more w.store.steps);
}
  where
    zero_more : (k : ℕ) → k ≡ k + 0
    zero_more k = omega arith

given_node : (site : Site) (levels : ℕ) (x : Expr) (ys : List Expr) (s : Slots) (h : Heap) (u : Value) (n : ℕ) → GivesAt site levels x s h u n
    → (S : Setting) (p : Places) (w : State) → Allows site levels S p → w.store.heap ≡ h → w.store.steps + n < step_limit → eval S (listed x ys) p s w ≡ Ended (Values (u ∷ [])) s (later n w)
given_node site levels x [] s h u n g S p w a same few = g.all S p w a same few
given_node site levels x (y ∷ ys) s h u n g S p w a same few = g.one S p w a same few

pub one_given : (site : Site) (levels : ℕ) (xs : List Expr) (x : Expr) (i : ℕ) (s : Slots) (h : Heap) (us us' : Slots) (u : Value) (n m k : ℕ) → drop i xs ≡ x ∷ drop (i + 1) xs → GivesSome site levels xs i s h us n → GivesAt site levels x s h u m
    → us' ≡ us ++ Plain u ∷ [] → k ≡ n + m → GivesSome site levels xs (i + 1) s h us' k
one_given site levels xs x i s h us us' u n m k at g gx pushed sum = record {
  values = g.values ++ u ∷ [];
  plain = pushed ∙ ap (λ (t : Slots). t ++ Plain u ∷ []) g.plain ∙ sym (map-append Plain g.values (u ∷ []));
  is = λ S p w a same few.
      g.is S p w a same (omega (arith, few, sum))
      ∙ ap (λ (t : List Expr). do_work (eval S) (left_of t p g.values s) (later n w)) at
      ∙ ap (λ (o : Ending). after o (λ sign s' w'. do_work (eval S) (on_values (more (drop (i + 1) xs) p g.values) sign s') w')) (given_node site levels x (drop (i + 1) xs) s h u m gx S p (later n w) a same (omega (arith, few, sum)))
      ∙ ap (λ (q : Work). do_work (eval S) q (later m (later n w))) (goes_on (drop (i + 1) xs) p g.values u s)
      ∙ ap (λ (t : ℕ). do_work (eval S) (left_of (drop (i + 1) xs) p (g.values ++ u ∷ []) s) (record w { store = record { heap = w.store.heap; steps = t } })) (added w.store.steps);
}
  where
    added : (t : ℕ) → t + n + m ≡ t + k
    added t = omega (arith, sum)

pub all_given : (site : Site) (levels : ℕ) (xs : List Expr) (i : ℕ) (s : Slots) (h : Heap) (us : Slots) (n : ℕ) → length xs ≤ i → GivesSome site levels xs i s h us n → GivesList site levels xs s h us n
all_given site levels xs i s h us n all g = record {
  values = g.values;
  plain = g.plain;
  is = λ S p w a same few. g.is S p w a same few ∙ ap (λ (t : List Expr). do_work (eval S) (left_of t p g.values s) (later n w)) (dropped_all xs i all);
}

-- the functions around a callee
one_around : (p : Places) (line : ℕ) → length (callers_at p line) ≤ suc (length p.around)
one_around p line = by_lua p.lua
  where
    by_lua : (b : Bool) → length (if b then (record { function = p.function; line = line }) ∷ p.around else p.around) ≤ suc (length p.around)
    by_lua true = omega arith
    by_lua false = omega arith

-- the call of a closure with arguments that were given
pub call_does : (site : Site) (levels m : ℕ) (f : Expr) (xs : List Expr) (s : Slots) (h : Heap) (object : Value) (c : ℕ) (us : Slots) (vs : List Value) (i j k n : ℕ) → object ≡ Closure c → ((l : ℕ) → GivesAt site l f s h object i) → GivesList site m xs s h us j
    → ((args : List Value) → us ≡ map Plain args → CallReturns site.program.now m c args h vs k) → levels ≡ m + 1 → n ≡ i + j + k → GivesCall site levels f xs s h vs n
call_does site levels m f xs s h object c us vs i j k n is gf gl ends level sum = record {
  is = λ S line p w a same few.
      ap (λ (o : Ending). after o (λ sign s' w'. do_work (eval S) (on_values (λ ts s''. call_work line (first ts) xs p s'') sign s') w')) (callee.one S p w a same (omega (arith, few, sum)))
      ∙ work-then (eval S) (values_of xs p s) (on_values (λ ts s'. call (callers_at p line) (Closure c) ts s')) (later i w)
      ∙ ap (λ (o : Ending). after o (λ sign s' w'. do_work (eval S) (on_values (λ ts s''. call (callers_at p line) (Closure c) ts s'') sign s') w')) (gl.is S p (later i w) (less site m levels S p (omega (arith, level)) a) same (omega (arith, few, sum)))
      ∙ ap (λ (o : Ending). after o (λ sign s' w'. do_work (eval S) (End (call_end sign) s) w')) (end'.is S (callers_at p line) (later j (later i w)) a.program (omega (arith, one_around p line, a.room (omega (arith, level)), level)) same (omega (arith, few, sum)))
      ∙ ap (λ (t : ℕ). Ended (Values vs) s (record w { store = record { heap = w.store.heap; steps = t } })) (added w.store.steps);
}
  where
    callee : GivesAt site levels f s h (Closure c) i
    callee = subst (λ (t : Value). GivesAt site levels f s h t i) is (gf levels)

    end' : CallReturns site.program.now m c gl.values h vs k
    end' = ends gl.values gl.plain

    added : (t : ℕ) → t + i + j + k ≡ t + n
    added t = omega (arith, sum)

-- a closure's body in a place of its own
pub closure_returns : (site : Site) (program : Program) (levels c number : ℕ) (cells : List ℕ) (f : Function) (args : List Value) (s : Slots) (body : List Stmt) (h : Heap) (vs : List Value) (n k : ℕ)
    → slice_get h.closures c ≡ Some (record { function = number; cells = cells }) → slice_get program.functions.items number ≡ Some f → s ≡ slots_from f.slots 0 f.params args → site.program.now ≡ program → site.cells.now ≡ cells → body ≡ f.body.value.items
    → Returns site levels body s h vs n → k ≡ n + 1 → CallReturns program levels c args h vs k
closure_returns site program levels c number cells f args s body h vs n k found there filled same_program same_cells same_body r sum = record {
  is = λ S callers w is room same few.
      (node {S = S} {n = ACall (Closure c) args} {p = calling callers false} {s = []} {w = w} (lt-ltb _ _ (omega (arith, few, sum))) (look (record { is = entered S callers w is room same (omega (arith, few, sum)) }))).is;
}
  where
    q : List Caller → Places
    q callers = calling callers false

    p : List Caller → Places
    p callers = inside number f cells args callers

    opened : (S : Setting) (callers : List Caller) (w : State) → S.program ≡ program → w.store.heap ≡ h → call_closure S (slice_get w.store.heap.closures c) args (q callers) [] ≡ run S number (Some f) cells args (q callers) []
    opened S callers w is same =
        ap (λ (g : Heap). call_closure S (slice_get g.closures c) args (q callers) []) same
        ∙ ap (λ (o : Option ClosureView). call_closure S o args (q callers) []) found
        ∙ ap (λ (o : Option Function). run S number o cells args (q callers) []) (ap (λ (t : Program). slice_get t.functions.items number) is ∙ there)

    entered : (S : Setting) (callers : List Caller) (w : State) → S.program ≡ program → length callers + levels < most_callers → w.store.heap ≡ h → w.store.steps + (n + 1) < step_limit
        → do_work (eval S) (call_closure S (slice_get w.store.heap.closures c) args (q callers) []) (later 1 w) ≡ Ended (Values vs) [] (later k w)
    entered S callers w is room same few =
        ap (λ (t : Work). do_work (eval S) t (later 1 w)) (opened S callers w is same)
        ∙ ap (λ (t : Bool). do_work (eval S) (if t then and_then (block f.body.value.items (p callers) (slots_from f.slots 0 f.params args)) (λ sign s'. End (function_end sign) []) else raise_fault S callers StackOverflow []) (later 1 w)) (lt-ltb (length callers) most_callers (omega (arith, room)))
        ∙ ap (λ (t : Slots). do_work (eval S) (and_then (block f.body.value.items (p callers) t) (λ sign s'. End (function_end sign) [])) (later 1 w)) (sym filled)
        ∙ ap (λ (t : List Stmt). do_work (eval S) (and_then (block t (p callers) s) (λ sign s'. End (function_end sign) [])) (later 1 w)) (sym same_body)
        ∙ r.is S (p callers) (later 1 w) (record { program = is ∙ sym same_program; cells = sym same_cells; room = λ some. room }) same (omega (arith, few))
        ∙ sums vs [] (later 1 w) n (w.store.steps + k) (omega (arith, sum))

-- a body that ends
pub block_returns : (site : Site) (levels : ℕ) (stmts : List Stmt) (s s' : Slots) (h : Heap) (sign : Sign) (vs : List Value) (n : ℕ) → BlockEnds site levels stmts s h sign s' n → function_end sign ≡ Values vs → Returns site levels stmts s h vs n
block_returns site levels stmts s s' h sign vs n g ends = record {
  is = λ S p w a same few.
      work-then (eval S) (block stmts p s) (λ sg t. End (function_end sg) []) w
      ∙ ap (λ (o : Ending). after o (λ sg t w'. Ended (function_end sg) [] w')) (g.is S p w a same few)
      ∙ ap (λ (sg : Sign). Ended sg [] (later n w)) ends;
}

-- `return`
returned : (site : Site) (levels : ℕ) (xs : List Expr) (st : Stmt) (s : Slots) (h : Heap) (vs : List Value) (n k : ℕ) → IsReturn xs st
    → ((S : Setting) (p : Places) (w : State) → Allows site levels S p → w.store.heap ≡ h → w.store.steps + n < step_limit → do_work (eval S) (return_work S xs p s) w ≡ Ended (Return vs) s (later n w))
    → k ≡ n + 1 → StmtEnds site levels st s h (Return vs) s k
returned site levels xs st s h vs n k is g sum = record {
  is = λ S p w a same few.
      (stmt {S = S} {st = st} {k = sk.Return is.values} {p = p} {s = s} {w = w} is.is_return (lt-ltb _ _ (omega (arith, few, sum))) (record { is = ap (λ (t : List Expr). do_work (eval S) (return_work S t p s) (later 1 w)) is.listed ∙ g S p (later 1 w) a same (omega (arith, few, sum)) })).is
      ∙ ap (λ (t : ℕ). Ended (Return vs) s (record w { store = record { heap = w.store.heap; steps = t } })) (added w.store.steps);
}
  where
    added : (t : ℕ) → t + 1 + n ≡ t + k
    added t = omega (arith, sum)

pub nothing_returned : (site : Site) (levels : ℕ) (xs : List Expr) (st : Stmt) (s : Slots) (h : Heap) → xs ≡ [] → IsReturn xs st → StmtEnds site levels st s h (Return []) s 1
nothing_returned site levels xs st s h empty is = returned site levels xs st s h [] 0 1 is (λ S p w a same few.
    ap (λ (t : List Expr). do_work (eval S) (return_work S t p s) w) empty
    ∙ ap (λ (k : ℕ). Ended (Return []) s (record w { store = record { heap = w.store.heap; steps = k } })) (zero_more w.store.steps)) refl
  where
    zero_more : (k : ℕ) → k ≡ k + 0
    zero_more k = omega arith

-- a kind is what it is opened to, closed again
closed : (k : ExprKind) → kind.roll-ExprKind (out-ExprKind k) ≡ k
closed k = search (rules, kind.the_lemmas)

plain_open : (S : Setting) (x : Expr) (o : ExprKind-F ExprKind TableItem Expr) (p : Places) (s : Slots)
    → ((f : Rc Expr Global) (args : Rc (Vec Expr Global) Global) → o ≡ e.Call f args → ⊥) → ((a : Rc Expr Global) (name : List ℕ) (args : Rc (Vec Expr Global) Global) → o ≡ e.Method a name args → ⊥)
    → return_one S x o p s ≡ with_values (x ∷ []) p s (λ vs s'. End (Return vs) s')
plain_open S x e.Nil p s h g = refl
plain_open S x e.True p s h g = refl
plain_open S x e.False p s h g = refl
plain_open S x (e.Number n) p s h g = refl
plain_open S x (e.Text t) p s h g = refl
plain_open S x e.Vararg p s h g = refl
plain_open S x (e.Function n) p s h g = refl
plain_open S x (e.Slot n) p s h g = refl
plain_open S x (e.Captured n) p s h g = refl
plain_open S x (e.Global name) p s h g = refl
plain_open S x (e.Index a b) p s h g = refl
plain_open S x (e.Call f args) p s h g = absurd (h f args refl)
plain_open S x (e.Method a name args) p s h g = absurd (g a name args refl)
plain_open S x (e.Unary o a) p s h g = refl
plain_open S x (e.Binary o a b) p s h g = refl
plain_open S x (e.And a b) p s h g = refl
plain_open S x (e.Or a b) p s h g = refl
plain_open S x (e.Paren a) p s h g = refl
plain_open S x (e.Table items) p s h g = refl

plain_one : (S : Setting) (x : Expr) (k : ExprKind) (p : Places) (s : Slots)
    → ((f : Rc Expr Global) (args : Rc (Vec Expr Global) Global) → k ≡ v.Call f args → ⊥) → ((a : Rc Expr Global) (name : List ℕ) (args : Rc (Vec Expr Global) Global) → k ≡ v.Method a name args → ⊥)
    → return_one S x (out-ExprKind k) p s ≡ with_values (x ∷ []) p s (λ vs s'. End (Return vs) s')
plain_one S x k p s h g =
    plain_open S x (out-ExprKind k) p s (λ f args q. h f args (sym (closed k) ∙ ap kind.roll-ExprKind q ∙ v.rolls-Call f args))
    (λ a name args q. g a name args (sym (closed k) ∙ ap kind.roll-ExprKind q ∙ v.rolls-Method a name args))

pub value_returned : (site : Site) (levels : ℕ) (x : Expr) (st : Stmt) (s : Slots) (h : Heap) (u : Value) (n : ℕ) → ((f : Rc Expr Global) (args : Rc (Vec Expr Global) Global) → x.kind ≡ v.Call f args → ⊥)
    → ((a : Rc Expr Global) (name : List ℕ) (args : Rc (Vec Expr Global) Global) → x.kind ≡ v.Method a name args → ⊥) → GivesAt site levels x s h u n → IsReturn (x ∷ []) st → StmtEnds site levels st s h (Return (u ∷ [])) s (n + 1)
value_returned site levels x st s h u n no_call no_method g is = returned site levels (x ∷ []) st s h (u ∷ []) n (n + 1) is (λ S p w a same few.
    ap (λ (q : Work). do_work (eval S) q w) (plain_one S x x.kind p s no_call no_method)
    ∙ ap (λ (o : Ending). after o (λ sign s' w'. do_work (eval S) (and_then (on_values (more [] p []) sign s') (on_values (λ vs s''. End (Return vs) s''))) w')) (g.all S p w a same few)) refl

pub return_kind : (st : Stmt) (values : Rc (Vec Expr Global) Global) → st.kind ≡ sv.Return values → IsReturn values.value.items st
return_kind st values is = record { values = values; is_return = rw (is, outs-Return values) refl; listed = refl }

pub same_listed : (site : Site) (levels : ℕ) (xs xs' : List Expr) (s s' : Slots) (h : Heap) (sign : Sign) (n : ℕ) → xs ≡ xs' → ((st : Stmt) → IsReturn xs' st → StmtEnds site levels st s h sign s' n) → (st : Stmt) → IsReturn xs st → StmtEnds site levels st s h sign s' n
same_listed site levels xs xs' s s' h sign n e r st is = r st (record { values = is.values; is_return = is.is_return; listed = is.listed ∙ e })

-- the variables of a function with its arguments, and nil for the others
nil_there : (i params : ℕ) (args : List Value) → slice_get args i ≡ None → argument i params args ≡ Nil
nil_there i params args h = by_test (nat_lt i params)
  where
    by_test : (b : Bool) → (if b then or_nil (slice_get args i) else Nil) ≡ Nil
    by_test true = ap or_nil h
    by_test false = refl

past : (args : List Value) (i : ℕ) → drop i args ≡ [] → slice_get args i ≡ None
past [] i h = refl
past (u ∷ args) zero h = absurd (cc)
past (u ∷ args) (suc i) h = past args i h

one_later : (i : ℕ) → suc i + 1 ≡ suc (i + 1)
one_later i = omega arith

past_more : (args : List Value) (i : ℕ) → drop i args ≡ [] → drop (i + 1) args ≡ []
past_more [] i h = dropped_all [] (i + 1) (omega arith)
past_more (u ∷ args) zero h = absurd (cc)
past_more (u ∷ args) (suc i) h = ap (λ (k : ℕ). drop k (u ∷ args)) (one_later i) ∙ past_more args i h

there : (args : List Value) (i : ℕ) (u : Value) (rest : List Value) → drop i args ≡ u ∷ rest → slice_get args i ≡ Some u
there [] i u rest h = absurd (cc (h, dropped_all {A = Value} [] i (omega arith)))
there (x ∷ args) zero u rest h = cc
there (x ∷ args) (suc i) u rest h = there args i u rest h

there_more : (args : List Value) (i : ℕ) (u : Value) (rest : List Value) → drop i args ≡ u ∷ rest → drop (i + 1) args ≡ rest
there_more [] i u rest h = absurd (cc (h, dropped_all {A = Value} [] i (omega arith)))
there_more (x ∷ args) zero u rest h = cc
there_more (x ∷ args) (suc i) u rest h = ap (λ (k : ℕ). drop k (x ∷ args)) (one_later i) ∙ there_more args i u rest h

nils : (n i params : ℕ) (args : List Value) → drop i args ≡ [] → slots_from n i params args ≡ replicate n (Plain Nil)
nils zero i params args h = refl
nils (suc n) i params args h =
    ap (λ (t : Value). Plain t ∷ slots_from n (i + 1) params args) (nil_there i params args (past args i h)) ∙ ap (λ (t : Slots). Plain Nil ∷ t) (nils n (i + 1) params args (past_more args i h))

argument_there : (i params : ℕ) (args : List Value) (u : Value) → i < params → slice_get args i ≡ Some u → argument i params args ≡ u
argument_there i params args u within h = ap (λ (b : Bool). if b then or_nil (slice_get args i) else Nil) (lt-ltb i params within) ∙ ap or_nil h

less_none : (n : ℕ) → n ≡ n - 0
less_none n = omega arith

filled_from : (rest : List Value) (n i params : ℕ) (args : List Value) → drop i args ≡ rest → i + length rest ≤ params → length rest ≤ n → slots_from n i params args ≡ map Plain rest ++ replicate (n - length rest) (Plain Nil)
filled_from [] n i params args h few fits = nils n i params args h ∙ ap (λ (k : ℕ). replicate k (Plain Nil)) (less_none n)
filled_from (u ∷ rest) zero i params args h few fits = absurd (omega (arith, fits))
filled_from (u ∷ rest) (suc n) i params args h few fits =
    ap (λ (t : Value). Plain t ∷ slots_from n (i + 1) params args) (argument_there i params args u (omega (arith, few)) (there args i u rest h))
    ∙ ap (λ (t : Slots). Plain u ∷ t) (filled_from rest n (i + 1) params args (there_more args i u rest h) (omega (arith, few)) (omega (arith, fits)))
    ∙ ap (λ (k : ℕ). Plain u ∷ map Plain rest ++ replicate k (Plain Nil)) less_one
  where
    less_one : n - length rest ≡ suc n - suc (length rest)
    less_one = omega arith

map_length : (args : List Value) → length (map Plain args) ≡ length args
map_length [] = refl
map_length (u ∷ args) = ap suc (map_length args)

pub filled : (slots : Slots) (count params : ℕ) (args : List Value) (us : Slots) → slots ≡ map Plain args → length slots ≤ params → params ≤ count → us ≡ slots ++ replicate (count - length slots) (Plain Nil) → us ≡ slots_from count 0 params args
filled slots count params args us plain few fits is =
    is ∙ ap (λ (t : Slots). t ++ replicate (count - length t) (Plain Nil)) plain
    ∙ ap (λ (k : ℕ). map Plain args ++ replicate (count - k) (Plain Nil)) (map_length args)
    ∙ sym (filled_from args count 0 params args refl (omega (arith, at_most)) (omega (arith, at_most, fits)))
  where
    at_most : length args ≤ params
    at_most = subst (λ (k : ℕ). k ≤ params) (map_length args) (subst (λ (t : Slots). length t ≤ params) plain few)

-- a call whose values are dropped
pub call_runs : (site : Site) (levels : ℕ) (st : Stmt) (f : Expr) (xs : List Expr) (s : Slots) (before store : StoreView) (vs : List Value) (n : ℕ) → IsCall f xs st → GivesCall site levels f xs s before.heap vs n → nat_lt (before.steps + (n + 2)) step_limit ≡ true
    → store ≡ counting (n + 2) before → RunsAt site levels true st s before s store
call_runs site levels st f xs s before store vs n is g few steps S p rs a =
    (stmt {S = S} {st = st} {k = sk.Call is.call} {p = p} {s = s} {w = state before rs} is.is_call (lt-ltb _ _ (omega (arith, below)))
    (seq {n = AnExpr is.call} (exp {x = is.call} {k = e.Call is.left is.args} is.calls (lt-ltb (before.steps + 1 + 1) step_limit (omega (arith, below))) (record {
      is =
          ap (λ (y : Expr). do_work (eval S) (value y p s (λ t s'. call_work is.call.line t is.args.value.items p s')) (later 1 (later 1 (state before rs)))) is.callee
          ∙ ap (λ (ys : List Expr). do_work (eval S) (value f p s (λ t s'. call_work is.call.line t ys p s')) (later 1 (later 1 (state before rs)))) is.listed
          ∙ g.is S is.call.line p (later 1 (later 1 (state before rs))) a refl (omega (arith, below));
    })) end)).is
    ∙ ap (λ (k : ℕ). Ended (Values []) s (state (record { heap = before.heap; steps = k }) rs)) added
    ∙ ap (λ (t : StoreView). Ended (Values []) s (state t rs)) (sym steps)
  where
    below : before.steps + (n + 2) < step_limit
    below = ltb-true _ _ few

    added : before.steps + 1 + 1 + n ≡ before.steps + (n + 2)
    added = omega arith

pub call_kind : (st : Stmt) (x : Expr) (f : Rc Expr Global) (args : Rc (Vec Expr Global) Global) → st.kind ≡ sv.Call x → x.kind ≡ v.Call f args → IsCall f.value args.value.items st
call_kind st x f args is calls = record { call = x; left = f; args = args; is_call = rw (is, outs-CallStmt x) refl; calls = rw (calls, outs-Call f args) refl; callee = refl; listed = refl }

pub change_runs : (site : Site) (levels : ℕ) (st : Stmt) (s s' s'' : Slots) (before store : StoreView) (n : ℕ) → StmtEnds site levels st s before.heap (Values []) s' n → s'' ≡ s' → nat_lt (before.steps + n) step_limit ≡ true → store ≡ counting n before → RunsAt site levels true st s before s'' store
change_runs site levels st s s' s'' before store n g put few steps S p rs a =
    g.is S p (state before rs) a refl (ltb-true _ _ few) ∙ ap (λ (t : Slots). Ended (Values []) t (state (counting n before) rs)) (sym put) ∙ ap (λ (t : StoreView). Ended (Values []) s'' (state t rs)) (sym steps)

pub change_sets : (site : Site) (levels : ℕ) (st : Stmt) (i n : ℕ) (v : Value) (r : Bool) (s s' : Slots) (before store : StoreView) → StmtEnds site levels st s before.heap (Values []) (slice_set s i (Plain v)) n → SetsIf r i v n s before s' store
    → RunsAt site levels r st s before s' store
change_sets site levels st i n v true s s' before store g t = change_runs site levels st s (slice_set s i (Plain v)) s' before store n g t.set (lt-ltb _ _ t.few) t.is
change_sets site levels st i n v false s s' before store g t = t

-- a statement that was run without calls, and one that was not
pub runs_anywhere : (site : Site) (levels : ℕ) (st : Stmt) (s s' : Slots) (before store : StoreView) → RunsIf true st s before s' store → RunsAt site levels true st s before s' store
runs_anywhere site levels st s s' before store run = λ S p rs a. run S p rs

pub runs_after : (site : Site) (levels : ℕ) (r : Bool) (st : Stmt) (s mid s' : Slots) (before between store : StoreView) → RunsIf false st s before mid between → RunsAt site levels r st mid between s' store → RunsAt site levels r st s before s' store
runs_after site levels r st s mid s' before between store stays run =
    subst (λ (t : Slots). RunsAt site levels r st t before s' store) stays.0 (subst (λ (w : StoreView). RunsAt site levels r st mid w s' store) stays.1 run)

-- a list of variables with nil for some that are missing in so many
pub record IsPadded (slots us : Slots) (count : ℕ) : Type 0 where
  pub more : ℕ
  pub is : us ≡ slots ++ replicate more (Plain Nil)
  pub within : 0 < more → length us ≤ count

one_more_nil : (more : ℕ) → replicate more (Plain Nil) ++ Plain Nil ∷ [] ≡ replicate (more + 1) (Plain Nil)
one_more_nil zero = refl
one_more_nil (suc more) = ap (λ (t : Slots). Plain Nil ∷ t) (one_more_nil more) ∙ ap (λ (k : ℕ). replicate k (Plain Nil)) (sym (one_later more))

pub padded_more : (slots us us' : Slots) (count : ℕ) → length us < count → us' ≡ us ++ Plain Nil ∷ [] → IsPadded slots us count → IsPadded slots us' count
padded_more slots us us' count below pushed p = record {
  more = p.more + 1;
  is = pushed ∙ ap (λ (t : Slots). t ++ Plain Nil ∷ []) p.is ∙ append_assoc slots (replicate p.more (Plain Nil)) (Plain Nil ∷ []) ∙ ap (λ (t : Slots). slots ++ t) (one_more_nil p.more);
  within = λ some. omega (arith, below, ap length pushed, length-append us (Plain Nil ∷ []));
}

pub padded_whole : (slots us : Slots) (count : ℕ) → count ≤ length us → IsPadded slots us count → us ≡ slots ++ replicate (count - length slots) (Plain Nil)
padded_whole slots us count whole p = p.is ∙ ap (λ (k : ℕ). slots ++ replicate k (Plain Nil)) as_many
  where
    size : length us ≡ length slots + p.more
    size = ap length p.is ∙ length-append slots (replicate p.more (Plain Nil)) ∙ ap (λ (k : ℕ). length slots + k) (length-replicate p.more (Plain Nil))

    as_many : p.more ≡ count - length slots
    as_many = by_more p.more refl
      where
        by_more : (k : ℕ) → p.more ≡ k → p.more ≡ count - length slots
        by_more zero none = omega (arith, none, size, whole)
        by_more (suc k) some = omega (arith, size, whole, p.within (omega (arith, some)))
