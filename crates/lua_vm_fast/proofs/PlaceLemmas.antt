-- What expressions give whose values stand somewhere.
use Rattle.std.specs.Prelude.{◌≡◌, ℕ, ◌+◌, ◌<◌, Bool, true, false, if◌then◌else◌, List, [], ◌∷◌, Option, Some, None, IfSome, slice_get, refl}
use Rattle.std.specs.declared.rc.Rc.{Rc}
use Rattle.std.specs.declared.alloc.Global.{Global}
use Rattle.std.proofs.Common.{sym, ◌∙◌, ap, subst, arith}
use Rattle.std.proofs.lemmas.Bool.{lt-ltb}
use Rattle.lua_ast.specs.declared.expressions.Expr.{Expr}
use Rattle.lua_ast.specs.declared.expressions.ExprKind.{out-ExprKind}
use Rattle.lua_ast.specs.declared.expressions.ExprKind.TheOpen as e
use Rattle.lua_ast.specs.declared.expressions.ExprKind.TheViews.{outs-Global, outs-Index}
use Rattle.lua_ast.specs.declared.expressions.ExprKind.TheVariants as v
use Rattle.lua_values.specs.declared.values.Value.{Value}
use Rattle.lua_values.specs.declared.values.Value.TheVariants.{Table, Text}
use Rattle.lua_values.specs.Heap.{Heap, step_limit}
use Rattle.lua_values.specs.Pairs.{value_at}
use Rattle.lua_values.specs.Values.{is_nil}
use Rattle.lua_values.specs.StoreCalls.{pairs_of}
use Rattle.lua_operators.specs.declared.events.Event.TheVariants.{Index}
use Rattle.lua_meaning.specs.Works.{Places, Slots, Values}
use Rattle.lua_meaning.specs.Evaluator.{State, Ended, do_work}
use Rattle.lua_meaning.specs.Setting.{Setting}
use Rattle.lua_meaning.specs.Signs.{give_one, value}
use Rattle.lua_meaning.specs.Metatables.{handler}
use Rattle.lua_meaning.specs.Indexing.{index_work, index_without}
use Rattle.lua_meaning.specs.Variables.{in_slot}
use Rattle.lua_meaning.specs.Nodes.{eval}
use Rattle.lua_meaning.proofs.DirectLemmas.{index-is}
use Rattle.lua_meaning.proofs.Running.{Does, val, exp, seq, look, node}
use Rattle.lua_vm_fast.specs.declared.places.Seen.{Seen}
use Rattle.lua_vm_fast.specs.declared.places.Valued.{Valued}
use Rattle.lua_vm_fast.specs.Gives.{later, Gives, GivesGlobal, GivesIndex, HasAt, HasAfter, HasIn}
use Rattle.lua_vm_fast.proofs.ValueLemmas.{slot_gives, text_gives}

-- local variables
pub slot_seen : (x : Expr) (s : Slots) (h : Heap) (i : ℕ) (r : Option Seen) → x.kind ≡ v.Slot i → IfSome r (λ c. c.value.now ≡ in_slot (slice_get s i) h) → IfSome r (λ c. c.steps ≡ 1)
    → IfSome r (λ c. Gives x s h c.value.now c.steps)
slot_seen x s h i (Some c) is there steps =
    subst (λ (k : ℕ). Gives x s h c.value.now k) (sym steps) (subst (λ (t : Value). Gives x s h t 1) (sym there) (slot_gives x s h i is))
slot_seen x s h i None is there steps = tt

-- what a table has at a key
pub indexed : (S : Setting) (line t : ℕ) (key u : Value) (p : Places) (s : Slots) (w : State) → u ≡ value_at (pairs_of w.store.heap t) key → is_nil u ≡ false
    → Does S (index_work S line (Table t) key p s) w (Ended (Values (u ∷ [])) s w)
indexed S line t key u p s w is there = record {
  is =
      ap (λ (x : Value). do_work (eval S) (if is_nil x then index_without S (handler w.store.heap (Table t) Index) line (Table t) key p s else give_one x s) w) (sym is)
      ∙ ap (λ (b : Bool). do_work (eval S) (if b then index_without S (handler w.store.heap (Table t) Index) line (Table t) key p s else give_one u s) w) there;
}

-- what the table has that its `__index` is
linked_has : (h : Heap) (t other : ℕ) (key none u : Value) → none ≡ value_at (pairs_of h t) key → is_nil none ≡ true → handler h (Table t) Index ≡ Table other → u ≡ value_at (pairs_of h other) key → is_nil u ≡ false
    → HasAt h t key u 1
linked_has h t other key none u lacks nil link at there = record {
  is = λ S line p s w same few.
      index-is S line t key (Table other) p s w (subst (λ (g : Heap). is_nil (value_at (pairs_of g t) key) ≡ true) (sym same) (subst (λ (x : Value). is_nil x ≡ true) lacks nil))
      (subst (λ (g : Heap). handler g (Table t) Index ≡ Table other) (sym same) link) refl refl
      ∙ (node (lt-ltb _ _ few) (indexed S line other key u p s (later 1 w) (subst (λ (g : Heap). u ≡ value_at (pairs_of g other) key) (sym same) at) there)).is;
}

pub linked_found : (h : Heap) (t other : ℕ) (key none found : Value) (before : ℕ) (r : Option Seen) → none ≡ value_at (pairs_of h t) key → is_nil none ≡ true → handler h (Table t) Index ≡ Table other → found ≡ value_at (pairs_of h other) key
    → IfSome r (λ c. c.value.now ≡ found) → IfSome r (λ c. is_nil c.value.now ≡ false) → IfSome r (λ c. c.steps ≡ before + 1) → IfSome r (λ c. HasAfter h t key c.value.now before c.steps)
linked_found h t other key none found before (Some c) lacks nil link at is there steps =
    record { links = 1; has = linked_has h t other key none c.value.now lacks nil link (is ∙ at) there; sum = steps }
linked_found h t other key none found before None lacks nil link at is there steps = tt

-- global variables
global_does : (S : Setting) (line : ℕ) (s : Slots) (h : Heap) (name : List ℕ) (u : Value) (m : ℕ) (p : Places) (w : State) → w.store.heap ≡ h → HasAt h h.globals (Text name) u m → w.store.steps + (m + 1) < step_limit
    → Does S (index_work S line (Table w.store.heap.globals) (Text name) p s) (later 1 w) (Ended (Values (u ∷ [])) s (later (m + 1) w))
global_does S line s h name u m p w same has few = record {
  is =
      (subst (λ (g : Heap). HasAt g g.globals (Text name) u m) (sym same) has).is S line p s (later 1 w) refl (omega (arith, few))
      ∙ ap (λ (k : ℕ). Ended (Values (u ∷ [])) s (record w { store = record { heap = w.store.heap; steps = k } })) sums;
}
  where
    sums : w.store.steps + 1 + m ≡ w.store.steps + (m + 1)
    sums = omega arith

pub global_gives : (h : Heap) (name : List ℕ) (u : Value) (m : ℕ) → HasAt h h.globals (Text name) u m → GivesGlobal name h u (m + 1)
global_gives h name u m has = λ x s is. record {
  one = λ S p w same few. (val {S = S} {x = x} {k = e.Global name} {p = p} {s = s} {w = w} is (lt-ltb _ _ (omega (arith, few))) (look (global_does S x.line s h name u m p w same has few))).is;
  all = λ S p w same few. (exp {S = S} {x = x} {k = e.Global name} {p = p} {s = s} {w = w} is (lt-ltb _ _ (omega (arith, few))) (look (global_does S x.line s h name u m p w same has few))).is;
}

pub global_found : (h : Heap) (name : List ℕ) (t : ℕ) (r : Option Seen) → t ≡ h.globals → IfSome r (λ c. HasAfter h t (Text name) c.value.now 1 c.steps) → IfSome r (λ c. GivesGlobal name h c.value.now c.steps)
global_found h name t (Some c) is has =
    let steps : c.steps ≡ has.links + 1 = omega (arith, has.sum) in
    subst (λ (k : ℕ). GivesGlobal name h c.value.now k) (sym steps) (global_gives h name c.value.now has.links (subst (λ (k : ℕ). HasAt h k (Text name) c.value.now has.links) is has.has))
global_found h name t None is has = tt

pub global_seen : (x : Expr) (s : Slots) (h : Heap) (name : List ℕ) (r : Option Seen) → x.kind ≡ v.Global name → IfSome r (λ c. GivesGlobal name h c.value.now c.steps) → IfSome r (λ c. Gives x s h c.value.now c.steps)
global_seen x s h name (Some c) is g = g x s (rw (is, outs-Global name) refl)
global_seen x s h name None is g = tt

-- entries of tables
index_does : (S : Setting) (line : ℕ) (a b : Expr) (s : Slots) (h : Heap) (t : ℕ) (key u : Value) (i j m : ℕ) (p : Places) (w : State) → w.store.heap ≡ h → Gives a s h (Table t) i → Gives b s h key j → HasAt h t key u m
    → w.store.steps + (i + j + m + 1) < step_limit
    → Does S (value a p s (λ x s'. value b p s' (λ y s''. index_work S line x y p s''))) (later 1 w) (Ended (Values (u ∷ [])) s (later (i + j + m + 1) w))
index_does S line a b s h t key u i j m p w same ga gb has few =
    seq (record { is = ga.one S p (later 1 w) same (omega (arith, few)) }) (seq (record { is = gb.one S p (later i (later 1 w)) same (omega (arith, few)) })
    (record { is = has.is S line p s (later j (later i (later 1 w))) same (omega (arith, few)) ∙ ap (λ (k : ℕ). Ended (Values (u ∷ [])) s (record w { store = record { heap = w.store.heap; steps = k } })) sums }))
  where
    sums : w.store.steps + 1 + i + j + m ≡ w.store.steps + (i + j + m + 1)
    sums = omega arith

pub index_gives : (x : Expr) (a b : Rc Expr Global) (s : Slots) (h : Heap) (t : ℕ) (key u : Value) (i j m : ℕ) → out-ExprKind x.kind ≡ e.Index a b → Gives a.value s h (Table t) i → Gives b.value s h key j → HasAt h t key u m → Gives x s h u (i + j + m + 1)
index_gives x a b s h t key u i j m is ga gb has = record {
  one = λ S p w same few. (val {S = S} {x = x} {k = e.Index a b} {p = p} {s = s} {w = w} is (lt-ltb _ _ (omega (arith, few))) (index_does S x.line a.value b.value s h t key u i j m p w same ga gb has few)).is;
  all = λ S p w same few. (exp {S = S} {x = x} {k = e.Index a b} {p = p} {s = s} {w = w} is (lt-ltb _ _ (omega (arith, few))) (index_does S x.line a.value b.value s h t key u i j m p w same ga gb has few)).is;
}

pub index_seen : (a b : Expr) (s : Slots) (h : Heap) (t : ℕ) (object key : Value) (i j before : ℕ) (r : Option Seen) → object ≡ Table t → Gives a s h object i → Gives b s h key j → before ≡ i + j + 1 → IfSome r (λ c. HasAfter h t key c.value.now before c.steps)
    → IfSome r (λ c. GivesIndex a b s h c.value.now c.steps)
index_seen a b s h t object key i j before (Some c) table ga gb sum has = λ x left right is l r.
    let steps : c.steps ≡ i + j + has.links + 1 = omega (arith, sum, has.sum) in
    subst (λ (k : ℕ). Gives x s h c.value.now k) (sym steps)
    (index_gives x left right s h t key c.value.now i j has.links is (subst (λ (z : Expr). Gives z s h (Table t) i) (sym l) (subst (λ (o : Value). Gives a s h o i) table ga)) (subst (λ (z : Expr). Gives z s h key j) (sym r) gb) has.has)
index_seen a b s h t object key i j before None table ga gb sum has = tt

-- the same, where the key is found out last
pub in_seen : (a b : Expr) (s : Slots) (h : Heap) (t : ℕ) (object : Value) (i : ℕ) (r : Option Seen) → object ≡ Table t → Gives a s h object i → IfSome r (λ c. HasIn h t b s c.value.now i c.steps) → IfSome r (λ c. GivesIndex a b s h c.value.now c.steps)
in_seen a b s h t object i (Some c) table ga has = index_seen a b s h t object has.key i has.key_steps (i + has.key_steps + 1) (Some c) table ga has.gives refl has.has
in_seen a b s h t object i None table ga has = tt

pub key_seen : (b : Expr) (s : Slots) (h : Heap) (t : ℕ) (key : Value) (j before : ℕ) (r : Option Seen) → Gives b s h key j → IfSome r (λ c. HasAfter h t key c.value.now (before + j + 1) c.steps) → IfSome r (λ c. HasIn h t b s c.value.now before c.steps)
key_seen b s h t key j before (Some c) g has = record { key = key; key_steps = j; gives = g; has = has }
key_seen b s h t key j before None g has = tt

-- and at a text
pub named_seen : (b : Expr) (s : Slots) (h : Heap) (t : ℕ) (name : List ℕ) (before : ℕ) (r : Option Seen) → b.kind ≡ v.Text name → IfSome r (λ c. HasAfter h t (Text name) c.value.now (before + 2) c.steps)
    → IfSome r (λ c. HasIn h t b s c.value.now before c.steps)
named_seen b s h t name before r is has =
    let sums : before + 2 ≡ before + 1 + 1 = omega arith in
    key_seen b s h t (Text name) 1 before r (text_gives b s h name is) (subst (λ (k : ℕ). IfSome r (λ c. HasAfter h t (Text name) c.value.now k c.steps)) sums has)

pub index_found : (x : Expr) (a b : Rc Expr Global) (y z : Expr) (s : Slots) (h : Heap) (r : Option Seen) → x.kind ≡ v.Index a b → y ≡ a.value → z ≡ b.value → IfSome r (λ c. GivesIndex y z s h c.value.now c.steps) → IfSome r (λ c. Gives x s h c.value.now c.steps)
index_found x a b y z s h (Some c) is l r g = g x a b (rw (is, outs-Index a b) refl) (sym l) (sym r)
index_found x a b y z s h None is l r g = tt

-- values that are copied
pub seen_copied : (x : Expr) (s : Slots) (h : Heap) (c : Seen) (value : Value) (steps : ℕ) (r : Option Valued) → value ≡ c.value.now → steps ≡ c.steps → Gives x s h c.value.now c.steps → IfSome r (λ v. v.value ≡ value) → IfSome r (λ v. v.steps ≡ steps)
    → IfSome r (λ v. Gives x s h v.value v.steps)
seen_copied x s h c value steps (Some v) same many g is sum =
    subst (λ (k : ℕ). Gives x s h v.value k) (sym (sum ∙ many)) (subst (λ (u : Value). Gives x s h u c.steps) (sym (is ∙ same)) g)
seen_copied x s h c value steps None same many g is sum = tt

pub text_seen : (x : Expr) (s : Slots) (h : Heap) (t : List ℕ) (r : Option Valued) → x.kind ≡ v.Text t → IfSome r (λ v. v.value ≡ Text t) → IfSome r (λ v. v.steps ≡ 1) → IfSome r (λ v. Gives x s h v.value v.steps)
text_seen x s h t (Some c) is value steps = subst (λ (k : ℕ). Gives x s h c.value k) (sym steps) (subst (λ (u : Value). Gives x s h u 1) (sym value) (text_gives x s h t is))
text_seen x s h t None is value steps = tt
