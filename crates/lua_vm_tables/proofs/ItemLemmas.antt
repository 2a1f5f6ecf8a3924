-- The items of constructors, one after another.
use Rattle.std.specs.Prelude.{◌≡◌, ℕ, zero, suc, ◌+◌, ◌≤◌, ◌<◌, List, [], ◌∷◌, length, drop, Result, refl}
use Rattle.std.proofs.Common.{sym, ◌∙◌, ap, arith, Vec, Global}
use Rattle.std.specs.declared.rc.Rc.{Rc}
use Rattle.lua_ast.specs.declared.expressions.Expr.{Expr}
use Rattle.lua_ast.specs.declared.expressions.TableItem.{TableItem}
use Rattle.lua_ast.specs.declared.expressions.TableItem as item
use Rattle.lua_values.specs.declared.values.Value.{Value}
use Rattle.lua_values.specs.declared.values.Value.TheVariants.{Table}
use Rattle.lua_values.specs.Heap.{StoreView}
use Rattle.lua_values.specs.Values.{number}
use Rattle.lua_meaning.specs.Works.{AValue, AnExpr, Values, Eval}
use Rattle.lua_meaning.specs.Setting.{Setting}
use Rattle.lua_meaning.specs.Positions.{callers_at}
use Rattle.lua_meaning.specs.Signs.{give_one}
use Rattle.lua_meaning.specs.Indexing.{set_work}
use Rattle.lua_meaning.specs.Tables.{items_work}
use Rattle.lua_frames.specs.declared.flow.Flow.{Flow}
use Rattle.lua_frames.specs.declared.items.Item.TheVariants as i
use Rattle.lua_frames.specs.declared.targets.Constructor.{Constructor}
use Rattle.lua_frames.specs.declared.threads.Frames.{Frames}
use Rattle.lua_frames.specs.Items.{resume_item, on_value, items_left, value_at_key}
use Rattle.lua_frames.specs.Frames.{here, slots_of}
use Rattle.lua_frames.specs.Follows.{Works}
use Rattle.lua_frames.specs.Changes.{Ends}
use Rattle.lua_frames.proofs.FollowLemmas.{works_as, ends_works}

-- the item of a constructor after the next one
abbrev pub past : Constructor → Constructor
past c = record { line = c.line; table = c.table; number = c.number; items = c.items; next = c.next + 1 }

-- what is at the front, in a list behind a second pointer
at_front : (c : Constructor) (copy : Rc (Vec TableItem Global) Global) (front : List TableItem) → copy.value ≡ c.items.value → drop c.next copy.value.items ≡ front → drop c.next c.items.value.items ≡ front
at_front c copy front same e = ap (λ (v : Vec TableItem Global). drop c.next v.items) (sym same) ∙ e

-- none is left
pub items_end : {E : Type 0} (S : Setting) (c : Constructor) (copy : Rc (Vec TableItem Global) Global) (old new : Frames) (store : StoreView) (r : Result Flow E)
    → copy.value ≡ c.items.value → drop c.next copy.value.items ≡ [] → Ends (Values (Table c.table ∷ [])) old new r
    → Works S (items_left S c.number c (here old) (slots_of old)) old store new store r
items_end S c copy old new store r same none k =
    works_as S (items_left S c.number c (here old) (slots_of old)) (give_one (Table c.table) (slots_of old)) old new store store r (ends_works S (Values (Table c.table ∷ [])) old new store r k)
    (ap (λ (ys : List TableItem). items_work S c.line c.table c.number ys (here old) (slots_of old)) (at_front c copy [] same none))

-- a pair: its key comes first
pub pair_begins : {E : Type 0} (S : Setting) (c : Constructor) (copy : Rc (Vec TableItem Global) Global) (key x : Expr) (rest : List TableItem) (old fs : Frames) (before store : StoreView) (r : Result Flow E)
    → copy.value ≡ c.items.value → drop c.next copy.value.items ≡ item.Pair key x ∷ rest
    → Works S (Eval (AValue key) (here old) (slots_of old) (resume_item S (i.ItemKey c) (here old))) old before fs store r
    → Works S (items_left S c.number c (here old) (slots_of old)) old before fs store r
pair_begins S c copy key x rest old fs before store r same e w =
    works_as S (items_left S c.number c (here old) (slots_of old)) (Eval (AValue key) (here old) (slots_of old) (resume_item S (i.ItemKey c) (here old))) old fs before store r w
    (ap (λ (ys : List TableItem). items_work S c.line c.table c.number ys (here old) (slots_of old)) there
    ∙ ap (λ (ys : List TableItem). Eval (AValue key) (here old) (slots_of old) (on_value (λ k s'. value_at_key S c ys k (here old) s'))) (sym there))
  where
    there : drop c.next c.items.value.items ≡ item.Pair key x ∷ rest
    there = at_front c copy (item.Pair key x ∷ rest) same e

-- and then its value
pub value_begins : {E : Type 0} (S : Setting) (c : Constructor) (copy : Rc (Vec TableItem Global) Global) (key x : Expr) (k : Value) (old fs : Frames) (before store : StoreView) (r : Result Flow E)
    → copy.value ≡ c.items.value → drop c.next copy.value.items ≡ item.Pair key x ∷ drop (c.next + 1) copy.value.items
    → Works S (Eval (AValue x) (here old) (slots_of old) (resume_item S (i.ItemAtKey (past c) k) (here old))) old before fs store r
    → Works S (value_at_key S c (drop c.next c.items.value.items) k (here old) (slots_of old)) old before fs store r
value_begins S c copy key x k old fs before store r same e w =
    works_as S (value_at_key S c (drop c.next c.items.value.items) k (here old) (slots_of old)) (Eval (AValue x) (here old) (slots_of old) (resume_item S (i.ItemAtKey (past c) k) (here old))) old fs before store r w
    (ap (λ (ys : List TableItem). value_at_key S c ys k (here old) (slots_of old)) (at_front c copy (item.Pair key x ∷ drop (c.next + 1) c.items.value.items) same (e ∙ ap (λ (v : Vec TableItem Global). item.Pair key x ∷ drop (c.next + 1) v.items) same)))

-- no pair is at the front
pub no_pair : {E : Type 0} (S : Setting) (c : Constructor) (copy : Rc (Vec TableItem Global) Global) (x : Expr) (rest : List TableItem) (k : Value) (old new : Frames) (store : StoreView) (r : Result Flow E)
    → copy.value ≡ c.items.value → drop c.next copy.value.items ≡ item.Item x ∷ rest → Ends (Values (Table c.table ∷ [])) old new r
    → Works S (value_at_key S c (drop c.next c.items.value.items) k (here old) (slots_of old)) old store new store r
no_pair S c copy x rest k old new store r same e h =
    works_as S (value_at_key S c (drop c.next c.items.value.items) k (here old) (slots_of old)) (give_one (Table c.table) (slots_of old)) old new store store r (ends_works S (Values (Table c.table ∷ [])) old new store r h)
    (ap (λ (ys : List TableItem). value_at_key S c ys k (here old) (slots_of old)) (at_front c copy (item.Item x ∷ rest) same e))

pub no_item : {E : Type 0} (S : Setting) (c : Constructor) (copy : Rc (Vec TableItem Global) Global) (k : Value) (old new : Frames) (store : StoreView) (r : Result Flow E)
    → copy.value ≡ c.items.value → drop c.next copy.value.items ≡ [] → Ends (Values (Table c.table ∷ [])) old new r
    → Works S (value_at_key S c (drop c.next c.items.value.items) k (here old) (slots_of old)) old store new store r
no_item S c copy k old new store r same e h =
    works_as S (value_at_key S c (drop c.next c.items.value.items) k (here old) (slots_of old)) (give_one (Table c.table) (slots_of old)) old new store store r (ends_works S (Values (Table c.table ∷ [])) old new store r h)
    (ap (λ (ys : List TableItem). value_at_key S c ys k (here old) (slots_of old)) (at_front c copy [] same e))

none_after : (xs : List TableItem) (n : ℕ) → length xs ≤ n → drop n xs ≡ []
none_after [] zero h = refl
none_after [] (suc n) h = refl
none_after (x ∷ xs) zero h = absurd (omega (arith, h))
none_after (x ∷ xs) (suc n) h = none_after xs n (omega (arith, h))

some_after : (xs : List TableItem) (n : ℕ) → n < length xs → (x : TableItem) × (rest : List TableItem) × (drop n xs ≡ x ∷ rest)
some_after [] zero h = absurd (omega (arith, h))
some_after [] (suc n) h = absurd (omega (arith, h))
some_after (x ∷ xs) zero h = (x, xs, refl)
some_after (x ∷ xs) (suc n) h = some_after xs n (omega (arith, h))

-- the last item without a key gives all of its values
pub last_begins : {E : Type 0} (S : Setting) (c : Constructor) (copy : Rc (Vec TableItem Global) Global) (x : Expr) (old fs : Frames) (before store : StoreView) (r : Result Flow E)
    → copy.value ≡ c.items.value → drop c.next copy.value.items ≡ item.Item x ∷ drop (c.next + 1) copy.value.items → length copy.value.items ≤ c.next + 1
    → Works S (Eval (AnExpr x) (here old) (slots_of old) (resume_item S (i.ItemsAtNumbers (past c)) (here old))) old before fs store r
    → Works S (items_left S c.number c (here old) (slots_of old)) old before fs store r
last_begins S c copy x old fs before store r same e last w =
    works_as S (items_left S c.number c (here old) (slots_of old)) (Eval (AnExpr x) (here old) (slots_of old) (resume_item S (i.ItemsAtNumbers (past c)) (here old))) old fs before store r w
    (ap (λ (ys : List TableItem). items_work S c.line c.table c.number ys (here old) (slots_of old)) (at_front c copy (item.Item x ∷ []) same (e ∙ ap (λ (ys : List TableItem). item.Item x ∷ ys) (none_after copy.value.items (c.next + 1) last))))

-- and any other gives one
pub item_begins : {E : Type 0} (S : Setting) (c : Constructor) (copy : Rc (Vec TableItem Global) Global) (x : Expr) (old fs : Frames) (before store : StoreView) (r : Result Flow E)
    → copy.value ≡ c.items.value → drop c.next copy.value.items ≡ item.Item x ∷ drop (c.next + 1) copy.value.items → c.next + 1 < length copy.value.items
    → Works S (Eval (AValue x) (here old) (slots_of old) (resume_item S (i.ItemAtNumber (past c)) (here old))) old before fs store r
    → Works S (items_left S c.number c (here old) (slots_of old)) old before fs store r
item_begins S c copy x old fs before store r same e more w =
    works_as S (items_left S c.number c (here old) (slots_of old)) (Eval (AValue x) (here old) (slots_of old) (resume_item S (i.ItemAtNumber (past c)) (here old))) old fs before store r w
    (ap (λ (ys : List TableItem). items_work S c.line c.table c.number ys (here old) (slots_of old)) (at_front c copy (item.Item x ∷ y ∷ rest) same (e ∙ ap (λ (ys : List TableItem). item.Item x ∷ ys) left))
    ∙ ap (λ (ys : List TableItem). Eval (AValue x) (here old) (slots_of old) (on_value (λ v s'. set_work S (callers_at (here old) c.line) c.table (number c.number) v s' (items_work S c.line c.table (c.number + 1) ys (here old) s'))))
    (sym left ∙ ap (λ (v : Vec TableItem Global). drop (c.next + 1) v.items) same))
  where
    y : TableItem
    y = (some_after copy.value.items (c.next + 1) more).0

    rest : List TableItem
    rest = (some_after copy.value.items (c.next + 1) more).1

    left : drop (c.next + 1) copy.value.items ≡ y ∷ rest
    left = (some_after copy.value.items (c.next + 1) more).2
