-- What items do with what they take.
use Rattle.std.specs.Prelude.{◌≡◌, List, Result, refl}
use Rattle.std.proofs.Common.{sym, ◌∙◌, ap}
use Rattle.lua_ast.specs.declared.expressions.Expr.{Expr}
use Rattle.lua_values.specs.declared.values.Value.{Value}
use Rattle.lua_values.specs.Heap.{StoreView}
use Rattle.lua_meaning.specs.Works.{Places, Slots, AValue, Sign, Values, Return, Break, Failed, Work, Eval}
use Rattle.lua_meaning.specs.Setting.{Setting}
use Rattle.lua_meaning.specs.Signs.{first, on_values}
use Rattle.lua_frames.specs.declared.flow.Flow.{Flow}
use Rattle.lua_frames.specs.declared.items.Item.{Item}
use Rattle.lua_frames.specs.declared.threads.Frames.{Frames}
use Rattle.lua_frames.specs.Signals.{sign_of, HasFirst, HasValues}
use Rattle.lua_frames.specs.Items.{resume_item}
use Rattle.lua_frames.specs.Frames.{here, slots_of}
use Rattle.lua_frames.specs.Follows.{Works}
use Rattle.lua_frames.proofs.FollowLemmas.{works_as, works_from}

-- the first value goes on
pub first_goes : (go : Value → Slots → Work) (sign : Sign) (v : Value) (s : Slots) → HasFirst sign v → on_values (λ vs s'. go (first vs) s') sign s ≡ go v s
first_goes go (Values vs) v s h = ap (λ (x : Value). go x s) (sym h)
first_goes go (Return vs) v s h = absurd h
first_goes go Break v s h = absurd h
first_goes go (Failed x) v s h = absurd h

-- all values go on
pub on_all : (go : List Value → Slots → Work) (sign : Sign) (vs : List Value) (s : Slots) → HasValues sign vs → on_values go sign s ≡ go vs s
on_all go (Values us) vs s h = ap (λ (x : List Value). go x s) (sym h)
on_all go (Return us) vs s h = absurd h
on_all go Break vs s h = absurd h
on_all go (Failed x) vs s h = absurd h

-- an item that wants one value goes on with the first of those that are given
pub takes_one : {E : Type 0} (S : Setting) (go : Places → Value → Slots → Work) (v : Value) (old mid fs : Frames) (before store : StoreView) (r : Result Flow E)
    → HasFirst (sign_of old.given) v → mid.below ≡ old.below → mid.top ≡ old.top → Works S (go (here mid) v (slots_of mid)) mid before fs store r
    → Works S (on_values (λ vs s'. go (here old) (first vs) s') (sign_of old.given) (slots_of old)) old before fs store r
takes_one S go v old mid fs before store r h b t w =
    works_as S (on_values (λ vs s'. go (here old) (first vs) s') (sign_of old.given) (slots_of old)) (go (here mid) v (slots_of mid)) old fs before store r
    (works_from S (go (here mid) v (slots_of mid)) old mid fs before store r b t w)
    (first_goes (go (here old)) (sign_of old.given) v (slots_of old) h ∙ rw (b, t) refl)

-- an item that wants all values goes on with those that are given
pub takes_all : {E : Type 0} (S : Setting) (go : Places → List Value → Slots → Work) (vs : List Value) (old mid fs : Frames) (before store : StoreView) (r : Result Flow E)
    → HasValues (sign_of old.given) vs → mid.below ≡ old.below → mid.top ≡ old.top → Works S (go (here mid) vs (slots_of mid)) mid before fs store r
    → Works S (on_values (go (here old)) (sign_of old.given) (slots_of old)) old before fs store r
takes_all S go vs old mid fs before store r h b t w =
    works_as S (on_values (go (here old)) (sign_of old.given) (slots_of old)) (go (here mid) vs (slots_of mid)) old fs before store r
    (works_from S (go (here mid) vs (slots_of mid)) old mid fs before store r b t w)
    (on_all (go (here old)) (sign_of old.given) vs (slots_of old) h ∙ rw (b, t) refl)

-- an item that evaluates an expression next, under another item
pub takes_value : {E : Type 0} (S : Setting) (x y : Expr) (next : Item) (go : Places → Value → Slots → Work) (v : Value) (old mid fs : Frames) (before store : StoreView) (r : Result Flow E)
    → HasFirst (sign_of old.given) v → mid.below ≡ old.below → mid.top ≡ old.top → x ≡ y → ((p : Places) (s : Slots) → go p v s ≡ Eval (AValue y) p s (resume_item S next p))
    → Works S (Eval (AValue x) (here mid) (slots_of mid) (resume_item S next (here mid))) mid before fs store r
    → Works S (on_values (λ vs s'. go (here old) (first vs) s') (sign_of old.given) (slots_of old)) old before fs store r
takes_value S x y next go v old mid fs before store r h b t same is w =
    takes_one S go v old mid fs before store r h b t
    (works_as S (go (here mid) v (slots_of mid)) (Eval (AValue x) (here mid) (slots_of mid) (resume_item S next (here mid))) mid fs before store r w
    (is (here mid) (slots_of mid) ∙ ap (λ (e : Expr). Eval (AValue e) (here mid) (slots_of mid) (resume_item S next (here mid))) (sym same)))
