-- Work that goes on with other work, expressions and calls keep to what is known.
use Rattle.std.proofs.Common.{◌≡◌, ℕ, ◌++◌, Bool, true, false, List, [], ◌∷◌, Option, None, Some, All, refl}
use Rattle.std.proofs.lemmas.List.Elements.{All-nil, All-cons, All-head, All-tail, All-append, All-push}
use Rattle.lua_ast.specs.declared.expressions.Expr.{Expr}
use Rattle.lua_values.specs.declared.values.Value.{Value}
use Rattle.lua_values.specs.declared.faults.StoreFault.{StoreFault}
use Rattle.lua_values.specs.Heap.{Heap}
use Rattle.lua_operators.specs.declared.faults.Fault.{Fault}
use Rattle.lua_meaning.specs.Works.{Caller, Places, Slots, Node, Sign, Values, Return, Break, Failed, Work, End, Eval, Outside, Look, Write, Count, and_then}
use Rattle.lua_meaning.specs.Setting.{Setting}
use Rattle.lua_meaning.specs.Positions.{raise}
use Rattle.lua_meaning.specs.Signs.{first, give_one, on_values, value, listed, more, values_of}
use Rattle.lua_meaning.specs.Variables.{unless_refused}
use Rattle.lua_meaning.specs.Calls.{calling, call_end, call_at, call, call_for_one, returned, tail_call}
use Rattle.lua_meaning_laws.specs.Standing.{Stands, Known, StandsAfter}
use Rattle.lua_meaning_laws.proofs.Known.{Given, SlotKnown, SlotsKnown, SignKnown, PlacesKnown, ExprIn, NodeKnown, WorkKnown, ValuesGo, ValueGo, same_heap, later_heap, values_later, slots_later, places_later}
use Rattle.lua_meaning_laws.proofs.Readings.{first_known}

module _ (S : Setting) (G : Given S) where
  -- ---- ends
  pub gives_one : (h : Heap) (v : Value) (s : Slots) → Known S h v → SlotsKnown S h s → WorkKnown S h (give_one v s)
  gives_one h v s k sk = (All-cons (Known S h) v [] k (All-nil (Known S h)), sk)

  pub raises : (h : Heap) (callers : List Caller) (text : List ℕ) (s : Slots) → SlotsKnown S h s → WorkKnown S h (raise S callers text s)
  raises h callers text s sk = ((tt, tt), sk)

  pub unless_known : (h : Heap) (callers : List Caller) (fault : StoreFault → Fault) (cause : Option StoreFault) (s : Slots) (go : Work)
      → SlotsKnown S h s → (cause ≡ None → WorkKnown S h go) → WorkKnown S h (unless_refused S callers fault cause s go)
  unless_known h callers fault (Some cause) s go sk each = ((tt, tt), sk)
  unless_known h callers fault None s go sk each = each refl

  -- ---- values
  pub on_known : (h : Heap) (go : List Value → Slots → Work) (sign : Sign) (s : Slots) → SignKnown S h sign → SlotsKnown S h s
      → ((vs : List Value) → All (Known S h) vs → WorkKnown S h (go vs s)) → WorkKnown S h (on_values go sign s)
  on_known h go (Values vs) s k sk each = each vs k
  on_known h go (Return vs) s k sk each = (k, sk)
  on_known h go Break s k sk each = (tt, sk)
  on_known h go (Failed v) s k sk each = (k, sk)

  pub eval_known : (h : Heap) (n : Node) (p : Places) (s : Slots) (go : List Value → Slots → Work) → NodeKnown S h n → PlacesKnown S h p → SlotsKnown S h s → ValuesGo S h go
      → WorkKnown S h (Eval n p s (on_values go))
  eval_known h n p s go nk pk sk each = (nk, pk, sk, λ g sign s' l k sk'. on_known g go sign s' k sk' (λ vs vk. each g vs s' l vk sk'))

  -- a node whose end is that of the work
  pub ends_known : (h : Heap) (n : Node) (p : Places) (s : Slots) → NodeKnown S h n → PlacesKnown S h p → SlotsKnown S h s → WorkKnown S h (Eval n p s (λ sign s'. End sign s'))
  ends_known h n p s nk pk sk = (nk, pk, sk, λ g sign s' l k sk'. (k, sk'))

  pub value_known : (h : Heap) (x : Expr) (p : Places) (s : Slots) (go : Value → Slots → Work) → ExprIn S x → PlacesKnown S h p → SlotsKnown S h s → ValueGo S h go
      → WorkKnown S h (value x p s go)
  value_known h x p s go e pk sk each =
      (e, pk, sk, λ g sign s' l k sk'. on_known g (λ vs s''. go (first vs) s'') sign s' k sk' (λ vs vk. each g (first vs) s' l (first_known S G g vs vk) sk'))

  pub then_known : (h : Heap) (q : Work) (next : Sign → Slots → Work) → Stands S h → WorkKnown S h q
      → ((g : Heap) (sign : Sign) (s : Slots) → StandsAfter S h g → SignKnown S g sign → SlotsKnown S g s → WorkKnown S g (next sign s)) → WorkKnown S h (and_then q next)
  then_known h (End sign s) next st k each = each h sign s (same_heap S G h st) k.0 k.1
  then_known h (Eval n p s go) next st k each =
      (k.0, k.1, k.2, λ g sign s' l sg sk. then_known g (go sign s') next l.stands (k.3 g sign s' l sg sk) (λ g' sign' s'' l'. each g' sign' s'' (later_heap S G h g g' l l')))
  then_known h (Outside number args position go) next st k each =
      (k.0, λ g answer l ak. then_known g (go answer) next l.stands (k.1 g answer l ak) (λ g' sign s l'. each g' sign s (later_heap S G h g g' l l')))
  then_known h (Look go) next st k each = then_known h (go h) next st k each
  then_known h (Write g go) next st k each = (k.0, then_known g go next k.0.stands k.1 (λ g' sign s l'. each g' sign s (later_heap S G h g g' k.0 l')))
  then_known h (Count n go) next st k each = then_known h go next st k each

  -- and with values
  pub then_values : (h : Heap) (q : Work) (go : List Value → Slots → Work) → Stands S h → WorkKnown S h q → ValuesGo S h go → WorkKnown S h (and_then q (on_values go))
  then_values h q go st k each = then_known h q (on_values go) st k (λ g sign s l sg sk. on_known g go sign s sg sk (λ vs vk. each g vs s l vk sk))

  listed_known : (h : Heap) (x : Expr) (xs : List Expr) → ExprIn S x → NodeKnown S h (listed x xs)
  listed_known h x [] e = e
  listed_known h x (y ∷ ys) e = e

  pub more_known : (h : Heap) (xs : List Expr) (p : Places) (done vs : List Value) (s : Slots) → All (ExprIn S) xs → PlacesKnown S h p → All (Known S h) done → All (Known S h) vs → SlotsKnown S h s
      → WorkKnown S h (more xs p done vs s)
  more_known h [] p done vs s e pk dk vk sk = (All-append (Known S h) done vs dk vk, sk)
  more_known h (x ∷ xs) p done vs s e pk dk vk sk = (
    listed_known h x xs (All-head (ExprIn S) x xs e),
    pk,
    sk,
    λ g sign s' l k sk'. on_known g (more xs p (done ++ first vs ∷ [])) sign s' k sk' (λ us uk.
        more_known g xs p (done ++ first vs ∷ []) us s' (All-tail (ExprIn S) x xs e) (places_later S G h g p l pk)
        (values_later S G h g (done ++ first vs ∷ []) l (All-push (Known S h) done (first vs) dk (first_known S G h vs vk))) uk sk'),
  )

  pub values_known : (h : Heap) (xs : List Expr) (p : Places) (s : Slots) → All (ExprIn S) xs → PlacesKnown S h p → SlotsKnown S h s → WorkKnown S h (values_of xs p s)
  values_known h [] p s e pk sk = (All-nil (Known S h), sk)
  values_known h (x ∷ xs) p s e pk sk = (
    listed_known h x xs (All-head (ExprIn S) x xs e),
    pk,
    sk,
    λ g sign s' l k sk'. on_known g (more xs p []) sign s' k sk' (λ us uk.
        more_known g xs p [] us s' (All-tail (ExprIn S) x xs e) (places_later S G h g p l pk) (All-nil (Known S g)) uk sk'),
  )

  pub with_values_known : (h : Heap) (xs : List Expr) (p : Places) (s : Slots) (go : List Value → Slots → Work) → Stands S h → All (ExprIn S) xs → PlacesKnown S h p → SlotsKnown S h s → ValuesGo S h go
      → WorkKnown S h (and_then (values_of xs p s) (on_values go))
  with_values_known h xs p s go st e pk sk each = then_values h (values_of xs p s) go st (values_known h xs p s e pk sk) each

  -- ---- calls
  pub calling_known : (h : Heap) (callers : List Caller) (tail : Bool) → PlacesKnown S h (calling callers tail)
  calling_known h callers tail = record { cells = All-nil _; extras = All-nil (Known S h) }

  pub call_end_known : (h : Heap) (sign : Sign) → SignKnown S h sign → SignKnown S h (call_end sign)
  call_end_known h (Values vs) k = k
  call_end_known h (Return vs) k = k
  call_end_known h Break k = All-nil (Known S h)
  call_end_known h (Failed v) k = k

  pub call_at_known : (h : Heap) (q : Places) (f : Value) (args : List Value) (go : Sign → Work) → PlacesKnown S h q → Known S h f → All (Known S h) args
      → ((g : Heap) (sign : Sign) → StandsAfter S h g → SignKnown S g sign → WorkKnown S g (go sign)) → WorkKnown S h (call_at q f args go)
  call_at_known h q f args go qk fk ak each = ((fk, ak), qk, All-nil (SlotKnown S h), λ g sign s l k sk. each g (call_end sign) l (call_end_known g sign k))

  pub call_known : (h : Heap) (callers : List Caller) (f : Value) (args : List Value) (s : Slots) → Known S h f → All (Known S h) args → SlotsKnown S h s → WorkKnown S h (call callers f args s)
  call_known h callers f args s fk ak sk =
      call_at_known h (calling callers false) f args (λ sign. End sign s) (calling_known h callers false) fk ak (λ g sign l k. (k, slots_later S G h g s l sk))

  pub call_one_known : (h : Heap) (callers : List Caller) (f : Value) (args : List Value) (s : Slots) (go : Value → Slots → Work) → Known S h f → All (Known S h) args → SlotsKnown S h s → ValueGo S h go
      → WorkKnown S h (call_for_one callers f args s go)
  call_one_known h callers f args s go fk ak sk each =
      call_at_known h (calling callers false) f args (λ sign. on_values (λ vs s'. go (first vs) s') sign s) (calling_known h callers false) fk ak
      (λ g sign l k. on_known g (λ vs s'. go (first vs) s') sign s k (slots_later S G h g s l sk) (λ vs vk. each g (first vs) s l (first_known S G g vs vk) (slots_later S G h g s l sk)))

  returned_known : (h : Heap) (sign : Sign) → SignKnown S h sign → SignKnown S h (returned sign)
  returned_known h (Values vs) k = k
  returned_known h (Return vs) k = k
  returned_known h Break k = All-nil (Known S h)
  returned_known h (Failed v) k = k

  pub tail_call_known : (h : Heap) (callers : List Caller) (f : Value) (args : List Value) (s : Slots) → Known S h f → All (Known S h) args → SlotsKnown S h s → WorkKnown S h (tail_call callers f args s)
  tail_call_known h callers f args s fk ak sk =
      call_at_known h (calling callers true) f args (λ sign. End (returned sign) s) (calling_known h callers true) fk ak (λ g sign l k. (returned_known g sign k, slots_later S G h g s l sk))
