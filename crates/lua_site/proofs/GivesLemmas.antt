-- What is made one thing after the other, as the results of calls show it.
use Rattle.std.proofs.Common.{◌≡◌, ℕ, zero, suc, ◌+◌, ◌<◌, List, [], ◌∷◌, ◌++◌, length, arith, IfOk, drop, get_or, Option, None, Some, Result, Ok, Err, refl, sym, ap, ◌∙◌, add-one}
use Rattle.std.specs.Result.{IsErr, IsErrAnd}
use Rattle.lua_values.specs.declared.faults.StoreFault.{StoreFault}
use Rattle.lua_values.specs.declared.faults.StoreFault.TheVariants.{Full, Frozen, BadKey}
use Rattle.lua_values.specs.declared.faults.StoreFault.TheVariants as store
use Rattle.std.proofs.Math.Seq.{drop-cons}
use Rattle.std.proofs.lemmas.List.FromFn.{length-range_with_len}
use Rattle.std.specs.List.{range_with_len}
use Rattle.lua_values.specs.declared.values.Value.{Value}
use Rattle.lua_values.specs.Heap.{Heap, StoreView}
use Rattle.lua_values.specs.StoreCalls.{IsCause}
use Rattle.lua_meaning.specs.declared.resumes.Resumed.TheVariants.{Values}
use Rattle.lua_meaning.specs.Evaluator.{Resume}
use Rattle.lua_machine.specs.Finishes.{Finish, IsNew}
use Rattle.lua_site.specs.declared.faults.LuaSiteFault.{LuaSiteFault}
use Rattle.lua_site.specs.declared.faults.LuaSiteFault.TheVariants.{Init, Memory}
use Rattle.lua_site.specs.Making.{Made, and_then, for_each, unless, of_store, Gives, Makes}
use Rattle.lua_site.specs.Calls.{Life, left_by, called}

-- what is refused is so however a result is seen
pub gives_still : {A D B : Type 0} (m : Result B (List ℕ)) (first : A → B) (seen : D → B) (e : LuaSiteFault) (r : Result D LuaSiteFault)
    → Gives m first (Err e) → IsErr r × IsErrAnd r (λ f. f ≡ e) → Gives m seen r
gives_still m first seen e (Ok d) h is = absurd is.1
gives_still m first seen (Init text) (Err f) h is = rw is.1 h
gives_still m first seen Memory (Err f) h is = rw is.1 tt

-- the store refused it
pub unless_refused : {A : Type 0} (cause : Option StoreFault) (fault : StoreFault) (heap : Heap) (seen : A → Heap) (r : Result A LuaSiteFault)
    → IsCause cause fault → IsErr r × IsErrAnd r (λ f. f ≡ of_store fault) → Gives (unless cause heap) seen r
unless_refused cause fault heap seen (Ok a) is that = absurd that.1
unless_refused cause fault heap seen (Err f) is that = rw that.1 (by cause fault is)
  where
    by : (o : Option StoreFault) (g : StoreFault) → IsCause o g → Gives (unless o heap) seen (Err (of_store g))
    by None g e = rw e tt
    by (Some Full) g e = rw e refl
    by (Some Frozen) g e = rw e refl
    by (Some BadKey) g e = rw e refl
    by (Some store.Memory) g e = rw e tt

-- a call whose thread has come to what is left by it
pub call_made : {A : Type 0} (life : Life) (f : Value) (args given vs : List Value) (heap : Heap) (store : StoreView) (finish : Finish) (result : Result A LuaSiteFault) (new : StoreView)
    → IsNew (life f given) finish → given ≡ args → store ≡ record { heap = heap; steps = 0 } → vs ≡ []
    → Makes (left_by (finish ((record { store = store; answer = Values vs }) ∷ []))) result new → Makes (called life f args heap) result new
call_made life f args given vs heap store finish result new begins is_args is_store none made =
    let r : Resume = record { store = store; answer = Values vs } in
    rw (begins r [], is_args, is_store, none) at made

-- the next of a list, of which some are made
each_next : {X : Type 0} (make : Heap → X → Made) (h : Heap) (xs : List X) (i : ℕ) (d : X) → i < length xs
    → for_each make h (drop i xs) ≡ and_then (make h (get_or xs i d)) (λ k. for_each make k (drop (i + 1) xs))
each_next make h xs i d less = rw (add-one, drop-cons xs i d) refl

pub each_goes : {X : Type 0} (make : Heap → X → Made) (start : Made) (h new : Heap) (xs : List X) (i : ℕ) (x d : X)
    → start ≡ for_each make h (drop i xs) → i < length xs → x ≡ get_or xs i d → make h x ≡ Ok new → start ≡ for_each make new (drop (i + 1) xs)
each_goes make start h new xs i x d e less is made = e ∙ each_next make h xs i d less ∙ ap (λ m. and_then m (λ k. for_each make k (drop (i + 1) xs))) (ap (make h) (sym is) ∙ made)

-- one number more of those that follow one another
pub one_more : (a n j : ℕ) → a + n ≡ j → range_with_len a (n + 1) ≡ range_with_len a n ++ j ∷ []
one_more a zero j e = let is : j ≡ a = omega arith in rw is refl
one_more a (suc n) j e =
    let count : suc n + 1 ≡ suc (n + 1) = omega arith in
    let same : (a + 1) + n ≡ j = omega arith in
    rw count (ap (λ ns. a ∷ ns) (one_more (a + 1) n j same))

-- as many as there are numbers in a list
pub as_many : {A E : Type 0} (r : Result A E) (seen : A → List ℕ) (a n m : ℕ) → IfOk r (λ b. seen b ≡ range_with_len a n) → n ≡ m → IfOk r (λ b. length (seen b) ≡ m)
as_many (Ok b) seen a n m e same = ap length e ∙ length-range_with_len a n ∙ same
as_many (Err f) seen a n m e same = tt
