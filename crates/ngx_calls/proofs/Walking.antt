-- Walks through values, one after the other.
use Rattle.std.proofs.Common.{◌≡◌, ℕ, zero, suc, ◌+◌, ◌-◌, ◌^◌, ◌<◌, ◌≤◌, nat_lt, min, Bool, true, false, List, [], ◌∷◌, ◌++◌, take, length, refl, sym, ◌∙◌, ap, arith, if◌then◌else◌}
use Rattle.std.proofs.Common.{append_assoc, length-append, length-take, Option, Some, None}
use Rattle.std.specs.Prelude.{option_map, option_and_then, flat_map, Result, Ok, Err}
use Rattle.std.specs.Option.{option_or, is_some}
use Rattle.std.specs.Result.{IsErrAnd}
use Rattle.std.proofs.lemmas.Bool.{ltb-true, ltb-false, lt-ltb, le-ltb}
use Rattle.std.proofs.lemmas.Grind.{flat_map-append}
use Rattle.std.proofs.lemmas.List.{append-nil}
use Rattle.std.proofs.lemmas.List.Sums.{sum_by-append}
use Rattle.lua_lib_base.specs.Work.{text_length, texts_length}
use Rattle.lua_operators.specs.declared.types.LuaType.{LuaType}
use Rattle.lua_operators.specs.Types.{type_of}
use Rattle.lua_values.specs.declared.values.Value.{Value}
use Rattle.lua_values.specs.declared.values.Value.TheVariants.{Nil, Truth, Number, Text, Table, Closure, Native, Thread, Null, Object}
use Rattle.lua_values.specs.Border.{border_of}
use Rattle.lua_values.specs.Heap.{Heap}
use Rattle.lua_values.specs.Pairs.{value_at}
use Rattle.lua_values.specs.StoreCalls.{pairs_of}
use Rattle.lua_values.specs.Values.{number as number_value}
use Rattle.ngx_calls.specs.declared.printing.Walk.{Walk}
use Rattle.ngx_calls.specs.declared.printing.WalkFault.{WalkFault}
use Rattle.ngx_calls.specs.declared.printing.WalkFault.TheVariants as fault
use Rattle.ngx_calls.specs.Operations.{most_kept}
use Rattle.ngx_calls.specs.Printing.{elements_from, elements_of, met_in, together, met_in_each, printed_text, text_printed, unprinted, unprinted_in}
use Rattle.ngx_calls.specs.Walks.{Walked, seen, ComesTo, kept, with_more, after_more, after_met, after_elements, after_one}

-- the first bytes of one list and another
pub take-append : (n : ℕ) (xs ys : List ℕ) → take n (xs ++ ys) ≡ take n xs ++ take (n - length xs) ys
take-append zero xs ys = let e : 0 - length xs ≡ 0 = omega arith in rw e refl
take-append (suc n) [] ys = let e : suc n - 0 ≡ suc n = omega arith in rw e refl
take-append (suc n) (x ∷ xs) ys = let e : suc n - length (x ∷ xs) ≡ n - length xs = omega arith in rw e (ap (λ zs. x ∷ zs) (take-append n xs ys))

-- what is kept of bytes and then of others is kept of both
room_left : (k p a : ℕ) → k - (p + min (k - p) a) ≡ (k - p) - a
room_left k p a = omega arith

kept_in : (k r : ℕ) (p a b : List ℕ) → r ≡ k - length p → (p ++ take r a) ++ take (k - length (p ++ take r a)) b ≡ p ++ take r (a ++ b)
kept_in k r p a b e =
    let long : length (p ++ take r a) ≡ length p + min r (length a) = length-append p (take r a) ∙ ap (λ n. length p + n) (length-take r a) in
    let room : k - length (p ++ take r a) ≡ r - length a = ap (λ n. k - n) long ∙ omega (arith, e) in
    append_assoc p (take r a) (take (k - length (p ++ take r a)) b) ∙ ap (λ n. p ++ (take r a ++ take n b)) room ∙ ap (λ t. p ++ t) (sym (take-append r a b))

pub kept-append : (p a b : List ℕ) → kept (kept p a) b ≡ kept p (a ++ b)
kept-append p a b = kept_in most_kept (most_kept - length p) p a b refl

take-nil : (n : ℕ) → take n [] ≡ (let none : List ℕ = [] in none)
take-nil zero = refl
take-nil (suc n) = refl

pub kept-nil : (p : List ℕ) → kept p [] ≡ p
kept-nil p = ap (λ t. p ++ t) (take-nil (most_kept - length p)) ∙ append-nil p

-- counts go no further than m
counted_in : (m t a b : ℕ) → (t + min a (m - t)) + min b (m - (t + min a (m - t))) ≡ t + min (a + b) (m - t)
counted_in m t a b = omega arith

counted_none : (m t : ℕ) → t + min 0 (m - t) ≡ t
counted_none m t = omega arith

pub option_or-assoc : {T : Type 0} (a b c : Option T) → option_or (option_or a b) c ≡ option_or a (option_or b c)
option_or-assoc None b c = refl
option_or-assoc (Some x) b c = refl

pub option_or-none : {T : Type 0} (a : Option T) → option_or a None ≡ a
option_or-none None = refl
option_or-none (Some x) = refl

-- one amount and then another are both together
both_more : (n m : ℕ) (a b : List ℕ) (s t : ℕ) (x y : Option (ℕ × LuaType)) (w : Walked) →
    with_more m b t y (with_more n a s x w) ≡ with_more (n + m) (a ++ b) (s + t) (option_or x y) w
both_more n m a b s t x y w =
    let left : w.left - n - m ≡ w.left - (n + m) = omega arith in
    rw (left, kept-append w.printed a b, counted_in (2 ^ 64 - 1) w.taken s t, option_or-assoc w.wrong x y) refl

pub more_after : (n m : ℕ) (a b : List ℕ) (s t : ℕ) (x y : Option (ℕ × LuaType)) (w : Walked) →
    option_and_then (after_more m b t y) (after_more n a s x w) ≡ after_more (n + m) (a ++ b) (s + t) (option_or x y) w
more_after n m a b s t x y w = by_bool (nat_lt w.left n) (nat_lt (w.left - n) m) refl refl
  where
    by_bool : (p q : Bool) → nat_lt w.left n ≡ p → nat_lt (w.left - n) m ≡ q →
        option_and_then (after_more m b t y) (after_more n a s x w) ≡ after_more (n + m) (a ++ b) (s + t) (option_or x y) w
    by_bool true q e f =
        let all : nat_lt w.left (n + m) ≡ true = lt-ltb w.left (n + m) (omega (arith, ltb-true _ _ e)) in
        rw (e, all) refl
    by_bool false true e f =
        let all : nat_lt w.left (n + m) ≡ true = lt-ltb w.left (n + m) (omega (arith, ltb-false _ _ e, ltb-true _ _ f)) in
        rw (e, all) (rw f refl)
    by_bool false false e f =
        let all : nat_lt w.left (n + m) ≡ false = le-ltb w.left (n + m) (omega (arith, ltb-false _ _ e, ltb-false _ _ f)) in
        rw (e, all) (rw f (ap (λ v. Some v) (both_more n m a b s t x y w)))

-- nothing more
none_more : (w : Walked) → with_more 0 [] 0 None w ≡ w
none_more w =
    let left : w.left - 0 ≡ w.left = omega arith in
    rw (left, kept-nil w.printed, counted_none (2 ^ 64 - 1) w.taken, option_or-none w.wrong) refl

pub after_none : (w : Walked) → after_more 0 [] 0 None w ≡ Some w
after_none w =
    let few : nat_lt w.left 0 ≡ false = le-ltb w.left 0 (omega arith) in
    rw few (ap (λ v. Some v) (none_more w))

-- the first that can't be printed
pub unprinted-append : (a b : List Value) → unprinted (a ++ b) ≡ option_or (unprinted a) (unprinted b)
unprinted-append [] b = refl
unprinted-append (v ∷ a) b = elim (text_printed v) as (λ (o : Option (List ℕ)). (if is_some o then unprinted (a ++ b) else Some (type_of v)) ≡ option_or (if is_some o then unprinted a else Some (type_of v)) (unprinted b))
    [ Some text ↦ unprinted-append a b | None ↦ refl ]

option_or-map : {T U : Type 0} (f : T → U) (a b : Option T) → option_map f (option_or a b) ≡ option_or (option_map f a) (option_map f b)
option_or-map f None b = refl
option_or-map f (Some x) b = refl

pub unprinted_in-append : (i : ℕ) (a b : List Value) → unprinted_in i (a ++ b) ≡ option_or (unprinted_in i a) (unprinted_in i b)
unprinted_in-append i a b = ap (option_map (λ found. (i, found))) (unprinted-append a b) ∙ option_or-map (λ found. (i, found)) (unprinted a) (unprinted b)

-- values that are met one after the other in an array
both_met : (number : ℕ) (a b : List Value) (w : Walked) →
    option_and_then (after_met texts_length number (Some b)) (after_met texts_length number (Some a) w) ≡ after_met texts_length number (Some (a ++ b)) w
both_met number a b w =
    more_after (length a) (length b) (flat_map printed_text a) (flat_map printed_text b) (texts_length a) (texts_length b) (unprinted_in number a) (unprinted_in number b) w
    ∙ rw (sym (length-append a b), sym (flat_map-append printed_text a b), sym (sum_by-append text_length a b), sym (unprinted_in-append number a b)) refl

pub none_after : {T U : Type 0} (o : Option T) → option_and_then (λ (x : T). let none : Option U = None in none) o ≡ None
none_after None = refl
none_after (Some x) = refl

next_element : (number : ℕ) (o : Option (List Value)) (m : Option (List (List Value))) (w : Walked) →
    option_and_then (after_met texts_length number (option_map together m)) (after_met texts_length number o w)
    ≡ after_met texts_length number (option_map together (option_and_then (λ first. option_map (λ others. first ∷ others) m) o)) w
next_element number None m w = refl
next_element number (Some a) None w = none_after (after_met texts_length number (Some a) w)
next_element number (Some a) (Some met) w = both_met number a (together met) w

pub then_same : {T U : Type 0} (f g : T → Option U) → ((x : T) → f x ≡ g x) → (o : Option T) → option_and_then f o ≡ option_and_then g o
then_same f g same None = refl
then_same f g same (Some x) = same x

-- all that is met in an array's elements
pub elements_walked : (met : Value → Option (List Value)) (number : ℕ) (vs : List Value) (w : Walked) →
    after_elements met number vs w ≡ after_met texts_length number (option_map together (met_in_each met vs)) w
elements_walked met number [] w = sym (after_none w)
elements_walked met number (v ∷ vs) w =
    then_same (after_elements met number vs) (after_met texts_length number (option_map together (met_in_each met vs))) (elements_walked met number vs) (after_met texts_length number (met v) w)
    ∙ next_element number (met v) (met_in_each met vs) w

-- of a table: itself, and then its elements
one_table : (number t : ℕ) (w : Walked) → after_met texts_length number (Some (Table t ∷ [])) w ≡ after_one w
one_table number t w = rw (kept-nil w.printed, counted_none (2 ^ 64 - 1) w.taken, option_or-none w.wrong) refl

table_met : (number t : ℕ) (m : Option (List (List Value))) (w : Walked) →
    after_met texts_length number (option_map (λ met. Table t ∷ together met) m) w ≡ option_and_then (after_met texts_length number (option_map together m)) (after_one w)
table_met number t None w = sym (none_after (after_one w))
table_met number t (Some met) w = sym (both_met number (Table t ∷ []) (together met) w) ∙ ap (option_and_then (after_met texts_length number (Some (together met)))) (one_table number t w)

pub array_met : (levels : ℕ) (h : Heap) (t number : ℕ) (w : Walked) → 0 < levels →
    after_met texts_length number (met_in levels h (Table t)) w ≡ option_and_then (after_elements (met_in (levels - 1) h) number (elements_of h t)) (after_one w)
unfolding met_in
array_met zero h t number w some = absurd (omega arith)
array_met (suc k) h t number w some =
    let less : suc k - 1 ≡ k = omega arith in
    table_met number t (met_in_each (met_in k h) (elements_of h t)) w
    ∙ rw less (then_same (after_met texts_length number (option_map together (met_in_each (met_in k h) (elements_of h t)))) (after_elements (met_in k h) number (elements_of h t)) (λ u. sym (elements_walked (met_in k h) number (elements_of h t) u)) (after_one w))

-- the elements from one on
elements_next : (ps : List (Value × Value)) (i end : ℕ) → i < end →
    elements_from ps i (end - i) ≡ value_at ps (number_value (i + 1)) ∷ elements_from ps (i + 1) (end - (i + 1))
elements_next ps i end less = let more : end - i ≡ suc (end - (i + 1)) = omega arith in rw more refl

pub elements_left : (met : Value → Option (List Value)) (number : ℕ) (ps : List (Value × Value)) (i end : ℕ) (v : Value) (w : Walked) → i < end → v ≡ value_at ps (number_value (i + 1)) →
    after_elements met number (elements_from ps i (end - i)) w ≡ option_and_then (after_elements met number (elements_from ps (i + 1) (end - (i + 1)))) (after_met texts_length number (met v) w)
elements_left met number ps i end v w less is = rw (elements_next ps i end less, is) refl

pub elements_done : (met : Value → Option (List Value)) (number : ℕ) (ps : List (Value × Value)) (i end : ℕ) (w : Walked) → end ≤ i →
    after_elements met number (elements_from ps i (end - i)) w ≡ Some w
elements_done met number ps i end w over = let none : end - i ≡ 0 = omega arith in rw none refl

-- what is met of a value that is no array
pub plain_met : (k : ℕ) (h : Heap) (v : Value) → ((t : ℕ) → v ≡ Table t → ⊥) → met_in k h v ≡ Some (v ∷ [])
unfolding met_in
plain_met zero h Nil other = refl
plain_met zero h (Truth b) other = refl
plain_met zero h (Number n) other = refl
plain_met zero h (Text text) other = refl
plain_met zero h (Table t) other = absurd (other t refl)
plain_met zero h (Closure n) other = refl
plain_met zero h (Native n) other = refl
plain_met zero h (Thread n) other = refl
plain_met zero h Null other = refl
plain_met zero h (Object kind n) other = refl
plain_met (suc k) h Nil other = refl
plain_met (suc k) h (Truth b) other = refl
plain_met (suc k) h (Number n) other = refl
plain_met (suc k) h (Text text) other = refl
plain_met (suc k) h (Table t) other = absurd (other t refl)
plain_met (suc k) h (Closure n) other = refl
plain_met (suc k) h (Native n) other = refl
plain_met (suc k) h (Thread n) other = refl
plain_met (suc k) h Null other = refl
plain_met (suc k) h (Object kind n) other = refl

-- a walk that came to its end, and one that didn't
pub comes_some : (o : Option Walked) (new : Walk) (r : Result (Unit {0}) WalkFault) (u : Unit {0}) → ComesTo o new r → r ≡ Ok u → o ≡ Some (seen new)
comes_some None new (Ok v) u h e = absurd h
comes_some (Some w) new (Ok v) u h e = ap (λ x. Some x) (sym h)
comes_some o new (Err f) u h e = cc

pub none_of : (o : Option Walked) (new : Walk) → ComesTo o new (Err fault.BadRequest) → o ≡ None
none_of None new h = refl
none_of (Some w) new h = absurd h

pub comes_none : (o whole : Option Walked) (new last : Walk) (result : Result (Unit {0}) WalkFault) (f : WalkFault) → ComesTo o new (Err f) → IsErrAnd result (λ same. same ≡ f) → (o ≡ None → whole ≡ None) →
    ComesTo whole last result
comes_none o whole new last (Ok u) f h is none = absurd is
comes_none o whole new last (Err fault.Memory) f h is none = tt
comes_none o whole new last (Err fault.BadRequest) f h is none =
    let e : whole ≡ None = none (none_of o new (rw (sym is) at h)) in rw e tt

pub comes_as : (whole : Option Walked) (new : Walk) (u : Unit {0}) → whole ≡ Some (seen new) → ComesTo whole new (Ok u)
comes_as whole new u e = rw e refl

-- an array: where some of its elements are walked through, the others are what is left of it
pub array_left : (levels : ℕ) (h : Heap) (t number i end : ℕ) (w begun u : Walked) → (levels ≡ 0 → ⊥) → after_one w ≡ Some begun → end ≡ border_of (pairs_of h t) →
    after_elements (met_in (levels - 1) h) number (elements_from (pairs_of h t) i (end - i)) u ≡ after_elements (met_in (levels - 1) h) number (elements_from (pairs_of h t) 0 end) begun →
    after_met texts_length number (met_in levels h (Table t)) w ≡ after_elements (met_in (levels - 1) h) number (elements_from (pairs_of h t) i (end - i)) u
array_left levels h t number i end w begun u some counts is left =
    let deep : 0 < levels = omega (arith, some) in
    array_met levels h t number w deep ∙ rw (counts, sym is) (sym left)

-- the next of them can't be told, or is one too many
pub element_ends : (levels : ℕ) (h : Heap) (t number i end : ℕ) (v : Value) (w begun u : Walked) → (levels ≡ 0 → ⊥) → after_one w ≡ Some begun → end ≡ border_of (pairs_of h t) →
    after_elements (met_in (levels - 1) h) number (elements_from (pairs_of h t) i (end - i)) u ≡ after_elements (met_in (levels - 1) h) number (elements_from (pairs_of h t) 0 end) begun →
    i < end → v ≡ value_at (pairs_of h t) (number_value (i + 1)) → after_met texts_length number (met_in (levels - 1) h v) u ≡ None → after_met texts_length number (met_in levels h (Table t)) w ≡ None
element_ends levels h t number i end v w begun u some counts is left less at ends =
    array_left levels h t number i end w begun u some counts is left ∙ elements_left (met_in (levels - 1) h) number (pairs_of h t) i end v u less at
    ∙ ap (option_and_then (after_elements (met_in (levels - 1) h) number (elements_from (pairs_of h t) (i + 1) (end - (i + 1))))) ends

-- it is walked through
pub element_goes : (met : Value → Option (List Value)) (number : ℕ) (ps : List (Value × Value)) (i end : ℕ) (v : Value) (u next : Walked) (all : Option Walked) →
    after_elements met number (elements_from ps i (end - i)) u ≡ all → i < end → v ≡ value_at ps (number_value (i + 1)) → after_met texts_length number (met v) u ≡ Some next →
    after_elements met number (elements_from ps (i + 1) (end - (i + 1))) next ≡ all
element_goes met number ps i end v u next all left less at goes =
    ap (option_and_then (after_elements met number (elements_from ps (i + 1) (end - (i + 1))))) (sym goes) ∙ sym (elements_left met number ps i end v u less at) ∙ left

-- a value that is no array is met alone
pub meets_plain : (k number taken : ℕ) (h : Heap) (v : Value) (w : Walked) (new : Walk) (r : Result (Unit {0}) WalkFault) → ((t : ℕ) → v ≡ Table t → ⊥) → taken ≡ text_length v →
    ComesTo (after_met (λ met. taken) number (Some (v ∷ [])) w) new r → ComesTo (after_met texts_length number (met_in k h v) w) new r
meets_plain k number taken h v w new r other is comes = let whole : taken ≡ texts_length (v ∷ []) = omega (arith, is) in rw (plain_met k h v other, sym whole) comes

pub array_none : (levels : ℕ) (h : Heap) (t number : ℕ) (w : Walked) → (levels ≡ 0 → ⊥) → after_one w ≡ None → after_met texts_length number (met_in levels h (Table t)) w ≡ None
array_none levels h t number w some none = let deep : 0 < levels = omega (arith, some) in array_met levels h t number w deep ∙ rw none refl

-- an array that is too deep
pub deep_none : (levels number : ℕ) (h : Heap) (t : ℕ) (w : Walked) (new : Walk) → levels ≡ 0 → ComesTo (after_met texts_length number (met_in levels h (Table t)) w) new (Err fault.BadRequest)
unfolding met_in
deep_none levels number h t w new e = rw e tt
