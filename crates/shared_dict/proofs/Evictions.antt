-- What is evicted of a list of items.
use Rattle.std.proofs.Common.{◌≡◌, ℕ, zero, suc, ◌+◌, ◌-◌, ◌≤◌, ◌<◌, nat_le, nat_lt, ◌&&◌, ◌||◌, Bool, true, false, List, [], ◌∷◌, length, take, drop, refl, sym, ap, ◌∙◌, arith, rules, if◌then◌else◌}
use Rattle.std.proofs.lemmas.Bool.Decides.{nat_tests}
use Rattle.std.proofs.lemmas.List.{length-take}
use Rattle.std.proofs.lemmas.List.Sums.{sum_by-cons}
use Rattle.resty_base.specs.declared.dictionary.DictAnswer.{DictAnswer}
use Rattle.resty_base.specs.declared.dictionary.DictAnswer.TheVariants as answer
use Rattle.shared_rules.specs.declared.items.Item.{Item}
use Rattle.shared_rules.specs.Items.{size_of, used, without, first, but_last, evicted}
use Rattle.shared_rules.specs.Dictionary.{Outcome, put_in, store}
use Rattle.shared_dict.specs.Zones.{trimmed, is_trim, is_crowded, fits_after}

pub le-true : (x y : ℕ) → x ≤ y → nat_le x y ≡ true
le-true x y h = search (nat_tests, rules)

pub le-false : (x y : ℕ) → y < x → nat_le x y ≡ false
le-false x y h = search (nat_tests, rules)

pub true-le : (x y : ℕ) → nat_le x y ≡ true → x ≤ y
true-le x y h = search (nat_tests, rules)

pub false-le : (x y : ℕ) → nat_le x y ≡ false → y < x
false-le x y h = search (nat_tests, rules)

pub lt-true : (x y : ℕ) → x < y → nat_lt x y ≡ true
lt-true x y h = search (nat_tests, rules)

pub lt-false : (x y : ℕ) → y ≤ x → nat_lt x y ≡ false
lt-false x y h = search (nat_tests, rules)

pub true-lt : (x y : ℕ) → nat_lt x y ≡ true → x < y
true-lt x y h = search (nat_tests, rules)

pub false-lt : (x y : ℕ) → nat_lt x y ≡ false → y ≤ x
false-lt x y h = search (nat_tests, rules)

pub evicted-nil : (m size more : ℕ) → evicted m size more [] ≡ []
evicted-nil zero size more = refl
evicted-nil (suc m) size more = put (nat_le (used [] + more) size) (evicted-nil m size more)
  where
    put : (b : Bool) → evicted m size more [] ≡ [] → (if b then [] else evicted m size more []) ≡ []
    put true ih = refl
    put false ih = ih

pub stays : (m size more : ℕ) (items : List Item) → used items + more ≤ size → evicted m size more items ≡ items
stays zero size more items l = refl
stays (suc m) size more items l = ap (λ b. if b then items else evicted m size more (but_last items)) (le-true (used items + more) size l)

pub goes : (m size more : ℕ) (items : List Item) → size < used items + more → evicted (suc m) size more items ≡ evicted m size more (but_last items)
goes m size more items l = ap (λ b. if b then items else evicted m size more (but_last items)) (le-false (used items + more) size l)

pub last-later : (x y : Item) (items : List Item) → but_last (x ∷ y ∷ items) ≡ x ∷ but_last (y ∷ items)
last-later x y items =
    let a : suc (suc (length items)) - 1 ≡ suc (length items) = omega arith in
    let b : suc (length items) - 1 ≡ length items = omega arith in
    ap (λ n. take n (x ∷ y ∷ items)) a ∙ ap (λ n. x ∷ take n (y ∷ items)) (sym b)

trim-fits : (m size : ℕ) (items : List Item) → used items ≤ size → trimmed m size items ≡ items
trim-fits m size [] l = refl
trim-fits m size (x ∷ items) l = ap (λ r. x ∷ r) (stays m size (size_of x) items (let s = sum_by-cons size_of x items in omega arith))

trim-short : (m size : ℕ) (items : List Item) → length items < 2 → trimmed m size items ≡ items
trim-short m size [] l = refl
trim-short m size (x ∷ []) l = ap (λ r. x ∷ r) (evicted-nil m size (size_of x))
trim-short m size (x ∷ y ∷ items) l = absurd (let n : suc (suc (length items)) < 2 = l in omega arith)

-- trim items stay so, of others the last goes
pub trim-stays : (m size : ℕ) (items : List Item) → is_trim size items ≡ true → trimmed m size items ≡ items
trim-stays m size items h = put (nat_le (used items) size) (nat_lt (length items) 2) refl refl h
  where
    put : (a b : Bool) → nat_le (used items) size ≡ a → nat_lt (length items) 2 ≡ b → a || b ≡ true → trimmed m size items ≡ items
    put true b p q h = trim-fits m size items (true-le (used items) size p)
    put false true p q h = trim-short m size items (true-lt (length items) 2 q)
    put false false p q h = absurd (let f : false ≡ true = h in cc)

goes-on : (m size : ℕ) (items : List Item) → size < used items → 2 ≤ length items → trimmed (suc m) size items ≡ trimmed m size (but_last items)
goes-on m size [] u l = absurd (let n : 2 ≤ 0 = l in omega arith)
goes-on m size (x ∷ []) u l = absurd (let n : 2 ≤ 1 = l in omega arith)
goes-on m size (x ∷ y ∷ items) u l =
    ap (λ r. x ∷ r) (goes m size (size_of x) (y ∷ items) (let s = sum_by-cons size_of x (y ∷ items) in omega arith)) ∙ ap (trimmed m size) (sym (last-later x y items))

pub trim-goes : (m n size : ℕ) (items : List Item) → is_trim size items ≡ false → n ≡ suc m → trimmed n size items ≡ trimmed m size (but_last items)
trim-goes m n size items h e = ap (λ k. trimmed k size items) e ∙ put (nat_le (used items) size) (nat_lt (length items) 2) refl refl h
  where
    put : (a b : Bool) → nat_le (used items) size ≡ a → nat_lt (length items) 2 ≡ b → a || b ≡ false → trimmed (suc m) size items ≡ trimmed m size (but_last items)
    put true b p q h = absurd (let f : true ≡ false = h in cc)
    put false true p q h = absurd (let f : true ≡ false = h in cc)
    put false false p q h = goes-on m size items (false-le (used items) size p) (false-lt (length items) 2 q)

pub trim-none : (size : ℕ) (items : List Item) → trimmed 0 size items ≡ items
trim-none size [] = refl
trim-none size (x ∷ items) = refl

-- what a store answers and leaves, where the item was put first and the others were evicted
less-one : (x y : ℕ) → nat_lt (suc x) (suc y) ≡ nat_lt x y
less-one x y = put (nat_lt x y) refl
  where
    put : (b : Bool) → nat_lt x y ≡ b → nat_lt (suc x) (suc y) ≡ b
    put true h = let l = true-lt x y h in lt-true (suc x) (suc y) (omega arith)
    put false h = let l = false-lt x y h in lt-false (suc x) (suc y) (omega arith)

pub stored-done : (size : ℕ) (item : Item) (items after : List Item) (any : Bool) → after ≡ trimmed 30 size (first item items) → any ≡ nat_lt (length after) (length (first item items)) → used after ≤ size
    → store size item items ≡ (answer.Done any, after)
stored-done size item items after any t a u = put (evicted 30 size (size_of item) (without item.key items)) t
  where
    put : (left : List Item) → after ≡ item ∷ left → put_in size item (nat_lt (length left) (length (without item.key items))) left ≡ (answer.Done any, after)
    put left t =
        let s = sum_by-cons size_of item left in
        let e = ap used t in
        let b : any ≡ nat_lt (length left) (length (without item.key items)) = a ∙ ap (λ (l : List Item). nat_lt (length l) (suc (length (without item.key items)))) t ∙ less-one (length left) (length (without item.key items)) in
        ap (λ c. let o : Outcome = if c then (answer.Done (nat_lt (length left) (length (without item.key items))), item ∷ left) else (answer.NoMemory (nat_lt (length left) (length (without item.key items))), left) in o) (le-true (used left + size_of item) size (omega arith))
        ∙ ap (λ c. (answer.Done c, item ∷ left)) (sym b) ∙ ap (λ (l : List Item). (answer.Done any, l)) (sym t)

pub stored-none : (size : ℕ) (item : Item) (items after : List Item) (any : Bool) → after ≡ trimmed 30 size (first item items) → any ≡ nat_lt (length after) (length (first item items)) → size < used after
    → store size item items ≡ (answer.NoMemory any, drop 1 after)
stored-none size item items after any t a u = put (evicted 30 size (size_of item) (without item.key items)) t
  where
    put : (left : List Item) → after ≡ item ∷ left → put_in size item (nat_lt (length left) (length (without item.key items))) left ≡ (answer.NoMemory any, drop 1 after)
    put left t =
        let s = sum_by-cons size_of item left in
        let e = ap used t in
        let b : any ≡ nat_lt (length left) (length (without item.key items)) = a ∙ ap (λ (l : List Item). nat_lt (length l) (suc (length (without item.key items)))) t ∙ less-one (length left) (length (without item.key items)) in
        ap (λ c. let o : Outcome = if c then (answer.Done (nat_lt (length left) (length (without item.key items))), item ∷ left) else (answer.NoMemory (nat_lt (length left) (length (without item.key items))), left) in o) (le-false (used left + size_of item) size (omega arith))
        ∙ ap (λ c. (answer.NoMemory c, left)) (sym b) ∙ ap (λ (l : List Item). (answer.NoMemory any, drop 1 l)) (sym t)

-- whether anything is evicted
evicted-less : (m size more : ℕ) (items : List Item) → length (evicted m size more items) ≤ length items
evicted-less zero size more items = omega arith
evicted-less (suc m) size more items = put (nat_le (used items + more) size) (evicted-less m size more (but_last items))
  where
    put : (b : Bool) → length (evicted m size more (but_last items)) ≤ length (but_last items) → length (if b then items else evicted m size more (but_last items)) ≤ length items
    put true ih = omega arith
    put false ih = let t = length-take (length items - 1) items in omega arith

pub any-is : (m size more : ℕ) (items : List Item) → nat_lt (length (evicted (suc m) size more items)) (length items) ≡ is_crowded size (used items) more
any-is m size more [] = ap (λ (l : List Item). nat_lt (length l) 0) (evicted-nil (suc m) size more)
any-is m size more (x ∷ items) = put (nat_lt size (used (x ∷ items) + more)) refl
  where
    some : nat_lt 0 (used (x ∷ items)) ≡ true
    some = lt-true 0 (used (x ∷ items)) (let s = sum_by-cons size_of x items in omega arith)

    put : (b : Bool) → nat_lt size (used (x ∷ items) + more) ≡ b → nat_lt (length (evicted (suc m) size more (x ∷ items))) (length (x ∷ items)) ≡ nat_lt 0 (used (x ∷ items)) && b
    put true h =
        let g = goes m size more (x ∷ items) (true-lt size (used (x ∷ items) + more) h) in
        let l = evicted-less m size more (but_last (x ∷ items)) in
        let t = length-take (suc (length items) - 1) (x ∷ items) in
        let n : length (evicted (suc m) size more (x ∷ items)) < suc (length items) = rw g (omega arith) in
        lt-true (length (evicted (suc m) size more (x ∷ items))) (suc (length items)) n ∙ sym (ap (λ b. b && true) some)
    put false h =
        let s = stays (suc m) size more (x ∷ items) (false-lt size (used (x ∷ items) + more) h) in
        ap (λ (l : List Item). nat_lt (length l) (suc (length items))) s ∙ lt-false (suc (length items)) (suc (length items)) (omega arith) ∙ sym (ap (λ b. b && false) some)

-- what a store answers, by the bytes of the other items
abbrev pub answered : Bool → Bool → DictAnswer
answered fits any = if fits then answer.Done any else answer.NoMemory any

pub foreseen : (size more : ℕ) (key : List ℕ) (item : Item) (items : List Item) (given : DictAnswer) → key ≡ item.key → more ≡ size_of item
    → given ≡ answered (fits_after 30 size more (without key items)) (is_crowded size (used (without key items)) more) → given ≡ (store size item items).0
foreseen size more key item items given k e g = g
    ∙ ap (λ k. answered (fits_after 30 size more (without k items)) (is_crowded size (used (without k items)) more)) k
    ∙ ap (λ n. answered (fits_after 30 size n rest) (is_crowded size (used rest) n)) e
    ∙ ap (answered (fits_after 30 size (size_of item) rest)) (sym (any-is 29 size (size_of item) rest))
    ∙ put (fits_after 30 size (size_of item) rest)
  where
    rest : List Item
    rest = without item.key items

    any : Bool
    any = nat_lt (length (evicted 30 size (size_of item) rest)) (length rest)

    put : (b : Bool) → answered b any ≡ (let o : Outcome = if b then (answer.Done any, item ∷ evicted 30 size (size_of item) rest) else (answer.NoMemory any, evicted 30 size (size_of item) rest) in o).0
    put true = refl
    put false = refl
