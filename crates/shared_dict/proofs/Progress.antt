-- How far scans of entries have come.
use Rattle.std.proofs.Common.{◌≡◌, ℕ, zero, suc, ◌+◌, ◌-◌, ◌≤◌, ◌<◌, nat_le, nat_lt, not, ◌&&◌, Bool, true, false, cond, List, [], ◌∷◌, ◌++◌, length, take, map, filter, refl, sym, ap, ◌∙◌, arith, subst, append-nil, if◌then◌else◌}
use Rattle.std.specs.List.{AllByRecursion, IsDistinct}
use Rattle.std.specs.Map.{keys_of, remove_entry}
use Rattle.std.proofs.lemmas.List.{append_assoc, length-append}
use Rattle.std.proofs.lemmas.List.Sums.{sum_by-cons, sum_by-append}
use Rattle.std.proofs.lemmas.Map.Keys.{IsDistinct-head, IsDistinct-tail, IsDistinct-cons}
use Rattle.shared_rules.specs.declared.items.Item.{Item}
use Rattle.shared_rules.specs.Keys.{same_key}
use Rattle.shared_rules.specs.Items.{size_of, used, is_there, is_before, without, but_last, evicted}
use Rattle.shared_rules.specs.Dictionary.{keys_there}
use Rattle.shared_rules.specs.KeyLaws.{same_key-eq}
use Rattle.shared_dict.specs.declared.kept.Flush.{Flush}
use Rattle.shared_dict.specs.Zones.{fits_after, is_doomed, doomed}
use Rattle.shared_dict.specs.Kept.{Entry, item_of, items_of, expiry_of}
use Rattle.shared_dict.proofs.Entries.{without-is}
use Rattle.shared_dict.proofs.Evictions.{le-true, le-false, true-lt, evicted-nil, stays, goes}

-- what a sweep has found, from the last on
pub record IsSwept (f : Flush) (now most : ℕ) (all left : List Entry) (found : List (List ℕ)) : Type 0 where
  pub tail : List Entry
  pub whole : all ≡ left ++ tail
  pub keys : found ≡ doomed now most (items_of f tail)

pub swept-begins : (f : Flush) (now most : ℕ) (all : List Entry) → IsSwept f now most all all []
swept-begins f now most all = record { tail = []; whole = sym (append-nil all); keys = refl }

seam : (all left next tail : List Entry) (e : Entry) → all ≡ left ++ tail → left ≡ next ++ e ∷ [] → all ≡ next ++ e ∷ tail
seam all left next tail e w s = w ∙ ap (λ l. l ++ tail) s ∙ append_assoc next (e ∷ []) tail

pub swept-more : (f : Flush) (now most : ℕ) (all left next : List Entry) (e : Entry) (found : List (List ℕ)) → IsSwept f now most all left found → left ≡ next ++ e ∷ []
    → not (is_before now (expiry_of f e.1)) && nat_lt (length found) most ≡ true → IsSwept f now most all next (found ++ e.0 ∷ [])
swept-more f now most all left next e found w s h = record {
  tail = e ∷ w.tail;
  whole = seam all left next w.tail e w.whole s;
  keys = ap (λ k. k ++ e.0 ∷ []) w.keys ∙ sym (ap (λ b. if b then doomed now most (items_of f w.tail) ++ e.0 ∷ [] else doomed now most (items_of f w.tail)) (ap (λ (k : List (List ℕ)). is_doomed now most (length k) (item_of f e)) (sym w.keys) ∙ h));
}

pub swept-same : (f : Flush) (now most : ℕ) (all left next : List Entry) (e : Entry) (found : List (List ℕ)) → IsSwept f now most all left found → left ≡ next ++ e ∷ []
    → not (is_before now (expiry_of f e.1)) && nat_lt (length found) most ≡ false → IsSwept f now most all next found
swept-same f now most all left next e found w s h = record {
  tail = e ∷ w.tail;
  whole = seam all left next w.tail e w.whole s;
  keys = w.keys ∙ sym (ap (λ b. if b then doomed now most (items_of f w.tail) ++ e.0 ∷ [] else doomed now most (items_of f w.tail)) (ap (λ (k : List (List ℕ)). is_doomed now most (length k) (item_of f e)) (sym w.keys) ∙ h));
}

pub swept-ends : (f : Flush) (now most : ℕ) (all left : List Entry) (found : List (List ℕ)) → IsSwept f now most all left found → left ≡ [] → found ≡ doomed now most (items_of f all)
swept-ends f now most all left found w e = w.keys ∙ ap (λ l. doomed now most (items_of f l)) (sym (w.whole ∙ ap (λ l. l ++ w.tail) e))

-- the same of a count
pub record IsCountedSo (f : Flush) (now most : ℕ) (all left : List Entry) (count : ℕ) : Type 0 where
  pub found : List (List ℕ)
  pub swept : IsSwept f now most all left found
  pub count_is : count ≡ length found
  pub small : count ≤ most

and-right : (x y : Bool) → x && y ≡ true → y ≡ true
and-right true y h = h
and-right false y h = absurd (let f : false ≡ true = h in cc)

pub counted-more : (f : Flush) (now most : ℕ) (all left next : List Entry) (e : Entry) (count : ℕ) → IsCountedSo f now most all left count → left ≡ next ++ e ∷ []
    → not (is_before now (expiry_of f e.1)) && nat_lt count most ≡ true → IsCountedSo f now most all next (count + 1)
counted-more f now most all left next e count w s h =
    let l = true-lt count most (and-right (not (is_before now (expiry_of f e.1))) (nat_lt count most) h) in
    let n = length-append w.found (e.0 ∷ []) in
    let c = w.count_is in
    record {
      found = w.found ++ e.0 ∷ [];
      swept = swept-more f now most all left next e w.found w.swept s (ap (λ k. not (is_before now (expiry_of f e.1)) && nat_lt k most) (sym c) ∙ h);
      count_is = omega arith;
      small = omega arith;
    }

-- what a list of keys has found, from the first on
pub record IsListed (f : Flush) (now most : ℕ) (all left : List Entry) (found : List (List ℕ)) : Type 0 where
  pub keys : found ++ take (most - length found) (keys_there now (items_of f left)) ≡ take most (keys_there now (items_of f all))
  pub few : length found ≤ most

pub listed-begins : (f : Flush) (now most : ℕ) (all : List Entry) → IsListed f now most all all []
listed-begins f now most all = let e : most - 0 ≡ most = omega arith in record { keys = ap (λ n. take n (keys_there now (items_of f all))) e; few = omega arith }

take-more : (j n : ℕ) (k : List ℕ) (ks : List (List ℕ)) → j ≡ suc n → take j (k ∷ ks) ≡ k ∷ take n ks
take-more j n k ks e = ap (λ i. take i (k ∷ ks)) e

listed-keys : (f : Flush) (now : ℕ) (e : Entry) (left : List Entry) (b : Bool) → is_before now (expiry_of f e.1) ≡ b → keys_there now (items_of f (e ∷ left)) ≡ (if b then e.0 ∷ keys_there now (items_of f left) else keys_there now (items_of f left))
listed-keys f now e left true h = ap (λ b. map (λ (i : Item). i.key) (cond b (item_of f e ∷ filter (is_there now) (items_of f left)) (filter (is_there now) (items_of f left)))) h
listed-keys f now e left false h = ap (λ b. map (λ (i : Item). i.key) (cond b (item_of f e ∷ filter (is_there now) (items_of f left)) (filter (is_there now) (items_of f left)))) h

pub listed-more : (f : Flush) (now most : ℕ) (all left next : List Entry) (e : Entry) (found : List (List ℕ)) → IsListed f now most all left found → left ≡ e ∷ next
    → is_before now (expiry_of f e.1) ≡ true → length found < most → IsListed f now most all next (found ++ e.0 ∷ [])
listed-more f now most all left next e found w s h l =
    let n : length (found ++ e.0 ∷ []) ≡ length found + 1 = length-append found (e.0 ∷ []) in
    record {
      keys = ap (λ k. found ++ e.0 ∷ [] ++ take (most - k) (keys_there now (items_of f next))) n
          ∙ append_assoc found (e.0 ∷ []) (take (most - (length found + 1)) (keys_there now (items_of f next)))
          ∙ ap (λ ks. found ++ ks) (sym (take-more (most - length found) (most - (length found + 1)) e.0 (keys_there now (items_of f next)) (omega arith)))
          ∙ ap (λ ks. found ++ take (most - length found) ks) (sym (ap (λ (l : List Entry). keys_there now (items_of f l)) s ∙ listed-keys f now e next true h))
          ∙ w.keys;
      few = omega arith;
    }

pub listed-same : (f : Flush) (now most : ℕ) (all left next : List Entry) (e : Entry) (found : List (List ℕ)) → IsListed f now most all left found → left ≡ e ∷ next
    → is_before now (expiry_of f e.1) ≡ false → IsListed f now most all next found
listed-same f now most all left next e found w s h =
    record { keys = ap (λ ks. found ++ take (most - length found) ks) (sym (ap (λ (l : List Entry). keys_there now (items_of f l)) s ∙ listed-keys f now e next false h)) ∙ w.keys; few = w.few }

pub listed-full : (f : Flush) (now most : ℕ) (all left : List Entry) (found : List (List ℕ)) → IsListed f now most all left found → most ≤ length found → found ≡ take most (keys_there now (items_of f all))
listed-full f now most all left found w l =
    let e : most - length found ≡ 0 = omega arith in
    sym (append-nil found) ∙ ap (λ ks. found ++ ks) (none (keys_there now (items_of f left))) ∙ ap (λ n. found ++ take n (keys_there now (items_of f left))) (sym e) ∙ w.keys
  where
    none : (ks : List (List ℕ)) → [] ≡ take 0 ks
    none [] = refl
    none (k ∷ ks) = refl

pub listed-ends : (f : Flush) (now most : ℕ) (all left : List Entry) (found : List (List ℕ)) → IsListed f now most all left found → left ≡ [] → found ≡ take most (keys_there now (items_of f all))
listed-ends f now most all left found w e =
    sym (append-nil found) ∙ ap (λ ks. found ++ ks) (none (most - length found)) ∙ ap (λ (l : List Entry). found ++ take (most - length found) (keys_there now (items_of f l))) (sym e) ∙ w.keys
  where
    none : (n : ℕ) → [] ≡ take n (keys_there now (items_of f []))
    none zero = refl
    none (suc n) = refl

-- the last entry of a list in which each key stands once
all-front : (P : List ℕ → Type 0) (es : List Entry) (e : Entry) → AllByRecursion P (keys_of (es ++ e ∷ [])) → AllByRecursion P (keys_of es)
all-front P [] e a = tt
all-front P (x ∷ es) e a = (a.0, all-front P es e a.1)

all-end : (P : List ℕ → Type 0) (es : List Entry) (e : Entry) → AllByRecursion P (keys_of (es ++ e ∷ [])) → P e.0
all-end P [] e a = a.0
all-end P (x ∷ es) e a = all-end P es e a.1

distinct-front : (es : List Entry) (e : Entry) → IsDistinct same_key (keys_of (es ++ e ∷ [])) → IsDistinct same_key (keys_of es)
unfolding IsDistinct
distinct-front [] e d = tt
distinct-front (x ∷ es) e d =
    IsDistinct-cons same_key x.0 (keys_of es) (all-front (λ k. same_key x.0 k ≡ false) es e (IsDistinct-head same_key x.0 (keys_of (es ++ e ∷ [])) d)) (distinct-front es e (IsDistinct-tail same_key x.0 (keys_of (es ++ e ∷ [])) d))

without-end : (f : Flush) (key : List ℕ) (es : List Entry) (e : Entry) → IsDistinct same_key (keys_of (es ++ e ∷ [])) → same_key key e.0 ≡ true
    → without key (items_of f (es ++ e ∷ [])) ≡ without key (items_of f es)
without-end f key [] e d h = ap (λ b. if b then [] else item_of f e ∷ []) h
without-end f key (x ∷ es) e d h = put (same_key key x.0) refl (without-end f key es e (IsDistinct-tail same_key x.0 (keys_of (es ++ e ∷ [])) d) h)
  where
    put : (b : Bool) → same_key key x.0 ≡ b → without key (items_of f (es ++ e ∷ [])) ≡ without key (items_of f es)
        → (if b then items_of f (es ++ e ∷ []) else item_of f x ∷ without key (items_of f (es ++ e ∷ []))) ≡ (if b then items_of f es else item_of f x ∷ without key (items_of f es))
    put true q ih =
        let a : same_key x.0 e.0 ≡ false = all-end (λ k. same_key x.0 k ≡ false) es e (IsDistinct-head same_key x.0 (keys_of (es ++ e ∷ [])) d) in
        let b : same_key x.0 e.0 ≡ true = ap (λ k. same_key k e.0) (sym (same_key-eq key x.0 q)) ∙ h in
        absurd (let c : false ≡ true = sym a ∙ b in cc)
    put false q ih = ap (λ l. item_of f x ∷ l) ih

without-other : (f : Flush) (key : List ℕ) (es : List Entry) (e : Entry) → same_key key e.0 ≡ false
    → without key (items_of f (es ++ e ∷ [])) ≡ without key (items_of f es) ++ item_of f e ∷ []
without-other f key [] e h = ap (λ b. if b then [] else item_of f e ∷ []) h
without-other f key (x ∷ es) e h = put (same_key key x.0) (without-other f key es e h)
  where
    more : (es : List Entry) → items_of f (es ++ e ∷ []) ≡ items_of f es ++ item_of f e ∷ []
    more [] = refl
    more (x ∷ es) = ap (λ l. item_of f x ∷ l) (more es)

    put : (b : Bool) → without key (items_of f (es ++ e ∷ [])) ≡ without key (items_of f es) ++ item_of f e ∷ []
        → (if b then items_of f (es ++ e ∷ []) else item_of f x ∷ without key (items_of f (es ++ e ∷ []))) ≡ (if b then items_of f es else item_of f x ∷ without key (items_of f es)) ++ item_of f e ∷ []
    put true ih = more es
    put false ih = ap (λ l. item_of f x ∷ l) ih

but-end : (items : List Item) (i : Item) → but_last (items ++ i ∷ []) ≡ items
but-end items i =
    let n = length-append items (i ∷ []) in
    let e : length (items ++ i ∷ []) - 1 ≡ length items = omega arith in
    ap (λ k. take k (items ++ i ∷ [])) e ∙ take-seam items
  where
    take-seam : (items : List Item) → take (length items) (items ++ i ∷ []) ≡ items
    take-seam [] = refl
    take-seam (x ∷ items) = ap (λ l. x ∷ l) (take-seam items)

-- what is left of items for which others are evicted, from the last on, without the item of a key
pub record IsAhead (key : List ℕ) (size more : ℕ) (all left : List Entry) (rest most : ℕ) : Type 0 where
  pub distinct : IsDistinct same_key (keys_of left)
  pub counted : (f : Flush) → rest ≡ used (without key (items_of f left))
  pub same : (f : Flush) → evicted most size more (without key (items_of f left)) ≡ evicted 30 size more (without key (items_of f all))

pub ahead-same : (key : List ℕ) (size more : ℕ) (all left next : List Entry) (e : Entry) (rest most : ℕ) → IsAhead key size more all left rest most → left ≡ next ++ e ∷ [] → same_key key e.0 ≡ true
    → IsAhead key size more all next rest most
ahead-same key size more all left next e rest most w s h =
    let d : IsDistinct same_key (keys_of (next ++ e ∷ [])) = subst (λ (l : List Entry). IsDistinct same_key (keys_of l)) s w.distinct in
    let c : (f : Flush) → without key (items_of f left) ≡ without key (items_of f next) = λ f. ap (λ (l : List Entry). without key (items_of f l)) s ∙ without-end f key next e d h in
    record {
      distinct = distinct-front next e d;
      counted = λ f. w.counted f ∙ ap used (c f);
      same = λ f. ap (evicted most size more) (sym (c f)) ∙ w.same f;
    }

pub ahead-size : (key : List ℕ) (size more : ℕ) (all left next : List Entry) (e : Entry) (rest most : ℕ) → IsAhead key size more all left rest most → left ≡ next ++ e ∷ [] → same_key key e.0 ≡ false
    → (f : Flush) → rest ≡ used (without key (items_of f next)) + size_of (item_of f e)
ahead-size key size more all left next e rest most w s h f =
    let p : rest ≡ used (without key (items_of f next) ++ item_of f e ∷ []) = w.counted f ∙ ap (λ (l : List Entry). used (without key (items_of f l))) s ∙ ap used (without-other f key next e h) in
    let a = sum_by-append size_of (without key (items_of f next)) (item_of f e ∷ []) in
    let n = sum_by-cons size_of (item_of f e) [] in
    omega arith

pub ahead-out : (key : List ℕ) (size more : ℕ) (all left next : List Entry) (e : Entry) (rest most : ℕ) (f0 : Flush) → IsAhead key size more all left rest most → left ≡ next ++ e ∷ [] → same_key key e.0 ≡ false
    → size < rest + more → 0 < most → IsAhead key size more all next (rest - size_of (item_of f0 e)) (most - 1)
ahead-out key size more all left next e rest most f0 w s h l p =
    let d : IsDistinct same_key (keys_of (next ++ e ∷ [])) = subst (λ (l : List Entry). IsDistinct same_key (keys_of l)) s w.distinct in
    record {
      distinct = distinct-front next e d;
      counted = λ f. let z = ahead-size key size more all left next e rest most w s h f in let y : size_of (item_of f e) ≡ size_of (item_of f0 e) = refl in omega arith;
      same = λ f.
          let c : without key (items_of f left) ≡ without key (items_of f next) ++ item_of f e ∷ [] = ap (λ (l : List Entry). without key (items_of f l)) s ∙ without-other f key next e h in
          let u = w.counted f in
          let m : most ≡ suc (most - 1) = omega arith in
          ap (evicted (most - 1) size more) (sym (but-end (without key (items_of f next)) (item_of f e)) ∙ ap but_last (sym c))
          ∙ sym (goes (most - 1) size more (without key (items_of f left)) (omega arith))
          ∙ ap (λ n. evicted n size more (without key (items_of f left))) (sym m)
          ∙ w.same f;
    }

pub ahead-fits : (key : List ℕ) (size more : ℕ) (all left : List Entry) (rest most : ℕ) → IsAhead key size more all left rest most → rest + more ≤ size
    → (f : Flush) → fits_after 30 size more (without key (items_of f all)) ≡ true
ahead-fits key size more all left rest most w l f =
    let u = w.counted f in
    let s = stays most size more (without key (items_of f left)) (omega arith) in
    ap (λ (l : List Item). nat_le (used l + more) size) (sym (w.same f) ∙ s) ∙ le-true (used (without key (items_of f left)) + more) size (omega arith)

pub ahead-full : (key : List ℕ) (size more : ℕ) (all left : List Entry) (rest most : ℕ) → IsAhead key size more all left rest most → size < rest + more → most ≡ 0
    → (f : Flush) → fits_after 30 size more (without key (items_of f all)) ≡ false
ahead-full key size more all left rest most w l z f =
    let u = w.counted f in
    ap (λ (l : List Item). nat_le (used l + more) size) (sym (w.same f) ∙ ap (λ n. evicted n size more (without key (items_of f left))) z) ∙ le-false (used (without key (items_of f left)) + more) size (omega arith)

pub ahead-ends : (key : List ℕ) (size more : ℕ) (all left : List Entry) (rest most : ℕ) → IsAhead key size more all left rest most → left ≡ []
    → (f : Flush) → fits_after 30 size more (without key (items_of f all)) ≡ nat_le (rest + more) size
ahead-ends key size more all left rest most w e f =
    let u : rest ≡ 0 = w.counted f ∙ ap (λ (l : List Entry). used (without key (items_of f l))) e in
    ap (λ (l : List Item). nat_le (used l + more) size) (sym (w.same f) ∙ ap (λ (l : List Entry). evicted most size more (without key (items_of f l))) e ∙ evicted-nil most size more) ∙ ap (λ n. nat_le (n + more) size) (sym u)

-- the order and the bytes of entries are the same whatever was flushed
pub keys-are : (f : Flush) (es : List Entry) → map (λ (i : Item). i.key) (items_of f es) ≡ keys_of es
keys-are f [] = refl
keys-are f (e ∷ es) = ap (λ l. e.0 ∷ l) (keys-are f es)

used-any : (f g : Flush) (es : List Entry) → used (items_of f es) ≡ used (items_of g es)
used-any f g [] = refl
used-any f g (e ∷ es) = let a = sum_by-cons size_of (item_of f e) (items_of f es) in let b = sum_by-cons size_of (item_of g e) (items_of g es) in let i = used-any f g es in omega arith

pub without-any : (f g : Flush) (key : List ℕ) (es : List Entry) → used (without key (items_of f es)) ≡ used (without key (items_of g es))
without-any f g key es = ap used (without-is f key es) ∙ used-any f g (remove_entry (same_key key) es) ∙ ap used (sym (without-is g key es))
