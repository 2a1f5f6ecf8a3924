-- Items are taken out by their keys as a sweep does.
use Rattle.std.proofs.Common.{◌≡◌, ℕ, zero, suc, ◌+◌, ◌-◌, ◌≤◌, ◌<◌, nat_lt, not, ◌&&◌, Bool, true, false, List, [], ◌∷◌, ◌++◌, length, map, drop, get_or, refl, sym, ap, ◌∙◌, arith, if◌then◌else◌}
use Rattle.std.specs.List.{AllByRecursion, IsDistinct}
use Rattle.std.proofs.lemmas.Cmp.{nat_list_eq_equiv}
use Rattle.std.proofs.lemmas.List.{length-append}
use Rattle.std.proofs.lemmas.Map.Keys.{IsDistinct-head, IsDistinct-tail}
use Rattle.shared_rules.specs.declared.items.Item.{Item}
use Rattle.shared_rules.specs.Keys.{same_key}
use Rattle.shared_rules.specs.Items.{is_there, without, swept}
use Rattle.shared_dict.proofs.Evictions.{true-lt}
use Rattle.shared_dict.specs.Zones.{is_doomed, doomed, without_all}

abbrev keys : List Item → List (List ℕ)
keys items = map (λ item. item.key) items

doomed-all : (P : List ℕ → Type 0) (now most : ℕ) (items : List Item) → AllByRecursion P (keys items) → AllByRecursion P (doomed now most items)
doomed-all P now most [] a = tt
doomed-all P now most (i ∷ items) a = put (is_doomed now most (length (doomed now most items)) i) (doomed-all P now most items a.1)
  where
    also : (ks : List (List ℕ)) → AllByRecursion P ks → AllByRecursion P (ks ++ i.key ∷ [])
    also [] d = (a.0, tt)
    also (k ∷ ks) d = (d.0, also ks d.1)

    put : (b : Bool) → AllByRecursion P (doomed now most items) → AllByRecursion P (if b then doomed now most items ++ i.key ∷ [] else doomed now most items)
    put true d = also (doomed now most items) d
    put false d = d

-- an item stays whose key is none of the keys
others-out : (ks : List (List ℕ)) (i : Item) (items : List Item) → AllByRecursion (λ k. same_key i.key k ≡ false) ks → without_all ks (i ∷ items) ≡ i ∷ without_all ks items
others-out [] i items a = refl
others-out (k ∷ ks) i items a =
    ap (λ b. without_all ks (if b then items else i ∷ without k items)) (nat_list_eq_equiv.symm k i.key ∙ a.0) ∙ others-out ks i (without k items) a.1

one-more : (ks : List (List ℕ)) (k : List ℕ) (items : List Item) → without_all (ks ++ k ∷ []) items ≡ without k (without_all ks items)
one-more [] k items = refl
one-more (x ∷ ks) k items = one-more ks k (without x items)

pub record Sweeps (now most : ℕ) (all : List Item) : Type 0 where
  pub items : without_all (doomed now most all) all ≡ swept now most all
  pub count : length (doomed now most all) + length (swept now most all) ≡ length all

sweep-more : (now most : ℕ) (i : Item) (items : List Item) → IsDistinct same_key (keys (i ∷ items)) → Sweeps now most items → Sweeps now most (i ∷ items)
sweep-more now most i items d rest =
    let p = put (is_there now i) (nat_lt (length (doomed now most items)) most) (nat_lt (length items - length (swept now most items)) most) same in record { items = p.0; count = p.1 }
  where
    same : nat_lt (length items - length (swept now most items)) most ≡ nat_lt (length (doomed now most items)) most
    same = let c = rest.count in let e : length items - length (swept now most items) ≡ length (doomed now most items) = omega arith in ap (λ n. nat_lt n most) e

    kept : without_all (doomed now most items) (i ∷ items) ≡ i ∷ swept now most items
    kept = others-out (doomed now most items) i items (doomed-all (λ k. same_key i.key k ≡ false) now most items (IsDistinct-head same_key i.key (keys items) d)) ∙ ap (λ l. i ∷ l) rest.items

    gone : without_all (doomed now most items ++ i.key ∷ []) (i ∷ items) ≡ swept now most items
    gone = one-more (doomed now most items) i.key (i ∷ items) ∙ ap (without i.key) kept ∙ ap (λ b. if b then swept now most items else i ∷ without i.key (swept now most items)) (nat_list_eq_equiv.refl i.key)

    put : (t n m : Bool) → m ≡ n
        → (without_all (if not t && n then doomed now most items ++ i.key ∷ [] else doomed now most items) (i ∷ items) ≡ (if t then i ∷ swept now most items else if m then swept now most items else i ∷ swept now most items))
        × (length (if not t && n then doomed now most items ++ i.key ∷ [] else doomed now most items) + length (if t then i ∷ swept now most items else if m then swept now most items else i ∷ swept now most items) ≡ length (i ∷ items))
    put true n m e = (kept, let c = rest.count in omega arith)
    put false true true e = (gone, let c = rest.count in let l = length-append (doomed now most items) (i.key ∷ []) in omega arith)
    put false false false e = (kept, let c = rest.count in omega arith)
    put false true false e = absurd (let f : false ≡ true = e in cc)
    put false false true e = absurd (let f : true ≡ false = e in cc)

pub sweeps : (now most : ℕ) (items : List Item) → IsDistinct same_key (keys items) → Sweeps now most items
sweeps now most [] d = record { items = refl; count = refl }
sweeps now most (i ∷ items) d = sweep-more now most i items d (sweeps now most items (IsDistinct-tail same_key i.key (keys items) d))

pub doomed-few : (now most : ℕ) (items : List Item) → length (doomed now most items) ≤ most
doomed-few now most [] = omega arith
doomed-few now most (i ∷ items) = put (not (is_there now i)) (nat_lt (length (doomed now most items)) most) refl (doomed-few now most items)
  where
    put : (t n : Bool) → nat_lt (length (doomed now most items)) most ≡ n → length (doomed now most items) ≤ most → length (if t && n then doomed now most items ++ i.key ∷ [] else doomed now most items) ≤ most
    put true true h l = let n = length-append (doomed now most items) (i.key ∷ []) in let m = true-lt (length (doomed now most items)) most h in omega arith
    put true false h l = l
    put false n h l = l

-- keys of which the first are taken out already
pub swept-on : (k : ℕ) (ks : List (List ℕ)) (key : List ℕ) (items next done : List Item) → k < length ks → key ≡ get_or ks k key → next ≡ without key items
    → without_all (drop k ks) items ≡ done → without_all (drop (k + 1) ks) next ≡ done
swept-on k ks key items next done l g n d = ap (without_all (drop (k + 1) ks)) n ∙ sym (ap (λ rest. without_all rest items) (split k ks key l g)) ∙ d
  where
    split : (k : ℕ) (ks : List (List ℕ)) (key : List ℕ) → k < length ks → key ≡ get_or ks k key → drop k ks ≡ key ∷ drop (k + 1) ks
    split k [] key l g = absurd (let n : k < 0 = l in omega arith)
    split zero (x ∷ ks) key l g = ap (λ y. y ∷ ks) (sym g)
    split (suc k) (x ∷ ks) key l g =
        let e : suc (k + 1) ≡ suc k + 1 = omega arith in split k ks key (let n : suc k < suc (length ks) = l in omega arith) g ∙ ap (λ n. key ∷ drop n (x ∷ ks)) e

pub swept-end : (k : ℕ) (ks : List (List ℕ)) (items done : List Item) → length ks ≤ k → without_all (drop k ks) items ≡ done → items ≡ done
swept-end k ks items done l d = sym (ap (λ rest. without_all rest items) (none k ks l)) ∙ d
  where
    none : (k : ℕ) (ks : List (List ℕ)) → length ks ≤ k → drop k ks ≡ []
    none zero [] l = refl
    none (suc k) [] l = refl
    none zero (x ∷ ks) l = absurd (let n : suc (length ks) ≤ 0 = l in omega arith)
    none (suc k) (x ∷ ks) l = none k ks (let n : suc (length ks) ≤ suc k = l in omega arith)
