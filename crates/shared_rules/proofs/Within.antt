-- What a dictionary always keeps.
use Rattle.std.proofs.Common.{◌≡◌, ℕ, zero, suc, ◌+◌, ◌-◌, ◌≤◌, ◌==◌, nat_le, nat_lt, Bool, true, false, cond, List, [], ◌∷◌, length, take, find, All, Option, Some, None, ℤ, pos, negsuc, ◌+ℤ◌, int_le, refl, sym, ap, ◌∙◌, arith, rules, tests, subst, if◌then◌else◌}
use Rattle.std.proofs.lemmas.Bool.Decides.{nat_tests}
use Rattle.std.proofs.lemmas.List.Sums.{sum_by-cons}
use Rattle.std.proofs.lemmas.List.Elements.{All-head, All-tail, All-cons}
use Rattle.std.proofs.lemmas.Map.Keys.{IsDistinct-head, IsDistinct-tail, IsDistinct-cons}
use Rattle.std.specs.List.{IsDistinct, AllByRecursion}
use Rattle.std.proofs.lemmas.Bool.{and_parts}
use Rattle.resty_base.specs.WholeNumber.{IsWhole}
use Rattle.resty_base.specs.declared.dictionary.DictValue.{DictValue}
use Rattle.resty_base.specs.declared.dictionary.DictValue.TheVariants as value
use Rattle.resty_base.specs.declared.dictionary.DictCall.{DictCall}
use Rattle.resty_base.specs.declared.dictionary.DictCall.TheVariants as call
use Rattle.resty_base.specs.declared.dictionary.DictAnswer.TheVariants as answer
use Rattle.resty_base.specs.declared.dictionary.How.{How}
use Rattle.resty_base.specs.declared.dictionary.How.TheVariants as how
use Rattle.shared_rules.specs.declared.items.Item.{Item}
use Rattle.shared_rules.specs.Keys.{same_key}
use Rattle.shared_rules.specs.Items.{size_of, value_size, used, is_there, has_key, if_there, found, without, first, but_last, evicted, swept}
use Rattle.shared_rules.specs.Dictionary.{Outcome, dict, get, put_in, store, stored, expiry_at, is_whole, raised, increased, as_number, begun, incr, expiring, expired, limit}
use Rattle.shared_rules.specs.Ranges.{IsTtl, IsInRange, IsInTime, IsKept, IsWithin}
use Rattle.shared_rules.proofs.Parts.{keys, part-within, without-part, take-part, swept-part}
use Rattle.shared_rules.specs.KeyLaws.{same_key-eq}

evicted-within : (n size more : ℕ) (items : List Item) → IsWithin size items → IsWithin size (evicted n size more items)
evicted-within zero size more items w = w
evicted-within (suc n) size more items w = put (nat_le (used items + more) size) (evicted-within n size more (but_last items) (part-within size (but_last items) items (take-part (length items - 1) items) w))
  where
    put : (b : Bool) → IsWithin size (evicted n size more (but_last items)) → IsWithin size (if b then items else evicted n size more (but_last items))
    put true v = w
    put false v = v

without-apart : (key : List ℕ) (items : List Item) → IsDistinct same_key (keys items) → AllByRecursion (λ k. same_key key k ≡ false) (keys (without key items))
without-apart key [] d = tt
without-apart key (item ∷ items) d = put (has_key key item) refl (without-apart key items (IsDistinct-tail same_key item.key (keys items) d))
  where
    put : (b : Bool) → has_key key item ≡ b → AllByRecursion (λ k. same_key key k ≡ false) (keys (without key items)) → AllByRecursion (λ k. same_key key k ≡ false) (keys (if b then items else item ∷ without key items))
    put true q a = subst (λ (x : List ℕ). AllByRecursion (λ k. same_key x k ≡ false) (keys items)) (sym (same_key-eq key item.key q)) (IsDistinct-head same_key item.key (keys items) d)
    put false q a = (q, a)

take-apart : (key : List ℕ) (n : ℕ) (items : List Item) → AllByRecursion (λ k. same_key key k ≡ false) (keys items) → AllByRecursion (λ k. same_key key k ≡ false) (keys (take n items))
take-apart key zero [] a = tt
take-apart key zero (item ∷ items) a = tt
take-apart key (suc n) [] a = tt
take-apart key (suc n) (item ∷ items) a = (a.0, take-apart key n items a.1)

evicted-apart : (key : List ℕ) (n size more : ℕ) (items : List Item) → AllByRecursion (λ k. same_key key k ≡ false) (keys items) → AllByRecursion (λ k. same_key key k ≡ false) (keys (evicted n size more items))
evicted-apart key zero size more items a = a
evicted-apart key (suc n) size more items a = put (nat_le (used items + more) size) (evicted-apart key n size more (but_last items) (take-apart key (length items - 1) items a))
  where
    put : (b : Bool) → AllByRecursion (λ k. same_key key k ≡ false) (keys (evicted n size more (but_last items))) → AllByRecursion (λ k. same_key key k ≡ false) (keys (if b then items else evicted n size more (but_last items)))
    put true v = a
    put false v = v

pub store-within : (size : ℕ) (item : Item) (items : List Item) → IsKept item → IsWithin size items → IsWithin size (store size item items).1
store-within size item items k w = put (evicted 30 size (size_of item) (without item.key items)) (evicted-within 30 size (size_of item) (without item.key items) (part-within size (without item.key items) items (without-part item.key items) w))
    (evicted-apart item.key 30 size (size_of item) (without item.key items) (without-apart item.key items w.distinct))
  where
    put-any : (any : Bool) (left : List Item) → IsWithin size left → AllByRecursion (λ k. same_key item.key k ≡ false) (keys left) → (b : Bool) → nat_le (used left + size_of item) size ≡ b → IsWithin size (let o : Outcome = if b then (answer.Done any, item ∷ left) else (answer.NoMemory any, left) in o.1)
    put-any any left v a true q =
        let e = sum_by-cons size_of item left in
        let l : used left + size_of item ≤ size = search (nat_tests, rules) in
        record { distinct = IsDistinct-cons same_key item.key (keys left) a v.distinct; bytes = omega arith; kept = All-cons IsKept item left k v.kept }
    put-any any left v a false q = v

    put : (left : List Item) → IsWithin size left → AllByRecursion (λ k. same_key item.key k ≡ false) (keys left) → IsWithin size (put_in size item (nat_lt (length left) (length (without item.key items))) left).1
    put left v a = put-any (nat_lt (length left) (length (without item.key items))) left v a (nat_le (used left + size_of item) size) refl

pub without-used : (key : List ℕ) (old : Item) (items : List Item) → find (has_key key) items ≡ Some old → used (without key items) + size_of old ≡ used items
without-used key old [] h = absurd (let f : None ≡ Some old = h in cc)
without-used key old (item ∷ items) h = put (without-used key old items) (has_key key item) h
  where
    put : (find (has_key key) items ≡ Some old → used (without key items) + size_of old ≡ used items) → (b : Bool) → cond b (Some item) (find (has_key key) items) ≡ Some old → used (if b then items else item ∷ without key items) + size_of old ≡ used (item ∷ items)
    put ih true h = let f : item ≡ old = cc in let e = sum_by-cons size_of item items in let g : size_of item ≡ size_of old = ap size_of f in omega arith
    put ih false h = let i = ih h in let e = sum_by-cons size_of item items in let d = sum_by-cons size_of item (without key items) in omega arith

pub first-used : (item old : Item) (items : List Item) → find (has_key item.key) items ≡ Some old → size_of item ≡ size_of old → used (first item items) ≡ used items
first-used item old items h s = let e = sum_by-cons size_of item (without item.key items) in let u = without-used item.key old items h in omega arith

pub first-within : (size : ℕ) (item old : Item) (items : List Item) → IsKept item → find (has_key item.key) items ≡ Some old → size_of item ≡ size_of old → IsWithin size items → IsWithin size (first item items)
first-within size item old items k h s w =
    let p = part-within size (without item.key items) items (without-part item.key items) w in
    let u = first-used item old items h s in
    let b = w.bytes in
    record {
      distinct = IsDistinct-cons same_key item.key (keys (without item.key items)) (without-apart item.key items w.distinct) p.distinct;
      bytes = omega arith;
      kept = All-cons IsKept item (without item.key items) k p.kept;
    }

pub expired-used : (now : ℕ) (items : List Item) → used (expired now items) ≡ used items
expired-used now [] = refl
expired-used now (item ∷ items) = let e = sum_by-cons size_of item items in let d = sum_by-cons size_of (expiring now item) (expired now items) in let i = expired-used now items in omega arith

expired-keys : (now : ℕ) (items : List Item) → keys (expired now items) ≡ keys items
expired-keys now [] = refl
expired-keys now (item ∷ items) = ap (λ l. item.key ∷ l) (expired-keys now items)

expired-kept : (now : ℕ) (items : List Item) → now ≤ 99_999_999_999_999 → All IsKept items → All IsKept (expired now items)
expired-kept now [] l a = λ k d h. absurd (omega arith)
expired-kept now (item ∷ items) l a =
    let h = All-head IsKept item items a in
    All-cons IsKept (expiring now item) (expired now items) (record { number = h.number; time = omega arith }) (expired-kept now items l (All-tail IsKept item items a))

expired-within : (size now : ℕ) (items : List Item) → now ≤ 99_999_999_999_999 → IsWithin size items → IsWithin size (expired now items)
expired-within size now items l w =
    let u = expired-used now items in
    let b = w.bytes in
    record { distinct = subst (IsDistinct same_key) (sym (expired-keys now items)) w.distinct; bytes = omega arith; kept = expired-kept now items l w.kept }

-- an item that is found is one of the items, with the key
found-kept : (key : List ℕ) (items : List Item) (old : Item) → All IsKept items → find (has_key key) items ≡ Some old → IsKept old × (old.key ≡ key)
found-kept key [] old a h = absurd (let f : None ≡ Some old = h in cc)
found-kept key (item ∷ items) old a h = put (found-kept key items old (All-tail IsKept item items a)) (has_key key item) refl h
  where
    put : (find (has_key key) items ≡ Some old → IsKept old × (old.key ≡ key)) → (b : Bool) → has_key key item ≡ b → cond b (Some item) (find (has_key key) items) ≡ Some old → IsKept old × (old.key ≡ key)
    put ih true q h = let f : item ≡ old = cc in (subst IsKept f (All-head IsKept item items a), sym (ap (λ (x : Item). x.key) f) ∙ sym (same_key-eq key item.key q))
    put ih false q h = ih h

pub there-found : (now : ℕ) (o : Option Item) (item : Item) → if_there now o ≡ Some item → o ≡ Some item
there-found now None item h = h
there-found now (Some x) item h = put (is_there now x) h
  where
    put : (b : Bool) → (if b then Some x else None) ≡ Some item → Some x ≡ Some item
    put true h = h
    put false h = absurd (let f : None ≡ Some item = h in cc)

-- the same of an item of the key that takes its place
placed-within : (size : ℕ) (key : List ℕ) (item old : Item) (items : List Item) → IsKept item → item.key ≡ key → find (has_key key) items ≡ Some old → size_of item ≡ size_of old → IsWithin size items → IsWithin size (first item items)
placed-within size key item old items k e h s w = first-within size item old items k (subst (λ (x : List ℕ). find (has_key x) items ≡ Some old) (sym e) h) s w

get-within : (size now : ℕ) (key : List ℕ) (items : List Item) (o : Option Item) → found now key items ≡ o → IsWithin size items → IsWithin size (get o items).1
get-within size now key items None e w = w
get-within size now key items (Some item) e w =
    let h = there-found now (find (has_key key) items) item e in
    let k = found-kept key items item w.kept h in
    placed-within size key item item items k.0 k.1 h refl w

whole-is : (n : ℤ) → is_whole n ≡ true → IsWhole n
whole-is n h = let b = and_parts (int_le (negsuc 99_999_999_999_998) n) (int_le n (pos 99_999_999_999_999)) h in record { least = search (tests, rules); greatest = search (tests, rules) }

time-is : (now ttl : ℕ) → now ≤ 99_999_999_999_999 → IsTtl ttl → IsInTime (expiry_at now ttl)
time-is now ttl l t = put (ttl == 0)
  where
    put : (b : Bool) → IsInTime (if b then None else Some (record { 0 = now + ttl }))
    put true = tt
    put false = omega arith

stored-within : (size : ℕ) (h : How) (o : Option Item) (item : Item) (items : List Item) → IsKept item → IsWithin size items → IsWithin size (stored size h o item items).1
stored-within size how.Set None item items k w = store-within size item items k w
stored-within size how.Set (Some old) item items k w = store-within size item items k w
stored-within size how.Add None item items k w = store-within size item items k w
stored-within size how.Add (Some old) item items k w = w
stored-within size how.Replace None item items k w = w
stored-within size how.Replace (Some old) item items k w = store-within size item items k w

-- what an answer is called changes no items
numbered-items : (n : ℤ) (out : Outcome) → (as_number n out).1 ≡ out.1
numbered-items n (answer.Done any, items) = refl
numbered-items n (answer.Found v f, items) = refl
numbered-items n (answer.Nothing, items) = refl
numbered-items n (answer.Exists, items) = refl
numbered-items n (answer.Missing, items) = refl
numbered-items n (answer.NoMemory any, items) = refl
numbered-items n (answer.NotNumber, items) = refl
numbered-items n (answer.OutOfRange, items) = refl
numbered-items n (answer.Number m any, items) = refl
numbered-items n (answer.Count c, items) = refl
numbered-items n (answer.Names l, items) = refl

begun-within : (size now : ℕ) (key : List ℕ) (n : ℤ) (ttl : ℕ) (items : List Item) → now ≤ 99_999_999_999_999 → IsTtl ttl → IsWithin size items → IsWithin size (begun size now key n ttl items).1
begun-within size now key n ttl items l t w = put (is_whole n) refl
  where
    item : Item
    item = record { key = key; value = value.Number n; flags = 0; expiry = expiry_at now ttl }

    put : (b : Bool) → is_whole n ≡ b → IsWithin size (if b then as_number n (store size item items) else (answer.OutOfRange, items)).1
    put true q = subst (IsWithin size) (sym (numbered-items n (store size item items))) (store-within size item items (record { number = whole-is n q; time = time-is now ttl l t }) w)
    put false q = w

raised-within : (size now : ℕ) (key : List ℕ) (sum : ℤ) (item : Item) (items : List Item) → find (has_key key) items ≡ Some item → value_size item.value ≡ 8 → IsWithin size items → IsWithin size (raised sum item items).1
raised-within size now key sum item items h v w = put (is_whole sum) refl
  where
    kept : IsKept item × (item.key ≡ key)
    kept = found-kept key items item w.kept h

    put : (b : Bool) → is_whole sum ≡ b → IsWithin size (let o : Outcome = if b then (answer.Number sum false, first (record item { value = value.Number sum }) items) else (answer.OutOfRange, items) in o.1)
    put true q = placed-within size key (record item { value = value.Number sum }) item items (record { number = whole-is sum q; time = kept.0.time }) kept.1 h (omega arith) w
    put false q = w

increased-within : (size now : ℕ) (key : List ℕ) (by : ℤ) (v : DictValue) (item : Item) (items : List Item) → item.value ≡ v → find (has_key key) items ≡ Some item → IsWithin size items → IsWithin size (increased by v item items).1
increased-within size now key by (value.Number n) item items e h w = raised-within size now key (n +ℤ by) item items h (ap value_size e) w
increased-within size now key by (value.Text t) item items e h w = w
increased-within size now key by (value.Truth b) item items e h w = w

incr-within : (size now : ℕ) (key : List ℕ) (by : ℤ) (init : Option ℤ) (ttl : ℕ) (o : Option Item) (items : List Item) → found now key items ≡ o → now ≤ 99_999_999_999_999 → IsTtl ttl → IsWithin size items → IsWithin size (incr size now key by init ttl o items).1
incr-within size now key by init ttl (Some item) items e l t w = increased-within size now key by item.value item items refl (there-found now (find (has_key key) items) item e) w
incr-within size now key by None ttl None items e l t w = w
incr-within size now key by (Some n) ttl None items e l t w = begun-within size now key (n +ℤ by) ttl items l t w

pub dict-within : (size now : ℕ) (c : DictCall) (items : List Item) → now ≤ 99_999_999_999_999 → IsInRange c → IsWithin size items → IsWithin size (dict size c now items).1
dict-within size now (call.Get key) items l r w = get-within size now key items (found now key items) refl w
dict-within size now (call.Store h key v ttl flags) items l r w =
    stored-within size h (found now key items) (record { key = key; value = v; flags = flags; expiry = expiry_at now ttl }) items (record { number = r.0; time = time-is now ttl l r.1 }) w
dict-within size now (call.Delete key) items l r w = part-within size (without key items) items (without-part key items) w
dict-within size now (call.Incr key by init ttl) items l r w = incr-within size now key by init ttl (found now key items) items refl l r.2 w
dict-within size now call.FlushAll items l r w = expired-within size now items l w
dict-within size now (call.FlushExpired n) items l r w = part-within size (swept now (limit n) items) items (swept-part now (limit n) items) w
dict-within size now (call.Keys n) items l r w = w
