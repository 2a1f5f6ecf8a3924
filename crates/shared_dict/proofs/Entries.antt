-- What the map of entries does, on the list of items.
use Rattle.std.proofs.Common.{◌≡◌, ℕ, zero, suc, ◌+◌, ◌-◌, ◌^◌, ◌≤◌, ◌<◌, nat_le, ◌&&◌, Bool, true, false, cond, List, [], ◌∷◌, length, take, drop, find, slice_get, Option, Some, None, option_map, refl, sym, ap, inl, inr, ◌∙◌, arith, rules, subst, if◌then◌else◌}
use Rattle.std.specs.Option.{option_map_or}
use Rattle.std.specs.Map.{lookup, lookup_entry, remove_entry, set_value}
use Rattle.std.proofs.lemmas.Bool.{and_parts}
use Rattle.std.proofs.lemmas.Cmp.{nat_list_eq_equiv}
use Rattle.std.proofs.lemmas.Bool.Decides.{nat_tests}
use Rattle.std.proofs.lemmas.List.{length-map, take-map, take_all}
use Rattle.std.proofs.lemmas.Option.{slice_get_cases}
use Rattle.std.proofs.lemmas.List.Sums.{sum_by-cons}
use Rattle.lru.specs.LruCache as lru
use Rattle.resty_base.specs.declared.dictionary.DictValue.{DictValue}
use Rattle.resty_base.specs.declared.names.Ms.{Ms}
use Rattle.shared_rules.specs.declared.items.Item.{Item}
use Rattle.shared_rules.specs.Keys.{same_key}
use Rattle.shared_rules.specs.Items.{value_size, size_of, used, is_before, has_key, if_there, found, without, first, but_last}
use Rattle.shared_rules.specs.Dictionary.{expired}
use Rattle.shared_rules.specs.KeyLaws.{same_key-eq}
use Rattle.shared_dict.specs.declared.kept.Kept.{Kept}
use Rattle.shared_dict.specs.declared.kept.Flush.{Flush}
use Rattle.shared_dict.specs.Zones.{brought, promoted}
use Rattle.shared_dict.specs.Kept.{Entry, item_of, items_of, expiry_of, bytes_of, kept_of, put_first, with_value, content_of, IsNumberedTo, IsCounted}

pub find-is : (f : Flush) (key : List ℕ) (es : List Entry) → find (has_key key) (items_of f es) ≡ option_map (item_of f) (lookup_entry (same_key key) es)
find-is f key [] = refl
find-is f key (e ∷ es) = put (same_key key e.0) (find-is f key es)
  where
    put : (b : Bool) → find (has_key key) (items_of f es) ≡ option_map (item_of f) (lookup_entry (same_key key) es)
        → cond b (Some (item_of f e)) (find (has_key key) (items_of f es)) ≡ option_map (item_of f) (cond b (Some e) (lookup_entry (same_key key) es))
    put true ih = refl
    put false ih = ih

pub value-is : (key : List ℕ) (es : List Entry) → lookup (same_key key) es ≡ option_map (λ (e : Entry). e.1) (lookup_entry (same_key key) es)
value-is key [] = refl
value-is key (e ∷ es) = put (same_key key e.0) (value-is key es)
  where
    put : (b : Bool) → lookup (same_key key) es ≡ option_map (λ (e : Entry). e.1) (lookup_entry (same_key key) es)
        → cond b (Some e.1) (lookup (same_key key) es) ≡ option_map (λ (e : Entry). e.1) (cond b (Some e) (lookup_entry (same_key key) es))
    put true ih = refl
    put false ih = ih

-- the entry that is found has the key
pub key-is : (key : List ℕ) (es : List Entry) (e : Entry) → lookup_entry (same_key key) es ≡ Some e → key ≡ e.0
key-is key [] e h = absurd (let g : None ≡ Some e = h in cc)
key-is key (x ∷ es) e h = put (same_key key x.0) refl (key-is key es e) h
  where
    put : (b : Bool) → same_key key x.0 ≡ b → (lookup_entry (same_key key) es ≡ Some e → key ≡ e.0) → cond b (Some x) (lookup_entry (same_key key) es) ≡ Some e → key ≡ e.0
    put true q ih h = let g : x ≡ e = cc in same_key-eq key x.0 q ∙ ap (λ (y : Entry). y.0) g
    put false q ih h = ih h

pub without-is : (f : Flush) (key : List ℕ) (es : List Entry) → without key (items_of f es) ≡ items_of f (remove_entry (same_key key) es)
without-is f key [] = refl
without-is f key (e ∷ es) = put (same_key key e.0) (without-is f key es)
  where
    put : (b : Bool) → without key (items_of f es) ≡ items_of f (remove_entry (same_key key) es)
        → (if b then items_of f es else item_of f e ∷ without key (items_of f es)) ≡ items_of f (cond b es (e ∷ remove_entry (same_key key) es))
    put true ih = refl
    put false ih = ap (λ l. item_of f e ∷ l) ih

pub promoted-is : (f : Flush) (key : List ℕ) (es : List Entry) → promoted key (items_of f es) ≡ items_of f (lru.promoted (same_key key) es)
promoted-is f key es = put (lookup_entry (same_key key) es) (find (has_key key) (items_of f es)) refl (find-is f key es)
  where
    put : (o : Option Entry) (i : Option Item) → lookup_entry (same_key key) es ≡ o → i ≡ option_map (item_of f) o
        → brought i (items_of f es) ≡ items_of f (option_map_or (λ e. e ∷ remove_entry (same_key key) es) o es)
    put None i l h = rw h refl
    put (Some e) i l h = rw (h, ← key-is key es e l, without-is f key es) refl

pub last-is : (f : Flush) (es : List Entry) → but_last (items_of f es) ≡ items_of f (take (length es - 1) es)
last-is f es = rw (length-map es (item_of f), take-map (item_of f) (length es - 1) es) refl

pub expired-is : (f : Flush) (last : ℕ) (at : Ms) (es : List Entry) → IsNumberedTo last es → items_of (record { last = last; at = at }) es ≡ expired at.0 (items_of f es)
expired-is f last at [] n = refl
expired-is f last at (e ∷ es) n = rw (put (nat_le e.1.number last) refl, expired-is f last at es n.1) refl
  where
    put : (b : Bool) → nat_le e.1.number last ≡ b → expiry_of (record { last = last; at = at }) e.1 ≡ Some at
    put true q = rw q refl
    put false q = absurd (let h = n.0 in search (nat_tests, rules))

-- the bytes of an entry that is taken out, and of the last
pub out-used : (f : Flush) (key : List ℕ) (es : List Entry) (e : Entry) → lookup_entry (same_key key) es ≡ Some e
    → used (items_of f (remove_entry (same_key key) es)) + size_of (item_of f e) ≡ used (items_of f es)
out-used f key [] e h = absurd (let g : None ≡ Some e = h in cc)
out-used f key (x ∷ es) e h = put (same_key key x.0) (out-used f key es e) h
  where
    put : (b : Bool) → (lookup_entry (same_key key) es ≡ Some e → used (items_of f (remove_entry (same_key key) es)) + size_of (item_of f e) ≡ used (items_of f es))
        → cond b (Some x) (lookup_entry (same_key key) es) ≡ Some e
        → used (items_of f (cond b es (x ∷ remove_entry (same_key key) es))) + size_of (item_of f e) ≡ used (items_of f (x ∷ es))
    put true ih h = let g : x ≡ e = cc in let s = sum_by-cons size_of (item_of f x) (items_of f es) in let d : size_of (item_of f x) ≡ size_of (item_of f e) = ap (λ y. size_of (item_of f y)) g in omega arith
    put false ih h = let s = sum_by-cons size_of (item_of f x) (items_of f es) in let t = sum_by-cons size_of (item_of f x) (items_of f (remove_entry (same_key key) es)) in let i = ih h in omega arith

pub last-used : (f : Flush) (es : List Entry) (e : Entry) → lru.last_entry es ≡ Some e → used (items_of f (take (length es - 1) es)) + size_of (item_of f e) ≡ used (items_of f es)
last-used f [] e h = absurd (let g : None ≡ Some e = h in cc)
last-used f (x ∷ []) e h = let g : x ≡ e = cc in ap (λ y. used (items_of f (y ∷ []))) (sym g)
last-used f (x ∷ y ∷ es) e h =
    let a : suc (suc (length es)) - 1 ≡ suc (length es) = omega arith in
    let b : suc (length es) - 1 ≡ length es = omega arith in
    let l : slice_get (y ∷ es) (suc (length es) - 1) ≡ Some e = sym (ap (slice_get (y ∷ es)) (sym b)) ∙ sym (ap (slice_get (x ∷ y ∷ es)) a) ∙ h in
    let i = last-used f (y ∷ es) e l in
    let s = sum_by-cons size_of (item_of f x) (items_of f (y ∷ es)) in
    let t = sum_by-cons size_of (item_of f x) (items_of f (take (suc (length es) - 1) (y ∷ es))) in
    let u : take (suc (suc (length es)) - 1) (x ∷ y ∷ es) ≡ x ∷ take (suc (length es) - 1) (y ∷ es) = rw (a, b) refl in
    rw u (omega arith)

-- what is taken out or comes first is numbered as before
pub out-numbered : (last : ℕ) (key : List ℕ) (es : List Entry) → IsNumberedTo last es → IsNumberedTo last (remove_entry (same_key key) es)
out-numbered last key [] n = n
out-numbered last key (e ∷ es) n = put (same_key key e.0) (out-numbered last key es n.1)
  where
    put : (b : Bool) → IsNumberedTo last (remove_entry (same_key key) es) → IsNumberedTo last (cond b es (e ∷ remove_entry (same_key key) es))
    put true ih = n.1
    put false ih = (n.0, ih)

pub take-numbered : (last n : ℕ) (es : List Entry) → IsNumberedTo last es → IsNumberedTo last (take n es)
take-numbered last zero [] h = h
take-numbered last zero (e ∷ es) h = tt
take-numbered last (suc n) [] h = h
take-numbered last (suc n) (e ∷ es) h = (h.0, take-numbered last n es h.1)

pub found-numbered : (last : ℕ) (key : List ℕ) (es : List Entry) (e : Entry) → IsNumberedTo last es → lookup_entry (same_key key) es ≡ Some e → e.1.number ≤ last
found-numbered last key [] e n h = absurd (let g : None ≡ Some e = h in cc)
found-numbered last key (x ∷ es) e n h = put (same_key key x.0) (found-numbered last key es e n.1) h
  where
    put : (b : Bool) → (lookup_entry (same_key key) es ≡ Some e → e.1.number ≤ last) → cond b (Some x) (lookup_entry (same_key key) es) ≡ Some e → e.1.number ≤ last
    put true ih h = let g : x ≡ e = cc in subst (λ (y : Entry). y.1.number ≤ last) g n.0
    put false ih h = ih h

pub promoted-numbered : (last : ℕ) (key : List ℕ) (es : List Entry) → IsNumberedTo last es → IsNumberedTo last (lru.promoted (same_key key) es)
promoted-numbered last key es n = put (lookup_entry (same_key key) es) refl
  where
    put : (o : Option Entry) → lookup_entry (same_key key) es ≡ o → IsNumberedTo last (option_map_or (λ e. e ∷ remove_entry (same_key key) es) o es)
    put None h = n
    put (Some e) h = (found-numbered last key es e n h, out-numbered last key es n)

-- bringing an entry first changes no bytes
pub promoted-used : (f : Flush) (key : List ℕ) (es : List Entry) → used (items_of f (lru.promoted (same_key key) es)) ≡ used (items_of f es)
promoted-used f key es = put (lookup_entry (same_key key) es) refl
  where
    put : (o : Option Entry) → lookup_entry (same_key key) es ≡ o → used (items_of f (option_map_or (λ e. e ∷ remove_entry (same_key key) es) o es)) ≡ used (items_of f es)
    put None h = refl
    put (Some e) h = let u = out-used f key es e h in let s = sum_by-cons size_of (item_of f e) (items_of f (remove_entry (same_key key) es)) in omega arith

-- what leaves by its key
pub none-out : (key : List ℕ) (es : List Entry) → lookup_entry (same_key key) es ≡ None → remove_entry (same_key key) es ≡ es
none-out key [] h = refl
none-out key (x ∷ es) h = put (same_key key x.0) (none-out key es) h
  where
    put : (b : Bool) → (lookup_entry (same_key key) es ≡ None → remove_entry (same_key key) es ≡ es) → cond b (Some x) (lookup_entry (same_key key) es) ≡ None → cond b es (x ∷ remove_entry (same_key key) es) ≡ x ∷ es
    put true ih h = absurd (let g : Some x ≡ None = h in cc)
    put false ih h = ap (λ l. x ∷ l) (ih h)

pub taken-used : (f : Flush) (key : List ℕ) (es : List Entry) → used (items_of f (remove_entry (same_key key) es)) + bytes_of (lookup_entry (same_key key) es) ≡ used (items_of f es)
taken-used f key es = put (lookup_entry (same_key key) es) refl
  where
    put : (o : Option Entry) → lookup_entry (same_key key) es ≡ o → used (items_of f (remove_entry (same_key key) es)) + bytes_of o ≡ used (items_of f es)
    put None h = rw (none-out key es h) (omega arith)
    put (Some e) h = out-used f key es e h

-- and what is the last or the first
pub popped-used : (f : Flush) (es : List Entry) → used (items_of f (take (length es - 1) es)) + bytes_of (lru.last_entry es) ≡ used (items_of f es)
popped-used f es = put es (lru.last_entry es) refl
  where
    put : (es : List Entry) (o : Option Entry) → lru.last_entry es ≡ o → used (items_of f (take (length es - 1) es)) + bytes_of o ≡ used (items_of f es)
    put es (Some e) h = last-used f es e h
    put [] None h = refl
    put (x ∷ es) None h = elim (slice_get_cases (x ∷ es) (suc (length es) - 1)).1 [
      | inl w ↦ absurd (let g : Some w.0 ≡ None = sym (w.2) ∙ h in cc)
      | inr l ↦ absurd (let n : suc (length es) ≤ suc (length es) - 1 = l.0 in omega arith)
    ]

pub first-used : (f : Flush) (es : List Entry) → used (items_of f (drop 1 es)) + bytes_of (slice_get es 0) ≡ used (items_of f es)
first-used f [] = refl
first-used f (e ∷ es) = let s = sum_by-cons size_of (item_of f e) (items_of f es) in omega arith

-- an entry that is put first with a new number
pub put-is : (key : List ℕ) (kept : Kept) (c : lru.LruCache (List ℕ) Kept) → c.cap ≡ 2 ^ 64 - 1 → length c.entries < 2 ^ 63 → lru.put_entries same_key c key kept ≡ put_first key kept c.entries
put-is key kept c r l = put (lookup_entry (same_key key) c.entries) refl
  where
    put : (o : Option Entry) → lookup_entry (same_key key) c.entries ≡ o
        → option_map_or (λ (e : Entry). (e.0, kept) ∷ remove_entry (same_key key) c.entries) o ((key, kept) ∷ take (c.cap - 1) c.entries) ≡ put_first key kept c.entries
    put None h = rw (none-out key c.entries h, take_all (c.cap - 1) c.entries (omega arith)) refl
    put (Some e) h = ap (λ (k : List ℕ). (k, kept) ∷ remove_entry (same_key key) c.entries) (sym (key-is key c.entries e h))

more-numbered : (last n : ℕ) (es : List Entry) → last ≤ n → IsNumberedTo last es → IsNumberedTo n es
more-numbered last n [] l h = h
more-numbered last n (e ∷ es) l h = (let a = h.0 in omega arith, more-numbered last n es l h.1)

pub put-counted : (f : Flush) (n last count freed added : ℕ) (item : Item) (es : List Entry) → IsCounted es count last f → n ≡ last + 1 → freed ≡ bytes_of (lookup_entry (same_key item.key) es) → added ≡ size_of item
    → IsCounted (put_first item.key (kept_of n item).1 es) (count - freed + added) n f
put-counted f n last count freed added item es w e d a =
    let u = taken-used f item.key es in
    let s = sum_by-cons size_of (item_of f (kept_of n item)) (items_of f (remove_entry (same_key item.key) es)) in
    let i = w.counted in
    let m = w.flushed in
    record { counted = omega arith; numbers = (omega arith, more-numbered last n (remove_entry (same_key item.key) es) (omega arith) (out-numbered last item.key es w.numbers)); flushed = omega arith }

pub put-items : (f : Flush) (n : ℕ) (item : Item) (es : List Entry) → f.last < n → items_of f (put_first item.key (kept_of n item).1 es) ≡ first item (items_of f es)
put-items f n item es l = rw (without-is f item.key es) (put (nat_le n f.last) refl)
  where
    put : (b : Bool) → nat_le n f.last ≡ b → items_of f (put_first item.key (kept_of n item).1 es) ≡ item ∷ items_of f (remove_entry (same_key item.key) es)
    put true q = absurd (search (nat_tests, rules))
    put false q = rw q refl

-- the bytes at a key
pub bytes-found : (key : List ℕ) (es : List Entry) (k : Kept) → lookup (same_key key) es ≡ Some k → bytes_of (lookup_entry (same_key key) es) ≡ length key + value_size k.value + 64
bytes-found key es k h = put (lookup_entry (same_key key) es) refl (sym (value-is key es) ∙ h)
  where
    put : (o : Option Entry) → lookup_entry (same_key key) es ≡ o → option_map (λ (e : Entry). e.1) o ≡ Some k → bytes_of o ≡ length key + value_size k.value + 64
    put None l g = absurd (let c : None ≡ Some k = g in cc)
    put (Some e) l g = let a : e.1 ≡ k = cc in rw (key-is key es e l, ← a) refl

pub bytes-none : (key : List ℕ) (es : List Entry) → lookup (same_key key) es ≡ None → bytes_of (lookup_entry (same_key key) es) ≡ 0
bytes-none key es h = put (lookup_entry (same_key key) es) (sym (value-is key es) ∙ h)
  where
    put : (o : Option Entry) → option_map (λ (e : Entry). e.1) o ≡ None → bytes_of o ≡ 0
    put None g = refl
    put (Some e) g = absurd (let c : Some e.1 ≡ None = g in cc)

-- what is there of a key
pub there-none : (f : Flush) (now : ℕ) (key : List ℕ) (es : List Entry) → lookup (same_key key) es ≡ None → content_of (found now key (items_of f es)) ≡ None
there-none f now key es h = rw (find-is f key es) (put (lookup_entry (same_key key) es) (sym (value-is key es) ∙ h))
  where
    put : (o : Option Entry) → option_map (λ (e : Entry). e.1) o ≡ None → content_of (if_there now (option_map (item_of f) o)) ≡ None
    put None g = refl
    put (Some e) g = absurd (let c : Some e.1 ≡ None = g in cc)

pub there-some : (f : Flush) (now : ℕ) (key : List ℕ) (es : List Entry) (k : Kept) (b : Bool) → lookup (same_key key) es ≡ Some k → is_before now (expiry_of f k) ≡ b
    → content_of (found now key (items_of f es)) ≡ (if b then Some (k.value, k.flags) else None)
there-some f now key es k b h d = rw (find-is f key es) (put (lookup_entry (same_key key) es) (sym (value-is key es) ∙ h))
  where
    pick : (b : Bool) (i : Item) → content_of (if b then Some i else None) ≡ (if b then Some (i.value, i.flags) else None)
    pick true i = refl
    pick false i = refl

    put : (o : Option Entry) → option_map (λ (e : Entry). e.1) o ≡ Some k → content_of (if_there now (option_map (item_of f) o)) ≡ (if b then Some (k.value, k.flags) else None)
    put None g = absurd (let c : None ≡ Some k = g in cc)
    put (Some e) g = let a : e.1 ≡ k = cc in pick (is_before now (expiry_of f e.1)) (item_of f e) ∙ rw (a, d) refl

-- the value of an entry changes, and it comes first
pub set-counted : (f : Flush) (last count : ℕ) (v : DictValue) (e : Entry) (key : List ℕ) (es : List Entry) → IsCounted es count last f → lookup_entry (same_key key) es ≡ Some e → value_size v ≡ value_size e.1.value
    → IsCounted (with_value v e ∷ remove_entry (same_key key) es) count last f
set-counted f last count v e key es w l q =
    let u = out-used f key es e l in
    let s = sum_by-cons size_of (item_of f (with_value v e)) (items_of f (remove_entry (same_key key) es)) in
    let i = w.counted in
    record { counted = omega arith; numbers = (found-numbered last key es e w.numbers l, out-numbered last key es w.numbers); flushed = w.flushed }

pub set-items : (f : Flush) (v : DictValue) (e : Entry) (key : List ℕ) (es : List Entry) → lookup_entry (same_key key) es ≡ Some e
    → items_of f (with_value v e ∷ remove_entry (same_key key) es) ≡ first (record (item_of f e) { value = v }) (items_of f es)
set-items f v e key es l = ap (λ l. item_of f (with_value v e) ∷ l) (sym (without-is f key es) ∙ ap (λ k. without k (items_of f es)) (key-is key es e l))

-- an item that is found is that of an entry
pub entry-of : (f : Flush) (key : List ℕ) (es : List Entry) (i : Item) → find (has_key key) (items_of f es) ≡ Some i → (e : Entry) × (lookup_entry (same_key key) es ≡ Some e) × (item_of f e ≡ i)
entry-of f key es i h = put (lookup_entry (same_key key) es) refl (sym (find-is f key es) ∙ h)
  where
    put : (o : Option Entry) → lookup_entry (same_key key) es ≡ o → option_map (item_of f) o ≡ Some i → (e : Entry) × (lookup_entry (same_key key) es ≡ Some e) × (item_of f e ≡ i)
    put None l g = absurd (let c : None ≡ Some i = g in cc)
    put (Some e) l g = (e, l, cc)

pub value-of : (key : List ℕ) (es : List Entry) (e : Entry) → lookup_entry (same_key key) es ≡ Some e → lookup (same_key key) es ≡ Some e.1
value-of key es e h = value-is key es ∙ ap (λ o. option_map (λ (e : Entry). e.1) o) h

pub test-is : (key : List ℕ) (es : List Entry) (e : Entry) → lookup_entry (same_key key) es ≡ Some e → same_key key e.0 ≡ true
test-is key es e h = subst (λ k. same_key key k ≡ true) (key-is key es e h) (nat_list_eq_equiv.refl key)

-- a write through the first
pub set-first : {K V : Type 0} (test : K → Bool) (es : List (K × V)) (e : K × V) (w : V) → lookup_entry test es ≡ Some e → test e.0 ≡ true → set_value test (lru.promoted test es) w ≡ (e.0, w) ∷ remove_entry test es
set-first {K = K} {V = V} test es e w l t = put (lru.promoted test es) (ap (λ o. option_map_or (λ e. e ∷ remove_entry test es) o es) l)
  where
    put : (ps : List (K × V)) → ps ≡ e ∷ remove_entry test es → set_value test ps w ≡ (e.0, w) ∷ remove_entry test es
    put ps h = rw (h, t) refl
