-- Numbers and keys that are the same, and lists of numbers without one.
use Rattle.std.proofs.Common.{◌≡◌, ℕ, nat_eq, ◌&&◌, Bool, true, false, cond, List, [], ◌∷◌, refl, sym, ap, ◌∙◌, if◌then◌else◌, ◌-◌, ◌^◌, ◌<◌, length, take, Option, Some, None, arith}
use Rattle.std.proofs.lemmas.Bool.{eqb-true, and_parts}
use Rattle.std.proofs.lemmas.List.{take_all}
use Rattle.std.specs.Map.{keys_of, lookup_entry, remove_entry}
use Rattle.std.specs.Option.{option_map_or}
use Rattle.lru.specs.LruCache.{LruCache, put_entries}
use Rattle.lru.proofs.CallerLemmas.{Contains-lookup_entry}
use Rattle.sock_pool.specs.Keys.{without}

absent-kept : {V : Type 0} (n : ℕ) (es : List (ℕ × V)) → lookup_entry (nat_eq n) es ≡ None → remove_entry (nat_eq n) es ≡ es
absent-kept n [] h = refl
absent-kept {V} n (e ∷ es) h = put (absent-kept n es) (nat_eq n e.0) h
  where
    put : (lookup_entry (nat_eq n) es ≡ None → remove_entry (nat_eq n) es ≡ es) → (b : Bool) → cond b (Some e) (lookup_entry (nat_eq n) es) ≡ None → cond b es (e ∷ remove_entry (nat_eq n) es) ≡ e ∷ es
    put ih true h = absurd (let f : Some e ≡ None = h in cc)
    put ih false h = ap (λ l. e ∷ l) (ih h)

-- the numbers of the entries without one
pub without-keys : {V : Type 0} (n : ℕ) (es : List (ℕ × V)) → keys_of (remove_entry (nat_eq n) es) ≡ without n (keys_of es)
without-keys n [] = refl
without-keys n (e ∷ es) = put (nat_eq n e.0) (without-keys n es)
  where
    put : (b : Bool) → keys_of (remove_entry (nat_eq n) es) ≡ without n (keys_of es) → keys_of (cond b es (e ∷ remove_entry (nat_eq n) es)) ≡ (if b then keys_of es else e.0 ∷ without n (keys_of es))
    put true h = refl
    put false h = ap (λ l. e.0 ∷ l) h

-- what is put goes first, where the cache has room
pub put-is : {V : Type 0} (cache : LruCache ℕ V) (n : ℕ) (v : V) → cache.cap ≡ 2 ^ 64 - 1 → length cache.entries < 2 ^ 63 → put_entries nat_eq cache n v ≡ (n, v) ∷ remove_entry (nat_eq n) cache.entries
put-is {V} cache n v c l = put (lookup_entry (nat_eq n) cache.entries) refl
  where
    put : (o : Option (ℕ × V)) → lookup_entry (nat_eq n) cache.entries ≡ o
        → option_map_or (λ e. (e.0, v) ∷ remove_entry (nat_eq n) cache.entries) o ((n, v) ∷ take (cache.cap - 1) cache.entries) ≡ (n, v) ∷ remove_entry (nat_eq n) cache.entries
    put None h = ap (λ es. (n, v) ∷ es) (take_all (cache.cap - 1) cache.entries (omega (arith, c, l)) ∙ sym (absent-kept n cache.entries h))
    put (Some e) h = let k = eqb-true n e.0 (Contains-lookup_entry (nat_eq n) cache.entries e h).1 in λ j. (sym k j, v) ∷ remove_entry (nat_eq n) cache.entries
