-- Values by number, the most recent first, as a cache holds them that nothing leaves for want of room.
use Rattle.std.specs.Prelude.{◌≡◌, ℕ, ◌-◌, ◌^◌, List, [], Option, Some, None, IfSome}
use Rattle.lru.specs.LruCache.{LruCache}

-- the entries; before the first is put there is no cache
abbrev pub entries_in : {V : Type 0} → Option (LruCache ℕ V) → List (ℕ × V)
entries_in None = []
entries_in (Some cache) = cache.entries

-- the cache has room for all
abbrev pub IsUnbounded : {V : Type 0} → Option (LruCache ℕ V) → Type 0
IsUnbounded cache = IfSome cache (λ c. c.cap ≡ 2 ^ 64 - 1)
