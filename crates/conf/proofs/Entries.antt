-- Dictionaries as the entries of a map.
use Rattle.std.proofs.Common.{◌≡◌, ℕ, Bool, true, false, cond, ◌||◌, List, [], ◌∷◌, ◌++◌, Option, Some, is_some, map, bytes_eq, if◌then◌else◌, true≢false, refl, sym, ap, ◌∙◌, append_assoc}
use Rattle.std.specs.Map.{lookup}
use Rattle.indexmap.specs.IndexMap.{insert_entry}
use Rattle.conf.specs.Entries.{zone_of}
use Rattle.conf.specs.declared.sites.ZoneConf.{ZoneConf}
use Rattle.conf.specs.Zones.{has_zone, with_zone}

-- one more entry is moved into the list
pub moved : (zones all : List ZoneConf) (left rest : List (List ℕ × ℕ)) (entry : List ℕ × ℕ) → zones ++ map zone_of left ≡ all → left ≡ entry ∷ rest
    → (zones ++ zone_of entry ∷ []) ++ map zone_of rest ≡ all
moved zones all left rest entry was here =
    append_assoc zones (zone_of entry ∷ []) (map zone_of rest) ∙ sym (ap (λ entries. zones ++ map zone_of entries) here) ∙ was

-- a name is that of an entry exactly where a dictionary has it
pub has_entry : (entries : List (List ℕ × ℕ)) (name : List ℕ) → is_some (lookup (bytes_eq name) entries) ≡ has_zone (map zone_of entries) name
has_entry [] name = refl
has_entry (entry ∷ entries) name = by (bytes_eq name entry.0) (lookup (bytes_eq name) entries) (has_zone (map zone_of entries) name) (has_entry entries name)
  where
    by : (b : Bool) (found : Option ℕ) (rest : Bool) → is_some found ≡ rest → is_some (cond b (Some entry.1) found) ≡ (b || rest)
    by true found rest same = refl
    by false found rest same = same

-- a new entry is a dictionary at the end
pub one_more : (entries : List (List ℕ × ℕ)) (name : List ℕ) (size : ℕ) → has_zone (map zone_of entries) name ≡ false
    → map zone_of (insert_entry bytes_eq entries name size) ≡ with_zone (map zone_of entries) name size
one_more [] name size none = refl
one_more (entry ∷ entries) name size none = by (bytes_eq name entry.0) (one_more entries name size) none
  where
    by : (b : Bool) → (has_zone (map zone_of entries) name ≡ false → map zone_of (insert_entry bytes_eq entries name size) ≡ with_zone (map zone_of entries) name size)
        → (b || has_zone (map zone_of entries) name) ≡ false → map zone_of (if b then (entry.0, size) ∷ entries else entry ∷ insert_entry bytes_eq entries name size) ≡ zone_of entry ∷ with_zone (map zone_of entries) name size
    by true more none = absurd (true≢false none)
    by false more none = ap (λ zones. zone_of entry ∷ zones) (more none)
