-- What the ledger of any plan keeps: nothing is queued or armed twice, and something of a queued place is left.
use Rattle.std.specs.Prelude.{◌≡◌, ℕ, ◌≤◌, true, false, List, [], ◌∷◌, length}
use Rattle.strand_contract.specs.declared.turns.Place.{Place}
use Rattle.strand_contract.specs.Alone.{is_some_left}
use Rattle.strand_plans.specs.Ledgers.{Ledger, has, has_number, is_place, left_at}

-- each number, each place once
abbrev pub NumbersOnce : List ℕ → Type 0
NumbersOnce [] = Unit {0}
NumbersOnce (k ∷ ks) = (has_number k ks ≡ false) × NumbersOnce ks

abbrev pub PlacesOnce : List Place → Type 0
PlacesOnce [] = Unit {0}
PlacesOnce (q ∷ qs) = (has q qs ≡ false) × PlacesOnce qs

-- a queued place is there once, its offer wasn't begun, it wasn't put off, and something of it is left;
-- of no place more was taken than was sent, and one whose offer was begun isn't put off
pub record IsTidy {J : Type 0} (b : Ledger J) : Type 0 where
  pub once : PlacesOnce b.places
  pub apart : (q : Place) → has q b.places ≡ true → is_place q b.begun ≡ false
  pub off : (q : Place) → has q b.places ≡ true → b.put_off q ≡ false
  pub some : (q : Place) → has q b.places ≡ true → is_some_left (left_at q b) ≡ true
  pub counted : (q : Place) → b.taken q ≤ length (b.sent q)
  pub takes : (q : Place) → is_place q b.begun ≡ true → b.put_off q ≡ false
