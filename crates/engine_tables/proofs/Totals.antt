-- The sum over seats, when one is taken or given.
use Rattle.std.proofs.Common.{◌≡◌, ℕ, ◌+◌, ◌≤◌, Bool, true, false, List, [], ◌∷◌, Option, Some, None, cond, refl, arith}
use Rattle.std.specs.Ordering.{nat_cmp, match_ordering}
use Rattle.std.specs.declared.cmp.Ordering.{Ordering}
use Rattle.std.specs.declared.cmp.Ordering.TheVariants.{Less, Equal, Greater}
use Rattle.std.specs.Map.{lookup, remove_entry, set_value}
use Rattle.std.specs.BTreeMap.{insert_entry}
use Rattle.engine_tables.specs.Seats.{content, entries_total, value_of}

module _ {X : Type 0} (f : X → ℕ) where
  remove-here : (b : Bool) (e : ℕ × Option X) (es less : List (ℕ × Option X)) → entries_total f less ≤ entries_total f es → entries_total f (cond b es (e ∷ less)) ≤ value_of f e.1 + entries_total f es
  remove-here true e es less h = omega arith
  remove-here false e es less h = omega (arith, h)

  pub remove-total : (test : ℕ → Bool) (es : List (ℕ × Option X)) → entries_total f (remove_entry test es) ≤ entries_total f es
  remove-total test [] = omega arith
  remove-total test (e ∷ es) = remove-here (test e.0) e es (remove_entry test es) (remove-total test es)

  insert-here : (o : Ordering) (k : ℕ) (x : X) (e : ℕ × Option X) (es more : List (ℕ × Option X)) → entries_total f more ≤ entries_total f es + f x
      → entries_total f (match_ordering o ((k, Some x) ∷ e ∷ es) ((e.0, Some x) ∷ es) (e ∷ more)) ≤ value_of f e.1 + entries_total f es + f x
  insert-here Less k x e es more h = omega arith
  insert-here Equal k x e es more h = omega arith
  insert-here Greater k x e es more h = omega (arith, h)

  pub insert-total : (k : ℕ) (x : X) (es : List (ℕ × Option X)) → entries_total f (insert_entry nat_cmp es k (Some x)) ≤ entries_total f es + f x
  insert-total k x [] = omega arith
  insert-total k x (e ∷ es) = insert-here (nat_cmp k e.0) k x e es (insert_entry nat_cmp es k (Some x)) (insert-total k x es)

  vacate-here : (b : Bool) (e : ℕ × Option X) (es less : List (ℕ × Option X)) (found : Option (Option X)) → entries_total f less + value_of f (content found) ≡ entries_total f es
      → entries_total f (cond b ((e.0, None) ∷ es) (e ∷ less)) + value_of f (content (cond b (Some e.1) found)) ≡ value_of f e.1 + entries_total f es
  vacate-here true e es less found h = omega arith
  vacate-here false e es less found h = omega (arith, h)

  pub vacate-total : (test : ℕ → Bool) (es : List (ℕ × Option X)) → entries_total f (set_value test es None) + value_of f (content (lookup test es)) ≡ entries_total f es
  vacate-total test [] = refl
  vacate-total test (e ∷ es) = vacate-here (test e.0) e es (set_value test es None) (lookup test es) (vacate-total test es)

  write-here : (b : Bool) (x : X) (e : ℕ × Option X) (es more : List (ℕ × Option X)) → entries_total f more ≤ entries_total f es + f x
      → entries_total f (cond b ((e.0, Some x) ∷ es) (e ∷ more)) ≤ value_of f e.1 + entries_total f es + f x
  write-here true x e es more h = omega arith
  write-here false x e es more h = omega (arith, h)

  pub write-total : (test : ℕ → Bool) (x : X) (es : List (ℕ × Option X)) → entries_total f (set_value test es (Some x)) ≤ entries_total f es + f x
  write-total test x [] = omega arith
  write-total test x (e ∷ es) = write-here (test e.0) x e es (set_value test es (Some x)) (write-total test x es)
