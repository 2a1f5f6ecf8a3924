-- How the two maps of deadlines go on together.
use Rattle.std.proofs.Common.{◌≡◌, ℕ, ◌+◌, ◌<◌, ◌≤◌, ◌==◌, ◌&&◌, Bool, true, false, cond, List, [], ◌∷◌, ◌++◌, Option, Some, None, refl, sym, ap, ◌∙◌, arith, rules}
use Rattle.std.proofs.lemmas.Bool.{eq-eqb}
use Rattle.std.proofs.lemmas.Bool.Decides.{nat_tests}
use Rattle.std.proofs.lemmas.Cmp.{ranked}
use Rattle.std.specs.Map.{lookup}
use Rattle.std.specs.Ordering.{nat_cmp, is_eq, match_ordering, MatchOrdering}
use Rattle.std.specs.declared.cmp.Ordering.{Ordering}
use Rattle.std.specs.declared.cmp.Ordering.TheVariants.{Less, Equal, Greater}
use Rattle.std.specs.BTreeMap as tree
use Rattle.std.specs.BTreeMap.{BTreeMap, is_at}
use Rattle.std.specs.BTreeSet as trees
use Rattle.std.specs.BTreeSet.{BTreeSet}
use Rattle.wakes.specs.declared.deadlines.Armed.{Armed}
use Rattle.wakes.specs.Kept.{pair_cmp, is_at_moment, IsIndexed}
use Rattle.wakes.proofs.Numbers.{nat-same, pair-same}

same-is : (x y : ℕ) → (x == y) ≡ true → x ≡ y
same-is x y h = search (nat_tests, rules)

arms-bool : (b c old : Bool) (o : Option Armed) (m : ℕ) (a : Armed) → old ≡ is_at_moment m o → (b ≡ true → o ≡ None) → c ≡ (a.at.0 == m) → cond (c && b) true old ≡ is_at_moment m (cond b (Some a) o)
arms-bool false false old o m a h f e = h
arms-bool false true old o m a h f e = h
arms-bool true true old o m a h f e = e
arms-bool true false old o m a h f e = h ∙ ap (is_at_moment m) (f refl) ∙ e

takes-bool : (b c old : Bool) (o : Option Armed) (m : ℕ) (a : Armed) → old ≡ is_at_moment m o → (b ≡ true → o ≡ Some a) → c ≡ (a.at.0 == m) → cond (c && b) false old ≡ is_at_moment m (cond b None o)
takes-bool false false old o m a h f e = h
takes-bool false true old o m a h f e = h
takes-bool true true old o m a h f e = refl
takes-bool true false old o m a h f e = h ∙ ap (is_at_moment m) (f refl) ∙ sym e

-- after an insert and a removal of what wasn't there all is as before
undone-bool : (b old : Bool) → (b ≡ true → old ≡ false) → cond b false (cond b true old) ≡ old
undone-bool true old f = sym (f refl)
undone-bool false old f = refl

pub arms : (m : BTreeMap ℕ Armed) (s : BTreeSet (ℕ × ℕ)) (last : ℕ) (n : BTreeMap ℕ Armed) (t : BTreeSet (ℕ × ℕ)) (a : Armed) → IsIndexed m s last
    → tree.Updates nat_cmp m n (last + 1) (Some a) → trees.Updates pair_cmp s t (a.at.0, last + 1) true → tree.IsOrdered nat_cmp n → IsIndexed n t (last + 1)
arms m s last n t a old up set ordered = record { ordered = ordered; moments = moments; fresh = fresh }
  where
    fresh-key : (k : ℕ) → (last + 1 == k) ≡ true → tree.get nat_cmp m k ≡ None
    fresh-key k e = let d = same-is (last + 1) k e in old.fresh k (omega arith)

    moments : (at k : ℕ) → trees.contains pair_cmp t (at, k) ≡ is_at_moment at (tree.get nat_cmp n k)
    moments at k = set.0 (at, k) ∙ ap (λ b. cond b true (trees.contains pair_cmp s (at, k))) (pair-same (a.at.0, last + 1) (at, k))
        ∙ arms-bool (last + 1 == k) (a.at.0 == at) (trees.contains pair_cmp s (at, k)) (tree.get nat_cmp m k) at a (old.moments at k) (fresh-key k) refl
        ∙ sym (ap (is_at_moment at) (up.0 k ∙ ap (λ b. cond b (Some a) (tree.get nat_cmp m k)) (nat-same (last + 1) k)))

    late : (k : ℕ) (b : Bool) → (last + 1 == k) ≡ b → last + 1 < k → cond b (Some a) (tree.get nat_cmp m k) ≡ None
    late k true e l = let d = same-is (last + 1) k e in absurd (omega arith)
    late k false e l = old.fresh k (omega arith)

    fresh : (k : ℕ) → last + 1 < k → tree.get nat_cmp n k ≡ None
    fresh k l = up.0 k ∙ ap (λ b. cond b (Some a) (tree.get nat_cmp m k)) (nat-same (last + 1) k) ∙ late k (last + 1 == k) refl l

pub takes : (m : BTreeMap ℕ Armed) (s : BTreeSet (ℕ × ℕ)) (last : ℕ) (n : BTreeMap ℕ Armed) (t : BTreeSet (ℕ × ℕ)) (k : ℕ) (a : Armed) → IsIndexed m s last
    → tree.get nat_cmp m k ≡ Some a → tree.Updates nat_cmp m n k None → trees.Updates pair_cmp s t (a.at.0, k) false → tree.IsOrdered nat_cmp n → IsIndexed n t last
takes m s last n t k a old is up set ordered = record { ordered = ordered; moments = moments; fresh = fresh }
  where
    there : (j : ℕ) → (k == j) ≡ true → tree.get nat_cmp m j ≡ Some a
    there j e = ap (tree.get nat_cmp m) (sym (same-is k j e)) ∙ is

    moments : (at j : ℕ) → trees.contains pair_cmp t (at, j) ≡ is_at_moment at (tree.get nat_cmp n j)
    moments at j = set.0 (at, j) ∙ ap (λ b. cond b false (trees.contains pair_cmp s (at, j))) (pair-same (a.at.0, k) (at, j))
        ∙ takes-bool (k == j) (a.at.0 == at) (trees.contains pair_cmp s (at, j)) (tree.get nat_cmp m j) at a (old.moments at j) (there j) refl
        ∙ sym (ap (is_at_moment at) (up.0 j ∙ ap (λ b. cond b None (tree.get nat_cmp m j)) (nat-same k j)))

    left : (j : ℕ) (b : Bool) → last < j → cond b None (tree.get nat_cmp m j) ≡ None
    left j true l = refl
    left j false l = old.fresh j l

    fresh : (j : ℕ) → last < j → tree.get nat_cmp n j ≡ None
    fresh j l = up.0 j ∙ left j (is_at (nat_cmp k) j) l

pub undoes : (m : BTreeMap ℕ Armed) (s : BTreeSet (ℕ × ℕ)) (last : ℕ) (n : BTreeMap ℕ Armed) (t u : BTreeSet (ℕ × ℕ)) (at : ℕ) → IsIndexed m s last
    → tree.IsUnchanged m n → trees.Updates pair_cmp s t (at, last + 1) true → trees.Updates pair_cmp t u (at, last + 1) false → tree.IsOrdered nat_cmp n → IsIndexed n u last
undoes m s last n t u at old same set unset ordered = record { ordered = ordered; moments = moments; fresh = fresh }
  where
    same-get : (k : ℕ) → tree.get nat_cmp n k ≡ tree.get nat_cmp m k
    same-get k = ap (lookup (is_at (nat_cmp k))) same

    absent : (m' k : ℕ) → (at == m') && (last + 1 == k) ≡ true → trees.contains pair_cmp s (m', k) ≡ false
    absent m' k e = old.moments m' k ∙ ap (is_at_moment m') (gone (at == m') (last + 1 == k) refl e)
      where
        gone : (b c : Bool) → (last + 1 == k) ≡ c → b && c ≡ true → tree.get nat_cmp m k ≡ None
        gone true true d e = let f = same-is (last + 1) k d in old.fresh k (omega arith)
        gone true false d e = absurd (let f : false ≡ true = e in cc)
        gone false c d e = absurd (let f : false ≡ true = e in cc)

    moments : (m' k : ℕ) → trees.contains pair_cmp u (m', k) ≡ is_at_moment m' (tree.get nat_cmp n k)
    moments m' k = unset.0 (m', k) ∙ ap (λ x. cond (is_at (pair_cmp (at, last + 1)) (m', k)) false x) (set.0 (m', k))
        ∙ ap (λ b. cond b false (cond b true (trees.contains pair_cmp s (m', k)))) (pair-same (at, last + 1) (m', k))
        ∙ undone-bool ((at == m') && (last + 1 == k)) (trees.contains pair_cmp s (m', k)) (absent m' k)
        ∙ old.moments m' k ∙ sym (ap (is_at_moment m') (same-get k))

    fresh : (k : ℕ) → last < k → tree.get nat_cmp n k ≡ None
    fresh k l = same-get k ∙ old.fresh k l

-- a number above all others is armed last
pub goes-last : (es : List (ℕ × Armed)) (n : ℕ) (a : Armed) → ((k : ℕ) → n ≤ k → lookup (is_at (nat_cmp k)) es ≡ None) → tree.insert_entry nat_cmp es n a ≡ es ++ (n, a) ∷ []
goes-last [] n a h = refl
goes-last (e ∷ es) n a h = step (goes-last es n a (λ k l. none-later k (is_eq (nat_cmp k e.0)) refl (h k l))) (nat_cmp n e.0) (ranked n e.0 (nat_cmp n e.0) refl)
  where
    none-later : (k : ℕ) (b : Bool) → is_eq (nat_cmp k e.0) ≡ b → cond b (Some e.1) (lookup (is_at (nat_cmp k)) es) ≡ None → lookup (is_at (nat_cmp k)) es ≡ None
    none-later k true d g = absurd (let f : Some e.1 ≡ None = g in cc)
    none-later k false d g = g

    clash : n ≤ e.0 → ⊥
    clash l = let f : Some e.1 ≡ None = sym (ap (λ b. cond b (Some e.1) (lookup (is_at (nat_cmp e.0)) es)) (nat-same e.0 e.0 ∙ eq-eqb e.0 e.0 refl)) ∙ h e.0 l in cc

    step : tree.insert_entry nat_cmp es n a ≡ es ++ (n, a) ∷ [] → (o : Ordering) → MatchOrdering o (n < e.0) (n ≡ e.0) (e.0 < n) → match_ordering o ((n, a) ∷ e ∷ es) ((e.0, a) ∷ es) (e ∷ tree.insert_entry nat_cmp es n a) ≡ e ∷ (es ++ (n, a) ∷ [])
    step ih Less l = absurd (clash (omega arith))
    step ih Equal l = absurd (clash (omega arith))
    step ih Greater l = ap (λ l. e ∷ l) ih
