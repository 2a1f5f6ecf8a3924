-- The deadline that comes first: the entry of the least moment and number.
use Rattle.std.proofs.Common.{◌≡◌, ℕ, ◌<◌, ◌≤◌, ◌==◌, Bool, true, false, cond, nat_le, List, [], ◌∷◌, length, Option, Some, None, refl, sym, ap, ◌∙◌, arith, rules, IfSome, subst, if◌then◌else◌}
use Rattle.std.proofs.lemmas.Bool.{eq-eqb}
use Rattle.std.proofs.lemmas.Bool.Decides.{nat_tests}
use Rattle.std.specs.List.{AllByRecursion, list_any}
use Rattle.std.specs.List.Sorted.{IsStrictlySortedBy}
use Rattle.std.specs.Map.{lookup, keys_of}
use Rattle.std.specs.Ordering.{nat_cmp, is_eq}
use Rattle.std.specs.declared.cmp.Ordering.TheVariants.{Less}
use Rattle.std.specs.BTreeMap as tree
use Rattle.std.specs.BTreeMap.{BTreeMap, is_at}
use Rattle.std.specs.BTreeSet as trees
use Rattle.std.specs.BTreeSet.{BTreeSet}
use Rattle.std.proofs.lemmas.Map.Keys.{sorted_head, sorted_tail}
use Rattle.wakes.specs.declared.deadlines.Armed.{Armed}
use Rattle.wakes.specs.Times.{Deadline, sooner, soonest}
use Rattle.wakes.specs.Kept.{pair_cmp, is_at_moment, IsIndexed}
use Rattle.wakes.proofs.Numbers.{nat-same, IsNotAfter, not-after}

less-apart : (x y : ℕ) → nat_cmp x y ≡ Less → is_eq (nat_cmp x y) ≡ false
less-apart x y h = ap is_eq h

same-is : (x y : ℕ) → (x == y) ≡ true → x ≡ y
same-is x y h = search (nat_tests, rules)

unequal : (x y : ℕ) → x < y → (y == x) ≡ false
unequal x y h = search (nat_tests, rules)

not-le : (x y : ℕ) → nat_le x y ≡ false → x ≤ y → ⊥
not-le x y h l = search (nat_tests, rules)

not-lt : (x y : ℕ) → nat_le y x ≡ true → x < y → ⊥
not-lt x y h l = search (nat_tests, rules)

less-is : (x y : ℕ) → nat_cmp x y ≡ Less → x < y
less-is x y h = search (nat_tests, rules)

-- no entry after the head has its number
absent : (k : ℕ) (es : List Deadline) → AllByRecursion (λ y. nat_cmp k y ≡ Less) (keys_of es) → lookup (is_at (nat_cmp k)) es ≡ None
absent k [] h = refl
absent k (e ∷ es) h = ap (λ b. cond b (Some e.1) (lookup (is_at (nat_cmp k)) es)) (less-apart k e.0 h.0) ∙ absent k es h.1

-- an entry that is found after the head has a larger number
later : (j k : ℕ) (a : Armed) (es : List Deadline) → AllByRecursion (λ y. nat_cmp j y ≡ Less) (keys_of es) → lookup (is_at (nat_cmp k)) es ≡ Some a → j < k
later j k a [] h f = absurd (let g : None ≡ Some a = f in cc)
later j k a (e ∷ es) h f = put (later j k a es h.1) (k == e.0) refl (sym (ap (λ b. cond b (Some e.1) (lookup (is_at (nat_cmp k)) es)) (nat-same k e.0)) ∙ f)
  where
    put : (lookup (is_at (nat_cmp k)) es ≡ Some a → j < k) → (b : Bool) → (k == e.0) ≡ b → cond b (Some e.1) (lookup (is_at (nat_cmp k)) es) ≡ Some a → j < k
    put ih true d g = let l : j < e.0 = less-is j e.0 h.0 in let m : k ≡ e.0 = same-is k e.0 d in omega arith
    put ih false d g = ih g

-- what is found comes after the moment and the number
abbrev pub AllFound : ℕ → ℕ → List Deadline → Type 0
AllFound at n es = (k : ℕ) (b : Armed) → lookup (is_at (nat_cmp k)) es ≡ Some b → IsNotAfter at n b.at.0 k

-- what is found after the head is found in all
still-found : (e : Deadline) (es : List Deadline) (k : ℕ) (b : Armed) → AllByRecursion (λ y. nat_cmp e.0 y ≡ Less) (keys_of es) → lookup (is_at (nat_cmp k)) es ≡ Some b → lookup (is_at (nat_cmp k)) (e ∷ es) ≡ Some b
still-found e es k b s f = ap (λ c. cond c (Some e.1) (lookup (is_at (nat_cmp k)) es)) (nat-same k e.0 ∙ unequal e.0 k (later e.0 k b es s f)) ∙ f

head-found : (e : Deadline) (es : List Deadline) → lookup (is_at (nat_cmp e.0)) (e ∷ es) ≡ Some e.1
head-found e es = ap (λ b. cond b (Some e.1) (lookup (is_at (nat_cmp e.0)) es)) (nat-same e.0 e.0 ∙ eq-eqb e.0 e.0 refl)

all-later : (at n : ℕ) (es : List Deadline) → IsStrictlySortedBy nat_cmp (keys_of es) → AllFound at n es → AllByRecursion (λ e. IsNotAfter at n e.1.at.0 e.0) es
all-later at n [] s h = tt
all-later at n (e ∷ es) s h =
    (h e.0 e.1 (head-found e es), all-later at n es (sorted_tail nat_cmp e.0 (keys_of es) s) (λ k b f. h k b (still-found e es k b (sorted_head nat_cmp e.0 (keys_of es) s) f)))

-- the moment of the soonest isn't below one that all others reach
least : (at : ℕ) (es : List Deadline) → AllByRecursion (λ e. at ≤ e.1.at.0) es → IfSome (soonest es) (λ e. at ≤ e.1.at.0)
least at [] h = tt
least at (e ∷ es) h = put (soonest es) (least at es h.1)
  where
    pick : (d : Deadline) (b : Bool) → at ≤ d.1.at.0 → at ≤ (if b then e else d).1.at.0
    pick d true l = h.0
    pick d false l = l

    put : (o : Option Deadline) → IfSome o (λ d. at ≤ d.1.at.0) → at ≤ (sooner e o).1.at.0
    put None l = h.0
    put (Some d) l = pick d (nat_le e.1.at.0 d.1.at.0) l

reach : (at n : ℕ) (es : List Deadline) → AllByRecursion (λ e. IsNotAfter at n e.1.at.0 e.0) es → AllByRecursion (λ e. at ≤ e.1.at.0) es
reach at n [] h = tt
reach at n (e ∷ es) h = (omega arith, reach at n es h.1)

-- of a deadline and others whose moments aren't below its own it comes first
stays-first : (e : Deadline) (o : Option Deadline) → IfSome o (λ x. e.1.at.0 ≤ x.1.at.0) → sooner e o ≡ e
stays-first e None l = refl
stays-first e (Some x) l = pick (nat_le e.1.at.0 x.1.at.0) refl
  where
    pick : (b : Bool) → nat_le e.1.at.0 x.1.at.0 ≡ b → (if b then e else x) ≡ e
    pick true q = refl
    pick false q = absurd (not-le e.1.at.0 x.1.at.0 q l)

-- of a deadline and one with a lower moment the other comes first
goes-before : (e d : Deadline) → d.1.at.0 < e.1.at.0 → sooner e (Some d) ≡ d
goes-before e d l = pick (nat_le e.1.at.0 d.1.at.0) refl
  where
    pick : (b : Bool) → nat_le e.1.at.0 d.1.at.0 ≡ b → (if b then e else d) ≡ d
    pick true q = absurd (not-lt d.1.at.0 e.1.at.0 q l)
    pick false q = refl

pub soonest-is : (es : List Deadline) (n : ℕ) (a : Armed) → IsStrictlySortedBy nat_cmp (keys_of es) → lookup (is_at (nat_cmp n)) es ≡ Some a
    → AllByRecursion (λ e. IsNotAfter a.at.0 n e.1.at.0 e.0) es → soonest es ≡ Some (n, a)
soonest-is [] n a s f h = absurd (let g : None ≡ Some a = f in cc)
soonest-is (e ∷ es) n a s f h =
    put (λ g. soonest-is es n a (sorted_tail nat_cmp e.0 (keys_of es) s) g h.1) (n == e.0) refl (sym (ap (λ b. cond b (Some e.1) (lookup (is_at (nat_cmp n)) es)) (nat-same n e.0)) ∙ f)
  where
    same : (n == e.0) ≡ true → e.1 ≡ a → e ≡ (n, a)
    same d v = let k : n ≡ e.0 = same-is n e.0 d in λ i. (sym k i, v i)

    reached : e.1 ≡ a → IfSome (soonest es) (λ x. e.1.at.0 ≤ x.1.at.0)
    reached v = subst (λ (b : Armed). IfSome (soonest es) (λ x. b.at.0 ≤ x.1.at.0)) (sym v) (least a.at.0 es (reach a.at.0 n es h.1))

    before : IsNotAfter a.at.0 n e.1.at.0 e.0 → e.0 < n → a.at.0 < e.1.at.0
    before k l = omega arith

    put : (lookup (is_at (nat_cmp n)) es ≡ Some a → soonest es ≡ Some (n, a)) → (b : Bool) → (n == e.0) ≡ b → cond b (Some e.1) (lookup (is_at (nat_cmp n)) es) ≡ Some a → Some (sooner e (soonest es)) ≡ Some (n, a)
    put ih true d g = let v : e.1 ≡ a = cc in ap Some (stays-first e (soonest es) (reached v) ∙ same d v)
    put ih false d g = ap (λ o. Some (sooner e o)) (ih g) ∙ ap Some (goes-before e (n, a) (before h.0 (later e.0 n a es (sorted_head nat_cmp e.0 (keys_of es) s) g)))

-- the first of the moments is that of the soonest deadline
pub first-is : (m : BTreeMap ℕ Armed) (s : BTreeSet (ℕ × ℕ)) (last at n : ℕ) → IsIndexed m s last → trees.contains pair_cmp s (at, n) ≡ true
    → trees.IsLowerBound pair_cmp s (at, n) → (a : Armed) × (soonest m.entries ≡ Some (n, a)) × (a.at.0 ≡ at) × (tree.get nat_cmp m n ≡ Some a)
first-is m s last at n old is least = found (tree.get nat_cmp m n) refl (sym (old.moments at n) ∙ is)
  where
    comes : AllFound at n m.entries
    comes k b f = not-after at n b.at.0 k (least (b.at.0, k) (old.moments b.at.0 k ∙ ap (is_at_moment b.at.0) f ∙ eq-eqb b.at.0 b.at.0 refl))

    found : (o : Option Armed) → tree.get nat_cmp m n ≡ o → is_at_moment at o ≡ true → (a : Armed) × (soonest m.entries ≡ Some (n, a)) × (a.at.0 ≡ at) × (tree.get nat_cmp m n ≡ Some a)
    found None e h = absurd (let f : false ≡ true = h in cc)
    found (Some a) e h = (a, soonest-is m.entries n a old.ordered e (subst (λ (t : ℕ). AllByRecursion (λ d. IsNotAfter t n d.1.at.0 d.0) m.entries) (sym (same-is a.at.0 at h)) (all-later at n m.entries old.ordered comes)), same-is a.at.0 at h, e)

-- no moment is kept only where nothing is armed
pub none-is : (m : BTreeMap ℕ Armed) (s : BTreeSet (ℕ × ℕ)) (last : ℕ) → IsIndexed m s last → s.keys ≡ [] → soonest m.entries ≡ None
none-is m s last old empty = none m.entries (λ at n. sym (old.moments at n) ∙ ap (list_any (is_at (pair_cmp (at, n)))) empty)
  where
    none : (es : List Deadline) → ((at n : ℕ) → is_at_moment at (lookup (is_at (nat_cmp n)) es) ≡ false) → soonest es ≡ None
    none [] h = refl
    none (e ∷ es) h = absurd (let f : true ≡ false = sym (ap (λ b. is_at_moment e.1.at.0 (cond b (Some e.1) (lookup (is_at (nat_cmp e.0)) es))) (nat-same e.0 e.0 ∙ eq-eqb e.0 e.0 refl) ∙ eq-eqb e.1.at.0 e.1.at.0 refl) ∙ h e.1.at.0 e.0 in cc)

pub empty-is : (ks : List (ℕ × ℕ)) → (0 < length ks → false ≡ true) → ks ≡ []
empty-is [] h = refl
empty-is (k ∷ ks) h = absurd (let f : false ≡ true = h (omega arith) in cc)
