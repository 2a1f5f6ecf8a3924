-- The order of texts and of numbers.
use Rattle.std.proofs.Common.{◌≡◌, ℕ, ◌<◌, true, not, inl, inr, List, [], ◌∷◌, ◌++◌, refl, ap, ◌∙◌, arith}
use Rattle.std.specs.declared.cmp.Ordering.{Ordering}
use Rattle.std.specs.declared.cmp.Ordering.TheVariants as order
use Rattle.std.specs.Ordering.{nat_cmp, int_cmp, is_lt, is_le, ordering_then, ordering_reverse}
use Rattle.std.specs.Cmp.{nat_cmp_total, int_cmp_total}
use Rattle.std.specs.Cmp.Lexicographic.{slice_cmp, lists_total}
use Rattle.std.proofs.lemmas.Bool.Decides.{nat_tests}
use Rattle.lua_values.specs.declared.values.Value.TheVariants.{Truth}
use Rattle.lua_operators.specs.declared.outcome.Outcome.TheVariants.{Gives}
use Rattle.lua_operators.specs.Laws.{IsBelow, LessIsBelow, OrEqualIsNotAbove}

-- what the order of two bytes says
lesser : (x y : ℕ) → order.Less ≡ nat_cmp x y → x < y
lesser x y h = grind (arith, nat_tests)

alike : (x y : ℕ) → order.Equal ≡ nat_cmp x y → x ≡ y
alike x y h = grind (arith, nat_tests)

-- and the order of bytes that are less or one
order-lesser : (x y : ℕ) → x < y → nat_cmp x y ≡ order.Less
order-lesser x y h = grind (arith, nat_tests)

order-same : (x : ℕ) → nat_cmp x x ≡ order.Equal
order-same x = grind (arith, nat_tests)

-- one byte more before both texts
more : (x : ℕ) (s t : List ℕ) → IsBelow s t → IsBelow (x ∷ s) (x ∷ t)
more x s t (common, inl g) =
    (x ∷ common, inl (record { next = g.next; after = g.after; whole = ap (λ l. x ∷ l) g.whole; longer = ap (λ l. x ∷ l) g.longer }))
more x s t (common, inr h) = (
  x ∷ common,
  inr (record {
    lesser = h.lesser;
    greater = h.greater;
    after_lesser = h.after_lesser;
    after_greater = h.after_greater;
    below = h.below;
    one = ap (λ l. x ∷ l) h.one;
    other = ap (λ l. x ∷ l) h.other;
  }),
)

-- the first bytes decide, or else what comes after them
by_first : (x y : ℕ) (s t : List ℕ) (o : Ordering) → o ≡ nat_cmp x y → (slice_cmp nat_cmp s t ≡ order.Less → IsBelow s t)
    → ordering_then o (slice_cmp nat_cmp s t) ≡ order.Less → IsBelow (x ∷ s) (y ∷ t)
by_first x y s t order.Less e after h =
    ([], inr (record { lesser = x; greater = y; after_lesser = s; after_greater = t; below = lesser x y e; one = refl; other = refl }))
by_first x y s t order.Equal e after h = rw (← alike x y e) (more x s t (after h))
by_first x y s t order.Greater e after h = absurd (cc)

below : (s t : List ℕ) → slice_cmp nat_cmp s t ≡ order.Less → IsBelow s t
below [] [] h = absurd (cc)
below [] (y ∷ t) h = ([], inl (record { next = y; after = t; whole = refl; longer = refl }))
below (x ∷ s) [] h = absurd (cc)
below (x ∷ s) (y ∷ t) h = by_first x y s t (nat_cmp x y) refl (below s t) h

-- a text that goes on is above the one that ends
order-goes_on : (common : List ℕ) (c : ℕ) (after : List ℕ) → slice_cmp nat_cmp common (common ++ c ∷ after) ≡ order.Less
order-goes_on [] c after = refl
order-goes_on (x ∷ common) c after = rw (order-same x) (order-goes_on common c after)

order-has_lesser : (common : List ℕ) (b c : ℕ) (u v : List ℕ) → b < c → slice_cmp nat_cmp (common ++ b ∷ u) (common ++ c ∷ v) ≡ order.Less
order-has_lesser [] b c u v h = rw (order-lesser b c h) refl
order-has_lesser (x ∷ common) b c u v h = rw (order-same x) (order-has_lesser common b c u v h)

order-below : (s t : List ℕ) → IsBelow s t → slice_cmp nat_cmp s t ≡ order.Less
order-below s t (common, inl g) = rw (g.whole, g.longer) (order-goes_on common g.next g.after)
order-below s t (common, inr h) = rw (h.one, h.other) (order-has_lesser common h.lesser h.greater h.after_lesser h.after_greater h.below)

is_less : (o : Ordering) → is_lt o ≡ true → o ≡ order.Less
is_less order.Less h = refl
is_less order.Equal h = absurd (cc)
is_less order.Greater h = absurd (cc)

pub less_is_below : LessIsBelow
less_is_below s t = (
  λ h. below s t (is_less (slice_cmp nat_cmp s t) (cc)),
  λ h. ap (λ o. Gives (Truth (is_lt o))) (order-below s t h),
)

-- an order, and the order the other way round
le-reverse : (o : Ordering) → is_le (ordering_reverse o) ≡ not (is_lt o)
le-reverse order.Less = refl
le-reverse order.Equal = refl
le-reverse order.Greater = refl

pub or_equal_is_not_above : OrEqualIsNotAbove
or_equal_is_not_above = record {
  numbers = λ m n. ap is_le (int_cmp_total.antisymm m n) ∙ le-reverse (int_cmp n m);
  texts = λ s t. ap is_le ((lists_total nat_cmp_total).antisymm s t) ∙ le-reverse (slice_cmp nat_cmp t s);
}
