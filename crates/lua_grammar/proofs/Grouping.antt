-- How operators group.
use Rattle.std.proofs.Common.{◌≡◌, ℕ, ◌+◌, ◌≤◌, ◌<◌, ◌⊎◌, inl, inr, refl, arith, lit≤}
use Rattle.std.proofs.Math.Decide.{dec_le}
use Rattle.lua_ast.specs.declared.expressions.BinOp.TheVariants.{Add, Sub, Mul, Div, Mod, Pow, Concat, Eq, Ne, Lt, Le, Gt, Ge}
use Rattle.lua_grammar.specs.declared.operators.Operator.{Operator}
use Rattle.lua_grammar.specs.declared.operators.Operator.TheVariants.{Or, And, Plain}
use Rattle.lua_grammar.specs.Operators.{level, left_level, right_level}
use Rattle.lua_grammar.specs.Validity.{IsValid}
use Rattle.lua_grammar.specs.Levels.{height}
use Rattle.lua_grammar.specs.Laws.{IsOneValid, IsValidNot, grouped_left, grouped_right, minus_of_power, power_of_minus, not_before_equal, not_of_equal}

-- levels of an operator and of its operands: to the left, `..`, and `^`
pub AreLevels : ℕ → ℕ → ℕ → Type 0
AreLevels l left right =
    ((left ≡ l) × (right ≡ l + 1) × (1 ≤ l) × (l ≤ 3)) ⊎ (((left ≡ l) × (right ≡ l + 1) × (5 ≤ l) × (l ≤ 6)) ⊎
    (((l ≡ 4) × (left ≡ 5) × (right ≡ 4)) ⊎ ((l ≡ 8) × (left ≡ 9) × (right ≡ 7))))

low : (l : ℕ) → 1 ≤ l → l ≤ 3 → AreLevels l l (l + 1)
unfolding AreLevels
low l h k = inl (refl, refl, h, k)

high : (l : ℕ) → 5 ≤ l → l ≤ 6 → AreLevels l l (l + 1)
unfolding AreLevels
high l h k = inr (inl (refl, refl, h, k))

pub levels_of : (op : Operator) → AreLevels (level op) (left_level op) (right_level op)
unfolding AreLevels
levels_of Or = low 1 (lit≤ tt) (lit≤ tt)
levels_of And = low 2 (lit≤ tt) (lit≤ tt)
levels_of (Plain Eq) = low 3 (lit≤ tt) (lit≤ tt)
levels_of (Plain Ne) = low 3 (lit≤ tt) (lit≤ tt)
levels_of (Plain Lt) = low 3 (lit≤ tt) (lit≤ tt)
levels_of (Plain Le) = low 3 (lit≤ tt) (lit≤ tt)
levels_of (Plain Gt) = low 3 (lit≤ tt) (lit≤ tt)
levels_of (Plain Ge) = low 3 (lit≤ tt) (lit≤ tt)
levels_of (Plain Concat) = inr (inr (inl (refl, refl, refl)))
levels_of (Plain Add) = high 5 (lit≤ tt) (lit≤ tt)
levels_of (Plain Sub) = high 5 (lit≤ tt) (lit≤ tt)
levels_of (Plain Mul) = high 6 (lit≤ tt) (lit≤ tt)
levels_of (Plain Div) = high 6 (lit≤ tt) (lit≤ tt)
levels_of (Plain Mod) = high 6 (lit≤ tt) (lit≤ tt)
levels_of (Plain Pow) = inr (inr (inr (refl, refl, refl)))

-- of two operators exactly one way to group is within the levels
both : (l left right m left' right' : ℕ) → AreLevels l left right → AreLevels m left' right' → left' ≤ l → right ≤ m → ⊥
unfolding AreLevels
both l left right m left' right' p q h k = grind arith

one : (l left right m left' right' : ℕ) → AreLevels l left right → AreLevels m left' right' → (left' ≤ l → ⊥) → right ≤ m
unfolding AreLevels
one l left right m left' right' p q h = grind arith

pub bounds : (l left right : ℕ) → AreLevels l left right → (left ≤ 9) × (right ≤ 9)
unfolding AreLevels
bounds l left right p = (grind arith, grind arith)

pub one_way : (f s : Operator) → IsOneValid (grouped_left f s) (grouped_right f s)
unfolding IsValid height
one_way f s =
    let p = levels_of f in
    let q = levels_of s in
    let bf = bounds _ _ _ p in
    let bs = bounds _ _ _ q in
    elim (dec_le (left_level s) (level f)) [
      | yes h ↦ inl (((tt, tt, bf.0, bf.1, lit≤ tt), tt, h, bs.1, lit≤ tt), λ v. both _ _ _ _ _ _ p q h v.3)
      | no h ↦ inr ((λ v. h v.2), (tt, (tt, tt, bs.0, bs.1, lit≤ tt), bf.0, one _ _ _ _ _ _ p q h, lit≤ tt))
    ]

pub minus_groups : IsValidNot minus_of_power power_of_minus
unfolding IsValid height
minus_groups = (((tt, tt, lit≤ tt, lit≤ tt, lit≤ tt), lit≤ tt, lit≤ tt), λ v. let h : 9 ≤ 7 = v.2 in omega (arith, h))

pub not_groups : IsValidNot not_before_equal not_of_equal
unfolding IsValid height
not_groups = (((tt, lit≤ tt, lit≤ tt), tt, lit≤ tt, lit≤ tt, lit≤ tt), λ v. let h : 7 ≤ 3 = v.1 in omega (arith, h))

-- an operator of which an expression may be the left operand stops what is at the right end of that
pub below_right : (l left right m left' right' : ℕ) → AreLevels l left right → AreLevels m left' right' → left' ≤ l → m < right
unfolding AreLevels
below_right l left right m left' right' p q h = grind arith

pub within_right : (l left right m left' right' : ℕ) → AreLevels l left right → AreLevels m left' right' → left' ≤ l → left' ≤ right
unfolding AreLevels
within_right l left right m left' right' p q h = grind arith

pub below_unary : (m left right : ℕ) → AreLevels m left right → left ≤ 7 → m < 7
unfolding AreLevels
below_unary m left right p h = grind arith

pub some_level : (l left right : ℕ) → AreLevels l left right → 1 ≤ l
unfolding AreLevels
some_level l left right p = grind arith

pub within_left : (l left right : ℕ) → AreLevels l left right → l ≤ left
unfolding AreLevels
within_left l left right p = grind arith

-- and the other way round
pub fits_right : (l left right m left' right' : ℕ) → AreLevels l left right → AreLevels m left' right' → m < right → left' ≤ l
unfolding AreLevels
fits_right l left right m left' right' p q h = grind arith

pub fits_unary : (m left right : ℕ) → AreLevels m left right → m < 7 → left ≤ 7
unfolding AreLevels
fits_unary m left right p h = grind arith

pub highest_right : (l left right : ℕ) → AreLevels l left right → right ≤ 7
unfolding AreLevels
highest_right l left right p = grind arith
