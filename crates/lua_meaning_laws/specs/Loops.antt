-- What a run of a loop's body comes to (Lua 5.1 Reference Manual, 2.4.4 and 2.4.5). That of `while` is in `DirectEquations` of
-- `lua_meaning`.
use Rattle.std.specs.Prelude.{◌≡◌, ℕ, List, [], ◌∷◌, slice_set, ℤ, pos, Option, Some, None, Result, Ok, Err, if◌then◌else◌}
use Rattle.std.specs.Ordering.{int_eq}
use Rattle.lua_ast.specs.declared.expressions.Expr.{Expr}
use Rattle.lua_ast.specs.declared.statements.Stmt.{Stmt}
use Rattle.lua_numbers.specs.declared.faults.NumFault.{NumFault}
use Rattle.lua_values.specs.declared.values.Value.{Value}
use Rattle.lua_values.specs.declared.values.Value.TheVariants as value_of
use Rattle.lua_values.specs.Values.{is_nil}
use Rattle.lua_operators.specs.declared.arithmetic.ArithmeticOperator.TheVariants.{Add}
use Rattle.lua_operators.specs.declared.faults.Fault.{Fault}
use Rattle.lua_operators.specs.declared.faults.Fault.TheVariants.{Number, ForInitial, ForLimit, ForStep, ForStepZero}
use Rattle.lua_operators.specs.ArithmeticOperators.{result_of}
use Rattle.lua_operators.specs.Conversions.{number_of}
use Rattle.lua_operators.specs.Types.{is_truthy}
use Rattle.lua_meaning.specs.declared.slots.Slot.TheVariants.{Plain}
use Rattle.lua_meaning.specs.Works.{Caller, Places, Slots, ARepeat, AFor, AnIter}
use Rattle.lua_meaning.specs.Evaluator.{State, Ending, counted}
use Rattle.lua_meaning.specs.Setting.{Setting}
use Rattle.lua_meaning.specs.Positions.{callers_at}
use Rattle.lua_meaning.specs.Signs.{first}
use Rattle.lua_meaning.specs.Variables.{with_locals}
use Rattle.lua_meaning.specs.Loops.{is_within}
use Rattle.lua_meaning.specs.Nodes.{eval}
use Rattle.lua_meaning.specs.DirectEquations.{with_values, with_body, eval_block}
use Rattle.lua_meaning_laws.specs.Parts.{gives, faults, eval_one, call_in}

-- a `for` that counts goes on for i, as long as that is within the limit
abbrev pub for_from_in : Setting → ℕ → ℕ → ℤ → ℤ → ℤ → List Stmt → Places → Slots → State → Ending
for_from_in S line slot i limit step body p s w = if is_within i limit step then eval S (AFor line slot i limit step body) p s w else gives [] s w

-- and for the next number, which may be out of the range of numbers
abbrev pub for_next_in : Setting → ℕ → ℕ → Result ℤ NumFault → ℤ → ℤ → List Stmt → Places → Slots → State → Ending
for_next_in S line slot (Ok i) limit step body p s w = for_from_in S line slot i limit step body p s w
for_next_in S line slot (Err fault) limit step body p s w = faults S (callers_at p line) (Number fault) s w

-- a bound that must be a number
abbrev pub bound_in : Setting → List Caller → Fault → Option ℤ → Slots → State → (ℤ → Ending) → Ending
bound_in S callers fault (Some n) s w go = go n
bound_in S callers fault None s w go = faults S callers fault s w

-- once its bounds are evaluated
abbrev pub for_in : Setting → ℕ → ℕ → Value → Value → Value → List Stmt → Places → Slots → State → Ending
for_in S line slot from to by body p s w =
    bound_in S (callers_at p line) ForInitial (number_of from) s w (λ i. bound_in S (callers_at p line) ForLimit (number_of to) s w (λ limit.
    bound_in S (callers_at p line) ForStep (number_of by) s w (λ step.
    if int_eq step (pos 0) then faults S (callers_at p line) ForStepZero s w else for_from_in S line slot i limit step body p s w)))

-- a `for` that calls a function: it ends where the first value that this gives is nil
abbrev pub iterate_in : Setting → ℕ → List ℕ → Value → Value → Value → List Stmt → Places → Slots → State → Ending
iterate_in S line slots f state control body p s w =
    with_values (call_in S (callers_at p line) f (state ∷ control ∷ []) s w) (λ vs s2 w2.
    if is_nil (first vs) then gives [] s2 w2 else eval S (AnIter line slots f state vs body) p s2 w2)

pub record LoopsAre (S : Setting) : Type 0 where
  pub repeat_ : (body : List Stmt) (test : Expr) (p : Places) (s : Slots) (w : State) → eval S (ARepeat body test) p s w
      ≡ counted 1 w (λ w1. with_body (eval_block S body p s w1) (λ s2 w2. eval_one S test p s2 w2 (λ v s3 w3.
      if is_truthy v then gives [] s3 w3 else eval S (ARepeat body test) p s3 w3)))
  pub numeric_for : (line slot : ℕ) (i limit step : ℤ) (body : List Stmt) (p : Places) (s : Slots) (w : State)
      → eval S (AFor line slot i limit step body) p s w
      ≡ counted 1 w (λ w1. with_body (eval_block S body p (slice_set s slot (Plain (value_of.Number i))) w1) (λ s2 w2.
      for_next_in S line slot (result_of Add i step) limit step body p s2 w2))
  pub generic_for : (line : ℕ) (slots : List ℕ) (f state : Value) (vs : List Value) (body : List Stmt) (p : Places) (s : Slots) (w : State)
      → eval S (AnIter line slots f state vs body) p s w
      ≡ counted 1 w (λ w1. with_body (eval_block S body p (with_locals slots vs s) w1) (λ s2 w2.
      iterate_in S line slots f state (first vs) body p s2 w2))

pub record EachLoopIs : Type 0 where
  pub all : (S : Setting) → LoopsAre S
