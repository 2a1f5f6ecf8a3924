-- Loops (Lua 5.1 Reference Manual, 2.4.4 and 2.4.5). A run of a loop's body is a node, so it counts a step.
use Rattle.std.specs.Prelude.{ℕ, Bool, false, List, [], ◌∷◌, slice_set, ℤ, pos, Option, Some, None, Result, Ok, Err, if◌then◌else◌}
use Rattle.std.specs.Ordering.{int_eq, int_cmp, is_lt, is_le}
use Rattle.lua_ast.specs.declared.expressions.Expr.{Expr}
use Rattle.lua_ast.specs.declared.statements.Stmt.{Stmt}
use Rattle.lua_numbers.specs.declared.faults.NumFault.{NumFault}
use Rattle.lua_values.specs.declared.values.Value.{Value}
use Rattle.lua_values.specs.declared.values.Value.TheVariants as value_of
use Rattle.lua_values.specs.Values.{is_nil}
use Rattle.lua_operators.specs.declared.arithmetic.ArithmeticOperator.TheVariants.{Add}
use Rattle.lua_operators.specs.declared.faults.Fault.{Fault}
use Rattle.lua_operators.specs.declared.faults.Fault.TheVariants.{Number, ForInitial, ForLimit, ForStep, ForStepZero}
use Rattle.lua_operators.specs.ArithmeticOperators.{result_of}
use Rattle.lua_operators.specs.Conversions.{number_of}
use Rattle.lua_operators.specs.Types.{is_truthy}
use Rattle.lua_meaning.specs.declared.slots.Slot.TheVariants.{Plain}
use Rattle.lua_meaning.specs.Works.{Caller, Places, Slots, ATurn, ARepeat, AFor, AnIter, Node, Sign, Values, Return, Break, Failed, Work, End, Eval, and_then}
use Rattle.lua_meaning.specs.Setting.{Setting}
use Rattle.lua_meaning.specs.Positions.{callers_at, raise_fault}
use Rattle.lua_meaning.specs.Signs.{first, give, on_values, value}
use Rattle.lua_meaning.specs.Variables.{with_locals}
use Rattle.lua_meaning.specs.Blocks.{block}
use Rattle.lua_meaning.specs.Calls.{calling, call_at}

-- one more node, whose end is that of the loop
abbrev pub again : Node → Places → Slots → Work
again n p s = Eval n p s (λ sign s'. End sign s')

-- after a run of the body the loop goes on; `break` ends it
abbrev pub after_body : (Slots → Work) → Sign → Slots → Work
after_body go (Values vs) s = go s
after_body go (Return vs) s = End (Return vs) s
after_body go Break s = give [] s
after_body go (Failed v) s = End (Failed v) s

-- `while test do body end`: the test, and while it holds the body and the test again
abbrev pub while_work : Expr → List Stmt → Places → Slots → Work
while_work test body p s = value test p s (λ v s'. if is_truthy v then again (ATurn test body) p s' else give [] s')

abbrev pub turn_work : Expr → List Stmt → Places → Slots → Work
turn_work test body p s = and_then (block body p s) (after_body (while_work test body p))

-- `repeat body until test`: the body, and then the test, which sees the body's variables
abbrev pub repeat_work : List Stmt → Expr → Places → Slots → Work
repeat_work body test p s =
    and_then (block body p s) (after_body (λ s'. value test p s' (λ v s''. if is_truthy v then give [] s'' else again (ARepeat body test) p s'')))

-- whether the loop runs for i: up to the limit, or down to it by a negative step
abbrev pub is_within : ℤ → ℤ → ℤ → Bool
is_within i limit step = if is_lt (int_cmp (pos 0) step) then is_le (int_cmp i limit) else is_le (int_cmp limit i)

abbrev pub for_from : ℕ → ℕ → ℤ → ℤ → ℤ → List Stmt → Places → Slots → Work
for_from line slot i limit step body p s = if is_within i limit step then again (AFor line slot i limit step body) p s else give [] s

-- the next i, which may be out of the range of numbers
abbrev pub for_next : Setting → ℕ → ℕ → Result ℤ NumFault → ℤ → ℤ → List Stmt → Places → Slots → Work
for_next S line slot (Ok i) limit step body p s = for_from line slot i limit step body p s
for_next S line slot (Err fault) limit step body p s = raise_fault S (callers_at p line) (Number fault) s

-- one run of the body, with i in its variable
abbrev pub for_turn : Setting → ℕ → ℕ → ℤ → ℤ → ℤ → List Stmt → Places → Slots → Work
for_turn S line slot i limit step body p s =
    and_then (block body p (slice_set s slot (Plain (value_of.Number i)))) (after_body (for_next S line slot (result_of Add i step) limit step body p))

-- a bound that must be a number
abbrev pub bound : Setting → List Caller → Fault → Option ℤ → Slots → (ℤ → Work) → Work
bound S callers fault (Some n) s go = go n
bound S callers fault None s go = raise_fault S callers fault s

-- `for slot = from, to, step do body end`, once its bounds are evaluated; a text that writes a number is one
abbrev pub for_work : Setting → ℕ → ℕ → Value → Value → Value → List Stmt → Places → Slots → Work
for_work S line slot from to by body p s =
    bound S (callers_at p line) ForInitial (number_of from) s (λ i. bound S (callers_at p line) ForLimit (number_of to) s (λ limit.
    bound S (callers_at p line) ForStep (number_of by) s (λ step.
    if int_eq step (pos 0) then raise_fault S (callers_at p line) ForStepZero s else for_from line slot i limit step body p s)))

-- `for slots in f, state, control do body end`: f is called with the state and the control value, and the loop ends at nil
abbrev pub iterate : ℕ → List ℕ → Value → Value → Value → List Stmt → Places → Slots → Work
iterate line slots f state control body p s =
    call_at (calling (callers_at p line) false) f (state ∷ control ∷ []) (λ sign. on_values
    (λ vs s'. if is_nil (first vs) then give [] s' else again (AnIter line slots f state vs body) p s') sign s)

-- one run of the body, with what f gave in its variables; the first of it is the next control value
abbrev pub iter_turn : ℕ → List ℕ → Value → Value → List Value → List Stmt → Places → Slots → Work
iter_turn line slots f state vs body p s =
    and_then (block body p (with_locals slots vs s)) (after_body (iterate line slots f state (first vs) body p))
