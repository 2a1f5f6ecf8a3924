-- The bounds of a numeric `for`.
use Rattle.std.specs.Prelude.{◌≡◌, ℕ, Bool, true, false, List, ℤ, pos, Option, Some, None, Ok, Err, if◌then◌else◌}
use Rattle.std.specs.Ordering.{int_eq}
use Rattle.std.proofs.Common.{◌∙◌, ap}
use Rattle.lua_ast.specs.declared.statements.Stmt.{Stmt}
use Rattle.lua_values.specs.declared.values.Value.{Value}
use Rattle.lua_operators.specs.declared.faults.Fault.TheVariants.{ForInitial, ForLimit, ForStep, ForStepZero}
use Rattle.lua_operators.specs.Conversions.{number_of}
use Rattle.lua_meaning.specs.Works.{Places, Slots, Work}
use Rattle.lua_meaning.specs.Setting.{Setting}
use Rattle.lua_meaning.specs.Positions.{callers_at, raise_fault}
use Rattle.lua_meaning.specs.Loops.{for_from, bound}
use Rattle.lua_vm_loops.specs.Ranges.{Counts}

-- the work of a `for` whose bounds have these numbers
abbrev with_numbers : Setting → ℕ → ℕ → Option ℤ → Option ℤ → Option ℤ → List Stmt → Places → Slots → Work
with_numbers S line slot from to by body p s =
    bound S (callers_at p line) ForInitial from s (λ i. bound S (callers_at p line) ForLimit to s (λ limit.
    bound S (callers_at p line) ForStep by s (λ step.
    if int_eq step (pos 0) then raise_fault S (callers_at p line) ForStepZero s else for_from line slot i limit step body p s)))

pub no_initial : (from to by : Value) → number_of from ≡ None → Counts from to by (Err ForInitial)
no_initial from to by e S line slot body p s = ap (λ (n : Option ℤ). with_numbers S line slot n (number_of to) (number_of by) body p s) e

pub no_limit : (from to by : Value) (i : ℤ) → number_of from ≡ Some i → number_of to ≡ None → Counts from to by (Err ForLimit)
no_limit from to by i e h S line slot body p s =
    ap (λ (n : Option ℤ). with_numbers S line slot n (number_of to) (number_of by) body p s) e
    ∙ ap (λ (n : Option ℤ). with_numbers S line slot (Some i) n (number_of by) body p s) h

pub no_step : (from to by : Value) (i limit : ℤ) → number_of from ≡ Some i → number_of to ≡ Some limit → number_of by ≡ None → Counts from to by (Err ForStep)
no_step from to by i limit e h g S line slot body p s =
    ap (λ (n : Option ℤ). with_numbers S line slot n (number_of to) (number_of by) body p s) e
    ∙ ap (λ (n : Option ℤ). with_numbers S line slot (Some i) n (number_of by) body p s) h
    ∙ ap (λ (n : Option ℤ). with_numbers S line slot (Some i) (Some limit) n body p s) g

by_zero : (S : Setting) (line slot : ℕ) (i limit step : ℤ) (body : List Stmt) (p : Places) (s : Slots) (zero : Bool) → int_eq step (pos 0) ≡ zero
    → with_numbers S line slot (Some i) (Some limit) (Some step) body p s
    ≡ (if zero then raise_fault S (callers_at p line) ForStepZero s else for_from line slot i limit step body p s)
by_zero S line slot i limit step body p s zero e = ap (λ (t : Bool). if t then raise_fault S (callers_at p line) ForStepZero s else for_from line slot i limit step body p s) e

pub zero_step : (from to by : Value) (i limit step : ℤ) → number_of from ≡ Some i → number_of to ≡ Some limit → number_of by ≡ Some step → int_eq step (pos 0) ≡ true → Counts from to by (Err ForStepZero)
zero_step from to by i limit step e h g zero S line slot body p s =
    ap (λ (n : Option ℤ). with_numbers S line slot n (number_of to) (number_of by) body p s) e
    ∙ ap (λ (n : Option ℤ). with_numbers S line slot (Some i) n (number_of by) body p s) h
    ∙ ap (λ (n : Option ℤ). with_numbers S line slot (Some i) (Some limit) n body p s) g
    ∙ by_zero S line slot i limit step body p s true zero

pub all_numbers : (from to by : Value) (i limit step : ℤ) → number_of from ≡ Some i → number_of to ≡ Some limit → number_of by ≡ Some step → int_eq step (pos 0) ≡ false
    → Counts from to by (Ok (record { from = i; limit = limit; step = step }))
all_numbers from to by i limit step e h g nonzero S line slot body p s =
    ap (λ (n : Option ℤ). with_numbers S line slot n (number_of to) (number_of by) body p s) e
    ∙ ap (λ (n : Option ℤ). with_numbers S line slot (Some i) n (number_of by) body p s) h
    ∙ ap (λ (n : Option ℤ). with_numbers S line slot (Some i) (Some limit) n body p s) g
    ∙ by_zero S line slot i limit step body p s false nonzero
