-- What a call comes to of what is no closure (Lua 5.1 Reference Manual, 2.5.8, 2.8 and 5.1), and what an index or an assignment
-- leads on to. Calls of closures and of `pcall` are in `DirectEquations` of `lua_meaning`.
use Rattle.std.specs.Prelude.{◌≡◌, ℕ, ◌+◌, ◌-◌, ◌/◌, ◌<◌, ◌≤◌, nat_eq, Bool, true, false, List, [], ◌∷◌, length, drop, codes}
use Rattle.std.specs.Prelude.{ℤ, pos, negsuc, Option, Some, None, slice_get, if◌then◌else◌}
use Rattle.lua_ast.specs.declared.programs.Function.{Function}
use Rattle.lua_values.specs.declared.values.Value.{Value}
use Rattle.lua_values.specs.declared.values.Value.TheVariants.{Text, Closure, Native}
use Rattle.lua_values.specs.Values.{is_nil}
use Rattle.lua_values.specs.Heap.{ClosureView, bytes_of_a_step}
use Rattle.lua_values.specs.StoreCalls.{is_full}
use Rattle.lua_values.specs.NativeCalls.{NativeResult, Gives, Faults, Leaves}
use Rattle.lua_operators.specs.declared.events.Event.TheVariants.{Call, ToString}
use Rattle.lua_operators.specs.declared.faults.Fault.TheVariants.{StackOverflow, StorageLimit}
use Rattle.lua_operators.specs.declared.faults.OperandFault.TheVariants as operand
use Rattle.lua_operators.specs.Conversions.{number_of, text_of}
use Rattle.lua_operators.specs.NamedFaults.{argument_text}
use Rattle.lua_operators.specs.TypeNames.{type_name}
use Rattle.lua_operators.specs.Types.{type_of, is_truthy}
use Rattle.lua_meaning.specs.declared.resumes.Resumed.{Resumed}
use Rattle.lua_meaning.specs.declared.resumes.Resumed.TheVariants as resumed
use Rattle.lua_meaning.specs.Works.{Caller, Places, Slots, ACall, AnIndex, AStore, Sign, Failed}
use Rattle.lua_meaning.specs.Evaluator.{State, Ending, Ended, after, answered, counted}
use Rattle.lua_meaning.specs.Setting.{Setting}
use Rattle.lua_meaning.specs.Positions.{position_of, positioned}
use Rattle.lua_meaning.specs.Signs.{first}
use Rattle.lua_meaning.specs.Metatables.{handler}
use Rattle.lua_meaning.specs.Concatenation.{with_text}
use Rattle.lua_meaning.specs.Calls.{around_callee, most_callers}
use Rattle.lua_meaning.specs.ProtectedCalls.{protected, handled_fault}
use Rattle.lua_meaning.specs.Natives.{texts_length}
use Rattle.lua_meaning.specs.Nodes.{eval}
use Rattle.lua_meaning_laws.specs.Parts.{gives, gives_one, faults, faults_at, call_in, call_one, with_heap, index_in, store_in}

-- what isn't called by itself
abbrev pub is_callable : Value → Bool
is_callable (Closure c) = true
is_callable (Native n) = true
is_callable v = false

-- it is called by what its metatable has for that, before the arguments
abbrev pub call_by_in : Setting → Value → Value → List Value → Places → Slots → State → Ending
call_by_in S by f args q s w =
    if is_nil by then faults_at S q.around (operand.Call (type_of f)) s w else eval S (ACall by (f ∷ args)) q s w

-- true and the values of a call, or what the handler makes of its fault once the call is over
abbrev pub protected_in : Setting → Value → List Caller → Slots → Sign → State → Ending
protected_in S by callers s (Failed v) w =
    after (call_in S callers by (v ∷ []) s w) (λ sign s' w'. gives (handled_fault sign) s' w')
protected_in S by callers s sign w = gives (protected sign) s w

-- a value that is raised: a text stands after the position of these callers
abbrev pub raised : Setting → List Caller → Value → Value
raised S callers (Text text) = positioned S callers text
raised S callers v = v

-- `error(v, level)`: level n is the n-th Lua function from inside, below 1 there is no position, and a level that is no number is
-- a fault
abbrev pub error_value : Setting → List Caller → Option ℤ → Value → Value → Value
error_value S callers (Some (pos n)) level v = if nat_eq n 0 then v else raised S (drop (n - 1) callers) v
error_value S callers (Some (negsuc n)) level v = v
error_value S callers None level v = positioned S callers (argument_text 2 (codes "error") (codes "number") (type_name (type_of level)))

-- which is 1 where it isn't given
abbrev pub level_of : Value → Option ℤ
level_of level = if is_nil level then Some (pos 1) else number_of level

abbrev pub error_in : Setting → List Value → List Caller → Slots → State → Ending
error_in S args callers s w =
    Ended (Failed (error_value S callers (level_of (first (drop 1 args))) (first (drop 1 args)) (first args))) s w

-- `assert(v, message)`
abbrev pub assert_in : Setting → Value → List Value → List Caller → Slots → State → Ending
assert_in S v more callers s w =
    if is_truthy v then gives (v ∷ more) s w
    else if is_nil (first more) then Ended (Failed (positioned S callers (codes "assertion failed!"))) s w
    else Ended (Failed (raised S callers (first more))) s w

-- the text of a value, where so many bytes of text were taken: a text is its own, and any other is made
abbrev pub text_in : Setting → List Caller → ℕ → Value → Slots → State → Ending
text_in S callers taken (Text text) s w = counted (taken / bytes_of_a_step) w (λ w2. gives_one (Text text) s w2)
text_in S callers taken v s w =
    if is_full w.store.heap (length (text_of v) + 16) then counted (taken / bytes_of_a_step) w (λ w2. faults S callers StorageLimit s w2)
    else counted ((taken + length (text_of v)) / bytes_of_a_step) w (λ w2.
    gives_one (Text (text_of v)) s (with_heap w2 (with_text w.store.heap (length (text_of v)))))

-- `tostring(v)`: what the handler gives, or else its text
abbrev pub tostring_in : Setting → Value → Value → List Value → List Caller → Slots → State → Ending
tostring_in S by v more callers s w =
    if is_nil by then text_in S callers (texts_length (v ∷ more)) v s w
    else counted (texts_length (v ∷ more) / bytes_of_a_step) w (λ w2. call_one S callers by (v ∷ []) s w2 gives_one)

-- what the outside gives a call
abbrev pub answer_in : Setting → List Caller → Resumed → Slots → State → Ending
answer_in S callers (resumed.Values vs) s w = gives vs s w
answer_in S callers (resumed.Raise text) s w = Ended (Failed (positioned S callers text)) s w

-- what a function of the setting means: it leaves a heap and counts its steps, or the outside answers
abbrev pub result_in : Setting → ℕ → List Value → List Caller → NativeResult → Slots → State → Ending
result_in S number args callers (Gives vs h n) s w = counted n (with_heap w h) (λ w2. gives vs s w2)
result_in S number args callers (Faults v h n) s w = counted n (with_heap w h) (λ w2. Ended (Failed (raised S callers v)) s w2)
result_in S number args callers (Leaves n) s w =
    counted n w (λ w2. answered number args (position_of S callers) w2.store w2.resumes (λ answer w3. answer_in S callers answer s w3))

pub record CallsAre (S : Setting) : Type 0 where
  pub overflow : (c : ℕ) (closure : ClosureView) (f : Function) (args : List Value) (q : Places) (s : Slots) (w : State)
      → slice_get w.store.heap.closures c ≡ Some closure → slice_get S.program.functions.items closure.function ≡ Some f
      → most_callers ≤ length (around_callee q) → eval S (ACall (Closure c) args) q s w ≡ counted 1 w (λ w1. faults S q.around StackOverflow s w1)
  pub by_handler : (f : Value) (args : List Value) (q : Places) (s : Slots) (w : State) → is_callable f ≡ false
      → eval S (ACall f args) q s w ≡ counted 1 w (λ w1. call_by_in S (handler w1.store.heap f Call) f args q s w1)
  pub xpcall : (f by : Value) (args : List Value) (q : Places) (s : Slots) (w : State) → eval S (ACall (Native 1) (f ∷ by ∷ args)) q s w
      ≡ counted 1 w (λ w1. counted (texts_length (f ∷ by ∷ args) / bytes_of_a_step) w1
      (λ w2. after (call_in S q.around f [] s w2) (λ sign s3 w3. protected_in S by q.around s sign w3)))
  pub error : (args : List Value) (q : Places) (s : Slots) (w : State) → eval S (ACall (Native 2) args) q s w
      ≡ counted 1 w (λ w1. counted (texts_length args / bytes_of_a_step) w1 (λ w2. error_in S args q.around s w2))
  pub assert : (v : Value) (more : List Value) (q : Places) (s : Slots) (w : State) → eval S (ACall (Native 3) (v ∷ more)) q s w
      ≡ counted 1 w (λ w1. counted (texts_length (v ∷ more) / bytes_of_a_step) w1 (λ w2. assert_in S v more q.around s w2))
  pub tostring : (v : Value) (more : List Value) (q : Places) (s : Slots) (w : State) → eval S (ACall (Native 4) (v ∷ more)) q s w
      ≡ counted 1 w (λ w1. tostring_in S (handler w1.store.heap v ToString) v more q.around s w1)
  pub of_host : (n : ℕ) (args : List Value) (q : Places) (s : Slots) (w : State) → 5 ≤ n → n - 5 < S.count → eval S (ACall (Native n) args) q s w
      ≡ counted 1 w (λ w1. result_in S (n - 5) args q.around (S.lib (n - 5) args w1.store.heap) s w1)
  pub index : (line : ℕ) (v key : Value) (p : Places) (s : Slots) (w : State)
      → eval S (AnIndex line v key) p s w ≡ counted 1 w (λ w1. index_in S line v key p s w1)
  pub store : (line : ℕ) (v key x : Value) (p : Places) (s : Slots) (w : State)
      → eval S (AStore line v key x) p s w ≡ counted 1 w (λ w1. store_in S line v key x p s w1)

pub record EachCallIs : Type 0 where
  pub all : (S : Setting) → CallsAre S
