-- The functions of the library that are built write no metatable of a type.
use Rattle.std.proofs.Common.{◌≡◌, ℕ, Bool, true, false, List, [], ◌∷◌, length, drop, Option, None, Some, Result, Ok, Err, refl, if◌then◌else◌, ℤ, pos}
use Rattle.std.specs.Ordering.{int_eq}
use Rattle.lua_values.specs.declared.values.Value.{Value}
use Rattle.lua_values.specs.declared.values.Value.TheVariants.{Text, Table}
use Rattle.lua_values.specs.declared.faults.StoreFault.{StoreFault}
use Rattle.lua_values.specs.Border.{border_of}
use Rattle.lua_values.specs.Values.{is_nil, number}
use Rattle.lua_values.specs.Heap.{Heap}
use Rattle.lua_values.specs.StoreCalls as calls
use Rattle.lua_operators.specs.Conversions.{number_of}
use Rattle.lua_operators.specs.Types.{type_of}
use Rattle.lua_operators.specs.TypeNames.{type_name}
use Rattle.lua_lib_base.specs.declared.refusals.Refusal.{Refusal}
use Rattle.lua_lib_base.specs.declared.refusals.Refusal.TheVariants.{ProtectedMetatable}
use Rattle.lua_lib_base.specs.Work.{making}
use Rattle.lua_lib_base.specs.Arguments.{argument, any_at, table_at, table_or_nil_at, number_at, number_or_at, text_at}
use Rattle.lua_lib_base.specs.Results.{LibraryResult, Gave, Refused, Left, counted, gives, refuses, with_argument, unless_refused}
use Rattle.lua_lib_base.specs.Texts.{text_cause, with_text, made_text}
use Rattle.lua_lib_basic.specs.declared.functions.BasicFunction.{BasicFunction}
use Rattle.lua_lib_basic.specs.declared.functions.BasicFunction.TheVariants as basic
use Rattle.lua_lib_basic.specs.declared.functions.PreludeFunction.{PreludeFunction}
use Rattle.lua_lib_basic.specs.declared.functions.PreludeFunction.TheVariants as prelude
use Rattle.lua_lib_basic.specs.declared.functions.Function.{Function}
use Rattle.lua_lib_basic.specs.declared.functions.Function.TheVariants.{Basic, Prelude}
use Rattle.lua_lib_basic.specs.Functions.{function_at}
use Rattle.lua_lib_basic.specs.Metatables.{protection, set_metatable}
use Rattle.lua_lib_basic.specs.Raw.{set_raw}
use Rattle.lua_lib_basic.specs.Lists.{asks_count, passed, selected_after, selected, select}
use Rattle.lua_lib_basic.specs.Conversions.{number_or_nil, as_base, in_base}
use Rattle.lua_lib_basic.specs.Modules.{is_text, module_name}
use Rattle.lua_lib_basic.specs.Meaning.{basic_result, prelude_result, call_result, call_name}
use Rattle.lua_lib_basic.specs.Laws.{KeepsTypeMetatables, OnlyOneSharesMetatables}

-- a function leaves these metatables
abbrev Keeps : Heap → LibraryResult → Type 0
Keeps old (Gave values heap work) = heap.metatables ≡ old.metatables
Keeps old (Refused refusal heap work) = heap.metatables ≡ old.metatables
Keeps old Left = Unit {0}

with_keeps : {T : Type 0} (heap : Heap) (r : Result T Refusal) (go : T → LibraryResult) → ((a : T) → Keeps heap (go a)) → Keeps heap (with_argument r heap go)
with_keeps heap (Ok a) go h = h a
with_keeps heap (Err e) go h = refl

unless_keeps : (heap : Heap) (cause : Option StoreFault) (go : LibraryResult) → Keeps heap go → Keeps heap (unless_refused cause heap go)
unless_keeps heap None go h = h
unless_keeps heap (Some cause) go h = refl

either_keeps : (heap : Heap) (b : Bool) (first second : LibraryResult) → Keeps heap first → Keeps heap second → Keeps heap (if b then first else second)
either_keeps heap true first second f s = f
either_keeps heap false first second f s = s

made_keeps : (heap : Heap) (text : List ℕ) → Keeps heap (made_text heap text)
made_keeps heap text = unless_keeps heap (text_cause heap (length text)) (Gave (Text text ∷ []) (with_text heap (length text)) (making (length text))) refl

set_metatable_keeps : (heap : Heap) (t : ℕ) (meta : Option ℕ) → Keeps heap (set_metatable heap t meta)
set_metatable_keeps heap t meta =
    let go : LibraryResult = gives (Table t ∷ []) (calls.with_metatable heap t meta) in
    let set : LibraryResult = unless_refused (calls.frozen_cause heap.base.tables t) heap go in
    either_keeps heap (is_nil (protection heap (calls.table_of heap t).meta)) set (refuses ProtectedMetatable heap) (unless_keeps heap (calls.frozen_cause heap.base.tables t) go refl) refl

set_raw_keeps : (heap : Heap) (t : ℕ) (key value : Value) → Keeps heap (set_raw heap t key value)
set_raw_keeps heap t key value = unless_keeps heap (calls.set_cause heap t key value) (gives (Table t ∷ []) (calls.with_pair heap t key value)) refl

selected_keeps : (heap : Heap) (values : List Value) (o : Option ℕ) → Keeps heap (selected_after heap values o)
selected_keeps heap values (Some n) = refl
selected_keeps heap values None = refl

select_keeps : (args : List Value) (heap : Heap) → Keeps heap (select args heap)
select_keeps args heap =
    let count : LibraryResult = gives (number (length (drop 1 args)) ∷ []) heap in
    let rest : LibraryResult = with_argument (number_at args 1) heap (λ index. selected heap (drop 1 args) index) in
    either_keeps heap (asks_count (argument args 1)) count rest refl
    (with_keeps heap (number_at args 1) (λ index. selected heap (drop 1 args) index) (λ index. selected_keeps heap (drop 1 args) (passed (length (drop 1 args)) index)))

based_keeps : (heap : Heap) (text : List ℕ) (o : Option ℕ) → Keeps heap (in_base heap text o)
based_keeps heap text (Some base) = refl
based_keeps heap text None = refl

converted_keeps : (args : List Value) (heap : Heap) (value : Value) (base : ℤ)
    → Keeps heap (if int_eq base (pos 10) then gives (number_or_nil (number_of value) ∷ []) heap else with_argument (text_at args 1) heap (λ text. in_base heap text (as_base base)))
converted_keeps args heap value base =
    let rest : LibraryResult = with_argument (text_at args 1) heap (λ text. in_base heap text (as_base base)) in
    either_keeps heap (int_eq base (pos 10)) (gives (number_or_nil (number_of value) ∷ []) heap) rest refl
    (with_keeps heap (text_at args 1) (λ text. in_base heap text (as_base base)) (λ text. based_keeps heap text (as_base base)))

name_keeps : (args : List Value) (heap : Heap) → Keeps heap (module_name args heap)
name_keeps args heap = with_keeps heap (text_at args 1) _ (λ text. either_keeps heap (is_text (argument args 1)) (gives (Text text ∷ []) heap) (made_text heap text) refl (made_keeps heap text))

basic_keeps : (function : BasicFunction) (args : List Value) (heap : Heap) → Keeps heap (basic_result function args heap)
basic_keeps basic.GetMetatable args heap = with_keeps heap (any_at args 1) _ (λ object. refl)
basic_keeps basic.SetMetatable args heap = with_keeps heap (table_at args 1) _ (λ t. with_keeps heap (table_or_nil_at args 2) _ (λ meta. set_metatable_keeps heap t meta))
basic_keeps basic.Ipairs args heap = with_keeps heap (table_at args 1) _ (λ t. refl)
basic_keeps basic.Next args heap = with_keeps heap (table_at args 1) _ (λ t. refl)
basic_keeps basic.Pairs args heap = with_keeps heap (table_at args 1) _ (λ t. refl)
basic_keeps basic.RawEqual args heap = with_keeps heap (any_at args 1) _ (λ a. with_keeps heap (any_at args 2) _ (λ b. refl))
basic_keeps basic.RawGet args heap = with_keeps heap (table_at args 1) _ (λ t. with_keeps heap (any_at args 2) _ (λ key. refl))
basic_keeps basic.RawSet args heap = with_keeps heap (table_at args 1) _ (λ t. with_keeps heap (any_at args 2) _ (λ key. with_keeps heap (any_at args 3) _ (λ value. set_raw_keeps heap t key value)))
basic_keeps basic.Select args heap = select_keeps args heap
basic_keeps basic.ToNumber args heap = with_keeps heap (any_at args 1) _ (λ value. with_keeps heap (number_or_at args 2 (pos 10)) _ (λ base. converted_keeps args heap value base))
basic_keeps basic.TypeName args heap = with_keeps heap (any_at args 1) _ (λ value. made_keeps heap (type_name (type_of value)))
basic_keeps basic.Unpack args heap =
    with_keeps heap (table_at args 1) _ (λ t. with_keeps heap (number_or_at args 2 (pos 1)) _ (λ first. with_keeps heap (number_or_at args 3 (pos (border_of (calls.pairs_of heap t)))) _ (λ last. refl)))

prelude_keeps : (function : PreludeFunction) (args : List Value) (heap : Heap) → Keeps heap (prelude_result function args heap)
prelude_keeps prelude.IpairsStep args heap = with_keeps heap (table_at args 1) _ (λ t. with_keeps heap (number_at args 2) _ (λ i. refl))
prelude_keeps prelude.Globals args heap = refl
prelude_keeps prelude.ModuleName args heap = name_keeps args heap
prelude_keeps prelude.RunModules args heap = refl

call_keeps : (o : Option Function) (args : List Value) (heap : Heap) → Keeps heap (call_result o args heap)
call_keeps (Some (Basic function)) args heap = basic_keeps function args heap
call_keeps (Some (Prelude function)) args heap = prelude_keeps function args heap
call_keeps None args heap = tt

counted_keeps : (name : List ℕ) (args : List Value) (heap : Heap) (result : LibraryResult) → Keeps heap result → KeepsTypeMetatables heap (counted name args result)
counted_keeps name args heap (Gave values new work) h = h
counted_keeps name args heap (Refused refusal new work) h = h
counted_keeps name args heap Left h = tt

pub only_one_shares : OnlyOneSharesMetatables
only_one_shares number args heap other = counted_keeps (call_name (function_at number)) args heap (call_result (function_at number) args heap) (call_keeps (function_at number) args heap)
