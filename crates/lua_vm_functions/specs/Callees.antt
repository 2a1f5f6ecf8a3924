-- What a call comes to.
use Rattle.std.specs.Prelude.{◌≡◌, List, []}
use Rattle.lua_values.specs.declared.values.Value.{Value}
use Rattle.lua_values.specs.declared.values.Value.TheVariants.{Closure, Native}
use Rattle.lua_values.specs.Heap.{StoreView}
use Rattle.lua_operators.specs.declared.faults.OperandFault.TheVariants as operand
use Rattle.lua_meaning.specs.Works.{Places, ACall, Work}
use Rattle.lua_meaning.specs.Evaluator.{Resume, Spent, do_work}
use Rattle.lua_meaning.specs.Setting.{Setting}
use Rattle.lua_meaning.specs.Positions.{raise_operand}
use Rattle.lua_meaning.specs.Nodes.{eval, callee_work}
use Rattle.lua_vm_functions.specs.declared.callee.Callee.{Callee}
use Rattle.lua_vm_functions.specs.declared.callee.Callee.TheVariants as callee

-- the evaluation of a call, wherever it is done, comes to this work in a store
abbrev pub ComesTo : Value → List Value → StoreView → (Setting → Places → Work) → StoreView → Type 0
ComesTo f args before work store = (S : Setting) (q : Places) (resumes : List Resume)
    → eval S (ACall f args) q [] (record { store = before; resumes = resumes }) ≡ do_work (eval S) (work S q) (record { store = store; resumes = resumes })

-- a call of a value with arguments comes to that of what was found with these arguments, in a store
abbrev pub Reaches : Value → List Value → StoreView → Callee → List Value → StoreView → Type 0
Reaches f args before (callee.Closure c) now store = ComesTo f args before (λ S q. callee_work S (Closure c) now q []) store
Reaches f args before (callee.Native n) now store = ComesTo f args before (λ S q. callee_work S (Native n) now q []) store
Reaches f args before (callee.Uncallable t) now store = ComesTo f args before (λ S q. raise_operand S q.around (operand.Call t) []) store
Reaches f args before callee.Spent now store = (S : Setting) (q : Places) (resumes : List Resume)
    → eval S (ACall f args) q [] (record { store = before; resumes = resumes }) ≡ Spent
