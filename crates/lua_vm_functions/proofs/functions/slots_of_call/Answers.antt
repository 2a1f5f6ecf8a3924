use Rattle.std.proofs.Common.{◌≡◌, ℕ, suc, ◌+◌, ◌-◌, ◌<◌, List, ◌∷◌, append_assoc, arith, ap}
use Rattle.lua_values.specs.declared.values.Value.{Value}
use Rattle.lua_meaning.specs.declared.slots.Slot.TheVariants.{Plain}
use Rattle.lua_meaning.specs.Calls.{argument, slots_from}
use Rattle.lua_vm_functions.proofs.functions.slots_of_call.Goals as goal

slots_next : (n i params : ℕ) (args : List Value) → i < n → slots_from (n - i) i params args ≡ Plain (argument i params args) ∷ slots_from (n - (i + 1)) (i + 1) params args
slots_next n i params args h =
    let e : n - i ≡ suc (n - (i + 1)) = omega arith in ap (λ (k : ℕ). slots_from k i params args) e

pub loop-i-preserved : goal.loop-i-preserved
loop-i-preserved c =
    rw (c.in_ok-push.ensures.items, c.in_ok-argument.ensures, append_assoc) (rw (← slots_next c.args.count c.loop-i.i c.args.params c.args.args.now c.loop-i-test.true) c.loop-i.invariant)
