-- What joining the program of a text adds to a set.
use Rattle.std.proofs.Common.{◌≡◌, ℕ, Bool, true, false, List, Result, Ok, Err, OnOk, subst, sym}
use Rattle.std.specs.Prelude.{if◌then◌else◌}
use Rattle.lua_ast.specs.declared.programs.Program.{Program}
use Rattle.lua_linking.specs.Joining.{IsJoined}
use Rattle.lua_modules.specs.Texts.{HasProgram}
use Rattle.lua_modules.specs.Sets.{Adds, is_prelude, lists_of, next_function, of_file, with_module, with_prelude}
use Rattle.lua_modules.specs.declared.faults.ModuleFault.{ModuleFault}
use Rattle.lua_modules.specs.declared.sets.ModuleSet.{ModuleSet}

-- what follows of two things at a success
both : (r : Result (Unit {0}) ModuleFault) (P Q R : Type 0) → (P → Q → R) → OnOk r P → OnOk r Q → OnOk r R
both (Ok u) P Q R step p q = step p q
both (Err e) P Q R step p q = tt

module _ (name file text : List ℕ) (before after : ModuleSet) (chunk : Program) (read : HasProgram 1 text chunk) (r : Result (Unit {0}) ModuleFault)
    (joined : OnOk r (IsJoined before.program (of_file file chunk) after.program)) where
  -- the lists after it, by whether it is a prelude
  abbrev Listed : Bool → Type 0
  Listed b = lists_of after ≡ (if b then with_prelude (next_function before) (lists_of before)
      else with_module name file (next_function before) (lists_of before))

  added : (b : Bool) → is_prelude name file ≡ b → OnOk r (Listed b) → OnOk r (Adds name file text before after)
  added b is = both r _ _ _ (λ j e. record { program = record { chunk = chunk; read = read; joined = j }; lists = subst Listed (sym is) e }) joined

  pub adds_prelude : is_prelude name file ≡ true → OnOk r (lists_of after ≡ with_prelude (next_function before) (lists_of before))
      → OnOk r (Adds name file text before after)
  adds_prelude = added true

  pub adds_module : is_prelude name file ≡ false → OnOk r (lists_of after ≡ with_module name file (next_function before) (lists_of before))
      → OnOk r (Adds name file text before after)
  adds_module = added false
