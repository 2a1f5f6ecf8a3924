-- Programs that are the same have their functions' files, captures and parameters in common, so that faults have the same positions.
use Rattle.std.proofs.Common.{◌≡◌, ℕ, zero, suc, ◌++◌, Bool, List, [], ◌∷◌, Option, Some, None, slice_get, unwrap_or, if◌then◌else◌, refl, ap, ◌∙◌}
use Rattle.std.specs.List.{AllZip}
use Rattle.std.specs.Option.{option_map}
use Rattle.lua_ast.specs.SameProgram.{SameFunction, SameProgram}
use Rattle.lua_ast.specs.declared.programs.Function.{Function}
use Rattle.lua_ast.specs.declared.programs.Program.{Program}
use Rattle.lua_values.specs.NativeCalls.{Meaning}
use Rattle.lua_values.specs.declared.values.Value.TheVariants.{Text}
use Rattle.lua_operators.specs.Positions.{position}
use Rattle.site_same_laws.specs.Programs.{in_setting}
use Rattle.site_same_laws.proofs.SameWorks.{SameWork, ends}
use Rattle.lua_meaning.specs.Closures.{captures_of}
use Rattle.lua_meaning.specs.Positions.{file_of, is_name, is_named, position_of, position_text, positioned, raise, raise_fault, raise_operand}
use Rattle.lua_meaning.specs.Setting.{Setting}
use Rattle.lua_meaning.specs.Works.{Caller, Failed, Slots}
use Rattle.lua_meaning.specs.declared.positions.Position.{Position}
use Rattle.lua_operators.specs.Faults.{fault_text}
use Rattle.lua_operators.specs.OperandFaults.{operand_fault_text}
use Rattle.lua_operators.specs.declared.faults.Fault.{Fault}
use Rattle.lua_operators.specs.declared.faults.OperandFault.{OperandFault}

-- two programs that are the same, with the functions of the host
pub record Twins : Type 0 where
  pub p : Program
  pub q : Program
  pub same : SameProgram p q
  pub count : ℕ
  pub lib : Meaning

abbrev pub left : Twins → Setting
left A = in_setting A.p A.count A.lib

abbrev pub right : Twins → Setting
right A = in_setting A.q A.count A.lib

-- a function that is found in both, or in none
pub data SameFound : Option Function → Option Function → Type 0 where
  neither : SameFound None None
  found : {f g : Function} → SameFunction f g → SameFound (Some f) (Some g)

found_same : (fs gs : List Function) (n : ℕ) → AllZip SameFunction fs gs → SameFound (slice_get fs n) (slice_get gs n)
found_same [] [] n h = neither
found_same [] (g ∷ gs) n h = absurd h
found_same (f ∷ fs) [] n h = absurd h
found_same (f ∷ fs) (g ∷ gs) zero h = found h.0
found_same (f ∷ fs) (g ∷ gs) (suc n) h = found_same fs gs n h.1

file_found : (o o' : Option Function) → SameFound o o' → option_map (λ (f : Function). f.file) o ≡ option_map (λ (f : Function). f.file) o'
file_found o o' neither = refl
file_found o o' (found same) = ap Some same.file

captures_found : (o o' : Option Function) → SameFound o o' → captures_of o ≡ captures_of o'
captures_found o o' neither = refl
captures_found o o' (found same) = same.captures

module _ (A : Twins) where
  pub function_same : (n : ℕ) → SameFound (slice_get A.p.functions.items n) (slice_get A.q.functions.items n)
  function_same n = found_same A.p.functions.items A.q.functions.items n A.same.functions

  pub captures_same : (n : ℕ) → captures_of (slice_get A.p.functions.items n) ≡ captures_of (slice_get A.q.functions.items n)
  captures_same n = captures_found _ _ (function_same n)

  file_same : (n : ℕ) → file_of (left A) n ≡ file_of (right A) n
  file_same n = file_found _ _ (function_same n)

  named_same : (o : Option ℕ) → is_named (left A) o ≡ is_named (right A) o
  named_same None = refl
  named_same (Some file) = ap (λ (files : List (List ℕ)). is_name (unwrap_or (slice_get files file) [])) A.same.files

  pub position_same : (cs : List Caller) → position_of (left A) cs ≡ position_of (right A) cs
  position_same [] = refl
  position_same (c ∷ cs) =
      ap (λ (o : Option ℕ). if is_named (left A) o then Some (record { file = unwrap_or o 0; line = c.line }) else position_of (left A) cs) (file_same c.function)
      ∙ ap (λ (b : Bool). if b then Some (record { file = unwrap_or (file_of (right A) c.function) 0; line = c.line }) else position_of (left A) cs) (named_same (file_of (right A) c.function))
      ∙ ap (λ (o : Option Position). if is_named (right A) (file_of (right A) c.function) then Some (record { file = unwrap_or (file_of (right A) c.function) 0; line = c.line }) else o) (position_same cs)

  text_same : (o : Option Position) → position_text (left A) o ≡ position_text (right A) o
  text_same None = refl
  text_same (Some at) = ap (λ (files : List (List ℕ)). position (unwrap_or (slice_get files at.file) []) at.line) A.same.files

  positioned_same : (cs : List Caller) (text : List ℕ) → positioned (left A) cs text ≡ positioned (right A) cs text
  positioned_same cs text =
      ap (λ (o : Option Position). Text (position_text (left A) o ++ text)) (position_same cs) ∙ ap (λ (before : List ℕ). Text (before ++ text)) (text_same (position_of (right A) cs))

  pub raise_same : (cs : List Caller) (text : List ℕ) (s : Slots) → SameWork (raise (left A) cs text s) (raise (right A) cs text s)
  raise_same cs text s = ends (ap Failed (positioned_same cs text))

  pub fault_same : (cs : List Caller) (fault : Fault) (s : Slots) → SameWork (raise_fault (left A) cs fault s) (raise_fault (right A) cs fault s)
  fault_same cs fault s = raise_same cs (fault_text fault) s

  pub operand_same : (cs : List Caller) (fault : OperandFault) (s : Slots) → SameWork (raise_operand (left A) cs fault s) (raise_operand (right A) cs fault s)
  operand_same cs fault s = raise_same cs (operand_fault_text fault) s
