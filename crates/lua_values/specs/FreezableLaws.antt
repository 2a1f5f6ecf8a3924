-- How a freezable list is stored, with the proof that nothing of it is lost.
use Rattle.std.specs.Prelude.{ℕ, List, refl}
use Rattle.std.specs.Coded.{Coded, code_by, coded×, coded_ℕ, coded_list}
use Rattle.lua_values.specs.Freezable.{Freezable}

-- such a list is stored as the pair of its fields
abbrev pub freezable_code : {T : Type 0} → Coded T → Coded (Freezable T)
freezable_code {T} code =
    code_by (List T × ℕ) (coded× (coded_list code) coded_ℕ) (λ list. (list.items, list.frozen)) (λ p. record { items = p.0; frozen = p.1 }) (λ _. refl)
