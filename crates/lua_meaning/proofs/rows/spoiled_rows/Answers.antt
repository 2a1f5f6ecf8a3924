use Rattle.std.proofs.Common.{◌≡◌, ℕ, [], ◌∷◌, length, ap, sym, ◌∙◌, arith, pos, codes}
use Rattle.lua_values.specs.declared.values.Value.TheVariants.{Number, Text}
use Rattle.lua_values.specs.NativeCalls.{Leaves}
use Rattle.lua_meaning.specs.Rows.{Row, Gives, Fails, Other}
use Rattle.lua_meaning.proofs.RowLemmas.{sum-row, remainder-row}
use Rattle.lua_meaning.proofs.rows.spoiled_rows.Goals as goal

steps_of : Row → ℕ
steps_of (Gives vs steps units) = steps
steps_of (Fails v steps units) = steps
steps_of Other = 0

text_length : Row → ℕ
text_length (Fails (Text text) steps units) = length text
text_length r = 0

pub returns : goal.returns
unfolding steps_of text_length
returns c = record {
  step_too_few = λ h. let e : 5 ≡ 4 = ap steps_of (sym (sum-row 0 (λ n args heap. Leaves 0)) ∙ h 0 (λ n args heap. Leaves 0)) in absurd (omega arith);
  other_order = λ h. let e : Fails (Text (codes "t.conf:1: attempt to divide by zero")) 5 0 ≡ Gives (Number (pos 0) ∷ []) 5 0
      = sym (remainder-row 0 (λ n args heap. Leaves 0)) ∙ h 0 (λ n args heap. Leaves 0) in cc;
  no_position = λ h. let e : 35 ≡ 25 = ap text_length (sym (remainder-row 0 (λ n args heap. Leaves 0)) ∙ h 0 (λ n args heap. Leaves 0)) in absurd (omega arith);
}
