use Rattle.std.proofs.Common.{ℕ, List, ◌++◌, ◌∙◌, ap}
use Rattle.lua_values.specs.declared.values.Value.TheVariants.{Text}
use Rattle.lua_meaning.specs.Positions.{position_text}
use Rattle.lua_frames.proofs.FaultLemmas.{text_raised, other_raised}
use Rattle.lua_frames.proofs.faults.raise_given.Goals as goal

pub returns-in_ok-whole-in-Text : goal.returns-in_ok-whole-in-Text
returns-in_ok-whole-in-Text c = λ S store e.
    text_raised S _ c.args.value _ c.in-Text.text c.position_at-position.result c.args.frames.now _ store _ c.in-Text.is (c.position_at-position.ensures S e)
    (c.in_ok-whole-in-Text.ensures S e ∙ ap (λ (t : List ℕ). Text (position_text S c.position_at-position.result ++ t)) c.as_slice.ensures) c.raise_value.ensures

pub returns-in_default : goal.returns-in_default
returns-in_default c = λ S store e. other_raised S _ c.args.value c.args.frames.now _ store _ (λ t k. c.in_default.not-Text t k) c.raise_value-in_default.ensures
