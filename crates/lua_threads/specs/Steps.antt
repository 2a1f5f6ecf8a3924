-- How steps rise as the machine runs.
use Rattle.std.specs.Prelude.{◌≡◌, ◌≤◌, ◌<◌}
use Rattle.lua_values.specs.Heap.{StoreView, step_limit}
use Rattle.lua_frames.specs.declared.flow.Flow.{Flow}
use Rattle.lua_frames.specs.declared.flow.Flow.TheVariants as flow

-- steps rise where the thread goes on, within the limit, or asks, and never fall; where they are spent they are at the limit
abbrev pub RaisesSteps : StoreView → StoreView → Flow → Type 0
RaisesSteps old new flow.Went = (old.steps < new.steps) × (new.steps ≤ step_limit)
RaisesSteps old new flow.Asked = old.steps < new.steps
RaisesSteps old new flow.Spent = new.steps ≡ step_limit
RaisesSteps old new flow.Over = old.steps ≤ new.steps
