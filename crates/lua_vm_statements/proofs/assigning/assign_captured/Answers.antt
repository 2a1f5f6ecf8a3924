use Rattle.std.proofs.Common.{List, ℕ, slice_get, refl, sym, ap, ◌∙◌}
use Rattle.std.proofs.lemmas.Option.{slice_get_read}
use Rattle.lua_meaning.specs.Positions.{callers_at}
use Rattle.lua_frames.specs.Frames.{here}
use Rattle.lua_vm_statements.proofs.AssignLemmas.{captured_there}
use Rattle.lua_vm_statements.proofs.assigning.assign_captured.Goals as goal

pub returns-in-Some : goal.returns-in-Some
returns-in-Some c = λ S e.
    captured_there S (callers_at (here c.args.frames.now) c.args.line) _ c.in-Some.c.now c.args.value c.args.frames.now c.write_cell.new.frames c.args.store.now c.write_cell.new.store c.write_cell.result
    (ap (λ (xs : List ℕ). slice_get xs c.args.i) (sym c.deref.ensures.value) ∙ slice_get_read _ _ _ _ refl c.in-Some.ensures.lookup.3.0 c.in-Some.ensures.lookup.1) (c.write_cell.ensures S e)
