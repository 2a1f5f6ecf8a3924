-- How the runs of loops' bodies end.
use Rattle.lua_meaning.specs.Works.{Sign, Values, Return, Break, Failed}
use Rattle.lua_vm_loops.specs.declared.runs.RunEnd.{RunEnd}
use Rattle.lua_vm_loops.specs.declared.runs.RunEnd.TheVariants as run

-- how a run of a loop's body ended, by what it gave
abbrev pub ends_run : Sign → RunEnd
ends_run (Values vs) = run.Ran
ends_run (Return vs) = run.Left
ends_run Break = run.Broke
ends_run (Failed v) = run.Left
