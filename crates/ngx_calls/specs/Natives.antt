-- The functions of the host that `ngx` is made of, by numbers of this project.
use Rattle.std.specs.Prelude.{ℕ, ◌/◌}
use Rattle.lua_lib_base.specs.Work.{texts_length}
use Rattle.lua_values.specs.NativeCalls.{Meaning, Leaves}
use Rattle.lua_values.specs.Heap.{bytes_of_a_step}

-- how many there are
abbrev pub ngx_count : ℕ
ngx_count = 123

-- each leaves its answer to the outside, and counts a step for each 64 bytes of its texts
abbrev pub ngx_meaning : Meaning
ngx_meaning number args heap = Leaves (texts_length args / bytes_of_a_step)
