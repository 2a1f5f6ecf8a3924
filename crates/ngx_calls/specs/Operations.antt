-- What a call of `ngx` asks for (lua-nginx-module manual, "Nginx API for Lua"). Its limits are this project's choice.
use Rattle.std.specs.Prelude.{ℕ, ◌/◌, List, [], ◌++◌, take, codes, min, nat_eq, if◌then◌else◌}
use Rattle.lua_lib_base.specs.Refusals.{expected_text}
use Rattle.lua_lib_base.specs.declared.refusals.Expected.TheVariants.{String}
use Rattle.lua_operators.specs.NamedFaults.{argument_text}
use Rattle.lua_operators.specs.TypeNames.{type_name}
use Rattle.lua_values.specs.declared.values.Value.{Value}
use Rattle.lua_values.specs.Heap.{Heap, step_limit, bytes_of_a_step}
use Rattle.ngx_calls.specs.declared.operations.Read.{Read}
use Rattle.ngx_calls.specs.declared.operations.Wanted.{Wanted}
use Rattle.ngx_calls.specs.declared.operations.Wanted.TheVariants.{Print, Refused, Unknown}
use Rattle.ngx_calls.specs.Printing.{Printing, BadRequest, BadArgument, Prints, printing}

-- No more is kept of what is printed than shows that it is too much: the bodies of replies have at most 4,194,304 bytes.
abbrev pub most_kept : ℕ
most_kept = 4_194_305

abbrev pub wanted : Wanted → ℕ → Read
wanted w steps = record { wanted = w; steps = steps }

-- a call of this name, which puts these bytes after what it prints; texts out of arrays count a step for each 64 bytes, as far as there may be steps
abbrev pub read_printing : List ℕ → List ℕ → Printing → Read
read_printing name end BadRequest = wanted (Refused (codes "bad request")) 0
read_printing name end (BadArgument number found) = wanted (Refused (argument_text number name (expected_text String) (type_name found))) 0
read_printing name end (Prints bytes taken) = wanted (Print (take most_kept (bytes ++ end))) (min step_limit (taken / bytes_of_a_step))

-- the call of a number: 0 is `ngx.print`, and 1 is `ngx.say`, which ends the line
abbrev pub read_operation : ℕ → List Value → Heap → Read
read_operation number args h =
    if nat_eq number 0 then read_printing (codes "print") [] (printing h args)
    else if nat_eq number 1 then read_printing (codes "say") (codes "\n") (printing h args)
    else wanted Unknown 0
