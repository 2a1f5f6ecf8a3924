-- The text in Lua that makes the global table `ngx`, in the names of the lua-nginx-module manual, "Nginx API for Lua".
use Rattle.std.specs.Prelude.{ℕ, List, codes}

-- It is called with the table of the host's functions, where each stands at the number after its own.
unfoldable pub ngx_text : List ℕ
ngx_text = codes "local N = ...\nngx = {print = N[6], say = N[7]}\n"
