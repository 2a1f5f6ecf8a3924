-- The code's values as the definitions have them.
use Rattle.std.specs.Prelude.{option_copied}
use Rattle.reply_stages.specs.declared.scopes.Scope as code
use Rattle.reply_stages.specs.Scopes.{Scope}

-- the server and the location that are lent
abbrev pub scope_seen : code.Scope → Scope
scope_seen scope = record { server = scope.server.now; location = option_copied scope.location }
