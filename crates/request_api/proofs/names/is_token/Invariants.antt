use Rattle.std.proofs.Common.{◌≡◌, drop}
use Rattle.std.specs.List.{list_all}
use Rattle.http_header.specs.Token.{is_token_byte}
use Rattle.request_api.proofs.names.is_token.Given as goal

abbrev pub invariant-loop-byte : goal.invariant-loop-byte
invariant-loop-byte l = list_all is_token_byte (drop l.byte-index l.name) ≡ list_all is_token_byte l.name
