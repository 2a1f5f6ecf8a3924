-- What the bytes of a connection are read as, as a function (RFC 9112, sections 2, 3, 5 and 6).
use Rattle.std.specs.Prelude.{ℕ, List}
use Rattle.http_in.specs.declared.heads.HeadRead.{HeadRead}
use Rattle.client_line.specs.HeadLaws.{read-of}

-- the one answer that `Reads` has for the bytes that came
unfoldable pub head_read : List ℕ → HeadRead
head_read bytes = (read-of bytes).0
