-- Whole replies (RFC 9112, 2.1).
use Rattle.std.specs.Prelude.{ℕ, List, ◌++◌}
use Rattle.http_reply.specs.Bodies.{body_bytes}
use Rattle.http_reply.specs.Heads.{head_text}
use Rattle.http_reply.specs.declared.ends.Framing.{Framing}
use Rattle.http_reply.specs.declared.heads.ReplyHead.{ReplyHead}

-- the bytes of a reply: its head at a moment, and what is sent of its body
abbrev pub reply : ReplyHead → Framing → List (List ℕ) → ℕ → List ℕ
reply head framing pieces now = head_text head now ++ body_bytes framing pieces
