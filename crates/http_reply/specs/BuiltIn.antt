-- The replies that the server makes itself: of errors, redirections, and where nothing else answers.
use Rattle.std.specs.Prelude.{ℕ, false, List, [], ◌∷◌, ◌++◌, codes, decimal, length, Some}
use Rattle.resty_base.specs.Ascii.{line_feed}
use Rattle.http_reply.specs.Reasons.{reason}
use Rattle.http_reply.specs.declared.heads.ReplyHead.{ReplyHead}

-- `CODE REASON` and LF
abbrev pub status_body : ℕ → List ℕ
status_body code = decimal code ++ codes " " ++ reason code ++ line_feed ∷ []

-- the head of the reply with this body, after which the connection closes
abbrev pub built_in : ℕ → ReplyHead
built_in code = record {
  status = code;
  server = codes "resty";
  content_type = Some (codes "text/plain");
  length = Some (length (status_body code));
  chunked = false;
  keep = false;
  others = [];
}
