-- What the bytes of the request are read as.
use Rattle.std.proofs.Common.{◌≡◌, zero, suc, false, [], refl, inl, lit<, arith}
use Rattle.std.specs.Prelude.{codes, None}
use Rattle.std.specs.Str.{IsAscii}
use Rattle.std.proofs.lemmas.Str.{IsUtf8-from_ascii}
use Rattle.std.proofs.lemmas.List.Elements.{All-nil}
use Rattle.std.proofs.lemmas.List.Sums.{AllPass-from_list_all}
use Rattle.percent_encoding.specs.Percent.{percent_decode}
use Rattle.httparse.specs.Grammar.{RequestHead, crlf, print_request, IsRequestHead, IsField, trim_ows, is_token_byte, is_uri_byte}
use Rattle.uri_args.specs.declared.targets.Target.{Target}
use Rattle.http_in.specs.declared.framing.BodyKind.TheVariants as kind
use Rattle.http_in.specs.declared.heads.Head.{Head}
use Rattle.http_in.specs.declared.heads.HeadRead.TheVariants as read
use Rattle.http_in.specs.Heads.{ReadsHead}
use Rattle.http_bodies.specs.declared.states.BodyState.TheVariants as state
use Rattle.client_line.specs.declared.requests.LineOut.TheVariants as out
use Rattle.client_line.specs.Requests.{IsOf, answer_to}
use Rattle.client_line.specs.Records as line
use Rattle.client_line.specs.Lines.{came_at, nothing}
use Rattle.client_line.specs.Feeding.{Fed, fed}
use Rattle.client_line.proofs.FeedAnswers.{fed-only}
use Rattle.site_examples.specs.Exchange.{request}

abbrev tree : RequestHead
tree = record { blank = []; method = codes "GET"; target = codes "/"; minor = 0; line_end = crlf; fields = []; last = crlf }

abbrev pub head : Head
head = record { method = codes "GET"; target = codes "/"; minor = 0; headers = []; body = kind.Nothing; keep = false; expects = false }

abbrev pub target : Target
target = record { path = codes "/"; args = []; host = None }

ascii : IsAscii (codes "/")
ascii zero = lit< tt
ascii (suc i) = lit< tt

valid : IsRequestHead tree
unfolding is_token_byte
valid = record {
  method = (lit< tt, AllPass-from_list_all is_token_byte (codes "GET") refl);
  target = (lit< tt, AllPass-from_list_all is_uri_byte (codes "/") refl);
  target_text = IsUtf8-from_ascii (codes "/") ascii;
  minor = omega arith;
  fields = All-nil IsField;
}

reads : ReadsHead request 18 (read.Whole head 18)
unfolding print_request trim_ows
reads = inl (tree, (valid, refl), refl)

named : out.Request head target ≡ answer_to (read.Whole head 18)
unfolding trim_ows percent_decode
named = refl

asks : IsOf request (out.Request head target)
asks = (read.Whole head 18, reads, named)

-- the request is there, without a body
abbrev pub known : Fed
known = record { answer = out.Request head target; after = came_at (line.Present None kind.Nothing state.Whole) [] }

pub known-is : known ≡ fed nothing request
known-is = fed-only nothing known.after request (out.Request head target) (asks, refl)
