-- Requests as those of the rows can be sent.
use Rattle.std.proofs.Common.{◌≡◌, ℕ, zero, suc, false, List, [], ◌∷◌, ◌++◌, Some, refl, inl, lit<, arith}
use Rattle.std.specs.Prelude.{codes}
use Rattle.std.specs.Str.{IsAscii}
use Rattle.std.proofs.lemmas.Str.{IsUtf8-from_ascii}
use Rattle.std.proofs.lemmas.List.Elements.{All-cons, All-nil}
use Rattle.percent_encoding.specs.Percent.{percent_decode}
use Rattle.std.proofs.lemmas.List.Sums.{AllPass-from_list_all}
use Rattle.httparse.specs.Grammar.{RequestHead, Field, crlf, print_request, IsRequestHead, IsField, trim_ows, is_token_byte, is_uri_byte, is_value_byte}
use Rattle.client_line.specs.declared.requests.LineOut.TheVariants as out
use Rattle.client_line.specs.Requests.{answer_to}
use Rattle.http_in.specs.declared.framing.BodyKind.TheVariants as kind
use Rattle.http_in.specs.declared.heads.HeadRead.TheVariants as read
use Rattle.http_in.specs.Ends.{head_end}
use Rattle.http_in.specs.Heads.{ReadsHead, pair_of}
use Rattle.connection_plan.specs.Examples.{request, to, Asks}

abbrev line : List ℕ → List ℕ → Field
line name value = record { name = name; raw = 32 ∷ value; end = crlf }

abbrev host : Field
host = line (codes "Host") (codes "h")

abbrev tree : (path : List ℕ) → List Field → RequestHead
tree path fields = record { blank = []; method = codes "PUT"; target = path; minor = 1; line_end = crlf; fields = host ∷ fields; last = crlf }

ends : (rest : List ℕ) → head_end (print_request (tree (codes "/a") []) ++ rest) ≡ Some 28
unfolding print_request
ends rest = refl

ascii : IsAscii (codes "/a")
ascii zero = lit< tt
ascii (suc zero) = lit< tt
ascii (suc (suc i)) = lit< tt

host-valid : IsField host
unfolding is_token_byte
host-valid = record {
  name = (lit< tt, AllPass-from_list_all is_token_byte (codes "Host") refl);
  raw = AllPass-from_list_all is_value_byte (32 ∷ codes "h") refl;
}

valid : IsRequestHead (tree (codes "/a") [])
unfolding is_token_byte
valid = record {
  method = (lit< tt, AllPass-from_list_all is_token_byte (codes "PUT") refl);
  target = (lit< tt, AllPass-from_list_all is_uri_byte (codes "/a") refl);
  target_text = IsUtf8-from_ascii (codes "/a") ascii;
  minor = omega arith;
  fields = All-cons IsField host [] host-valid (All-nil IsField);
}

reads : (rest : List ℕ) → ReadsHead (print_request (tree (codes "/a") []) ++ rest) 28 (read.Whole (request kind.Nothing false (codes "/a") (pair_of host ∷ [])) 28)
unfolding print_request trim_ows
reads rest = inl (tree (codes "/a") [], (valid, refl), refl)

target : out.Request (request kind.Nothing false (codes "/a") (pair_of host ∷ [])) (to (codes "/a")) ≡ answer_to (read.Whole (request kind.Nothing false (codes "/a") (pair_of host ∷ [])) 28)
unfolding trim_ows percent_decode
target = refl

pub can-ask : (rest : List ℕ) → (bytes : List ℕ) × Asks kind.Nothing false (codes "/a") bytes rest
unfolding print_request trim_ows
can-ask rest = (
  print_request (tree (codes "/a") []) ++ rest,
  record { headers = pair_of host ∷ []; size = 28; asks = (read.Whole (request kind.Nothing false (codes "/a") (pair_of host ∷ [])) 28, reads rest, target); ends = refl; follows = refl },
)
