-- What the bytes of a connection are read as: a head, a refusal, or too few bytes yet (RFC 9112, sections 2, 3, 5 and 6).
use Rattle.std.specs.Prelude.{◌≡◌, ℕ, ◌-◌, ◌⊎◌, Bool, ◌||◌, List, length, map, drop, take, MatchBool, MatchOption, Result, Ok, Err, nat_lt, if◌then◌else◌}
use Rattle.resty_base.specs.declared.names.Pair2.{Pair2}
use Rattle.httparse.specs.Grammar.{Field, field_value, RequestHead, ReadsRequest, HasNoRequest}
use Rattle.http_in.specs.declared.framing.BodyKind.{BodyKind}
use Rattle.http_in.specs.declared.heads.Head.{Head}
use Rattle.http_in.specs.declared.heads.HeadRead.{HeadRead}
use Rattle.http_in.specs.declared.heads.HeadRead.TheVariants.{Whole, More, Refused}
use Rattle.http_in.specs.Ends.{head_end}
use Rattle.http_in.specs.Lines.{full_lines, first_line, without_return, has_other_version}
use Rattle.http_in.specs.Framing.{framing}
use Rattle.http_in.specs.Options.{has_bad_host, keeps, expects}

-- the most bytes that a head may have
abbrev pub head_limit : ℕ
head_limit = 16384

-- the most header lines that it may have
abbrev pub line_limit : ℕ
line_limit = 100

-- what a head says by the grammar
pub record Parts : Type 0 where
  pub method : List ℕ
  pub target : List ℕ
  pub minor : ℕ
  pub fields : List Pair2

-- a field line as a name and a value without the white space around it
abbrev pub pair_of : Field → Pair2
pair_of field = record { name = field.name; value = field_value field }

-- the parts of a head by the grammar
abbrev pub parts_of : RequestHead → Parts
parts_of tree = record { method = tree.method; target = tree.target; minor = tree.minor; fields = map pair_of tree.fields }

-- the head that has these parts and this framing
abbrev pub head_from : Parts → BodyKind → Head
head_from parts kind = record {
  method = parts.method;
  target = parts.target;
  minor = parts.minor;
  headers = parts.fields;
  body = kind;
  keep = keeps parts.minor parts.fields;
  expects = expects parts.minor parts.fields;
}

-- what a framing is answered with, in a head of n bytes
abbrev pub answer_framed : Parts → ℕ → Result BodyKind ℕ → HeadRead
answer_framed parts n (Ok kind) = Whole (head_from parts kind) n
answer_framed parts n (Err code) = Refused code

-- what the parts of a head of n bytes are answered with
abbrev pub answer_of : Parts → ℕ → HeadRead
answer_of parts n = if has_bad_host parts.minor parts.fields then Refused 400 else answer_framed parts n (framing parts.minor parts.fields)

-- the bytes are answered by the grammar: by the parts of the head that they begin with, else with 400
abbrev pub ReadsTree : List ℕ → ℕ → HeadRead → Type 0
ReadsTree bytes n answer =
    ((tree : RequestHead) × ReadsRequest bytes tree (drop n bytes) × (answer ≡ answer_of (parts_of tree) n))
    ⊎ (HasNoRequest bytes × (answer ≡ Refused 400))

-- the lines of the head are more than its first line and the header lines that it may have
abbrev pub has_too_many_lines : List (List ℕ) → Bool
has_too_many_lines lines = nat_lt line_limit (length lines - 1)

-- a head of n bytes: 431 where it is too long or has too many lines, 505 for another version, else by the grammar
abbrev pub ReadsHead : List ℕ → ℕ → HeadRead → Type 0
ReadsHead bytes n answer =
    let lines = full_lines (take n bytes) in
    MatchBool (nat_lt head_limit n || has_too_many_lines lines) (answer ≡ Refused 431)
    (MatchBool (has_other_version (without_return (first_line lines))) (answer ≡ Refused 505) (ReadsTree bytes n answer))

-- what bytes without the end of a head are answered with
abbrev pub unfinished : ℕ → HeadRead
unfinished count = if nat_lt count head_limit then More else Refused 431

-- the bytes that came are answered with this
abbrev pub Reads : List ℕ → HeadRead → Type 0
Reads bytes answer = MatchOption (head_end bytes) (answer ≡ unfinished (length bytes)) (λ n. ReadsHead bytes n answer)
