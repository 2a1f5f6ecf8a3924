-- Where the parts of a head stand in its bytes.
use Rattle.std.specs.Prelude.{◌≡◌, ℕ, ◌≤◌, List, length, map, take, drop, All}
use Rattle.resty_base.specs.declared.names.Pair2.{Pair2}
use Rattle.httparse.specs.declared.spans.HeaderSpan.{HeaderSpan}
use Rattle.httparse.specs.declared.spans.RequestSpans.{RequestSpans}
use Rattle.httparse.specs.Grammar.{RequestHead, ReadsRequest}
use Rattle.httparse.specs.Spans.{span_bytes, IsWithin, IsHeaderWithin}
use Rattle.http_in.specs.Heads.{Parts, parts_of}

-- the field that stands there
abbrev pub pair_at : List ℕ → HeaderSpan → Pair2
pair_at bytes at = record { name = span_bytes bytes at.name; value = span_bytes bytes at.value }

-- the parts that stand there
abbrev pub parts_at : List ℕ → RequestSpans → List HeaderSpan → Parts
parts_at bytes at spans = record {
  method = span_bytes bytes at.method;
  target = span_bytes bytes at.path;
  minor = at.version;
  fields = map (pair_at bytes) spans;
}

-- the bytes are a head, and its parts stand there
pub record StandAt (bytes : List ℕ) (at : RequestSpans) (spans : List HeaderSpan) : Type 0 where
  pub whole : at.len ≡ length bytes
  pub method : IsWithin at.len at.method
  pub target : IsWithin at.len at.path
  pub room : at.headers ≤ length spans
  pub fields : All (IsHeaderWithin at.len) (take at.headers spans)
  pub tree : (h : RequestHead) × (ReadsRequest bytes h (drop at.len bytes) × (parts_at bytes at (take at.headers spans) ≡ parts_of h))
