-- Bodies that were read whole, and those that were refused for their size, as trees of the grammar.
use Rattle.std.proofs.Common.{◌≡◌, ℕ, ◌≤◌, List, [], ◌++◌, length, drop, refl, ap, ◌∙◌, inl, inr, arith, append_assoc}
use Rattle.std.specs.Prelude.{flat_map}
use Rattle.httparse.specs.Grammar.{print_chunk_line}
use Rattle.http_bodies.specs.declared.states.BodyState.TheVariants.{Digits, Whole, Refused}
use Rattle.http_bodies.specs.Records.{Body}
use Rattle.http_bodies.specs.States.{line_limit}
use Rattle.http_bodies.specs.Bodies.{body_at, after_bytes, used}
use Rattle.http_body_laws.specs.ChunkedBodies.{print_chunk, print_trailers, content_of, ChunkedBody, ReadsChunked, IsTooLarge}
use Rattle.http_body_laws.proofs.Left as left
use Rattle.http_body_laws.proofs.Sound as sound

abbrev from : ℕ → Body
from max = body_at max (Digits 0 0) []

pub whole : (max : ℕ) (bytes : List ℕ) → (after_bytes (from max) bytes).state ≡ Whole
    → (b : ChunkedBody) × ReadsChunked bytes b (drop (used (from max) bytes) bytes) × ((after_bytes (from max) bytes).content ≡ content_of b.chunks) × (length (content_of b.chunks) ≤ max)
whole max bytes e = elim t.then [
  | inl w ↦ (
    record { chunks = t.chunks; last = t.last; trailers = w.2.trailers },
    record {
      form = record { chunks = t.forms; last = t.form; ends = w.1; trailers = w.2.form };
      within = record { chunks = t.short_lines; last = t.short; trailers = omega (arith, w.2.short) };
      here = t.here ∙ ap (λ x. flat_map print_chunk t.chunks ++ (print_chunk_line t.last ++ x)) w.2.here ∙ regrouped (flat_map print_chunk t.chunks) (print_chunk_line t.last) (print_trailers w.2.trailers);
    },
    t.body_is,
    omega (arith, t.below (omega arith)),
  )
  | inr w ↦ absurd (let f : Whole ≡ Refused 413 = w.0 in cc)
]
  where
    t : left.ChunksThen Whole line_limit max 0 bytes (after_bytes (from max) bytes).content (drop (used (from max) bytes) bytes)
    t = sound.chunks Whole line_limit max max (inl refl) (omega arith) (omega arith) bytes e

    regrouped : (xs ys zs : List ℕ) → xs ++ (ys ++ (zs ++ drop (used (from max) bytes) bytes)) ≡ (xs ++ (ys ++ zs)) ++ drop (used (from max) bytes) bytes
    regrouped xs ys zs = simp append_assoc

pub large : (max : ℕ) (bytes : List ℕ) → (after_bytes (from max) bytes).state ≡ Refused 413 → IsTooLarge max bytes
large max bytes e = elim t.then [
  | inl w ↦ absurd (let f : Refused 413 ≡ Whole = w.0 in cc)
  | inr w ↦ record {
    chunks = t.chunks;
    line = t.last;
    rest = t.after;
    forms = t.forms;
    form = t.form;
    short_lines = t.short_lines;
    short = t.short;
    here = t.here;
    below = omega (arith, t.below (omega arith));
    above = omega (arith, w.1);
  }
]
  where
    t : left.ChunksThen (Refused 413) line_limit max 0 bytes (after_bytes (from max) bytes).content (drop (used (from max) bytes) bytes)
    t = sound.chunks (Refused 413) line_limit max max (inr (refl, omega arith)) (omega arith) (omega arith) bytes e
