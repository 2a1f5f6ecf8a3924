-- How the bytes of a chunked body are read, in terms of its grammar (RFC 9112, section 7.1).
use Rattle.std.specs.Prelude.{◌≡◌, ℕ, ◌≤◌, false, List, ◌++◌, length, drop}
use Rattle.http_in.specs.declared.framing.BodyKind.TheVariants.{Chunked}
use Rattle.http_bodies.specs.declared.states.BodyState.TheVariants.{Whole, Refused}
use Rattle.http_bodies.specs.Bodies.{begun, body, body_at, used}
use Rattle.http_bodies.specs.States.{is_settled}
use Rattle.http_body_laws.specs.ChunkedBodies.{ChunkedBody, print_chunked, content_of, IsChunkedBody, ReadsChunked, IsTooLarge}

-- bytes that begin with a chunked body of at most max bytes are read as it, and no further
abbrev pub BodiesAreRead : Type 0
BodiesAreRead =
    (max : ℕ) (bytes : List ℕ) (tree : ChunkedBody) (rest : List ℕ) → ReadsChunked bytes tree rest → length (content_of tree.chunks) ≤ max
    → (body Chunked bytes max ≡ body_at max Whole (content_of tree.chunks)) × (used (begun Chunked max) bytes ≡ length (print_chunked tree))

-- what is read whole is such a body
abbrev pub WholeAreBodies : Type 0
WholeAreBodies =
    (max : ℕ) (bytes : List ℕ) → (body Chunked bytes max).state ≡ Whole
    → (tree : ChunkedBody)
    × ReadsChunked bytes tree (drop (used (begun Chunked max) bytes) bytes)
    × ((body Chunked bytes max).content ≡ content_of tree.chunks)
    × (length (content_of tree.chunks) ≤ max)

-- 413: exactly where a chunk line brings the sizes above max
abbrev pub TooLargeAreRefused : Type 0
TooLargeAreRefused = (max : ℕ) (bytes : List ℕ) → IsTooLarge max bytes → (body Chunked bytes max).state ≡ Refused 413

abbrev pub RefusedAreTooLarge : Type 0
RefusedAreTooLarge = (max : ℕ) (bytes : List ℕ) → (body Chunked bytes max).state ≡ Refused 413 → IsTooLarge max bytes

-- 400: whatever follows, no chunked body begins there, however large it may be
abbrev pub RefusedAreNone : Type 0
RefusedAreNone =
    (max : ℕ) (bytes : List ℕ) → (body Chunked bytes max).state ≡ Refused 400
    → (more : List ℕ) (tree : ChunkedBody) (rest : List ℕ) → ¬ (ReadsChunked (bytes ++ more) tree rest)

-- and where it is neither whole nor refused yet, some bytes can follow that make it one by the grammar
abbrev pub OthersGoOn : Type 0
OthersGoOn =
    (max : ℕ) (bytes : List ℕ) → is_settled (body Chunked bytes max).state ≡ false
    → (more : List ℕ) × (tree : ChunkedBody) × IsChunkedBody tree × (bytes ++ more ≡ print_chunked tree)
