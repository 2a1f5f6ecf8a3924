-- What the fields of a line stand for.
use Rattle.std.specs.Prelude.{◌≡◌, ◌≢◌, ℕ, ◌≤◌, List, [], ◌++◌, length, take, Option, Some, None}
use Rattle.http_bodies.specs.declared.bodies.BodyRead.{BodyRead}
use Rattle.http_bodies.specs.declared.bodies.BodyRead.TheVariants as answer
use Rattle.http_in.specs.declared.scan.HeadScan.{HeadScan}
use Rattle.http_in.specs.Ends.{head_end}
use Rattle.http_in.specs.Scanning.{scan_of}
use Rattle.client_line.specs.declared.at.At as declared
use Rattle.client_line.specs.declared.at.At.TheVariants as own
use Rattle.client_line.specs.declared.held.HeldBytes.{HeldBytes}
use Rattle.client_line.specs.declared.requests.LineOut.{LineOut}
use Rattle.client_line.specs.declared.requests.LineOut.TheVariants as out
use Rattle.client_line.specs.Records.{At, Came}
use Rattle.client_line.specs.Records.{Head, Present, Dropping, Over}
use Rattle.client_line.specs.Lines.{came_at, Leads}

-- what is read next
abbrev pub at_of : declared.At → At
at_of (own.Head scan scanned) = Head
at_of (own.Present body kind skips) = Present body kind skips
at_of (own.Dropping state) = Dropping state
at_of (own.Over code) = Over code

-- all bytes that are held
abbrev pub all_of : HeldBytes → List ℕ
all_of held = held.front ++ held.rest.items

-- so many of the bytes were scanned, and the head doesn't end among them
pub record IsScanned (scan : HeadScan) (scanned : ℕ) (bytes : List ℕ) : Type 0 where
  pub within : scanned ≤ length bytes
  pub state : scan ≡ scan_of (take scanned bytes)
  pub unfinished : head_end (take scanned bytes) ≡ None

-- only bytes of a head are held in two parts; of a body that is dropped, and after a refused head, none are held
abbrev pub IsKept : declared.At → HeldBytes → Type 0
IsKept (own.Head scan scanned) held = IsScanned scan scanned (all_of held)
IsKept (own.Present body kind skips) held = held.front ≡ []
IsKept (own.Dropping state) held = all_of held ≡ []
IsKept (own.Over code) held = all_of held ≡ []

-- what came leads to this answer, and this is read next of these bytes
abbrev pub LeadsTo : Came → LineOut → declared.At → HeldBytes → Type 0
LeadsTo came answer at held = Leads came answer (came_at (at_of at) (all_of held)) × IsKept at held × (answer ≢ out.Memory)

-- how many of so many bytes are taken that a body was fed with, by its answer
abbrev pub taken_of : BodyRead → ℕ → Option ℕ
taken_of answer.More len = Some len
taken_of (answer.Whole count) len = Some count
taken_of (answer.Refused code) len = None
taken_of answer.Memory len = None
