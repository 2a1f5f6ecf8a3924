-- The run queue, as a list of threads, and for how many more it has room.
use Rattle.std.specs.Prelude.{◌≡◌, ℕ, ◌+◌, ◌-◌, ◌<◌, ◌==◌, Bool, true, false, ◌&&◌, List, [], ◌∷◌, ◌++◌, length, slice_index_or, if◌then◌else◌}
use Rattle.resty_base.specs.declared.names.StrandId.{StrandId}
use Rattle.resty_world.specs.Ids.{same_strand}

-- a thread of a strand, by the strand's number for it
abbrev pub Thread : Type 0
Thread = StrandId × ℕ

-- the threads in the order of their runs, and for how many more there is room
pub record QueueView : Type 0 where
  pub threads : List Thread
  pub room : ℕ

abbrev pub same_thread : Thread → Thread → Bool
same_thread a b = same_strand a.0 b.0 && (a.1 == b.1)

-- a thread goes last, and takes one place
abbrev pub pushed : QueueView → Thread → QueueView
pushed queue thread = record { threads = queue.threads ++ thread ∷ []; room = queue.room - 1 }

-- the queue with fewer threads: the place of each that left is free
abbrev pub left : QueueView → List Thread → QueueView
left queue rest = record { threads = rest; room = queue.room + (length queue.threads - length rest) }

-- the threads without the first that is this one
abbrev pub without_thread : Thread → List Thread → List Thread
without_thread thread [] = []
without_thread thread (t ∷ ts) = if same_thread thread t then ts else t ∷ without_thread thread ts

-- the thread stands at none of the first n indices
abbrev pub IsNotBefore : Thread → List Thread → ℕ → Type 0
IsNotBefore thread threads n = (k : ℕ) (d : Thread) → k < n → same_thread thread (slice_index_or threads k d) ≡ false

abbrev pub IsNowhere : Thread → List Thread → Type 0
IsNowhere thread threads = IsNotBefore thread threads (length threads)

-- the thread stands at the index and not before
pub record IsFirstAt (thread : Thread) (threads : List Thread) (index : ℕ) : Type 0 where
  pub within : index < length threads
  pub here : (d : Thread) → same_thread thread (slice_index_or threads index d) ≡ true
  pub before : IsNotBefore thread threads index
