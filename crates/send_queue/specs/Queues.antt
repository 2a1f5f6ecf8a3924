-- What the calls of a queue do with the bytes that wait.
use Rattle.std.specs.Prelude.{ℕ, ◌+◌, ◌-◌, ◌%◌, true, false, List, [], ◌++◌, take, drop, if◌then◌else◌}
use Rattle.send_queue.specs.Records.{Sending}

-- nothing waits, and nothing was taken
abbrev pub nothing : Sending
nothing = record { bytes = []; phase = 0; gone = false }

-- these bytes wait after the others; nothing is kept for a client that is gone
abbrev pub queued : Sending → List ℕ → Sending
queued sending bytes = if sending.gone then sending else record { bytes = sending.bytes ++ bytes; phase = sending.phase; gone = false }

-- the bytes that are offered next: up to the next multiple of 16,384 of all that were queued, or all where fewer wait
abbrev pub offered : Sending → List ℕ
offered sending = take (16_384 - sending.phase) sending.bytes

-- the first `count` bytes were taken
abbrev pub taken : Sending → ℕ → Sending
taken sending count = record { bytes = drop count sending.bytes; phase = (sending.phase + count) % 16_384; gone = sending.gone }

-- what waits is dropped
abbrev pub dropped : Sending → Sending
dropped sending = record { bytes = []; phase = sending.phase; gone = true }
