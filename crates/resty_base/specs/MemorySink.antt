-- What contracts see of a sink in memory.
use Rattle.std.specs.Prelude.{ℕ, List, Some}
use Rattle.resty_base.specs.Accounts.{Account}
use Rattle.resty_base.specs.declared.sinks.MemSink.{MemSink}

-- the bytes that it took
abbrev pub taken_of : MemSink → List ℕ
taken_of sink = sink.bytes.items

-- what it took, and its faults
abbrev pub account_of : MemSink → Account
account_of sink = record { told = Some (taken_of sink); faults = sink.faults }
