-- What contracts see of files in memory.
use Rattle.std.specs.Prelude.{ℕ, ◌+◌, ◌-◌, ◌^◌, Bool, List, min, Some}
use Rattle.std.specs.List.{list_any}
use Rattle.std.specs.Prelude.{◌==◌}
use Rattle.std.specs.BTreeMap.{get_by_text}
use Rattle.resty_base.specs.declared.files.MemFiles.{MemFiles}
use Rattle.resty_base.specs.FileMap.{FileMap, FileAccount}

-- the bytes of each name
abbrev pub files_of : MemFiles → FileMap
files_of files = λ name. get_by_text files.texts name

-- what they hold, and one count of faults for all names
abbrev pub account_of : MemFiles → FileAccount
account_of files = record { told = Some (files_of files); faults = λ _. files.faults }

-- the number of the next call, from 1; it stands at the last value of a u64
abbrev pub next_call : ℕ → ℕ
next_call calls = min (calls + 1) (2 ^ 64 - 1)

-- the call is one of those that are to fail
abbrev pub fails_at : List ℕ → ℕ → Bool
fails_at failing call = list_any (λ at. at == call) failing
