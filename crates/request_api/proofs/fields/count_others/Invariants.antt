use Rattle.std.proofs.Common.{◌≡◌, ◌≤◌, length, take}
use Rattle.http_base.specs.FieldLists.{without}
use Rattle.request_api.proofs.fields.count_others.Given as goal

abbrev pub invariant-loop-field : goal.invariant-loop-field
invariant-loop-field l = record { is : l.count ≡ length (without (take l.field-index l.fields) l.name); small : l.count ≤ l.field-index }
