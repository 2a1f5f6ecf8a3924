use Rattle.std.proofs.Common.{◌≡◌, take}
use Rattle.http_base.specs.FieldLists as lists
use Rattle.http_base.specs.Lent.{texts}
use Rattle.http_base.proofs.fields.Fields.values_of.Given as goal

abbrev pub invariant-loop-field : goal.invariant-loop-field
invariant-loop-field l = texts l.values.items ≡ lists.values_of (take l.field-index l.field-items) l.name
