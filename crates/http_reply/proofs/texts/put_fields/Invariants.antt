use Rattle.std.proofs.Common.{◌≡◌, ◌++◌, take}
use Rattle.http_reply.specs.Lines as lines
use Rattle.http_reply.proofs.texts.put_fields.Given as goal

abbrev pub invariant-loop-field : goal.invariant-loop-field
invariant-loop-field l = l.out.items ≡ l.initial.out.items ++ lines.field_lines (take l.field-index l.fields)
