use Rattle.std.specs.Prelude.{codes}
use Rattle.std.proofs.lemmas.Result.{IfOk-equal}
use Rattle.http_reply.specs.Dates.{date_text}
use Rattle.http_reply.specs.Heads as heads
use Rattle.http_reply.specs.Lines as lines
use Rattle.http_reply.proofs.Joining.{seven}
use Rattle.http_reply.proofs.heads.put_head.Goals as goal

pub returns : goal.returns
returns c =
    let head = c.args.head.now in
    let whole = seven
    c.args.out.now.items c.put_status_line.new.out.items c.put_field.new.out.items c.put_field-2.new.out.items c.put_content.new.out.items c.put_connection.new.out.items c.put_fields.new.out.items
    (heads.status_line head.status) (lines.field_line (codes "Server") head.server) (lines.field_line (codes "Date") (date_text c.args.now.0)) (heads.content_lines head) (heads.connection_line head.keep) (lines.field_lines head.others) lines.line_end
    c.in_ok-put_status_line.ensures (rw c.deref.ensures at c.in_ok-put_field.ensures) (rw c.date_text.ensures at c.in_ok-put_field-2.ensures) c.in_ok-put_content.ensures c.in_ok-put_connection.ensures (rw c.as_slice.ensures at c.in_ok-put_fields.ensures) in
    IfOk-equal c.put_line_end.result _ _ _ c.put_line_end.ensures whole
