use Rattle.std.proofs.Common.{length, take, sym, ◌∙◌}
use Rattle.http_in.proofs.Answers.{none-overflows, tree-size, same-fields}
use Rattle.http_in.proofs.heads.parts_in.Goals as goal

pub returns-in-Ok-Complete : goal.returns-in-Ok-Complete
returns-in-Ok-Complete c =
    let within = rw c.in-Ok-Complete.field-0-is at c.in-Ok-Complete.ensures.within in
    let complete = rw c.in-Ok-Complete.field-0-is at c.in-Ok-Complete.ensures.complete in
    let stands = complete.1 in
    let headers = take c.in-Ok-Complete.at.headers c.parse_request.new.headers in
    record {
      whole = stands.len ∙ sym (tree-size c.args.head.now (length c.args.head.now) complete.0 _ c.requires.whole stands.reads);
      method = within.method;
      target = within.path;
      room = within.section.count_fits;
      fields = within.section.headers_fit;
      tree = (complete.0, (stands.reads, λ i. record { method = stands.method i; target = stands.path i; minor = stands.version i; fields = same-fields c.args.head.now headers complete.0.fields stands.fields i }));
    }

pub returns-in-Ok-Partial : goal.returns-in-Ok-Partial
returns-in-Ok-Partial c = rw c.in-Ok-Partial.field-0-is at c.in-Ok-Partial.ensures.partial

pub returns-in-Err : goal.returns-in-Err
returns-in-Err c = none-overflows c.args.head.now _ c.requires.whole c.requires.room c.in-Err.ensures.no_room
