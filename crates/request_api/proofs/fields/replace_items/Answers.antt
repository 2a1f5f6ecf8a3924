use Rattle.std.proofs.Common.{◌≡◌, List, ◌++◌, cond, Result, Ok, Err, ap, ◌∙◌, rules}
use Rattle.std.specs.Prelude.{is_ok, OnOk}
use Rattle.std.proofs.lemmas.Fn.{filter_same}
use Rattle.resty_base.specs.declared.names.Pair2.{Pair2}
use Rattle.http_base.specs.FieldLists as lists
use Rattle.request_api.proofs.fields.replace_items.Goals as goal

-- what is left, and the others after it
appended : {T E : Type 0} (r : Result T E) (new left more others : List Pair2) → new ≡ cond (is_ok r) (left ++ more) left → left ≡ others → OnOk r (new ≡ others ++ more)
appended (Ok x) new left more others all is = all ∙ ap (λ l. l ++ more) is
appended (Err e) new left more others all is = search rules

pub returns-clause-done : goal.returns-clause-done
returns-clause-done c =
    let left : c.retain.new.self.items ≡ lists.without c.reserve.new.self.items c.args.name.now = filter_same _ _ _ (λ x b f' k. search rules) _ _ c.retain.ensures.filtered in
    let others = left ∙ ap (λ l. lists.without l c.args.name.now) c.reserve.ensures.items in
    appended c.append.result c.append.new.self.items c.retain.new.self.items c.args.more.items (lists.without c.args.items.now.items c.args.name.now) c.append.ensures.items others
