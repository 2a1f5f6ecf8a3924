use Rattle.resty_base.specs.MemoryFiles.{files_of}
use Rattle.std.proofs.Common.{◌≡◌, string_bytes}
use Rattle.std.proofs.lemmas.Map.Text.{btree_map_updates_text}
use Rattle.std.proofs.lemmas.Result.{IfOk-at_ok}
use Rattle.resty_base.proofs.TextKeys.{update-others}
use Rattle.resty_base.proofs.files.MemFiles.add.Goals as goal

pub returns-clause-others : goal.returns-clause-others
returns-clause-others c = λ other differs.
    let is_name = IfOk-at_ok (λ s. string_bytes s ≡ c.args.name.now) c.in_ok-key.was c.from_str.ensures.ok in
    let sets = btree_map_updates_text (string_bytes c.in_ok-key.key) c.args.self.now.texts c.insert.new.self _ c.in_ok-insert.ensures.updates other in
    update-others (files_of c.args.self.now) _ _ _ _ _ is_name differs sets
