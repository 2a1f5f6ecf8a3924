use Rattle.std.proofs.Common.{[], subst}
use Rattle.lua_modules.specs.Sets.{Adds}
use Rattle.site_load.proofs.chunks.built_in_set.Goals as goal

pub returns-clause-ok : goal.returns-clause-ok
returns-clause-ok c = record {
  empty = c.new-set.result;
  library = c.add_built_in.new.set;
  begins = record { files = c.new-set.ensures.files; functions = c.new-set.ensures.functions; lists = c.new-set.ensures.lists };
  with_library = subst (λ text. Adds [] [] text c.new-set.result c.add_built_in.new.set) c.prelude.ensures c.in_ok-add_built_in.ensures.ok;
  with_ngx = subst (λ text. Adds [] [] text c.add_built_in.new.set c.add_built_in-2.new.set) c.prelude-2.ensures c.in_ok-add_built_in-2.ensures.ok;
}
