use Rattle.std.specs.Prelude.{vec_items}
use Rattle.std.proofs.Common.{ℕ, subst}
use Rattle.lua_modules.specs.Sets.{chunks_of}
use Rattle.lua_site.specs.Starting.{started_in}
use Rattle.lua_site.specs.Started.{IsStart, start_of, start_with}
use Rattle.lua_site.proofs.GivesLemmas.{gives_still}
use Rattle.lua_site.proofs.sites.start_lua.Goals as goal

pub returns-in_err-blocks : goal.returns-in_err-blocks
returns-in_err-blocks g c =
    let life = g.M.Machine.life c.args.machine.now in
    let lists = chunks_of c.args.chunks.now in
    subst (λ s. IsStart (started_in s.heap life c.args.natives lists c.args.init) c.from_residual-in_err-blocks.result) c.in_ok-store.ensures
    (gives_still (started_in c.in_ok-store.store.heap life c.args.natives lists c.args.init) (λ blocks. start_with c.start_in.new.store (vec_items {Z = ℕ} blocks)) start_of c.in_err-blocks.field-0.0
    c.from_residual-in_err-blocks.result c.in_err-blocks.ensures c.from_residual-in_err-blocks.ensures)
