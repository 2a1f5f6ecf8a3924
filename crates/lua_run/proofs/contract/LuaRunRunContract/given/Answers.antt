use Rattle.std.proofs.Common.{◌≡◌, true, false, ◌∙◌, sym, ap, subst, inl, inr}
use Rattle.run_contract.specs.declared.turns.RunSeen.{RunSeen}
use Rattle.run_contract.specs.declared.turns.RunSeen.TheVariants as seen
use Rattle.run_contract.specs.Calls.{is_own_turn}
use Rattle.run_contract.specs.Conditions.{MayCome}
use Rattle.lua_run.specs.Runs.{lua_plan}
use Rattle.lua_run.specs.Views.{site_seen}
use Rattle.lua_run.specs.RunLaws.{IsElse, runs-once, none-else}
use Rattle.lua_run.proofs.RunTurns.{works-falls, gone-falls}
use Rattle.lua_run.proofs.contract.LuaRunRunContract.given.Goals.{in-Run, in-ClientGone, in-Due}
use Rattle.lua_run.proofs.contract.LuaRunRunContract.given.Goals as goal

pub returns-clause-left : goal.returns-clause-left
returns-clause-left g c =
    let site = site_seen g.M.Machine.life c.args.site.now in
    let p = lua_plan site in
    let may : (s : RunSeen) → c.args.seen ≡ s → MayCome p c.args.now.0 s c.requires.0 c.requires.1 =
    λ s e. subst (λ s. MayCome p c.args.now.0 s c.requires.0 c.requires.1) e c.requires.4 in
    let other : (s : RunSeen) → c.args.seen ≡ s → IsElse s → ⊥ =
    λ s e h. none-else site c.args.now.0 s c.requires.0 c.requires.1 c.requires.3 (may s e) h in
    elim c.match-seen.branch [
      | in-Run w ↦ rw (w.self-is, w.result-is) (λ own.
          works-falls site c.args.now.0 w.working.result _ w.replace-work.result c.args.self.now.work c.args.self.now.has_client (cc) (cc)
          (λ over. (runs-once site c.args.now.0 w.in-Run.field-0 c.requires.0 c.requires.1 c.requires.3 (may _ w.in-Run.is)).0 (sym c.requires.2.0 ∙ over))
          w.working.ensures.does w.working.ensures.asks)
      | in-ClientGone w ↦ rw (w.self-is, w.result-is) (λ own.
          gone-falls w.silent.result c.args.self.now.work c.args.self.now.has_client (c.requires.2.1 ∙ (may _ w.in-ClientGone.is).1)
          w.silent.ensures.does w.silent.ensures.asks)
      | in-Due w ↦ λ own. elim w.in-Due.is [
        | inl x ↦ absurd (other (seen.Due x.0) x.1 tt)
        | inr y ↦ elim y [
          | inl x ↦ absurd (other (seen.Body x.0 x.1) x.2 tt)
          | inr y ↦ elim y [
            | inl x ↦ absurd (other (seen.BodyRefused x.0) x.1 tt)
            | inr y ↦ elim y [
              | inl x ↦ absurd (other seen.AllTaken x tt)
              | inr y ↦ elim y [
                | inl x ↦ absurd (other seen.NotYet x tt)
                | inr y ↦ elim y [
                  | inl x ↦ absurd (let e : false ≡ true = sym (ap is_own_turn x) ∙ own in cc)
                  | inr x ↦ absurd (other (seen.Sock x.0 x.1) x.2 tt)
                ]
              ]
            ]
          ]
        ]
      ]
    ]
