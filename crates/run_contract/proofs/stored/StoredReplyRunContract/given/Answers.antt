use Rattle.std.proofs.Common.{◌≡◌, true, false, sym, ap, ◌∙◌, subst, inl, inr}
use Rattle.run_contract.specs.declared.turns.RunSeen.{RunSeen}
use Rattle.run_contract.specs.declared.turns.RunSeen.TheVariants as seen
use Rattle.run_contract.specs.Calls.{is_own_turn}
use Rattle.run_contract.specs.Conditions.{MayCome}
use Rattle.run_contract.specs.Stored.{stored_plan}
use Rattle.run_contract.specs.StoredLaws.{IsElse, runs-once, none-else}
use Rattle.run_contract.proofs.StoredTurns.{asks-falls, gone-falls}
use Rattle.run_contract.proofs.stored.StoredReplyRunContract.given.Goals.{in-Run, in-ClientGone, in-Due}
use Rattle.run_contract.proofs.stored.StoredReplyRunContract.given.Goals as goal

pub returns-clause-left : goal.returns-clause-left
returns-clause-left c =
    let site = c.args.site.now in
    let p = stored_plan site.dictionary site.key site.otherwise in
    let may : (s : RunSeen) → c.args.seen ≡ s → MayCome p c.args._now.0 s c.requires.0 c.requires.1 =
    λ s e. subst (λ s. MayCome p c.args._now.0 s c.requires.0 c.requires.1) e c.requires.4 in
    let other : (s : RunSeen) → c.args.seen ≡ s → IsElse s → ⊥ =
    λ s e h. none-else site.dictionary site.key site.otherwise c.args._now.0 s c.requires.0 c.requires.1 c.requires.3 (may s e) h in
    elim c.match-seen.branch [
      | in-Run w ↦ rw (w.self-is, w.result-is) (λ own.
          asks-falls _ w.asking.result c.args.self.now.progress c.args.self.now.has_client
          (c.requires.2.0 ∙ runs-once site.dictionary site.key site.otherwise c.args._now.0 w.in-Run.field-0 c.requires.0 c.requires.1 c.requires.3 (may _ w.in-Run.is))
          w.asking.ensures.does w.asking.ensures.asks)
      | in-ClientGone w ↦ rw (w.self-is, w.result-is) (λ own.
          gone-falls w.silent.result c.args.self.now.progress c.args.self.now.has_client (c.requires.2.1 ∙ (may _ w.in-ClientGone.is).1)
          w.silent.ensures.does w.silent.ensures.asks)
      | in-Due w ↦ λ own. elim w.in-Due.is [
        | inl x ↦ absurd (other (seen.Due x.0) x.1 tt)
        | inr y ↦ elim y [
          | inl x ↦ absurd (other (seen.Body x.0 x.1) x.2 tt)
          | inr y ↦ elim y [
            | inl x ↦ absurd (other (seen.BodyRefused x.0) x.1 tt)
            | inr y ↦ elim y [
              | inl x ↦ absurd (other seen.AllTaken x tt)
              | inr y ↦ elim y [
                | inl x ↦ absurd (other seen.NotYet x tt)
                | inr y ↦ elim y [
                  | inl x ↦ absurd (let e : false ≡ true = sym (ap is_own_turn x) ∙ own in cc)
                  | inr x ↦ absurd (other (seen.Sock x.0 x.1) x.2 tt)
                ]
              ]
            ]
          ]
        ]
      ]
    ]
