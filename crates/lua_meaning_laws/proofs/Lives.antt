-- Whole lives of threads keep standing.
use Rattle.std.proofs.Common.{◌≡◌, ℕ, ◌+◌, ◌≤◌, false, List, [], ◌∷◌, ◌++◌, length, Option, refl, sym, ap, ◌∙◌, arith, length-append}
use Rattle.std.proofs.lemmas.List.Elements.{All-nil}
use Rattle.lua_values.specs.declared.values.Value.{Value}
use Rattle.lua_values.specs.Heap.{Heap, StoreView}
use Rattle.lua_values.specs.Laws.{StillFits, WritesKeepFitting, ReadsFit}
use Rattle.lua_meaning.specs.declared.positions.Position.{Position}
use Rattle.lua_meaning.specs.Works.{ACall, Values, Return, Break, Failed}
use Rattle.lua_meaning.specs.Evaluator.{Resume, Ending, Ended, Parked, Spent, budget, eval_within, eval_by}
use Rattle.lua_meaning.specs.Laws.{DepthNeverShows}
use Rattle.lua_meaning.specs.Setting.{Setting}
use Rattle.lua_meaning.specs.Calls.{calling}
use Rattle.lua_meaning.specs.Nodes.{work_of, eval}
use Rattle.lua_meaning.specs.Life.{Asks, life, outcome_of}
use Rattle.lua_meaning_laws.specs.Standing.{Known, LeavesStanding, CallsKeepStanding}
use Rattle.lua_meaning_laws.specs.Lives.{OutsideKeeps, LivesKeepStanding, ResumesKeepStanding}
use Rattle.lua_meaning_laws.proofs.Known.{Given, SlotKnown}
use Rattle.lua_meaning_laws.proofs.Going.{calling_known}
use Rattle.lua_meaning_laws.proofs.Taking.{at, Run}
use Rattle.lua_meaning_laws.proofs.Ends.{EndingKnown, Kept, within_known}
use Rattle.lua_meaning_laws.proofs.Resumed.{within_resumed}

-- fewer resumes leave fewer steps that may be counted
budget_less : (store : StoreView) (resumes past more : List Resume) (r : Resume) → resumes ≡ past ++ r ∷ more → budget (at store past) ≤ budget (at store resumes)
budget_less store resumes past more r e =
    let n : length resumes ≡ length past + length (r ∷ more) = ap length e ∙ length-append past (r ∷ more) in
    omega (arith, n)

module _ (S : Setting) (f : Value) (args : List Value) (first : Resume) where
  -- the call with nodes at most so deep within one another
  abbrev pub call_within : ℕ → Run
  call_within k resumes = eval_within (work_of S) k (ACall f args) (calling [] false) [] (at first.store resumes)

  pub asks_as : DepthNeverShows → (k : ℕ) (past : List Resume) (number : ℕ) (asked : List Value) (position : Option Position) (store : StoreView) → budget (at first.store past) ≤ k
      → call_within k past ≡ Parked number asked position store → life S f args (first ∷ past) ≡ Asks number asked position store
  asks_as depth k past number asked position store less e =
      ap (λ (o : Ending). outcome_of o) (sym (depth (work_of S) k (ACall f args) (calling [] false) [] (at first.store past) less) ∙ e)

  pub kept_within : DepthNeverShows → (k : ℕ) (resumes : List Resume) → k ≡ budget (at first.store resumes) → OutsideKeeps S (life S f args) first resumes → Kept S (call_within k) resumes
  kept_within depth k resumes is outside past more r number asked position store e parked =
      let less : budget (at first.store past) ≤ k = rw is (budget_less first.store resumes past more r e) in
      outside past more r number asked position store e (asks_as depth k past number asked position store less parked)

pub outcome_left : (S : Setting) (h : Heap) (o : Ending) → EndingKnown S h o → LeavesStanding S h (outcome_of o)
outcome_left S h (Ended (Values vs) s w) k = (k.0, k.1)
outcome_left S h (Ended (Return vs) s w) k = (k.0, k.1)
outcome_left S h (Ended Break s w) k = (k.0, All-nil (Known S w.store.heap))
outcome_left S h (Ended (Failed v) s w) k = (k.0, k.1)
outcome_left S h (Parked number args position store) k = k
outcome_left S h Spent k = tt

pub lives_keep : DepthNeverShows → StillFits → WritesKeepFitting → ReadsFit → LivesKeepStanding
unfolding eval_by
lives_keep depth still writes reads S f args first resumes begins outside =
    let G : Given S = record { whole = begins.whole; lawful = begins.lawful; still = still; writes = writes; reads = reads } in
    let k : ℕ = budget (at first.store resumes) in
    outcome_left S first.store.heap (call_within S f args first k resumes)
    (within_known S G k (ACall f args) (calling [] false) [] first.store resumes begins.stands (begins.function, begins.arguments) (calling_known S G first.store.heap [] false)
    (All-nil (SlotKnown S first.store.heap)) (kept_within S f args first depth k resumes refl outside))

-- only what is parked asks
parked_as : (o : Ending) (number : ℕ) (asked : List Value) (position : Option Position) (store : StoreView) → outcome_of o ≡ Asks number asked position store → o ≡ Parked number asked position store
parked_as (Ended (Values vs) s w) number asked position store e = absurd (cc)
parked_as (Ended (Return vs) s w) number asked position store e = absurd (cc)
parked_as (Ended Break s w) number asked position store e = absurd (cc)
parked_as (Ended (Failed v) s w) number asked position store e = absurd (cc)
parked_as (Parked number' asked' position' store') number asked position store e = cc
parked_as Spent number asked position store e = absurd (cc)

pub resumes_keep : DepthNeverShows → StillFits → WritesKeepFitting → ReadsFit → ResumesKeepStanding
unfolding eval_by
resumes_keep depth still writes reads S f args first past r number asked position store begins asks outside =
    let G : Given S = record { whole = begins.whole; lawful = begins.lawful; still = still; writes = writes; reads = reads } in
    let resumes : List Resume = past ++ r ∷ [] in
    let k : ℕ = budget (at first.store resumes) in
    let parked : eval S (ACall f args) (calling [] false) [] (at first.store past) ≡ Parked number asked position store = parked_as _ number asked position store asks in
    let within : call_within S f args first k past ≡ Parked number asked position store =
    depth (work_of S) k (ACall f args) (calling [] false) [] (at first.store past) (budget_less first.store resumes past [] r refl) ∙ parked in
    outcome_left S r.store.heap (call_within S f args first k resumes)
    (within_resumed S G k (ACall f args) (calling [] false) [] first.store past r [] number asked position store begins.stands (begins.function, begins.arguments)
    (calling_known S G first.store.heap [] false) (All-nil (SlotKnown S first.store.heap)) within (kept_within S f args first depth k resumes refl outside))

-- a thread that is resumed once is asked nothing more
none_before : (r : Resume) (past more : List Resume) → [] ≡ past ++ r ∷ more → ⊥
none_before r [] more e = absurd (cc)
none_before r (p ∷ past) more e = absurd (cc)

pub calls_keep : LivesKeepStanding → CallsKeepStanding
calls_keep lives S f args r whole lawful st fk ak =
    lives S f args r [] (record { whole = whole; lawful = lawful; stands = st; function = fk; arguments = ak })
    (λ past more r' number asked position store e parked. absurd (none_before r' past more e))
