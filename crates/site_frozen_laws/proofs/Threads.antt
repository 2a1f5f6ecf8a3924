-- What each resume of a thread of a machine leaves.
use Rattle.std.proofs.Common.{◌≡◌, ◌⊎◌, inl, inr, List, [], ◌∷◌, ◌++◌, refl, sym, ap, ◌∙◌, append_assoc, subst}
use Rattle.lua_values.specs.declared.values.Value.{Value}
use Rattle.lua_values.specs.Heap.{Heap, StoreView}
use Rattle.lua_meaning.specs.Evaluator.{Resume}
use Rattle.lua_meaning.specs.Life.{Outcome, Asks, life}
use Rattle.lua_meaning.specs.Setting.{Setting}
use Rattle.lua_meaning_laws.specs.Standing.{LeavesStanding}
use Rattle.lua_meaning_laws.specs.Lives.{CanBegin, ComesAfter, OutsideKeeps, LivesKeepStanding, ResumesKeepStanding}
use Rattle.lua_machine.specs.Finishes.{Finish, IsNew, IsOutcome, Resumes}
use Rattle.lua_machine.specs.declared.slices.Slice.{Slice}
use Rattle.lua_machine.specs.declared.slices.Slice.TheVariants as slice
use Rattle.lua_machine.specs.declared.slices.Op.{Op}
use Rattle.site_frozen_laws.specs.Threads.{HasAsked, SliceStands, KeepStanding}

-- ---- lists of resumes
pub none_in : (r : Resume) (past more : List Resume) → [] ≡ past ++ r ∷ more → ⊥
none_in r [] more e = absurd (cc)
none_in r (p ∷ past) more e = absurd (cc)

-- a resume of those up to the last: it is the last, or one of those before
pub record IsLast (past before : List Resume) (last r : Resume) : Type 0 where
  pub same : before ≡ past
  pub is : r ≡ last

pub record IsBefore (past before : List Resume) (r : Resume) : Type 0 where
  pub more : List Resume
  pub split : past ≡ before ++ r ∷ more

pub among : (past before more : List Resume) (last r : Resume) → past ++ last ∷ [] ≡ before ++ r ∷ more → IsLast past before last r ⊎ IsBefore past before r
among [] [] more last r e = inl (record { same = refl; is = cc })
among [] (b ∷ before) more last r e = let tail : [] ≡ before ++ r ∷ more = cc in absurd (none_in r before more tail)
among (p ∷ past) [] more last r e = let is : p ≡ r = cc in inr (record { more = past; split = rw is refl })
among (p ∷ past) (b ∷ before) more last r e =
    let head : p ≡ b = cc in
    let tail : past ++ last ∷ [] ≡ before ++ r ∷ more = cc in
    further (among past before more last r tail) head
  where
    further : IsLast past before last r ⊎ IsBefore past before r → p ≡ b → IsLast (p ∷ past) (b ∷ before) last r ⊎ IsBefore (p ∷ past) (b ∷ before) r
    further (inl l) is = inl (record { same = rw (l.same, is) refl; is = l.is })
    further (inr l) is = inr (record { more = l.more; split = rw is (ap (λ (rs : List Resume). b ∷ rs) l.split) })

-- ---- slices
module _ {T : Type 0} (S : Setting) (finish : T → Finish) where
  -- what a slice left, by what its thread came to
  slice_stands : (old : Heap) (store : StoreView) (o : Outcome) (s : Slice T) → LeavesStanding S old o → IsOutcome finish o [] store s
      → ((thread : T) (op : Op) → s ≡ slice.Parked thread op → o ≡ Asks op.number op.args op.position store → HasAsked S (finish thread) store.heap) → SliceStands S finish old store s
  slice_stands old store o (slice.Parked thread op) l is parked = let k = subst (LeavesStanding S old) is l in (k.0, k.1, parked thread op refl is)
  slice_stands old store o (slice.Done vs) l is parked = subst (LeavesStanding S old) is l
  slice_stands old store o (slice.Failed v) l is parked = subst (LeavesStanding S old) is l
  slice_stands old store o slice.Spent l is parked = tt
  slice_stands old store o slice.Memory l is parked = tt

  -- what comes of a thread that was parked
  parked_comes : (thread next : T) (op : Op) (r : Resume) (store : StoreView) (s : Slice T) → Resumes finish thread r store s → s ≡ slice.Parked next op → (r' : Resume) (more : List Resume)
      → finish next (r' ∷ more) ≡ finish thread (r ∷ r' ∷ more)
  parked_comes thread next op r store s resumes is r' more = sym (subst (λ (s' : Slice T). IsOutcome finish (finish thread (r ∷ r' ∷ more)) (r' ∷ more) store s') is (resumes (r' ∷ more)))

  begins : LivesKeepStanding → (thread : T) (f : Value) (args : List Value) (r : Resume) (store : StoreView) (s : Slice T)
      → CanBegin S f args r.store.heap → IsNew (life S f args) (finish thread) → Resumes finish thread r store s → SliceStands S finish r.store.heap store s
  begins lives thread f args r store s can new resumes =
      let outside : OutsideKeeps S (life S f args) r [] = λ past more r' number asked position store' e asks. absurd (none_in r' past more e) in
      let left : LeavesStanding S r.store.heap (finish thread (r ∷ [])) = subst (LeavesStanding S r.store.heap) (sym (new r [])) (lives S f args r [] can outside) in
      slice_stands r.store.heap store (finish thread (r ∷ [])) s left (resumes []) (λ next op is asks. record {
        f = f;
        args = args;
        first = r;
        past = [];
        number = op.number;
        asked = op.args;
        position = op.position;
        store = store;
        begins = can;
        outside = outside;
        asks = sym (new r []) ∙ asks;
        heap = refl;
        comes = λ r' more. parked_comes thread next op r store s resumes is r' more ∙ new r (r' ∷ more);
      })

  -- the outside has kept to what is there in the resume too
  kept : (left : Heap) (finished : Finish) (p : HasAsked S finished left) (r : Resume) → ComesAfter S left r → OutsideKeeps S (life S p.f p.args) p.first (p.past ++ r ∷ [])
  kept left finished p r after before more r' number asked position store e asks = by (among p.past before more r r' e)
    where
      by : IsLast p.past before r r' ⊎ IsBefore p.past before r' → ComesAfter S store.heap r'
      by (inl l) =
          let asked_then : life S p.f p.args (p.first ∷ p.past) ≡ Asks number asked position store = subst (λ (rs : List Resume). life S p.f p.args (p.first ∷ rs) ≡ Asks number asked position store) l.same asks in
          let same_end : Asks p.number p.asked p.position p.store ≡ Asks number asked position store = sym p.asks ∙ asked_then in
          let same_store : store ≡ p.store = cc in
          rw (l.is, same_store, p.heap) after
      by (inr l) = p.outside before l.more r' number asked position store l.split asks

  goes_on : ResumesKeepStanding → (thread : T) (left : Heap) (r : Resume) (store : StoreView) (s : Slice T)
      → HasAsked S (finish thread) left → ComesAfter S left r → Resumes finish thread r store s → SliceStands S finish r.store.heap store s
  goes_on again thread left r store s p after resumes =
      let outside : OutsideKeeps S (life S p.f p.args) p.first (p.past ++ r ∷ []) = kept left (finish thread) p r after in
      let stands : LeavesStanding S r.store.heap (finish thread (r ∷ [])) =
      subst (LeavesStanding S r.store.heap) (sym (p.comes r [])) (again S p.f p.args p.first p.past r p.number p.asked p.position p.store p.begins p.asks outside) in
      slice_stands r.store.heap store (finish thread (r ∷ [])) s stands (resumes []) (λ next op is asks. record {
        f = p.f;
        args = p.args;
        first = p.first;
        past = p.past ++ r ∷ [];
        number = op.number;
        asked = op.args;
        position = op.position;
        store = store;
        begins = p.begins;
        outside = outside;
        asks = sym (p.comes r []) ∙ asks;
        heap = refl;
        comes = λ r' more. parked_comes thread next op r store s resumes is r' more ∙ p.comes r (r' ∷ more)
            ∙ ap (λ (rs : List Resume). life S p.f p.args (p.first ∷ rs)) (sym (append_assoc p.past (r ∷ []) (r' ∷ more)));
      })

pub threads_keep : LivesKeepStanding → ResumesKeepStanding → {T : Type 0} (finish : T → Finish) → KeepStanding finish
threads_keep lives again finish = record {
  begins = λ S thread f args r store s can new resumes. begins S finish lives thread f args r store s can new resumes;
  goes_on = λ S thread left r store s p after resumes. goes_on S finish again thread left r store s p after resumes;
}
