-- The first thread that is the same, by its index.
use Rattle.std.proofs.Common.{◌≡◌, ℕ, ◌<◌, true, false, List, [], ◌∷◌, length, suc, zero, refl, ap, ◌∙◌, arith, if◌then◌else◌, Option, Some, None, IfSome, is_some}
use Rattle.std.specs.Prelude.{slice_index_or}
use Rattle.std.specs.List.{remove}
use Rattle.wakes.specs.Queue.{Thread, same_thread, without_thread, IsNotBefore, IsNowhere}

-- one that stands nowhere isn't taken out
pub nowhere : (thread : Thread) (ts : List Thread) → IsNowhere thread ts → without_thread thread ts ≡ ts
nowhere thread [] h = refl
nowhere thread (t ∷ ts) h = ap (λ b. if b then ts else t ∷ without_thread thread ts) (h 0 t (omega arith)) ∙ ap (λ l. t ∷ l) (nowhere thread ts (λ k d l. h (suc k) d (omega arith)))

-- the one at an index that has none of its kind before it
pub at_index : (thread : Thread) (ts : List Thread) (index : ℕ) → index < length ts → ((d : Thread) → same_thread thread (slice_index_or ts index d) ≡ true) → IsNotBefore thread ts index
    → without_thread thread ts ≡ remove ts index
at_index thread [] index l h b = absurd (omega arith)
at_index thread (t ∷ ts) zero l h b = ap (λ b. if b then ts else t ∷ without_thread thread ts) (h t)
at_index thread (t ∷ ts) (suc index) l h b =
    ap (λ b. if b then ts else t ∷ without_thread thread ts) (b 0 t (omega arith)) ∙ ap (λ l. t ∷ l) (at_index thread ts index (omega arith) (λ d. h d) (λ k d m. b (suc k) d (omega arith)))

-- what holds of any value holds where there is one
pub at_some : {A : Type 0} (P : Type 0) (r : Option A) → IfSome r (λ _. P) → is_some r ≡ true → P
at_some P None o s = absurd (let f : false ≡ true = s in cc)
at_some P (Some x) o s = o
