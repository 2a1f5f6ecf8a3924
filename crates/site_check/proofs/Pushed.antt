-- One program more, for the block after those that have theirs.
use Rattle.std.proofs.Common.{◌≡◌, ◌<◌, ℕ, zero, suc, ◌+◌, List, [], ◌∷◌, ◌++◌, length, get_or, length-append, slice_get, Option, Some, None, refl, sym, ap, ◌∙◌, subst, arith}
use Rattle.std.proofs.lemmas.Option.{slice_get_read}
use Rattle.lua_ast.specs.declared.programs.Program.{Program}
use Rattle.conf.specs.declared.sites.Block.{Block}
use Rattle.conf.specs.declared.sites.Conf as site
use Rattle.site_check.specs.Sites.{HasProgram, IsBlockFault, IsFirstFault, IsRead, IsSite}
use Rattle.site_check.specs.declared.faults.CheckFault.{CheckFault}

-- each of these blocks that has a program here has this one
abbrev pub Parsed : List Block → List Program → Type 0
Parsed blocks programs = (i : ℕ) (block : Block) (program : Program) → slice_get blocks i ≡ Some block → slice_get programs i ≡ Some program → HasProgram block program

-- an item of the longer list is one of the shorter, or the last
pushed : {A : Type 0} (C : ℕ → A → Type 0) (xs : List A) (x y : A) (i : ℕ) → slice_get (xs ++ x ∷ []) i ≡ Some y
    → ((slice_get xs i ≡ Some y) → C i y) → C (length xs) x → C i y
pushed {A} C [] x y zero e old new = subst (C 0) (let same : ◌≡◌ {A = Option A} (Some x) (Some y) = e in cc) new
pushed {A} C [] x y (suc i) e old new = old e
pushed C (z ∷ xs) x y zero e old new = old e
pushed C (z ∷ xs) x y (suc i) e old new = pushed (λ k w. C (suc k) w) xs x y i e old new

pub parsed_more : (blocks : List Block) (programs : List Program) (block : Block) (program : Program) → slice_get blocks (length programs) ≡ Some block
    → HasProgram block program → Parsed blocks programs → Parsed blocks (programs ++ program ∷ [])
parsed_more blocks programs block program here is before i other found at there =
    pushed (λ k p. (b : Block) → slice_get blocks k ≡ Some b → HasProgram b p) programs program found i there
    (λ e b h. before i b found h e)
    (λ b h. subst (λ (x : Block). HasProgram x program) (let same : Some block ≡ Some b = sym here ∙ h in cc) is) other at

-- each block before the next one has a program
pub has_one : (blocks : List Block) (programs : List Program) → Parsed blocks programs → (i : ℕ) (block : Block) → i < length programs → slice_get blocks i ≡ Some block
    → (program : Program) × HasProgram block program
has_one blocks programs parsed i block below here = let at = found programs i below in (at.0, parsed i block at.0 here at.1)
  where
    found : (ps : List Program) (k : ℕ) → k < length ps → (program : Program) × (slice_get ps k ≡ Some program)
    found [] k lt = absurd (omega arith)
    found (p ∷ ps) zero lt = (p, refl)
    found (p ∷ ps) (suc k) lt = found ps k (omega arith)

-- the programs of the first so many blocks
pub record Kept (blocks : List Block) (programs : List Program) (count : ℕ) : Type 0 where
  pub counted : length programs ≡ count
  pub parsed : Parsed blocks programs

module _ (blocks : List Block) (programs : List Program) (count : ℕ) (block : Block) (kept : Kept blocks programs count) (below : count < length blocks)
    (is : block ≡ get_or blocks count block) where
  here_is : slice_get blocks count ≡ Some block
  here_is = slice_get_read blocks (length blocks) count block refl below is

  pub kept_more : (longer : List Program) (program : Program) → longer ≡ programs ++ program ∷ [] → HasProgram block program → Kept blocks longer (count + 1)
  kept_more longer program more has =
      let here : slice_get blocks (length programs) ≡ Some block = ap (slice_get blocks) kept.counted ∙ here_is in
      subst (λ (ps : List Program). Kept blocks ps (count + 1)) (sym more) (record {
        counted = (let n = kept.counted in omega (arith, length-append programs (program ∷ [])));
        parsed = parsed_more blocks programs block program here has kept.parsed;
      })

  -- the next block has a fault
  pub first_fault : (fault : CheckFault) → IsBlockFault block fault → IsFirstFault blocks fault
  first_fault fault wrong = record {
    index = count;
    block = block;
    here = here_is;
    before = λ i other lt there. has_one blocks programs kept.parsed i other (let n = kept.counted in omega arith) there;
    wrong = wrong;
  }

-- a text that is read is that of a site
pub read_is_site : (text : List ℕ) (conf : site.Conf) (programs : List Program) → IsRead text conf programs → IsSite text
read_is_site text conf programs read = record {
  conf = conf;
  read = read.read;
  programs = λ i block here. has_one conf.blocks programs read.each.parsed i block (let low = within conf.blocks i block here in let n = read.each.counted in omega arith) here;
}
  where
    within : (bs : List Block) (k : ℕ) (b : Block) → slice_get bs k ≡ Some b → k < length bs
    within [] k b e = absurd (let no : ◌≡◌ {A = Option Block} None (Some b) = e in cc)
    within (c ∷ bs) zero b e = omega arith
    within (c ∷ bs) (suc k) b e = let h = within bs k b e in omega arith
