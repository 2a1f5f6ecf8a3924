-- A reader that reads a block, statements or the arms of an `if` moves over their tokens.
use Rattle.std.proofs.Common.{◌≡◌, Bool, List, [], ◌∷◌, ◌++◌, refl, sym, ap, subst, ◌∙◌}
use Rattle.std.proofs.lemmas.List.{append-nil}
use Rattle.lua_lexer.specs.declared.tokens.TokenKind.TheVariants.{Word as WordKind}
use Rattle.lua_lexer.specs.declared.words.Word.TheVariants.{If}
use Rattle.lua_grammar.specs.Tree.{Line, Exp, Block, Stats, Stat, Arms}
use Rattle.lua_grammar.specs.Tree as tree
use Rattle.lua_grammar.specs.Printing.{Lexeme, a_kind, a_word, print_exp, print_block, print_stats, print_arms}
use Rattle.lua_grammar.specs.Validity.{IsValid, IsValidBlock, AreValidStats, AreValidArms}
use Rattle.lua_grammar.specs.Resolution.{arms_line}
use Rattle.lua_grammar.specs.Waiting.{Reader, IsWaiting, token, more_stats, more_arms}
use Rattle.lua_grammar.specs.Reading.{arm, block, run, statement}
use Rattle.lua_grammar.specs.Stopping.{BlockStops, StatsStop, ArmsStop}
use Rattle.lua_grammar.proofs.Before.{block_before, stats_before, arms_before}
use Rattle.lua_grammar.proofs.Stopping.{at_least_one, stops}
use Rattle.lua_grammar.proofs.ReadingTrees.{exp_read, block_read, stats_read}
use Rattle.lua_grammar.proofs.Starts.{arms_stop}
use Rattle.lua_grammar.proofs.StillWaiting.{waits_as, block_waits, stats_wait}
use Rattle.lua_parser_base.specs.States.{State}
use Rattle.lua_parser_base.specs.Next.{ahead}
use Rattle.lua_parser_base.specs.Readers.{Moves}
use Rattle.lua_parser_base.proofs.Printed.{over}
use Rattle.lua_parser_base.proofs.BlockEnds.{arms_on, block_on, stats_on}

pub block_ended : (b : Block) (vararg loop : Bool) (k : Block → Reader) (s t : State) → s.left ≡ print_block b t.left → IsValidBlock vararg loop b →
    BlockStops b (a_kind (ahead t) 1 []) → Moves (block k) s (k b) t
block_ended b vararg loop k s t printed v stops =
    over (print_block b) _ _ s t (block_before b) printed (λ xs h. block_read b vararg loop k xs v (block_on b t.left xs h stops)) (block_waits b vararg loop k v)

pub stats_moves : (ss : Stats) (vararg loop : Bool) (k : Block → Reader) (s t : State) → s.left ≡ print_stats ss t.left → AreValidStats vararg loop ss →
    StatsStop ss (a_kind (ahead t) 1 []) → Moves (block k) s (more_stats ss k) t
stats_moves ss vararg loop k s t printed v stops =
    over (print_stats ss) _ _ s t (stats_before ss) printed (λ xs h. stats_read ss vararg loop k xs v (stats_on ss t.left xs h stops)) (λ w. stats_wait ss vararg loop k v)

-- ---- arms

arms_read : (arms : Arms) (vararg loop : Bool) (k : Stat → Reader) (after : List Lexeme) → AreValidArms vararg loop arms → ArmsStop arms after →
    run (token (statement k)) (print_arms arms after) ≡ run (more_arms arms k) after
unfolding print_exp IsValid
arms_read (tree.if_arm i t h b) vararg loop k after v x =
    exp_read t vararg 1 _ _ v.0 (at_least_one t) (stops t _ (λ m. refl) (λ h. tt)) ∙ block_read b vararg loop _ after v.1 x
arms_read (tree.elseif_arm arms i t h b) vararg loop k after v x =
    arms_read arms vararg loop k _ v.0 (arms_stop arms _ tt)
    ∙ exp_read t vararg 1 _ _ v.1 (at_least_one t) (stops t _ (λ m. refl) (λ h. tt))
    ∙ block_read b vararg loop _ after v.2 x

arms_wait : (arms : Arms) (vararg loop : Bool) (k : Stat → Reader) → AreValidArms vararg loop arms → IsWaiting (run (token (statement k)) (print_arms arms []))
unfolding print_exp IsValid
arms_wait (tree.if_arm i t h b) vararg loop k v =
    waits_as _ (run (block (λ b. more_arms (tree.if_arm i t h b) k)) (print_block b []))
    (exp_read t vararg 1 _ _ v.0 (at_least_one t) (stops t _ (λ m. refl) (λ h. tt)))
    (block_waits b vararg loop (λ b. more_arms (tree.if_arm i t h b) k) v.1 tt)
arms_wait (tree.elseif_arm arms i t h b) vararg loop k v =
    waits_as _ (run (block (λ b. more_arms (tree.elseif_arm arms i t h b) k)) (print_block b []))
    (arms_read arms vararg loop k _ v.0 (arms_stop arms _ tt) ∙ exp_read t vararg 1 _ _ v.1 (at_least_one t) (stops t _ (λ m. refl) (λ h. tt)))
    (block_waits b vararg loop (λ b. more_arms (tree.elseif_arm arms i t h b) k) v.2 tt)

-- the first token of arms is `if`
arms_first : (arms : Arms) (after : List Lexeme) → (more : List Lexeme) × (print_arms arms after ≡ a_word If (arms_line arms) more)
unfolding print_exp
arms_first (tree.if_arm i t h b) after = (_, refl)
arms_first (tree.elseif_arm arms i t h b) after = arms_first arms _

same_after : (first : Lexeme) (xs ys : List Lexeme) → (first ∷ xs) ≡ (first ∷ ys) → xs ≡ ys
same_after first xs ys is = cc

pub arms_moves : (arms : Arms) (vararg loop : Bool) (line : Line) (k : Stat → Reader) (s t : State) → a_word If line s.left ≡ print_arms arms t.left → arms_line arms ≡ line →
    AreValidArms vararg loop arms → ArmsStop arms (a_kind (ahead t) 1 []) → Moves (arm (λ e h b. more_arms (tree.if_arm line e h b) k)) s (more_arms arms k) t
arms_moves arms vararg loop line k s t printed begins v stops =
    let first = arms_first arms [] in
    let before = arms_before arms in
    let split : (xs : List Lexeme) → print_arms arms xs ≡ a_word If line (first.0 ++ xs) =
    λ xs. before.splits [] xs ∙ ap (λ ys. ys ++ xs) first.1 ∙ ap (λ l. a_word If l (first.0 ++ xs)) begins in
    record {
      read = first.0;
      printed = same_after (record { kind = WordKind If; line = line }) s.left (first.0 ++ t.left) (printed ∙ split t.left);
      runs = λ xs h. ap (run (token (statement k))) (sym (split xs)) ∙ arms_read arms vararg loop k xs v (arms_on arms t.left xs h stops);
      waits = λ w. subst (λ xs. IsWaiting (run (token (statement k)) xs)) (split [] ∙ ap (λ xs. a_word If line xs) (append-nil first.0)) (arms_wait arms vararg loop k v);
    }
