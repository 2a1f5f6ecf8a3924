-- Where a prefix is refused, or what is read after one.
use Rattle.std.proofs.Common.{◌≡◌, ◌≤◌, ◌⊎◌, ℕ, List, [], ◌∷◌, drop, inl, inr, refl, sym, ap, subst}
use Rattle.lua_lexer.specs.declared.tokens.Token.{Token}
use Rattle.lua_lexer.specs.declared.tokens.TokenKind.{TokenKind}
use Rattle.lua_lexer.specs.declared.tokens.TokenKind.TheVariants.{Name, Word, Sign}
use Rattle.lua_lexer.specs.declared.signs.Sign.TheVariants as sign
use Rattle.lua_lexer.specs.declared.words.Word.TheVariants as word
use Rattle.lua_grammar.specs.Tree.{Line, Exp, PrefixExp}
use Rattle.lua_grammar.specs.Tree as tree
use Rattle.lua_grammar.specs.Printing.{Lexeme, lexemes}
use Rattle.lua_grammar.specs.Scopes.{look}
use Rattle.lua_grammar.specs.Limits.{Few}
use Rattle.lua_grammar.specs.Dead.{IsDead}
use Rattle.lua_grammar.specs.Waiting.{Reader, failed, token, exp, more_prefix, name, close_parenthesis, close_bracket}
use Rattle.lua_grammar.specs.Reading.{begin_prefix}
use Rattle.lua_grammar.proofs.Dead.{dead_reads_no_chunk}
use Rattle.lua_grammar.proofs.DeadParts.{dead_name, dead_close_parenthesis, dead_close_bracket}
use Rattle.lua_parser_base.specs.declared.cursor.Parser.{Parser}
use Rattle.lua_parser_base.specs.declared.faults.ParseFault.{ParseFault}
use Rattle.lua_parser_base.specs.declared.faults.ParseFault.TheVariants.{At, Depth, Upvalues, Memory}
use Rattle.lua_parser_base.specs.declared.nodes.Built.{Built}
use Rattle.lua_parser_base.specs.declared.nodes.Prefix.{Prefix}
use Rattle.lua_parser_base.specs.declared.nesting.Nesting.{Nesting}
use Rattle.lua_parser_base.specs.States.{State, state, scope_of, Takes}
use Rattle.lua_parser_base.specs.Nesting.{IsPart}
use Rattle.lua_parser_base.specs.Next.{Begin, HasNoPart, IsKind, IsName, IsNext, IsTooHigh, Misses, MissesMemberBelow, OnAt, OnUpvalues, ahead}
use Rattle.lua_parser_base.specs.Reads.{ReadsExp, ReadsPrefix}
use Rattle.lua_parser_base.specs.Readers.{Refuses, Supposes}
use Rattle.lua_parser_base.specs.Refusals.{RefusesFrom, RefusesPrefix, RefusesSuffix, Unless}
use Rattle.lua_parser_base.specs.Fits.{FitsExp, FitsPrefix}
use Rattle.lua_grammar.specs.Stopping.{EndsAt}
use Rattle.lua_parser_base.proofs.Moving.{by_token, on, refused_on, supposes_on}
use Rattle.lua_parser_base.proofs.Printed.{exp_ended, prefix_moves}
use Rattle.lua_parser_base.proofs.Refusing.{ends_failed, missed, no_close_bracket, no_close_parenthesis, no_name, no_part, too_high}
use Rattle.lua_parser_base.proofs.PrefixFitting.{item_key_fits, paren_inner_fits, first_prefix_fits, deep_item, deep_paren, high_item, high_member, variable_few}

-- ---- a name

-- it begins a prefix
abbrev BeginsPrefix : TokenKind → Type 0
BeginsPrefix kind = IsName kind ⊎ IsKind (Sign sign.OpenParenthesis) kind

prefix_fails : (k : PrefixExp → Reader) (kind : TokenKind) (l : Line) → (BeginsPrefix kind → ⊥) → begin_prefix k kind l ≡ failed
prefix_fails k (Name n) l h = absurd (h (inl tt))
prefix_fails k (Sign sign.OpenParenthesis) l h = absurd (h (inr refl))
prefix_fails k kind l h = refl

end_begins_no_prefix : BeginsPrefix (Word word.End) → ⊥
end_begins_no_prefix (inl h) = h
end_begins_no_prefix (inr h) = cc

begins_neither : (P Q : TokenKind → Type 0) (left : List Lexeme) → (Begin P left → ⊥) → (Begin Q left → ⊥) → Begin (λ kind. P kind ⊎ Q kind) left → ⊥
begins_neither P Q [] p q h = h
begins_neither P Q (first ∷ after) p q (inl h) = p h
begins_neither P Q (first ∷ after) p q (inr h) = q h

-- where one of two kinds is missing, and the other isn't next
pub misses_both : (fault : ParseFault) (P Q : TokenKind → Type 0) (s t : State) → (Begin Q s.left → ⊥) → OnAt (Misses P s t) fault → OnAt (Misses (λ kind. P kind ⊎ Q kind) s t) fault
misses_both (At line) P Q s t not m = record { same = m.same; missing = begins_neither P Q s.left m.missing not; reported = m.reported }
misses_both Memory P Q s t not m = tt
misses_both other P Q s t not m = absurd m

pub no_prefix : (at : Nesting) (s t : State) (fault : ParseFault) → (IsNext (Sign sign.OpenParenthesis) s → ⊥) → OnAt (Misses IsName s t) fault → RefusesPrefix at s t fault
no_prefix at s t fault not m = λ k h.
    missed fault _ (token (begin_prefix k)) BeginsPrefix s t (misses_both fault IsName (IsKind (Sign sign.OpenParenthesis)) s t not m) h end_begins_no_prefix (prefix_fails k) tt

-- a name that makes a function have too many captures
crowded : (fault : ParseFault) (there : ℕ) (C X : Type 0) (r : Reader) (s t : State) → t.left ≡ s.left → OnUpvalues there C fault → Supposes fault X → (C → X → IsDead r) → Refuses fault r s t
crowded (Upvalues line) there C X r s t same c h dead = record {
  sticks = record {
    read = [];
    printed = sym same;
    stuck = λ xs go b is counts. dead_reads_no_chunk r xs b (dead c.0 h) is counts;
    waits = tt;
  };
  reports = tt;
}
crowded Memory there C X r s t same c h dead = absurd h
crowded other there C X r s t same c h dead = absurd c

name_crowded : (at : Nesting) (s m t : State) (line : ℕ) (n : List ℕ) (fault : ParseFault) → Takes (Name n) line s m → t.left ≡ m.left →
    OnUpvalues line (Few (look n m.scope.enclosing).1 → ⊥) fault → RefusesPrefix at s t fault
name_crowded at s m t line n fault taken same c = λ k h.
    refused_on (by_token (token (begin_prefix k)) (Name n) line s m taken)
    (crowded fault line _ _ (more_prefix (tree.variable line n) k) m t same c h (λ many suppose whole from.
    suppose whole (λ f. many (subst (λ z. Few (look n z.enclosing).1) (sym taken.scope) (variable_few at s.scope.enclosing line n (first_prefix_fits at s.scope.enclosing _ whole from f))))))

pub variable_crowded : (at : Nesting) (s : State) (tokens : List Token) (p q : Parser) (line : ℕ) (n : List ℕ) (fault : ParseFault) → Takes (Name n) line s (state tokens p) →
    q.index ≡ p.index → OnUpvalues line (Few (look n (scope_of p).enclosing).1 → ⊥) fault → RefusesPrefix at s (state tokens q) fault
unfolding state
variable_crowded at s tokens p q line n fault taken same c = name_crowded at s (state tokens p) (state tokens q) line n fault taken (ap (λ index. lexemes (drop index tokens)) same) c

-- ---- an expression in parentheses

pub paren_no_part : (at : Nesting) (s m : State) (line : ℕ) (fault : ParseFault) → Takes (Sign sign.OpenParenthesis) line s m → HasNoPart at m fault → RefusesPrefix at s m fault
paren_no_part at s m line fault taken none = λ k h.
    refused_on (by_token (token (begin_prefix k)) (Sign sign.OpenParenthesis) line s m taken)
    (no_part fault _ at (exp 1 (λ e. token (close_parenthesis (λ c. more_prefix (tree.paren line e c) k)))) m none h
    (ends_failed (exp 1 (λ e. token (close_parenthesis (λ c. more_prefix (tree.paren line e c) k)))) (λ l. refl)) (λ full suppose e.
    dead_close_parenthesis _ (λ c whole from. suppose whole (λ f. deep_paren at s.scope.enclosing line e c full (first_prefix_fits at s.scope.enclosing _ whole from f)))) tt)

paren_supposes : (at inner : Nesting) (s m : State) (line : ℕ) (k : PrefixExp → Reader) → m.scope ≡ s.scope → IsPart at inner → Unless (FitsPrefix at s.scope.enclosing) k →
    Unless (FitsExp inner m.scope.enclosing) (λ e. token (close_parenthesis (λ c. more_prefix (tree.paren line e c) k)))
paren_supposes at inner s m line k same part suppose = λ e not.
    dead_close_parenthesis _ (λ c whole from. suppose whole (λ f.
    not (subst (λ z. FitsExp inner z.enclosing e) (sym same) (paren_inner_fits at inner s.scope.enclosing line e c (first_prefix_fits at s.scope.enclosing _ whole from f) part))))

pub paren_refused : (at inner : Nesting) (s m t : State) (line : ℕ) (fault : ParseFault) → Takes (Sign sign.OpenParenthesis) line s m → IsPart at inner → RefusesFrom 1 inner m t fault →
    RefusesPrefix at s t fault
paren_refused at inner s m t line fault taken part refuses = λ k h.
    refused_on (by_token (token (begin_prefix k)) (Sign sign.OpenParenthesis) line s m taken)
    (refuses _ (supposes_on fault (paren_supposes at inner s m line k taken.scope part) h))

pub paren_open : (at inner : Nesting) (s m n t : State) (line : ℕ) (b : Built) (fault : ParseFault) → Takes (Sign sign.OpenParenthesis) line s m → (r : ReadsExp inner m b n) → 1 ≤ b.level →
    EndsAt 1 (ahead n) → OnAt (Misses (IsKind (Sign sign.CloseParenthesis)) n t) fault → RefusesPrefix at s t fault
paren_open at inner s m n t line b fault taken r high ends missing = λ k h.
    refused_on
    (on (by_token (token (begin_prefix k)) (Sign sign.OpenParenthesis) line s m taken)
    (exp_ended r.tree inner.vararg 1 (λ e. token (close_parenthesis (λ c. more_prefix (tree.paren line e c) k))) m n r.printed r.valid (subst (λ l. 1 ≤ l) (sym r.precedes) high) r.ends ends))
    (no_close_parenthesis fault _ (λ c. more_prefix (tree.paren line r.tree c) k) n t missing h)

-- ---- after a prefix

pub suffix_refused : (at : Nesting) (s m t : State) (p : Prefix) (fault : ParseFault) → ReadsPrefix at s p m → RefusesSuffix at p m t fault → RefusesPrefix at s t fault
suffix_refused at s m t p fault read refuses = λ k h.
    refused_on (prefix_moves read.tree at.vararg k s m read.printed read.valid) (refuses s read k h)

-- ---- `.name`

pub member_too_high : (at : Nesting) (m n : State) (p : Prefix) (line : ℕ) (fault : ParseFault) → Takes (Sign sign.Dot) line m n → IsTooHigh at p.height line fault → RefusesSuffix at p m n fault
member_too_high at m n p line fault taken high = λ s read k h.
    refused_on (by_token (more_prefix read.tree k) (Sign sign.Dot) line m n taken)
    (too_high _ fault _ at p.height (token (name (λ l x. more_prefix (tree.member read.tree line l x) k))) n high h (λ full suppose.
    dead_name _ (λ l x whole from. suppose whole (λ f.
    high_member at s.scope.enclosing read.tree line l x p.height read.high full (first_prefix_fits at s.scope.enclosing _ whole from f)))))

pub member_no_name : (at : Nesting) (m n t : State) (p : Prefix) (line : ℕ) (fault : ParseFault) → Takes (Sign sign.Dot) line m n → OnAt (Misses IsName n t) fault → RefusesSuffix at p m t fault
member_no_name at m n t p line fault taken missing = λ s read k h.
    refused_on (by_token (more_prefix read.tree k) (Sign sign.Dot) line m n taken)
    (no_name fault _ (λ l x. more_prefix (tree.member read.tree line l x) k) n t missing h)

pub member_missed : (at : Nesting) (fault : ParseFault) (m t : State) (p : Prefix) → IsNext (Sign sign.Dot) m → MissesMemberBelow at.room sign.Dot p.height m t fault → RefusesSuffix at p m t fault
member_missed at (At l) m t p next (inl miss) = absurd (miss.missing next)
member_missed at (At l) m t p next (inr (n, line, taken, miss, low)) = member_no_name at m n t p line (At l) taken miss
member_missed at (Depth l) m t p next (taken, high) = member_too_high at m t p l (Depth l) taken (high, refl)
member_missed at Memory m t p next miss = λ s read k none. absurd none
member_missed at other m t p next miss = absurd miss

-- ---- `[key]`

pub item_too_high : (at : Nesting) (m n : State) (p : Prefix) (line : ℕ) (fault : ParseFault) → Takes (Sign sign.OpenBracket) line m n → IsTooHigh at p.height line fault → RefusesSuffix at p m n fault
item_too_high at m n p line fault taken high = λ s read k h.
    refused_on (by_token (more_prefix read.tree k) (Sign sign.OpenBracket) line m n taken)
    (too_high _ fault _ at p.height (exp 1 (λ e. token (close_bracket (λ c. more_prefix (tree.item read.tree line e c) k)))) n high h (λ full suppose e.
    dead_close_bracket _ (λ c whole from. suppose whole (λ f.
    high_item at s.scope.enclosing read.tree line e c p.height read.high full (first_prefix_fits at s.scope.enclosing _ whole from f)))))

pub item_no_part : (at : Nesting) (m n : State) (p : Prefix) (line : ℕ) (fault : ParseFault) → Takes (Sign sign.OpenBracket) line m n → HasNoPart at n fault → RefusesSuffix at p m n fault
item_no_part at m n p line fault taken none = λ s read k h.
    refused_on (by_token (more_prefix read.tree k) (Sign sign.OpenBracket) line m n taken)
    (no_part fault _ at (exp 1 (λ e. token (close_bracket (λ c. more_prefix (tree.item read.tree line e c) k)))) n none h
    (ends_failed (exp 1 (λ e. token (close_bracket (λ c. more_prefix (tree.item read.tree line e c) k)))) (λ l. refl)) (λ full suppose e.
    dead_close_bracket _ (λ c whole from. suppose whole (λ f.
    deep_item at s.scope.enclosing read.tree line e c full (first_prefix_fits at s.scope.enclosing _ whole from f)))) tt)

key_supposes : (at inner : Nesting) (s m n : State) (p : Prefix) (line : ℕ) (read : ReadsPrefix at s p m) (k : PrefixExp → Reader) → n.scope ≡ m.scope → IsPart at inner →
    Unless (FitsPrefix at s.scope.enclosing) k → Unless (FitsExp inner n.scope.enclosing) (λ e. token (close_bracket (λ c. more_prefix (tree.item read.tree line e c) k)))
key_supposes at inner s m n p line read k same part suppose = λ e not.
    dead_close_bracket _ (λ c whole from. suppose whole (λ f.
    not (subst (λ z. FitsExp inner z.enclosing e) (sym same)
    (item_key_fits at inner s.scope.enclosing read.tree line e c s.scope m.scope p.expr (first_prefix_fits at s.scope.enclosing _ whole from f) refl read.resolved part))))

pub item_refused : (at inner : Nesting) (m n t : State) (p : Prefix) (line : ℕ) (fault : ParseFault) → Takes (Sign sign.OpenBracket) line m n → IsPart at inner → RefusesFrom 1 inner n t fault →
    RefusesSuffix at p m t fault
item_refused at inner m n t p line fault taken part refuses = λ s read k h.
    refused_on (by_token (more_prefix read.tree k) (Sign sign.OpenBracket) line m n taken)
    (refuses _ (supposes_on fault (key_supposes at inner s m n p line read k taken.scope part) h))

pub item_open : (at inner : Nesting) (m n o t : State) (p : Prefix) (line : ℕ) (b : Built) (fault : ParseFault) → Takes (Sign sign.OpenBracket) line m n → (r : ReadsExp inner n b o) → 1 ≤ b.level →
    EndsAt 1 (ahead o) → OnAt (Misses (IsKind (Sign sign.CloseBracket)) o t) fault → RefusesSuffix at p m t fault
item_open at inner m n o t p line b fault taken r high ends missing = λ s read k h.
    refused_on
    (on (by_token (more_prefix read.tree k) (Sign sign.OpenBracket) line m n taken)
    (exp_ended r.tree inner.vararg 1 (λ e. token (close_bracket (λ c. more_prefix (tree.item read.tree line e c) k))) n o r.printed r.valid (subst (λ l. 1 ≤ l) (sym r.precedes) high) r.ends ends))
    (no_close_bracket fault _ (λ c. more_prefix (tree.item read.tree line r.tree c) k) o t missing h)
