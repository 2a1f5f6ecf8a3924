-- How readers move from state to state.
use Rattle.std.proofs.Common.{◌≡◌, ℕ, List, [], ◌∷◌, ◌++◌, refl, sym, ap, subst, ◌∙◌, append_assoc}
use Rattle.std.proofs.lemmas.List.{append-nil}
use Rattle.lua_lexer.specs.declared.tokens.TokenKind.{TokenKind}
use Rattle.lua_lexer.specs.declared.tokens.TokenKind.TheVariants.{Word as WordKind}
use Rattle.lua_lexer.specs.declared.words.Word.TheVariants.{End}
use Rattle.lua_grammar.specs.Tree.{Block}
use Rattle.lua_grammar.specs.Printing.{Lexeme, a_word}
use Rattle.lua_grammar.specs.Waiting.{Reader, failed, chunk, IsWaiting}
use Rattle.lua_grammar.specs.Reading.{feed, run}
use Rattle.lua_grammar.proofs.Uniqueness.{stays_failed}
use Rattle.lua_parser_base.specs.States.{State, Takes}
use Rattle.lua_parser_base.specs.Next.{Begin, IsKind, first_kind, ahead}
use Rattle.lua_parser_base.specs.declared.faults.ParseFault.{ParseFault}
use Rattle.lua_parser_base.specs.declared.faults.ParseFault.TheVariants.{At, Memory}
use Rattle.lua_grammar.specs.Dead.{IsDead}
use Rattle.lua_grammar.proofs.Dead.{dead_reads_no_chunk}
use Rattle.lua_parser_base.specs.Readers.{Counts, GoOn, GoOnWith, Moves, Sticks, Refuses, Supposes, WaitsWith}
use Rattle.lua_grammar.specs.Grammar.{IsChunk}

-- what goes on as the tokens after others do goes on as they all do
pub goes_on : (read left xs : List Lexeme) → GoOn left xs → GoOn (read ++ left) (read ++ xs)
goes_on [] left xs h = h
goes_on (first ∷ read) left xs h = (read ++ xs, refl)

go_on : (left : List Lexeme) → GoOn left (left ++ a_word End 1 [])
go_on [] = refl
go_on (first ∷ after) = (after ++ a_word End 1 [], refl)

pub go_on_with : (fault : ParseFault) (left xs : List Lexeme) → GoOnWith fault left xs → GoOn left xs
go_on_with (At line) left xs h = h
go_on_with other left xs h = subst (GoOn left) (sym h) (go_on left)

-- after what was read before and what is read now, where it waits after that alone
waits_on : {r q : Reader} {s m : State} (f : Moves r s q m) (read left : List Lexeme) → m.left ≡ read ++ left → IsWaiting (run q read) → IsWaiting (run r (f.read ++ read))
waits_on {r = r} f [] left printed waits = subst (λ xs. IsWaiting (run r xs)) (sym (append-nil f.read)) (f.waits waits)
waits_on {m = m} f (first ∷ read) left printed waits =
    subst IsWaiting (sym (f.runs (first ∷ read) (subst (λ l. GoOn l (first ∷ read)) (sym printed) (read, refl)))) waits

pub on : {r q p : Reader} {s m t : State} → Moves r s q m → Moves q m p t → Moves r s p t
on {r = r} {q = q} {p = p} {s = s} {m = m} {t = t} f g = record {
  read = f.read ++ g.read;
  printed = f.printed ∙ ap (λ xs. f.read ++ xs) g.printed ∙ sym (append_assoc f.read g.read t.left);
  runs = λ xs h.
      ap (run r) (append_assoc f.read g.read xs)
      ∙ f.runs (g.read ++ xs) (subst (λ l. GoOn l (g.read ++ xs)) (sym g.printed) (goes_on g.read t.left xs h))
      ∙ g.runs xs h;
  waits = λ waits. waits_on f g.read t.left g.printed (g.waits waits);
}

-- with `At`
waits_with_on : (fault : ParseFault) {r q : Reader} {s m : State} (f : Moves r s q m) (read left : List Lexeme) → m.left ≡ read ++ left → WaitsWith fault (run q read) →
    WaitsWith fault (run r (f.read ++ read))
waits_with_on (At line) f read left printed waits = waits_on f read left printed waits
waits_with_on other f read left printed waits = tt

pub stuck_on : {fault : ParseFault} {r q : Reader} {s m t : State} → Moves r s q m → Sticks fault q m t → Sticks fault r s t
stuck_on {fault = fault} {r = r} {q = q} {s = s} {m = m} {t = t} f g = record {
  read = f.read ++ g.read;
  printed = f.printed ∙ ap (λ xs. f.read ++ xs) g.printed ∙ sym (append_assoc f.read g.read t.left);
  stuck = λ xs h b is.
      g.stuck xs h b (
      sym (f.runs (g.read ++ xs) (subst (λ l. GoOn l (g.read ++ xs)) (sym g.printed) (goes_on g.read t.left xs (go_on_with fault t.left xs h))))
      ∙ sym (ap (run r) (append_assoc f.read g.read xs))
      ∙ is
      );
  waits = waits_with_on fault f g.read t.left g.printed g.waits;
}

pub refused_on : {fault : ParseFault} {r q : Reader} {s m t : State} → Moves r s q m → Refuses fault q m t → Refuses fault r s t
refused_on f g = record { sticks = stuck_on f g.sticks; reports = g.reports }

-- by a token
pub by_token : (r : Reader) (kind : TokenKind) (line : ℕ) (s t : State) → Takes kind line s t → Moves r s (feed r kind line) t
by_token r kind line s t taken = record { read = record { kind = kind; line = line } ∷ []; printed = taken.printed; runs = λ xs h. refl; waits = λ waits. waits }

-- by none: two readers do the same with the next token
same_first : (r q : Reader) (left xs : List Lexeme) → ((line : ℕ) → feed r (first_kind left) line ≡ feed q (first_kind left) line) → GoOn left xs → run r xs ≡ run q xs
same_first r q [] xs same h = rw h (ap (λ r. run r []) (same 1))
same_first r q (first ∷ left) xs same h = rw h.1 (ap (λ r. run r h.0) (same first.line))

pub stays : (r q : Reader) (s : State) → ((line : ℕ) → feed r (ahead s) line ≡ feed q (ahead s) line) → IsWaiting r → Moves r s q s
stays r q s same waits = record { read = []; printed = refl; runs = λ xs h. same_first r q s.left xs same h; waits = λ others. waits }

pub here : (r : Reader) (s : State) → Moves r s r s
here r s = record { read = []; printed = refl; runs = λ xs h. refl; waits = λ waits. waits }

-- another state at the same token
pub moved : {r q : Reader} {s t u : State} → u.left ≡ t.left → Moves r s q t → Moves r s q u
moved {r = r} {q = q} {s = s} {t = t} {u = u} same f = record {
  read = f.read;
  printed = f.printed ∙ ap (λ xs. f.read ++ xs) (sym same);
  runs = λ xs h. f.runs xs (subst (λ l. GoOn l xs) same h);
  waits = f.waits;
}

-- the next token is one at which the reader fails
no_chunk : (xs : List Lexeme) (b : Block) → run failed xs ≡ chunk b → ⊥
no_chunk xs b is = let e : failed ≡ chunk b = sym (stays_failed xs) ∙ is in cc

-- the next token leads the reader to no chunk
stuck_first : (r : Reader) (left xs : List Lexeme) (b : Block) → ((line : ℕ) (others : List Lexeme) → run (feed r (first_kind left) line) others ≡ chunk b → ⊥) → GoOn left xs → run r xs ≡ chunk b → ⊥
stuck_first r [] xs b none h is = none 1 [] (rw h at is)
stuck_first r (first ∷ left) xs b none h is = none first.line h.0 (rw h.1 at is)

with_any : (fault : ParseFault) (r : Reader) → IsWaiting r → WaitsWith fault r
with_any (At line) r waits = waits
with_any other r waits = tt

pub fails : (fault : ParseFault) (r : Reader) (s : State) → ((line : ℕ) → feed r (ahead s) line ≡ failed) → IsWaiting r → Sticks fault r s s
fails fault r s none waits = record {
  read = [];
  printed = refl;
  stuck = λ xs h b is counts. stuck_first r s.left xs b (λ line others end. no_chunk others b (sym (ap (λ q. run q others) (none line)) ∙ end)) (go_on_with fault s.left xs h) is;
  waits = with_any fault r waits;
}

-- at the end of the text
end_stuck : (r : Reader) (left xs : List Lexeme) (b : Block) → left ≡ [] → (feed r (WordKind End) 1 ≡ chunk b → ⊥) → GoOn left xs → run r xs ≡ chunk b → ⊥
end_stuck r [] xs b none not h is = not (rw h at is)
end_stuck r (first ∷ left) xs b none not h is = absurd (let e : (first ∷ left) ≡ [] = none in cc)

pub ends_stuck : (fault : ParseFault) (r : Reader) (s : State) → s.left ≡ [] → ((l : ℕ) (b : Block) → feed r (WordKind End) l ≡ chunk b → ⊥) → IsWaiting r → Sticks fault r s s
ends_stuck fault r s none not waits = record {
  read = [];
  printed = refl;
  stuck = λ xs h b is counts. end_stuck r s.left xs b none (not 1 b) (go_on_with fault s.left xs h) is;
  waits = with_any fault r waits;
}

-- in a dead state, with the fault of a limit
pub dead_stuck : (fault : ParseFault) (r : Reader) (s : State) → ((b : Block) → Counts fault b → IsChunk b) → IsDead r → WaitsWith fault r → Sticks fault r s s
dead_stuck fault r s of dead waits = record { read = []; printed = refl; stuck = λ xs h b is counts. dead_reads_no_chunk r xs b dead is (of b counts); waits = waits }

-- a fault of a limit is only known of what it supposes
pub supposes_on : (fault : ParseFault) {P Q : Type 0} → (P → Q) → Supposes fault P → Supposes fault Q
supposes_on (At line) f h = tt
supposes_on Memory f h = absurd h
supposes_on other f h = f h

-- what isn't next isn't what the reader sees next, but for `end`
pub not_first : (kind : TokenKind) (left : List Lexeme) → (WordKind End ≡ kind → ⊥) → (Begin (IsKind kind) left → ⊥) → first_kind left ≡ kind → ⊥
not_first kind [] other missing = other
not_first kind (first ∷ left) other missing = missing

-- what waits after a token waited before it
pub waits_before : (r : Reader) (kind : TokenKind) (line : ℕ) → IsWaiting (feed r kind line) → IsWaiting r
waits_before failed kind line waits = waits
waits_before (chunk b) kind line waits = waits
waits_before other kind line waits = tt
