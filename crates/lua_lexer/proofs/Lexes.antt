-- The lexical rules and the definition that computes what they say give the same tokens and the same first fault.
use Rattle.std.proofs.Common.{◌≡◌, ℕ, zero, suc, ◌+◌, ◌<◌, ◌≤◌, List, [], ◌∷◌, length, get_or, drop, take, Option, Some, None, Result, Ok, Err, ◌⊎◌, inl, inr, ⊎_elim, refl, ap, sym, subst, ◌∙◌, arith, length-append}
use Rattle.std.specs.Prelude.{nat_lt}
use Rattle.std.specs.Char.{is_ascii_digit}
use Rattle.std.proofs.lemmas.Bool.{cond_both, le-ltb, lt-ltb, ltb-false, ltb-true}
use Rattle.std.proofs.lemmas.List.{take_at, drop_at, take-append-drop, length-drop, length-take-le}
use Rattle.lua_lexer.specs.declared.tokens.LexFault.{LexFault}
use Rattle.lua_lexer.specs.declared.tokens.LexFault.TheVariants.{BadByte, TooLong}
use Rattle.lua_lexer.specs.declared.tokens.Piece.{Piece}
use Rattle.lua_lexer.specs.declared.tokens.Token.{Token}
use Rattle.lua_lexer.specs.declared.tokens.TokenKind.{TokenKind}
use Rattle.lua_lexer.specs.Brackets.{is_bracket, opens}
use Rattle.lua_numbers.specs.NumberText.{is_blank}
use Rattle.lua_lexer.specs.Characters.{is_word_start, line_ends}
use Rattle.lua_lexer.specs.Comments.{is_comment}
use Rattle.lua_lexer.specs.Laws.{HasOneReading, IsLexed}
use Rattle.lua_lexer.specs.Lexical.{Faults, HasFault, HasTokens, IsFault, IsNext, IsPiece, Lexes}
use Rattle.lua_lexer.specs.Signs.{longest_sign, short_sign, sign_of_one, sign_of_two}
use Rattle.lua_lexer.specs.Strings.{is_quote}
use Rattle.lua_lexer.specs.Tokens.{lexed, piece, token_of, tokens_after, tokens_of}
use Rattle.lua_lexer.proofs.BracketPieces.{comment_read, long_string_read, long_comment_covers, long_string_covers, open_comment_met, open_string_met, short_comment_covers}
use Rattle.lua_lexer.proofs.Fronts.{with_front}
use Rattle.lua_lexer.proofs.Listing.{tokens_fault, tokens_none, tokens_step}
use Rattle.lua_lexer.proofs.NumeralPieces.{decimal_covers, fraction_met, hexadecimal_covers, letter_met, no_hexadecimal_met, numeral_read, range_met}
use Rattle.lua_lexer.proofs.PieceReadings.{Covers, IsRead, Sound}
use Rattle.lua_lexer.proofs.SignPieces.{no_piece_met, point_met, sign_covers, sign_read}
use Rattle.lua_lexer.proofs.StringPieces.{bad_escape_met, open_quote_met, short_string_covers, short_string_read}
use Rattle.lua_lexer.proofs.WordPieces.{blanks_cover, blanks_read, keyword_covers, name_covers, word_read}

-- what is read at the front of a text is a piece or a fault by the rules
sound : (line : ℕ) (text : List ℕ) → 0 < length text → Sound line text (piece line text)
unfolding piece
sound line text some =
    cond_both (is_blank (get_or text 0 0)) _ _ (Sound line text) (λ is. blanks_read text some is)
    (λ blank.
    cond_both (is_word_start (get_or text 0 0)) _ _ (Sound line text) (λ is. word_read text some is)
    (λ start.
    cond_both (is_ascii_digit (get_or text 0 0)) _ _ (Sound line text) (λ is. numeral_read line text some is)
    (λ digit.
    cond_both (is_quote (get_or text 0 0)) _ _ (Sound line text) (λ is. short_string_read line text some is)
    (λ quote.
    cond_both (is_comment text) _ _ (Sound line text) (λ is. comment_read line text is)
    (λ dashes.
    cond_both (opens text) _ _ (Sound line text) (λ is. long_string_read line text is)
    (λ brackets. sign_read line text some (record { blank = blank; start = start; digit = digit; quote = quote; dashes = dashes; brackets = brackets })))))))

-- a piece by the rules is covered by the one that is read
covered : (line : ℕ) (bytes after : List ℕ) (kind : Option TokenKind) → IsPiece bytes after kind → Covers line bytes after kind
covered line bytes after kind (IsPiece.blanks some all) = blanks_cover line bytes after some all
covered line bytes after kind (IsPiece.short_comment {text} is all never) = short_comment_covers line bytes after text is all never
covered line bytes after kind (IsPiece.long_comment {brackets} {inside} is within) = long_comment_covers line bytes after brackets inside is within
covered line bytes after kind (IsPiece.name is) = name_covers line bytes after is
covered line bytes after kind (IsPiece.keyword {word} is) = keyword_covers line bytes after word is
covered line bytes after kind (IsPiece.decimal {number} is value) = decimal_covers line bytes after number is value
covered line bytes after kind (IsPiece.hexadecimal {number} is value) = hexadecimal_covers line bytes after number is value
covered line bytes after kind (IsPiece.short_string {quote} {body} {bytes = value} is parts inside) = short_string_covers line quote bytes after body value is parts inside
covered line bytes after kind (IsPiece.long_string {inside} is) = long_string_covers line bytes after inside is
covered line bytes after kind (IsPiece.sign {sign} is begins) = sign_covers line bytes after sign is begins

-- a fault by the rules is met
met : (line : ℕ) (text : List ℕ) (fault : LexFault) → IsFault line text fault → piece line text ≡ Err fault
met line text fault (IsFault.open_quote {quote} {body} {after} {bytes} is parts inside stops) = ap (piece line) parts ∙ open_quote_met line quote body after bytes is inside stops
met line text fault (IsFault.bad_escape {quote} {body} {after} {bytes} is parts inside wrong) = ap (piece line) parts ∙ bad_escape_met line quote body after bytes is inside wrong
met line text fault (IsFault.open_string level after parts never) = ap (piece line) parts ∙ open_string_met line level after never
met line text fault (IsFault.open_comment level after parts never) = ap (piece line) parts ∙ open_comment_met line level after never
met line text fault (IsFault.fraction digits after parts some all mark) = ap (piece line) parts ∙ fraction_met line digits after some all mark
met line text fault (IsFault.point {digit} {after} parts is) = ap (piece line) parts ∙ point_met line digit after is
met line text fault (IsFault.letter digits after parts some all starts no_mark other) =
    ap (piece line) parts ∙ letter_met line digits after some all starts no_mark (λ rest same. other rest (parts ∙ same))
met line text fault (IsFault.no_hexadecimal digits after parts all stops wrong) = ap (piece line) parts ∙ no_hexadecimal_met line digits after all stops wrong
met line text fault (IsFault.range {piece = bytes} {after} parts shape none) = ap (piece line) parts ∙ range_met line bytes after shape none
met line text fault (IsFault.no_piece {c} {after} parts blank word quote none) =
    ap (piece line) parts ∙ no_piece_met line c after blank word quote (λ sign rest same. none sign rest (parts ∙ same))

ok_same : (reading : Result Piece LexFault) (x y : Piece) → reading ≡ Ok x → reading ≡ Ok y → x ≡ y
ok_same reading x y p q = cc

no_both : (reading : Result Piece LexFault) (found : Piece) (fault : LexFault) → reading ≡ Ok found → reading ≡ Err fault → ⊥
no_both reading found fault p q = cc

pub sound_piece : (line : ℕ) (text : List ℕ) (found : Piece) → 0 < length text → piece line text ≡ Ok found → IsRead text found
sound_piece line text found some reads = subst (Sound line text) reads (sound line text some)

sound_fault : (line : ℕ) (text : List ℕ) (fault : LexFault) → 0 < length text → piece line text ≡ Err fault → IsFault line text fault
sound_fault line text fault some reads = subst (Sound line text) reads (sound line text some)

-- the piece that is read is the next one
next_read : (line : ℕ) (text : List ℕ) (found : Piece) → 0 < length text → piece line text ≡ Ok found
    → IsNext text (take found.size text) (drop found.size text) found.kind
next_read line text found some reads =
    let read = sound_piece line text found some reads in
    record {
      parts = sym (take-append-drop found.size text);
      is = read.is;
      longest = λ longer rest other parts is.
          let cover = covered line longer rest other is in
          let same = ok_same (piece line text) found cover.found reads (ap (piece line) parts ∙ cover.reads) in
          let size : found.size ≡ cover.found.size = ap (λ (p : Piece). p.size) same in
          let least = cover.least in
          omega (arith, least, size, length-take-le found.size text read.within);
    }

-- nothing is read of no text
empty_fault : (line : ℕ) → piece line [] ≡ Err (BadByte line)
unfolding piece is_comment is_bracket longest_sign short_sign sign_of_one sign_of_two
empty_fault line = refl

next_some : (line : ℕ) (text bytes after : List ℕ) (kind : Option TokenKind) → IsNext text bytes after kind → 0 < length text
next_some line [] bytes after kind next =
    let cover = covered line bytes after kind next.is in
    absurd (no_both (piece line []) cover.found (BadByte line) (ap (piece line) next.parts ∙ cover.reads) (empty_fault line))
next_some line (c ∷ cs) bytes after kind next = omega arith

-- the next piece is the one that is read
read_next : (line : ℕ) (text bytes after : List ℕ) (kind : Option TokenKind) → IsNext text bytes after kind
    → piece line text ≡ Ok (record { kind = kind; size = length bytes })
read_next line text bytes after kind next =
    let some = next_some line text bytes after kind next in
    let cover = covered line bytes after kind next.is in
    let found = cover.found in
    let reads : piece line text ≡ Ok found = ap (piece line) next.parts ∙ cover.reads in
    let read = sound_piece line text found some reads in
    let most = next.longest (take found.size text) (drop found.size text) found.kind (sym (take-append-drop found.size text)) read.is in
    let least = cover.least in
    let size : length bytes ≡ found.size = omega (arith, most, least, length-take-le found.size text read.within) in
    reads ∙ ap Ok (same_piece found kind (length bytes) (cover.same size) size)
  where
    same_piece : (found : Piece) (k : Option TokenKind) (n : ℕ) → k ≡ found.kind → n ≡ found.size → found ≡ record { kind = k; size = n }
    same_piece found k n p q = rw (p, q) refl

-- the tokens of a text, by its next piece
next_step : (line start : ℕ) (text bytes after : List ℕ) (kind : Option TokenKind) → IsNext text bytes after kind
    → tokens_after 0 line start text
    ≡ with_front (token_of line start kind (start + length bytes)) (tokens_after 0 (line + line_ends bytes) (start + length bytes) after)
next_step line start text bytes after kind next =
    let some = next_some line text bytes after kind next in
    let reads = read_next line text bytes after kind next in
    let read = sound_piece line text (record { kind = kind; size = length bytes }) some reads in
    let front : take (length bytes) text ≡ bytes = ap (take (length bytes)) next.parts ∙ take_at bytes after (length bytes) refl in
    let left : drop (length bytes) text ≡ after = ap (drop (length bytes)) next.parts ∙ drop_at bytes after (length bytes) refl in
    tokens_step line start text (record { kind = kind; size = length bytes }) some reads read.some
    ∙ ap (λ b. with_front (token_of line start kind (start + length bytes)) (tokens_after 0 (line + line_ends b) (start + length bytes) (drop (length bytes) text))) front
    ∙ ap (λ t. with_front (token_of line start kind (start + length bytes)) (tokens_after 0 (line + line_ends bytes) (start + length bytes) t)) left

pub lexes_read : (line start : ℕ) (text : List ℕ) (tokens : List Token) → Lexes line start text tokens → tokens_after 0 line start text ≡ Ok tokens
lexes_read line start text tokens Lexes.end = tokens_none line start [] refl
lexes_read line start text tokens (Lexes.token {piece = bytes} {after} {kind} {tokens = others} next more) =
    next_step line start text bytes after (Some kind) next
    ∙ ap (with_front (token_of line start (Some kind) (start + length bytes))) (lexes_read (line + line_ends bytes) (start + length bytes) after others more)
lexes_read line start text tokens (Lexes.skipped {piece = bytes} {after} next more) =
    next_step line start text bytes after None next ∙ ap (with_front []) (lexes_read (line + line_ends bytes) (start + length bytes) after tokens more)

-- where there is a fault, there is a byte
fault_some : (line : ℕ) (text : List ℕ) (fault : LexFault) → IsFault line text fault → 0 < length text
fault_some line text fault (IsFault.open_quote parts_of parts inside stops) = let len = ap length parts in omega arith
fault_some line text fault (IsFault.bad_escape is parts inside wrong) = let len = ap length parts in omega arith
fault_some line text fault (IsFault.open_string level after parts never) = let len = ap length parts in omega arith
fault_some line text fault (IsFault.open_comment level after parts never) = let len = ap length parts in omega arith
fault_some line text fault (IsFault.fraction digits after parts some all mark) = let len = ap length parts in omega (arith, length-append digits after)
fault_some line text fault (IsFault.point parts is) = let len = ap length parts in omega arith
fault_some line text fault (IsFault.letter digits after parts some all starts no_mark other) = let len = ap length parts in omega (arith, length-append digits after)
fault_some line text fault (IsFault.no_hexadecimal digits after parts all stops wrong) = let len = ap length parts in omega arith
fault_some line text fault (IsFault.range {piece = bytes} {after} parts shape none) =
    let len = ap length parts in
    let long : 0 < length bytes = ⊎_elim (λ is. is.some) (λ is. let size = ap length is.parts in omega arith) shape in
    omega (arith, length-append bytes after)
fault_some line text fault (IsFault.no_piece parts blank word quote none) = let len = ap length parts in omega arith

faults_read : (line : ℕ) (text : List ℕ) (fault : LexFault) → Faults line text fault → (start : ℕ) → tokens_after 0 line start text ≡ Err fault
faults_read line text fault (Faults.here is) start = tokens_fault line start text fault (fault_some line text fault is) (met line text fault is)
faults_read line text fault (Faults.later {piece = bytes} {after} {kind} next more) start =
    next_step line start text bytes after kind next
    ∙ ap (with_front (token_of line start kind (start + length bytes))) (faults_read (line + line_ends bytes) after fault more (start + length bytes))

-- what was computed of a text holds of it by the rules
abbrev ByRules : ℕ → ℕ → List ℕ → Result (List Token) LexFault → Type 0
ByRules line start text (Ok tokens) = Lexes line start text tokens
ByRules line start text (Err fault) = Faults line text fault

one_more : (line start : ℕ) (text bytes after : List ℕ) (kind : Option TokenKind) (reading : Result (List Token) LexFault) → IsNext text bytes after kind
    → ByRules (line + line_ends bytes) (start + length bytes) after reading
    → ByRules line start text (with_front (token_of line start kind (start + length bytes)) reading)
one_more line start text bytes after (Some kind) (Ok tokens) next more = Lexes.token next more
one_more line start text bytes after None (Ok tokens) next more = Lexes.skipped next more
one_more line start text bytes after kind (Err fault) next more = Faults.later next more

abbrev Shorter : List ℕ → Type 0
Shorter text = (line start : ℕ) (rest : List ℕ) → length rest < length text → ByRules line start rest (tokens_after 0 line start rest)

read_case : (line start : ℕ) (text : List ℕ) (reading : Result Piece LexFault) → 0 < length text → piece line text ≡ reading → Shorter text
    → ByRules line start text (tokens_after 0 line start text)
read_case line start text (Err fault) some is more =
    subst (ByRules line start text) (sym (tokens_fault line start text fault some is)) (Faults.here (sound_fault line text fault some is))
read_case line start text (Ok found) some is more =
    let read = sound_piece line text found some is in
    let bytes = take found.size text in
    let after = drop found.size text in
    let next = next_read line text found some is in
    let size = read.some in
    let less : length after < length text = omega (arith, some, size, length-drop found.size text) in
    subst (ByRules line start text) (sym (next_step line start text bytes after found.kind next))
    (one_more line start text bytes after found.kind (tokens_after 0 (line + line_ends bytes) (start + length bytes) after) next
    (more (line + line_ends bytes) (start + length bytes) after less))

by_rules : (fuel line start : ℕ) (text : List ℕ) → length text ≤ fuel → ByRules line start text (tokens_after 0 line start text)
by_rules fuel line start [] bound = subst (ByRules line start []) (sym (tokens_none line start [] refl)) Lexes.end
by_rules zero line start (c ∷ cs) bound = absurd (omega arith)
by_rules (suc fuel) line start (c ∷ cs) bound =
    read_case line start (c ∷ cs) (piece line (c ∷ cs)) (omega arith) refl (λ line start rest less. by_rules fuel line start rest (omega arith))

pub lexes_of : (line : ℕ) (text : List ℕ) (tokens : List Token) → tokens_of line text ≡ Ok tokens → Lexes line 0 text tokens
lexes_of line text tokens is = subst (ByRules line 0 text) is (by_rules (length text) line 0 text (omega arith))

-- the same within the limit
abbrev ByLimit : ℕ → List ℕ → Result (List Token) LexFault → Type 0
ByLimit line text (Ok tokens) = HasTokens line text tokens
ByLimit line text (Err fault) = HasFault line text fault

limited : (line : ℕ) (text : List ℕ) (reading : Result (List Token) LexFault) → length text ≤ 1_048_576 → ByRules line 0 text reading → ByLimit line text reading
limited line text (Ok tokens) within is = record { within = within; lexes = is }
limited line text (Err fault) within is = HasFault.within within is

by_limit : (line : ℕ) (text : List ℕ) → ByLimit line text (lexed line text)
unfolding lexed
by_limit line text =
    cond_both (nat_lt 1_048_576 (length text)) (Err (TooLong line)) (tokens_of line text) (ByLimit line text)
    (λ long. HasFault.too_long (ltb-true 1_048_576 (length text) long))
    (λ short. limited line text (tokens_of line text) (ltb-false 1_048_576 (length text) short) (by_rules (length text) line 0 text (omega arith)))

tokens_lexed : (line : ℕ) (text : List ℕ) (tokens : List Token) → HasTokens line text tokens → lexed line text ≡ Ok tokens
unfolding lexed
tokens_lexed line text tokens has = rw (le-ltb 1_048_576 (length text) has.within) (lexes_read line 0 text tokens has.lexes)

fault_lexed : (line : ℕ) (text : List ℕ) (fault : LexFault) → HasFault line text fault → lexed line text ≡ Err fault
unfolding lexed
fault_lexed line text fault (HasFault.too_long long) = rw (lt-ltb 1_048_576 (length text) long) refl
fault_lexed line text fault (HasFault.within within is) = rw (le-ltb 1_048_576 (length text) within) (faults_read line text fault is 0)

pub is_lexed : (line : ℕ) (text : List ℕ) → IsLexed line text
is_lexed line text = record {
  tokens = λ tokens. (tokens_lexed line text tokens, λ is. subst (ByLimit line text) is (by_limit line text));
  faults = λ fault. (fault_lexed line text fault, λ is. subst (ByLimit line text) is (by_limit line text));
}

either : (line : ℕ) (text : List ℕ) (reading : Result (List Token) LexFault) → ByLimit line text reading
    → ((tokens : List Token) × HasTokens line text tokens) ⊎ ((fault : LexFault) × HasFault line text fault)
either line text (Ok tokens) is = inl (tokens, is)
either line text (Err fault) is = inr (fault, is)

apart_of : (reading : Result (List Token) LexFault) (tokens : List Token) (fault : LexFault) → reading ≡ Ok tokens → reading ≡ Err fault → ⊥
apart_of reading tokens fault right wrong = cc

same_tokens : (reading : Result (List Token) LexFault) (some other : List Token) → reading ≡ Ok some → reading ≡ Ok other → some ≡ other
same_tokens reading some other p q = cc

same_fault : (reading : Result (List Token) LexFault) (some other : LexFault) → reading ≡ Err some → reading ≡ Err other → some ≡ other
same_fault reading some other p q = cc

pub has_one_reading : (line : ℕ) (text : List ℕ) → HasOneReading line text
has_one_reading line text = record {
  reads = either line text (lexed line text) (by_limit line text);
  apart = λ tokens fault has wrong. apart_of (lexed line text) tokens fault (tokens_lexed line text tokens has) (fault_lexed line text fault wrong);
  tokens = λ some other p q. same_tokens (lexed line text) some other (tokens_lexed line text some p) (tokens_lexed line text other q);
  faults = λ some other p q. same_fault (lexed line text) some other (fault_lexed line text some p) (fault_lexed line text other q);
}

-- what was read of a text within the limit, and that it is by the rules
pub tokens_by_rules : (line : ℕ) (text : List ℕ) (tokens : List Token) → length text ≤ 1_048_576 → tokens_of line text ≡ Ok tokens
    → HasTokens line text tokens
tokens_by_rules line text tokens within is = limited line text (Ok tokens) within (subst (ByRules line 0 text) is (by_rules (length text) line 0 text (omega arith)))

pub fault_by_rules : (line : ℕ) (text : List ℕ) (fault : LexFault) → length text ≤ 1_048_576 → tokens_of line text ≡ Err fault
    → HasFault line text fault
fault_by_rules line text fault within is = limited line text (Err fault) within (subst (ByRules line 0 text) is (by_rules (length text) line 0 text (omega arith)))

pub too_long : (line : ℕ) (text : List ℕ) → 1_048_576 < length text → HasFault line text (TooLong line)
too_long line text long = HasFault.too_long long
