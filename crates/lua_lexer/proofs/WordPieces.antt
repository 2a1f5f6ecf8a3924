-- Blanks, names and keywords as the lexical rules have them.
use Rattle.std.proofs.Common.{◌≡◌, ℕ, ◌<◌, Bool, true, false, cond, List, [], ◌∷◌, ◌++◌, length, get_or, drop, take, Option, Some, None, Ok, refl, ap, sym, ◌∙◌, arith}
use Rattle.std.specs.Prelude.{bytes_eq, find, option_map, unwrap_or}
use Rattle.std.specs.List.{prefix_len, AllPass}
use Rattle.std.proofs.lemmas.List.{take_at, get_or-take}
use Rattle.std.proofs.lemmas.List.Folds.{length-prefix_len}
use Rattle.std.proofs.lemmas.List.Sums.{prefix_len-le-length}
use Rattle.std.proofs.lemmas.Slice.Eq.{bytes_eq-Decides}
use Rattle.lua_lexer.specs.declared.words.Word.{Word}
use Rattle.lua_lexer.specs.declared.words.Word.TheVariants.{And, Break, Do, Else, ElseIf, End, False, For, Function, If, In, Local, Nil, Not, Or, Repeat, Return, Then, True, Until, While}
use Rattle.lua_lexer.specs.declared.tokens.TokenKind.{TokenKind}
use Rattle.lua_lexer.specs.declared.tokens.TokenKind.TheVariants.{Name, Word as WordKind}
use Rattle.lua_numbers.specs.NumberText.{is_blank}
use Rattle.lua_lexer.specs.Characters.{is_word_byte, is_word_start}
use Rattle.lua_lexer.specs.Lexical.{IsPiece}
use Rattle.lua_lexer.specs.Tokens.{piece, skipped_piece}
use Rattle.lua_lexer.specs.Words.{spelling, words, word_of, kind_of_word, name_or_word}
use Rattle.lua_lexer.specs.Writing.{IsName}
use Rattle.lua_lexer.proofs.Runs.{all_run, run_all, run_goes, run_over, run_some, first_left}
use Rattle.lua_lexer.proofs.Written.{piece_word}
use Rattle.lua_lexer.proofs.PieceReadings.{IsRead, Covers}

pub blanks_read : (text : List ℕ) → 0 < length text → is_blank (get_or text 0 0) ≡ true → IsRead text (skipped_piece (prefix_len is_blank text))
blanks_read text some is =
    let more = run_some is_blank text some is in
    record {
      some = more;
      within = prefix_len-le-length is_blank text;
      is = IsPiece.blanks (omega (arith, more, length-prefix_len is_blank text)) (run_all is_blank text);
    }

blanks_piece : (line : ℕ) (text : List ℕ) → is_blank (get_or text 0 0) ≡ true → piece line text ≡ Ok (skipped_piece (prefix_len is_blank text))
unfolding piece
blanks_piece line text is = rw is refl

pub blanks_cover : (line : ℕ) (bytes after : List ℕ) → 0 < length bytes → AllPass is_blank bytes → Covers line bytes after None
blanks_cover line bytes after some all =
    let over = run_over is_blank bytes after all in
    record {
      found = skipped_piece (prefix_len is_blank (bytes ++ after));
      reads = blanks_piece line (bytes ++ after) (rw (first_left bytes after some) (all 0 0 some));
      least = omega (arith, over);
      same = λ whole. refl;
    }

find_case : (test : Word → Bool) (v : Word) (b : Bool) (rest : Option Word) (w : Word) → test v ≡ b → cond b (Some v) rest ≡ Some w
    → (rest ≡ Some w → test w ≡ true) → test w ≡ true
find_case test v true rest w passes same more = let this : v ≡ w = cc in rw (← this) passes
find_case test v false rest w fails same more = more same

find_passes : (test : Word → Bool) (ws : List Word) (w : Word) → find test ws ≡ Some w → test w ≡ true
find_passes test [] w found = absurd (cc)
find_passes test (v ∷ vs) w found = find_case test v (test v) (find test vs) w refl found (find_passes test vs w)

spelled : (bytes : List ℕ) (word : Word) → word_of bytes ≡ Some word → bytes ≡ spelling word
unfolding word_of
spelled bytes word found = sym ((bytes_eq-Decides (spelling word) bytes).0 (find_passes (λ w. bytes_eq (spelling w) bytes) words word found))

word_kind : (bytes after : List ℕ) → is_word_start (get_or bytes 0 0) ≡ true → prefix_len is_word_byte bytes ≡ length bytes
    → IsPiece bytes after (Some (kind_of_word bytes))
unfolding kind_of_word
word_kind bytes after starts run = by (word_of bytes) refl
  where
    by : (found : Option Word) → word_of bytes ≡ found → IsPiece bytes after (Some (unwrap_or (option_map WordKind found) (Name bytes)))
    by (Some word) is = IsPiece.keyword (spelled bytes word is)
    by None is = IsPiece.name (record { start = starts; bytes = run; no_keyword = is })

pub word_read : (text : List ℕ) → 0 < length text → is_word_start (get_or text 0 0) ≡ true → IsRead text (name_or_word text)
unfolding name_or_word
word_read text some starts =
    let size = prefix_len is_word_byte text in
    let more = run_some is_word_byte text some (rw starts refl) in
    let len = length-prefix_len is_word_byte text in
    let front : get_or (take size text) 0 0 ≡ get_or text 0 0 = get_or-take size text 0 0 more in
    record {
      some = more;
      within = prefix_len-le-length is_word_byte text;
      is = word_kind (take size text) (drop size text) (rw front starts) (all_run is_word_byte (take size text) (run_all is_word_byte text));
    }

-- a word whose kind is known
word_covers : (line : ℕ) (bytes after : List ℕ) (kind : TokenKind) → 0 < length bytes → is_word_start (get_or bytes 0 0) ≡ true
    → prefix_len is_word_byte bytes ≡ length bytes → kind_of_word bytes ≡ kind → Covers line bytes after (Some kind)
unfolding name_or_word
word_covers line bytes after kind some starts run is =
    let over = run_goes is_word_byte bytes after run in
    record {
      found = name_or_word (bytes ++ after);
      reads = piece_word line (bytes ++ after) (rw (first_left bytes after some) starts);
      least = omega (arith, over);
      same = λ whole. ap Some (sym is ∙ ap kind_of_word (sym (take_at bytes after (prefix_len is_word_byte (bytes ++ after)) whole)));
    }

name_kind : (bytes : List ℕ) → word_of bytes ≡ None → kind_of_word bytes ≡ Name bytes
unfolding kind_of_word
name_kind bytes none = rw none refl

name_some : (bytes : List ℕ) → is_word_start (get_or bytes 0 0) ≡ true → 0 < length bytes
name_some [] starts = absurd (no_start starts)
  where
    no_start : is_word_start 0 ≡ true → ⊥
    no_start same = cc
name_some (c ∷ cs) starts = omega arith

pub name_covers : (line : ℕ) (bytes after : List ℕ) → IsName bytes → Covers line bytes after (Some (Name bytes))
name_covers line bytes after is =
    word_covers line bytes after (Name bytes) (name_some bytes is.start) is.start is.bytes (name_kind bytes is.no_keyword)

-- how a keyword is written
record IsSpelling (word : Word) : Type 0 where
  start : is_word_start (get_or (spelling word) 0 0) ≡ true
  bytes : prefix_len is_word_byte (spelling word) ≡ length (spelling word)
  kind : kind_of_word (spelling word) ≡ WordKind word

is_spelling : (word : Word) → IsSpelling word
unfolding spelling kind_of_word word_of words
is_spelling And = record { start = refl; bytes = refl; kind = refl }
is_spelling Break = record { start = refl; bytes = refl; kind = refl }
is_spelling Do = record { start = refl; bytes = refl; kind = refl }
is_spelling Else = record { start = refl; bytes = refl; kind = refl }
is_spelling ElseIf = record { start = refl; bytes = refl; kind = refl }
is_spelling End = record { start = refl; bytes = refl; kind = refl }
is_spelling False = record { start = refl; bytes = refl; kind = refl }
is_spelling For = record { start = refl; bytes = refl; kind = refl }
is_spelling Function = record { start = refl; bytes = refl; kind = refl }
is_spelling If = record { start = refl; bytes = refl; kind = refl }
is_spelling In = record { start = refl; bytes = refl; kind = refl }
is_spelling Local = record { start = refl; bytes = refl; kind = refl }
is_spelling Nil = record { start = refl; bytes = refl; kind = refl }
is_spelling Not = record { start = refl; bytes = refl; kind = refl }
is_spelling Or = record { start = refl; bytes = refl; kind = refl }
is_spelling Repeat = record { start = refl; bytes = refl; kind = refl }
is_spelling Return = record { start = refl; bytes = refl; kind = refl }
is_spelling Then = record { start = refl; bytes = refl; kind = refl }
is_spelling True = record { start = refl; bytes = refl; kind = refl }
is_spelling Until = record { start = refl; bytes = refl; kind = refl }
is_spelling While = record { start = refl; bytes = refl; kind = refl }

pub keyword_run : (word : Word) → prefix_len is_word_byte (spelling word) ≡ length (spelling word)
keyword_run word = (is_spelling word).bytes

pub keyword_covers : (line : ℕ) (bytes after : List ℕ) (word : Word) → bytes ≡ spelling word → Covers line bytes after (Some (WordKind word))
keyword_covers line bytes after word is =
    let written = is_spelling word in
    let starts : is_word_start (get_or bytes 0 0) ≡ true = rw is written.start in
    word_covers line bytes after (WordKind word) (name_some bytes starts) starts (rw is written.bytes) (rw is written.kind)
