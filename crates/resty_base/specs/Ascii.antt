-- Names of ASCII bytes.
use Rattle.std.specs.Prelude.{ℕ}

-- LF
abbrev pub line_feed : ℕ
line_feed = 10

-- CR
abbrev pub carriage_return : ℕ
carriage_return = 13

-- a blank
abbrev pub space : ℕ
space = 32

-- '"'
abbrev pub double_quote : ℕ
double_quote = 34

-- '#'
abbrev pub hash : ℕ
hash = 35

-- '$'
abbrev pub dollar : ℕ
dollar = 36

-- '%'
abbrev pub percent : ℕ
percent = 37

-- "'"
abbrev pub single_quote : ℕ
single_quote = 39

-- '('
abbrev pub open_parenthesis : ℕ
open_parenthesis = 40

-- ')'
abbrev pub close_parenthesis : ℕ
close_parenthesis = 41

-- '*'
abbrev pub star : ℕ
star = 42

-- '+'
abbrev pub plus : ℕ
plus = 43

-- ','
abbrev pub comma : ℕ
comma = 44

-- '-'
abbrev pub dash : ℕ
dash = 45

-- '.'
abbrev pub dot : ℕ
dot = 46

-- '/'
abbrev pub slash : ℕ
slash = 47

-- '0'
abbrev pub digit_zero : ℕ
digit_zero = 48

-- ':'
abbrev pub colon : ℕ
colon = 58

-- ';'
abbrev pub semicolon : ℕ
semicolon = 59

-- '<'
abbrev pub less : ℕ
less = 60

-- '='
abbrev pub equals : ℕ
equals = 61

-- '>'
abbrev pub greater : ℕ
greater = 62

-- '?'
abbrev pub question_mark : ℕ
question_mark = 63

-- 'E'
abbrev pub upper_e : ℕ
upper_e = 69

-- '['
abbrev pub open_bracket : ℕ
open_bracket = 91

-- '\\'
abbrev pub backslash : ℕ
backslash = 92

-- ']'
abbrev pub close_bracket : ℕ
close_bracket = 93

-- '^'
abbrev pub caret : ℕ
caret = 94

-- '_'
abbrev pub underscore : ℕ
underscore = 95

-- 'a'
abbrev pub letter_a : ℕ
letter_a = 97

-- 'b'
abbrev pub letter_b : ℕ
letter_b = 98

-- 'c'
abbrev pub letter_c : ℕ
letter_c = 99

-- 'd'
abbrev pub letter_d : ℕ
letter_d = 100

-- 'e'
abbrev pub letter_e : ℕ
letter_e = 101

-- 'f'
abbrev pub letter_f : ℕ
letter_f = 102

-- 'l'
abbrev pub letter_l : ℕ
letter_l = 108

-- 'n'
abbrev pub letter_n : ℕ
letter_n = 110

-- 'p'
abbrev pub letter_p : ℕ
letter_p = 112

-- 'r'
abbrev pub letter_r : ℕ
letter_r = 114

-- 's'
abbrev pub letter_s : ℕ
letter_s = 115

-- 't'
abbrev pub letter_t : ℕ
letter_t = 116

-- 'u'
abbrev pub letter_u : ℕ
letter_u = 117

-- 'v'
abbrev pub letter_v : ℕ
letter_v = 118

-- 'w'
abbrev pub letter_w : ℕ
letter_w = 119

-- 'x'
abbrev pub letter_x : ℕ
letter_x = 120

-- 'z'
abbrev pub letter_z : ℕ
letter_z = 122

-- '{'
abbrev pub open_brace : ℕ
open_brace = 123

-- '}'
abbrev pub close_brace : ℕ
close_brace = 125

-- '~'
abbrev pub tilde : ℕ
tilde = 126
