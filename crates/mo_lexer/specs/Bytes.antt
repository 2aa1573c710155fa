-- Characters by their codes, and classes of bytes.
use Rattle.std.specs.Prelude.{ℕ, Bool, ◌==◌, ◌||◌, ◌&&◌, not, codes}
use Rattle.std.specs.List.{list_any}
use Rattle.std.specs.Char.{is_ascii_alphabetic, is_ascii_digit}
use Rattle.std.specs.Int.{is_in_range}

-- ---- characters

abbrev pub tab : ℕ
tab = 9

abbrev pub line_feed : ℕ
line_feed = 10

abbrev pub form_feed : ℕ
form_feed = 12

abbrev pub carriage_return : ℕ
carriage_return = 13

abbrev pub space : ℕ
space = 32

-- `"`
abbrev pub double_quote : ℕ
double_quote = 34

-- `'`
abbrev pub single_quote : ℕ
single_quote = 39

-- `*`
abbrev pub star : ℕ
star = 42

-- `+`
abbrev pub plus_sign : ℕ
plus_sign = 43

-- `-`
abbrev pub minus_sign : ℕ
minus_sign = 45

-- `.`
abbrev pub point : ℕ
point = 46

-- `/`
abbrev pub slash : ℕ
slash = 47

-- `E`
abbrev pub capital_e : ℕ
capital_e = 69

-- `\`
abbrev pub backslash : ℕ
backslash = 92

-- `_`
abbrev pub underscore : ℕ
underscore = 95

-- `e`
abbrev pub small_e : ℕ
small_e = 101

-- ---- classes of bytes

-- space, tab, line feed, carriage return and form feed
abbrev pub is_blank : ℕ → Bool
is_blank b = (b == space) || (b == tab) || (b == line_feed) || (b == carriage_return) || (b == form_feed)

-- a letter or `_`
abbrev pub is_letter : ℕ → Bool
is_letter b = is_ascii_alphabetic b || (b == underscore)

abbrev pub is_digit : ℕ → Bool
is_digit b = is_ascii_digit b

-- what may follow in an identifier: a letter, `_` or a digit
abbrev pub is_word_byte : ℕ → Bool
is_word_byte b = is_letter b || is_digit b

-- what may follow `\`: ' " ? \ a b f n r t v
abbrev pub is_escaped : ℕ → Bool
is_escaped b = list_any (λ c. b == c) (codes "'\"?\\abfnrtv")

-- in a quoted identifier: from space to `~`, other than `'` and `\`
abbrev pub is_quotable : ℕ → Bool
is_quotable b = is_in_range space 126 b && not (b == single_quote) && not (b == backslash)

-- in a string: any byte but `"` and `\`
abbrev pub is_string_byte : ℕ → Bool
is_string_byte b = not (b == double_quote) && not (b == backslash)

-- in a comment from `//` on: any byte but a line feed
abbrev pub is_line_byte : ℕ → Bool
is_line_byte b = not (b == line_feed)

-- e or E, before an exponent
abbrev pub is_exponent_mark : ℕ → Bool
is_exponent_mark b = (b == small_e) || (b == capital_e)

abbrev pub is_sign : ℕ → Bool
is_sign b = (b == plus_sign) || (b == minus_sign)
