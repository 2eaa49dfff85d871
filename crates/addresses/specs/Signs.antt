-- The signs that have a part in an address list, by their code points. Assumes nothing.
use Rattle.std.specs.Prelude.{ℕ}

abbrev pub space : ℕ
space = 32

abbrev pub quote : ℕ
quote = 34

-- ( and )
abbrev pub open_paren : ℕ
open_paren = 40

abbrev pub close_paren : ℕ
close_paren = 41

abbrev pub comma : ℕ
comma = 44

abbrev pub colon : ℕ
colon = 58

abbrev pub semicolon : ℕ
semicolon = 59

-- < and >
abbrev pub open_bracket : ℕ
open_bracket = 60

abbrev pub close_bracket : ℕ
close_bracket = 62

-- @
abbrev pub at_sign : ℕ
at_sign = 64

abbrev pub backslash : ℕ
backslash = 92
