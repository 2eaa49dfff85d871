-- The written text of a list.
--     escape c           a quote or a backslash with a backslash before it, any other character alone
--     escaped n          the characters n, each so
--     quoted n           the same between quotes
--     bracketed a        the address a between brackets
--     separated f xs     the texts of xs with a comma and a space between them
--     behind_first f xs  the texts of xs with a comma and a space before each
--     mailbox_text, members_text, entry_text    the characters of a mailbox, of a group's members, of an entry
--     written l          the characters of the list l
--     written_bytes l    its written text: they, as UTF-8
-- Assumes nothing.
use Rattle.std.specs.Prelude.{ℕ, cond, List, [], ◌∷◌, ◌++◌, Some, None}
use Rattle.std.proofs.Math.Utf8.{encodes}
use Rattle.characters.specs.WhiteSpace.{among}
use Rattle.addresses.specs.Signs.{space, quote, comma, colon, semicolon, open_bracket, close_bracket, backslash}
use Rattle.addresses.specs.Mailboxes.{Mailbox, mailbox, Entry, loose, group}
use Rattle.addresses.specs.Bare.{bare}

abbrev pub escape : ℕ → List ℕ
escape c = cond (among c (backslash ∷ quote ∷ [])) (backslash ∷ c ∷ []) (c ∷ [])

abbrev pub escaped : List ℕ → List ℕ
escaped [] = []
escaped (c ∷ cs) = escape c ++ escaped cs

abbrev pub quoted : List ℕ → List ℕ
quoted n = quote ∷ escaped n ++ quote ∷ []

abbrev pub bracketed : List ℕ → List ℕ
bracketed a = open_bracket ∷ a ++ close_bracket ∷ []

abbrev pub mailbox_text : Mailbox → List ℕ
mailbox_text (mailbox (Some n) a) = quoted n ++ space ∷ bracketed a
mailbox_text (mailbox None a) = cond (bare a) a (bracketed a)

abbrev pub behind_first : {X : Type 0} → (X → List ℕ) → List X → List ℕ
behind_first f [] = []
behind_first f (x ∷ xs) = comma ∷ space ∷ f x ++ behind_first f xs

abbrev pub separated : {X : Type 0} → (X → List ℕ) → List X → List ℕ
separated f [] = []
separated f (x ∷ xs) = f x ++ behind_first f xs

abbrev pub members_text : List Mailbox → List ℕ
members_text [] = []
members_text (m ∷ ms) = space ∷ separated mailbox_text (m ∷ ms)

abbrev pub entry_text : Entry → List ℕ
entry_text (loose m) = mailbox_text m
entry_text (group n ms) = quoted n ++ colon ∷ members_text ms ++ semicolon ∷ []

unfoldable pub written : List Entry → List ℕ
written l = separated entry_text l

abbrev pub written_bytes : List Entry → List ℕ
written_bytes l = encodes (written l)
