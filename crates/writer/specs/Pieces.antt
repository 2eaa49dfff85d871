-- The pieces of a written text, in the order in which they are put.
--     titled n            what a display name puts before an address: the name, quoted, and a space; nothing where there is none
--     in_brackets n a     the address a of a mailbox with the display name n is written in brackets
--     addressed b a       the address a, in brackets where b says so
--     opening n           how a group with the name n begins
--     entry_lead first    what is put before an entry: nothing before the first, a comma and a space before the others
--     member_lead first   what is put before a member: a space before the first, a comma and a space before the others
--     closing             how a group ends
-- `Joining` in proofs/ says that they make up the texts of addresses. Assumes nothing.
use Rattle.std.specs.Prelude.{ℕ, Bool, true, cond, not, List, [], ◌∷◌, ◌++◌, Some, None, Option}
use Rattle.addresses.specs.Signs.{space, comma, colon, semicolon}
use Rattle.addresses.specs.Bare.{bare}
use Rattle.addresses.specs.Written.{quoted, bracketed}

abbrev pub titled : Option (List ℕ) → List ℕ
titled None = []
titled (Some n) = quoted n ++ space ∷ []

abbrev pub in_brackets : Option (List ℕ) → List ℕ → Bool
in_brackets None a = not (bare a)
in_brackets (Some n) a = true

abbrev pub addressed : Bool → List ℕ → List ℕ
addressed b a = cond b (bracketed a) a

abbrev pub opening : List ℕ → List ℕ
opening n = quoted n ++ colon ∷ []

abbrev pub entry_lead : Bool → List ℕ
entry_lead first = cond first [] (comma ∷ space ∷ [])

abbrev pub member_lead : Bool → List ℕ
member_lead first = cond first (space ∷ []) (comma ∷ space ∷ [])

abbrev pub closing : List ℕ
closing = semicolon ∷ []
