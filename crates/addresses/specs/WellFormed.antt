-- Well-formed bytes: the characters of a name or an address that is given as UTF-8, or the byte at which none begins.
--     Utf8Of bs cs              the bytes bs are the UTF-8 of the characters cs
--     IllAt bs p                p is the first byte of bs at which a character should begin and none does
--     prefixed cs r             the characters cs before those of r, unless r is such a byte
--     letter p o rest           the same where o stands at the byte p and the rest goes on behind its bytes
--     characters_from p k bs    what bs gives, whose first byte is the p-th, and whose first k belong to the character before
--     characters_of bs          the characters of bs, or the byte; what stands where is `decoded`'s to say
--     CharactersFound           characters_of finds the characters and the byte, both ways
-- Assumes nothing.
use Rattle.std.specs.Prelude.{◌≡◌, ℕ, zero, suc, ◌+◌, ◌-◌, ◌<◌, true, ◌↔◌, List, [], ◌∷◌, ◌++◌, length, take, drop, Some, None, Ok, Err, IsUtf8, Option, Result}
use Rattle.std.proofs.Math.Utf8.{scalars, encodes}
use Rattle.characters.specs.Decoding.{Stands, decoded}

abbrev pub Utf8Of : List ℕ → List ℕ → Type 0
Utf8Of bs cs = (scalars cs ≡ true) × (encodes cs ≡ bs)

pub record IllAt (bs : List ℕ) (p : ℕ) : Type 0 where
  pub before : IsUtf8 (take p bs)
  pub inside : p < length bs
  pub none : (c : ℕ) → Stands (drop p bs) c → ⊥

abbrev pub prefixed : List ℕ → Result (List ℕ) ℕ → Result (List ℕ) ℕ
prefixed cs (Ok ds) = Ok (cs ++ ds)
prefixed cs (Err p) = Err p

abbrev pub letter : ℕ → Option (ℕ × ℕ) → (ℕ → Result (List ℕ) ℕ) → Result (List ℕ) ℕ
letter p None rest = Err p
letter p (Some d) rest = prefixed (d.0 ∷ []) (rest d.1)

unfoldable pub characters_from : ℕ → ℕ → List ℕ → Result (List ℕ) ℕ
characters_from p k [] = Ok []
characters_from p zero (b ∷ bs) = letter p (decoded (b ∷ bs)) (λ n. characters_from (p + 1) (n - 1) bs)
characters_from p (suc k) (b ∷ bs) = characters_from (p + 1) k bs

abbrev pub characters_of : List ℕ → Result (List ℕ) ℕ
characters_of bs = characters_from 0 0 bs

pub record Found (bs : List ℕ) : Type 0 where
  pub well_formed : (cs : List ℕ) → (characters_of bs ≡ Ok cs) ↔ Utf8Of bs cs
  pub ill_formed : (p : ℕ) → (characters_of bs ≡ Err p) ↔ IllAt bs p

abbrev pub CharactersFound : Type 0
CharactersFound = (bs : List ℕ) → Found bs
