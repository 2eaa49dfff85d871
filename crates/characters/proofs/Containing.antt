-- A row that contains a character has it among its characters. Assumes nothing.
use Rattle.std.proofs.Common.{◌≡◌, ℕ, eqb, ◌||◌, List, [], ◌∷◌, refl, arith}
use Rattle.std.specs.List.{list_any}
use Rattle.std.proofs.lemmas.Grind.{common_steps}
use Rattle.characters.specs.WhiteSpace.{among}

pub eqb_comm : (c d : ℕ) → eqb c d ≡ eqb d c
eqb_comm c d = grind (arith, common_steps)

pub among_contains : (c : ℕ) (cs : List ℕ) → among c cs ≡ list_any (λ d. eqb d c) cs
among_contains c [] = refl
among_contains c (d ∷ cs) = λ i. eqb_comm c d i || among_contains c cs i
