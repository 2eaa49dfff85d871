-- `x then y`: what is shown of the first sample of a collection, and of those behind it. Assumes nothing.
infixr 5 ◌then◌
pub ◌then◌ : {X Y : Type 0} → X → Y → X × Y
x then y = (x, y)
