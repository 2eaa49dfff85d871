-- What holds of one of two sources, by which it is.
--     by f g s     f of the source that s holds where it is the left one, g of it where it is the right one
-- Assumes nothing.
use Rattle.std.specs.Prelude.{List}
use Rattle.either.specs.Either.{either}
use Rattle.either.specs.declared.Either.{Either}
use Rattle.either.specs.declared.Either.TheVariants.{Left, Right}
use Rattle.marks.specs.declared.mark.Mark.{Mark}
use Rattle.marks.specs.Proper.{AllProper}

abbrev pub by : {L R Z : Type 0} → (L → Z) → (R → Z) → Either L R → Z
by f g s = either f g s

-- where the marks of each are proper, so are those of the one that is held
pub by_proper : {L R : Type 0} (f : L → List Mark) (g : R → List Mark) → ((x : L) → AllProper (f x)) → ((y : R) → AllProper (g y)) → (s : Either L R) → AllProper (by f g s)
by_proper f g p q (Left x) = p x
by_proper f g p q (Right y) = q y
