-- What the loop keeps: what is held and what waits give what was given at first.
use Rattle.std.proofs.Common.{◌≡◌, [], ◌∷◌, length}
use Rattle.marks.specs.Proper.{AllProper}
use Rattle.marks.specs.declared.mark.Mark.TheVariants.{Blank}
use Rattle.blanks.specs.Given.{inside, blanks, giving}
use Rattle.blanks.proofs.gather.gather.Given as goal

abbrev pub invariant-loop-m : goal.invariant-loop-m
invariant-loop-m g l =
    let s = g.S.Source in record {
      given : giving (inside []) (Blank l.first ∷ s.waiting l.initial.below) ≡ giving (inside l.run) (s.waiting l.below);
      proper : AllProper (blanks l.run);
      close : s.close l.below ≡ s.close l.initial.below;
    }

abbrev pub decreases-loop-m : goal.decreases-loop-m
decreases-loop-m g l = length (g.S.Source.waiting l.below)
