use Rattle.std.proofs.Common.{◌≡◌, ◌++◌, length, vec_items}
use Rattle.marks.proofs.collect.collect_marks.Given as goal

-- what was taken and what waits are what waited
abbrev pub invariant-loop-mark : goal.invariant-loop-mark
invariant-loop-mark g l =
    let s = g.S.Source in
    (vec_items l.marks ++ s.waiting l.source ≡ s.waiting l.initial.source) × (s.close l.source ≡ s.close l.initial.source)

abbrev pub decreases-loop-mark : goal.decreases-loop-mark
decreases-loop-mark g l = length (g.S.Source.waiting l.source)
