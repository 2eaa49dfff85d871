use Rattle.std.proofs.Common.{length}
use Rattle.addresses.specs.Reading.{reading}
use Rattle.reader.specs.Readers.{view}
use Rattle.reader.specs.Views.{standing}
use Rattle.reader.proofs.Turns.{Here}
use Rattle.reader.proofs.machine.Reader.read.Given as goal

-- the whole read is what is left of it
abbrev pub invariant-loop-mark : goal.invariant-loop-mark
invariant-loop-mark g l =
    let s = g.S.Source in
    let c = s.close l.initial.source in
    Here (reading (s.waiting l.initial.source) c) c l.taken (s.waiting l.source) (s.close l.source) (standing (view l.self))

abbrev pub decreases-loop-mark : goal.decreases-loop-mark
decreases-loop-mark g l = length (g.S.Source.waiting l.source)
