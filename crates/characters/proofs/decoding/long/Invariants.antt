-- The bytes before k are gathered, and what they hold is small enough for six bits more.
use Rattle.std.proofs.Common.{◌≡◌, ◌-◌, ◌<◌, ◌≤◌, Some}
use Rattle.characters.specs.Decoding.{bits}
use Rattle.characters.proofs.decoding.long.Given as goal

abbrev pub invariant-loop-k : goal.invariant-loop-k
invariant-loop-k l =
    (bits l.high l.bytes (l.k - 1) ≡ Some l.c) × (l.k ≤ 1 → l.c < 32) × (l.k ≤ 2 → l.c < 2048) × (l.k ≤ 3 → l.c < 131072)
