-- What a counter does with pieces: it adds up their lengths, and the sum saturates.
--     Added s cs t    the number of bytes of the characters cs was added to that of the counter s, which is now t
--     Never s cs      no characters are refused
--     added_laws      that these speak of whole texts, proved
-- Assumes nothing.
use Rattle.std.proofs.Common.{◌≡◌, ℕ, ◌+◌, ◌^◌, ◌<◌, List, arith}
use Rattle.writer.specs.Sizes.{byte_length, capped}
use Rattle.writer.specs.Sinks.{SinkLaws}
use Rattle.writer.specs.Texts.{byte_append}
use Rattle.writer.specs.declared.counter.Counter.{Counter}

abbrev pub Added : Counter → List ℕ → Counter → Type 0
Added s cs t = s.bytes < 2 ^ 64 → t.bytes ≡ capped (s.bytes + byte_length cs)

abbrev pub Never : Counter → List ℕ → Type 0
Never s cs = ⊥

pub added_laws : SinkLaws Added Never
added_laws = record {
  nothing = λ s h. omega arith;
  behind = λ s t u cs ds h k i. let first = h i in let next = k (omega (arith, first)) in omega (arith, first, next, byte_append cs ds);
  short = λ s cs ds h. h;
  late = λ s t cs ds h k. k;
}
