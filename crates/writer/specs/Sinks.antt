-- Sinks: what takes the characters of a text one after the other, to count their bytes or to hold them.
--     Takes took refuses s cs r t    the sink s was given the characters cs, answered r, and is now t: by `took`, which relates a sink,
--                                    what it took and the sink behind that, or by `refuses`, which says of what a sink cannot take all
--     SinkLaws took refuses          the two speak of whole texts: nothing is taken by leaving the sink as it is; a text behind another
--                                    is taken as both at once; and a text is refused where its beginning is, or what is left of it
-- Assumes nothing.
use Rattle.std.specs.Prelude.{ℕ, List, [], ◌++◌, Ok, Err, Result}
use Rattle.writer.specs.declared.sink.Refused.{Refused}

abbrev pub Takes : {S : Type 0} → (S → List ℕ → S → Type 0) → (S → List ℕ → Type 0) → S → List ℕ → Result (Unit {0}) Refused → S → Type 0
Takes took refuses s cs (Ok _) t = took s cs t
Takes took refuses s cs (Err _) t = refuses s cs

pub record SinkLaws {S : Type 0} (took : S → List ℕ → S → Type 0) (refuses : S → List ℕ → Type 0) : Type 0 where
  pub nothing : (s : S) → took s [] s
  pub behind : (s t u : S) (cs ds : List ℕ) → took s cs t → took t ds u → took s (cs ++ ds) u
  pub short : (s : S) (cs ds : List ℕ) → refuses s cs → refuses s (cs ++ ds)
  pub late : (s t : S) (cs ds : List ℕ) → took s cs t → refuses t ds → refuses s (cs ++ ds)
