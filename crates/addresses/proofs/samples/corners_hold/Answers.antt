-- By computation, as the samples, but for the longest rows.
use Rattle.std.proofs.Common.{refl}
use lib.Utf8.{encode}
use Rattle.std.specs.List.{AllByRecursion as Every}
use Rattle.characters.specs.Decoding.{decoded}
use Rattle.characters.specs.WhiteSpace.{white}
use Rattle.marks.specs.Spelling.{spelled}
use Rattle.marks.specs.Tables.{tokens_stream}
use Rattle.addresses.specs.Limits.{within}
use Rattle.addresses.specs.Trim.{trim}
use Rattle.addresses.specs.Reading.{run}
use Rattle.addresses.specs.Written.{written}
use Rattle.addresses.specs.Samples.{Holds}
use Rattle.addresses.specs.Corners.{departures, misread, grounds, counts, lengths, fullest, longest}
use Rattle.addresses.proofs.Commas.{commas_text, commas_long, commas_many}
use Rattle.addresses.proofs.Sampling.{◌then◌}
use Rattle.addresses.proofs.samples.corners_hold.Goals as goal

of_departures : Every Holds departures
unfolding encode decoded white spelled tokens_stream within trim run written
of_departures = record { ends = refl; reads = refl } then record { ends = refl; reads = refl } then refl then record { ends = refl; reads = refl } then refl then record { ends = refl; reads = refl } then refl then refl then refl then tt

of_misread : Every Holds misread
unfolding encode decoded white spelled tokens_stream within trim run written
of_misread = record { ends = refl; reads = refl } then (record { ends = refl; reads = refl }, refl) then record { ends = refl; reads = refl } then (record { ends = refl; reads = refl }, refl) then (record { ends = refl; reads = refl }, refl) then record { ends = refl; reads = refl } then refl then refl then tt

of_grounds : Every Holds grounds
unfolding encode decoded white spelled tokens_stream within trim run written
of_grounds = refl then refl then refl then refl then refl then refl then refl then refl then refl then refl then refl then refl then refl then refl then refl then refl then tt

of_counts : Every Holds counts
unfolding encode decoded white spelled tokens_stream within trim run written
of_counts = record { ends = refl; reads = refl } then refl then record { ends = refl; reads = refl } then refl then record { ends = refl; reads = refl } then refl then refl then refl then tt

of_lengths : Every Holds lengths
unfolding encode decoded white spelled tokens_stream within trim run written
of_lengths = record { ends = refl; reads = refl } then refl then record { ends = refl; reads = refl } then refl then record { ends = refl; reads = refl } then refl then record { ends = refl; reads = refl } then refl then tt

of_fullest : Every Holds fullest
unfolding encode decoded white spelled tokens_stream within trim run written
of_fullest = record { ends = refl; reads = refl } then refl then tt

of_longest : Every Holds longest
of_longest = commas_text then commas_long then commas_many then tt

pub returns : goal.returns
returns c = record { of_departures = of_departures; of_misread = of_misread; of_grounds = of_grounds; of_counts = of_counts; of_lengths = of_lengths; of_fullest = of_fullest; of_longest = of_longest }
