-- A fault by its parts, and the faults that a bottom source closes with, by what they say. Assumes nothing.
use Rattle.std.specs.Prelude.{ℕ}
use Rattle.marks.specs.declared.fault.Fault.{Fault}
use Rattle.marks.specs.declared.fault.Ground.{Ground}
use Rattle.marks.specs.declared.fault.Ground.TheVariants.{IllFormedUtf8, PartOutsideText, NotBlank, LongText}
use Rattle.marks.specs.declared.fault.Layer.{Layer}
use Rattle.marks.specs.declared.fault.Layer.TheVariants.{Source}

-- a fault by its three parts
abbrev pub fault_of : Layer → (ground : Ground) → ℕ → Fault
fault_of l ground p = record { layer = l; ground = ground; place = p }

-- no character begins at the byte p of the text
abbrev pub ill_formed : ℕ → Fault
ill_formed p = fault_of Source IllFormedUtf8 p

-- the text is above 60,000 bytes
abbrev pub long_text : Fault
long_text = fault_of Source LongText 60000

-- the token i is refused
abbrev pub refused_token : Ground → ℕ → Fault
refused_token g i = fault_of Source g i

-- its part lies outside the text
abbrev pub part_outside : ℕ → Fault
part_outside i = refused_token PartOutsideText i

-- it is to hold blanks, and is empty or holds a character that is not White_Space
abbrev pub not_blank : ℕ → Fault
not_blank i = refused_token NotBlank i
