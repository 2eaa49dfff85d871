-- The layers and the grounds by their numbers: promises that speak of a fault speak of these. Assumes nothing.
use Rattle.std.specs.Prelude.{ℕ}
use Rattle.marks.specs.declared.fault.Layer.{Layer}
use Rattle.marks.specs.declared.fault.Layer.TheVariants.{Source, Blanks, Reader, List}
use Rattle.marks.specs.declared.fault.Ground.{Ground}
use Rattle.marks.specs.declared.fault.Ground.TheVariants.{AddressWithoutAt, StraySemicolon, NestedGroup, UnclosedGroup, WordAfterBackslash, WordInBrackets, WordAfterBrackets, CharAfterBrackets, UnfinishedEntry, DeepComment, LongName, LongAddress, TooManyMarks, FullList, IllFormedUtf8, PartOutsideText, UnknownKind, NotBlank, RawLineEnd, StrayWordChar, LongRun, LongText, UnwritableAddress, NoSuchEntry, NotAGroup, NoSuchMember, ShortBuffer}

abbrev pub layer_number : Layer → ℕ
layer_number Source = 1
layer_number Blanks = 2
layer_number Reader = 3
layer_number List = 4

abbrev pub ground_number : Ground → ℕ
ground_number AddressWithoutAt = 10
ground_number StraySemicolon = 11
ground_number NestedGroup = 12
ground_number UnclosedGroup = 13
ground_number WordAfterBackslash = 14
ground_number WordInBrackets = 15
ground_number WordAfterBrackets = 16
ground_number CharAfterBrackets = 17
ground_number UnfinishedEntry = 18
ground_number DeepComment = 19
ground_number LongName = 20
ground_number LongAddress = 21
ground_number TooManyMarks = 22
ground_number FullList = 23
ground_number IllFormedUtf8 = 24
ground_number PartOutsideText = 30
ground_number UnknownKind = 31
ground_number NotBlank = 32
ground_number RawLineEnd = 33
ground_number StrayWordChar = 34
ground_number LongRun = 35
ground_number LongText = 40
ground_number UnwritableAddress = 42
ground_number NoSuchEntry = 43
ground_number NotAGroup = 44
ground_number NoSuchMember = 45
ground_number ShortBuffer = 46
