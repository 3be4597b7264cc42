-- The numbers of the refusals (document 01, "Who causes which number"; document 02, §3; docs/FORMAT.md, "Refusals"). Definitions only. Assumes nothing.
use Rattle.std.specs.Prelude.{ℕ}
use Rattle.types.specs.declared.refusal.Refusal.{Refusal}
use Rattle.types.specs.declared.refusal.Refusal.TheVariants.{EndsEarly, Inputs, SpareBit, Number, Kind, BytesLeft, Gate, RowList, Unsound, Budget, Cap, Room, Ended, Row, ReportInput, Care, OtherKind, Digits, Digit, Words, Numbers, NotFound}

abbrev pub number_of : Refusal → ℕ
number_of EndsEarly = 1
number_of Inputs = 2
number_of SpareBit = 3
number_of Number = 4
number_of Kind = 5
number_of BytesLeft = 6
number_of Gate = 7
number_of RowList = 8
number_of Unsound = 9
number_of Budget = 10
number_of Cap = 11
number_of Room = 12
number_of Ended = 13
number_of Row = 14
number_of ReportInput = 15
number_of Care = 16
number_of OtherKind = 100
number_of Digits = 101
number_of Digit = 102
number_of Words = 103
number_of Numbers = 104
number_of NotFound = 105
