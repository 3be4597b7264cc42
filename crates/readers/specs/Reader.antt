-- The reader: "the bytes together with the position reached" (document 01, "Records"). Definitions only. Assumes nothing.
use Rattle.std.specs.Prelude.{◌≡◌, List, ℕ}
use Rattle.std.specs.Borrow.{Bor}
use Rattle.readers.specs.declared.reader.Reader.{Reader}

-- it has these bytes, and has reached this position
abbrev pub ReaderAt : Bor (List ℕ) → ℕ → Reader → Type 0
ReaderAt s n r = (r.src ≡ s) × (r.at ≡ n)

-- it starts at the first of the bytes
abbrev pub Starts : Bor (List ℕ) → Reader → Type 0
Starts s r = ReaderAt s 0 r

-- it has the bytes of another, and has reached a position given
abbrev pub MovedTo : Reader → ℕ → Reader → Type 0
MovedTo r n q = ReaderAt r.src n q
