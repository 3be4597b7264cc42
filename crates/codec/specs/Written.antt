-- Bytes written into a lent buffer (document 01, "Records": "Writing returns the length; bytes past it keep their values"). Definitions only.
-- Assumes nothing.
use Rattle.std.specs.Prelude.{◌≡◌, List, ◌++◌, ℕ, ◌+◌, ◌≤◌, length, take, drop}

-- the buffer with bytes from a position on: all others keep their values
abbrev pub written_at : {A : Type 0} → List A → ℕ → List A → List A
written_at old at bytes = take at old ++ (bytes ++ drop (at + length bytes) old)

-- a buffer has room for bytes from a position on
abbrev pub Room : (old : List ℕ) (at : ℕ) (bytes : List ℕ) → Type 0
Room old at bytes = at + length bytes ≤ length old

-- these bytes stand in the buffer `new` from a position up to `next`, and the rest is as it was in `old`
abbrev pub Put : (old : List ℕ) (at : ℕ) (bytes new : List ℕ) (next : ℕ) → Type 0
Put old at bytes new next = (next ≡ at + length bytes) × (new ≡ written_at old at bytes)
