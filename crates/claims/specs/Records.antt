-- What is claimed of records, in statements alone. Each cites the definitions that the contracts cite. Assumes nothing.
use Rattle.types.specs.declared.refusal.Refusal.{Refusal}
use Rattle.std.specs.Prelude.{◌≡◌, List, [], ◌∷◌, ℕ, ◌≤◌, length, take, drop, Ok, Err}
use Rattle.records.specs.declared.record.Record.{Record}
use Rattle.records.specs.Record.{record_bytes, read_record}
use Rattle.writers.specs.Calls.{record_rules, too_short, write_record, lent}
use Rattle.claims.specs.Claims.{ByRules}

-- Demand 2: reading what was written gives the same value
abbrev pub ReadsBack : Record → Type 0
ReadsBack x = (room : ℕ) (bytes : List ℕ) → write_record x room ≡ Ok bytes → read_record bytes ≡ Ok x

-- Demand 2: writing what was read gives the same bytes, in every buffer with room for them
abbrev pub WritesBack : List ℕ → Type 0
WritesBack bytes = (x : Record) → read_record bytes ≡ Ok x → (room : ℕ) → length bytes ≤ room → write_record x room ≡ Ok bytes

-- Demand 1: the writers give a number exactly on its condition, in their orders; the lent buffer then holds the record and past it what it
-- held, and after a refusal what it held
pub record RecordsAreWritten : Type 0 where
  pub numbers : (x : Record) (room : ℕ) → ByRules (record_rules x (too_short room (record_bytes x) ∷ [])) (record_bytes x) (write_record x room)
  pub record_stands : (x : Record) (out bytes : List ℕ) → write_record x (length out) ≡ Ok bytes → take (length bytes) (lent out (write_record x (length out))) ≡ bytes
  pub past_kept : (x : Record) (out bytes : List ℕ) → write_record x (length out) ≡ Ok bytes → drop (length bytes) (lent out (write_record x (length out))) ≡ drop (length bytes) out
  pub length_kept : (x : Record) (out : List ℕ) → length (lent out (write_record x (length out))) ≡ length out
  pub refused_kept : (x : Record) (out : List ℕ) (e : Refusal) → write_record x (length out) ≡ Err e → lent out (write_record x (length out)) ≡ out
