-- Fields of a record: what reading one at a position gives (document 01, "Records" and "Who causes which number"). Definitions only.
-- Assumes nothing.
use Rattle.types.specs.declared.refusal.Refusal.TheVariants as Refusal'
use Rattle.std.specs.Prelude.{List, ℕ, ◌+◌, ltb, length, Ok, Err}
pub use Rattle.types.specs.declared.field.Field.{Field}
use Rattle.refusal.specs.Refusal.{Rule, rule, Answered}

abbrev pub field : {A : Type 0} → A → ℕ → Field A
field a next = record { value = a; next = next }

-- what reading at a position gives: a value and the position after its bytes, or a refusal
abbrev pub Reading : Type 0 → Type 0
Reading A = Answered (Field A)

-- fields as they stand: the next is read where the one before it ended, and not at all after a refusal
abbrev pub onward : {A B : Type 0} → Reading A → (A → ℕ → Answered B) → Answered B
onward (Ok f) later = later f.value f.next
onward (Err n) later = Err n

-- 1: fewer than m bytes are left at a position
abbrev pub ends_early : List ℕ → ℕ → ℕ → Rule
ends_early s at m = rule Refusal'.EndsEarly (ltb (length s) (at + m))
