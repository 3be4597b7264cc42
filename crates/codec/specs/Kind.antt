-- The kind byte of a record, and the families of records (document 01, "Records" and "Who causes which number"; document 02, §3). Definitions only. Assumes
-- nothing.
use Rattle.types.specs.declared.refusal.Refusal.TheVariants as Refusal'
use Rattle.std.specs.Prelude.{Bool, true, false, cond, List, [], ◌∷◌, ℕ, ◌+◌, eqb, get_or, Ok, Err}
use Rattle.refusal.specs.Refusal.{Answered, and_then, checked}
pub use Rattle.types.specs.declared.kind.Family.{Family}
pub use Rattle.types.specs.declared.kind.Family.TheVariants.{Tables, Gates, Witnesses, Jobs}
pub use Rattle.types.specs.declared.kind.Head.{Head}
use Rattle.codec.specs.Field.{Reading, field, onward, ends_early}

-- the kind byte of each family where every row of the table is cared for
abbrev pub kind_of : Family → ℕ
kind_of Tables = 1
kind_of Gates = 2
kind_of Witnesses = 3
kind_of Jobs = 4

-- and where one is not (document 02, §3). Kinds 2 and 3 carry no such table: their rules refuse it by 16, so no record has these bytes
abbrev pub partial_kind : Family → ℕ
partial_kind Tables = 5
partial_kind Gates = 2
partial_kind Witnesses = 3
partial_kind Jobs = 6

abbrev pub head : Family → Bool → Head
head f cares = record { family = f; cares = cares }

abbrev pub head_kind : Head → ℕ
head_kind h = cond h.cares (partial_kind h.family) (kind_of h.family)

-- what a single record may be, kinds 1 to 6, and what a report takes, kinds 1 and 5
abbrev pub every_kind : List Head
every_kind = head Tables false ∷ head Gates false ∷ head Witnesses false ∷ head Jobs false ∷ head Tables true ∷ head Jobs true ∷ []

abbrev pub tables_alone : List Head
tables_alone = head Tables false ∷ head Tables true ∷ []

-- what a kind byte says, among those that a caller takes. 5: the byte is none of them
unfoldable pub head_among : List Head → ℕ → Answered Head
head_among [] kind = Err Refusal'.Kind
head_among (h ∷ hs) kind = cond (eqb kind (head_kind h)) (Ok h) (head_among hs kind)

-- a kind byte. 1: bytes end early; then 5
abbrev pub kind_at : List Head → List ℕ → ℕ → Reading Head
kind_at takes s at = checked (ends_early s at 1 ∷ []) (and_then (head_among takes (get_or s at 0)) (λ h. Ok (field h (at + 1))))

-- a record from a position on, of the kinds that a caller takes: its kind byte, then what follows it, by what the byte says
abbrev pub record_with : {A : Type 0} → List Head → (Head → List ℕ → ℕ → Reading A) → List ℕ → ℕ → Reading A
record_with takes body s at = onward (kind_at takes s at) (λ h p. body h s p)
