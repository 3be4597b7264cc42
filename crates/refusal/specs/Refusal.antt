-- Refusals: a call goes by its rules in their order, and the first that is broken gives its refusal (document 01, "Who causes which
-- number"). Definitions only. Assumes nothing.
use Rattle.std.specs.Prelude.{◌≡◌, Bool, true, false, List, [], ◌∷◌, Result, Ok, Err}
use Rattle.types.specs.declared.refusal.Refusal.{Refusal}

-- a rule: its refusal, whose number is `number_of` it, and the test that it is broken
pub record Rule : Type 0 where
  pub refusal : Refusal
  pub broken : Bool

abbrev pub rule : Refusal → Bool → Rule
rule e b = record { refusal = e; broken = b }

-- what a call comes to: a value, or a refusal alone
abbrev pub Answered : Type 0 → Type 0
Answered A = Result A Refusal

-- what comes after an answer; a refusal stands as it is
abbrev pub and_then : {A B : Type 0} → Answered A → (A → Answered B) → Answered B
and_then (Ok a) later = later a
and_then (Err e) later = Err e

abbrev pub refuse_if : {A : Type 0} → Bool → Refusal → Answered A → Answered A
refuse_if true e later = Err e
refuse_if false e later = later

-- the refusal of the first broken rule, or else what comes after the rules
abbrev pub checked : {A : Type 0} → List Rule → Answered A → Answered A
checked [] later = later
checked (r ∷ rs) later = refuse_if r.broken r.refusal (checked rs later)

-- e is the refusal of the first broken rule
pub data FirstBroken (e : Refusal) : List Rule → Type 0 where
  here : {r : Rule} {rs : List Rule} → r.broken ≡ true → r.refusal ≡ e → FirstBroken e (r ∷ rs)
  later : {r : Rule} {rs : List Rule} → r.broken ≡ false → FirstBroken e rs → FirstBroken e (r ∷ rs)

-- no rule is broken
pub data NoneBroken : List Rule → Type 0 where
  none : NoneBroken []
  also : {r : Rule} {rs : List Rule} → r.broken ≡ false → NoneBroken rs → NoneBroken (r ∷ rs)
