-- What a call that writes answers, returns and leaves in the lent buffer, and how long a record is. Assumes nothing.
use Rattle.types.specs.declared.refusal.Refusal.TheVariants as Refusal'
use Rattle.std.specs.Prelude.{Ok, Err}
use mathlib.Core.Path.{◌≡◌, refl, sym, ◌∙◌, ap, subst}
use mathlib.Core.List.{List, [], ◌∷◌}
use Prim.Native.Nat.{ℕ, ◌≤◌, ◌<◌}
use native.Mathlib.Omega.{arith}
use lib.ListN.{length}
use lib.IntN.{ℤ}
use borrow.Author.Tests.{lt-ltb, le-ltb}
use Rattle.refusal.specs.Refusal.{Rule, Answered, checked}
use Rattle.refusal.proofs.RefusalLaws.{answered_none_broken}
use Rattle.codec.specs.Written.{written_at}
use Rattle.records.specs.declared.record.Record.{Record}
use Rattle.records.specs.Record.{table_in, record_bytes}
use Rattle.bodies.proofs.BodyLaws.{record_most}
use Rattle.writers.specs.Calls.{too_short, record_rules, write_record, fitted, written, WroteBytes}
use Rattle.results.specs.Result.{as_result, Returned}

-- ---- a call that writes

-- bytes that do not fit are refused with 12, and the buffer is as it was
pub wrote_short : {A : Type 0} (old bytes : List A) {n : ℕ} → length bytes ≡ n → length old < n
    → WroteBytes (fitted (length old) bytes) old (Err Refusal'.Room) old
wrote_short old bytes long h = simp (lt-ltb (length old) (length bytes) (omega arith)) (refl, refl)

-- bytes that fit stand in the buffer
pub wrote_bytes : {A : Type 0} (old bytes : List A) {n : ℕ} {new : List A} → length bytes ≡ n → n ≤ length old → new ≡ written_at old 0 bytes
    → WroteBytes (fitted (length old) bytes) old (Ok n) new
wrote_bytes old bytes long h e = simp (le-ltb (length old) (length bytes) (omega arith)) (ap Ok (sym long), e)

-- ---- what it returns to C

pub returned_as : {A : Type 0} {a b : Answered (List A)} (old : List A) → a ≡ b → {r : ℤ} {new : List A} → Returned a old r new → Returned b old r new
returned_as {A} old same {r} {new} p = subst (λ (x : Answered (List A)). Returned x old r new) same p

-- the number of what it answers
pub returned_written : {A : Type 0} (a : Answered (List A)) (old : List A) {x : Answered ℕ} {r : ℤ} {new : List A} → WroteBytes a old x new → r ≡ as_result x
    → Returned a old r new
returned_written a old (e, same) q = (q ∙ ap as_result e, same)

-- ---- lengths

-- bytes of which there are at most 2,048, in any room, are the most that is written
pub checked_short : (rules : List Rule) (bytes : List ℕ) {w : Answered ℕ} → length bytes ≤ 2048 → w ≡ written (checked rules (Ok bytes))
    → (n : ℕ) → w ≡ Ok n → n ≤ 2048
checked_short rules bytes most e n k = by (checked rules (Ok bytes)) refl (sym e ∙ k)
  where
    by : (a : Answered (List ℕ)) → checked rules (Ok bytes) ≡ a → written a ≡ Ok n → n ≤ 2048
    by (Ok own) same q =
        let is = (answered_none_broken rules bytes own same).1 in
        let long : length own ≡ n = cc in
        omega (arith, most, ap length is)
    by (Err m) same q = absurd (cc)

-- so it is with a record
pub record_short : (x : Record) (room : ℕ) {w : Answered ℕ} → (table_in x).n ≤ 8 → w ≡ written (write_record x room)
    → (n : ℕ) → w ≡ Ok n → n ≤ 2048
record_short x room few = checked_short (record_rules x (too_short room (record_bytes x) ∷ [])) (record_bytes x) (record_most x few)
