-- What a writer leaves in the lent buffer: the record, past it what the buffer held, and after a refusal all of it. Assumes nothing.
use Rattle.records.specs.declared.record.Record.TheVariants as Record'
use Rattle.std.specs.Prelude.{Ok, Err}
use mathlib.Core.Path.{◌≡◌, refl, ◌∙◌, ap}
use mathlib.Core.List.{List, [], ◌∷◌}
use Prim.Native.Nat.{ℕ, ◌+◌, ◌≤◌}
use native.Mathlib.Nat.{zero-add}
use native.Mathlib.Omega.{arith}
use lib.ListN.{length, take, drop}
use lib.Seq.{take-append_seam, drop-append_seam}
use borrow.Author.Tests.{ltb-false}
use Rattle.refusal.specs.Refusal.{Rule, Answered, NoneBroken, also}
use Rattle.refusal.proofs.RefusalLaws.{answered_none_broken}
use Rattle.codec.proofs.WrittenLaws.{written_length}
use Rattle.records.specs.declared.record.Record.{Record}
use Rattle.records.specs.Record.{record_bytes}
use Rattle.writers.specs.Calls.{record_rules, too_short, write_record, lent}

-- the bytes of a record stand at the start of the buffer
pub lent_start : (out bytes : List ℕ) → take (length bytes) (lent out (Ok bytes)) ≡ bytes
lent_start out bytes = take-append_seam bytes (drop (0 + length bytes) out)

-- past them it is as it was
pub lent_past : (out bytes : List ℕ) → drop (length bytes) (lent out (Ok bytes)) ≡ drop (length bytes) out
lent_past out bytes = drop-append_seam bytes (drop (0 + length bytes) out) ∙ ap (λ (m : ℕ). drop m out) (zero-add (length bytes))

-- where the rules of a record are kept, so are those that stand after them
record_others_kept : (x : Record) {others : List Rule} → NoneBroken (record_rules x others) → NoneBroken others
record_others_kept (Record'.Table t) (also few (also spare (also stray kept))) = kept
record_others_kept (Record'.Gate t g) (also same (also few (also spare (also stray (also whole (also range kept)))))) = kept
record_others_kept (Record'.Witness t w) (also few (also spare (also stray (also whole (also range kept))))) = kept
record_others_kept (Record'.Job j) (also few (also spare (also stray (also sound (also going kept))))) = kept

fits : (room : ℕ) (bytes : List ℕ) → NoneBroken (too_short room bytes ∷ []) → length bytes ≤ room
fits room bytes (also long kept) = ltb-false room (length bytes) long

-- what is written has room
pub written_fits : (x : Record) (room : ℕ) (bytes : List ℕ) → write_record x room ≡ Ok bytes → length bytes ≤ room
written_fits x room bytes e =
    let kept = answered_none_broken (record_rules x (too_short room (record_bytes x) ∷ [])) (record_bytes x) bytes e in
    omega (arith, fits room (record_bytes x) (record_others_kept x kept.0), ap length kept.1)

-- the buffer is as long as it was
pub lent_length : (x : Record) (out : List ℕ) → length (lent out (write_record x (length out))) ≡ length out
lent_length x out = by (write_record x (length out)) refl
  where
    by : (a : Answered (List ℕ)) → write_record x (length out) ≡ a → length (lent out a) ≡ length out
    by (Ok bytes) e = written_length out 0 bytes (omega (arith, written_fits x (length out) bytes e))
    by (Err n) e = refl
