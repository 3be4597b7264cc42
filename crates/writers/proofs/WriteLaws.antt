-- What a call that writes a record comes to, over any record: its status, the room for 1 + the body's length, the kind byte and the body.
-- Assumes nothing.
use Rattle.records.specs.declared.record.Record.TheVariants as Record'
use Rattle.types.specs.declared.refusal.Refusal.{Refusal}
use Rattle.types.specs.declared.refusal.Refusal.TheVariants as Refusal'
use Rattle.std.specs.Prelude.{Ok, Err}
use mathlib.Core.Path.{◌≡◌, refl, sym, ◌∙◌, ap, subst}
use mathlib.Core.Bool.{Bool, true, false, not, cond}
use mathlib.Core.List.{List, [], ◌∷◌, ◌++◌}
use Prim.Native.Nat.{ℕ, ◌+◌, ◌≤◌, ◌<◌}
use native.Mathlib.Omega.{arith}
use lib.ListN.{length}
use borrow.Author.Tests.{lt-ltb, le-ltb}
use Rattle.types.specs.declared.table.Table.{Table}
use Rattle.types.specs.declared.gate.Gate.{Gate}
use Rattle.types.specs.declared.witness.Witness.{Witness}
use Rattle.table.specs.Table.{is_whole}
use Rattle.refusal.specs.Refusal.{Rule, Answered, checked}
use Rattle.refusal.proofs.RefusalLaws.{rule_broken, rule_kept}
use Rattle.refusal.proofs.StatusLaws.{rules_refused, rules_kept, rules_passed}
use Rattle.codec.specs.Kind.{head_kind}
use Rattle.codec.specs.Written.{Room, Put}
use Rattle.codec.proofs.WrittenLaws.{written_room, written_next}
use Rattle.records.specs.declared.record.Record.{Record}
use Rattle.records.specs.Record.{head_in, body_bytes, record_bytes}
use Rattle.writers.specs.Calls.{too_short, fitted, record_rules, record_checked, write_record, written, lent, WroteBytes, Wrote}
use Rattle.bodies.proofs.RecordParts.{kind_and_body}
use Rattle.bodies.proofs.BodyLaws.{body_most}
use Rattle.writers.proofs.KeptLaws.{Kept, kept_few}

-- the rules of a record, then others
rules_then : {A : Type 0} (x : Record) (others : List Rule) (next : Answered A)
    → checked (record_rules x []) (checked others next) ≡ checked (record_rules x others) next
rules_then (Record'.Table t) others next = refl
rules_then (Record'.Gate t g) others next = refl
rules_then (Record'.Witness t w) others next = refl
rules_then (Record'.Job j) others next = refl

-- the rules of a record that a call writes into the buffer `old` are kept, and the call is left to the room
pub record Passed (x : Record) (old : List ℕ) : Type 0 where
  pub kept : Kept x
  pub left : fitted (length old) (record_bytes x) ≡ write_record x (length old)

refused_as : (x : Record) (old : List ℕ) {n : Refusal} → Err n ≡ write_record x (length old) → Wrote x old (Err n) old
refused_as x old e = (ap written e, ap (lent old) e)

-- s is the test of the record x: its refusal is the call's, and the buffer is as it was; else its rules are passed
module _ (x : Record) (old : List ℕ) {s : Answered (Unit {0})} (says : s ≡ record_checked x) where
  pub write_refused : {n : Refusal} → s ≡ Err n → Wrote x old (Err n) old
  write_refused e =
      refused_as x old (rules_refused (record_rules x []) says (fitted (length old) (record_bytes x)) e ∙ rules_then x (too_short (length old) (record_bytes x) ∷ []) (Ok (record_bytes x)))

  pub write_passed : s ≡ Ok tt → Passed x old
  write_passed done = record {
    kept = rules_kept (record_rules x []) says done;
    left = rules_passed (record_rules x []) says (fitted (length old) (record_bytes x)) done ∙ rules_then x (too_short (length old) (record_bytes x) ∷ []) (Ok (record_bytes x));
  }

-- then the call goes by the length of the body
module _ {x : Record} {old : List ℕ} (passed : Passed x old) {size : ℕ} (long : size ≡ length (body_bytes x)) where
  -- which is small
  pub size_most : size ≤ 2047
  size_most = omega (arith, body_most x (kept_few x passed.kept))

  total : length (record_bytes x) ≡ 1 + size
  total = omega (arith, ap length (kind_and_body x))

  -- too little room is 12
  pub write_short : length old < 1 + size → Wrote x old (Err Refusal'.Room) old
  write_short h = refused_as x old (rule_broken Refusal'.Room [] (Ok (record_bytes x)) (lt-ltb (length old) (length (record_bytes x)) (omega (arith, total))) ∙ passed.left)

  -- else there is room for the body behind the kind byte, and with both the record is written
  module _ (fits : 1 + size ≤ length old) {k : ℕ} (says : k ≡ head_kind (head_in x)) where
    abbrev kind : List ℕ
    kind = k ∷ []

    whole : record_bytes x ≡ kind ++ body_bytes x
    whole = kind_and_body x ∙ ap (λ (m : ℕ). (m ∷ []) ++ body_bytes x) (sym says)

    both_room : Room old 0 (kind ++ body_bytes x)
    both_room = omega (arith, long)

    pub body_room : {out : List ℕ} {at : ℕ} → Put old 0 kind out at → Room out at (body_bytes x)
    body_room first = written_room old 0 kind (body_bytes x) both_room first

    pub write_body : {out new : List ℕ} {at end : ℕ} → Put old 0 kind out at → Put out at (body_bytes x) new end → Wrote x old (Ok end) new
    write_body {out} {new} {at} {end} first second =
        let by = rule_kept Refusal'.Room [] (Ok (record_bytes x)) (le-ltb (length old) (length (record_bytes x)) (omega (arith, total))) ∙ passed.left in
        let put : Put old 0 (record_bytes x) new end = rw whole (written_next old 0 kind (body_bytes x) both_room first second) in
        let same : end ≡ length (record_bytes x) = omega (arith, put.0) in
        (ap Ok same ∙ ap written by, put.1 ∙ ap (lent old) by)

-- a gate and a witness have one kind each
one_kind : (cares : Bool) (k : ℕ) → k ≡ cond cares k k
one_kind true k = refl
one_kind false k = refl

pub gate_kind : (t : Table) (g : Gate) → 2 ≡ head_kind (head_in (Record'.Gate t g))
gate_kind t g = one_kind (not (is_whole t)) 2

pub witness_kind : (t : Table) (w : Witness) → 3 ≡ head_kind (head_in (Record'.Witness t w))
witness_kind t w = one_kind (not (is_whole t)) 3

-- ---- what a writer's answer says of what it wrote

pub wrote_as : {a b : Answered (List ℕ)} (old : List ℕ) → a ≡ b → {r : Answered ℕ} {new : List ℕ} → WroteBytes a old r new → WroteBytes b old r new
wrote_as old same {r} {new} p = subst (λ (x : Answered (List ℕ)). WroteBytes x old r new) same p

pub written_refused : (a : Answered (List ℕ)) {n : Refusal} → written a ≡ Err n → Err n ≡ a
written_refused (Ok bytes) e = cc
written_refused (Err m) e = cc
