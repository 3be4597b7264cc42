-- Writing and reading a table are inverse: the bytes of a table that keeps its format are read as it, and bytes that are read as a table
-- are its own. Assumes nothing.
use Rattle.std.specs.Prelude.{Ok}
use Rattle.types.specs.declared.refusal.Refusal.TheVariants as Refusal'
use mathlib.Core.Path.{◌≡◌, refl, sym, ap, ap₂, subst, ◌∙◌}
use mathlib.Core.Bool.{Bool, true, false, not, cond}
use mathlib.Core.List.{List, [], ◌∷◌, ◌++◌}
use Prim.Native.Nat.{ℕ, ◌+◌, ◌-◌, ◌^◌, ◌≤◌, ◌<◌}
use native.Mathlib.Decide.{dec_le}
use native.Mathlib.Omega.{arith}
use lib.Dec.{ltb}
use lib.ListN.{length, get_or, take, drop, replicate, length-append, length-drop, length-replicate, get_or-replicate, take-append-drop, get_or-append}
use lib.Seq.{ext_get_or, take_at, length-take-le, get_or-drop, get_or-take, get_or-append-add}
use borrow.Author.Tests.{ltb-false, le-ltb, not-false}
use Rattle.numbers.specs.Tests.{all_at_most}
use Rattle.numbers.proofs.TestLaws.{or_false_right, or_neither, all_at_most_at}
use Rattle.types.specs.declared.table.Table.{Table}
use Rattle.table.specs.Table.{input_limit, rows_of, byte_count, padded, spare_set, every_row, whole_table, is_whole, stray_value}
use Rattle.table.proofs.TableLaws.{bytes_le}
use Rattle.table.proofs.RowLaws.{ByteArray, rows_clear}
use Rattle.table.proofs.CareLaws.{every_array, whole_cares, cares_whole}
use Rattle.refusal.specs.Refusal.{rule, checked, NoneBroken, none, also}
use Rattle.refusal.specs.TableRules.{too_many_inputs, table_rules}
use Rattle.refusal.proofs.TableChecked.{kept_inputs, kept_values, kept_cares, kept_stray, whole_stray}
use Rattle.codec.specs.Field.{Field, Reading, field, onward}
use Rattle.codec.specs.Number.{number_bytes, number_at}
use Rattle.codec.specs.Kind.{Head, tables_alone, kind_at}
use Rattle.codec.specs.TableField.{care_bytes, table_bytes, inputs_at, bits_at, row_bits_at, table_of, partial_rules, cares_at, table_at, table_record_at}
use Rattle.codec.proofs.FieldLaws.{onward_answered, checked_onward, checked_answered}
use Rattle.codec.proofs.StandsLaws.{Stands, AllBytes, stands_nil, stands_front, stands_back, stands_within, both_stand}
use Rattle.codec.proofs.NumberLaws.{number_read, number_written, number_next}
use Rattle.codec.proofs.KindLaws.{kind_written}

-- ---- what is written is read

inputs_read : (n : ℕ) (s : List ℕ) (at : ℕ) → n ≤ 8 → Stands s at (number_bytes n) → inputs_at s at ≡ Ok (field n (at + length (number_bytes n)))
inputs_read n s at h t = rw (number_read s at n (omega arith) t, le-ltb input_limit n h)

-- the bytes of a table past its own are 0
spare_past : (n : ℕ) (bytes : List ℕ) → spare_set n bytes ≡ false → (i : ℕ) → get_or (drop (byte_count n) bytes) i 0 ≤ 0
unfolding spare_set
spare_past n bytes e =
    let past = drop (byte_count n) bytes in
    all_at_most_at 0 past (not-false (all_at_most 0 past) (or_false_right (not (ltb (get_or bytes 0 0) (2 ^ rows_of n))) (not (all_at_most 0 past)) e))

-- ---- the bits of rows

-- the bytes of rows that stand in a record
abbrev own : ℕ → List ℕ → List ℕ
own n bits = take (byte_count n) bits

-- bits without a spare one are those of their own bytes
module _ (n : ℕ) (bits : List ℕ) (few : n ≤ 8) (clear : spare_set n bits ≡ false) (long : length bits ≡ 32) where
  pub own_length : length (own n bits) ≡ byte_count n
  own_length = length-take-le (byte_count n) bits (omega (arith, bytes_le few))

  own_padded : padded 32 0 (own n bits) ≡ bits
  own_padded = ap (λ (l : List ℕ). own n bits ++ l) same ∙ take-append-drop (byte_count n) bits
    where
      past : List ℕ
      past = drop (byte_count n) bits

      zeros : List ℕ
      zeros = replicate (32 - length (own n bits)) 0

      same_length : length zeros ≡ length past
      same_length = omega (arith, length-replicate {A = ℕ} (32 - length (own n bits)) 0, length-drop (byte_count n) bits, own_length)

      zero_at : (i : ℕ) → i < length zeros → get_or zeros i 0 ≡ 0
      zero_at i h = get_or-replicate (32 - length (own n bits)) i 0 0 (omega (arith, length-replicate {A = ℕ} (32 - length (own n bits)) 0))

      same : zeros ≡ past
      same = ext_get_or 0 zeros past same_length (λ i h. omega (arith, spare_past n bits clear i, zero_at i h))

  -- they are read as they are
  row_bits_read : (s : List ℕ) (at : ℕ) → at ≤ length s → Stands s at (own n bits) → row_bits_at n s at ≡ Ok (field bits (at + byte_count n))
  unfolding row_bits_at
  row_bits_read s at h (rest, e) =
      let found : take (byte_count n) (drop at s) ≡ own n bits = ap (take (byte_count n)) e ∙ take_at (own n bits) rest (byte_count n) own_length in
      let early = le-ltb (length s) (at + byte_count n) (omega (arith, stands_within s at (own n bits) h (rest, e), own_length)) in
      rw (early, found, own_padded, clear)

-- ---- a table

-- the arrays of a table as code holds them: 32 bytes of values, and 32 of care bits
pub record Held (t : Table) : Type 0 where
  pub long : length t.bytes ≡ 32
  pub cares : ByteArray t.cares

-- where care bytes are read by whether a row is not cared for, those of a table are read as it
cares_read : (t : Table) (s : List ℕ) (at : ℕ) → NoneBroken (table_rules t []) → Held t → at ≤ length s → Stands s at (care_bytes t)
    → cares_at (not (is_whole t)) t.n t.bytes s at ≡ Ok (field t (at + length (care_bytes t)))
unfolding cares_at
cares_read t s at kept held h = by (is_whole t) refl
  where
    by : (whole : Bool) → is_whole t ≡ whole → Stands s at (cond whole [] (own t.n t.cares))
        → cares_at (not whole) t.n t.bytes s at ≡ Ok (field t (at + length {A = ℕ} (cond whole [] (own t.n t.cares))))
    by true e stands =
        let every = whole_cares t (kept_inputs t kept) held.cares (kept_cares t kept) e in
        let end : at ≡ at + 0 = omega arith in
        ap₂ (λ (cares : List ℕ) (next : ℕ). Ok (field (table_of t.n t.bytes cares) next)) (sym every) end
    by false e stands =
        let n = t.n in
        let long = own_length n t.cares (kept_inputs t kept) (kept_cares t kept) held.cares.size in
        rw (row_bits_read n t.cares (kept_inputs t kept) (kept_cares t kept) held.cares.size s at h stands, kept_stray t kept, e, long)

-- the bytes of a table are read as it, where care bytes are read by whether a row is not cared for
pub table_read_lem : (t : Table) (s : List ℕ) (at : ℕ) → NoneBroken (table_rules t []) → Held t → at ≤ length s → Stands s at (table_bytes t)
    → table_at (not (is_whole t)) s at ≡ Ok (field t (at + length (table_bytes t)))
unfolding table_at table_bytes
table_read_lem t s at kept held h stands =
    let n = t.n in
    let number = number_bytes n in
    let values = own n t.bytes in
    let few = kept_inputs t kept in
    let front = stands_front s at number (values ++ care_bytes t) stands in
    let inside = stands_within s at number h front in
    let rest = stands_back s at number (values ++ care_bytes t) stands in
    let own-front = stands_front s (at + length number) values (care_bytes t) rest in
    let own_within = stands_within s (at + length number) values inside own-front in
    let long = own_length n t.bytes few (kept_values t kept) held.long in
    let here : at + length number + length values ≡ at + length number + byte_count n = omega (arith, long) in
    let cares-here = subst (λ (p : ℕ). Stands s p (care_bytes t)) here (stands_back s (at + length number) values (care_bytes t) rest) in
    let cares = cares_read t s (at + length number + byte_count n) kept held (omega (arith, own_within, long)) cares-here in
    let end : at + length number + byte_count n + length (care_bytes t) ≡ at + length (number ++ (values ++ care_bytes t)) =
    omega (arith, length-append number (values ++ care_bytes t), length-append values (care_bytes t), long) in
    rw (inputs_read n s at few front, row_bits_read n t.bytes few (kept_values t kept) held.long s (at + length number) inside own-front)
    (cares ∙ ap (λ (p : ℕ). Ok (field t p)) end)

-- ---- what is read is written

inputs_written : (s : List ℕ) (at : ℕ) (f : Field ℕ) → inputs_at s at ≡ Ok f → (number_at s at ≡ Ok f) × (ltb input_limit f.value ≡ false)
inputs_written s at f e = by (onward_answered (number_at s at) taken f e)
  where
    taken : ℕ → ℕ → Reading ℕ
    taken n next = checked (too_many_inputs n ∷ []) (Ok (field n next))

    by : (n : Field ℕ) × (number_at s at ≡ Ok n) × (taken n.value n.next ≡ Ok f) → (number_at s at ≡ Ok f) × (ltb input_limit f.value ≡ false)
    by (n, first, rest) = let (few, same) = checked_answered Refusal'.Inputs (ltb input_limit n.value) n f rest in rw (← same) (first, few)

-- what reading the bits of rows gave: they stand there, 0 follows them in their array, and no spare bit is set
record BitsRead (n : ℕ) (s : List ℕ) (at : ℕ) (bits : List ℕ) (next : ℕ) : Type 0 where
  inside : at + byte_count n ≤ length s
  clear : spare_set n bits ≡ false
  held : bits ≡ padded 32 0 (take (byte_count n) (drop at s))
  end : next ≡ at + byte_count n

bits_written : (n : ℕ) (s : List ℕ) (at : ℕ) (f : Field (List ℕ)) → row_bits_at n s at ≡ Ok f → BitsRead n s at f.value f.next
unfolding row_bits_at
bits_written n s at f e =
    let m = byte_count n in
    let bits = field (padded 32 0 (take m (drop at s))) (at + m) in
    let (g, read, after) = onward_answered (bits_at (rows_of n) s at) tested f e in
    let (early, same) = checked_answered Refusal'.EndsEarly (ltb (length s) (at + m)) bits g read in
    let (clear, last) = checked_answered Refusal'.SpareBit (spare_set n g.value) g f after in
    rw (← last)
    (record {
      inside = ltb-false (length s) (at + m) early;
      clear = clear;
      held = sym (ap (λ (x : Field (List ℕ)). x.value) same);
      end = sym (ap (λ (x : Field (List ℕ)). x.next) same);
    })
  where
    tested : List ℕ → ℕ → Reading (List ℕ)
    tested bits next = checked (rule Refusal'.SpareBit (spare_set n bits) ∷ []) (Ok (field bits next))

-- bits that are read have no spare one, and end within
pub row_bits_clear : (n : ℕ) (s : List ℕ) (at : ℕ) (f : Field (List ℕ)) → row_bits_at n s at ≡ Ok f → spare_set n f.value ≡ false
row_bits_clear n s at f e = (bits_written n s at f e).clear

pub row_bits_within : (n : ℕ) (s : List ℕ) (at : ℕ) (f : Field (List ℕ)) → row_bits_at n s at ≡ Ok f → f.next ≤ length s
row_bits_within n s at f e = let r = bits_written n s at f e in omega (arith, r.end, r.inside)

module _ (n : ℕ) (s : List ℕ) (at : ℕ) (bits : List ℕ) (next : ℕ) (few : n ≤ 8) (r : BitsRead n s at bits next) where
  read_own : List ℕ
  read_own = take (byte_count n) (drop at s)

  read_length : length read_own ≡ byte_count n
  unfolding read_own
  read_length = length-take-le (byte_count n) (drop at s) (omega (arith, length-drop at s, r.inside))

  bits_long : length bits ≡ 32
  unfolding read_own
  bits_long = ap length r.held ∙ length-append read_own (replicate (32 - length read_own) 0) ∙ omega (arith, length-replicate {A = ℕ} (32 - length read_own) 0, read_length, bytes_le few)

  bits_stand : Stands s at (own n bits)
  unfolding read_own
  bits_stand =
      let same : own n bits ≡ read_own = ap (take (byte_count n)) r.held ∙ take_at read_own (replicate (32 - length read_own) 0) (byte_count n) read_length in
      (drop (byte_count n) (drop at s), rw same (sym (take-append-drop (byte_count n) (drop at s))))

  -- of bytes, they are bytes
  bits_array : AllBytes s → ByteArray bits
  unfolding read_own
  bits_array bytes = record { size = bits_long; fits = λ i l. by i l (dec_le (byte_count n) i) }
    where
      by : (i : ℕ) → i < 32 → Dec (byte_count n ≤ i) → get_or bits i 0 < 256
      by i l (yes past) =
          let zeros = replicate {A = ℕ} (32 - length read_own) 0 in
          let back : i ≡ length read_own + (i - length read_own) = omega (arith, read_length) in
          let behind : get_or bits i 0 ≡ 0 =
          ap (λ (l : List ℕ). get_or l i 0) r.held
          ∙ ap (λ (j : ℕ). get_or (read_own ++ zeros) j 0) back
          ∙ get_or-append-add read_own zeros (i - length read_own) 0
          ∙ get_or-replicate (32 - length read_own) (i - length read_own) 0 0 (omega (arith, read_length)) in
          omega (arith, behind)
      by i l (no before) =
          let here : get_or bits i 0 ≡ get_or s (at + i) 0 = ap (λ (l : List ℕ). get_or l i 0) r.held ∙ get_or-append read_own (replicate (32 - length read_own) 0) 0 i (omega (arith, read_length)) ∙ get_or-take (byte_count n) (drop at s) i 0 (omega arith) ∙ get_or-drop at s i 0 in
          omega (arith, here, bytes (at + i) (omega (arith, r.inside)))

-- what reading care bits gave: those of every row where there were none; else those that stand there, and 16 was tested
CaresParts : Bool → List ℕ → ℕ → Table → ℕ → Type 0
CaresParts false s at t next = (t.cares ≡ every_row t.n) × (next ≡ at)
CaresParts true s at t next = BitsRead t.n s at t.cares next × (stray_value t ≡ false) × (is_whole t ≡ false)

-- what reading a table gave, part by part: n, where its values begin and where they end
record TableParts (cares : Bool) (s : List ℕ) (at : ℕ) (t : Table) (next : ℕ) : Type 0 where
  middle : ℕ
  after : ℕ
  inputs : number_at s at ≡ Ok (field t.n middle)
  few : ltb input_limit t.n ≡ false
  values : BitsRead t.n s middle t.bytes after
  cared : CaresParts cares s after t next

cares_parts : (cares : Bool) (n : ℕ) (bits : List ℕ) (s : List ℕ) (at : ℕ) (f : Field Table) → cares_at cares n bits s at ≡ Ok f
    → (f.value.n ≡ n) × (f.value.bytes ≡ bits) × CaresParts cares s at f.value f.next
unfolding cares_at CaresParts
cares_parts false n bits s at f e = let same : field (whole_table n bits) at ≡ f = cc in rw (← same) (refl, refl, (refl, refl))
cares_parts true n bits s at f e =
    let (cares, read, after) = onward_answered (row_bits_at n s at) tested f e in
    let (straight, rest) = checked_onward Refusal'.Care (stray_value (table_of n bits cares.value)) (later cares) f after in
    let (partial, same) = checked_answered Refusal'.Care (is_whole (table_of n bits cares.value)) (field (table_of n bits cares.value) cares.next) f rest in
    rw (← same) (refl, refl, (bits_written n s at cares read, straight, partial))
  where
    tested : List ℕ → ℕ → Reading Table
    tested cares next = checked (partial_rules (table_of n bits cares)) (Ok (field (table_of n bits cares) next))

    later : Field (List ℕ) → Reading Table
    later cares = checked (rule Refusal'.Care (is_whole (table_of n bits cares.value)) ∷ []) (Ok (field (table_of n bits cares.value) cares.next))

table_parts : (cares : Bool) (s : List ℕ) (at : ℕ) (f : Field Table) → table_at cares s at ≡ Ok f → TableParts cares s at f.value f.next
unfolding table_at
table_parts cares s at f e =
    let (n, read-inputs, after_inputs) = onward_answered (inputs_at s at) (λ n p. onward (row_bits_at n s p) (λ bits q. cares_at cares n bits s q)) f e in
    let (bits, read-bits, after-bits) = onward_answered (row_bits_at n.value s n.next) (λ bits q. cares_at cares n.value bits s q) f after_inputs in
    let (inputs, few) = inputs_written s at n read-inputs in
    let (same, held, cared) = cares_parts cares n.value bits.value s bits.next f after-bits in
    record {
      middle = n.next;
      after = bits.next;
      inputs = inputs ∙ ap (λ (m : ℕ). Ok (field m n.next)) (sym same);
      few = ap (ltb input_limit) same ∙ few;
      values = moved n.value n.next bits.value bits.next f.value.n f.value.bytes (sym same) (sym held) (bits_written n.value s n.next bits read-bits);
      cared = cared;
    }
  where
    moved : (n p : ℕ) (bits : List ℕ) (q m : ℕ) (held : List ℕ) → n ≡ m → bits ≡ held → BitsRead n s p bits q → BitsRead m s p held q
    moved n p bits q m held same e r = subst (λ (l : List ℕ). BitsRead m s p l q) e (subst (λ (k : ℕ). BitsRead k s p bits q) same r)

-- whether every row is cared for, by what was read
parts_whole : (cares : Bool) (s : List ℕ) (at : ℕ) (t : Table) (next : ℕ) → t.n ≤ 8 → CaresParts cares s at t next → is_whole t ≡ not cares
unfolding CaresParts
parts_whole false s at t next few (every, end) = cares_whole t few every
parts_whole true s at t next few (read, straight, partial) = partial

-- a table that is read keeps its format
parts_kept : (cares : Bool) (s : List ℕ) (at : ℕ) (t : Table) (next : ℕ) → t.n ≤ 8 → CaresParts cares s at t next
    → (spare_set t.n t.cares ≡ false) × (stray_value t ≡ false)
unfolding CaresParts
parts_kept false s at t next few (every, end) =
    (ap (spare_set t.n) every ∙ rows_clear t.n (λ r. true) few, whole_stray t (cares_whole t few every))
parts_kept true s at t next few (read, straight, partial) = (read.clear, straight)

pub table_taken : (cares : Bool) (s : List ℕ) (at : ℕ) (f : Field Table) → table_at cares s at ≡ Ok f → NoneBroken (table_rules f.value [])
table_taken cares s at f e =
    let p = table_parts cares s at f e in
    let few = ltb-false input_limit f.value.n p.few in
    let (clear, straight) = parts_kept cares s p.after f.value f.next few p.cared in
    also p.few (also (or_neither p.values.clear clear) (also straight none))

-- it ends within, and past where it began
parts_end : (cares : Bool) (s : List ℕ) (at : ℕ) (t : Table) (next : ℕ) → at ≤ length s → CaresParts cares s at t next → (at ≤ next) × (next ≤ length s)
unfolding CaresParts
parts_end false s at t next h (every, end) = (omega arith, omega arith)
parts_end true s at t next h (read, straight, partial) = (omega (arith, read.end), omega (arith, read.end, read.inside))

pub table_next : (cares : Bool) (s : List ℕ) (at : ℕ) (f : Field Table) → table_at cares s at ≡ Ok f → (at < f.next) × (f.next ≤ length s)
table_next cares s at f e =
    let p = table_parts cares s at f e in
    let number = number_next s at (field f.value.n p.middle) p.inputs in
    let end = parts_end cares s p.after f.value f.next (omega (arith, p.values.end, p.values.inside)) p.cared in
    (omega (arith, p.values.end, end.0), end.1)

-- the care bytes of a table that is read stand where they were read, and its arrays are the code's
parts_stand : (cares : Bool) (s : List ℕ) (at : ℕ) (t : Table) (next : ℕ) → t.n ≤ 8 → AllBytes s → CaresParts cares s at t next
    → Stands s at (care_bytes t) × (next ≡ at + length (care_bytes t)) × ByteArray t.cares
unfolding CaresParts
parts_stand false s at t next few bytes (every, end) =
    rw (cares_whole t few every, every) (stands_nil s at, omega arith, every_array t.n few)
parts_stand true s at t next few bytes (read, straight, partial) =
    let array = bits_array t.n s at t.cares next few read bytes in
    rw partial (
      bits_stand t.n s at t.cares next few read,
      read.end ∙ ap (λ (m : ℕ). at + m) (sym (own_length t.n t.cares few read.clear array.size)),
      array,
    )

-- what reading a table gave: its own bytes stand there, it ends where they do, it keeps its format, and a row is not cared for exactly where care
-- bytes were read
pub record TableRead (cares : Bool) (s : List ℕ) (at : ℕ) (f : Field Table) : Type 0 where
  pub stands : Stands s at (table_bytes f.value)
  pub next : f.next ≡ at + length (table_bytes f.value)
  pub taken : NoneBroken (table_rules f.value [])
  pub held : Held f.value
  pub whole : is_whole f.value ≡ not cares

pub table_written : (cares : Bool) (s : List ℕ) (at : ℕ) (f : Field Table) → AllBytes s → table_at cares s at ≡ Ok f → TableRead cares s at f
unfolding table_bytes
table_written cares s at f a e =
    let p = table_parts cares s at f e in
    let t = f.value in
    let taken = table_taken cares s at f e in
    let few = kept_inputs t taken in
    let number = number_written s at (field t.n p.middle) a p.inputs in
    let long = bits_long t.n s p.middle t.bytes p.after few p.values in
    let values = bits_stand t.n s p.middle t.bytes p.after few p.values in
    let (cares-stand, end, array) = parts_stand cares s p.after t f.next few a p.cared in
    let own-long = own_length t.n t.bytes few p.values.clear long in
    let rest = both_stand s p.middle (own t.n t.bytes) (care_bytes t) values (p.values.end ∙ ap (λ (m : ℕ). p.middle + m) (sym own-long)) cares-stand end in
    let all = both_stand s at (number_bytes t.n) (own t.n t.bytes ++ care_bytes t) number.stands number.next rest.0 rest.1 in
    record {
      stands = all.0;
      next = all.1;
      taken = taken;
      held = record { long = long; cares = array };
      whole = parts_whole cares s p.after t f.next few p.cared;
    }

-- ---- a record of a report

-- its table keeps its format, and it ends within, past where it began
pub record RecordRead (s : List ℕ) (at : ℕ) (f : Field Table) : Type 0 where
  pub taken : NoneBroken (table_rules f.value [])
  pub forward : at < f.next
  pub within : f.next ≤ length s

pub record_read : (s : List ℕ) (at : ℕ) (f : Field Table) → table_record_at s at ≡ Ok f → RecordRead s at f
unfolding table_record_at
record_read s at f e =
    let (kind, is, after) = onward_answered (kind_at tables_alone s at) (λ (h : Head) (p : ℕ). table_at h.cares s p) f e in
    let next = table_next kind.value.cares s kind.next f after in
    record { taken = table_taken kind.value.cares s kind.next f after; forward = omega (arith, (kind_written tables_alone s at kind is).next, next.0); within = next.1 }
