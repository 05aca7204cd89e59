-- What a turn of each loop does, and the columns of a line against its text. Assumes nothing.
use Rattle.std.proofs.Common.{◌≡◌, ℕ, suc, ◌+◌, ◌-◌, ◌*◌, ◌^◌, ◌<◌, ◌≤◌, List, [], ◌∷◌, None, Some, Ok, Err, ◌++◌, length, take, drop, replicate, get_or, set, refl, ap, ◌∙◌, add-zero, mul-le-mul_right, suc-mul, pow-suc, add-one, arith, le-ltb, lt-ltb, eq-eqb, ne_eqb}
use borrow.Rule.Slice.PartMut.{put_mid}
use lib.ListN.{drop_of_length-le}
use lib.Seq.{drop-cons}
use native.Mathlib.Nat.{pow-le-pow_right}
use Rattle.decode.specs.declared.Inst.{Inst}
use Rattle.decode.specs.declared.Opcode.{Opcode}
use Rattle.decode.specs.declared.Opcode.TheVariants.{Lui, Auipc, Jal, Jalr, Branch, Load, Store, OpImm, Op, OpImm32, Op32, Fence, Ecall, Ebreak, Invalid}
use Rattle.expand.specs.declared.RomRow.{RomRow}
use Rattle.expand.specs.declared.VirtualKind.{VirtualKind}
use Rattle.expand.specs.declared.VirtualKind.TheVariants as kind
use Rattle.listing.specs.declared.Fields.{Fields}
use Rattle.listing.specs.Lines.{name_of, columns, line_of_inst, hex_value, number_from, compare_from}
use Rattle.listing.specs.RowLines.{kind_name, line_of_row}
use Rattle.lines.specs.Text.{last_digits}
use Rattle.listing.specs.Steps.{put_digits, put_fields, blank}

-- ---- the lines of a word and of a row

-- a column of a line is filled
pub column_filled : (at n base v : ℕ) {line line₁ column : List ℕ} → column ≡ last_digits base (length (take n (drop at line))) v → line ≡ line₁
    → put_mid at n line column ≡ put_digits at n base v line₁
column_filled at n base v {line} {line₁} e f = ap (put_mid at n line) e ∙ ap (put_digits at n base v) f

data Seven : List ℕ → Type 0 where
  seven : (a b c d e f g : ℕ) → Seven (a ∷ b ∷ c ∷ d ∷ e ∷ f ∷ g ∷ [])

seven_of : (text : List ℕ) → length text ≡ 7 → Seven text
seven_of [] h = absurd (omega arith)
seven_of (a ∷ []) h = absurd (omega arith)
seven_of (a ∷ b ∷ []) h = absurd (omega arith)
seven_of (a ∷ b ∷ d ∷ []) h = absurd (omega arith)
seven_of (a ∷ b ∷ d ∷ e ∷ []) h = absurd (omega arith)
seven_of (a ∷ b ∷ d ∷ e ∷ f ∷ []) h = absurd (omega arith)
seven_of (a ∷ b ∷ d ∷ e ∷ f ∷ g ∷ []) h = absurd (omega arith)
seven_of (a ∷ b ∷ d ∷ e ∷ f ∷ g ∷ i ∷ []) h = seven a b d e f g i
seven_of (a ∷ b ∷ d ∷ e ∷ f ∷ g ∷ i ∷ j ∷ text) h = absurd (omega arith)

seven_marked : (mark : ℕ) {text : List ℕ} → Seven text
    → set (set (replicate 9 32 ++ text ++ replicate 32 32) 28 mark) 47 10 ≡ blank text mark
unfolding blank
seven_marked mark (seven a b c d e f g) = refl

-- spaces, in which a text of seven characters, a mark and a line feed are set
pub blank_made : (mark : ℕ) (text : List ℕ) → length text ≡ 7
    → set (set (replicate 9 32 ++ text ++ replicate 32 32) 28 mark) 47 10 ≡ blank text mark
blank_made mark text h = seven_marked mark (seven_of text h)

name_seven : (op : Opcode) → Seven (name_of op)
unfolding name_of
name_seven Lui = seven _ _ _ _ _ _ _
name_seven Auipc = seven _ _ _ _ _ _ _
name_seven Jal = seven _ _ _ _ _ _ _
name_seven Jalr = seven _ _ _ _ _ _ _
name_seven Branch = seven _ _ _ _ _ _ _
name_seven Load = seven _ _ _ _ _ _ _
name_seven Store = seven _ _ _ _ _ _ _
name_seven OpImm = seven _ _ _ _ _ _ _
name_seven Op = seven _ _ _ _ _ _ _
name_seven OpImm32 = seven _ _ _ _ _ _ _
name_seven Op32 = seven _ _ _ _ _ _ _
name_seven Fence = seven _ _ _ _ _ _ _
name_seven Ecall = seven _ _ _ _ _ _ _
name_seven Ebreak = seven _ _ _ _ _ _ _
name_seven Invalid = seven _ _ _ _ _ _ _

kind_seven : (k : VirtualKind) → Seven (kind_name k)
unfolding kind_name last_digits
kind_seven kind.Alu = seven _ _ _ _ _ _ _
kind_seven (kind.ShiftStage stage) = seven _ _ _ _ _ _ _
kind_seven kind.Load = seven _ _ _ _ _ _ _
kind_seven kind.Store = seven _ _ _ _ _ _ _
kind_seven kind.Branch = seven _ _ _ _ _ _ _
kind_seven kind.Upper = seven _ _ _ _ _ _ _
kind_seven kind.Jump = seven _ _ _ _ _ _ _
kind_seven kind.System = seven _ _ _ _ _ _ _

abbrev fields_of : (raw rd rs1 rs2 funct3 imm : ℕ) → Fields
fields_of raw rd rs1 rs2 funct3 imm = record { raw = raw; rd = rd; rs1 = rs1; rs2 = rs2; funct3 = funct3; imm = imm }

-- the columns are disjoint, so the line that they are put into and the text are the same 48 characters
module _ (raw rd rs1 rs2 funct3 imm v : ℕ) where
  word_filled : {text : List ℕ} → Seven text
      → put_digits 28 2 16 v (put_fields (blank text 32) (fields_of raw rd rs1 rs2 funct3 imm)) ≡ columns text (last_digits 16 2 v) raw rd rs1 rs2 funct3 imm
  unfolding columns last_digits put_fields blank
  word_filled (seven a b c d e f g) = refl

  row_filled : {text : List ℕ} → Seven text
      → put_digits 29 1 10 v (put_fields (blank text 43) (fields_of raw rd rs1 rs2 funct3 imm)) ≡ columns text (43 ∷ last_digits 10 1 v) raw rd rs1 rs2 funct3 imm
  unfolding columns last_digits put_fields blank
  row_filled (seven a b c d e f g) = refl

pub line_made : (d : Inst) {name a b e : List ℕ} → name ≡ name_of d.opcode → a ≡ blank name 32
    → b ≡ put_fields a (fields_of d.raw d.rd d.rs1 d.rs2 d.funct3 d.imm)
    → e ≡ put_digits 28 2 16 d.funct7 b → e ≡ line_of_inst d
line_made d n p q r = cc (word_filled d.raw d.rd d.rs1 d.rs2 d.funct3 d.imm d.funct7 (name_seven d.opcode))

pub row_made : (r : RomRow) (k : ℕ) {name a b e : List ℕ} → name ≡ kind_name r.kind → a ≡ blank name 43
    → b ≡ put_fields a (fields_of r.raw r.rd r.rs1 r.rs2 r.funct3 r.imm)
    → e ≡ put_digits 29 1 10 k b → e ≡ line_of_row r k
row_made r k n p q s = cc (row_filled r.raw r.rd r.rs1 r.rs2 r.funct3 r.imm k (kind_seven r.kind))

-- ---- the numbers of a line

-- a number n of the digits before place i, at the digit there
module _ (base n : ℕ) (digits : List ℕ) (i : ℕ) (here : i < length digits) where
  module _ (d : ℕ) (told : hex_value (get_or digits i 0) ≡ Some d) where
    pub digit-read : d < base → number_from base (n * base + d) (drop (i + 1) digits) ≡ number_from base n (drop i digits)
    unfolding number_from
    digit-read below = rw (drop-cons digits i 0 here, told, lt-ltb _ _ below, add-one)

    pub digit_past : base ≤ d → None ≡ number_from base n (drop i digits)
    unfolding number_from
    digit_past past = rw (drop-cons digits i 0 here, told, le-ltb _ _ past)

    pub digit-fits : n < base ^ i → d < base → base ^ length digits ≤ 2 ^ 32 → (n * base + d < base ^ (i + 1)) × (n * base + d < 2 ^ 32)
    digit-fits k l m =
        let p : base ^ (i + 1) ≡ base ^ i * base = rw add-one (pow-suc base i) in
        let q : base ^ (i + 1) ≤ base ^ length digits = pow-le-pow_right (omega arith) {i = i + 1} {j = length digits} (omega arith) in
        let r : suc n * base ≤ base ^ i * base = mul-le-mul_right base (omega arith) in
        (omega (arith, suc-mul n base), omega (arith, suc-mul n base))

  pub no_digit : hex_value (get_or digits i 0) ≡ None → None ≡ number_from base n (drop i digits)
  unfolding number_from
  no_digit told = rw (drop-cons digits i 0 here, told)

pub all-read : (base n : ℕ) (digits : List ℕ) (i : ℕ) → length digits ≤ i → Some n ≡ number_from base n (drop i digits)
unfolding number_from
all-read base n digits i h = rw (drop_of_length-le digits {i = i} h)

-- ---- two lines

module _ (stored made : List ℕ) (i n : ℕ) (h : i < 48) where
  next : 48 - i ≡ suc (48 - (i + 1))
  next = omega arith

  pub dot_passed : get_or stored i 0 ≡ 46 → compare_from (48 - (i + 1)) (i + 1) n stored made ≡ compare_from (48 - i) i n stored made
  unfolding compare_from
  dot_passed p = rw (next, eq-eqb _ _ p, add-zero)

  pub place_same : (get_or stored i 0 ≡ 46 → ⊥) → get_or stored i 0 ≡ get_or made i 0 → compare_from (48 - (i + 1)) (i + 1) (n + 1) stored made ≡ compare_from (48 - i) i n stored made
  unfolding compare_from
  place_same p q = rw (next, ne_eqb _ _ p, eq-eqb _ _ q)

  pub place_differs : (get_or stored i 0 ≡ 46 → ⊥) → (get_or stored i 0 ≡ get_or made i 0 → ⊥) → Err i ≡ compare_from (48 - i) i n stored made
  unfolding compare_from
  place_differs p q = rw (next, ne_eqb _ _ p, ne_eqb _ _ q)

pub all_passed : (stored made : List ℕ) (i n : ℕ) → i ≡ 48 → Ok n ≡ compare_from (48 - i) i n stored made
unfolding compare_from
all_passed stored made i n e = rw e
