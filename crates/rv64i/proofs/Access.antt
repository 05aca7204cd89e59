-- The value of a load and the word after a store are the manual's, where an access lies in one RAM word. Assumes nothing.
use mathlib.Core.Path.{◌≡◌, refl, ap, ap₂, sym, ◌∙◌}
use mathlib.Core.Bool.{false}
use mathlib.Core.List.{List}
use Prim.Native.Nat.{ℕ, ◌+◌, ◌-◌, ◌*◌, ◌/◌, ◌%◌, ◌^◌, ◌<◌, min}
use native.Mathlib.Omega.{arith}
use lib.ListN.{length, set}
use lib.Pow.{mod-pow-add, shr-shr}
use lib.Seq.{sets}
use Rattle.interp.specs.Values.{ram_addr_of, byte_offset_of, byte, half, load_value, store_width, merge, store_value}
use Rattle.interp.specs.Machine.{cell}
use Rattle.interp.specs.Cycle.{load_flag, load_flags, stores}
use Rattle.rv64i.specs.Manual.{read, write, Load, LBU, LHU, LD, load, Store, SB, SH, SW, SD, store}
use Rattle.rv64i.specs.Agreement.{bytes_of, bytes, InWord}
use Rattle.rv64i.proofs.Memory.{bytes-set, write-sets, read_word}

place : (at : ℕ) → at % 2048 ≡ 8 * ram_addr_of at + byte_offset_of at
place at = omega arith

-- ---- loads

byte_is : (w off : ℕ) → off < 8 → byte w off ≡ w / 2 ^ (8 * off) % 2 ^ 8
byte_is w off h = let e : off % 8 ≡ off = omega arith in rw e

half_is : (w off : ℕ) → off < 7 → half w off ≡ w / 2 ^ (8 * off) % 2 ^ 16
half_is w off h =
    let k : 8 * (off + 1) ≡ 8 * off + 8 = omega arith in
    ap₂ (λ (x y : ℕ). x * 2 ^ 8 + y)
    (byte_is w (off + 1) (omega arith) ∙ ap (λ (n : ℕ). w / 2 ^ n % 2 ^ 8) k ∙ ap (λ (n : ℕ). n % 2 ^ 8) (sym (shr-shr w (8 * off) 8)))
    (byte_is w off (omega arith))
    ∙ sym (mod-pow-add (w / 2 ^ (8 * off)) 8 8)

module _ (ram : List ℕ) (at : ℕ) (words : (k : ℕ) → cell ram k < 2 ^ 64) where
  -- the bytes of an access are those of its RAM word from its offset on
  read_is : (n : ℕ) → InWord at n → cell ram (ram_addr_of at) / 2 ^ (8 * byte_offset_of at) % 2 ^ (8 * n) ≡ read n (bytes ram) at
  read_is n h = sym (read_word n ram (ram_addr_of at) (byte_offset_of at) at (omega arith) (place at) h)

  pub load-agrees : (i : Load) → InWord at (load i).gives → load_value (load i).funct3 (cell ram (ram_addr_of at)) (byte_offset_of at) ≡ read (load i).gives (bytes ram) at
  unfolding load_value
  load-agrees LBU h = byte_is (cell ram (ram_addr_of at)) (byte_offset_of at) (omega arith) ∙ read_is 1 h
  load-agrees LHU h = half_is (cell ram (ram_addr_of at)) (byte_offset_of at) (omega arith) ∙ read_is 2 h
  load-agrees LD h =
      let w = cell ram (ram_addr_of at) in
      let b : w < 2 ^ 64 = words (ram_addr_of at) in
      let z : byte_offset_of at ≡ 0 = omega arith in
      let e : w ≡ w / 2 ^ (8 * 0) % 2 ^ 64 = omega arith in
      e ∙ ap (λ (n : ℕ). w / 2 ^ (8 * n) % 2 ^ 64) (sym z) ∙ read_is 8 h

-- a load stores nothing
pub load_quiet : (i : Load) → stores (load_flags (load i).funct3) ≡ false
unfolding load_flag
load_quiet LBU = refl
load_quiet LHU = refl
load_quiet LD = refl

-- ---- stores

pub width-agrees : (i : Store) → store_width (store i).funct3 ≡ (store i).gives
unfolding store_width
width-agrees SB = refl
width-agrees SH = refl
width-agrees SW = refl
width-agrees SD = refl

-- a store of n bytes, by its funct3
store_is : (n f : ℕ) (ram : List ℕ) (at src : ℕ) → store_width f ≡ n → length ram ≡ 256 → InWord at n
    → bytes (set ram (ram_addr_of at) (store_value f (cell ram (ram_addr_of at)) src (byte_offset_of at))) ≡ write n (bytes ram) at src
unfolding store_value
store_is n f ram at src e hl h =
    let k = ram_addr_of at in
    let off = byte_offset_of at in
    let o : off % 8 ≡ off = omega arith in
    let m : min (store_width f) (8 - off) ≡ n = omega arith in
    ap (λ (x : ℕ). bytes (set ram k (merge (cell ram k) src (8 * x) (8 * min (store_width f) (8 - x))))) o
    ∙ ap (λ (x : ℕ). bytes (set ram k (merge (cell ram k) src (8 * off) (8 * x)))) m
    ∙ bytes-set ram k off n src (omega arith) h
    ∙ ap (λ (x : ℕ). sets (bytes ram) x (bytes_of n src)) (sym (place at))
    ∙ sym (write-sets n (bytes ram) at src (omega (arith, place at)))

pub store-agrees : (i : Store) (ram : List ℕ) (at src : ℕ) → length ram ≡ 256 → InWord at (store i).gives
    → bytes (set ram (ram_addr_of at) (store_value (store i).funct3 (cell ram (ram_addr_of at)) src (byte_offset_of at))) ≡ write (store i).gives (bytes ram) at src
store-agrees i ram at src hl h = store_is (store i).gives (store i).funct3 ram at src (width-agrees i) hl h
