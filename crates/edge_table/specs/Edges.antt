-- M1 to M10 of 01's "Edges", as one conjunction over the definitions that the contracts cite. The function `edge_table` of
-- src/lib.rt has it for its contract. Assumes nothing: these are definitions.
use Rattle.std.specs.Prelude.{◌≡◌, ℕ, false, List, [], ◌∷◌, ◌++◌, set, replicate}
use Prim.Native.String.{String}
use Rattle.decode.specs.Manual.{signed, immediate_u}
use Rattle.expand.specs.Expand.{expansion_of}
use Rattle.interp.specs.declared.Cursor.{Cursor}
use Rattle.interp.specs.Machine.{at, start_of, cell, words}
use Rattle.interp.specs.Cycle.{live}
use Rattle.interp.specs.Calls.{end}
use Rattle.interp.specs.Execute.{execute_of}
use Rattle.lines.specs.Text.{codes}
use Rattle.trace_answer.specs.Trace.{trace_of}

-- a machine at a row, with x1 and x2; its other registers and its RAM are 0
abbrev pub machine : ℕ → ℕ → ℕ → Cursor
machine row x1 x2 =
    record {
      regs = set (set (replicate 64 0) 1 x1) 2 x2;
      ram = replicate 256 0;
      micro_pc = at row;
      cycles = 0;
      halted = false;
      output = 0;
      next_fetch = at row;
    }

-- the machine after n live cycles of a program
abbrev pub after : List ℕ → ℕ → Cursor → Cursor
after program n c = end (live (expansion_of program)) n c

-- the words of the record of a live cycle of a program
abbrev pub record_at : List ℕ → Cursor → List ℕ
record_at program c = words (live (expansion_of program) c).shown

-- addi x10,x0,5 and ecall, the program of the run above
abbrev pub example : List ℕ
example = 0x00500513 ∷ 0x00000073 ∷ []

-- addi x0,x0,0
abbrev pub nop : ℕ
nop = 0x00000013

-- 8, 0, 0x00500513, 0x00000073 as the bytes of an input of `trace`
abbrev pub input : List ℕ
input = 8 ∷ 0 ∷ 0 ∷ 0 ∷ 0 ∷ 0 ∷ 0 ∷ 0 ∷ 0x13 ∷ 0x05 ∷ 0x50 ∷ 0x00 ∷ 0x73 ∷ 0x00 ∷ 0x00 ∷ 0x00 ∷ []

-- a printed line: its characters and a line feed
abbrev pub printed : String → List ℕ
printed text = codes text ++ (10 ∷ [])

pub record Edges : Type 0 where
  -- the run above
  pub m1 :
      trace_of input
      ≡ printed "2,2,5"
      ++ (printed "0,0,0,5,0,10,0,0,0,0,0,1,0,5,5,0,327680"
      ++ printed "1,5,0,5,0,32,0,0,0,0,0,1,5,0,5,0,134217728")
  -- lui x1,0x80000; in the manual the number whose 64 bits are 0xFFFFFFFF80000000
  pub m2 :
      (cell (after (0x800000B7 ∷ []) 1 (start_of [])).regs 1 ≡ 0x80000000)
      × (immediate_u 0x800000B7 ≡ signed 64 0xFFFFFFFF80000000)
  -- lhu x1,7(x0), and lh
  pub m3 :
      (cell (after (0x00705083 ∷ []) 1 (start_of (0x1122334455667788 ∷ []))).regs 1 ≡ 0x8811)
      × (cell (after (0x00701083 ∷ []) 1 (start_of (0x1122334455667788 ∷ []))).regs 1 ≡ 0x8811)
  -- sh x2,7(x0)
  pub m4 : cell (after (0x002013A3 ∷ []) 1 (machine 0 0 0xABCD)).ram 0 ≡ 0xCD00000000000000
  -- sll x3,x1,x2: six rows
  pub m5 :
      (cell (after (0x002091B3 ∷ []) 6 (machine 0 1 3)).regs 3 ≡ 8)
      × (cell (after (0x002091B3 ∷ []) 6 (machine 0 1 3)).regs 0 ≡ 8)
  -- beq x0,x0,-16 at row 1
  pub m6 : (after (nop ∷ 0xFE0008E3 ∷ []) 1 (machine 1 0 0)).micro_pc ≡ at 0
  -- beq x0,x0,-2 at row 1
  pub m7 : (after (nop ∷ 0xFE000FE3 ∷ []) 1 (machine 1 0 0)).micro_pc ≡ at 1
  -- srai x3,x1,32
  pub m8 : cell (after (0x4200D193 ∷ []) 1 (machine 0 0x8000000000000000 0)).regs 3 ≡ 0x80000000
  -- max_cycles 0: one latch record, row 0, rd 10, value 0
  pub m9 :
      ((execute_of (expansion_of example) [] 0 (replicate 17 1)).live_count ≡ 0)
      × ((execute_of (expansion_of example) [] 0 (replicate 17 1)).record_count ≡ 1)
      × ((execute_of (expansion_of example) [] 0 (replicate 17 1)).buffer ≡ 0 ∷ 0 ∷ 0 ∷ 0 ∷ 0 ∷ 10 ∷ 0 ∷ 0 ∷ 0 ∷ 0 ∷ 0 ∷ 0 ∷ 0 ∷ 0 ∷ 0 ∷ 0 ∷ 0x8000000 ∷ [])
  -- jal x1,0 at row 2: link (word 3) and rd_old (word 4)
  pub m10 :
      (cell (record_at (nop ∷ nop ∷ 0x000000EF ∷ []) (machine 2 0 0)) 3 ≡ 12)
      × (cell (record_at (nop ∷ nop ∷ 0x000000EF ∷ []) (machine 2 0 0)) 4 ≡ 12)
