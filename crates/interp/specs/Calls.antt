-- The segment call and the padding call: their refusals, what each returns and leaves in memory, and lists of them (01,
-- "Padding cycle, segment call, padding call" and "Joined log and replay"). Assumes nothing: these are definitions.
use Rattle.std.specs.Prelude.{ℕ, zero, suc, ◌+◌, ◌*◌, ◌^◌, Bool, true, false, not, ◌&&◌, Result, Ok, Err, List, [], ◌∷◌, ◌++◌, length, take, drop, ◌==◌, nat_lt}
use Rattle.refusal_table.specs.Table.{Line, line, first_met}
use Rattle.expand.specs.Expand.{is_expansion}
use Rattle.interp.specs.declared.Cursor.{Cursor}
use Rattle.interp.specs.declared.CycleRecord.{CycleRecord}
use Rattle.interp.specs.declared.Refusal.{Refusal}
use Rattle.interp.specs.declared.Refusal.TheVariants.{NoRows, TooManyRows, NoExpansion, OutsideRows, TooManyCycles, Short}
use Rattle.interp.specs.declared.Request.{Request}
use Rattle.interp.specs.declared.Request.TheVariants.{Segment, Padding}
use Rattle.interp.specs.Machine.{flat}
use Rattle.interp.specs.Cycle.{Step, cycle, padding}

-- ---- n cycles

-- the records of n cycles, each a step f, from a cursor on
unfoldable pub recorded : (Cursor → Step) → ℕ → Cursor → List CycleRecord
recorded f zero c = []
recorded f (suc n) c = (f c).shown ∷ recorded f n (f c).after

-- the cursor after n cycles
unfoldable pub end : (Cursor → Step) → ℕ → Cursor → Cursor
end f zero c = c
end f (suc n) c = end f n (f c).after

-- ---- a call

-- a call: how many cycles, and the record buffer that is lent
pub data Call : Type 0 where
  segment padded : ℕ → List ℕ → Call

-- the call that a request makes, with the record buffer that is lent
abbrev pub call_of : Request → List ℕ → Call
call_of (Segment n) buffer = segment n buffer
call_of (Padding n) buffer = padded n buffer

-- how many cycles a call asks for
unfoldable pub amount : Call → ℕ
amount (segment n buffer) = n
amount (padded n buffer) = n

-- the record buffer of a call
unfoldable pub lent : Call → List ℕ
lent (segment n buffer) = buffer
lent (padded n buffer) = buffer

-- the cycle of a call: live until halted, then padding; or padding
unfoldable pub turn : Call → List ℕ → Cursor → Step
turn (segment n buffer) = cycle
turn (padded n buffer) = padding

-- whether a call is a segment call
unfoldable pub is_segment : Call → Bool
is_segment (segment n buffer) = true
is_segment (padded n buffer) = false

-- the lines of the table of refusals that rows meet, in every call
abbrev pub row_lines : List ℕ → List Line
row_lines rows =
    line 1 (length rows == 0)
    ∷ line 2 (nat_lt 6291456 (length rows))
    ∷ line 3 (not (is_expansion rows))
    ∷ []

-- the lines that a call of n cycles meets, with so many rows and so many words of room; only a segment call, seg, meets 5
abbrev pub call_lines : ℕ → Cursor → Bool → ℕ → ℕ → List Line
call_lines count c seg n room =
    line 4 (not (nat_lt c.micro_pc.0 count && nat_lt c.next_fetch.0 count))
    ∷ line 5 (seg && nat_lt (2 ^ 62) (c.cycles + n))
    ∷ line 6 (nat_lt room (17 * n))
    ∷ []

-- the table of refusals of a call, lowest number first
abbrev pub refusals : List ℕ → Cursor → Bool → ℕ → ℕ → List Line
refusals rows c seg n room = row_lines rows ++ call_lines (length rows) c seg n room

-- the number that a call returns: 0 is accepted
unfoldable pub refusal_of : List ℕ → Cursor → Call → ℕ
refusal_of rows c k = first_met (refusals rows c (is_segment k) (amount k) (length (lent k)))

-- what a call returns and leaves: its number, the cursor, and the record buffer
pub record Answered : Type 0 where
  pub number : ℕ
  pub cursor : Cursor
  pub buffer : List ℕ

-- of an accepted call: the words of its records stand first in the buffer; a refused one leaves all as it was
unfoldable pub settled : ℕ → List ℕ → Cursor → Call → Answered
settled zero rows c k =
    record {
      number = zero;
      cursor = end (turn k rows) (amount k) c;
      buffer = flat (recorded (turn k rows) (amount k) c) ++ drop (17 * amount k) (lent k);
    }
settled (suc number) rows c k = record { number = suc number; cursor = c; buffer = lent k }

-- what a call on these rows with this cursor returns and leaves
unfoldable pub answer_of : List ℕ → Cursor → Call → Answered
answer_of rows c k = settled (refusal_of rows c k) rows c k

-- the paper's number of a refusal
abbrev pub refusal_number : Refusal → ℕ
refusal_number NoRows = 1
refusal_number TooManyRows = 2
refusal_number NoExpansion = 3
refusal_number OutsideRows = 4
refusal_number TooManyCycles = 5
refusal_number Short = 6

-- the paper's number of an outcome: 0 for accepted
abbrev pub outcome_number : {A : Type 0} → Result A Refusal → ℕ
outcome_number (Ok accepted) = 0
outcome_number (Err why) = refusal_number why

-- ---- a list of calls, each of which gets the cursor that the one before returned

-- how many cycles a call that returned a number adds: a refused one none
unfoldable pub counted : ℕ → Call → ℕ
counted zero k = amount k
counted (suc number) k = 0

-- what a call adds to the log: the first 17 words a cycle of its buffer, as they stand on return
unfoldable pub added : Call → Answered → List ℕ
added k a = take (17 * counted a.number k) a.buffer

-- the last cursor of a list of calls from a cursor on
unfoldable pub last : List ℕ → Cursor → List Call → Cursor
last rows c [] = c
last rows c (k ∷ ks) = last rows (answer_of rows c k).cursor ks

-- the joined log
unfoldable pub log : List ℕ → Cursor → List Call → List ℕ
log rows c [] = []
log rows c (k ∷ ks) = added k (answer_of rows c k) ++ log rows (answer_of rows c k).cursor ks

-- the accepted total
unfoldable pub total : List ℕ → Cursor → List Call → ℕ
total rows c [] = 0
total rows c (k ∷ ks) = counted (answer_of rows c k).number k + total rows (answer_of rows c k).cursor ks

-- whether all calls are segment calls
unfoldable pub segments : List Call → Bool
segments [] = true
segments (k ∷ ks) = is_segment k && segments ks
