-- The last-writer index of a log, and the two calls that make it (02, T-02). `word`, `stored` and `records_in` are of interp's
-- Replay; `first_met` is of refusal_table's Table. Assumes nothing: these are definitions.
use Rattle.std.specs.Prelude.{ℕ, zero, suc, ◌+◌, ◌-◌, ◌^◌, Bool, true, not, cond, ◌&&◌, ◌||◌, Result, Ok, Err, List, [], ◌∷◌, ◌++◌, length, take, drop, replicate, ◌==◌, nat_lt, slice_set}
use Rattle.refusal_table.specs.Table.{Line, line, first_met}
use Rattle.interp.specs.Replay.{word, stored, records_in}
use Rattle.log_records.specs.Records.{count, whole_line}
use Rattle.last_writer.specs.declared.Refusal.{Refusal}
use Rattle.last_writer.specs.declared.Refusal.TheVariants.{Partial, OutOfRange, TooManyRecords, Short}

-- ---- the index

-- the places of an index: 64 registers, then 256 RAM words
abbrev pub places : ℕ
places = 320

-- the place of RAM word w
abbrev pub ram_place : ℕ → ℕ
ram_place w = 64 + w

-- what a place holds that no record wrote
abbrev pub none : ℕ
none = 2 ^ 64 - 1

-- whether a record writes a place: every record writes word 5's register; only a store writes RAM, at word 6
unfoldable pub writes : List ℕ → ℕ → Bool
writes r x = (word r 5 == x) || (stored r && (ram_place (word r 6) == x))

-- the index after a record at position i: each place that it writes holds i
unfoldable pub entered : ℕ → List ℕ → List ℕ → List ℕ
entered i r index =
    let named = slice_set index (word r 5) i in
    cond (stored r) (slice_set named (ram_place (word r 6)) i) named

-- the index after records in order, the first at position i
unfoldable pub indexed : ℕ → List (List ℕ) → List ℕ → List ℕ
indexed i [] index = index
indexed i (r ∷ rs) index = indexed (suc i) rs (entered i r index)

-- the index of no record
unfoldable pub blank : List ℕ
blank = replicate places none

-- ---- the calls

-- a record's register is below 64 and its RAM word below 256, be it a store or not
unfoldable pub inside : List ℕ → Bool
inside r = nat_lt (word r 5) 64 && nat_lt (word r 6) 256

-- every record's are
unfoldable pub in_range : List (List ℕ) → Bool
in_range [] = true
in_range (r ∷ rs) = inside r && in_range rs

-- the lines that a log of n whole records can meet, behind so many others, with so many places of room
abbrev pub record_lines : Bool → ℕ → ℕ → ℕ → List Line
record_lines all_inside n before room =
    line 8 (not all_inside)
    ∷ line 5 (nat_lt (2 ^ 62) (before + n))
    ∷ line 6 (nat_lt room places)
    ∷ []

-- the table of refusals, in the order in which they are tested
abbrev pub index_refusals : List ℕ → ℕ → ℕ → List Line
index_refusals log before room = whole_line log ∷ record_lines (in_range (records_in log)) (count log) before room

-- what a call returns and leaves: its number, 0 for accepted, and the index buffer
pub record Indexed : Type 0 where
  pub number : ℕ
  pub index : List ℕ

-- an accepted call leaves the log's records entered into an index, and what is past it; a refused one leaves all as it was
unfoldable pub index_settled : ℕ → List ℕ → ℕ → List ℕ → List ℕ → Indexed
index_settled zero log before start buffer =
    record { number = zero; index = indexed before (records_in log) start ++ drop places buffer }
index_settled (suc number) log before start buffer = record { number = suc number; index = buffer }

-- what a call that starts at an index returns and leaves
unfoldable pub answer_from : List ℕ → ℕ → List ℕ → List ℕ → Indexed
answer_from log before start buffer =
    index_settled (first_met (index_refusals log before (length buffer))) log before start buffer

-- building the index of a log: from the index of no record, with no record before
abbrev pub built_of : List ℕ → List ℕ → Indexed
built_of log buffer = answer_from log 0 blank buffer

-- adding a segment to the lent index, with so many records before
abbrev pub added_of : List ℕ → ℕ → List ℕ → Indexed
added_of log before buffer = answer_from log before (take places buffer) buffer

-- the paper's number of a refusal
abbrev pub index_refusal_number : Refusal → ℕ
index_refusal_number Partial = 7
index_refusal_number OutOfRange = 8
index_refusal_number TooManyRecords = 5
index_refusal_number Short = 6

-- the paper's number of an outcome: 0 for accepted
abbrev pub index_outcome_number : {A : Type 0} → Result A Refusal → ℕ
index_outcome_number (Ok accepted) = 0
index_outcome_number (Err why) = index_refusal_number why
