-- The dispatcher of sixteen callers: what an add and a turn answer and leave (02, T-06). `first_met` is of refusal_table's Table.
-- Assumes nothing: these are definitions.
use Rattle.std.specs.Prelude.{ℕ, ◌+◌, ◌-◌, ◌^◌, min, Bool, cond, ◌&&◌, ◌||◌, Option, Some, None, option_map, Result, Ok, Err, List, [], ◌∷◌, get_or, set, replicate, ◌==◌, nat_lt, nat_le}
use Rattle.refusal_table.specs.Table.{Line, line, first_met}
use Rattle.dispatch.specs.declared.caller.Caller.{Caller}
use Rattle.dispatch.specs.declared.Dispatcher.{Dispatcher}
use Rattle.dispatch.specs.declared.Grant.{Grant}
use Rattle.dispatch.specs.declared.Refusal.{Refusal}
use Rattle.dispatch.specs.declared.Refusal.TheVariants.{NoCaller, TooMuchWanted}
use Rattle.dispatch.specs.Circle.{one_past, first_ready}

-- ---- one caller

-- a caller who wants so many cycles
abbrev pub wanting : ℕ → Caller
wanting n = record { wanted = n }

-- whether a turn may grant it a slice, with so much budget left: it wants any, and there is any
unfoldable pub is_ready : Caller → ℕ → Bool
is_ready caller budget = nat_lt 0 caller.wanted && nat_lt 0 budget

-- its slice: the least of 4,096, the amount wanted and the budget
unfoldable pub slice_of : Caller → ℕ → ℕ
slice_of caller budget = min 4096 (min caller.wanted budget)

-- ---- the dispatcher

-- a fresh dispatcher: nobody wants any, and the circle starts at caller 0
abbrev pub fresh : ℕ → Dispatcher
fresh budget = record { callers = replicate 16 (wanting 0); position = 0; budget = budget }

-- caller i, and what it wants
abbrev pub caller_at : Dispatcher → ℕ → Caller
caller_at d i = get_or d.callers i (wanting 0)

abbrev pub wanted_of : Dispatcher → ℕ → ℕ
wanted_of d i = (caller_at d i).wanted

-- the paper's number of a refusal
abbrev pub dispatch_refusal_number : Refusal → ℕ
dispatch_refusal_number NoCaller = 11
dispatch_refusal_number TooMuchWanted = 12

-- ---- an add

-- the table of refusals of an add of n cycles for caller i, in the order in which they are tested
abbrev pub add_lines : Dispatcher → ℕ → ℕ → List Line
add_lines d i n =
    line 11 (nat_le 16 i || nat_le 16 d.position)
    ∷ line 12 (nat_lt (2 ^ 32) (wanted_of d i + n))
    ∷ []

-- the number of the answer
unfoldable pub add_number : Dispatcher → ℕ → ℕ → ℕ
add_number d i n = first_met (add_lines d i n)

-- caller i wants n more
unfoldable pub raised : Dispatcher → ℕ → ℕ → Dispatcher
raised d i n = record { callers = set d.callers i (wanting (wanted_of d i + n)); position = d.position; budget = d.budget }

-- what an add leaves: a refused one changes nothing
unfoldable pub after_add : Dispatcher → ℕ → ℕ → Dispatcher
after_add d i n = cond (add_number d i n == 0) (raised d i n) d

-- the paper's number of an add's outcome: 0 for accepted
abbrev pub add_outcome_number : {A : Type 0} → Result A Refusal → ℕ
add_outcome_number (Ok accepted) = 0
add_outcome_number (Err why) = dispatch_refusal_number why

-- ---- a turn

-- the table of refusals
abbrev pub turn_lines : Dispatcher → List Line
turn_lines d = line 11 (nat_le 16 d.position) ∷ []

-- the number of the answer
unfoldable pub turn_number : Dispatcher → ℕ
turn_number d = first_met (turn_lines d)

-- whether caller i is ready
abbrev pub ready_at : Dispatcher → ℕ → Bool
ready_at d i = is_ready (caller_at d i) d.budget

-- the next caller in circle order who is
unfoldable pub next_ready : Dispatcher → Option ℕ
next_ready d = first_ready 16 (ready_at d) d.position

-- what is granted caller i
abbrev pub grant_to : Dispatcher → ℕ → Grant
grant_to d i = record { caller = i; cycles = slice_of (caller_at d i) d.budget }

-- what a turn grants: one slice, or nothing
unfoldable pub granted : Dispatcher → Option Grant
granted d = cond (turn_number d == 0) (option_map (grant_to d) (next_ready d)) None

-- a grant lowers what the caller wants and the budget, and the circle goes on one past it
unfoldable pub served : Dispatcher → Grant → Dispatcher
served d g =
    record {
      callers = set d.callers g.caller (wanting (wanted_of d g.caller - g.cycles));
      position = one_past g.caller;
      budget = d.budget - g.cycles;
    }

-- what a turn leaves: one that grants nothing changes nothing
unfoldable pub moved : Option Grant → Dispatcher → Dispatcher
moved None d = d
moved (Some g) d = served d g

abbrev pub after_turn : Dispatcher → Dispatcher
after_turn d = moved (granted d) d

-- what a turn's outcome tells: its number, 0 for accepted, and what it grants
pub record Told : Type 0 where
  pub number : ℕ
  pub grant : Option Grant

abbrev pub turn_told_of : Result (Option Grant) Refusal → Told
turn_told_of (Ok grant) = record { number = 0; grant = grant }
turn_told_of (Err why) = record { number = dispatch_refusal_number why; grant = None }

abbrev pub turn_of : Dispatcher → Told
turn_of d = record { number = turn_number d; grant = granted d }
