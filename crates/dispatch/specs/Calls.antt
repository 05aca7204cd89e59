-- Lists of adds and turns, each of which gets the dispatcher that the one before left, and what they grant (02, T-06). Assumes
-- nothing: these are definitions.
use Rattle.std.specs.Prelude.{ℕ, ◌+◌, cond, ◌&&◌, List, [], ◌∷◌, ◌++◌, map, option_to_list, ◌==◌, sum_by}
use Rattle.std.specs.List.{filter}
use Rattle.dispatch.specs.declared.Dispatcher.{Dispatcher}
use Rattle.dispatch.specs.declared.Grant.{Grant}
use Rattle.dispatch.specs.Dispatch.{add_number, after_add, granted, after_turn}

-- a call: an add for a caller of so many cycles, or a turn
pub data Call : Type 0 where
  add : ℕ → ℕ → Call
  turn : Call

-- what a call leaves
unfoldable pub after : Dispatcher → Call → Dispatcher
after d (add i n) = after_add d i n
after d turn = after_turn d

-- what a list of calls leaves
unfoldable pub last : Dispatcher → List Call → Dispatcher
last d [] = d
last d (k ∷ ks) = last (after d k) ks

-- how many calls of a list are turns
unfoldable pub turns : List Call → ℕ
turns [] = 0
turns (add i n ∷ ks) = turns ks
turns (turn ∷ ks) = turns ks + 1

-- the grants of a call: a turn's one, if it grants any
unfoldable pub grants_of : Dispatcher → Call → List Grant
grants_of d (add i n) = []
grants_of d turn = option_to_list (granted d)

-- the grants of a list of calls, in order
unfoldable pub grants : Dispatcher → List Call → List Grant
grants d [] = []
grants d (k ∷ ks) = grants_of d k ++ grants (after d k) ks

-- the total granted
abbrev pub total_granted : List Grant → ℕ
total_granted gs = sum_by (λ g. g.cycles) gs

-- the slices of caller c, in order
abbrev pub slices_to : ℕ → List Grant → List ℕ
slices_to c gs = map (λ g. g.cycles) (filter (λ g. g.caller == c) gs)

-- the cycles that a call adds for caller c: those of an accepted add
unfoldable pub adds_of : ℕ → Dispatcher → Call → List ℕ
adds_of c d (add i n) = cond ((i == c) && (add_number d i n == 0)) (n ∷ []) []
adds_of c d turn = []

-- the accepted adds for caller c of a list of calls, in order
unfoldable pub adds_for : ℕ → Dispatcher → List Call → List ℕ
adds_for c d [] = []
adds_for c d (k ∷ ks) = adds_of c d k ++ adds_for c (after d k) ks
