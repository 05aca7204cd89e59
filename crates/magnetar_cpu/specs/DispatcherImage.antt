-- A dispatcher's image in words: what each caller wants at 0 to 15, the circle position at 16, the budget at 17. Assumes nothing:
-- these are definitions.
use Rattle.std.specs.Prelude.{ℕ, Option, None, Some, List, [], ◌∷◌, ◌++◌, map, take, get_or}
use Rattle.dispatch.specs.declared.Dispatcher.{Dispatcher}
use Rattle.dispatch.specs.declared.Grant.{Grant}
use Rattle.dispatch.specs.Dispatch.{wanting, add_number, after_add, turn_number, after_turn}
use Rattle.magnetar_cpu.specs.Words.{left_after}

-- the words of an image
abbrev pub dispatcher_words : ℕ
dispatcher_words = 18

-- the dispatcher that an image stands for
unfoldable pub dispatcher_of : List ℕ → Dispatcher
dispatcher_of image =
    record {
      callers = map wanting (take 16 image);
      position = get_or image 16 0;
      budget = get_or image 17 0;
    }

-- the image of a dispatcher
unfoldable pub dispatcher_image : Dispatcher → List ℕ
dispatcher_image d = map (λ caller. caller.wanted) d.callers ++ (d.position ∷ d.budget ∷ [])

-- an image after an add and after a turn: that of the dispatcher which the call leaves, or after a refusal the image as it was
abbrev pub image_after_add : List ℕ → ℕ → ℕ → List ℕ
image_after_add image i n =
    left_after (add_number (dispatcher_of image) i n) (dispatcher_image (after_add (dispatcher_of image) i n)) image

abbrev pub image_after_turn : List ℕ → List ℕ
image_after_turn image = left_after (turn_number (dispatcher_of image)) (dispatcher_image (after_turn (dispatcher_of image))) image

-- the words that tell what a turn grants: caller 16 and no cycles where it grants nothing
abbrev pub caller_word : Option Grant → ℕ
caller_word None = 16
caller_word (Some g) = g.caller

abbrev pub slice_word : Option Grant → ℕ
slice_word None = 0
slice_word (Some g) = g.cycles
