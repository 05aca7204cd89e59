-- A dispatcher's image is read back as the dispatcher that it was written for, so C calls are calls on dispatchers. Assumes nothing.
use Rattle.std.proofs.Common.{◌≡◌, ℕ, ◌+◌, Bool, true, false, eqb, None, List, [], ◌∷◌, ◌++◌, map, length, get_or, take, refl, sym, ap, ap₂, ◌∙◌, arith, length-append, length-take, take_at}
use mathlib.Core.Path.{subst}
use lib.ListN.{take-append-drop, drop_of_length-le}
use lib.Seq.{get_or-append-add, drop-cons}
use Rattle.std.proofs.lemmas.List.{length-map}
use Rattle.interp.specs.Calls.{Call as CursorCall}
use Rattle.dispatch.specs.declared.caller.Caller.{Caller}
use Rattle.dispatch.specs.declared.Dispatcher.{Dispatcher}
use Rattle.dispatch.specs.Dispatch.{wanting, fresh, add_number, after_add, turn_number, granted, moved, after_turn}
use Rattle.dispatch.specs.Calls.{Call, add, turn, after, last, grants_of, grants, slices_to}
use Rattle.dispatch.specs.Driven.{Driven}
use Rattle.dispatch.proofs.Laws.{claims}
use Rattle.dispatch.proofs.Drives.{driven_claims}
use Rattle.magnetar_cpu.specs.DispatcherImage.{dispatcher_words, dispatcher_of, dispatcher_image, image_after_add, image_after_turn}
use Rattle.magnetar_cpu.specs.DispatcherClaims.{image_after_call, last_dispatcher, image_grants, DrivenImage, DispatcherLaws}
use Rattle.magnetar_cpu.proofs.Round.{image_laws}

-- ---- words and callers

wants : List Caller → List ℕ
wants cs = map (λ caller. caller.wanted) cs

callers_back : (cs : List Caller) → map wanting (wants cs) ≡ cs
unfolding wants
callers_back [] = refl
callers_back (c ∷ cs) = ap (λ l. c ∷ l) (callers_back cs)

words_back : (ws : List ℕ) → wants (map wanting ws) ≡ ws
unfolding wants
words_back [] = refl
words_back (w ∷ ws) = ap (λ l. w ∷ l) (words_back ws)

-- ---- a dispatcher through its image
module _ (d : Dispatcher) (sixteen : length d.callers ≡ 16) where
  long : length (wants d.callers) ≡ 16
  unfolding wants
  long = length-map d.callers _ ∙ sixteen

  number_at : (i : ℕ) → get_or (dispatcher_image d) (16 + i) 0 ≡ get_or (d.position ∷ d.budget ∷ []) i 0
  unfolding dispatcher_image wants
  number_at i =
      ap (λ n. get_or (wants d.callers ++ (d.position ∷ d.budget ∷ [])) (n + i) 0) (sym long)
      ∙ get_or-append-add (wants d.callers) (d.position ∷ d.budget ∷ []) i 0

  sized : length (dispatcher_image d) ≡ dispatcher_words
  unfolding dispatcher_image wants
  sized = length-append (wants d.callers) _ ∙ omega (arith, long)

  read_back : dispatcher_of (dispatcher_image d) ≡ d
  unfolding dispatcher_of dispatcher_image wants
  read_back = rw (number_at 0, number_at 1, take_at (wants d.callers) (d.position ∷ d.budget ∷ []) 16 long, callers_back) refl

-- ---- an image through its dispatcher

of_sized : (image : List ℕ) → length image ≡ dispatcher_words → length (dispatcher_of image).callers ≡ 16
unfolding dispatcher_of
of_sized image h = length-map (take 16 image) _ ∙ length-take 16 image ∙ omega arith

written_back : (image : List ℕ) → length image ≡ dispatcher_words → dispatcher_image (dispatcher_of image) ≡ image
unfolding dispatcher_of dispatcher_image wants
written_back image h =
    ap₂ ◌++◌ (words_back (take 16 image))
    (sym (drop-cons image 16 0 (omega arith) ∙ ap (λ l. get_or image 16 0 ∷ l) (drop-cons image 17 0 (omega arith)
    ∙ ap (λ l. get_or image 17 0 ∷ l) (drop_of_length-le image {i = 18} (omega arith)))))
    ∙ take-append-drop 16 image

-- ---- a call

-- the image that a call leaves is that of the dispatcher which it leaves: if it is refused, the one as it was
call_image : (image : List ℕ) (k : Call) → length image ≡ dispatcher_words → image_after_call image k ≡ dispatcher_image (after (dispatcher_of image) k)
unfolding image_after_call after after_add granted moved
call_image image (add i n) h = go (eqb (add_number (dispatcher_of image) i n) 0) refl
  where
    go : (t : Bool) → eqb (add_number (dispatcher_of image) i n) 0 ≡ t → image_after_add image i n ≡ dispatcher_image (after_add (dispatcher_of image) i n)
    go true e = rw e refl
    go false e = rw e (sym (written_back image h))
call_image image turn h = go (eqb (turn_number (dispatcher_of image)) 0) refl
  where
    go : (t : Bool) → eqb (turn_number (dispatcher_of image)) 0 ≡ t → image_after_turn image ≡ dispatcher_image (after_turn (dispatcher_of image))
    go true e = rw e refl
    go false e = rw e (sym (written_back image h))

-- it has its words and stands for that dispatcher
record Left (image : List ℕ) (d : Dispatcher) : Type 0 where
  size : length image ≡ dispatcher_words
  stands : dispatcher_of image ≡ d

left : (image : List ℕ) (k : Call) → length image ≡ dispatcher_words → Left (image_after_call image k) (after (dispatcher_of image) k)
left image k h =
    let d = after (dispatcher_of image) k in
    let sixteen : length d.callers ≡ 16 = claims.sized (dispatcher_of image) k ∙ of_sized image h in
    rw (call_image image k h) (record { size = sized d sixteen; stands = read_back d sixteen })

unmoved : (image : List ℕ) → length image ≡ dispatcher_words → granted (dispatcher_of image) ≡ None → image_after_turn image ≡ image
unfolding image_after_call after moved
unmoved image h e = call_image image turn h ∙ ap (λ o. dispatcher_image (moved o (dispatcher_of image))) e ∙ written_back image h

-- ---- a list of calls

-- from an image the calls ks go as from the dispatcher d
record Follows (image : List ℕ) (d : Dispatcher) (ks : List Call) : Type 0 where
  dispatchers : dispatcher_of (last_dispatcher image ks) ≡ last d ks
  grant_lists : image_grants image ks ≡ grants d ks

follows : (image : List ℕ) (ks : List Call) → length image ≡ dispatcher_words → Follows image (dispatcher_of image) ks
unfolding last_dispatcher image_grants last grants
follows image [] h = record { dispatchers = refl; grant_lists = refl }
follows image (k ∷ ks) h =
    let d = dispatcher_of image in
    let l = left image k h in
    let later : Follows (image_after_call image k) (after d k) ks =
    subst (λ e. Follows (image_after_call image k) e ks) l.stands (follows (image_after_call image k) ks l.size) in
    record { dispatchers = later.dispatchers; grant_lists = ap (λ gs. grants_of d k ++ gs) later.grant_lists }

started : (budget : ℕ) (ks : List Call) → Follows (dispatcher_image (fresh budget)) (fresh budget) ks
started budget ks =
    let image = dispatcher_image (fresh budget) in
    subst (λ d. Follows image d ks) (read_back (fresh budget) refl) (follows image ks (sized (fresh budget) refl))

-- ---- a cursor driven by the grants of C calls

driven : (c budget : ℕ) (ks : List Call) (rows input : List ℕ) (calls : List CursorCall)
    → Driven (slices_to c (image_grants (dispatcher_image (fresh budget)) ks)) calls → DrivenImage rows input calls
driven c budget ks rows input calls d =
    let driven_by = subst (λ gs. Driven (slices_to c gs) calls) (started budget ks).grant_lists d in
    record {
      same_log = image_laws.started_log rows input calls;
      consistent = driven_claims.consistent c budget ks rows input calls driven_by;
    }

-- ---- the whole

pub dispatcher_laws : DispatcherLaws
dispatcher_laws =
    record {
      sized = sized;
      read_back = read_back;
      written_back = written_back;
      unmoved = unmoved;
      dispatchers = λ image ks h. (follows image ks h).dispatchers;
      grant_lists = λ image ks h. (follows image ks h).grant_lists;
      started_dispatcher = λ budget ks. (started budget ks).dispatchers;
      started_grants = λ budget ks. (started budget ks).grant_lists;
      driven = driven;
    }
