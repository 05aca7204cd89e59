-- What is claimed of dispatchers' images and of lists of adds and turns through the C interface. The function `dispatcher_laws` of
-- src/dispatcher.rt has the whole for its contract. Assumes nothing: these are definitions.
use Rattle.std.specs.Prelude.{◌≡◌, ℕ, None, List, [], ◌∷◌, ◌++◌, length}
use Rattle.interp.specs.Machine.{start_of}
use Rattle.interp.specs.Calls.{Call as CursorCall, log}
use Rattle.dispatch.specs.declared.Dispatcher.{Dispatcher}
use Rattle.dispatch.specs.declared.Grant.{Grant}
use Rattle.dispatch.specs.Dispatch.{fresh, granted}
use Rattle.dispatch.specs.Calls.{Call, add, turn, last, grants_of, grants, slices_to}
use Rattle.dispatch.specs.Driven.{Driven, Consistent}
use Rattle.magnetar_cpu.specs.Image.{image_of}
use Rattle.magnetar_cpu.specs.Claims.{image_log}
use Rattle.magnetar_cpu.specs.DispatcherImage.{dispatcher_words, dispatcher_of, dispatcher_image, image_after_add, image_after_turn}

-- ---- a list of C calls, each of which gets the image that the one before left

-- the image after a call
unfoldable pub image_after_call : List ℕ → Call → List ℕ
image_after_call image (add i n) = image_after_add image i n
image_after_call image turn = image_after_turn image

-- the last image
unfoldable pub last_dispatcher : List ℕ → List Call → List ℕ
last_dispatcher image [] = image
last_dispatcher image (k ∷ ks) = last_dispatcher (image_after_call image k) ks

-- the grants
unfoldable pub image_grants : List ℕ → List Call → List Grant
image_grants image [] = []
image_grants image (k ∷ ks) = grants_of (dispatcher_of image) k ++ image_grants (image_after_call image k) ks

-- ---- what is claimed

-- C segment calls on a cursor's image, from that of `magnetar_start` on, have the log of the same calls on cursors, and demand 3
pub record DrivenImage (rows input : List ℕ) (calls : List CursorCall) : Type 0 where
  pub same_log : image_log rows (image_of (start_of input)) calls ≡ log rows (start_of input) calls
  pub consistent : Consistent rows input calls

-- the contract of `dispatcher_laws`
pub record DispatcherLaws : Type 0 where
  -- a dispatcher of sixteen callers has an image of as many words as are lent for it, and is read back from it
  pub sized : (d : Dispatcher) → length d.callers ≡ 16 → length (dispatcher_image d) ≡ dispatcher_words
  pub read_back : (d : Dispatcher) → length d.callers ≡ 16 → dispatcher_of (dispatcher_image d) ≡ d
  -- every image is that of its dispatcher, so a turn that grants nothing leaves it as it was
  pub written_back : (image : List ℕ) → length image ≡ dispatcher_words → dispatcher_image (dispatcher_of image) ≡ image
  pub unmoved : (image : List ℕ) → length image ≡ dispatcher_words → granted (dispatcher_of image) ≡ None → image_after_turn image ≡ image
  -- a list of C calls from any image has the last dispatcher and the grants of the same calls on dispatchers
  pub dispatchers : (image : List ℕ) (ks : List Call) → length image ≡ dispatcher_words
      → dispatcher_of (last_dispatcher image ks) ≡ last (dispatcher_of image) ks
  pub grant_lists : (image : List ℕ) (ks : List Call) → length image ≡ dispatcher_words → image_grants image ks ≡ grants (dispatcher_of image) ks
  -- from the image of `magnetar_dispatcher_start` on these are the dispatcher and the grants of which `dispatch` claims its laws
  pub started_dispatcher : (budget : ℕ) (ks : List Call) → dispatcher_of (last_dispatcher (dispatcher_image (fresh budget)) ks) ≡ last (fresh budget) ks
  pub started_grants : (budget : ℕ) (ks : List Call) → image_grants (dispatcher_image (fresh budget)) ks ≡ grants (fresh budget) ks
  -- segment calls whose lengths are the slices that these C calls grant caller c, whatever their buffers, rows and input
  pub driven : (c budget : ℕ) (ks : List Call) (rows input : List ℕ) (calls : List CursorCall)
      → Driven (slices_to c (image_grants (dispatcher_image (fresh budget)) ks)) calls → DrivenImage rows input calls
